-- Each turn opens one scope.
use Rattle.std.proofs.Common.{List, map, refl}
use Rattle.std.specs.List.{flat_map}
use Rattle.vcd_core.specs.declared.capture.ScopeName.{ScopeName}
use Rattle.vcd_text.specs.Items.{scope}
use Rattle.vcd_text.specs.Text.{item_line}
use Rattle.vcd_text.proofs.shared.EmittedParts.{prefix_item}
use Rattle.vcd_text.proofs.writing.declarations.write_scopes.Goals as goal

pub loop-name-preserved : goal.loop-name-preserved
loop-name-preserved g c = prefix_item (λ (names : List ScopeName). flat_map item_line
    (map (λ s. scope s.kind s.words) names)) c.args.scopes.now c.loop-name.name-index c.name-item.result
    c.loop-name.invariant c.write_scope.ensures c.loop-name-test.true c.name-item.is refl
