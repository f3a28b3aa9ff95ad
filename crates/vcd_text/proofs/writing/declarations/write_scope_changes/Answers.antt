-- The scopes that are not shared are closed, and the others opened.
use Rattle.std.proofs.Common.{arith}
use Rattle.std.proofs.lemmas.Grind.{flat_map-append}
use Rattle.std.proofs.lemmas.List.{length-drop, take_all}
use Rattle.vcd_text.proofs.shared.EmittedParts.{writes_as, writes_both}
use Rattle.vcd_text.proofs.writing.declarations.write_scope_changes.Goals as goal

pub returns : goal.returns
returns g c = writes_as (grind (arith, take_all, length-drop, flat_map-append))
    (writes_both c.write_upscopes.ensures c.write_scopes.ensures)
