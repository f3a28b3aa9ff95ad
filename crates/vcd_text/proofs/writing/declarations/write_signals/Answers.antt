-- Each turn changes the scopes and declares one signal.
use Rattle.std.proofs.Common.{refl, arith}
use Rattle.vcd_text.proofs.shared.ScopePaths.{one_declared, all_declared}
use Rattle.vcd_text.proofs.shared.EmittedParts.{prefix_begun, prefix_grows, prefix_whole, writes_both}
use Rattle.vcd_text.proofs.writing.declarations.write_signals.Goals as goal

pub loop-position-init : goal.loop-position-init
loop-position-init g c = prefix_begun refl

pub loop-position-preserved : goal.loop-position-preserved
loop-position-preserved g c =
    prefix_grows _ c.loop-position.invariant (writes_both c.write_scope_changes.ensures c.write_variable.ensures)
    (one_declared c.loop-position.opened.now c.as_slice-path.result.now c.loop-position.position c.args.signals.now
    c.index-signals-position.result
    (omega arith) c.index-signals-position.is c.as_slice-path.ensures)

pub returns : goal.returns
returns g c = prefix_whole (prefix_grows _ c.loop-position.invariant c.write_upscopes.ensures
    (all_declared c.loop-position.opened.now c.loop-position.position c.args.signals.now (omega arith))) refl
