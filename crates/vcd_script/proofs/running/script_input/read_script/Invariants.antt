-- `read_script` ends, since each turn brings some bytes closer to the limit; `script` has all that
-- came.
use Rattle.std.proofs.Common.{◌≡◌, ◌-◌, ◌≤◌, false, vec_len}
use Rattle.std.specs.Io.KnownBytes.{Consumes}
use Rattle.vcd_script.specs.declared.running.script_input.TheConstants.{SCRIPT_LIMIT}
use Rattle.vcd_script.proofs.running.script_input.read_script.Given as goal

abbrev pub invariant-loop-script : goal.invariant-loop-script
invariant-loop-script g l = (vec_len l.script ≤ SCRIPT_LIMIT) × (g.S.Source.has_failed l.source ≡ false)
    × Consumes (g.S.Source.coming l.initial.source) (g.S.Source.coming l.source) l.script.items

abbrev pub decreases-loop-script : goal.decreases-loop-script
decreases-loop-script g l = SCRIPT_LIMIT - vec_len l.script
