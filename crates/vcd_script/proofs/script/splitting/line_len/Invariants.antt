use Rattle.std.proofs.Common.{◌≡◌, ◌==◌, true, not, take}
use Rattle.std.specs.List.{list_all}
use Rattle.vcd_script.proofs.script.splitting.line_len.Given as goal

abbrev pub invariant-loop-i : goal.invariant-loop-i
invariant-loop-i l = list_all (λ b. not (b == 10)) (take l.i l.script) ≡ true
