-- The scopes passed are shared.
use Rattle.std.proofs.Common.{◌≡◌, ◌+◌, drop}
use Rattle.std.specs.List.{common_prefix_len}
use Rattle.vcd_text.specs.Text.{same_scope}
use Rattle.vcd_text.proofs.writing.declarations.shared_len.Given as goal

abbrev pub invariant-loop-k : goal.invariant-loop-k
invariant-loop-k l = l.k + common_prefix_len same_scope (drop l.k l.opened) (drop l.k l.path)
    ≡ common_prefix_len same_scope l.opened l.path
