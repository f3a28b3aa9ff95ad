use Rattle.std.proofs.Common.{◌≡◌, ◌||◌, ℕ, List, take}
use Rattle.std.specs.Prelude.{bytes_eq}
use Rattle.std.specs.List.{list_any}
use Rattle.vcd_text.specs.inside.reading.CodeTargets.{code_target}
use Rattle.vcd_amend.proofs.amending.code_uses.use_added.Given as goal

abbrev pub invariant-loop-variable : goal.invariant-loop-variable
invariant-loop-variable l = record {
  used : (key : List ℕ) → (code_target l.uses key).is_used
      ≡ ((code_target l.initial.uses key).is_used || list_any (λ v. bytes_eq key v.code)
      (take l.variable-index l.added));
  amended : (key : List ℕ) → (code_target l.uses key).amended ≡ (code_target l.initial.uses key).amended;
}
