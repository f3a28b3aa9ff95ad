-- The runs that changes begin are all runs of one value.
use Rattle.std.proofs.Common.{◌≡◌, ℕ, suc, ◌+◌, ◌-◌, ◌≤◌, ◌==◌, if◌then◌else◌}
use Rattle.std.proofs.Common.{List, [], ◌∷◌, refl, ap, sym, subst, ◌∙◌, arith, inl, inr}
use Rattle.std.proofs.lemmas.Bool.{cases_Bool, eqb-true, both_ways, eq-eqb}
use Rattle.vcd_core.specs.declared.bit.Bit.{Bit}
use Rattle.vcd_core.specs.declared.wave.Change.{Change}
use Rattle.vcd_core.specs.Value.{all_x}
use Rattle.vcd_core.specs.Wave.{change, value_from, AreChangesFrom, AllUpTo}
use Rattle.vcd_core.specs.Contents.{no_signal}
use Rattle.vcd_core.proofs.shared.Waves.{value_past, value_early}
use Rattle.vcd_remarks.specs.ValueRuns.{runs_begun, changes_from_zero}
use Rattle.vcd_remarks.specs.RemarkLaws.{AreRunsFrom, ValueRunsAreAll}

-- those that a change and the changes after it begin
runs_follow : (end : ℕ) (c : Change) (cs : List Change) (f : ℕ → List Bit) → AreChangesFrom (c.tick + 1) c.value cs
    → c.tick ≤ end → AllUpTo end cs → ((t : ℕ) → c.tick ≤ t → f t ≡ value_from c.value cs t)
    → AreRunsFrom f c.tick end (runs_begun end (c ∷ cs))
unfolding runs_begun value_from
runs_follow end c [] f rise within upto same =
    (refl, within, (λ t from to. same t from), (λ less. absurd (omega arith)), refl)
runs_follow end c (d ∷ ds) f (later, other, wide, rise) within (upto, others) same =
    let after : suc (d.tick - 1) ≡ d.tick = omega arith in
    let past : (t : ℕ) → d.tick ≤ t → f t ≡ value_from d.value ds t =
    λ t from. same t (omega arith) ∙ value_past c.value d ds t from in (
      refl,
      omega arith,
      (λ t from to. same t from
          ∙ value_early c.value c.value (d ∷ ds) (t + 1) t (omega arith, other, wide, rise) (omega arith)),
      (λ less is. other (sym (ap f after ∙ past d.tick (omega arith)
          ∙ value_early d.value d.value ds (d.tick + 1) d.tick rise (omega arith)) ∙ is)),
      subst (λ from. AreRunsFrom f from end (runs_begun end (d ∷ ds))) (sym after)
          (runs_follow end d ds f rise upto others past),
    )

-- from tick 0 on
runs_from_zero : (end : ℕ) (width : ℕ) (cs : List Change) → AreChangesFrom 0 (all_x width) cs → AllUpTo end cs
    → AreRunsFrom (value_from (all_x width) cs) 0 end (runs_begun end (changes_from_zero width cs))
runs_from_zero end width [] rise upto =
    runs_follow end (change 0 (all_x width)) [] (value_from (all_x width) []) tt (omega arith) tt (λ t from. refl)
runs_from_zero end width (c ∷ cs) (from, other, wide, rise) (within, upto) =
    elim (cases_Bool (c.tick == 0)) [
      | inl at ↦
          let zero_tick : c.tick ≡ 0 = eqb-true c.tick 0 at in
          subst (λ b. AreRunsFrom (value_from (all_x width) (c ∷ cs)) 0 end
          (runs_begun end (if b then c ∷ cs else change 0 (all_x width) ∷ c ∷ cs))) (sym at)
          (subst (λ t. AreRunsFrom (value_from (all_x width) (c ∷ cs)) t end (runs_begun end (c ∷ cs))) zero_tick
          (runs_follow end c cs (value_from (all_x width) (c ∷ cs)) rise within upto
          (λ t late. value_past (all_x width) c cs t late)))
      | inr apart ↦
          let more : 1 ≤ c.tick = omega (arith, λ (is : c.tick ≡ 0). both_ways _ apart (eq-eqb c.tick 0 is)) in
          subst (λ b. AreRunsFrom (value_from (all_x width) (c ∷ cs)) 0 end
          (runs_begun end (if b then c ∷ cs else change 0 (all_x width) ∷ c ∷ cs))) (sym apart)
          (runs_follow end (change 0 (all_x width)) (c ∷ cs) (value_from (all_x width) (c ∷ cs))
          (more, other, wide, rise) (omega arith) (within, upto) (λ t late. refl))
    ]

-- of a signal of a sound capture
pub value_runs_are_all : ValueRunsAreAll
value_runs_are_all c k sound within =
    let signal = sound.signals k no_signal within in
    runs_from_zero c.end _ _ signal.wave.rise signal.ticks
