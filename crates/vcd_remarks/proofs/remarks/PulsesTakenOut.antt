-- A deglitch takes out just the pulses.
use Rattle.std.proofs.Common.{◌≡◌, ◌≢◌, ℕ, suc, ◌-◌, ◌<◌, ◌≤◌, ◌⊎◌, false, if◌then◌else◌}
use Rattle.std.proofs.Common.{List, [], ◌∷◌, All, ap, sym, ◌∙◌, arith, inl, inr}
use Rattle.std.specs.Prelude.{None}
use Rattle.std.proofs.lemmas.Bool.{cases_Bool, cases_lt, and_parts, and_from, both_ways, ltb-true, lt-ltb}
use Rattle.std.proofs.lemmas.List.Elements.{All-nil, All-cons}
use Rattle.vcd_core.specs.declared.bit.Bit.{Bit}
use Rattle.vcd_core.specs.Contents.{Contents, signal_at}
use Rattle.vcd_core.specs.Sound.{IsSound}
use Rattle.vcd_edit.specs.declared.edit.Edit.TheVariants.{Deglitch}
use Rattle.vcd_edit.specs.Effect.{effect}
use Rattle.vcd_edit.specs.EditFaults.{edit_fault}
use Rattle.vcd_edit.specs.EffectLaws.{value_of}
use Rattle.vcd_edit.specs.Laws.{DeglitchKeepsLongRuns, DeglitchFillsShortRuns}
use Rattle.vcd_remarks.specs.ValueRuns.{ValueRun, is_pulse, ticks_of_run, value_runs}
use Rattle.vcd_remarks.specs.RemarkLaws.{AreRunsFrom, IsTakenOutIfPulse, PulsesAreTakenOut}
use Rattle.vcd_remarks.proofs.remarks.AllRuns.{value_runs_are_all}

-- runs begin no later than after the end
pub up_to_end : (f : ℕ → List Bit) (from end : ℕ) (rs : List ValueRun) → AreRunsFrom f from end rs → from ≤ suc end
up_to_end f from end [] done = omega (arith, done)
up_to_end f from end (r ∷ rs) (at, ordered, same, other, rest) = omega (arith, up_to_end f (suc r.last) end rs rest)

module _ (keeps_long : DeglitchKeepsLongRuns) (fills_short : DeglitchFillsShortRuns) (c : Contents) (k ticks : ℕ)
    (sound : IsSound c) (fine : edit_fault (Deglitch k ticks) c ≡ None) where
  -- a run that is no pulse
  stays : (r : ValueRun) → r.last ≤ c.end → ((t : ℕ) → r.first ≤ t → t ≤ r.last → value_of c k t ≡ r.value)
      → (r.first ≡ 0) ⊎ (r.last ≡ c.end) ⊎ (ticks ≤ ticks_of_run r) → (t : ℕ) → r.first ≤ t → t ≤ r.last
      → value_of (effect (Deglitch k ticks) c) k t ≡ r.value
  stays r within same long t from to =
      keeps_long k ticks c sound fine r.first r.last t within
      (λ s late early. same s late early ∙ sym (same r.first (omega arith) (omega arith))) long from to
      ∙ same t from to

  -- why it is none
  none_because : (r : ValueRun) → r.last ≤ c.end → is_pulse ticks c.end r ≡ false
      → (r.first ≡ 0) ⊎ (r.last ≡ c.end) ⊎ (ticks ≤ ticks_of_run r)
  none_because r within none = elim (cases_lt 0 r.first) [
    | inr zero_first ↦ inl (omega arith)
    | inl later ↦ elim (cases_lt r.last c.end) [
      | inr last ↦ inr (inl (omega arith))
      | inl before ↦ elim (cases_lt (ticks_of_run r) ticks) [
        | inr long ↦ inr (inr long)
        | inl short ↦ absurd (both_ways (is_pulse ticks c.end r) none
            (and_from _ _ (and_from _ _ (lt-ltb 0 r.first later) (lt-ltb r.last c.end before))
            (lt-ltb (ticks_of_run r) ticks short)))
      ]
    ]
  ]

  -- the runs from a tick on, before which the line has another value
  taken_out : (from : ℕ) (rs : List ValueRun) → AreRunsFrom (value_of c k) from c.end rs
      → (0 < from → from ≤ c.end → value_of c k (from - 1) ≢ value_of c k from) → All (IsTakenOutIfPulse c k ticks) rs
  taken_out from [] runs other = All-nil (IsTakenOutIfPulse c k ticks)
  taken_out from (r ∷ rs) (at, ordered, same, changes, rest) other =
      let within : r.last ≤ c.end = omega (arith, up_to_end (value_of c k) (suc r.last) c.end rs rest) in
      let first : value_of c k r.first ≡ r.value = same r.first (omega arith) ordered in
      let last : value_of c k r.last ≡ r.value = same r.last ordered (omega arith) in
      let here : suc r.last - 1 ≡ r.last = omega arith in
      All-cons (IsTakenOutIfPulse c k ticks) r rs
      (λ t late early. elim (cases_Bool (is_pulse ticks c.end r)) [
        | inl pulse ↦
            let parts = and_parts _ _ pulse in
            let ends = and_parts _ _ parts.0 in
            let later : 0 < r.first = ltb-true 0 r.first ends.0 in
            let before : r.last < c.end = ltb-true r.last c.end ends.1 in
            fills_short k ticks c sound fine r.first r.last t later before (
              ordered,
              (λ s a b. same s a b ∙ sym first),
              (λ is. other (omega arith) (omega arith) (ap (λ s. value_of c k (s - 1)) (sym at) ∙ is
                  ∙ ap (value_of c k) at)),
              (λ is. changes before (is ∙ last)),
            )
            (ltb-true (ticks_of_run r) ticks parts.1) late early
            ∙ ap (λ b. if b then value_of (effect (Deglitch k ticks) c) k (r.first - 1) else r.value) (sym pulse)
        | inr none ↦
            stays r within same (none_because r within none) t late early
            ∙ ap (λ b. if b then value_of (effect (Deglitch k ticks) c) k (r.first - 1) else r.value) (sym none)
      ])
      (taken_out (suc r.last) rs rest (λ _ inside is. changes (omega arith) (sym is ∙ ap (value_of c k) here ∙ last)))

-- all runs of a signal
pub pulses_are_taken_out : DeglitchKeepsLongRuns → DeglitchFillsShortRuns → PulsesAreTakenOut
pulses_are_taken_out keeps_long fills_short c k ticks sound within fine =
    taken_out keeps_long fills_short c k ticks sound fine 0 (value_runs c.end (signal_at c k))
    (value_runs_are_all c k sound within) (λ more. absurd (omega arith))
