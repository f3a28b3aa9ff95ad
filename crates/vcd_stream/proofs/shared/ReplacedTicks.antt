-- A wave with some of its ticks replaced.
use Rattle.std.proofs.Common.{◌≡◌, ℕ, ◌+◌, ◌-◌, ◌≤◌, ◌<◌, List, [], ◌∷◌, map, length, refl, sym, ap, ◌∙◌, arith}
use Rattle.std.proofs.Common.{inl, inr}
use Rattle.std.proofs.lemmas.Bool.{cases_lt}
use Rattle.std.proofs.lemmas.List.{length-replicate}
use Rattle.vcd_core.specs.declared.bit.Bit.{Bit}
use Rattle.vcd_core.specs.declared.bit.Bit.TheVariants.{X}
use Rattle.vcd_core.specs.declared.wave.Change.{Change}
use Rattle.vcd_core.specs.Value.{all_x}
use Rattle.vcd_core.specs.Wave.{change, value_from, changes_of, IsWave, AllUpTo}
use Rattle.vcd_core.specs.Contents.{SignalContents, signal_value}
use Rattle.vcd_core.proofs.shared.Waves.{value_past, value_skip}
use Rattle.vcd_edit.specs.inside.plans.RemainingChanges.{TicksRise, without_repeats}
use Rattle.vcd_edit.proofs.shared.WithoutRepeats.{rise_lower, early_value, without_repeats_is, wave_rises}
use Rattle.vcd_stream.specs.declared.stage.ReplacedTicks.{ReplacedTicks}
use Rattle.vcd_stream.specs.Stages.{earlier_change, shown_changes, begun, replaced_changes}
use Rattle.vcd_stream.proofs.shared.TakenChanges.{hidden, shown, shown_last, hidden_to_end, begun_some, begun_none}
use Rattle.vcd_stream.proofs.shared.TakenChanges.{replaced_to_come, replaced_begins}

-- ---- earlier changes

earlier_rise : (width by floor : ℕ) (cs : List Change) → by ≤ floor → TicksRise width floor cs
    → TicksRise width (floor - by) (map (earlier_change by) cs)
earlier_rise width by floor [] le rise = tt
earlier_rise width by floor (c ∷ cs) le (from, wide, rest) = (
  omega arith,
  wide,
  rise_lower width (c.tick - by + 1) (c.tick + 1 - by) _ (omega arith)
      (earlier_rise width by (c.tick + 1) cs (omega arith) rest),
)

earlier_upto : (by end : ℕ) (cs : List Change) → AllUpTo (end + by) cs → AllUpTo end (map (earlier_change by) cs)
earlier_upto by end [] upto = tt
earlier_upto by end (c ∷ cs) (here, rest) = (omega arith, earlier_upto by end cs rest)

earlier_value : (by : ℕ) (before : List Bit) (cs : List Change) (t : ℕ)
    → value_from before (map (earlier_change by) cs) t ≡ value_from before cs (t + by)
unfolding value_from
earlier_value by before [] t = refl
earlier_value by before (c ∷ cs) t =
    elim (cases_lt (t + by) c.tick) [
      | inl skips ↦
          value_skip before (earlier_change by c) (map (earlier_change by) cs) t (omega arith)
          ∙ earlier_value by before cs t ∙ sym (value_skip before c cs (t + by) skips)
      | inr past ↦
          value_past before (earlier_change by c) (map (earlier_change by) cs) t (omega arith)
          ∙ earlier_value by c.value cs t ∙ sym (value_past before c cs (t + by) past)
    ]

module _ (width : ℕ) (r : ReplacedTicks) where
  -- ---- from the replaced ticks on

  shown_rise : (floor other : ℕ) (now : List Bit) (cs : List Change) → floor ≤ r.until → length now ≡ width
      → TicksRise width other cs → TicksRise width floor (shown_changes r now cs)
  shown_rise floor other now [] le long rise =
      elim (cases_lt r.end r.until) [
        | inl far ↦ rw (hidden_to_end r now far) tt
        | inr near ↦ rw (shown_last r now near) (le, long, tt)
      ]
  shown_rise floor other now (c ∷ cs) le long (from, wide, rest) =
      elim (cases_lt r.until (c.tick - r.by)) [
        | inl late ↦ rw (shown r now c cs late) (
          le,
          long,
          rise_lower width (r.until + 1) (c.tick - r.by) (map (earlier_change r.by) (c ∷ cs)) (omega arith)
              (earlier_rise width r.by c.tick (c ∷ cs) (omega arith) (omega arith, wide, rest)),
        )
        | inr early ↦ rw (hidden r now c cs early) (shown_rise floor (c.tick + 1) c.value cs le wide rest)
      ]

  shown_upto : (now : List Bit) (cs : List Change) → AllUpTo (r.end + r.by) cs → AllUpTo r.end (shown_changes r now cs)
  shown_upto now [] upto =
      elim (cases_lt r.end r.until) [
        | inl far ↦ rw (hidden_to_end r now far) tt
        | inr near ↦ rw (shown_last r now near) (near, tt)
      ]
  shown_upto now (c ∷ cs) (here, rest) =
      elim (cases_lt r.until (c.tick - r.by)) [
        | inl late ↦ rw (shown r now c cs late) (omega arith, earlier_upto r.by r.end (c ∷ cs) (here, rest))
        | inr early ↦ rw (hidden r now c cs early) (shown_upto c.value cs rest)
      ]

  shown_late : (before now : List Bit) (cs : List Change) (t : ℕ) → r.until ≤ t → t ≤ r.end
      → value_from before (shown_changes r now cs) t ≡ value_from now cs (t + r.by)
  unfolding value_from
  shown_late before now [] t past within =
      ap (λ l. value_from before l t) (shown_last r now (omega arith))
      ∙ value_past before (change r.until now) [] t past
  shown_late before now (c ∷ cs) t past within =
      elim (cases_lt r.until (c.tick - r.by)) [
        | inl late ↦
            ap (λ l. value_from before l t) (shown r now c cs late)
            ∙ value_past before (change r.until now) (map (earlier_change r.by) (c ∷ cs)) t past
            ∙ earlier_value r.by now (c ∷ cs) t
        | inr early ↦
            ap (λ l. value_from before l t) (hidden r now c cs early) ∙ shown_late before c.value cs t past within
            ∙ sym (value_past now c cs (t + r.by) (omega arith))
      ]

  module _ (value : List Bit) (ordered : r.from ≤ r.until) (begins : r.from ≤ r.end) (wide : length value ≡ width) where
    begun_rise : (floor other : ℕ) (now : List Bit) (cs : List Change) → floor ≤ r.from → length now ≡ width
        → TicksRise width other cs → TicksRise width floor (begun r value (shown_changes r now cs))
    begun_rise floor other now cs le long rise =
        elim (cases_lt r.from r.until) [
          | inl some ↦ rw (begun_some r value (shown_changes r now cs) some)
              (le, wide, shown_rise (r.from + 1) other now cs (omega arith) long rise)
          | inr none ↦ rw (begun_none r value (shown_changes r now cs) none)
              (shown_rise floor other now cs (omega arith) long rise)
        ]

    begun_upto : (now : List Bit) (cs : List Change) → AllUpTo (r.end + r.by) cs
        → AllUpTo r.end (begun r value (shown_changes r now cs))
    begun_upto now cs upto =
        elim (cases_lt r.from r.until) [
          | inl some ↦ rw (begun_some r value (shown_changes r now cs) some) (begins, shown_upto now cs upto)
          | inr none ↦ rw (begun_none r value (shown_changes r now cs) none) (shown_upto now cs upto)
        ]

    begun_within : (other : ℕ) (before now : List Bit) (cs : List Change) (t : ℕ) → length now ≡ width
        → TicksRise width other cs → r.from ≤ t → t < r.until
        → value_from before (begun r value (shown_changes r now cs)) t ≡ value
    begun_within other before now cs t long rise from early =
        ap (λ l. value_from before l t) (begun_some r value (shown_changes r now cs) (omega arith))
        ∙ value_past before (change r.from value) (shown_changes r now cs) t from
        ∙ early_value width value (shown_changes r now cs) r.until t
        (shown_rise r.until other now cs (omega arith) long rise) early

    begun_late : (before now : List Bit) (cs : List Change) (t : ℕ) → r.until ≤ t → t ≤ r.end
        → value_from before (begun r value (shown_changes r now cs)) t ≡ value_from now cs (t + r.by)
    begun_late before now cs t past within =
        elim (cases_lt r.from r.until) [
          | inl some ↦
              ap (λ l. value_from before l t) (begun_some r value (shown_changes r now cs) some)
              ∙ value_past before (change r.from value) (shown_changes r now cs) t (omega arith)
              ∙ shown_late value now cs t past within
          | inr none ↦
              ap (λ l. value_from before l t) (begun_none r value (shown_changes r now cs) none)
              ∙ shown_late before now cs t past within
        ]

    -- ---- before them too

    replaced_rise : (floor : ℕ) (now : List Bit) (cs : List Change) → floor ≤ r.from → length now ≡ width
        → TicksRise width floor cs → TicksRise width floor (replaced_changes r value now cs)
    unfolding replaced_changes
    replaced_rise floor now [] le long rise = begun_rise floor floor now [] le long tt
    replaced_rise floor now (c ∷ cs) le long (at, alike, rest) =
        elim (cases_lt c.tick r.from) [
          | inl early ↦ rw (replaced_to_come r value now c cs early)
              (at, alike, replaced_rise (c.tick + 1) c.value cs (omega arith) alike rest)
          | inr late ↦ rw (replaced_begins r value now c cs late)
              (begun_rise floor floor now (c ∷ cs) le long (at, alike, rest))
        ]

    replaced_upto : (now : List Bit) (cs : List Change) → AllUpTo (r.end + r.by) cs
        → AllUpTo r.end (replaced_changes r value now cs)
    unfolding replaced_changes
    replaced_upto now [] upto = begun_upto now [] tt
    replaced_upto now (c ∷ cs) (here, rest) =
        elim (cases_lt c.tick r.from) [
          | inl early ↦ rw (replaced_to_come r value now c cs early) (omega arith, replaced_upto c.value cs rest)
          | inr late ↦ rw (replaced_begins r value now c cs late) (begun_upto now (c ∷ cs) (here, rest))
        ]

    replaced_early : (floor : ℕ) (now : List Bit) (cs : List Change) (t : ℕ) → length now ≡ width
        → TicksRise width floor cs → t < r.from
        → value_from now (replaced_changes r value now cs) t ≡ value_from now cs t
    unfolding replaced_changes value_from
    replaced_early floor now [] t long rise early =
        early_value width now (begun r value (shown_changes r now [])) r.from t
        (begun_rise r.from 0 now [] (omega arith) long tt) early
    replaced_early floor now (c ∷ cs) t long (at, alike, rest) early =
        elim (cases_lt c.tick r.from) [
          | inl comes ↦
              ap (λ l. value_from now l t) (replaced_to_come r value now c cs comes)
              ∙ elim (cases_lt t c.tick) [
                | inl skips ↦
                    value_skip now c (replaced_changes r value c.value cs) t skips
                    ∙ early_value width now (replaced_changes r value c.value cs) (c.tick + 1) t
                    (replaced_rise (c.tick + 1) c.value cs (omega arith) alike rest) (omega arith)
                    ∙ sym (early_value width now (c ∷ cs) c.tick t (omega arith, alike, rest) skips)
                | inr past ↦
                    value_past now c (replaced_changes r value c.value cs) t past
                    ∙ replaced_early (c.tick + 1) c.value cs t alike rest early ∙ sym (value_past now c cs t past)
              ]
          | inr begun_there ↦
              ap (λ l. value_from now l t) (replaced_begins r value now c cs begun_there)
              ∙ early_value width now (begun r value (shown_changes r now (c ∷ cs))) r.from t
              (begun_rise r.from floor now (c ∷ cs) (omega arith) long (at, alike, rest)) early
              ∙ sym (early_value width now (c ∷ cs) c.tick t (omega arith, alike, rest) (omega arith))
        ]

    replaced_within : (floor : ℕ) (before now : List Bit) (cs : List Change) (t : ℕ) → length now ≡ width
        → TicksRise width floor cs → r.from ≤ t → t < r.until
        → value_from before (replaced_changes r value now cs) t ≡ value
    unfolding replaced_changes
    replaced_within floor before now [] t long rise from early = begun_within 0 before now [] t long tt from early
    replaced_within floor before now (c ∷ cs) t long (at, alike, rest) from early =
        elim (cases_lt c.tick r.from) [
          | inl comes ↦
              ap (λ l. value_from before l t) (replaced_to_come r value now c cs comes)
              ∙ value_past before c (replaced_changes r value c.value cs) t (omega arith)
              ∙ replaced_within (c.tick + 1) c.value c.value cs t alike rest from early
          | inr late ↦
              ap (λ l. value_from before l t) (replaced_begins r value now c cs late)
              ∙ begun_within floor before now (c ∷ cs) t long (at, alike, rest) from early
        ]

    replaced_late : (before now : List Bit) (cs : List Change) (t : ℕ) → r.until ≤ t → t ≤ r.end
        → value_from before (replaced_changes r value now cs) t ≡ value_from now cs (t + r.by)
    unfolding replaced_changes
    replaced_late before now [] t past within = begun_late before now [] t past within
    replaced_late before now (c ∷ cs) t past within =
        elim (cases_lt c.tick r.from) [
          | inl comes ↦
              ap (λ l. value_from before l t) (replaced_to_come r value now c cs comes)
              ∙ value_past before c (replaced_changes r value c.value cs) t (omega arith)
              ∙ replaced_late c.value c.value cs t past within
              ∙ sym (value_past now c cs (t + r.by) (omega arith))
          | inr late ↦
              ap (λ l. value_from before l t) (replaced_begins r value now c cs late)
              ∙ begun_late before now (c ∷ cs) t past within
        ]

-- the changes of a wave whose replaced ticks have the values of a function
pub replaced_is : (r : ReplacedTicks) (value : List Bit) (s : SignalContents) (f : ℕ → List Bit)
    → IsWave s.width s.changes → AllUpTo (r.end + r.by) s.changes → r.from ≤ r.until → r.from ≤ r.end
    → length value ≡ s.width → ((t : ℕ) → t < r.from → signal_value s t ≡ f t)
    → ((t : ℕ) → r.from ≤ t → t < r.until → value ≡ f t)
    → ((t : ℕ) → r.until ≤ t → t ≤ r.end → signal_value s (t + r.by) ≡ f t)
    → without_repeats (all_x s.width) (replaced_changes r value (all_x s.width) s.changes)
    ≡ changes_of s.width r.end f
replaced_is r value s f is upto ordered begins wide early within late =
    let x = all_x s.width in
    let long = length-replicate s.width X in
    let rise = wave_rises s.width 0 x s.changes long is.rise in
    without_repeats_is s.width r.end (replaced_changes r value x s.changes) f
    (replaced_rise s.width r value ordered begins wide 0 x s.changes (omega arith) long rise)
    (replaced_upto s.width r value ordered begins wide x s.changes upto)
    (λ t to. elim (cases_lt t r.from) [
      | inl before ↦
          replaced_early s.width r value ordered begins wide 0 x s.changes t long rise before ∙ early t before
      | inr begun_there ↦
          elim (cases_lt t r.until) [
            | inl there ↦
                replaced_within s.width r value ordered begins wide 0 x x s.changes t long rise begun_there there
                ∙ within t begun_there there
            | inr past ↦
                replaced_late s.width r value ordered begins wide x x s.changes t past to ∙ late t past to
          ]
    ])
