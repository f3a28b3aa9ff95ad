-- What stages make of a wave: the changes of the edited wave.
use Rattle.std.proofs.Common.{◌≡◌, ℕ, zero, suc, ◌+◌, ◌-◌, ◌≤◌, ◌<◌, nat_le, nat_lt, ◌&&◌, if◌then◌else◌, pos, negsuc}
use Rattle.std.proofs.Common.{◌-ℤ◌, List, [], ◌∷◌, map, length, refl, sym, ap, subst, ◌∙◌, arith, inl, inr}
use Rattle.std.specs.Prelude.{neg_ℤ}
use Rattle.std.proofs.lemmas.Bool.{cases_lt, le-leb, lt-leb, lt-ltb, le-ltb}
use Rattle.std.proofs.lemmas.Int.{ints}
use Rattle.std.proofs.lemmas.List.{length-replicate, length-map}
use Rattle.vcd_core.specs.declared.bit.Bit.{Bit}
use Rattle.vcd_core.specs.declared.bit.Bit.TheVariants.{X}
use Rattle.vcd_core.specs.declared.wave.Change.{Change}
use Rattle.vcd_core.specs.Value.{all_x}
use Rattle.vcd_core.specs.inside.value.EqualByLetters.{same_letters-Decides}
use Rattle.vcd_core.specs.Wave.{change, value_from, value_at, changes_of, unless_same, IsWave, AllUpTo}
use Rattle.vcd_core.specs.Contents.{SignalContents, signal_value}
use Rattle.vcd_core.proofs.shared.Waves.{value_past, value_skip, value_last}
use Rattle.vcd_edit.specs.Operators.{not_bit}
use Rattle.vcd_edit.specs.Effect.{inverse_value, value_at_any_tick, shift_value, force_value, cut_value}
use Rattle.vcd_edit.specs.inside.plans.RemainingChanges.{TicksRise, without_repeats, mapped_change, steady_changes}
use Rattle.vcd_edit.proofs.shared.Runs.{steady_are}
use Rattle.vcd_edit.proofs.shared.WithoutRepeats.{rise_lower, without_repeats_is, wave_rises, mapped_rise}
use Rattle.vcd_edit.proofs.shared.WithoutRepeats.{mapped_upto, mapped_value}
use Rattle.vcd_stream.specs.declared.wave_edit.WaveEdit.{WaveEdit}
use Rattle.vcd_stream.specs.declared.wave_edit.WaveEdit.TheVariants.{Invert, Deglitch, Shift, Force, Cut}
use Rattle.vcd_stream.specs.Stages.{later_changes, replaced_changes, last_at_ticks}
use Rattle.vcd_stream.specs.WaveEdits.{edited_value, end_after, IsAllowed}
use Rattle.vcd_stream.specs.Pipelines.{TicksStay}
use Rattle.vcd_stream.specs.inside.WaveEdits.{made_by, forced_ticks, cut_ticks}
use Rattle.vcd_stream.proofs.shared.TakenChanges.{later_near, later_far, last_over, last_within}
use Rattle.vcd_stream.proofs.shared.ReplacedTicks.{replaced_is}

-- a first change to the value before the wave gives nothing
x_first : (x : List Bit) (t : ℕ) (cs : List Change) → without_repeats x (change t x ∷ cs) ≡ without_repeats x cs
unfolding without_repeats
x_first x t cs = ap (λ b. unless_same b (change t x) (without_repeats x cs)) ((same_letters-Decides x x).1 refl)

-- ---- each bit negated

inverse_of_x : (width : ℕ) → map not_bit (all_x width) ≡ all_x width
inverse_of_x zero = refl
inverse_of_x (suc width) = ap (λ (v : List Bit). X ∷ v) (inverse_of_x width)

inverse_is : (end : ℕ) (s : SignalContents) → IsWave s.width s.changes → AllUpTo end s.changes
    → without_repeats (all_x s.width) (map (mapped_change (map not_bit)) s.changes)
    ≡ changes_of s.width end (inverse_value s)
inverse_is end s is upto =
    without_repeats_is s.width end (map (mapped_change (map not_bit)) s.changes) (inverse_value s)
    (mapped_rise s.width 0 (map not_bit) s.changes (λ v. length-map v not_bit)
    (wave_rises s.width 0 (all_x s.width) s.changes (length-replicate s.width X) is.rise))
    (mapped_upto end (map not_bit) s.changes upto)
    (λ t to. ap (λ v. value_from v (map (mapped_change (map not_bit)) s.changes) t) (sym (inverse_of_x s.width))
    ∙ mapped_value (map not_bit) (all_x s.width) s.changes t)

-- ---- shifted later

later_rise : (width by end floor : ℕ) (cs : List Change) → TicksRise width floor cs
    → TicksRise width (floor + by) (later_changes by end cs)
unfolding later_changes
later_rise width by end floor [] rise = tt
later_rise width by end floor (c ∷ cs) (from, wide, rest) =
    let tail : TicksRise width (c.tick + by + 1) (later_changes by end cs) =
    rise_lower width (c.tick + by + 1) (c.tick + 1 + by) _ (omega arith)
    (later_rise width by end (c.tick + 1) cs rest) in
    elim (cases_lt end (c.tick + by)) [
      | inl far ↦ rw (later_far by end c cs far) (rise_lower width (floor + by) (c.tick + by + 1) _ (omega arith) tail)
      | inr near ↦ rw (later_near by end c cs near) (omega arith, wide, tail)
    ]

later_upto : (by end : ℕ) (cs : List Change) → AllUpTo end (later_changes by end cs)
unfolding later_changes
later_upto by end [] = tt
later_upto by end (c ∷ cs) =
    elim (cases_lt end (c.tick + by)) [
      | inl far ↦ rw (later_far by end c cs far) (later_upto by end cs)
      | inr near ↦ rw (later_near by end c cs near) (near, later_upto by end cs)
    ]

-- before the gap's end
later_early : (by end : ℕ) (before : List Bit) (cs : List Change) (t : ℕ) → t < by
    → value_from before (later_changes by end cs) t ≡ before
unfolding later_changes value_from
later_early by end before [] t early = refl
later_early by end before (c ∷ cs) t early =
    elim (cases_lt end (c.tick + by)) [
      | inl far ↦ rw (later_far by end c cs far) (later_early by end before cs t early)
      | inr near ↦
          ap (λ l. value_from before l t) (later_near by end c cs near)
          ∙ value_skip before (change (c.tick + by) c.value) (later_changes by end cs) t (omega arith)
          ∙ later_early by end before cs t early
    ]

later_late : (by end : ℕ) (before : List Bit) (cs : List Change) (t : ℕ) → t + by ≤ end
    → value_from before (later_changes by end cs) (t + by) ≡ value_from before cs t
unfolding later_changes value_from
later_late by end before [] t to = refl
later_late by end before (c ∷ cs) t to =
    elim (cases_lt t c.tick) [
      | inl skips ↦
          elim (cases_lt end (c.tick + by)) [
            | inl far ↦ ap (λ l. value_from before l (t + by)) (later_far by end c cs far)
                ∙ later_late by end before cs t to ∙ sym (value_skip before c cs t skips)
            | inr near ↦
                ap (λ l. value_from before l (t + by)) (later_near by end c cs near)
                ∙ value_skip before (change (c.tick + by) c.value) (later_changes by end cs) (t + by) (omega arith)
                ∙ later_late by end before cs t to ∙ sym (value_skip before c cs t skips)
          ]
      | inr past ↦
          ap (λ l. value_from before l (t + by)) (later_near by end c cs (omega arith))
          ∙ value_past before (change (c.tick + by) c.value) (later_changes by end cs) (t + by) (omega arith)
          ∙ later_late by end c.value cs t to ∙ sym (value_past before c cs t past)
    ]

-- the values of a shift
past_end : (end t : ℕ) (s : SignalContents) → AllUpTo end s.changes → end ≤ t → signal_value s t ≡ signal_value s end
past_end end t s upto late = value_last (all_x s.width) s.changes end t upto late
    ∙ sym (value_last (all_x s.width) s.changes end end upto (omega arith))

shift_earlier : (d end : ℕ) (s : SignalContents) → AllUpTo end s.changes → (t : ℕ)
    → shift_value end (neg_ℤ (pos d)) s t ≡ signal_value s (t + d)
shift_earlier d end s upto t =
    ap (value_at_any_tick end s) {x = pos t -ℤ neg_ℤ (pos d)} {y = pos (t + d)} (omega (arith, ints))
    ∙ elim (cases_lt end (t + d)) [
      | inl far ↦ ap (λ q. if q then signal_value s end else signal_value s (t + d)) (lt-ltb end (t + d) far)
          ∙ sym (past_end end (t + d) s upto (omega arith))
      | inr near ↦ ap (λ q. if q then signal_value s end else signal_value s (t + d)) (le-ltb end (t + d) near)
    ]

shift_before : (d end : ℕ) (s : SignalContents) (t : ℕ) → t < d → shift_value end (pos d) s t ≡ all_x s.width
shift_before d end s t early =
    ap (value_at_any_tick end s) {x = pos t -ℤ pos d} {y = negsuc (d - suc t)} (omega (arith, ints))

shift_after : (d end : ℕ) (s : SignalContents) (t u : ℕ) → t ≡ d + u → t ≤ end
    → shift_value end (pos d) s t ≡ signal_value s u
shift_after d end s t u is to =
    ap (value_at_any_tick end s) {x = pos t -ℤ pos d} {y = pos u} (omega (arith, ints, is))
    ∙ ap (λ q. if q then signal_value s end else signal_value s u) (le-ltb end u (omega (arith, is)))

later_is : (by end : ℕ) (s : SignalContents) → IsWave s.width s.changes
    → without_repeats (all_x s.width) (later_changes by end s.changes)
    ≡ changes_of s.width end (shift_value end (pos by) s)
later_is by end s is =
    without_repeats_is s.width end (later_changes by end s.changes) (shift_value end (pos by) s)
    (rise_lower s.width 0 (0 + by) _ (omega arith) (later_rise s.width by end 0 s.changes
    (wave_rises s.width 0 (all_x s.width) s.changes (length-replicate s.width X) is.rise)))
    (later_upto by end s.changes)
    (λ t to. elim (cases_lt t by) [
      | inl early ↦ later_early by end (all_x s.width) s.changes t early ∙ sym (shift_before by end s t early)
      | inr late ↦
          ap (λ u. value_from (all_x s.width) (later_changes by end s.changes) u) {x = t} {y = t - by + by}
          (omega arith)
          ∙ later_late by end (all_x s.width) s.changes (t - by) (omega arith)
          ∙ sym (shift_after by end s t (t - by) (omega arith) to)
    ])

-- ---- shifted earlier

upto_more : (end more : ℕ) (cs : List Change) → AllUpTo end cs → AllUpTo (end + more) cs
upto_more end more [] upto = tt
upto_more end more (c ∷ cs) (here, rest) = (omega arith, upto_more end more cs rest)

earlier_is : (by end : ℕ) (s : SignalContents) → IsWave s.width s.changes → AllUpTo end s.changes
    → without_repeats (all_x s.width) (replaced_changes (cut_ticks 0 by end) (all_x s.width) (all_x s.width) s.changes)
    ≡ changes_of s.width end (shift_value end (neg_ℤ (pos by)) s)
earlier_is by end s is upto =
    replaced_is (cut_ticks 0 by end) (all_x s.width) s (shift_value end (neg_ℤ (pos by)) s) is
    (upto_more end (by - 0) s.changes upto) (omega arith) (omega arith) (length-replicate s.width X)
    (λ t early. absurd (omega (arith, early))) (λ t from early. absurd (omega (arith, early)))
    (λ t past to. ap (signal_value s) {x = t + (by - 0)} {y = t + by} (omega arith)
    ∙ sym (shift_earlier by end s upto t))

-- ---- cut

cut_is : (from to end : ℕ) (s : SignalContents) → IsWave s.width s.changes → AllUpTo end s.changes → from < to
    → to ≤ end
    → without_repeats (all_x s.width)
    (replaced_changes (cut_ticks from to (end - (to - from))) (all_x s.width) (all_x s.width) s.changes)
    ≡ changes_of s.width (end - (to - from)) (cut_value from to s)
cut_is from to end s is upto some within =
    let whole : end ≡ end - (to - from) + (to - from) = omega arith in
    replaced_is (cut_ticks from to (end - (to - from))) (all_x s.width) s (cut_value from to s) is
    (subst (λ (e : ℕ). AllUpTo e s.changes) whole upto) (omega arith) (omega arith)
    (length-replicate s.width X)
    (λ t early. sym (ap (λ b. if b then signal_value s t else signal_value s (t + (to - from))) (lt-ltb t from early)))
    (λ t begun early. absurd (omega arith))
    (λ t past to_end. sym (ap (λ b. if b then signal_value s t else signal_value s (t + (to - from)))
    (le-ltb t from past)))

-- ---- forced

forced_is : (from to end : ℕ) (value : List Bit) (s : SignalContents) → IsWave s.width s.changes
    → AllUpTo end s.changes → from < to → to ≤ end + 1 → length value ≡ s.width
    → without_repeats (all_x s.width) (replaced_changes (forced_ticks from to end) value (all_x s.width) s.changes)
    ≡ changes_of s.width end (force_value from to value s)
forced_is from to end value s is upto some within long =
    replaced_is (forced_ticks from to end) value s (force_value from to value s) is (upto_more end 0 s.changes upto)
    (omega arith) (omega arith) long
    (λ t early. sym (ap (λ p. if p && nat_lt t to then value else signal_value s t) (lt-leb from t early)))
    (λ t begun early. sym (λ i. if le-leb from t begun i && lt-ltb t to early i then value else signal_value s t))
    (λ t past to_end. ap (signal_value s) {x = t + 0} {y = t} (omega arith)
    ∙ sym (λ i. if le-leb from t (omega arith) i && le-ltb t to past i then value else signal_value s t))

-- ---- any edit

-- the run from tick 0 on stays
steady_x : (x : List Bit) (ticks : ℕ) (cs : List Change)
    → steady_changes ticks (change 0 x ∷ cs) ≡ change 0 x ∷ steady_changes ticks cs
unfolding steady_changes
steady_x x ticks [] = refl
steady_x x ticks (c ∷ cs) = refl

pub made_by_is : (e : WaveEdit) (end : ℕ) (s : SignalContents) → IsAllowed end s.width e → IsWave s.width s.changes
    → AllUpTo end s.changes
    → without_repeats (all_x s.width) (made_by e end (all_x s.width) s.changes)
    ≡ changes_of s.width (end_after e end) (edited_value e end s)
made_by_is Invert end s allowed is upto = inverse_is end s is upto
made_by_is (Deglitch ticks) end s allowed is upto =
    ap (without_repeats (all_x s.width)) (steady_x (all_x s.width) ticks s.changes)
    ∙ x_first (all_x s.width) 0 (steady_changes ticks s.changes) ∙ steady_are ticks end s is upto
made_by_is (Shift (pos by)) end s allowed is upto = later_is by end s is
made_by_is (Shift (negsuc n)) end s allowed is upto = earlier_is (suc n) end s is upto
made_by_is (Force from to value) end s (some, within, long) is upto =
    forced_is from to end value s is upto some within long
made_by_is (Cut from to) end s (some, within) is upto = cut_is from to end s is upto some within

-- ---- the changes of a file

last_rise : (width : ℕ) (h : Change) (cs : List Change) → length h.value ≡ width → TicksStay width h.tick cs
    → TicksRise width h.tick (last_at_ticks h cs)
unfolding last_at_ticks
last_rise width h [] wide stay = (omega arith, wide, tt)
last_rise width h (c ∷ cs) wide (from, long, rest) =
    let tail = last_rise width c cs long rest in
    elim (cases_lt h.tick c.tick) [
      | inl over ↦ rw (last_over h c cs over)
          (omega arith, wide, rise_lower width (h.tick + 1) c.tick _ (omega arith) tail)
      | inr within ↦ rw (last_within h c cs within) (rise_lower width h.tick c.tick _ from tail)
    ]

last_upto : (end : ℕ) (h : Change) (cs : List Change) → h.tick ≤ end → AllUpTo end cs
    → AllUpTo end (last_at_ticks h cs)
unfolding last_at_ticks
last_upto end h [] here upto = (here, tt)
last_upto end h (c ∷ cs) here (next, upto) =
    let tail = last_upto end c cs next upto in
    elim (cases_lt h.tick c.tick) [
      | inl over ↦ rw (last_over h c cs over) (here, tail)
      | inr within ↦ rw (last_within h c cs within) tail
    ]

last_values : (width : ℕ) (h : Change) (cs : List Change) (v : List Bit) (t : ℕ) → TicksStay width h.tick cs
    → value_from v (last_at_ticks h cs) t ≡ value_from v (h ∷ cs) t
unfolding last_at_ticks value_from
last_values width h [] v t stay = refl
last_values width h (c ∷ cs) v t (from, long, rest) =
    elim (cases_lt h.tick c.tick) [
      | inl over ↦
          ap (λ l. value_from v l t) (last_over h c cs over)
          ∙ last_values width c cs (if nat_le h.tick t then h.value else v) t rest
      | inr within ↦
          ap (λ l. value_from v l t) (last_within h c cs within) ∙ last_values width c cs v t rest
          ∙ elim (cases_lt t c.tick) [
            | inl early ↦ value_skip v c cs t early
                ∙ sym (value_skip v h (c ∷ cs) t (omega arith) ∙ value_skip v c cs t early)
            | inr late ↦ value_past v c cs t late
                ∙ sym (value_past v h (c ∷ cs) t (omega arith) ∙ value_past h.value c cs t late)
          ]
    ]

pub of_file_is : (width end : ℕ) (cs : List Change) → TicksStay width 0 cs → AllUpTo end cs
    → without_repeats (all_x width) (last_at_ticks (change 0 (all_x width)) cs)
    ≡ changes_of width end (value_at width cs)
of_file_is width end cs stay upto =
    let x = all_x width in
    let long = length-replicate width X in
    without_repeats_is width end (last_at_ticks (change 0 x) cs) (value_at width cs)
    (last_rise width (change 0 x) cs long stay) (last_upto end (change 0 x) cs (omega arith) upto)
    (λ t to. last_values width (change 0 x) cs x t stay ∙ value_past x (change 0 x) cs t (omega arith))
