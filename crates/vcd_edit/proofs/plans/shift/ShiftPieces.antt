-- The pieces of a delayed or advanced signal.
use Rattle.std.proofs.Common.{◌≡◌, ℕ, zero, suc, ◌+◌, ◌-◌, ◌^◌, ◌<◌, ◌≤◌, nat_lt, if◌then◌else◌, ℤ, pos, negsuc, ◌-ℤ◌}
use Rattle.std.proofs.Common.{List, [], ◌∷◌, ◌++◌, length, take, map, get_or, inl, inr, refl, sym, ap, ◌∙◌, arith}
use Rattle.std.specs.Prelude.{neg_ℤ, Result, IfOk}
use Rattle.std.specs.List.{count_by}
use Rattle.std.proofs.lemmas.Bool.{cases_lt, lt-ltb, le-ltb}
use Rattle.std.proofs.lemmas.List.{map-append}
use Rattle.std.proofs.lemmas.Int.{ints}
use Rattle.std.proofs.lemmas.Result.{IfOk-weaker}
use Rattle.vcd_core.specs.declared.bit.Bit.{Bit}
use Rattle.vcd_core.specs.declared.wave.Change.{Change}
use Rattle.vcd_core.specs.Value.{all_x}
use Rattle.vcd_core.specs.inside.value.EqualByLetters.{same_letters-Decides}
use Rattle.vcd_core.specs.Wave.{change, unless_same, changes_from, IsWave, AllUpTo}
use Rattle.vcd_core.specs.Splice.{moved_change}
use Rattle.vcd_core.specs.Contents.{SignalContents, signal_value}
use Rattle.vcd_core.proofs.shared.Waves.{changes_same, value_last}
use Rattle.vcd_core.proofs.shared.Pushes.{upto_from_all, count_is, no_change}
use Rattle.vcd_core.specs.declared.memory.NoMemory.{NoMemory}
use Rattle.vcd_edit.specs.declared.record.Piece.{Piece}
use Rattle.vcd_edit.specs.Records.{piece_view}
use Rattle.vcd_edit.specs.inside.plans.Plan.{GivesValues}
use Rattle.vcd_edit.specs.RecordView.{PieceView}
use Rattle.vcd_edit.specs.Effect.{value_at_any_tick, shift_value, cut_value}
use Rattle.vcd_edit.specs.inside.plans.Ranges.{value_just_before, changes_in, GivesChanges}
use Rattle.vcd_edit.proofs.shared.Lists.{take_here}
use Rattle.vcd_edit.proofs.plans.CutPieces.{after_cut, all_counted}
use Rattle.vcd_edit.proofs.plans.Ranges.{changes_in-split, changes_in-constant, changes_in-moved, changes_before_tick}
use Rattle.vcd_edit.proofs.plans.Ranges.{replacement_leads, whole_leads}

-- past the end the value stays
past_end : (end t : ℕ) (s : SignalContents) → AllUpTo end s.changes → end ≤ t → signal_value s t ≡ signal_value s end
past_end end t s upto late = value_last (all_x s.width) s.changes end t upto late
    ∙ sym (value_last (all_x s.width) s.changes end end upto (omega arith))

-- the same function up to the end
pub leads_same : (p : PieceView) (cs : List Change) (width end : ℕ) (f g : ℕ → List Bit)
    → ((t : ℕ) → t ≤ end → f t ≡ g t) → GivesChanges p cs width end f → GivesChanges p cs width end g
leads_same p cs width end f g same leads = assumption (leads.is ∙ changes_same width end f g same)

-- the same for the piece of a signal
pub gives_same : (made : Result Piece NoMemory) (k : ℕ) (s : SignalContents) (end : ℕ) (at by : ℤ) (f g : ℕ → List Bit)
    → at ≡ by → ((t : ℕ) → f t ≡ g t) → IfOk made (GivesValues k s end at f) → IfOk made (GivesValues k s end by g)
gives_same made k s end at by f g offset same =
    IfOk-weaker made (GivesValues k s end at f) (GivesValues k s end by g)
    (λ p gives. assumption (
      gives.offset ∙ offset,
      leads_same (piece_view p) s.changes s.width end f g (λ t to. same t) gives.leads,
    ))

-- ---- copies of changes

later_change : (d : ℕ) (c : Change) → record { tick = c.tick + d; value = c.value } ≡ moved_change (pos d) c
unfolding moved_change
later_change d c = refl

pub later_more : (d i : ℕ) (cs : List Change) (c : Change) → i < length cs → c ≡ get_or cs i c
    → map (moved_change (pos d)) (take i cs) ++ record { tick = c.tick + d; value = c.value } ∷ []
    ≡ map (moved_change (pos d)) (take (i + 1) cs)
later_more d i cs c within at =
    (λ k. map (moved_change (pos d)) (take i cs) ++ later_change d c k ∷ [])
    ∙ sym (map-append (moved_change (pos d)) (take i cs) (c ∷ []))
    ∙ ap (map (moved_change (pos d))) (sym (take_here cs i c within at))

-- ---- earlier

module _ (d end : ℕ) (s : SignalContents) (upto : AllUpTo end s.changes) where
  abbrev back : ℤ
  back = neg_ℤ (pos d)

  -- the value is that of d ticks later
  pub shift_earlier : (t : ℕ) → shift_value end back s t ≡ signal_value s (t + d)
  shift_earlier t =
      ap (value_at_any_tick end s) {x = pos t -ℤ neg_ℤ (pos d)} {y = pos (t + d)} (omega (arith, ints))
      ∙ elim (cases_lt end (t + d)) [
        | inl far ↦ ap (λ q. if q then signal_value s end else signal_value s (t + d)) (lt-ltb end (t + d) far)
            ∙ sym (past_end end (t + d) s upto (omega arith))
        | inr near ↦ ap (λ q. if q then signal_value s end else signal_value s (t + d)) (le-ltb end (t + d) near)
      ]

  -- as if the first d ticks were cut out
  pub shift_as_cut : (t : ℕ) → cut_value 0 d s t ≡ shift_value end back s t
  shift_as_cut t = after_cut 0 d s t (t + d) (omega arith) (omega arith) ∙ sym (shift_earlier t)

  -- all values that come in are the last value
  pub shift_to_last : end < d → (t : ℕ) → shift_value end back s t ≡ signal_value s end
  shift_to_last far t = shift_earlier t ∙ past_end end (t + d) s upto (omega arith)

-- ---- later

module _ (d end : ℕ) (s : SignalContents) where
  pub shift_before : (t : ℕ) → t < d → shift_value end (pos d) s t ≡ all_x s.width
  shift_before t early =
      ap (value_at_any_tick end s) {x = pos t -ℤ pos d} {y = negsuc (d - suc t)} (omega (arith, ints))

  shift_after : (t u : ℕ) → t ≡ d + u → t ≤ end → shift_value end (pos d) s t ≡ signal_value s u
  shift_after t u is to =
      ap (value_at_any_tick end s) {x = pos t -ℤ pos d} {y = pos u} (omega (arith, ints, is))
      ∙ ap (λ q. if q then signal_value s end else signal_value s u) (le-ltb end u (omega (arith, is)))

  -- none of the first ticks has a change
  prefix_empty : (m : ℕ) → m ≤ d → changes_in s.width (shift_value end (pos d) s) 0 m ≡ []
  unfolding changes_from
  prefix_empty zero le = refl
  prefix_empty (suc m) le =
      changes_in-constant s.width (shift_value end (pos d) s) (all_x s.width) 0 (suc m) (omega arith)
      (λ u _ less. shift_before u (omega arith))
      ∙ ap (λ q. unless_same q (change 0 (all_x s.width)) [])
      ((same_letters-Decides (all_x s.width) (all_x s.width)).1 refl)

  x_before : (t : ℕ) → t ≡ d → value_just_before s.width (shift_value end (pos d) s) t ≡ all_x s.width
  x_before zero is = refl
  x_before (suc t) is = shift_before t (omega (arith, is))

  module _ (is : IsWave s.width s.changes) (upto : AllUpTo end s.changes) (near : d ≤ end) (small : end + 1 < 2 ^ 64)
      (p : PieceView) (first : p.from ≡ 0) (kept : ℕ)
      (count : kept ≡ count_by (λ c. nat_lt c.tick (end - d + 1)) s.changes) where
    -- no change is pushed past the end
    pub later_all_stay : kept ≡ length s.changes → p.to ≡ 0 → p.changes ≡ [] → p.by ≡ pos d
        → GivesChanges p s.changes s.width end (shift_value end (pos d) s)
    later_all_stay all last empty by =
        replacement_leads s.width (end - d) s.changes is
        (upto_from_all (end - d) s.changes
        (λ k c within. omega (arith, all_counted (end - d + 1) s.changes (sym count ∙ all) k c within)))
        0 0 d (end - d + 1) end (pos d) (shift_value end (pos d) s) p (omega arith) (omega arith)
        (first ∙ sym (none_counted s.changes)) (last ∙ sym (none_counted s.changes))
        (omega (arith, ints)) by (omega arith) (omega arith) (λ t early. absurd (omega arith))
        (λ i less. shift_after (0 + d + i) (0 + i) (omega arith) (omega arith))
        (λ less. ap (value_just_before s.width (shift_value end (pos d) s)) {x = 0 + d} {y = d} (omega arith)
        ∙ x_before d refl)
        (empty ∙ sym (prefix_empty d (omega arith)))
      where
        none_counted : (cs : List Change) → count_by (λ c. nat_lt c.tick 0) cs ≡ 0
        none_counted cs = count_is (λ c. nat_lt c.tick 0) cs 0 no_change (omega arith)
            (λ k less. absurd (omega arith)) (λ k from less. le-ltb _ 0 (omega arith))

    -- the changes that stay, d ticks later
    pub later_some_stay : p.to ≡ length s.changes → p.changes ≡ map (moved_change (pos d)) (take kept s.changes)
        → GivesChanges p s.changes s.width end (shift_value end (pos d) s)
    later_some_stay last told =
        whole_leads p s.changes s.width end (shift_value end (pos d) s) first last
        (told ∙ ap (map (moved_change (pos d)))
        (changes_before_tick s.width end (end - d + 1) (suc end) kept s.changes is upto (omega arith) count)
        ∙ changes_in-moved s.width (shift_value end (pos d) s) (signal_value s) (pos d) d 0 (end - d + 1)
        (omega (arith, ints)) (λ less. x_before d refl)
        (λ i less. shift_after (d + i) (0 + i) (omega arith) (omega arith))
        ∙ sym (ap (λ l. l ++ changes_in s.width (shift_value end (pos d) s) d (end - d + 1))
        (prefix_empty d (omega arith))) ∙ ap (λ t. changes_in s.width (shift_value end (pos d) s) 0 d
        ++ changes_in s.width (shift_value end (pos d) s) t (end - d + 1)) {x = d} {y = 0 + d} (omega arith)
        ∙ sym (changes_in-split s.width (shift_value end (pos d) s) 0 d (end - d + 1))
        ∙ ap (changes_in s.width (shift_value end (pos d) s) 0) {x = d + (end - d + 1)} {y = suc end} (omega arith))
