-- Pieces with their ticks: of two lists, and without empty stamps.
use Rattle.std.proofs.Common.{◌≡◌, ◌∙◌, ℕ, Bool, true, false, ◌&&◌, List, [], ◌∷◌, ◌++◌, map, All, refl, sym, ap}
use Rattle.std.proofs.Common.{if◌then◌else◌, append_assoc}
use Rattle.std.specs.Prelude.{is_some, not}
use Rattle.std.proofs.lemmas.Bool.{and_parts, false≢true}
use Rattle.std.proofs.lemmas.List.Elements.{All-head, All-tail}
use Rattle.vcd_text.specs.Items.{Item, entry, timescale, scope, upscope, variable, end_definitions, stamp, scalar}
use Rattle.vcd_text.specs.Items.{vector, real_or_string, dump_word, other}
use Rattle.vcd_copy.specs.Pieces.{Piece}
use Rattle.vcd_copy.specs.Copied.{may_be_amended}
use Rattle.vcd_copy.specs.Ticks.{tick_after_item}
use Rattle.vcd_part.specs.PartPieces.{is_later_stamp, begins_with_stamp, without_empty_stamps}
use Rattle.vcd_part.specs.StandsInPart.{change_code, with_ticks}
use Rattle.vcd_part.proofs.shared.StampItems.{later_is_stamp, stamp_digits}

-- whether an item is a change, and whether it stands whatever the part
abbrev pub changes : Item → Bool
changes i = is_some (change_code i)

abbrev pub stays : Item → Bool
stays i = not (may_be_amended i)

-- one piece with its tick, if it passes the test
abbrev pub one_with_tick : (test : Item → Bool) → ℕ → Piece → List (ℕ × Piece)
one_with_tick test now p = if test p.item then (now, p) ∷ [] else []

-- the tick after pieces
unfoldable pub tick_after : ℕ → List Piece → ℕ
tick_after now [] = now
tick_after now (p ∷ ps) = tick_after (tick_after_item now p.item) ps

pub ticks_of_both : (test : Item → Bool) (now : ℕ) (ps qs : List Piece)
    → with_ticks test now (ps ++ qs) ≡ with_ticks test now ps ++ with_ticks test (tick_after now ps) qs
unfolding with_ticks tick_after
ticks_of_both test now [] qs = refl
ticks_of_both test now (p ∷ ps) qs =
    ap (λ l. one_with_tick test now p ++ l) (ticks_of_both test (tick_after_item now p.item) ps qs)
    ∙ sym (append_assoc (one_with_tick test now p) _ _)

pub tick_after_both : (now : ℕ) (ps qs : List Piece) → tick_after now (ps ++ qs) ≡ tick_after (tick_after now ps) qs
unfolding tick_after
tick_after_both now [] qs = refl
tick_after_both now (p ∷ ps) qs = tick_after_both (tick_after_item now p.item) ps qs

-- ---- items

-- what no rule may amend is no change, and keeps the tick
pub other_item : (i : Item) → may_be_amended i ≡ false
    → (changes i ≡ false) × ((now : ℕ) → tick_after_item now i ≡ now)
other_item (entry kind words) isnt = (refl, λ now. refl)
other_item (timescale words) isnt = (refl, λ now. refl)
other_item (scope kind words) isnt = (refl, λ now. refl)
other_item upscope isnt = (refl, λ now. refl)
other_item (variable words) isnt = (refl, λ now. refl)
other_item end_definitions isnt = (refl, λ now. refl)
other_item (stamp digits) isnt = absurd (false≢true (sym isnt))
other_item (scalar digit code) isnt = absurd (false≢true (sym isnt))
other_item (vector first digits code) isnt = absurd (false≢true (sym isnt))
other_item (real_or_string first text code) isnt = absurd (false≢true (sym isnt))
other_item (dump_word word) isnt = (refl, λ now. refl)
other_item (other word words) isnt = (refl, λ now. refl)

-- a change may be amended, and keeps the tick
change_item : (i : Item) → changes i ≡ true → (stays i ≡ false) × ((now : ℕ) → tick_after_item now i ≡ now)
change_item (scalar digit code) is = (refl, λ now. refl)
change_item (vector first digits code) is = (refl, λ now. refl)
change_item (real_or_string first text code) is = (refl, λ now. refl)
change_item (entry kind words) is = absurd (false≢true is)
change_item (timescale words) is = absurd (false≢true is)
change_item (scope kind words) is = absurd (false≢true is)
change_item upscope is = absurd (false≢true is)
change_item (variable words) is = absurd (false≢true is)
change_item end_definitions is = absurd (false≢true is)
change_item (stamp digits) is = absurd (false≢true is)
change_item (dump_word word) is = absurd (false≢true is)
change_item (other word words) is = absurd (false≢true is)

abbrev pub IsChange : Piece → Type 0
IsChange p = changes p.item ≡ true

-- changes are at one tick
pub changes_alone : (now : ℕ) (ps : List Piece) → All IsChange ps → (with_ticks changes now ps ≡ map (λ p. (now, p)) ps)
    × (with_ticks stays now ps ≡ []) × (tick_after now ps ≡ now)
unfolding with_ticks tick_after
changes_alone now [] all = (refl, refl, refl)
changes_alone now (p ∷ ps) all =
    let is : changes p.item ≡ true = All-head IsChange p ps all in
    let (no_other, tick) = change_item p.item is in
    let (of_changes, of_others, last) = changes_alone now ps (All-tail IsChange p ps all) in (
      (λ i. (if is i then (now, p) ∷ [] else []) ++ with_ticks changes (tick now i) ps)
          ∙ ap (λ l. (now, p) ∷ l) of_changes,
      (λ i. (if no_other i then (now, p) ∷ [] else []) ++ with_ticks stays (tick now i) ps) ∙ of_others,
      ap (λ n. tick_after n ps) (tick now) ∙ last,
    )

-- ---- without empty stamps

module _ (test : Item → Bool) (no_stamp : (digits : List ℕ) → test (stamp digits) ≡ false) where
  -- what comes after a stamp does not depend on the tick before it
  after_stamp : (now before : ℕ) (ps : List Piece) → begins_with_stamp ps ≡ true
      → with_ticks test now ps ≡ with_ticks test before ps
  unfolding with_ticks
  after_stamp now before [] begins = absurd (false≢true begins)
  after_stamp now before (p ∷ ps) begins =
      let (digits, is) = stamp_digits p.item begins in
      first now digits is ∙ sym (first before digits is)
    where
      first : (n : ℕ) (digits : List ℕ) → p.item ≡ stamp digits
          → with_ticks test n (p ∷ ps) ≡ with_ticks test (tick_after_item 0 (stamp digits)) ps
      first n digits is =
          (λ i. (if test (is i) then (n, p) ∷ [] else []) ++ with_ticks test (tick_after_item n (is i)) ps)
          ∙ ap (λ b. (if b then (n, p) ∷ [] else []) ++ with_ticks test (tick_after_item 0 (stamp digits)) ps)
          (no_stamp digits)

  pub without_ticks : (now : ℕ) (ps : List Piece)
      → with_ticks test now (without_empty_stamps ps) ≡ with_ticks test now ps
  unfolding with_ticks without_empty_stamps
  without_ticks now [] = refl
  without_ticks now (p ∷ ps) =
      by_test (is_later_stamp p.item && begins_with_stamp ps) refl (λ n. without_ticks n ps)
    where
      by_test : (b : Bool) → (is_later_stamp p.item && begins_with_stamp ps) ≡ b
          → ((n : ℕ) → with_ticks test n (without_empty_stamps ps) ≡ with_ticks test n ps)
          → with_ticks test now (if b then without_empty_stamps ps else p ∷ without_empty_stamps ps)
          ≡ with_ticks test now (p ∷ ps)
      by_test true is rest =
          let (later, begins) = and_parts (is_later_stamp p.item) (begins_with_stamp ps) is in
          let (digits, stamped) = stamp_digits p.item (later_is_stamp p.item later) in
          rest now ∙ after_stamp now (tick_after_item now p.item) ps begins
          ∙ ap (λ b. (if b then (now, p) ∷ [] else []) ++ with_ticks test (tick_after_item now p.item) ps)
          (sym (ap test stamped ∙ no_stamp digits))
      by_test false is rest = ap (λ l. one_with_tick test now p ++ l) (rest (tick_after_item now p.item))
