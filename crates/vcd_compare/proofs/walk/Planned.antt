-- What the pairs are given of a change writes the letters of each signal of its variable.
use Rattle.std.proofs.Common.{◌≡◌, ℕ, zero, suc, ◌+◌, ◌-◌, ◌*◌, ◌<◌, ◌≤◌, Bool, true, false}
use Rattle.std.proofs.Common.{List, [], ◌∷◌, ◌++◌, length, get_or, Option, Some, None, IsSomeAnd}
use Rattle.std.proofs.Common.{refl, sym, ap, ◌∙◌, arith}
use Rattle.std.specs.Prelude.{slice_get}
use Rattle.std.proofs.lemmas.Bool.{ltb-true, ltb-false}
use Rattle.std.proofs.lemmas.Option.{same_Some, slice_get_within}
use Rattle.vcd_text.specs.Grammar.{VariableDeclaration, kept_variables}
use Rattle.vcd_text.specs.Letters.{extension, letters_of_digits, value_of_digits}
use Rattle.vcd_text.specs.HeardChanges.{HeardChange, first_with, skipped_variables}
use Rattle.vcd_text.specs.HeardLaws.{FitsTarget}
use Rattle.vcd_text.specs.declared.reading.heard_changes.ChangeTarget.{ChangeTarget}
use Rattle.vcd_text.specs.declared.reading.heard_changes.ChangeTarget.TheVariants.{Kept, Skipped}
use Rattle.vcd_text.proofs.shared.FirstVariables.{first_found}
use Rattle.vcd_compare.specs.inside.SignalPair.{PairWaves, letters, words}
use Rattle.vcd_compare.specs.inside.Walk.{ArePlanned, IsPlannedPair, AreBegun, all_variables, is_kept_at}
use Rattle.vcd_compare.specs.inside.Walk.{first_position, are_letters}
use Rattle.vcd_compare.specs.inside.WalkSteps.{GivenFile, target_position, text_of_target, given_text}
use Rattle.vcd_compare.specs.declared.wave_pair.Bounds.{Bounds}
use Rattle.vcd_compare.specs.declared.pairs.Which.TheVariants.{First, Second}
use Rattle.vcd_compare.specs.declared.pairs.SignalPair.{SignalPair}
use Rattle.vcd_compare.proofs.walk.GivenChanges.{IsReadIn}
use Rattle.vcd_compare.proofs.walk.OneSize.{HaveOneSize}

-- ---- positions among all variables

slice_get_left : {X : Type 0} (xs ys : List X) (k : ℕ) → k < length xs → slice_get (xs ++ ys) k ≡ slice_get xs k
slice_get_left [] ys k below = absurd (omega arith)
slice_get_left (x ∷ xs) ys zero below = refl
slice_get_left (x ∷ xs) ys (suc k) below = slice_get_left xs ys k (omega arith)

slice_get_right : {X : Type 0} (xs ys : List X) (k : ℕ) → length xs ≤ k
    → slice_get (xs ++ ys) k ≡ slice_get ys (k - length xs)
slice_get_right [] ys k past = ap (slice_get ys) (omega arith)
slice_get_right (x ∷ xs) ys zero past = absurd (omega arith)
slice_get_right (x ∷ xs) ys (suc k) past = slice_get_right xs ys k (omega arith) ∙ ap (slice_get ys) (omega arith)

module _ (declared : List VariableDeclaration) (k : ℕ) (d : VariableDeclaration)
    (at : slice_get (all_variables declared) k ≡ Some d) where
  -- a signal is one of the kept variables
  pub signal_there : is_kept_at declared k ≡ true → slice_get (kept_variables declared) k ≡ Some d
  signal_there kept =
      sym (slice_get_left (kept_variables declared) (skipped_variables declared) k (ltb-true _ _ kept)) ∙ at

  pub signal_first : is_kept_at declared k ≡ true
      → first_position declared k d ≡ first_with d.code (kept_variables declared)
  signal_first kept = rw kept refl

  -- another variable is one of the skipped ones
  pub skipped_there : is_kept_at declared k ≡ false
      → slice_get (skipped_variables declared) (k - length (kept_variables declared)) ≡ Some d
  skipped_there skipped =
      sym (slice_get_right (kept_variables declared) (skipped_variables declared) k (ltb-false _ _ skipped)) ∙ at

  pub skipped_first : is_kept_at declared k ≡ false
      → first_position declared k d
      ≡ length (kept_variables declared) + first_with d.code (skipped_variables declared)
  skipped_first skipped = rw skipped refl

-- ---- the pairs

-- what two variables of letters are before the walk
begun_letters : (bounds : Bounds) (kept other_kept : Bool) (d e : VariableDeclaration) (width : ℕ) (waves : PairWaves)
    → are_letters waves ≡ true → AreBegun bounds kept other_kept d e width waves
    → (kept ≡ true) × (other_kept ≡ true) × (d.size ≡ width) × (e.size ≡ width)
begun_letters bounds kept other_kept d e width (letters p) is begun = (begun.0, begun.1, begun.2, begun.3)
begun_letters bounds kept other_kept d e width (words p) is begun = absurd (cc is)

first_is : (kept : List VariableDeclaration) (k p j : ℕ) (own d : VariableDeclaration) → HaveOneSize kept
    → slice_get kept k ≡ Some own → p ≡ first_with own.code kept → p ≡ j → slice_get kept j ≡ Some d
    → own.size ≡ d.size
first_is kept k p j own d sizes at first same there =
    let f = first_found own.code kept k own at refl in
    let one : f.found ≡ d =
    same_Some f.found d (sym f.at_first ∙ ap (slice_get kept) (sym first ∙ same) ∙ there) in
    sizes k j own d at there (sym f.own_code ∙ ap (λ (x : VariableDeclaration). x.code) one)

-- a signal at a position, with the first one of its code
record IsSignalOf (declared : List VariableDeclaration) (width variable : ℕ) : Type 0 where
  place : ℕ
  own : VariableDeclaration
  there : slice_get (kept_variables declared) place ≡ Some own
  first : variable ≡ first_with own.code (kept_variables declared)
  wide : own.size ≡ width

-- what the pairs are given of a change of its variable writes its letters
signal_reads : (declared : List VariableDeclaration) (width variable tick : ℕ) (h : HeardChange) (target : ChangeTarget)
    → h.target ≡ target → HaveOneSize (kept_variables declared) → FitsTarget declared target h.text
    → IsSignalOf declared width variable
    → variable ≡ target_position (length (kept_variables declared)) target
    → value_of_digits width (given_text (skipped_variables declared) tick h)
    ≡ Some (extension width (letters_of_digits h.text))
signal_reads declared width variable tick h (Kept k) is sizes fits x same =
    kept_reads (slice_get (kept_variables declared) k) refl fits
  where
    kept_reads : (o : Option VariableDeclaration) → slice_get (kept_variables declared) k ≡ o
        → IsSomeAnd o (λ d. value_of_digits d.size h.text ≡ Some (extension d.size (letters_of_digits h.text)))
        → value_of_digits width (given_text (skipped_variables declared) tick h)
        ≡ Some (extension width (letters_of_digits h.text))
    kept_reads None there some = absurd some
    kept_reads (Some d) there some =
        let wide : d.size ≡ width =
        sym (first_is (kept_variables declared) x.place variable k x.own d sizes x.there x.first same there)
        ∙ x.wide in
        ap (λ t. value_of_digits width (text_of_target (skipped_variables declared) t tick h.text)) is
        ∙ ap (λ n. value_of_digits n h.text) (sym wide) ∙ some
        ∙ ap (λ n. Some (extension n (letters_of_digits h.text))) wide
signal_reads declared width variable tick h (Skipped k) is sizes fits x same =
    let f = first_found x.own.code (kept_variables declared) x.place x.own x.there refl in
    absurd (omega (arith, same, x.first, slice_get_within (kept_variables declared) _ f.found f.at_first))

module _ (bounds : Bounds) (declared others : List VariableDeclaration) (p : SignalPair)
    (plan : IsPlannedPair bounds declared others p) where
  first_signal : are_letters p.waves ≡ true → IsSignalOf declared p.width p.first_variable
  first_signal are =
      let begun = begun_letters bounds _ _ plan.own plan.partner p.width p.waves are plan.begun in
      record {
        place = p.first;
        own = plan.own;
        there = signal_there declared p.first plan.own plan.at_first begun.0;
        first = plan.first_variable ∙ signal_first declared p.first plan.own plan.at_first begun.0;
        wide = begun.2;
      }

  second_signal : are_letters p.waves ≡ true → IsSignalOf others p.width p.second_variable
  second_signal are =
      let begun = begun_letters bounds _ _ plan.own plan.partner p.width p.waves are plan.begun in
      record {
        place = p.second;
        own = plan.partner;
        there = signal_there others p.second plan.partner plan.at_second begun.1;
        first = plan.second_variable ∙ signal_first others p.second plan.partner plan.at_second begun.1;
        wide = begun.3;
      }

-- what the pairs are given of a change of a file writes the letters of each signal
module _ (bounds : Bounds) (f g : GivenFile) (pairs : List SignalPair)
    (planned : ArePlanned bounds f.declared g.declared pairs) (h : HeardChange) where
  pub first_reads : HaveOneSize (kept_variables f.declared) → FitsTarget f.declared h.target h.text
      → (i : ℕ) (default : SignalPair) → i < length pairs → IsReadIn First f h (get_or pairs i default)
  first_reads sizes fits i default below are same =
      let p = get_or pairs i default in
      signal_reads f.declared p.width p.first_variable (h.tick * f.factor) h h.target refl sizes fits
      (first_signal bounds f.declared g.declared p (planned i default below) are) same

  pub second_reads : HaveOneSize (kept_variables g.declared) → FitsTarget g.declared h.target h.text
      → (i : ℕ) (default : SignalPair) → i < length pairs → IsReadIn Second g h (get_or pairs i default)
  second_reads sizes fits i default below are same =
      let p = get_or pairs i default in
      signal_reads g.declared p.width p.second_variable (h.tick * g.factor) h h.target refl sizes fits
      (second_signal bounds f.declared g.declared p (planned i default below) are) same
