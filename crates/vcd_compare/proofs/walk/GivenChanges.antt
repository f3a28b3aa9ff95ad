-- A pair that gets the next change of one of both files.
use Rattle.std.proofs.Common.{◌≡◌, ◌≢◌, ℕ, ◌≤◌, ◌*◌, Bool, true, List, [], ◌∷◌, ◌++◌, Some, get_or, map, refl}
use Rattle.std.proofs.Common.{sym, ap, subst, ◌∙◌, arith, inl, inr, append_assoc, eq-eqb, ◌==◌, length, ◌<◌}
use Rattle.std.specs.Prelude.{bytes_eq}
use Rattle.std.proofs.lemmas.Bool.{cases_Bool, cases_eq, ne_eqb}
use Rattle.vcd_core.specs.declared.bit.Bit.{Bit}
use Rattle.vcd_core.specs.Value.{same_letters}
use Rattle.vcd_text.specs.Letters.{extension, letters_of_digits, value_of_digits}
use Rattle.vcd_text.specs.Grammar.{kept_variables}
use Rattle.vcd_text.specs.HeardChanges.{HeardChange, skipped_variables}
use Rattle.vcd_text.specs.HeardLaws.{TicksRise}
use Rattle.vcd_compare.specs.Differences.{WaveByTicks}
use Rattle.vcd_compare.specs.inside.Pairs.{AllFrom, IsWavePairAt, IsPairAfter, ArePairsAfter, HasChanged, HasText}
use Rattle.vcd_compare.specs.inside.Pairs.{variable_in}
use Rattle.vcd_compare.specs.inside.SignalPair.{PairWaves, letters, words}
use Rattle.vcd_compare.specs.inside.Walk.{are_letters}
use Rattle.vcd_compare.specs.inside.WalkSteps.{HeardVariable, own_changes, wave_heard, AllHeardFrom, target_position}
use Rattle.vcd_compare.specs.inside.WalkSteps.{given_text, GivenFile, signal_heard, skipped_heard, IsWavePairSince}
use Rattle.vcd_compare.specs.inside.WalkSteps.{ArePairWavesAt, IsPairAt, ArePairsAt}
use Rattle.vcd_compare.specs.declared.wave_pair.Bounds.{Bounds}
use Rattle.vcd_compare.specs.declared.wave_pair.WavePair.{WavePair}
use Rattle.vcd_compare.specs.declared.pairs.Which.{Which}
use Rattle.vcd_compare.specs.declared.pairs.Which.TheVariants.{First, Second}
use Rattle.vcd_compare.specs.declared.pairs.SignalPair.{SignalPair}
use Rattle.vcd_compare.proofs.shared.HeardParts.{rise_earlier}
use Rattle.vcd_compare.proofs.pairs.PairSteps.{step_first, step_second}

-- ---- the changes of a variable

-- no tick is before the one from which on they rise
pub all_from : (factor from to : ℕ) (hs : List HeardChange)
    → TicksRise from to (map (λ (h : HeardChange). h.tick * factor) hs) → AllHeardFrom factor from hs
all_from factor from to [] rise = tt
all_from factor from to (h ∷ hs) (first, rise) =
    (first, all_from factor from to hs (rise_earlier from (h.tick * factor) to _ first rise))

pub from_earlier : (factor early floor : ℕ) (hs : List HeardChange) → early ≤ floor → AllHeardFrom factor floor hs
    → AllHeardFrom factor early hs
from_earlier factor early floor [] before from = tt
from_earlier factor early floor (h ∷ hs) before (first, rest) =
    (omega (arith, before, first), from_earlier factor early floor hs before rest)

module _ {V : Type 0} (v : HeardVariable V) where
  pub changes_from : (floor : ℕ) (hs : List HeardChange) → AllHeardFrom v.factor floor hs
      → AllFrom floor (own_changes v hs)
  changes_from floor [] from = tt
  changes_from floor (h ∷ hs) (first, rest) =
      elim (cases_Bool (target_position v.signals h.target == v.position)) [
        | inl own ↦ rw own (first, changes_from floor hs rest)
        | inr other ↦ rw other (changes_from floor hs rest)
      ]

  -- the change of a variable is one of it
  own_change : (h : HeardChange) (hs : List HeardChange) → target_position v.signals h.target ≡ v.position
      → own_changes v (h ∷ hs) ≡ (h.tick * v.factor, v.value h) ∷ own_changes v hs
  own_change h hs same = rw (eq-eqb (target_position v.signals h.target) v.position same) refl

  -- and none of another one
  other_change : (h : HeardChange) (hs : List HeardChange) → target_position v.signals h.target ≢ v.position
      → own_changes v (h ∷ hs) ≡ own_changes v hs
  other_change h hs apart = rw (ne_eqb (target_position v.signals h.target) v.position apart) refl

-- ---- two waves

module _ {V : Type 0} (same : V → V → Bool) (bounds : Bounds) (v w : HeardVariable V) (floor : ℕ)
    (given other_given : List HeardChange) (h : HeardChange) (now new : WavePair V) where
  -- a change of the first file
  first_changed : floor ≤ h.tick * v.factor
      → (target_position v.signals h.target ≡ v.position
      → HasChanged same bounds First (h.tick * v.factor) (v.value h) now new)
      → (target_position v.signals h.target ≢ v.position → new ≡ now)
      → IsWavePairSince same bounds floor v w given other_given now
      → IsWavePairSince same bounds (h.tick * v.factor) v w (given ++ h ∷ []) other_given new
  first_changed later changed stays at last left other_left upto from other_from =
      let tick : ℕ = h.tick * v.factor in
      let left_a = own_changes v left in
      let left_b = own_changes w other_left in
      let wave : WaveByTicks V = wave_heard v (given ++ h ∷ left) in
      let other : WaveByTicks V = wave_heard w (other_given ++ other_left) in
      let begun = at last (h ∷ left) other_left (omega (arith, later, upto))
      (later, from_earlier v.factor floor tick left later from)
      (from_earlier w.factor floor tick other_left later other_from) in
      subst (λ hs. IsWavePairAt same bounds last (wave_heard v hs) other left_a left_b new)
      (sym (append_assoc given (h ∷ []) left))
      (elim (cases_eq (target_position v.signals h.target) v.position) [
        | inl own ↦ step_first same bounds last wave other tick (v.value h) left_a left_b now new
            (subst (λ cs. IsWavePairAt same bounds last wave other cs left_b now) (own_change v h left own) begun)
            (changes_from v tick left from) (changes_from w tick other_left other_from) upto (changed own)
        | inr apart ↦ subst (IsWavePairAt same bounds last wave other left_a left_b) (sym (stays apart))
            (subst (λ cs. IsWavePairAt same bounds last wave other cs left_b now) (other_change v h left apart) begun)
      ])

  -- a change of the second file
  second_changed : floor ≤ h.tick * w.factor
      → (target_position w.signals h.target ≡ w.position
      → HasChanged same bounds Second (h.tick * w.factor) (w.value h) now new)
      → (target_position w.signals h.target ≢ w.position → new ≡ now)
      → IsWavePairSince same bounds floor v w given other_given now
      → IsWavePairSince same bounds (h.tick * w.factor) v w given (other_given ++ h ∷ []) new
  second_changed later changed stays at last left other_left upto from other_from =
      let tick : ℕ = h.tick * w.factor in
      let left_a = own_changes v left in
      let left_b = own_changes w other_left in
      let wave : WaveByTicks V = wave_heard v (given ++ left) in
      let other : WaveByTicks V = wave_heard w (other_given ++ h ∷ other_left) in
      let begun = at last left (h ∷ other_left) (omega (arith, later, upto))
      (from_earlier v.factor floor tick left later from)
      (later, from_earlier w.factor floor tick other_left later other_from) in
      subst (λ hs. IsWavePairAt same bounds last wave (wave_heard w hs) left_a left_b new)
      (sym (append_assoc other_given (h ∷ []) other_left))
      (elim (cases_eq (target_position w.signals h.target) w.position) [
        | inl own ↦ step_second same bounds last wave other tick (w.value h) left_a left_b now new
            (subst (λ cs. IsWavePairAt same bounds last wave other left_a cs now) (own_change w h other_left own) begun)
            (changes_from v tick left from) (changes_from w tick other_left other_from) upto (changed own)
        | inr apart ↦ subst (IsWavePairAt same bounds last wave other left_a left_b) (sym (stays apart))
            (subst (λ cs. IsWavePairAt same bounds last wave other left_a cs now)
            (other_change w h other_left apart) begun)
      ])

-- ---- one pair

abbrev letters_or : WavePair (List Bit) → PairWaves → WavePair (List Bit)
letters_or before (letters p) = p
letters_or before (words p) = before

abbrev words_or : WavePair (List ℕ) → PairWaves → WavePair (List ℕ)
words_or before (letters p) = before
words_or before (words p) = p

-- waves of letters stay such, and those of words too
kind_stays : (width : ℕ) (bounds : Bounds) (which : Which) (variable tick : ℕ) (text : List ℕ) (position : ℕ)
    (now new : PairWaves) → (position ≡ variable → HasText width bounds which tick text now new)
    → (position ≢ variable → new ≡ now) → are_letters new ≡ are_letters now
kind_stays width bounds which variable tick text position (letters now) (letters new) changed stays = refl
kind_stays width bounds which variable tick text position (words now) (words new) changed stays = refl
kind_stays width bounds which variable tick text position (letters now) (words new) changed stays =
    elim (cases_eq position variable) [
      | inl same ↦ absurd (changed same)
      | inr apart ↦ ap are_letters (stays apart)
    ]
kind_stays width bounds which variable tick text position (words now) (letters new) changed stays =
    elim (cases_eq position variable) [
      | inl same ↦ absurd (changed same)
      | inr apart ↦ ap are_letters (stays apart)
    ]

-- what the pairs are given of a change writes the letters of each signal of its variable
abbrev pub IsReadIn : Which → GivenFile → HeardChange → SignalPair → Type 0
IsReadIn which f h p = are_letters p.waves ≡ true
    → variable_in which p ≡ target_position (length (kept_variables f.declared)) h.target
    → value_of_digits p.width (given_text (skipped_variables f.declared) (h.tick * f.factor) h)
    ≡ Some (extension p.width (letters_of_digits h.text))

-- a file of which one more change was given
abbrev pub given_one : GivenFile → HeardChange → GivenFile
given_one f h = record f { given = f.given ++ h ∷ [] }

module _ (bounds : Bounds) (floor : ℕ) (f g : GivenFile) (h : HeardChange) where
  -- the variable, the tick and the text that the pairs are given of a change
  abbrev variable_given : GivenFile → ℕ
  variable_given file = target_position (length (kept_variables file.declared)) h.target

  abbrev tick_given : GivenFile → ℕ
  tick_given file = h.tick * file.factor

  abbrev text_given : GivenFile → List ℕ
  text_given file = given_text (skipped_variables file.declared) (tick_given file) h

  first_waves : (p : SignalPair) (now new : PairWaves) → floor ≤ tick_given f
      → (are_letters now ≡ true → p.first_variable ≡ variable_given f
      → value_of_digits p.width (text_given f) ≡ Some (extension p.width (letters_of_digits h.text)))
      → (p.first_variable ≡ variable_given f → HasText p.width bounds First (tick_given f) (text_given f) now new)
      → (p.first_variable ≢ variable_given f → new ≡ now) → are_letters new ≡ are_letters now
      → ArePairWavesAt bounds floor f g p now → ArePairWavesAt bounds (tick_given f) (given_one f h) g p new
  first_waves p (letters now) (letters new) later reads changed stays kind at =
      first_changed same_letters bounds (signal_heard f p.width p.first_variable)
      (signal_heard g p.width p.second_variable) floor f.given g.given h now new later
      (λ own. changed (sym own) (extension p.width (letters_of_digits h.text)) (reads refl (sym own)))
      (λ apart. ap (letters_or now) (stays (λ e. apart (sym e)))) at
  first_waves p (words now) (words new) later reads changed stays kind at =
      first_changed bytes_eq bounds (skipped_heard f p.first_variable) (skipped_heard g p.second_variable) floor
      f.given g.given h now new later (λ own. changed (sym own))
      (λ apart. ap (words_or now) (stays (λ e. apart (sym e)))) at
  first_waves p (letters now) (words new) later reads changed stays kind at = absurd (cc kind)
  first_waves p (words now) (letters new) later reads changed stays kind at = absurd (cc kind)

  second_waves : (p : SignalPair) (now new : PairWaves) → floor ≤ tick_given g
      → (are_letters now ≡ true → p.second_variable ≡ variable_given g
      → value_of_digits p.width (text_given g) ≡ Some (extension p.width (letters_of_digits h.text)))
      → (p.second_variable ≡ variable_given g → HasText p.width bounds Second (tick_given g) (text_given g) now new)
      → (p.second_variable ≢ variable_given g → new ≡ now) → are_letters new ≡ are_letters now
      → ArePairWavesAt bounds floor f g p now → ArePairWavesAt bounds (tick_given g) f (given_one g h) p new
  second_waves p (letters now) (letters new) later reads changed stays kind at =
      second_changed same_letters bounds (signal_heard f p.width p.first_variable)
      (signal_heard g p.width p.second_variable) floor f.given g.given h now new later
      (λ own. changed (sym own) (extension p.width (letters_of_digits h.text)) (reads refl (sym own)))
      (λ apart. ap (letters_or now) (stays (λ e. apart (sym e)))) at
  second_waves p (words now) (words new) later reads changed stays kind at =
      second_changed bytes_eq bounds (skipped_heard f p.first_variable) (skipped_heard g p.second_variable) floor
      f.given g.given h now new later (λ own. changed (sym own))
      (λ apart. ap (words_or now) (stays (λ e. apart (sym e)))) at
  second_waves p (letters now) (words new) later reads changed stays kind at = absurd (cc kind)
  second_waves p (words now) (letters new) later reads changed stays kind at = absurd (cc kind)

  -- a change of the first file
  first_given : (old now new : SignalPair) → floor ≤ tick_given f → IsReadIn First f h old
      → IsPairAt bounds floor f g old now
      → IsPairAfter bounds First (variable_given f) (tick_given f) (text_given f) now new
      → IsPairAt bounds (tick_given f) (given_one f h) g old new
  first_given old now new later reads at after =
      let variable_is : now.first_variable ≡ old.first_variable =
      ap (λ (p : SignalPair). p.first_variable) at.others in
      let changed : old.first_variable ≡ variable_given f
      → HasText old.width bounds First (tick_given f) (text_given f) now.waves new.waves = λ own.
      subst (λ n. HasText n bounds First (tick_given f) (text_given f) now.waves new.waves)
      (ap (λ (p : SignalPair). p.width) at.others) (after.changed (variable_is ∙ own)) in
      let stays : old.first_variable ≢ variable_given f → new.waves ≡ now.waves = λ apart.
      after.unchanged (λ e. apart (sym variable_is ∙ e)) in
      let kind : are_letters new.waves ≡ are_letters now.waves = kind_stays old.width bounds First (variable_given f)
      (tick_given f) (text_given f) old.first_variable now.waves new.waves changed stays in
      record {
        others = after.others ∙ ap {A = SignalPair} {B = SignalPair} (λ p. record p { waves = new.waves }) at.others;
        kind = kind ∙ at.kind;
        compared = first_waves old now.waves new.waves later (λ are own. reads (sym at.kind ∙ are) own) changed stays
            kind at.compared;
      }

  -- a change of the second file
  second_given : (old now new : SignalPair) → floor ≤ tick_given g → IsReadIn Second g h old
      → IsPairAt bounds floor f g old now
      → IsPairAfter bounds Second (variable_given g) (tick_given g) (text_given g) now new
      → IsPairAt bounds (tick_given g) f (given_one g h) old new
  second_given old now new later reads at after =
      let variable_is : now.second_variable ≡ old.second_variable =
      ap (λ (p : SignalPair). p.second_variable) at.others in
      let changed : old.second_variable ≡ variable_given g
      → HasText old.width bounds Second (tick_given g) (text_given g) now.waves new.waves = λ own.
      subst (λ n. HasText n bounds Second (tick_given g) (text_given g) now.waves new.waves)
      (ap (λ (p : SignalPair). p.width) at.others) (after.changed (variable_is ∙ own)) in
      let stays : old.second_variable ≢ variable_given g → new.waves ≡ now.waves = λ apart.
      after.unchanged (λ e. apart (sym variable_is ∙ e)) in
      let kind : are_letters new.waves ≡ are_letters now.waves = kind_stays old.width bounds Second (variable_given g)
      (tick_given g) (text_given g) old.second_variable now.waves new.waves changed stays in
      record {
        others = after.others ∙ ap {A = SignalPair} {B = SignalPair} (λ p. record p { waves = new.waves }) at.others;
        kind = kind ∙ at.kind;
        compared = second_waves old now.waves new.waves later (λ are own. reads (sym at.kind ∙ are) own) changed stays
            kind at.compared;
      }

  -- ---- all pairs

  pub all_first_given : (old now new : List SignalPair) → floor ≤ tick_given f
      → ((i : ℕ) (default : SignalPair) → i < length old → IsReadIn First f h (get_or old i default))
      → ArePairsAt bounds floor f g old now
      → ArePairsAfter bounds First (variable_given f) (tick_given f) (text_given f) now new
      → ArePairsAt bounds (tick_given f) (given_one f h) g old new
  all_first_given old now new later reads at after = record {
    count = after.count ∙ at.count;
    each = λ i default below.
        let count = at.count in
        first_given (get_or old i default) (get_or now i default) (get_or new i default) later (reads i default below)
        (at.each i default below) (after.each i default (omega (arith, count, below)));
  }

  pub all_second_given : (old now new : List SignalPair) → floor ≤ tick_given g
      → ((i : ℕ) (default : SignalPair) → i < length old → IsReadIn Second g h (get_or old i default))
      → ArePairsAt bounds floor f g old now
      → ArePairsAfter bounds Second (variable_given g) (tick_given g) (text_given g) now new
      → ArePairsAt bounds (tick_given g) f (given_one g h) old new
  all_second_given old now new later reads at after = record {
    count = after.count ∙ at.count;
    each = λ i default below.
        let count = at.count in
        second_given (get_or old i default) (get_or now i default) (get_or new i default) later
        (reads i default below) (at.each i default below)
        (after.each i default (omega (arith, count, below)));
  }
