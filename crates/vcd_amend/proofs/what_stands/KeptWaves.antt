-- An amendment names no code that keeps its wave, so no change of such a code is put in.
use Rattle.std.proofs.Common.{◌≡◌, ℕ, ◌+◌, ◌≤◌, Bool, true, false, ◌∙◌, All, ◌&&◌, ◌||◌, List}
use Rattle.std.proofs.Common.{[], ◌∷◌, length, Option, Some, None, refl, sym, ap, inl, inr}
use Rattle.std.specs.Prelude.{bytes_eq, find, is_some}
use Rattle.std.specs.List.{list_all, list_any}
use Rattle.std.proofs.lemmas.Bool.{cases_Bool, false≢true, and_parts}
use Rattle.std.proofs.lemmas.List.Elements.{All-nil, All-cons, All-head, All-tail, All-weaker}
use Rattle.vcd_core.specs.Contents.{SignalContents}
use Rattle.vcd_core.specs.Sound.{IsSoundSignal}
use Rattle.vcd_core.specs.Word.{is_one_of}
use Rattle.vcd_text.specs.Grammar.{ParseState, VariableDeclaration, kept_variables, is_skipped}
use Rattle.vcd_text.specs.Text.{value_item}
use Rattle.vcd_core.specs.declared.bit.Bit.{Bit}
use Rattle.vcd_amend.specs.Amendment.{AmendedCode, Amendment, first_with_code, amended_code}
use Rattle.vcd_amend.specs.AmendedMeaning.{class_of, FitsFile, FitsAmendedCode}
use Rattle.vcd_amend.specs.FreshCodes.{fresh_code}
use Rattle.vcd_amend.specs.GivenCodes.{AreSignalsOf, IsFileState, amendment_for, held_codes, is_unchanged, new_waves}
use Rattle.vcd_amend.specs.GivenCodes.{signals_left}
use Rattle.vcd_amend.specs.WhatStands.{keeps_wave, may_be_put_in}
use Rattle.vcd_amend.proofs.amended.OneCode.{itself, same_bytes}
use Rattle.vcd_amend.proofs.shared.Lists.{found_has, found_is}
use Rattle.vcd_amend.proofs.given_codes.CodedWaves.{taken_not_given}
use Rattle.vcd_amend.proofs.given_codes.Fits.{all_fit}
use Rattle.vcd_amend.proofs.given_codes.FreshCodes.{fresh_codes_are_fresh}
use Rattle.vcd_amend.proofs.given_codes.Gives.{amendment_fits}

-- ---- no skipped variable has an amended code

module _ (code : List ℕ) (width : ℕ) where
  abbrev OfWidth : VariableDeclaration → Type 0
  OfWidth d = d.code ≡ code → class_of d ≡ Some width

  none_is_skipped : (ds : List VariableDeclaration) → All OfWidth ds
      → list_any (λ d. is_skipped d && bytes_eq code d.code) ds ≡ false
  none_is_skipped [] all = refl
  none_is_skipped (d ∷ ds) all = elim (cases_Bool (is_skipped d && bytes_eq code d.code)) [
    | inl both ↦
        let parts = and_parts (is_skipped d) (bytes_eq code d.code) both in
        let class : class_of d ≡ Some width = All-head OfWidth d ds all (sym (same_bytes code d.code parts.1)) in
        let never : None ≡ Some width = rw parts.0 at class in
        absurd (cc)
    | inr apart ↦ rw apart (none_is_skipped ds (All-tail OfWidth d ds all))
  ]

  -- where no variable has the code
  none_of_code : (ds : List VariableDeclaration) → first_with_code code ds ≡ None → All OfWidth ds
  none_of_code [] none = All-nil OfWidth
  none_of_code (d ∷ ds) none = elim (cases_Bool (bytes_eq code d.code)) [
    | inl here ↦ let never : Some d ≡ None = rw here at none in absurd (cc)
    | inr there ↦ All-cons OfWidth d ds (λ same. absurd (false≢true (sym there ∙ ap (bytes_eq code) same
        ∙ itself code))) (none_of_code ds (rw there at none))
  ]

-- ---- a held code is one of the file

module _ (s : ParseState) (code : List ℕ) where
  abbrev HasCode : List VariableDeclaration → Bool
  HasCode ds = is_some (find (λ (d : VariableDeclaration). bytes_eq code d.code) ds)

  one_more : (d : VariableDeclaration) (ds : List VariableDeclaration) → HasCode ds ≡ true → HasCode (d ∷ ds) ≡ true
  one_more d ds has = elim (cases_Bool (bytes_eq code d.code)) [
    | inl here ↦ rw here refl
    | inr there ↦ rw there has
  ]

  held_is_one : (ds : List VariableDeclaration) (ns : List (Option SignalContents))
      → is_one_of (held_codes s ds ns) code ≡ true → HasCode ds ≡ true
  held_is_one [] ns held = absurd (false≢true held)
  held_is_one (d ∷ ds) [] held = absurd (false≢true held)
  held_is_one (d ∷ ds) (None ∷ ns) held = one_more d ds (held_is_one ds ns held)
  held_is_one (d ∷ ds) (Some n ∷ ns) held = elim (cases_Bool (is_unchanged s d n)) [
    | inl same ↦
        let there : (bytes_eq code d.code || is_one_of (held_codes s ds ns) code) ≡ true = rw same at held in
        elim (cases_Bool (bytes_eq code d.code)) [
          | inl own ↦ rw own refl
          | inr beside ↦ rw beside (held_is_one ds ns (rw beside at there))
        ]
    | inr differs ↦ one_more d ds (held_is_one ds ns (rw differs at held))
  ]

  kept_is_one : (ds : List VariableDeclaration) → HasCode (kept_variables ds) ≡ true → HasCode ds ≡ true
  kept_is_one [] has = has
  kept_is_one (d ∷ ds) has = elim (cases_Bool (is_skipped d)) [
    | inl skipped ↦
        let none : kept_variables (d ∷ ds) ≡ kept_variables ds = rw skipped refl in
        one_more d ds (kept_is_one ds (ap HasCode (sym none) ∙ has))
    | inr kept ↦
        let one : kept_variables (d ∷ ds) ≡ d ∷ kept_variables ds = rw kept refl in
        let there : HasCode (d ∷ kept_variables ds) ≡ true = ap HasCode (sym one) ∙ has in
        elim (cases_Bool (bytes_eq code d.code)) [
          | inl own ↦ rw own refl
          | inr beside ↦ rw beside (kept_is_one ds (rw beside at there))
        ]
  ]

-- ---- amended codes

module _ (s : ParseState) (file : IsFileState s) (remaining : List (Option SignalContents))
    (derived : List SignalContents) (are : AreSignalsOf s (kept_variables s.declared) remaining)
    (sound : All (IsSoundSignal s.tick) derived) (few : length (signals_left remaining) + length derived ≤ s.limit)
  where
    abbrev a : Amendment
    a = amendment_for s remaining derived

    abbrev held : List (List ℕ)
    held = held_codes s (kept_variables s.declared) remaining

    fit : FitsFile a s
    fit = amendment_fits s _ _ _ (all_fit (fresh_code s) s (fresh_codes_are_fresh s) file remaining derived are sound
        few)

    module _ (code : List ℕ) (c : AmendedCode) (is : amended_code code a.codes ≡ Some c) where
      fits : FitsAmendedCode a s c
      fits = found_has (FitsAmendedCode a s) (λ (c : AmendedCode). bytes_eq code c.code) a.codes c fit.codes is

      same_code : code ≡ c.code
      same_code = same_bytes code c.code (found_is (λ (c : AmendedCode). bytes_eq code c.code) a.codes c is)

      of_width : (o : Option VariableDeclaration) → first_with_code code s.declared ≡ o
          → All (OfWidth code c.width) s.declared
      of_width None none = none_of_code code c.width s.declared none
      of_width (Some first) found = All-weaker (λ d. d.code ≡ code → class_of d ≡ class_of first)
          (OfWidth code c.width) (λ d alike same. alike same
          ∙ fits.fits first (ap (λ k. first_with_code k s.declared) (sym same_code) ∙ found))
          s.declared (file.alike code first found)

      not_held : (b : Bool) → is_one_of held code ≡ b → is_one_of held code ≡ false
      not_held false free = free
      not_held true there =
          let known : is_some (first_with_code code s.declared) ≡ true =
          kept_is_one s code s.declared (held_is_one s code (kept_variables s.declared) remaining there) in
          let none : amended_code code a.codes ≡ None = taken_not_given (fresh_code s) s (fresh_codes_are_fresh s) code
          held 0 (new_waves s remaining derived) known there in
          let never : None ≡ Some c = sym none ∙ is in
          absurd (cc)

      keeps_none : keeps_wave s remaining code ≡ false
      keeps_none =
          rw (none_is_skipped code c.width s.declared (of_width (first_with_code code s.declared) refl))
          (not_held (is_one_of held code) refl)

    -- a change of an amended code may be put in
    pub value_comes : (signals : List SignalContents) (c : AmendedCode) (v : List Bit)
        → amended_code c.code a.codes ≡ Some c
        → list_all (may_be_put_in s remaining signals) (value_item c.code v ∷ []) ≡ true
    value_comes signals c [] is = rw (keeps_none c.code c is) refl
    value_comes signals c (b ∷ []) is = rw (keeps_none c.code c is) refl
    value_comes signals c (b ∷ e ∷ v) is = rw (keeps_none c.code c is) refl
