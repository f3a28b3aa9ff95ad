-- The letters that the changes of lines give, which are those of their signals after cuts.
use Rattle.std.proofs.Common.{◌≡◌, ◌≢◌, ◌<◌, ℕ, zero, suc, ◌+◌, ◌-◌, Bool, true, false, ◌&&◌, ◌==◌}
use Rattle.std.proofs.Common.{if◌then◌else◌, nat_le}
use Rattle.std.proofs.Common.{List, [], ◌∷◌, ◌++◌, length, replicate, map, filter, refl, sym, ap, ◌∙◌, arith, inl, inr}
use Rattle.std.proofs.Common.{Option, Some, eq-eqb}
use Rattle.std.specs.Prelude.{slice_get}
use Rattle.std.proofs.lemmas.Bool.{cases_Bool, ne_eqb}
use Rattle.vcd_core.specs.declared.bit.Bit.{Bit}
use Rattle.vcd_core.specs.Value.{letter_at}
use Rattle.vcd_core.specs.declared.wave.Change.{Change}
use Rattle.vcd_core.specs.Wave.{change, value_from}
use Rattle.vcd_text.specs.HeardChanges.{HeardChange, heard_changes, is_of_kept}
use Rattle.vcd_text.specs.Letters.{extension, letters_of_digits, pad_letter}
use Rattle.vcd_amend.specs.declared.cut_ticks.CutTicks.{CutTicks}
use Rattle.vcd_decode.specs.LineChanges.{letter_from}
use Rattle.vcd_amend_run.specs.inside.FileLines.{tick_moved_by_cuts, last_letter, is_of_line, changes_of_line}
use Rattle.vcd_amend_run.specs.inside.FileLines.{changes_of_lines, changes_of_heard}
use Rattle.vcd_decode.specs.declared.edge_maker.LineChange.{LineChange}

letter_from_both : (before : Bit) (line : ℕ) (xs ys : List LineChange) (t : ℕ)
    → letter_from before line (xs ++ ys) t ≡ letter_from (letter_from before line xs t) line ys t
unfolding letter_from
letter_from_both before line [] ys t = refl
letter_from_both before line (x ∷ xs) ys t =
    letter_from_both (if (x.line == line) && nat_le x.tick t then x.letter else before) line xs ys t

-- ---- one heard change

-- a value of one bit has the lowest letter of what is written
lowest_letter : (s : List Bit) → letter_at (extension 1 s) 0 ≡ letter_at s 0
lowest_letter [] = refl
lowest_letter (b ∷ s) =
    let none : 1 - length (b ∷ s) ≡ 0 = omega arith in
    ap (λ n. letter_at (replicate n (pad_letter (b ∷ s)) ++ b ∷ s) 0) none

module _ (cuts : List CutTicks) (h : HeardChange) (t : ℕ) where
  -- the changes of other lines change nothing
  of_other_line : (before : Bit) (line from : ℕ) (first : Option ℕ) → from ≢ line
      → letter_from before line (changes_of_line cuts first from h) t ≡ before
  unfolding letter_from
  of_other_line before line from first other =
      elim (cases_Bool (is_of_line first h.target)) [
        | inl own ↦ rw own (rw (ne_eqb from line other) refl)
        | inr none ↦ rw none refl
      ]

  of_later_lines : (before : Bit) (line from : ℕ) (firsts : List (Option ℕ)) → line < from
      → letter_from before line (changes_of_lines cuts firsts from h) t ≡ before
  unfolding letter_from changes_of_lines
  of_later_lines before line from [] less = refl
  of_later_lines before line from (first ∷ firsts) less =
      letter_from_both before line (changes_of_line cuts first from h) (changes_of_lines cuts firsts (from + 1) h) t
      ∙ ap (λ b. letter_from b line (changes_of_lines cuts firsts (from + 1) h) t)
      (of_other_line before line from first (λ e. omega (arith, e, less)))
      ∙ of_later_lines before line (from + 1) firsts (omega (arith, less))

  -- the letter of a line after a change, by its first variable
  abbrev letter_after : (before : Bit) (p : ℕ) → Bit
  letter_after before p =
      if is_of_kept p h.target && nat_le (tick_moved_by_cuts cuts h.tick) t then last_letter h.text else before

  of_own_line : (before : Bit) (line from p : ℕ) → line ≡ from
      → letter_from before line (changes_of_line cuts (Some p) from h) t ≡ letter_after before p
  unfolding letter_from
  of_own_line before line from p same =
      elim (cases_Bool (is_of_kept p h.target)) [
        | inl own ↦ rw own (rw (eq-eqb from line (sym same)) refl)
        | inr other ↦ rw other refl
      ]

  of_lines : (before : Bit) (line from j p : ℕ) (firsts : List (Option ℕ)) → line ≡ from + j
      → slice_get firsts j ≡ Some (Some p)
      → letter_from before line (changes_of_lines cuts firsts from h) t ≡ letter_after before p
  unfolding letter_from changes_of_lines
  of_lines before line from j p [] is at = absurd (cc at)
  of_lines before line from zero p (first ∷ firsts) is at =
      let own : first ≡ Some p = cc at in
      letter_from_both before line (changes_of_line cuts first from h) (changes_of_lines cuts firsts (from + 1) h) t
      ∙ of_later_lines _ line (from + 1) firsts (omega (arith, is))
      ∙ ap (λ (f : Option ℕ). letter_from before line (changes_of_line cuts f from h) t) own
      ∙ of_own_line before line from p (omega (arith, is))
  of_lines before line from (suc j) p (first ∷ firsts) is at =
      letter_from_both before line (changes_of_line cuts first from h) (changes_of_lines cuts firsts (from + 1) h) t
      ∙ ap (λ b. letter_from b line (changes_of_lines cuts firsts (from + 1) h) t)
      (of_other_line before line from first (λ e. omega (arith, e, is)))
      ∙ of_lines before line (from + 1) j p firsts (omega (arith, is)) at

-- ---- all of them

abbrev value_change : HeardChange → Change
value_change h = change h.tick (extension 1 (letters_of_digits h.text))

-- the value after a change of a variable
value_step : (own : Bool) (before : List Bit) (h : HeardChange) (hs : List HeardChange) (w : ℕ)
    → value_from before (map value_change (if own then h ∷ hs else hs)) w
    ≡ value_from (if own && nat_le h.tick w then extension 1 (letters_of_digits h.text) else before)
    (map value_change hs) w
unfolding value_from
value_step true before h hs w = refl
value_step false before h hs w = refl

letter_step : (changed : Bool) (before : List Bit) (text : List ℕ)
    → (if changed then last_letter text else letter_at before 0)
    ≡ letter_at (if changed then extension 1 (letters_of_digits text) else before) 0
letter_step true before text = sym (lowest_letter (letters_of_digits text))
letter_step false before text = refl

-- the letter of a line at a tick after cuts is that of its variable at the tick before
module _ (cuts : List CutTicks) (firsts : List (Option ℕ)) (line p u w : ℕ)
    (at : slice_get firsts line ≡ Some (Some p))
    (same : (t : ℕ) → nat_le (tick_moved_by_cuts cuts t) u ≡ nat_le t w) where
  pub letters_heard : (hs : List HeardChange) (before : List Bit)
      → letter_from (letter_at before 0) line (changes_of_heard cuts firsts hs) u
      ≡ letter_at (value_from before (heard_changes 1 p hs) w) 0
  unfolding letter_from changes_of_heard value_from
  letters_heard [] before = refl
  letters_heard (h ∷ hs) before =
      let own = is_of_kept p h.target in
      let later = changes_of_heard cuts firsts hs in
      let letters : List Bit = extension 1 (letters_of_digits h.text) in
      letter_from_both (letter_at before 0) line (changes_of_lines cuts firsts 0 h) later u
      ∙ ap (λ (b : Bit). letter_from b line later u)
      (of_lines cuts h u (letter_at before 0) line 0 line p firsts (omega arith) at
      ∙ ap (λ (b : Bool). if own && b then last_letter h.text else letter_at before 0) (same h.tick)
      ∙ letter_step (own && nat_le h.tick w) before h.text)
      ∙ letters_heard hs (if own && nat_le h.tick w then letters else before)
      ∙ ap (λ (v : List Bit). letter_at v 0)
      (sym (value_step own before h (filter (λ (g : HeardChange). is_of_kept p g.target) hs) w))
