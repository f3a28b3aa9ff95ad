-- White space that is held, and a word after white space.
use Rattle.std.proofs.Common.{◌≡◌, ◌∙◌, ◌⊎◌, inl, inr, ℕ, ◌<◌, Bool, true, false, not, cond, List, [], ◌∷◌}
use Rattle.std.proofs.Common.{◌++◌}
use Rattle.std.proofs.Common.{length, refl, sym, ap, arith, append_assoc}
use Rattle.std.specs.List.{list_all}
use Rattle.std.proofs.lemmas.List.{append-nil, length-append}
use Rattle.std.proofs.lemmas.List.Folds.{list_all-append}
use Rattle.std.proofs.lemmas.Bool.{and_parts, and_from, not-true, false≢true}
use Rattle.vcd_core.specs.Word.{is_white_space}
use Rattle.vcd_copy.specs.Pieces.{Piece}
use Rattle.vcd_copy.specs.Copied.{CopyRules}
use Rattle.vcd_text.specs.inside.Words.{has_complete_words, ends_before}
use Rattle.vcd_copy.specs.inside.Copying.{HasCopied, IsSpacedWord, stands_open}
use Rattle.vcd_copy.specs.Pieces.{piece_bytes}
use Rattle.vcd_text.specs.declared.reading.parser.Parser.{Parser}

-- white space that is held
pub gap_copied : {limit : ℕ} {rules : CopyRules} {seen : List Piece → Type 0} {written : List ℕ → Type 0}
    {m : Parser} {held before : List ℕ} {len : ℕ} (later rest : List ℕ)
    → HasCopied limit rules seen written m held len before → list_all is_white_space rest ≡ true
    → later ≡ held ++ rest → HasCopied limit rules seen written m later len (before ++ rest)
gap_copied {m = m} {before = before} later rest h white is = record {
  asked = h.asked;
  pieces = h.pieces;
  begun = h.begun;
  space = h.space;
  body = h.body;
  gap = h.gap ++ rest;
  cut = h.cut;
  allowed = h.allowed;
  at = h.at;
  opened = h.opened;
  gap_white = list_all-append is_white_space h.gap rest ∙ and_from (list_all is_white_space h.gap)
      (list_all is_white_space
      rest) h.gap_white white;
  gap_some = some rest refl;
  whole = ap (λ l. l ++ rest) h.whole ∙ regrouped (piece_bytes h.pieces) h.space h.body h.gap rest;
  seen = h.seen;
  writes = h.writes;
  held_is = is ∙ ap (λ l. l ++ rest) h.held_is ∙ held_more (stands_open m.item) h.space h.body h.gap rest;
  len = h.len;
}
  where
    regrouped : (p a b c d : List ℕ) → (p ++ (a ++ (b ++ c))) ++ d ≡ p ++ (a ++ (b ++ (c ++ d)))
    regrouped p a b c d = grind (arith, append_assoc)

    held_more : (t : Bool) (a b c d : List ℕ) → cond t c (a ++ (b ++ c)) ++ d ≡ cond t (c ++ d) (a ++ (b ++ (c ++ d)))
    held_more true a b c d = refl
    held_more false a b c d = grind (arith, append_assoc)

    some : (bytes : List ℕ) → rest ≡ bytes → has_complete_words (before ++ rest) ≡ true → (0 < length (h.gap ++ rest))
        ⊎ ((h.pieces ≡ []) × (h.begun ≡ []))
    some [] none complete = elim (h.gap_some (ap has_complete_words (sym (append-nil before)
        ∙ ap (λ l. before ++ l) (sym
        none)) ∙ complete)) [
          | inl here ↦ inl (omega (arith, here, length-append h.gap rest))
          | inr empty ↦ inr empty
        ]
    some (b ∷ bs) is complete = inl (omega (arith, ap (length {A = ℕ}) is, length-append h.gap rest))

first_white : (space text left : List ℕ) → ends_before true (space ++ (text ++ left)) ≡ true
    → list_all (λ b. not (is_white_space b)) text ≡ true → 0 < length text → 0 < length space
first_white [] [] left ends none some = absurd (omega (arith, some))
first_white [] (b ∷ bs) left ends none some =
    let no : is_white_space b ≡ false = not-true (is_white_space b) (and_parts (not (is_white_space b)) (list_all (λ b.
    not (is_white_space b)) bs) none).0 in absurd (false≢true (sym no ∙ ends))
first_white (b ∷ bs) text left ends none some = omega arith

-- the next word with the white space before it
pub next_is_spaced : (before done rest space text left : List ℕ) → has_complete_words before ≡ true
    → (done ≡ []) ⊎ (ends_before true rest ≡ true) → rest ≡ space ++ (text ++ left)
    → list_all is_white_space space ≡ true → list_all (λ b. not (is_white_space b)) text ≡ true → 0 < length text
    → IsSpacedWord (before ++ done) (space ++ text) text
next_is_spaced before done rest space text left complete ends is white none some = record {
  space = space;
  is = refl;
  white = white;
  apart = elim ends [
    | inl nothing ↦ inr (ap has_complete_words (ap (λ l. before ++ l) nothing ∙ append-nil before) ∙ complete)
    | inr here ↦ inl (first_white space text left (ap (ends_before true) (sym is) ∙ here) none some)
  ];
}
