-- The words of a text are those that spell its items.
use Rattle.std.proofs.Common.{◌≡◌, ◌+◌, ◌∙◌, ℕ, Bool, true, false, not, List, [], ◌∷◌, ◌++◌, refl, ap, arith}
use Rattle.std.proofs.Common.{append_assoc}
use Rattle.std.specs.List.{list_all, flat_map, join_with_byte}
use Rattle.std.proofs.lemmas.Bool.{and_parts}
use Rattle.vcd_core.specs.Word.{is_white_space}
use Rattle.vcd_text.specs.Words.{word_on}
use Rattle.vcd_text.specs.inside.Words.{words_from}
use Rattle.vcd_text.specs.Items.{Item, spelling, spellings}
use Rattle.vcd_text.specs.Grammar.{word_texts}
use Rattle.vcd_text.specs.Text.{item_line}
use Rattle.vcd_text.proofs.shared.WordsInTurn.{word_whole, space_passed}

-- at least one byte, and no white space
abbrev pub is_unbroken : List ℕ → Bool
is_unbroken [] = false
is_unbroken (b ∷ bs) = list_all (λ b. not (is_white_space b)) (b ∷ bs)

-- whether an item is spelled by words
abbrev pub is_spelled : Item → Bool
is_spelled i = list_all is_unbroken (spelling i)

-- a word, and the words after the white space that follows it
word_first : (line b : ℕ) (w rest : List ℕ) → is_unbroken w ≡ true → is_white_space b ≡ true
    → words_from true [] line (w ++ (b ∷ rest)) ≡ word_on w line ∷ words_from true [] line (b ∷ rest)
word_first line b w rest unbroken space = grind (arith, word_whole)

-- the words of a line, and those of the lines after it
pub words_of_line : (line : ℕ) (ws : List (List ℕ)) (rest : List ℕ) → list_all is_unbroken ws ≡ true
    → word_texts (words_from true [] line (join_with_byte 32 ws ++ (10 ∷ rest))) ≡ ws
    ++ word_texts (words_from true [] (line + 1) rest)
words_of_line line [] rest unbroken = ap word_texts (space_passed true line 10 rest refl)
words_of_line line (w ∷ []) rest unbroken = grind (arith, word_first, and_parts, space_passed)
words_of_line line (w ∷ v ∷ ws) rest unbroken =
    let parts : (is_unbroken w ≡ true) × (list_all is_unbroken (v ∷ ws) ≡ true) = grind (arith, and_parts) in
    ap (λ l. word_texts (words_from true [] line l)) (append_assoc w (32 ∷ join_with_byte 32 (v ∷ ws)) (10 ∷ rest))
    ∙ ap word_texts (word_first line 32 w _ parts.0 refl) ∙ ap (λ words. w ∷ word_texts words)
    (space_passed true line 32 _ refl) ∙ ap (λ l. w ∷ l) (words_of_line line (v ∷ ws) rest parts.1)

-- the words of the lines of items
pub words_of_lines : (line : ℕ) (items : List Item) → list_all is_spelled items ≡ true
    → word_texts (words_from true [] line (flat_map item_line items)) ≡ spellings items
unfolding words_from
words_of_lines line [] spelled = refl
words_of_lines line (i ∷ is) spelled =
    let parts : (is_spelled i ≡ true) × (list_all is_spelled is ≡ true) = grind (arith, and_parts) in
    ap (λ l. word_texts (words_from true [] line l)) (append_assoc (join_with_byte 32 (spelling i)) (10 ∷ [])
    (flat_map item_line is)) ∙ words_of_line line (spelling i) (flat_map item_line is) parts.0
    ∙ ap (λ l. spelling i ++ l) (words_of_lines (line + 1) is parts.1)
