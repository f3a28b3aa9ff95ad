-- A text in which each word comes after a space, and its words.
use Rattle.std.proofs.Common.{◌≡◌, ℕ, true, not, List, [], ◌∷◌, ◌++◌, take, drop, refl, sym, ap, ◌∙◌, arith}
use Rattle.std.specs.List.{flat_map, list_all}
use Rattle.std.proofs.lemmas.Bool.{and_parts}
use Rattle.std.proofs.lemmas.List.{append-nil, append_assoc, take-append-drop}
use Rattle.vcd_core.specs.Word.{is_white_space}
use Rattle.vcd_core.specs.inside.HeaderWords.{is_space, begins_with_space, with_byte, split_at_spaces, words_of_text}

-- no byte of a word is a space
pub no_space : (word : List ℕ) → list_all (λ b. not (is_white_space b)) word ≡ true
    → list_all (λ b. not (is_space b)) word ≡ true
no_space [] none = refl
no_space (b ∷ word) none = grind (arith, no_space word, and_parts)

-- bytes without a space come before the text that follows them
pub split_word : (word text : List ℕ) → list_all (λ b. not (is_space b)) word ≡ true
    → begins_with_space text ≡ true → split_at_spaces (word ++ text) ≡ (word, words_of_text text)
unfolding split_at_spaces
split_word [] [] none begins = refl
split_word [] (b ∷ text) none begins = grind arith
split_word (b ∷ word) text none begins = grind (arith, split_word word text, and_parts)

-- a word after a space is the last one
pub split_pushed : (text word : List ℕ) → list_all (λ b. not (is_space b)) word ≡ true
    → split_at_spaces (text ++ 32 ∷ word)
    ≡ ((split_at_spaces text).0, words_of_text text ++ word ∷ [])
unfolding split_at_spaces
split_pushed [] word none =
    ap (with_byte 32) (ap split_at_spaces (sym (append-nil word)) ∙ split_word word [] none refl)
split_pushed (b ∷ text) word none = grind (arith, split_pushed text word)

pub word_pushed : (text word : List ℕ) → list_all (λ b. not (is_white_space b)) word ≡ true
    → words_of_text (text ++ 32 ∷ [] ++ word) ≡ words_of_text text ++ word ∷ []
word_pushed text word none =
    ap words_of_text (append_assoc text (32 ∷ []) word)
    ∙ ap (λ (s : List ℕ × List (List ℕ)). s.1) (split_pushed text word (no_space word none))

-- the text is its words, each after a space, and what stands before the first space
pub text_again : (text : List ℕ)
    → text ≡ (split_at_spaces text).0 ++ flat_map (λ word. 32 ∷ word) (words_of_text text)
unfolding split_at_spaces
text_again [] = refl
text_again (b ∷ text) = grind (arith, text_again text)

-- nothing stands before the first space of a text that begins with one
pub nothing_before : (text : List ℕ) → begins_with_space text ≡ true → (split_at_spaces text).0 ≡ []
unfolding split_at_spaces
nothing_before [] begins = refl
nothing_before (b ∷ text) begins = grind arith

pub text_is : (text : List ℕ) → begins_with_space text ≡ true
    → text ≡ flat_map (λ word. 32 ∷ word) (words_of_text text)
text_is text begins =
    text_again text
    ∙ ap (λ before. before ++ flat_map (λ word. 32 ∷ word) (words_of_text text)) (nothing_before text begins)

pub no_words : words_of_text [] ≡ []
unfolding split_at_spaces
no_words = refl

-- the first word ends before the next space
pub first_is : (byte : ℕ) (after : List ℕ) (n : ℕ) → is_space byte ≡ true
    → list_all (λ b. not (is_space b)) (take n after) ≡ true → begins_with_space (drop n after) ≡ true
    → words_of_text (byte ∷ after) ≡ take n after ∷ words_of_text (drop n after)
unfolding split_at_spaces
first_is byte after n space none begins =
    let parts : split_at_spaces after ≡ (take n after, words_of_text (drop n after)) =
    ap split_at_spaces (sym (take-append-drop n after)) ∙ split_word (take n after) (drop n after) none begins in
    grind arith

pub ruleset first_word_is = (first_is, no_words)
