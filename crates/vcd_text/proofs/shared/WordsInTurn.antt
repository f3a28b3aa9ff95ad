-- The words of a text: the first is at its front, each is a run of bytes other than white space.
use Rattle.std.proofs.Common.{◌≡◌, ℕ, ◌+◌, ◌<◌, ◌≤◌, Bool, true, false, not, cond, ◌&&◌, ◌==◌, List, [], ◌∷◌, ◌++◌}
use Rattle.std.proofs.Common.{length, map, take, drop, refl, sym, ap, ◌∙◌, append_assoc, arith}
use Rattle.std.specs.List.{All, list_all}
use Rattle.std.proofs.lemmas.List.{append-nil, length-append, take-append-drop}
use Rattle.std.proofs.lemmas.List.Sums.{sum_by-append}
use Rattle.std.proofs.lemmas.List.Elements.{All-nil, All-head, All-tail}
use Rattle.std.proofs.lemmas.Bool.Decides.{Decides-eqb}
use Rattle.std.proofs.lemmas.Bool.{ne_eqb, and_parts, not-true}
use Rattle.std.proofs.lemmas.List.Folds.{list_all-append}
use Rattle.vcd_core.specs.Word.{is_white_space}
use Rattle.vcd_text.specs.inside.Words.{begins_with_space, ends_before, line_after, word_of, words_from}
use Rattle.vcd_text.specs.LineFeeds.{line_feeds_in}
use Rattle.vcd_text.specs.Words.{WordOnLine, word_on}
use Rattle.std.proofs.lemmas.Grind.{common_steps}

-- a fact of a test, in both cases
pub by_test : (P : Bool → Type 0) (b : Bool) → (b ≡ true → P true) → (b ≡ false → P false) → P b
by_test P b t f = grind arith

-- a byte that is no white space is no line feed
pub no_space_is_no_feed : (b : ℕ) → is_white_space b ≡ false → (b == 10) ≡ false
no_space_is_no_feed b no_space = grind (arith, Decides-eqb)

-- ---- line feeds

pub line_feeds_of_both : (xs ys : List ℕ) → line_feeds_in (xs ++ ys) ≡ line_feeds_in xs + line_feeds_in ys
line_feeds_of_both xs ys = sum_by-append (λ b. cond (b == 10) 1 0) xs ys

-- one line feed at the front, or none
pub feed_first : (b : ℕ) (bs text : List ℕ) → text ≡ b ∷ bs → b ≡ 10 → line_feeds_in text ≡ 1 + line_feeds_in bs
feed_first b bs text is feed = grind (arith, common_steps, line_feeds_of_both)

pub other_first : (b : ℕ) (bs text : List ℕ) → text ≡ b ∷ bs → (b == 10) ≡ false → line_feeds_in text ≡ line_feeds_in bs
other_first b bs text is other = grind (arith, line_feeds_of_both)

-- a word has no line feed
pub no_line_feeds : (word : List ℕ) → list_all (λ b. not (is_white_space b)) word ≡ true → line_feeds_in word ≡ 0
no_line_feeds [] no_space = refl
no_line_feeds (b ∷ bs) no_space =
    let parts = and_parts (not (is_white_space b)) (list_all (λ b. not (is_white_space b)) bs) no_space in
    other_first b bs _ refl (no_space_is_no_feed b (not-true (is_white_space b) parts.0)) ∙ no_line_feeds bs parts.1

pub line_feeds_after : (n : ℕ) (text : List ℕ) → list_all (λ b. not (is_white_space b)) (take n text) ≡ true
    → line_feeds_in (drop n text) ≡ line_feeds_in text
line_feeds_after n text no_space = omega (
  arith,
  ap line_feeds_in (take-append-drop n text),
  line_feeds_of_both (take n text) (drop n text),
  no_line_feeds (take n text) no_space,
)

-- ---- words at the front

pub same_line : (b line : ℕ) → is_white_space b ≡ false → line_after b line ≡ line
same_line b line no_space = ap (λ t. cond t (line + 1) line) (no_space_is_no_feed b no_space)

-- bytes that go on with a word
goes_on : (end_counts : Bool) (begun : List ℕ) (line : ℕ) (w rest : List ℕ)
    → list_all (λ b. not (is_white_space b)) w ≡ true
    → words_from end_counts begun line (w ++ rest) ≡ words_from end_counts (begun ++ w) line rest
unfolding words_from
goes_on end_counts begun line [] rest no_space = grind (arith, append-nil)
goes_on end_counts begun line (b ∷ w) rest no_space =
    let parts = and_parts _ _ no_space in
    let here : is_white_space b ≡ false = not-true _ parts.0 in
    ap (λ t. cond t (word_of begun line) [] ++ words_from end_counts (cond t [] (begun ++ b ∷ [])) (line_after b line)
    (w ++ rest)) here ∙ ap (λ n. words_from end_counts (begun ++ b ∷ []) n (w ++ rest)) (same_line b line here)
    ∙ goes_on end_counts (begun ++ b ∷ []) line w rest parts.1 ∙ ap (λ ws. words_from end_counts ws line rest)
    (append_assoc begun (b ∷ []) w)

-- the words of a text that begins with a word
pub word_whole : (end_counts : Bool) (line : ℕ) (w rest : List ℕ) → 0 < length w
    → list_all (λ b. not (is_white_space b)) w ≡ true → ends_before end_counts rest ≡ true
    → words_from end_counts [] line (w ++ rest) ≡ word_on w line ∷ words_from end_counts [] line rest
unfolding words_from
word_whole end_counts line w rest some no_space ends = grind (arith, goes_on)

-- the same at an index of the text
pub word_split : (end_counts : Bool) (line n : ℕ) (text : List ℕ) → 0 < length (take n text)
    → list_all (λ b. not (is_white_space b)) (take n text) ≡ true → ends_before end_counts (drop n text) ≡ true
    → words_from end_counts [] line text ≡ word_on (take n text) line ∷ words_from end_counts [] line (drop n text)
word_split end_counts line n text some no_space ends = ap (words_from end_counts [] line)
    (sym (take-append-drop n text)) ∙ word_whole end_counts line (take n text) (drop n text) some no_space ends

-- white space at the front
pub space_passed : (end_counts : Bool) (line b : ℕ) (bs : List ℕ) → is_white_space b ≡ true
    → words_from end_counts [] line (b ∷ bs) ≡ words_from end_counts [] (line_after b line) bs
unfolding words_from
space_passed end_counts line b bs space = grind arith

-- if a text has no word at its front, and no white space, it is at its end
pub no_word : (end_counts : Bool) (line n : ℕ) (text : List ℕ) → length (take n text) ≡ 0
    → begins_with_space text ≡ false → ends_before true (drop n text) ≡ true
    → (words_from end_counts [] line text ≡ []) × (drop n text ≡ [])
unfolding words_from
no_word end_counts line n text h4 h5 h6 = grind arith

-- a word that is not complete does not count
pub word_part : (line : ℕ) (w : List ℕ) → list_all (λ b. not (is_white_space b)) w ≡ true →
    words_from false [] line w ≡ []
unfolding words_from
word_part line w no_space = ap (words_from false [] line) (sym (append-nil w)) ∙ goes_on false [] line w [] no_space

-- ---- the form of words

-- at least one byte, none of them white space
abbrev pub is_run : List ℕ → Type 0
is_run text = (0 < length text) × (list_all (λ b. not (is_white_space b)) text ≡ true)

run_of : (begun : List ℕ) (line : ℕ) → list_all (λ b. not (is_white_space b)) begun ≡ true
    → All (λ (w : WordOnLine). is_run w.text) (word_of begun line)
run_of begun line no_space = grind arith

pub runs_from : (end_counts : Bool) (begun : List ℕ) (line : ℕ) (bytes : List ℕ)
    → list_all (λ b. not (is_white_space b)) begun ≡ true
    → All (λ (w : WordOnLine). is_run w.text) (words_from end_counts begun line bytes)
unfolding words_from
runs_from false begun line [] no_space = All-nil (λ (w : WordOnLine). is_run w.text)
runs_from true begun line [] no_space = run_of begun line no_space
runs_from end_counts begun line (b ∷ bs) no_space = by_test (λ t. All (λ (w : WordOnLine). is_run w.text)
    (cond t (word_of begun line) [] ++ words_from end_counts (cond t [] (begun ++ b ∷ [])) (line_after b line) bs))
    (is_white_space b) (grind (arith, run_of, runs_from end_counts [] (line_after b line) bs refl))
    (λ isnt. runs_from end_counts (begun ++ b ∷ []) (line_after b line) bs (grind (arith, list_all-append)))

-- as tests: a run of bytes other than white space
abbrev pub is_run_text : List ℕ → Bool
is_run_text text = not (length text == 0) && list_all (λ b. not (is_white_space b)) text

run_passes : (text : List ℕ) → is_run text → is_run_text text ≡ true
run_passes text (some, no_space) = rw (ne_eqb (length text) 0 (λ none. absurd (omega arith)), no_space) refl

pub texts_pass : (ws : List WordOnLine) → All (λ (w : WordOnLine). is_run w.text) ws
    → list_all is_run_text (map (λ (w : WordOnLine). w.text) ws) ≡ true
texts_pass [] runs = refl
texts_pass (w ∷ ws) runs = ap (λ t. t && list_all is_run_text (map (λ (w : WordOnLine). w.text) ws))
    (run_passes w.text (All-head (λ (w : WordOnLine). is_run w.text) w ws runs)) ∙ texts_pass ws
    (All-tail (λ (w : WordOnLine). is_run w.text) w ws runs)

-- there are no more words than bytes
one_at_most : (begun : List ℕ) (line : ℕ) → length (word_of begun line) ≤ length begun
one_at_most begun line = grind arith

few_from : (end_counts : Bool) (begun : List ℕ) (line : ℕ) (bytes : List ℕ)
    → length (words_from end_counts begun line bytes) ≤ length begun + length bytes
unfolding words_from
few_from false begun line [] = omega arith
few_from true begun line [] = omega (arith, one_at_most begun line)
few_from end_counts begun line (b ∷ bs) = grind (
  arith,
  by_test,
  length-append,
  one_at_most,
  few_from end_counts [] (line_after b line) bs,
  few_from end_counts (begun ++ b ∷ []) (line_after b line) bs,
)

pub words_are_few : (end_counts : Bool) (line : ℕ) (bytes : List ℕ)
    → length (words_from end_counts [] line bytes) ≤ length bytes
words_are_few end_counts line bytes = omega (arith, few_from end_counts [] line bytes)
