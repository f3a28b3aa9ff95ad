-- The words of a `$var` in the place of its own, with the white space between them.
use Rattle.std.proofs.Common.{◌≡◌, ◌<◌, ◌+◌, ◌-◌, ℕ, Bool, true, false, not, List, [], ◌∷◌, ◌++◌}
use Rattle.std.proofs.Common.{◌≤◌, nat_lt, length, take, drop, refl, sym, ap, ◌∙◌, append_assoc, arith, codes}
use Rattle.std.proofs.Common.{if◌then◌else◌}
use Rattle.std.specs.Prelude.{slice_index_or}
use Rattle.std.specs.List.{list_all, join_with_byte}
use Rattle.std.proofs.lemmas.Bool.{eq-eqb}
use Rattle.vcd_text.specs.Words.{WordOnLine, words_of}
use Rattle.vcd_copy.specs.Pieces.{Piece}
use Rattle.std.proofs.lemmas.Bool.{and_parts, not-true}
use Rattle.std.proofs.lemmas.Bool.{ne_eqb, le-ltb}
use Rattle.std.proofs.lemmas.List.{append-nil, length-append, length-drop, drop_more, get_or_past, length-map}
use Rattle.std.proofs.Math.Seq.{take-append_seam}
use Rattle.vcd_core.specs.Word.{is_white_space}
use Rattle.vcd_text.specs.Items.{spelling, variable, end_word}
use Rattle.vcd_text.specs.inside.Words.{ends_before}
use Rattle.vcd_copy.specs.VariableWords.{IsVariable}
use Rattle.vcd_amend.specs.AmendedText.{with_words, next_word, exchanged_bytes}
use Rattle.vcd_amend.specs.inside.amending.WordsInPlace.{word_in_place, words_in_place}

-- white space stays
spaces_stay : (in_word : Bool) (space bytes : List ℕ) (ws : List (List ℕ)) → list_all is_white_space space ≡ true
    → 0 < length space → with_words in_word (space ++ bytes) ws ≡ space ++ with_words false bytes ws
spaces_stay in_word [] bytes ws white some = absurd (omega (arith, some))
spaces_stay in_word (b ∷ []) bytes ws white some =
    let parts = and_parts (is_white_space b) true white in
    ap (λ (t : Bool). if t then b ∷ with_words false bytes ws else (if in_word then with_words true bytes ws
    else next_word ws ++ with_words true bytes (drop 1 ws))) parts.0
spaces_stay in_word (b ∷ c ∷ space) bytes ws white some =
    let parts = and_parts (is_white_space b) (list_all is_white_space (c ∷ space)) white in
    let whole = c ∷ space ++ bytes in
    ap (λ (t : Bool). if t then b ∷ with_words false whole ws else (if in_word then with_words true whole ws
    else next_word ws ++ with_words true whole (drop 1 ws))) parts.0
    ∙ ap (λ l. b ∷ l) (spaces_stay false (c ∷ space) bytes ws parts.1 (omega arith))

-- all white space
pub space_stays : (space : List ℕ) (ws : List (List ℕ)) → list_all is_white_space space ≡ true
    → with_words false space ws ≡ space
space_stays [] ws white = refl
space_stays (b ∷ bs) ws white =
    ap (λ l. with_words false l ws) (sym (append-nil (b ∷ bs))) ∙ spaces_stay false (b ∷ bs) [] ws white (omega arith)
    ∙ append-nil (b ∷ bs)

-- the rest of a word goes
word_goes : (word rest : List ℕ) (ws : List (List ℕ)) → list_all (λ b. not (is_white_space b)) word ≡ true
    → with_words true (word ++ rest) ws ≡ with_words true rest ws
word_goes [] rest ws no_space = refl
word_goes (b ∷ word) rest ws no_space =
    let parts = and_parts (not (is_white_space b)) (list_all (λ b. not (is_white_space b)) word) no_space in
    ap (λ (t : Bool). if t then b ∷ with_words false (word ++ rest) ws else with_words true (word ++ rest) ws)
    (not-true (is_white_space b) parts.0)
    ∙ word_goes word rest ws parts.1

-- and then a word has ended
ended : (rest : List ℕ) (ws : List (List ℕ)) → ends_before true rest ≡ true
    → with_words true rest ws ≡ with_words false rest ws
ended [] ws ends = refl
ended (b ∷ rest) ws ends =
    let bytes = λ (t : Bool) (in_word : Bool). if t then b ∷ with_words false rest ws else
    (if in_word then with_words true rest ws else next_word ws ++ with_words true rest (drop 1 ws)) in
    ap (λ t. bytes t true) ends ∙ sym (ap (λ t. bytes t false) ends)

word_first : (word rest v : List ℕ) (vs : List (List ℕ)) → 0 < length word
    → list_all (λ b. not (is_white_space b)) word ≡ true → ends_before true rest ≡ true
    → with_words false (word ++ rest) (v ∷ vs) ≡ v ++ with_words false rest vs
word_first [] rest v vs some no_space ends = absurd (omega (arith, some))
word_first (b ∷ word) rest v vs some no_space ends =
    let parts = and_parts (not (is_white_space b)) (list_all (λ b. not (is_white_space b)) word) no_space in
    ap (λ (t : Bool). if t then b ∷ with_words false (word ++ rest) (v ∷ vs) else v ++ with_words true (word ++ rest)
    vs)
    (not-true (is_white_space b) parts.0)
    ∙ ap (λ l. v ++ l) (word_goes word rest vs parts.1 ∙ ended rest vs ends)

-- white space and a word come first
pub one_in_place : (space word rest v : List ℕ) (vs : List (List ℕ)) → list_all is_white_space space ≡ true
    → 0 < length word → list_all (λ b. not (is_white_space b)) word ≡ true → ends_before true rest ≡ true
    → with_words false (space ++ (word ++ rest)) (v ∷ vs) ≡ (space ++ v) ++ with_words false rest vs
one_in_place [] word rest v vs white some no_space ends = word_first word rest v vs some no_space ends
one_in_place (b ∷ space) word rest v vs white some no_space ends =
    spaces_stay false (b ∷ space) (word ++ rest) (v ∷ vs) white (omega arith)
    ∙ ap (λ l. (b ∷ space) ++ l) (word_first word rest v vs some no_space ends)
    ∙ sym (append_assoc (b ∷ space) v (with_words false rest vs))

-- the same, where the word in its place is that at an index
pub word_step : (left rest word space : List ℕ) (index next : ℕ) (texts later names : List (List ℕ)) (code : List ℕ)
    → left ≡ space ++ (word ++ rest) → list_all is_white_space space ≡ true → 0 < length word
    → list_all (λ b. not (is_white_space b)) word ≡ true → ends_before true rest ≡ true → texts ≡ word ∷ later
    → next ≡ index + 1
    → with_words false left (words_in_place index texts names code)
    ≡ (space ++ word_in_place index word names code) ++ with_words false rest (words_in_place next later names code)
word_step left rest word space index next texts later names code is white some no_space ends first more =
    (λ i. with_words false (is i) (words_in_place index (first i) names code))
    ∙ one_in_place space word rest (word_in_place index word names code) (words_in_place (index + 1) later names code)
    white some no_space ends
    ∙ ap (λ n. (space ++ word_in_place index word names code)
    ++ with_words false rest (words_in_place n later names code)) (sym more)

-- at the end
pub words_end : (left : List ℕ) (index : ℕ) (texts names : List (List ℕ)) (code : List ℕ) → texts ≡ []
    → list_all is_white_space left ≡ true → with_words false left (words_in_place index texts names code) ≡ left ++ []
words_end left index texts names code none white =
    ap (λ l. with_words false left (words_in_place index l names code)) none ∙ space_stays left [] white
    ∙ sym (append-nil left)

-- the front of a text
pub front_of : (left rest word space : List ℕ) → left ≡ space ++ (word ++ rest)
    → take (length left - length rest - length word) left ≡ space
front_of left rest word space is =
    let long : length left ≡ length space + (length word + length rest) =
    ap (λ l. length l) is ∙ length-append space (word ++ rest)
    ∙ ap (λ n. length space + n) (length-append word rest) in
    let count : length left - length rest - length word ≡ length space = omega (arith, long) in
    ap (λ n. take n left) count ∙ ap (take (length space)) is ∙ take-append_seam space (word ++ rest)

-- ---- the words of a `$var`

none_after : (all : List (List ℕ)) (k : ℕ) → drop k all ≡ [] → length all ≤ k
none_after all k at = omega (arith, ap (λ (l : List (List ℕ)). length l) at, length-drop k all)

some_after : (all : List (List ℕ)) (k : ℕ) (n : List ℕ) (names : List (List ℕ)) → drop k all ≡ n ∷ names
    → k < length all
some_after all k n names at = omega (arith, ap (λ (l : List (List ℕ)). length l) at, length-drop k all)

first_after : (all : List (List ℕ)) (k : ℕ) (n : List ℕ) (names : List (List ℕ)) (d : List ℕ)
    → drop k all ≡ n ∷ names → slice_index_or all k d ≡ n
first_after all k n names d at =
    let both = sym (drop_more all k d (some_after all k n names at)) ∙ at in cc

rest_after : (all : List (List ℕ)) (k : ℕ) (n : List ℕ) (names : List (List ℕ)) → drop k all ≡ n ∷ names
    → drop (k + 1) all ≡ names
rest_after all k n names at =
    let both = sym (drop_more all k n (some_after all k n names at)) ∙ at in cc

names_in_place : (k : ℕ) (own names all : List (List ℕ)) (code : List ℕ) → length names ≡ length own
    → drop k all ≡ names → words_in_place (4 + k) (own ++ end_word ∷ []) all code ≡ names ++ end_word ∷ []
names_in_place k [] [] all code long at =
    let past : length all ≤ k = none_after all k at in
    ap (λ w. w ∷ []) (ap (λ b. if b then code else name_or (4 + k)) (ne_eqb (4 + k) 3 (λ same. omega (arith, same)))
    ∙ ap (λ b. if b then end_word else slice_index_or all (4 + k - 4) end_word) (le-ltb (4 + k) 3 (omega arith))
    ∙ get_or_past all (4 + k - 4) end_word (omega arith))
  where
    name_or : ℕ → List ℕ
    name_or index = if nat_lt index 3 then end_word else slice_index_or all (index - 4) end_word
names_in_place k (o ∷ own) [] all code long at = absurd (omega (arith, long))
names_in_place k [] (n ∷ names) all code long at = absurd (omega (arith, long))
names_in_place k (o ∷ own) (n ∷ names) all code long at =
    let within : k < length all = some_after all k n names at in
    let here : word_in_place (4 + k) o all code ≡ n =
    ap (λ b. if b then code else (if nat_lt (4 + k) 3 then o else slice_index_or all (4 + k - 4) o))
    (ne_eqb (4 + k) 3 (λ same. omega (arith, same)))
    ∙ ap (λ b. if b then o else slice_index_or all (4 + k - 4) o) (le-ltb (4 + k) 3 (omega arith))
    ∙ ap (λ i. slice_index_or all i o) (let e : 4 + k - 4 ≡ k = omega arith in e)
    ∙ first_after all k n names o at in
    let later = names_in_place (k + 1) own names all code (omega (arith, long)) (rest_after all k n names at) in
    let index : 4 + k + 1 ≡ 4 + (k + 1) = omega arith in
    (λ i. here i ∷ (ap (λ x. words_in_place x (own ++ end_word ∷ []) all code) index ∙ later) i)

pub variable_in_place : (kind size old code : List ℕ) (own names : List (List ℕ)) → length names ≡ length own
    → words_in_place 0 (spelling (variable (kind ∷ size ∷ old ∷ own))) names code
    ≡ spelling (variable (kind ∷ size ∷ code ∷ names))
variable_in_place kind size old code own names long =
    ap (λ l. codes "$var" ∷ kind ∷ size ∷ code ∷ l) (names_in_place 0 own names names code long refl)

-- ---- the bytes in the place of a `$var`

-- how many words there are
pub variable_count : (body kind size old : List ℕ) (own : List (List ℕ)) → IsVariable body kind size old own
    → length (words_of body) ≡ length own + 5
variable_count body kind size old own is = omega (
  arith,
  length-map (words_of body) (λ (w : WordOnLine). w.text),
  ap (λ (l : List (List ℕ)). length l) is.spelled,
  length-append own (end_word ∷ []),
)

-- a `$var` of these words, with these bytes
abbrev pub variable_piece : (body kind size old : List ℕ) (own : List (List ℕ)) → Piece
variable_piece body kind size old own =
    record { item = variable (kind ∷ size ∷ old ∷ own); space = []; body = body }

long_names : (own names : List (List ℕ)) → length names ≡ length own
    → length (names ++ end_word ∷ []) ≡ length (own ++ end_word ∷ [])
long_names own names long =
    omega (arith, long, length-append own (end_word ∷ []), length-append names (end_word ∷ []))

pub exchanged_same : (body kind size old code : List ℕ) (own names : List (List ℕ)) → length names ≡ length own
    → with_words false body (spelling (variable (kind ∷ size ∷ code ∷ names)))
    ≡ exchanged_bytes (variable_piece body kind size old own) (variable (kind ∷ size ∷ code ∷ names))
exchanged_same body kind size old code own names long =
    ap (λ (b : Bool). if b then with_words false body (spelling (variable (kind ∷ size ∷ code ∷ names)))
    else join_with_byte 32 (spelling (variable (kind ∷ size ∷ code ∷ names))))
    (sym (eq-eqb (length (spelling (variable (kind ∷ size ∷ code ∷ names))))
    (length (spelling (variable (kind ∷ size ∷ old ∷ own)))) (omega (arith, long_names own names long))))

pub exchanged_other : (body kind size old code : List ℕ) (own names : List (List ℕ)) → (length names ≡ length own → ⊥)
    → join_with_byte 32 (spelling (variable (kind ∷ size ∷ code ∷ names)))
    ≡ exchanged_bytes (variable_piece body kind size old own) (variable (kind ∷ size ∷ code ∷ names))
exchanged_other body kind size old code own names apart =
    ap (λ (b : Bool). if b then with_words false body (spelling (variable (kind ∷ size ∷ code ∷ names)))
    else join_with_byte 32 (spelling (variable (kind ∷ size ∷ code ∷ names))))
    (sym (ne_eqb (length (spelling (variable (kind ∷ size ∷ code ∷ names))))
    (length (spelling (variable (kind ∷ size ∷ old ∷ own)))) (λ same. apart (omega (
      arith,
      same,
      length-append own (end_word ∷ []),
      length-append names (end_word ∷ []),
    )))))
