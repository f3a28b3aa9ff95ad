-- The item that words begin with is a function of the words: no item that fits is the beginning of
-- another.
use Rattle.std.proofs.Common.{◌≡◌, ℕ, Bool, true, false, cond, List, [], ◌∷◌, ◌++◌, IsTrue, codes, bytes_eq, refl, sym}
use Rattle.std.proofs.Common.{ap, ◌∙◌, arith}
use Rattle.std.proofs.lemmas.Bool.{and_parts, not-true, false≢true, eqb-true, cond-true, cond-false}
use Rattle.std.proofs.lemmas.List.{append-nil, append_cancel_left}
use Rattle.vcd_core.specs.Word.{is_one_of}
use Rattle.vcd_core.specs.declared.capture.HeaderKind.TheVariants.{Date, Version, Comment}
use Rattle.vcd_text.specs.Letters.{is_among, is_binary_digit}
use Rattle.vcd_text.specs.Items.{Item, entry, timescale, scope, upscope, variable, end_definitions, stamp, scalar}
use Rattle.vcd_text.specs.Items.{vector, real_or_string, dump_word, other, spelling, end_word, has_no_end_word}
use Rattle.vcd_text.specs.Items.{dump_words, declaration_words}
use Rattle.vcd_text.specs.inside.reading.Declarations.{header_words, is_end_word}
use Rattle.vcd_text.specs.inside.reading.DigitTests.{vector_prefixes, real_or_string_prefixes}
use Rattle.vcd_text.specs.Grammar.{ParseState, fits}
use Rattle.vcd_text.specs.Faults.{GoesOn}
use Rattle.vcd_text.proofs.shared.OneOf.{by_among, by_one_of}

-- ---- the item that words begin with

-- the words before the first `$end`
abbrev pub before_end : List (List ℕ) → List (List ℕ)
before_end [] = []
before_end (w ∷ ws) = cond (is_end_word w) [] (w ∷ before_end ws)

abbrev pub scope_of : List (List ℕ) → Item
scope_of [] = scope [] []
scope_of (kind ∷ words) = scope kind words

-- the declaration with this keyword, and these words up to its `$end`
abbrev pub declaration_with : List ℕ → List (List ℕ) → Item
declaration_with w words = cond (is_one_of declaration_words w) (cond (bytes_eq w (codes "$scope")) (scope_of words)
    (cond (bytes_eq w (codes "$upscope")) upscope (cond (bytes_eq w (codes "$var")) (variable words) (cond (bytes_eq w
    (codes "$timescale")) (timescale words) end_definitions)))) (cond (is_one_of header_words w) (cond (bytes_eq w
    (codes "$date")) (entry Date words) (cond (bytes_eq w (codes "$version")) (entry Version words)
    (entry Comment words))) (other w words))

abbrev pub code_in : List (List ℕ) → List ℕ
code_in [] = []
code_in (w ∷ ws) = w

-- the change with this first word, if these words follow
abbrev pub change_with : List ℕ → List (List ℕ) → Item
change_with [] ws = dump_word []
change_with (b ∷ bs) ws = cond (is_binary_digit b) (scalar b bs)
    (cond (is_among (codes "#") b) (stamp bs) (cond (is_among (codes "$") b)
    (cond (is_one_of dump_words (b ∷ bs)) (dump_word (b ∷ bs)) (other (b ∷ bs) (before_end ws)))
    (cond (is_among vector_prefixes b) (vector b bs (code_in ws)) (real_or_string b bs (code_in ws)))))

abbrev pub first_item : (in_body : Bool) → List (List ℕ) → Item
first_item in_body [] = end_definitions
first_item false (w ∷ ws) = declaration_with w (before_end ws)
first_item true (w ∷ ws) = change_with w ws

-- ---- it is the item that they spell

end_closes : (words rest : List (List ℕ)) → IsTrue (has_no_end_word words)
    → before_end ((words ++ end_word ∷ []) ++ rest) ≡ words
end_closes [] rest h = refl
end_closes (w ∷ words) rest h =
    let p = and_parts _ _ h in
    rw (not-true (is_end_word w) p.0) (ap (λ ws. w ∷ ws) (end_closes words rest p.1))

by_state : (b : Bool) (c : ParseState) (i : Item) (rest : List (List ℕ)) → c.in_body ≡ b
    → first_item b (spelling i ++ rest) ≡ i → first_item c.in_body (spelling i ++ rest) ≡ i
by_state b c i rest h e = ap (λ t. first_item t (spelling i ++ rest)) h ∙ e

pub item_is : (c : ParseState) (i : Item) (rest : List (List ℕ)) → IsTrue (fits c i)
    → first_item c.in_body (spelling i ++ rest) ≡ i
item_is c (entry Date words) rest f = grind (arith, and_parts, by_state, not-true, end_closes)
item_is c (entry Version words) rest f = grind (arith, and_parts, by_state, not-true, end_closes)
item_is c (entry Comment words) rest f = grind (arith, and_parts, by_state, not-true, end_closes)
item_is c (timescale words) rest f = grind (arith, and_parts, by_state, not-true, end_closes)
item_is c (scope kind words) rest f = grind (arith, and_parts, by_state, not-true, end_closes)
item_is c upscope rest f = by_state false c upscope rest (not-true _ (and_parts _ _ f).0) refl
item_is c (variable words) rest f = grind (arith, and_parts, by_state, not-true, end_closes)
item_is c end_definitions rest f = by_state false c end_definitions rest (not-true _ f) refl
item_is c (stamp digits) rest f = by_state true c (stamp digits) rest f refl
item_is c (scalar digit code) rest f = grind (arith, and_parts, by_state, cond-true)
item_is c (vector first digits code) rest f =
    let p = and_parts _ _ f in
    by_state true c (vector first digits code) rest p.0 (by_among
    (λ b. change_with (b ∷ digits) (code ∷ rest) ≡ vector b digits code) vector_prefixes first p.1 (refl, (refl, tt)))
item_is c (real_or_string first text code) rest f =
    let p = and_parts _ _ f in
    by_state true c (real_or_string first text code) rest p.0 (by_among (λ b. change_with (b ∷ text) (code ∷ rest)
    ≡ real_or_string b text code) real_or_string_prefixes first p.1 (refl, (refl, (refl, (refl, tt)))))
item_is c (dump_word word) rest f = search (arith, and_parts, by_state, by_one_of)
item_is c (other word words) rest f = grind (arith, and_parts, false≢true, eqb-true, cond-false, not-true, end_closes)

-- ---- one item

-- two items that fit and begin the same words are one
pub one_item : (c : ParseState) (i j : Item) (r s : List (List ℕ)) → IsTrue (fits c i) → IsTrue (fits c j)
    → spelling i ++ r ≡ spelling j ++ s → i ≡ j
one_item c i j r s f g e = sym (item_is c i r f) ∙ ap (first_item c.in_body) e ∙ item_is c j s g

-- and then the same words follow
pub one_rest : (i j : Item) (r s : List (List ℕ)) → i ≡ j → spelling i ++ r ≡ spelling j ++ s → r ≡ s
one_rest i j r s same e = grind (arith, append_cancel_left)

-- the item that goes on with a word is the first of its words
pub goes_as : (c : ParseState) (b : Bool) (begun : List (List ℕ)) (word : List ℕ) → c.in_body ≡ b
    → (g : GoesOn c begun word) → IsTrue (fits c (first_item b (begun ++ word ∷ g.1)))
    × (spelling (first_item b (begun ++ word ∷ g.1)) ≡ begun ++ word ∷ g.1)
goes_as c b begun word in_body (i, more, f, e) =
    let same : i ≡ first_item b (begun ++ word ∷ more) = sym (item_is c i [] f) ∙ ap (first_item c.in_body)
    (append-nil (spelling i) ∙ e) ∙ ap (λ t. first_item t (begun ++ word ∷ more)) in_body in
    (ap (fits c) (sym same) ∙ f, ap spelling (sym same) ∙ e)
