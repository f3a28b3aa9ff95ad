-- The words of an item without its last ones: a word must follow them.
use Rattle.std.proofs.Common.{◌≡◌, ℕ, ◌<◌, List, [], ◌∷◌, ◌++◌, length, IsTrue, IsFalse, codes, refl, arith}
use Rattle.std.proofs.lemmas.Bool.{and_from, or_left, or_right, not_from_false, lt-ltb}
use Rattle.vcd_core.specs.Word.{is_one_of}
use Rattle.vcd_core.specs.declared.capture.HeaderKind.{HeaderKind}
use Rattle.vcd_core.specs.declared.capture.HeaderKind.TheVariants.{Date, Version, Comment}
use Rattle.vcd_text.specs.Letters.{is_among}
use Rattle.vcd_text.specs.Items.{Item, entry, timescale, scope, upscope, variable, end_definitions, vector}
use Rattle.vcd_text.specs.Items.{real_or_string, other, spelling, end_word, has_no_end_word, header_word, is_other}
use Rattle.vcd_text.specs.inside.reading.Declarations.{header_words}
use Rattle.vcd_text.specs.inside.reading.DigitTests.{vector_prefixes, real_or_string_prefixes}
use Rattle.vcd_text.specs.Grammar.{ParseState, fits, has_good_size}
use Rattle.vcd_text.specs.FoundFaults.{IsUnfinished}
use Rattle.vcd_text.proofs.shared.OneOf.{by_one_of}
use Rattle.vcd_text.proofs.shared.ItemTests.{fits_in_words, fits_upscope, fits_variable, some_declaration}

-- an item that fits has more words
has_more : (c : ParseState) (i : Item) (w : List ℕ) (begun : List (List ℕ)) (next : List ℕ) (more : List (List ℕ))
    → IsTrue (fits c i) → spelling i ≡ (w ∷ begun) ++ next ∷ more → IsUnfinished c (w ∷ begun)
has_more c i w begun next more f e = grind (arith, or_right, lt-ltb)

-- the next declaration must follow
pub declaration_due : (c : ParseState) → IsFalse c.in_body → IsUnfinished c []
declaration_due c declares = search (arith, or_left, not_from_false, some_declaration)

scope_due : (c : ParseState) (words : List (List ℕ)) → IsFalse c.in_body → IsTrue (has_no_end_word words)
    → IsUnfinished c (codes "$scope" ∷ words)
scope_due c [] declares no_end = has_more c (scope [] []) _ [] [] _ (fits_in_words c ([] ∷ []) declares refl) refl
scope_due c (kind ∷ words) declares no_end =
    has_more c (scope kind words) _ (kind ∷ words) end_word [] (fits_in_words c (kind ∷ words) declares no_end) refl

-- words up to the `$end` of a header entry, a timescale or a scope must follow
pub words_due : (c : ParseState) (word : List ℕ) (words : List (List ℕ)) → IsFalse c.in_body
    → IsTrue (is_one_of (codes "$timescale" ∷ codes "$scope" ∷ header_words) word) → IsTrue (has_no_end_word words)
    → IsUnfinished c (word ∷ words)
words_due c word words declares is no_end =
    let fit = fits_in_words c words declares no_end in
    let header : (kind : HeaderKind) → IsUnfinished c (header_word kind ∷ words) =
    λ kind. has_more c (entry kind words) _ words end_word [] fit refl in
    by_one_of (λ w. IsUnfinished c (w ∷ words)) (codes "$timescale" ∷ codes "$scope" ∷ header_words) word is (
      has_more c (timescale words) _ words end_word [] fit refl,
      (scope_due c words declares no_end, (header Date, (header Version, (header Comment, tt)))),
    )

-- the `$end` of `$upscope` must follow
pub upscope_due : (c : ParseState) → IsFalse c.in_body → 0 < length c.scopes → IsUnfinished c (codes "$upscope" ∷ [])
upscope_due c declares some = has_more c upscope _ [] end_word [] (fits_upscope c declares some) refl

-- words up to the `$end` of a `$var` must follow
pub variable_due : (c : ParseState) (words : List (List ℕ)) → IsFalse c.in_body → IsTrue (has_no_end_word words)
    → IsTrue (has_good_size words) → IsUnfinished c (codes "$var" ∷ words)
variable_due c words declares no_end good =
    has_more c (variable words) _ words end_word [] (fits_variable c words declares no_end good) refl

-- the `$end` of `$enddefinitions` must follow
pub definitions_due : (c : ParseState) → IsFalse c.in_body → IsUnfinished c (codes "$enddefinitions" ∷ [])
definitions_due c declares = has_more c end_definitions _ [] end_word [] (not_from_false _ declares) refl

-- the code of a change of two words must follow
pub vector_due : (c : ParseState) (first : ℕ) (digits : List ℕ) → IsTrue c.in_body
    → IsTrue (is_among vector_prefixes first) → IsUnfinished c ((first ∷ digits) ∷ [])
vector_due c first digits in_body is = has_more c (vector first digits []) _ [] [] [] (and_from _ _ in_body is) refl

pub real_or_string_due : (c : ParseState) (first : ℕ) (text : List ℕ) → IsTrue c.in_body
    → IsTrue (is_among real_or_string_prefixes first) → IsUnfinished c ((first ∷ text) ∷ [])
real_or_string_due c first text in_body is =
    has_more c (real_or_string first text []) _ [] [] [] (and_from _ _ in_body is) refl

-- words up to the `$end` of any other command must follow
pub other_due : (c : ParseState) (word : List ℕ) (words : List (List ℕ)) → IsTrue (is_other c.in_body word)
    → IsTrue (has_no_end_word words) → IsUnfinished c (word ∷ words)
other_due c word words is no_end = has_more c (other word words) _ words end_word [] (and_from _ _ is no_end) refl
