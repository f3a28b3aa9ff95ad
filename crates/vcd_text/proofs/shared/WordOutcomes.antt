-- What words begin with: a whole item whose conditions hold, a fault, or an item that goes on.
use Rattle.std.proofs.Common.{◌≡◌, ◌⊎◌, inl, inr, ℕ, not, ◌&&◌, ◌||◌, List, [], ◌∷◌, ◌++◌, Option, Some, None, IsTrue}
use Rattle.std.proofs.Common.{IsFalse, codes, length, ◌<◌, refl, sym, ap, ◌∙◌, arith, append_assoc}
use Rattle.std.proofs.lemmas.List.{append-nil}
use Rattle.std.proofs.lemmas.List.Folds.{list_all-append}
use Rattle.std.proofs.lemmas.Slice.Eq.{bytes_eq-Decides}
use Rattle.std.proofs.lemmas.Bool.{cases_Bool, and_parts, and_from, not-true, not_from_false, false≢true}
use Rattle.vcd_core.specs.Tests.{first_fault}
use Rattle.vcd_core.specs.Word.{is_one_of}
use Rattle.vcd_core.specs.declared.capture.HeaderKind.{HeaderKind}
use Rattle.vcd_core.specs.declared.capture.HeaderKind.TheVariants.{Date, Version, Comment}
use Rattle.vcd_text.specs.declared.fault.Fault.{Fault}
use Rattle.vcd_text.specs.Letters.{is_among, is_binary_digit}
use Rattle.vcd_text.specs.Items.{Item, entry, timescale, scope, upscope, variable, end_definitions, stamp, scalar}
use Rattle.vcd_text.specs.Items.{vector, real_or_string, dump_word, other, spelling, end_word, has_no_end_word}
use Rattle.vcd_text.specs.Items.{dump_words, declaration_words, begins_section, header_word, is_other}
use Rattle.vcd_text.specs.inside.reading.Declarations.{header_words, is_end_word}
use Rattle.vcd_text.specs.inside.reading.DigitTests.{vector_prefixes, real_or_string_prefixes}
use Rattle.vcd_text.specs.Grammar.{ParseState, has_good_size, fits, item_tests, Allows}
use Rattle.vcd_text.specs.Faults.{WordShows, test_fails}
use Rattle.vcd_text.specs.FoundFaults.{IsUnfinished}
use Rattle.vcd_text.proofs.shared.OneOf.{by_among, by_one_of}
use Rattle.vcd_text.proofs.shared.ItemTests.{fits_in_words, fits_upscope, fits_variable, fits_scalar, begins_no_section}
use Rattle.vcd_text.proofs.shared.ItemTests.{upscope_at_top, missing_kind, upscope_goes_on, definitions_go_on, no_size}
use Rattle.vcd_text.proofs.shared.ItemTests.{missing_code, declaration_late, begins_no_change, misfit_changes}
use Rattle.vcd_text.proofs.shared.Unfinished.{words_due, upscope_due, variable_due, definitions_due, vector_due}
use Rattle.vcd_text.proofs.shared.Unfinished.{real_or_string_due, other_due}
use Rattle.vcd_text.specs.declared.fault.Fault.TheVariants.{BadChange}

-- what some words begin with
pub data Beginning (c : ParseState) (words : List (List ℕ)) : Type 0 where
  shows_fault : (begun : List (List ℕ)) (word : List ℕ) (more : List (List ℕ)) (fault : Fault)
      → words ≡ begun ++ word ∷ more → WordShows c begun word fault → Beginning c words
  whole_item : (i : Item) (rest : List (List ℕ)) → words ≡ spelling i ++ rest → Allows c i → Beginning c words
  goes_on : IsUnfinished c words → Beginning c words

-- ---- an item that fits

-- the words of an item before its last, and its last
pub last_word : (i : Item) → (begun : List (List ℕ)) × (word : List ℕ) × (spelling i ≡ begun ++ word ∷ [])
last_word (entry kind words) = (header_word kind ∷ words, end_word, refl)
last_word (timescale words) = (codes "$timescale" ∷ words, end_word, refl)
last_word (scope kind words) = (codes "$scope" ∷ kind ∷ words, end_word, refl)
last_word upscope = (codes "$upscope" ∷ [], end_word, refl)
last_word (variable words) = (codes "$var" ∷ words, end_word, refl)
last_word end_definitions = (codes "$enddefinitions" ∷ [], end_word, refl)
last_word (stamp digits) = ([], 35 ∷ digits, refl)
last_word (scalar digit code) = ([], digit ∷ code, refl)
last_word (vector first digits code) = ((first ∷ digits) ∷ [], code, refl)
last_word (real_or_string first text code) = ((first ∷ text) ∷ [], code, refl)
last_word (dump_word word) = ([], word, refl)
last_word (other word words) = (word ∷ words, end_word, refl)

-- its tests decide
item_begins : (c : ParseState) (i : Item) (words rest : List (List ℕ)) → IsTrue (fits c i) → words ≡ spelling i ++ rest
    → Beginning c words
item_begins c i words rest fit spelled = by_tests (first_fault (item_tests c i)) refl
  where
    by_tests : (o : Option Fault) → first_fault (item_tests c i) ≡ o → Beginning c words
    by_tests None is = whole_item i rest spelled (fit, is)
    by_tests (Some fault) is =
        let (begun, word, last) = last_word i in
        shows_fault begun word rest fault
        (spelled ∙ ap (λ ws. ws ++ rest) last ∙ append_assoc begun (word ∷ []) rest) (test_fails i fit last is)

-- ---- words up to `$end`

-- a list has no `$end`, or words up to its first
data Ending (words : List (List ℕ)) : Type 0 where
  never_ends : IsTrue (has_no_end_word words) → Ending words
  ends : (before rest : List (List ℕ)) → words ≡ before ++ end_word ∷ rest → IsTrue (has_no_end_word before)
      → Ending words

with_word : (w : List ℕ) (ws : List (List ℕ)) → IsFalse (is_end_word w) → Ending ws → Ending (w ∷ ws)
with_word w ws isnt (never_ends none) = never_ends (and_from _ _ (not_from_false _ isnt) none)
with_word w ws isnt (ends before rest is none) =
    ends (w ∷ before) rest (ap (λ vs. w ∷ vs) is) (and_from _ _ (not_from_false _ isnt) none)

ending : (words : List (List ℕ)) → Ending words
ending [] = never_ends refl
ending (w ∷ ws) =
    elim (cases_Bool (is_end_word w)) [
      | inl is ↦ ends [] ws (ap (λ v. v ∷ ws) ((bytes_eq-Decides w end_word).0 is)) refl
      | inr isnt ↦ with_word w ws isnt (ending ws)
    ]

-- the keyword, the words before `$end`, and `$end`
closed : (k : List ℕ) (words before rest : List (List ℕ)) → words ≡ before ++ end_word ∷ rest
    → k ∷ words ≡ (k ∷ before ++ end_word ∷ []) ++ rest
closed k words before rest is = grind (arith, append_assoc)

-- an item with any words up to `$end`
up_to_end : (c : ParseState) (k : List ℕ) (words : List (List ℕ)) (item : List (List ℕ) → Item)
    → ((ws : List (List ℕ)) → spelling (item ws) ≡ k ∷ ws ++ end_word ∷ [])
    → ((ws : List (List ℕ)) → IsTrue (has_no_end_word ws) → IsTrue (fits c (item ws)))
    → ((ws : List (List ℕ)) → IsTrue (has_no_end_word ws) → IsUnfinished c (k ∷ ws)) → Beginning c (k ∷ words)
up_to_end c k words item spelled fit due = by_ending (ending words)
  where
    by_ending : Ending words → Beginning c (k ∷ words)
    by_ending (never_ends none) = goes_on (due words none)
    by_ending (ends before rest is none) =
        item_begins c (item before) (k ∷ words) rest (fit before none)
        (closed k words before rest is ∙ ap (λ ws. ws ++ rest) (sym (spelled before)))

-- ---- declarations

scope_begins : (c : ParseState) (words : List (List ℕ)) → IsFalse c.in_body → Ending words
    → Beginning c (codes "$scope" ∷ words)
scope_begins c words declares (never_ends none) = goes_on (words_due c (codes "$scope") words declares refl none)
scope_begins c words declares (ends [] rest is none) =
    shows_fault (codes "$scope" ∷ []) end_word rest _ (ap (λ ws. codes "$scope" ∷ ws) is) (missing_kind c declares)
scope_begins c words declares (ends (kind ∷ before) rest is none) =
    item_begins c (scope kind before) (codes "$scope" ∷ words) rest (fits_in_words c (kind ∷ before) declares none)
    (closed (codes "$scope") words (kind ∷ before) rest is)

-- the only word after a keyword is `$end`
end_follows : (c : ParseState) (i : Item) (k : List ℕ) (words : List (List ℕ)) → IsTrue (fits c i)
    → spelling i ≡ k ∷ end_word ∷ [] → IsUnfinished c (k ∷ [])
    → ((word : List ℕ) → IsFalse (is_end_word word) → (fault : Fault) × WordShows c (k ∷ []) word fault)
    → Beginning c (k ∷ words)
end_follows c i k [] fit spelled due further = goes_on due
end_follows c i k (w ∷ ws) fit spelled due further =
    elim (cases_Bool (is_end_word w)) [
      | inl is ↦ item_begins c i (k ∷ w ∷ ws) ws fit (grind (arith, bytes_eq-Decides))
      | inr isnt ↦ let shown = further w isnt in shows_fault (k ∷ []) w ws shown.0 refl shown.1
    ]

upscope_begins : (c : ParseState) (words : List (List ℕ)) → IsFalse c.in_body → Beginning c (codes "$upscope" ∷ words)
upscope_begins c words declares =
    elim (cases_length c.scopes) [
      | inl none ↦ shows_fault [] (codes "$upscope") words _ refl (upscope_at_top c declares none)
      | inr some ↦ end_follows c upscope (codes "$upscope") words (fits_upscope c declares some) refl
          (upscope_due c declares some) (λ word isnt. (_, upscope_goes_on c word declares isnt some))
    ]
  where
    cases_length : {A : Type 0} (xs : List A) → (xs ≡ []) ⊎ (0 < length xs)
    cases_length [] = inl refl
    cases_length (x ∷ xs) = inr (omega arith)

-- a size that is no number, whatever follows
bad_size : (c : ParseState) (words more : List (List ℕ)) → IsFalse c.in_body → IsTrue (has_no_end_word words)
    → IsFalse (has_good_size words) → Beginning c (codes "$var" ∷ words ++ more)
bad_size c [] more declares none bad = absurd (cc bad)
bad_size c (kind ∷ []) more declares none bad = absurd (cc bad)
bad_size c (kind ∷ size ∷ words) more declares none bad = shows_fault (codes "$var" ∷ kind ∷ []) size (words ++ more) _
    refl (no_size c kind size declares (not-true (is_end_word kind) (and_parts _ _ none).0) bad)

variable_begins : (c : ParseState) (words : List (List ℕ)) → IsFalse c.in_body → Ending words
    → Beginning c (codes "$var" ∷ words)
variable_begins c words declares (never_ends none) =
    elim (cases_Bool (has_good_size words)) [
      | inl good ↦ goes_on (variable_due c words declares none good)
      | inr bad ↦ rw (append-nil words) at (bad_size c words [] declares none bad)
    ]
variable_begins c words declares (ends before rest is none) =
    elim (cases_Bool (has_good_size before)) [
      | inl good ↦ item_begins c (variable before) (codes "$var" ∷ words) rest
          (fits_variable c before declares none good) (closed (codes "$var") words before rest is)
      | inr bad ↦ rw is (bad_size c before (end_word ∷ rest) declares none bad)
    ]

declaring : (c : ParseState) (word : List ℕ) (words : List (List ℕ)) → IsFalse c.in_body
    → IsTrue (is_one_of declaration_words word) → Beginning c (word ∷ words)
declaring c word words declares is =
    let timed : Beginning c (codes "$timescale" ∷ words) = up_to_end c (codes "$timescale") words timescale (λ ws. refl)
    (λ ws none. fits_in_words c ws declares none) (λ ws none. words_due c (codes "$timescale") ws declares refl none) in
    let last : Beginning c (codes "$enddefinitions" ∷ words) =
    end_follows c end_definitions (codes "$enddefinitions") words (not_from_false _ declares) refl
    (definitions_due c declares) (λ w isnt. (_, definitions_go_on c w declares isnt)) in
    by_one_of (λ w. Beginning c (w ∷ words)) declaration_words word is (
      scope_begins c words declares (ending words),
      (upscope_begins c words declares, (variable_begins c words declares (ending words), (timed, (last, tt)))),
    )

entry_begins : (c : ParseState) (kind : HeaderKind) (words : List (List ℕ)) → IsFalse c.in_body
    → IsTrue (is_one_of (codes "$timescale" ∷ codes "$scope" ∷ header_words) (header_word kind))
    → Beginning c (header_word kind ∷ words)
entry_begins c kind words declares is = up_to_end c (header_word kind) words (entry kind) (λ ws. refl)
    (λ ws none. fits_in_words c ws declares none) (λ ws none. words_due c (header_word kind) ws declares is none)

other_begins : (c : ParseState) (word : List ℕ) (words : List (List ℕ)) → IsTrue (is_other c.in_body word)
    → Beginning c (word ∷ words)
other_begins c word words is = up_to_end c word words (other word) (λ ws. refl) (λ ws none. and_from _ _ is none)
    (λ ws none. other_due c word ws is none)

declaration_begins : (c : ParseState) (word : List ℕ) (words : List (List ℕ)) → IsFalse c.in_body
    → Beginning c (word ∷ words)
declaration_begins c word words declares =
    elim (cases_Bool (begins_section word)) [
      | inr isnt ↦ shows_fault [] word words _ refl (begins_no_section c word declares isnt)
      | inl is ↦ elim (cases_Bool (is_one_of declaration_words word)) [
        | inl one ↦ declaring c word words declares one
        | inr none ↦ elim (cases_Bool (is_one_of header_words word)) [
          | inl header ↦ by_one_of (λ w. Beginning c (w ∷ words)) header_words word header (
            entry_begins c Date words declares refl,
            (entry_begins c Version words declares refl, (entry_begins c Comment words declares refl, tt)),
          )
          | inr no_header ↦ other_begins c word words (λ i. is i && not (none i) && (declares i || not (no_header i)))
        ]
      ]
    ]

-- ---- changes

command_begins : (c : ParseState) (text : List ℕ) (words : List (List ℕ)) → IsTrue c.in_body
    → Beginning c ((36 ∷ text) ∷ words)
command_begins c text words in_body =
    elim (cases_Bool (is_one_of dump_words (36 ∷ text))) [
      | inl dump ↦ item_begins c (dump_word (36 ∷ text)) _ words (and_from _ _ in_body dump) refl
      | inr no_dump ↦ elim (cases_Bool (is_one_of declaration_words (36 ∷ text))) [
        | inl late ↦ shows_fault [] (36 ∷ text) words _ refl (declaration_late c (36 ∷ text) in_body late)
        | inr none ↦ other_begins c (36 ∷ text) words (grind arith)
      ]
    ]

scalar_begins : (c : ParseState) (digit : ℕ) (code : List ℕ) (words : List (List ℕ)) → IsTrue c.in_body
    → IsTrue (is_binary_digit digit) → Beginning c ((digit ∷ code) ∷ words)
scalar_begins c digit [] words in_body is = shows_fault [] (digit ∷ []) words _ refl (missing_code c digit in_body is)
scalar_begins c digit (b ∷ code) words in_body is =
    item_begins c (scalar digit (b ∷ code)) _ words (fits_scalar c digit (b ∷ code) in_body is (omega arith)) refl

vector_begins : (c : ParseState) (first : ℕ) (digits : List ℕ) (words : List (List ℕ)) → IsTrue c.in_body
    → IsTrue (is_among vector_prefixes first) → Beginning c ((first ∷ digits) ∷ words)
vector_begins c first digits [] in_body is = goes_on (vector_due c first digits in_body is)
vector_begins c first digits (code ∷ words) in_body is =
    item_begins c (vector first digits code) _ words (and_from _ _ in_body is) refl

real_or_string_begins : (c : ParseState) (first : ℕ) (text : List ℕ) (words : List (List ℕ)) → IsTrue c.in_body
    → IsTrue (is_among real_or_string_prefixes first) → Beginning c ((first ∷ text) ∷ words)
real_or_string_begins c first text [] in_body is = goes_on (real_or_string_due c first text in_body is)
real_or_string_begins c first text (code ∷ words) in_body is =
    item_begins c (real_or_string first text code) _ words (and_from _ _ in_body is) refl

change_begins : (c : ParseState) (word : List ℕ) (words : List (List ℕ)) → IsTrue c.in_body → Beginning c (word ∷ words)
change_begins c [] words in_body = shows_fault [] [] words _ refl
    (misfit_changes c [] BadChange in_body (λ more f. absurd (false≢true (and_parts _ _ f).1)) refl)
change_begins c (first ∷ text) words in_body =
    elim (cases_Bool (is_binary_digit first)) [
      | inl digit ↦ scalar_begins c first text words in_body digit
      | inr no_digit ↦ elim (cases_Bool (is_among (codes "#$") first)) [
        | inl sign ↦ by_among (λ b. Beginning c ((b ∷ text) ∷ words)) (codes "#$") first sign (
          item_begins c (stamp text) _ words in_body refl,
          (command_begins c text words in_body, tt),
        )
        | inr no_sign ↦ elim (cases_Bool (is_among vector_prefixes first)) [
          | inl letter ↦ vector_begins c first text words in_body letter
          | inr no_vector ↦ elim (cases_Bool (is_among real_or_string_prefixes first)) [
            | inl letter ↦ real_or_string_begins c first text words in_body letter
            | inr no_pair ↦ shows_fault [] (first ∷ text) words _ refl
                (begins_no_change c first text in_body no_digit no_sign no_vector no_pair)
          ]
        ]
      ]
    ]

-- ---- any words

pub beginning : (c : ParseState) (word : List ℕ) (words : List (List ℕ)) → Beginning c (word ∷ words)
beginning c word words =
    elim (cases_Bool c.in_body) [
      | inl in_body ↦ change_begins c word words in_body
      | inr declares ↦ declaration_begins c word words declares
    ]

-- one more word, which is not `$end`
pub no_end_more : (words : List (List ℕ)) (word : List ℕ) → IsTrue (has_no_end_word words) → IsFalse (is_end_word word)
    → IsTrue (has_no_end_word (words ++ word ∷ []))
no_end_more words word none isnt = grind (arith, list_all-append)
