-- The words of changes follow the grammar.
use Rattle.std.proofs.Common.{◌≡◌, ◌⊎◌, inl, inr, ℕ, ◌<◌, ◌≤◌, true, false, List, [], ◌∷◌, ◌++◌, ◌&&◌, length, Some}
use Rattle.std.proofs.Common.{IsSomeAnd, Result, Ok, Err, is_some, refl, sym, ap, subst, ◌∙◌, arith}
use Rattle.std.specs.Prelude.{codes, IsTrue}
use Rattle.std.proofs.lemmas.List.{nil_from_length}
use Rattle.std.proofs.lemmas.Bool.{or_parts, and_from, lt-leb, eqb-false, or_from, or_right}
use Rattle.vcd_text.specs.declared.fault.Fault.{Fault}
use Rattle.vcd_text.specs.declared.fault.Fault.TheVariants.{NoMemory, BadTime, TimeBackwards, BadChange, UnknownCode}
use Rattle.vcd_text.specs.declared.fault.Fault.TheVariants.{UnexpectedWord}
use Rattle.vcd_text.specs.Words.{WordOnLine, word_on}
use Rattle.vcd_core.specs.Decimal.{number_of}
use Rattle.vcd_core.specs.Word.{is_one_of}
use Rattle.vcd_text.specs.Letters.{is_among, is_binary_digit}
use Rattle.vcd_text.specs.Items.{Item, stamp, scalar, vector, real_or_string, dump_word, spelling, is_command}
use Rattle.vcd_text.specs.Items.{dump_words, declaration_words}
use Rattle.vcd_text.specs.inside.reading.DigitTests.{vector_prefixes, real_or_string_prefixes, is_tick}
use Rattle.vcd_text.specs.inside.reading.DigitTests.{is_binary_number, takes_binary_number}
use Rattle.vcd_text.specs.Grammar.{ParseState, Allows, state_after_item, word_texts, variable_of, digit_tests}
use Rattle.vcd_text.specs.Faults.{WordShows, test_fails}
use Rattle.vcd_core.specs.Tests.{first_fault}
use Rattle.vcd_text.proofs.shared.ItemTests.{missing_code, declaration_late, begins_no_change, fits_scalar, failed}
use Rattle.vcd_text.proofs.shared.ItemTests.{failed_later, allows_stamp, allows_scalar, allows_vector}
use Rattle.vcd_text.proofs.shared.ItemTests.{allows_real_or_string}
use Rattle.vcd_text.specs.inside.reading.Variables.{VariablesMatch, RefusesChange}
use Rattle.vcd_text.specs.inside.reading.Variables as variables
use Rattle.vcd_text.specs.inside.reading.Parser.{ParserMatches, AwaitsCode, IsBegun, IsAtState, WordStep, goes_on}
use Rattle.vcd_text.specs.inside.reading.Parser.{ends_item, WordResult}
use Rattle.vcd_text.specs.declared.reading.parser.Parser.{Parser}
use Rattle.vcd_text.specs.declared.reading.parser.OpenItem.{OpenItem}
use Rattle.vcd_text.specs.declared.reading.parser.OpenItem.TheVariants as items
use Rattle.vcd_text.specs.declared.reading.variables.Variables.{Variables}
use Rattle.vcd_text.proofs.reading.variables.VariablesMatch.{knows_further}
use Rattle.vcd_text.proofs.reading.declarations.DeclarationWords.{agrees_by, agrees_as}
use Rattle.vcd_text.proofs.reading.variables.ChangedVariable.{agrees_changed, refuses_file, seen_at, not_both}
use Rattle.vcd_text.specs.inside.reading.Part.{Asked, seen_state, seen_tick, PartChange}

-- ---- between two changes

-- no word has been taken of an item that is not open
pub none_begun : (m : Parser) (begun : List WordOnLine) → m.item ≡ items.Nothing → IsBegun m begun m.item → begun ≡ []
none_begun m begun between taken = rw between at taken

-- a word that is a whole item
whole_item : (old new : Parser) (w : WordOnLine) (i : Item) → old.item ≡ items.Nothing → new.item ≡ items.Nothing
    → spelling i ≡ w.text ∷ []
    → ((asked : Asked) (c : ParseState) → ParserMatches asked old c
    → Allows c i × ParserMatches asked new (state_after_item c i))
    → WordResult old w (Ok tt) new
whole_item old new w i between closed spelled item asked c begun (agrees, taken) =
    let none = none_begun old begun between taken in
    ends_item i (spelled ∙ ap (λ bs. word_texts (bs ++ w ∷ [])) (sym none)) (item asked c agrees).0 (
      (item asked c agrees).1,
      rw closed refl,
    )

-- a first word that shows a fault
shown_at : (asked : Asked) (m : Parser) (c : ParseState) (begun : List WordOnLine) (w : WordOnLine) (fault : Fault)
    → m.item ≡ items.Nothing → m.in_body ≡ true → IsAtState asked m c begun
    → (IsTrue c.in_body → WordShows c [] w.text fault)
    → (fault ≡ NoMemory) ⊎ WordShows c (word_texts begun) w.text fault
shown_at asked m c begun w fault between in_body (agrees, taken) shown =
    inr (rw (none_begun m begun between taken) (shown (sym agrees.in_body ∙ in_body)))

shows : (old new : Parser) (w : WordOnLine) (fault : Fault) → old.item ≡ items.Nothing → old.in_body ≡ true
    → ((asked : Asked) (c : ParseState) → ParserMatches asked old c → IsTrue c.in_body → WordShows c [] w.text fault)
    → WordResult old w (Err fault) new
shows old new w fault between in_body shown asked c begun at = search (arith, shown_at)

-- the state does not depend on the open item
agrees_still : (asked : Asked) (m : Parser) (c : ParseState) (item : OpenItem) (line : ℕ) → ParserMatches asked m c
    → ParserMatches asked (record m { item = item; line = line }) c
agrees_still asked m c item line agrees = agrees_as asked m _ c agrees refl refl refl refl refl refl refl

-- ---- stamps

pub no_stamp : (m new : Parser) (digits : List ℕ) (line : ℕ) → m.item ≡ items.Nothing → m.in_body ≡ true
    → is_tick digits ≡ false → WordResult m (word_on (35 ∷ digits) line) (Err BadTime) new
no_stamp m new digits line between in_body isnt = shows m new (word_on (35 ∷ digits) line) BadTime between in_body
    (λ asked c agrees in_it. test_fails (stamp digits) in_it refl (grind (arith, failed)))

pub stamp_goes_back : (m new : Parser) (digits : List ℕ) (line tick : ℕ) → m.item ≡ items.Nothing → m.in_body ≡ true
    → is_tick digits ≡ true → tick ≡ number_of digits → tick < m.tick
    → WordResult m (word_on (35 ∷ digits) line) (Err TimeBackwards) new
stamp_goes_back m new digits line tick between in_body is number back = shows m new (word_on (35 ∷ digits) line)
    TimeBackwards between in_body (λ asked c agrees in_it. test_fails (stamp digits) in_it refl
    (grind (arith, failed_later, failed, lt-leb)))

pub takes_stamp : (m : Parser) (digits : List ℕ) (line tick : ℕ) → m.item ≡ items.Nothing → m.in_body ≡ true
    → is_tick digits ≡ true → tick ≡ number_of digits → m.tick ≤ tick
    → WordResult m (word_on (35 ∷ digits) line) (Ok tt) (record m { tick = tick })
takes_stamp m digits line tick between in_body is number later = whole_item m (record m { tick = tick })
    (word_on (35 ∷ digits) line) (stamp digits) between between refl (λ asked c agrees.
    let after : c.tick ≤ number_of digits = omega (arith, agrees.tick) in (
      allows_stamp c digits (sym agrees.in_body ∙ in_body) is after,
      agrees_by asked _ _ agrees.seen agrees.header agrees.timescale agrees.in_body number (knows_further m.variables
          (seen_state m.part c agrees.seen) c.header c.timescale c.in_body (seen_tick m.part (number_of digits)) (omega
          (arith, after)) agrees.variables) (λ early. not_both (sym agrees.in_body ∙ in_body) early)
          agrees.no_early_change agrees.none_seen agrees.tells agrees.hears agrees.is_asked,
    ))

-- ---- commands

pub takes_dump_word : (m : Parser) (text : List ℕ) (line : ℕ) → m.item ≡ items.Nothing → m.in_body ≡ true
    → is_one_of dump_words text ≡ true → WordResult m (word_on text line) (Ok tt) m
takes_dump_word m text line between in_body is = whole_item m m (word_on text line) (dump_word text) between between
    refl (grind arith)

pub declares_late : (m new : Parser) (text : List ℕ) (line : ℕ) → m.item ≡ items.Nothing → m.in_body ≡ true
    → is_one_of declaration_words text ≡ true → WordResult m (word_on text line) (Err UnexpectedWord) new
declares_late m new text line between in_body is = search (arith, shows, declaration_late)

pub passes_over : (m : Parser) (text : List ℕ) (line : ℕ) → m.item ≡ items.Nothing → m.in_body ≡ true
    → is_command text ≡ true → is_one_of dump_words text ≡ false → is_one_of declaration_words text ≡ false
    → WordResult m (word_on text line) (Ok tt) (record m { item = items.Other })
passes_over m text line between in_body command dump declaring asked c begun (agrees, taken) =
    let none = none_begun m begun between taken in
    goes_on (
      agrees_still asked m c items.Other m.line agrees,
      record {
        keyword = text;
        words = [];
        spelled = ap (λ bs. word_texts (bs ++ word_on text line ∷ [])) none;
        other = grind arith;
        no_end = refl;
      },
    )

-- ---- changes of one word

pub no_code : (m new : Parser) (letter : ℕ) (code : List ℕ) (line : ℕ) → m.item ≡ items.Nothing → m.in_body ≡ true
    → is_binary_digit letter ≡ true → length code ≡ 0 → WordResult m (word_on (letter ∷ code) line) (Err BadChange) new
no_code m new letter code line between in_body is none = shows m new (word_on (letter ∷ code) line) BadChange between
    in_body (λ asked c agrees in_it. rw (nil_from_length code none) (missing_code c letter in_it is))

pub begins_nothing : (m new : Parser) (first : ℕ) (text : List ℕ) (line : ℕ) → m.item ≡ items.Nothing → m.in_body ≡ true
    → is_among (codes "#$") first ≡ false → is_binary_digit first ≡ false → is_among vector_prefixes first ≡ false
    → is_among real_or_string_prefixes first ≡ false → WordResult m (word_on (first ∷ text) line) (Err BadChange) new
begins_nothing m new first text line between in_body no_command no_letter no_vector no_real_or_string =
    search (arith, shows, begins_no_change)

-- one letter is a value that is not too long
one_letter : (letter : ℕ) → is_binary_digit letter ≡ true → is_binary_number (letter ∷ []) ≡ true
one_letter letter is = λ i. is i && true

bit_shows : (c : ParseState) (letter : ℕ) (code : List ℕ) (fault : Fault) → is_binary_digit letter ≡ true
    → 0 < length code → RefusesChange c code (letter ∷ []) fault → IsTrue c.in_body
    → WordShows c [] (letter ∷ code) fault
bit_shows c letter code fault is some (variables.unknown none which) in_body = rw which
    (test_fails (scalar letter code) (fits_scalar c letter code in_body is some) refl (failed _ _ [] (ap is_some none)))
bit_shows c letter code fault is some (variables.no_value d found keeps isnt which) in_body =
    not_both (one_letter letter is) isnt
bit_shows c letter code fault is some (variables.too_long d found keeps value long which) in_body =
    grind (arith, or_parts, eqb-false)

pub sets_bit : (m : Parser) (vs : Variables) (letter : ℕ) (code : List ℕ) (line : ℕ) (r : Result (Unit {0}) Fault)
    → m.item ≡ items.Nothing → m.in_body ≡ true → is_binary_digit letter ≡ true → 0 < length code
    → ((c : ParseState) → c.tick ≡ seen_tick m.part m.tick → VariablesMatch m.variables c
    → PartChange m.part m.silent.items m.tick c code (letter ∷ []) m.variables r vs)
    → WordResult m (word_on (letter ∷ code) line) r (record m { variables = vs })
sets_bit m vs letter code line (Ok x) between in_body is some takes = whole_item m (record m { variables = vs })
    (word_on (letter ∷ code) line) (scalar letter code) between between refl (λ asked c agrees.
    let change = takes (seen_state m.part c agrees.seen) (seen_at asked m c agrees) agrees.variables in (
      allows_scalar c letter code (sym agrees.in_body ∙ in_body) is some (grind arith),
      agrees_changed asked m c vs code (letter ∷ []) m.item agrees in_body change,
    ))
sets_bit m vs letter code line (Err fault) between in_body is some takes = λ asked c begun at.
    elim (takes (seen_state m.part c at.0.seen) (seen_at asked m c at.0) at.0.variables) [
      | inl memory ↦ inl memory
      | inr row ↦ shown_at asked m c begun (word_on (letter ∷ code) line) fault between in_body at
          (bit_shows c letter code fault is some (refuses_file m.part c at.0.seen code (letter ∷ []) fault row))
    ]

-- ---- changes of two words

pub begins_real_or_string : (m : Parser) (first : ℕ) (text : List ℕ) (line : ℕ) → m.item ≡ items.Nothing
    → m.in_body ≡ true → is_among real_or_string_prefixes first ≡ true
    → WordResult m (word_on (first ∷ text) line) (Ok tt) (record m { item = items.RealOrString; line = line })
begins_real_or_string m first text line between in_body is asked c begun (agrees, taken) =
    let none = none_begun m begun between taken in
    goes_on (
      agrees_still asked m c items.RealOrString line agrees,
      (
        text,
        record {
          in_body = in_body;
          word = word_on (first ∷ text) line;
          letter = first;
          is = ap (λ bs. bs ++ word_on (first ∷ text) line ∷ []) none;
          spelled = refl;
          among = is;
          line = refl;
        },
      ),
    )

-- the words of a change of two words, of which the first has been taken
texts_begun : (m : Parser) (begun : List WordOnLine) (letters text : List ℕ) (b : AwaitsCode m begun letters text)
    → word_texts begun ≡ (b.letter ∷ text) ∷ []
texts_begun m begun letters text b = ap word_texts b.is ∙ ap (λ t. t ∷ []) b.spelled

texts_whole : (m : Parser) (begun : List WordOnLine) (letters text code : List ℕ) (line : ℕ)
    (b : AwaitsCode m begun letters text) → (b.letter ∷ text) ∷ code ∷ [] ≡ word_texts (begun ++ word_on code line ∷ [])
texts_whole m begun letters text code line b = grind arith

-- the tests of the digits fail
digits_fail : (c : ParseState) (digits code : List ℕ) (fault : Fault) → RefusesChange c code digits fault
    → first_fault (digit_tests digits (variable_of c code)) ≡ Some fault
digits_fail c digits code fault refused = grind (arith, failed_later, or_right, failed, or_from, lt-leb)

-- all words of a change by a binary number have been taken
pub whole_vector : (asked : Asked) (m : Parser) (c : ParseState) (vs : Variables) (item : OpenItem)
    (words : List WordOnLine) (letter : ℕ) (digits code : List ℕ) → ParserMatches asked m c → m.in_body ≡ true
    → item ≡ items.Nothing → is_among vector_prefixes letter ≡ true → (letter ∷ digits) ∷ code ∷ [] ≡ word_texts words
    → IsSomeAnd (variable_of c code) (λ d. IsTrue (takes_binary_number d digits))
    → ParserMatches asked (record m { variables = vs; item = item }) (state_after_item c (vector letter digits code))
    → WordStep asked c words (record m { variables = vs; item = item })
whole_vector asked m c vs item words letter digits code agrees in_body closed is spelled takes changed = ends_item
    (vector letter digits code) spelled (allows_vector c letter digits code (sym agrees.in_body ∙ in_body) is takes) (
      changed,
      rw closed refl,
    )

-- the code of a change by a binary number shows a fault
pub vector_shown : (asked : Asked) (m : Parser) (c : ParseState) (letter : ℕ) (digits code : List ℕ) (fault : Fault)
    → ParserMatches asked m c → m.in_body ≡ true → is_among vector_prefixes letter ≡ true
    → RefusesChange c code digits fault → WordShows c ((letter ∷ digits) ∷ []) code fault
vector_shown asked m c letter digits code fault agrees in_body is row = test_fails (vector letter digits code)
    (and_from _ _ (sym agrees.in_body ∙ in_body) is) refl (digits_fail c digits code fault row)

pub ends_vector : (m : Parser) (vs : Variables) (code : List ℕ) (line : ℕ) (r : Result (Unit {0}) Fault)
    → m.item ≡ items.Vector
    → ((c : ParseState) → c.tick ≡ seen_tick m.part m.tick → VariablesMatch m.variables c
    → PartChange m.part m.silent.items m.tick c code m.digits.items m.variables r vs)
    → WordResult m (word_on code line) r (record m { variables = vs; item = items.Nothing })
ends_vector m vs code line (Ok x) item takes = λ asked c begun (agrees, taken).
    let b : AwaitsCode m begun vector_prefixes m.digits.items = subst (IsBegun m begun) item taken in
    let change = takes (seen_state m.part c agrees.seen) (seen_at asked m c agrees) agrees.variables in
    whole_vector asked m c vs _ _ _ _ code agrees b.in_body refl b.among (texts_whole m begun _ _ code line b) change.0
    (agrees_changed asked m c vs code m.digits.items items.Nothing agrees b.in_body change)
ends_vector m vs code line (Err fault) item takes = λ asked c begun (agrees, taken).
    let b : AwaitsCode m begun vector_prefixes m.digits.items = subst (IsBegun m begun) item taken in
    elim (takes (seen_state m.part c agrees.seen) (seen_at asked m c agrees) agrees.variables) [
      | inl memory ↦ inl memory
      | inr row ↦ inr (rw (texts_begun m begun _ _ b) (vector_shown asked m c _ _ code fault agrees b.in_body b.among
          (refuses_file m.part c _ code _ fault row)))
    ]

pub ends_real_or_string : (m : Parser) (code : List ℕ) (line : ℕ) → m.item ≡ items.RealOrString
    → ((c : ParseState) → VariablesMatch m.variables c → is_some (variable_of c code) ≡ true)
    → WordResult m (word_on code line) (Ok tt) (record m { item = items.Nothing })
ends_real_or_string m code line item declared asked c begun (agrees, taken) =
    let at : (text : List ℕ) × AwaitsCode m begun real_or_string_prefixes text = subst (IsBegun m begun) item taken in
    let text = at.0 in
    let b = at.1 in
    ends_item (real_or_string b.letter text code) (texts_whole m begun real_or_string_prefixes text code line b)
    (allows_real_or_string c b.letter text code (sym agrees.in_body ∙ b.in_body) b.among
    (declared (seen_state m.part c agrees.seen) agrees.variables)) (
      agrees_still asked m c items.Nothing m.line agrees,
      refl,
    )

pub unknown_real_or_string : (m new : Parser) (code : List ℕ) (line : ℕ) → m.item ≡ items.RealOrString
    → ((c : ParseState) → VariablesMatch m.variables c → is_some (variable_of c code) ≡ false)
    → WordResult m (word_on code line) (Err UnknownCode) new
unknown_real_or_string m new code line item unknown asked c begun (agrees, taken) =
    let at : (text : List ℕ) × AwaitsCode m begun real_or_string_prefixes text = subst (IsBegun m begun) item taken in
    let text = at.0 in
    let b = at.1 in
    inr (rw (texts_begun m begun _ text b) (test_fails (real_or_string b.letter text code)
    (and_from _ _ (sym agrees.in_body ∙ b.in_body) b.among) refl
    (failed _ _ [] (unknown (seen_state m.part c agrees.seen) agrees.variables))))
