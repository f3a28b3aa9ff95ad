-- A declaration after the next of its words.
use Rattle.std.proofs.Common.{◌≡◌, ℕ, ◌-◌, ◌<◌, ◌≤◌, ◌+◌, min, Bool, true, false, List, [], ◌∷◌, ◌++◌, length, take}
use Rattle.std.proofs.Common.{Option, Some, None, IsTrue, IsFalse, Result, Ok, Err, IsErrAnd, ◌⊎◌, codes, refl, sym, ap}
use Rattle.std.proofs.Common.{subst, map, ◌∙◌, arith, inl, inr}
use Rattle.std.proofs.lemmas.Bool.{and_parts, and_from}
use Rattle.std.proofs.lemmas.List.{length-take-le, nil_from_length}
use Rattle.std.specs.Global.{Vec}
use Rattle.vcd_core.specs.declared.capture.Header.{Header}
use Rattle.vcd_core.specs.declared.capture.HeaderKind.{HeaderKind}
use Rattle.vcd_core.specs.declared.capture.Timescale.{Timescale}
use Rattle.vcd_core.specs.declared.capture.ScopeName.{ScopeName}
use Rattle.vcd_text.specs.declared.fault.Fault.{Fault}
use Rattle.vcd_text.specs.declared.fault.Fault.TheVariants as faults
use Rattle.vcd_text.specs.Words.{WordOnLine, word_on}
use Rattle.vcd_core.specs.Decimal.{is_number, number_of}
use Rattle.vcd_core.specs.declared.value.TheConstants.{WIDTH_LIMIT}
use Rattle.vcd_text.specs.Items.{Item, entry, timescale, scope, upscope, variable, end_definitions, other, spelling}
use Rattle.vcd_text.specs.Items.{end_word, has_no_end_word, header_word, is_other, timescale_of, begins_section}
use Rattle.vcd_text.specs.inside.reading.Declarations.{is_end_word}
use Rattle.vcd_text.specs.Grammar.{ParseState, state_after_item, word_texts, Allows, has_good_size, declaration_of}
use Rattle.vcd_text.specs.Grammar.{variable_tests, ValueChange, kept_variables}
use Rattle.vcd_text.specs.Faults.{WordShows, test_fails}
use Rattle.vcd_core.specs.Tests.{first_fault}
use Rattle.vcd_text.specs.inside.reading.Scopes.{open_scopes, KeepsPlaces}
use Rattle.vcd_text.specs.inside.reading.Variables.{VariablesMatch, Declares, DeclaresWords}
use Rattle.vcd_text.specs.inside.reading.Parser.{ParserMatches, Collects, CollectsVariable, PassesOver, IsBegun}
use Rattle.vcd_text.specs.inside.reading.Parser.{IsAtState, WordStep, goes_on, BeginsPart, ends_item}
use Rattle.vcd_text.specs.inside.reading.Parser.{WordResult}
use Rattle.vcd_text.specs.declared.reading.parser.Parser.{Parser}
use Rattle.vcd_text.specs.declared.reading.parser.OpenItem.TheVariants as items
use Rattle.vcd_text.specs.declared.reading.scopes.Scopes.{Scopes}
use Rattle.vcd_text.specs.declared.reading.part.Part.{Part}
use Rattle.vcd_text.specs.inside.reading.Part.{Asked, IsAskedPart, seen_state, TellsPart, HearsPart, HearsVariables}
use Rattle.vcd_text.specs.inside.reading.Part.{undriven}
use Rattle.vcd_core.specs.Wave.{value_from}
use Rattle.vcd_text.specs.Meaning.{changes_of_code}
use Rattle.std.proofs.lemmas.Option.{slice_get_cases, slice_get_within}
use Rattle.vcd_text.proofs.reading.variables.DeclaredVariable.{one_position}
use Rattle.vcd_text.proofs.reading.variables.VariablesMatch.{kept_long, knows_further, scopes_moved}
use Rattle.vcd_text.specs.declared.reading.variables.Variables.{Variables}
use Rattle.vcd_text.proofs.shared.ResultExists.{texts_more}
use Rattle.vcd_text.proofs.shared.WordOutcomes.{no_end_more}
use Rattle.vcd_text.proofs.shared.ItemTests.{no_size, begins_no_section, upscope_at_top, upscope_goes_on}
use Rattle.vcd_text.proofs.shared.ItemTests.{definitions_go_on, missing_kind, fits_in_words, fits_variable, failed}
use Rattle.vcd_text.proofs.shared.ItemTests.{allows_entry, allows_scope, allows_upscope, allows_variable}
use Rattle.vcd_text.proofs.shared.ItemTests.{allows_end_definitions, passes}

-- ---- the state stays the same

-- the variables match a state that differs only in other fields
still_known : (vs : Variables) (c : ParseState) (header : List Header) (unit : Option Timescale) (in_body : Bool)
    → VariablesMatch vs c → VariablesMatch vs (record c { header = header; timescale = unit; in_body = in_body })
still_known vs c header unit in_body k = knows_further vs c header unit in_body c.tick (omega arith) k

-- ---- the end of an item

-- the parser matches a state, part by part
pub agrees_by : (asked : Asked) (m : Parser) (c : ParseState) (seen : List ValueChange) → m.header.items ≡ c.header
    → m.timescale ≡ c.timescale → m.in_body ≡ c.in_body → m.tick ≡ c.tick
    → VariablesMatch m.variables (seen_state m.part c seen) → (IsFalse c.in_body → c.tick ≡ 0)
    → (IsFalse c.in_body → c.value_changes ≡ []) → (IsFalse c.in_body → seen ≡ []) → TellsPart m.part c seen
    → (IsTrue c.in_body → HearsPart m.part m.silent.items m.variables c)
    → (IsTrue c.in_body → IsAskedPart asked (map undriven (kept_variables c.declared)) m.part) → ParserMatches asked m c
agrees_by asked m c seen header time in_body tick variables no_tick no_early_change none tells hears asks = grind arith

-- before the first change nothing is to be told
pub tells_nothing : (part : Part) (c : ParseState) (seen : List ValueChange) → c.value_changes ≡ [] → seen ≡ []
    → TellsPart part c seen
unfolding changes_of_code value_from
tells_nothing part c seen none none_seen position d remains t within = grind arith

-- the parser matches a state among the declarations
agrees_early : (asked : Asked) (m : Parser) (c : ParseState) (seen : List ValueChange) → m.header.items ≡ c.header
    → m.timescale ≡ c.timescale → m.in_body ≡ c.in_body → m.tick ≡ c.tick
    → VariablesMatch m.variables (seen_state m.part c seen) → c.tick ≡ 0 → c.value_changes ≡ [] → seen ≡ []
    → IsFalse c.in_body → ParserMatches asked m c
agrees_early asked m c seen header time in_body tick variables no_tick none none_seen early =
    grind (arith, agrees_by, tells_nothing)

-- a parser that differs only in the open item matches the same state
pub agrees_as : (asked : Asked) (m new : Parser) (c : ParseState) → ParserMatches asked m c → new.header ≡ m.header
    → new.timescale ≡ m.timescale → new.in_body ≡ m.in_body → new.tick ≡ m.tick → new.part ≡ m.part
    → new.variables ≡ m.variables → new.silent ≡ m.silent → ParserMatches asked new c
agrees_as asked m new c a header time in_body tick part variables silent = grind (arith, agrees_by)

-- if the conditions of the open item hold, its `$end` ends it
ends_here : (asked : Asked) (new : Parser) (c : ParseState) (begun : List WordOnLine) (line : ℕ) (i : Item)
    (words : List (List ℕ)) → word_texts begun ≡ words → spelling i ≡ words ++ end_word ∷ [] → Allows c i
    → ParserMatches asked new (state_after_item c i) → new.item ≡ items.Nothing
    → WordStep asked c (begun ++ word_on end_word line ∷ []) new
ends_here asked new c begun line i words spelled whole allows agrees closed = ends_item i
    (whole ∙ (grind (arith, texts_more))) allows (agrees, rw closed refl)

-- a header entry is the last of the header
pub closes_entry : (m new : Parser) (kind : HeaderKind) → m.item ≡ items.Entry kind
    → new.header.items ≡ m.header.items ++ record { kind = kind; words = m.entry } ∷ []
    → new ≡ record m { header = new.header; entry = new.entry; item = items.Nothing }
    → (line : ℕ) → WordResult m (word_on end_word line) (Ok tt) new
closes_entry m new kind is pushed others line asked c begun at =
    let a = at.0 in
    let b : Collects m begun (header_word kind) m.entry = subst (IsBegun m begun) is at.1 in
    let early : IsFalse c.in_body = sym a.in_body ∙ b.declares in
    let i : Item = entry kind m.entry in
    rw others (ends_here asked _ c begun line i _ b.spelled refl (allows_entry c kind m.entry early b.no_end)
    (grind (arith, agrees_early, still_known)) refl)

-- a timescale replaces the one before
pub closes_timescale : (m : Parser) (found : Timescale) → m.item ≡ items.Timescale
    → timescale_of m.words.items ≡ Some found
    → (line : ℕ) → WordResult m (word_on end_word line) (Ok tt)
    (record m { timescale = Some found; item = items.Nothing })
closes_timescale m found is some line asked c begun at =
    let b : Collects m begun (codes "$timescale") m.words.items = subst (IsBegun m begun) is at.1 in
    let i : Item = timescale m.words.items in
    ends_here asked _ c begun line i _ b.spelled refl (grind (arith, fits_in_words, passes))
    (grind (arith, agrees_early, still_known)) refl

-- the words spell no timescale
pub shows_no_timescale : (m : Parser) → m.item ≡ items.Timescale → timescale_of m.words.items ≡ None
    → (asked : Asked) (c : ParseState) (begun : List WordOnLine) → IsAtState asked m c begun
    → WordShows c (word_texts begun) end_word faults.BadTimescale
shows_no_timescale m is none asked c begun at =
    let b : Collects m begun (codes "$timescale") m.words.items = subst (IsBegun m begun) is at.1 in
    test_fails (timescale m.words.items) (fits_in_words c m.words.items (sym at.0.in_body ∙ b.declares) b.no_end)
    (ap (λ ws. ws ++ end_word ∷ []) (sym b.spelled)) (grind (arith, failed))

-- a scope is the innermost
pub closes_scope : (m : Parser) (scopes : Scopes) (rest : Vec (List ℕ)) (s : ScopeName) → m.item ≡ items.Scope
    → m.words.items ≡ s.kind ∷ s.words → open_scopes scopes ≡ open_scopes m.variables.scopes ++ s ∷ []
    → KeepsPlaces m.variables.scopes scopes
    → (line : ℕ) → WordResult m (word_on end_word line) (Ok tt)
    (record m { variables = record m.variables { scopes = scopes }; words = rest; item = items.Nothing })
closes_scope m scopes rest s is words pushed keeps line asked c begun at =
    let b : Collects m begun (codes "$scope") m.words.items = subst (IsBegun m begun) is at.1 in
    let early : IsFalse c.in_body = sym at.0.in_body ∙ b.declares in
    ends_here asked _ c begun line (scope s.kind s.words) (codes "$scope" ∷ s.kind ∷ s.words) (cc) refl (allows_scope c
    s.kind s.words early (ap has_no_end_word (sym words) ∙ b.no_end)) (grind (arith, agrees_early, scopes_moved)) refl

-- as many scopes are open as in the state
pub so_deep : (vs : Variables) (c : ParseState) → VariablesMatch vs c → length c.scopes ≡ vs.scopes.depth
so_deep vs c k = grind (arith, length-take-le)

-- the innermost scope is closed
pub closes_upscope : (m : Parser) (scopes : Scopes) → m.item ≡ items.Upscope
    → open_scopes scopes ≡ take (length (open_scopes m.variables.scopes) - 1) (open_scopes m.variables.scopes)
    → KeepsPlaces m.variables.scopes scopes
    → (line : ℕ) → WordResult m (word_on end_word line) (Ok tt)
    (record m { variables = record m.variables { scopes = scopes }; item = items.Nothing })
closes_upscope m scopes is popped keeps line asked c begun at =
    let a = at.0 in
    let b : IsFalse m.in_body × (word_texts begun ≡ codes "$upscope" ∷ []) × (0 < m.variables.scopes.depth) =
    grind arith in
    let early : IsFalse c.in_body = sym a.in_body ∙ b.0 in
    ends_here asked _ c begun line upscope (codes "$upscope" ∷ []) b.1 refl (grind (arith, allows_upscope, so_deep))
    (grind (arith, agrees_early, scopes_moved)) refl

-- the codes of the variables that remain are heard
heard_codes : (part : Part) (vs : Variables) (c : ParseState) (seen : List ValueChange) (silent : List Bool)
    → VariablesMatch vs (seen_state part c seen) → HearsVariables vs.kept.items part.left_out.items silent
    → HearsPart part silent vs c
heard_codes part vs c seen silent k hears position d (declared, remains) width first target =
    elim (slice_get_cases vs.kept.items position).1 [
      | inl (v, within, at, read) ↦
          grind (arith, one_position)
      | inr (past, at) ↦ absurd (omega (
        arith,
        past,
        kept_long vs (seen_state part c seen) k,
        slice_get_within (kept_variables c.declared) position d declared,
      ))
    ]

-- the changes of a part begin
pub begins_part : (m : Parser) (part : Part) (silent : Vec Bool) → m.item ≡ items.EndDefinitions
    → HearsVariables m.variables.kept.items part.left_out.items silent.items
    → BeginsPart m (record m { silent = silent; part = part; in_body = true; item = items.Nothing })
begins_part m part silent is hears line before asked c begun at asks =
    let a = at.0 in
    let b : IsFalse m.in_body × (word_texts begun ≡ codes "$enddefinitions" ∷ []) = rw is at at.1 in
    let early : IsFalse c.in_body = sym a.in_body ∙ b.0 in
    let vs : VariablesMatch m.variables (seen_state part c a.seen) = grind (arith, knows_further) in
    ends_here asked (record m { silent = silent; part = part; in_body = true; item = items.Nothing }) c begun line
    end_definitions (codes "$enddefinitions" ∷ []) b.1 refl (allows_end_definitions c early) (agrees_by asked _ _ a.seen
    a.header a.timescale refl a.tick (still_known _ _ _ _ _ vs) (λ _. a.no_early_tick early) (λ _. a.no_early_change
    early) (λ _. a.none_seen early) (grind (arith, tells_nothing)) (λ _. heard_codes part m.variables c a.seen
    silent.items vs hears) (λ _. asks)) refl

-- another command changes nothing
pub closes_other : (m : Parser) → m.item ≡ items.Other
    → (line : ℕ) → WordResult m (word_on end_word line) (Ok tt) (record m { item = items.Nothing })
closes_other m is line asked c begun at =
    let b : PassesOver m begun = subst (IsBegun m begun) is at.1 in
    ends_here asked (record m { item = items.Nothing }) c begun line (other b.keyword b.words) (b.keyword ∷ b.words)
    b.spelled refl ((
      and_from _ _ (ap (λ in_body. is_other in_body b.keyword) (sym at.0.in_body) ∙ b.other) b.no_end,
      refl,
    )) (agrees_as asked m _ c at.0 refl refl refl refl refl refl refl) refl

-- ---- variables

-- one word at most is no variable yet
pub short_words : (c : ParseState) (words : List (List ℕ)) → length words ≤ 1
    → IsTrue (has_good_size words) × (declaration_of c words ≡ None)
short_words c words short = grind arith

-- a variable that ends before its size
pub ends_early : (m new : Parser) → m.item ≡ items.Variable → (line : ℕ)
    → WordResult m (word_on end_word line) (Err faults.BadVar) new
ends_early m new is line asked c begun at =
    let b : Collects m begun (codes "$var") m.words.items × (length m.words.items ≤ 1) =
    subst (IsBegun m begun) is at.1 in
    let short = short_words c m.words.items b.1 in
    inr (test_fails (variable m.words.items) (fits_variable c m.words.items
    (sym at.0.in_body ∙ b.0.declares) b.0.no_end short.0) (ap (λ ws. ws ++ end_word ∷ []) (sym b.0.spelled))
    (ap (λ d. first_fault (variable_tests c d)) short.1))

-- the variables have the declaration
pub closes_variable : (m : Parser) (variables : Variables) (words : List (List ℕ)) (rest : Vec (List ℕ))
    → words ≡ m.words.items → DeclaresWords words m.size m.variables (Ok tt) variables
    → m.item ≡ items.SizedVariable → (line : ℕ) → WordResult m (word_on end_word line) (Ok tt)
    (record m { variables = variables; words = rest; item = items.Nothing })
closes_variable m variables words rest spelled declare is line asked c begun at =
    let a = at.0 in
    let b : CollectsVariable m begun = subst (IsBegun m begun) is at.1 in
    let declares : IsFalse c.in_body = sym a.in_body ∙ b.declares in
    let all : List (List ℕ) = b.kind ∷ b.word ∷ b.following in
    let d : Declares (seen_state m.part c a.seen) all (Ok tt) variables = declare (seen_state m.part c a.seen) b.kind
    b.word b.following (spelled ∙ b.words) b.size (a.none_seen declares) a.variables in
    ends_here asked _ c begun line (variable all) (codes "$var" ∷ all) b.spelled refl
    (allows_variable c all declares b.no_end b.number d.0) (grind (arith, agrees_early)) refl

-- the words declare no variable that is allowed here
pub shows_no_variable : (m new : Parser) (result : Result (Unit {0}) Fault) (fault : Fault) (variables : Variables)
    (words : List (List ℕ)) → words ≡ m.words.items → DeclaresWords words m.size m.variables (Err fault) variables
    → m.item ≡ items.SizedVariable
    → IsErrAnd result (λ e. e ≡ fault) → (line : ℕ) → WordResult m (word_on end_word line) result new
shows_no_variable m new (Ok x) fault variables words spelled declare is failed line = absurd failed
shows_no_variable m new (Err e) fault variables words spelled declare is failed line = λ asked c begun at.
    let a = at.0 in
    let b : CollectsVariable m begun = subst (IsBegun m begun) is at.1 in
    let declares : IsFalse c.in_body = sym a.in_body ∙ b.declares in
    let d : Declares (seen_state m.part c a.seen) (b.kind ∷ b.word ∷ b.following) (Err fault) variables =
    declare (seen_state m.part c a.seen) b.kind b.word b.following (spelled ∙ b.words) b.size (a.none_seen declares)
    a.variables in
    rw failed (elim d [
      | inl memory ↦ inl memory
      | inr fails ↦ let all : List (List ℕ) = b.kind ∷ b.word ∷ b.following in
          inr (test_fails (variable all) (fits_variable c all declares b.no_end b.number)
          (ap (λ ws. ws ++ end_word ∷ []) (sym b.spelled)) fails)
    ])

-- the kind of a variable, if it is the only word
one_word : (words : List (List ℕ)) → length words ≡ 1 → IsTrue (has_no_end_word words)
    → (kind : List ℕ) × (words ≡ kind ∷ []) × IsFalse (is_end_word kind)
one_word [] one none = absurd (omega arith)
one_word (kind ∷ []) one none = grind (arith, and_parts)
one_word (kind ∷ size ∷ words) one none = absurd (omega arith)

-- a size that is no number
pub shows_no_size : (m : Parser) (text : List ℕ) → m.item ≡ items.Variable → 0 < length m.words.items
    → is_number text ≡ false → (asked : Asked) (c : ParseState) (begun : List WordOnLine) → IsAtState asked m c begun
    → WordShows c (word_texts begun) text faults.BadVar
shows_no_size m text is some isnt asked c begun at =
    let b : Collects m begun (codes "$var") m.words.items × (length m.words.items ≤ 1) =
    subst (IsBegun m begun) is at.1 in
    let k = one_word m.words.items (omega (arith, some, b.1)) b.0.no_end in
    rw (b.0.spelled ∙ ap (λ ws. codes "$var" ∷ ws) k.1) (no_size c k.0 text (sym at.0.in_body ∙ b.0.declares) k.2 isnt)

-- ---- a word that goes on

-- a word of a header entry
pub continues_entry : (m : Parser) (kind : HeaderKind) (words : List (List ℕ)) (text : List ℕ)
    → m.item ≡ items.Entry kind → words ≡ m.entry ++ text ∷ [] → IsFalse (is_end_word text)
    → (line : ℕ) → WordResult m (word_on text line) (Ok tt) (record m { entry = words })
continues_entry m kind words text is pushed isnt line asked c begun at =
    grind (arith, agrees_as, texts_more, no_end_more)

-- the size of a variable
pub takes_size : (m : Parser) (text : List ℕ) (size : ℕ) → m.item ≡ items.Variable → 0 < length m.words.items
    → is_number text ≡ true → size ≡ min (number_of text) (WIDTH_LIMIT + 1) → IsFalse (is_end_word text)
    → (line : ℕ) → WordResult m (word_on text line) (Ok tt) (record m { size = size; item = items.SizedVariable })
takes_size m text size is some number read isnt line asked c begun at = grind (arith, one_word, agrees_as, texts_more)

-- a word of a variable after its size
pub continues_variable : (m : Parser) (words : Vec (List ℕ)) (text : List ℕ) → m.item ≡ items.SizedVariable
    → words.items ≡ m.words.items ++ text ∷ [] → IsFalse (is_end_word text)
    → (line : ℕ) → WordResult m (word_on text line) (Ok tt) (record m { words = words })
continues_variable m words text is pushed isnt line asked c begun at = grind (arith, agrees_as, texts_more, no_end_more)

-- a word of another command
pub passes_over : (m : Parser) (text : List ℕ) → m.item ≡ items.Other → IsFalse (is_end_word text)
    → (line : ℕ) → WordResult m (word_on text line) (Ok tt) m
passes_over m text is isnt line asked c begun at =
    let b : PassesOver m begun = subst (IsBegun m begun) is at.1 in
    goes_on (
      at.0,
      rw is (record {
        keyword = b.keyword;
        words = b.words ++ text ∷ [];
        spelled = texts_more begun (word_on text line) ∙ ap (λ ts. ts ++ text ∷ []) b.spelled;
        other = b.other;
        no_end = no_end_more b.words text b.no_end isnt;
      }),
    )

-- ---- a word with which no declaration goes on

shown_after : (c : ParseState) (begun : List WordOnLine) (texts : List (List ℕ)) (word : List ℕ) (fault : Fault)
    → word_texts begun ≡ texts → WordShows c texts word fault
    → (fault ≡ faults.NoMemory) ⊎ WordShows c (word_texts begun) word fault
shown_after c begun texts word fault is shown = inr (rw is shown)

-- a word that begins no section
pub shows_no_declaration : (m new : Parser) (text : List ℕ) → m.item ≡ items.Nothing → IsFalse m.in_body
    → IsFalse (begins_section text) → (line : ℕ) → WordResult m (word_on text line) (Err faults.UnexpectedWord) new
shows_no_declaration m new text is declares isnt line asked c begun at =
    let none : begun ≡ [] = rw is at at.1 in
    shown_after c begun [] text _ (ap word_texts none) (begins_no_section c text (sym at.0.in_body ∙ declares) isnt)

-- `$upscope` while no scope is open
pub shows_upscope_at_top : (m new : Parser) (text : List ℕ) → m.item ≡ items.Nothing → IsFalse m.in_body
    → text ≡ codes "$upscope" → m.variables.scopes.depth ≡ 0 → (line : ℕ)
    → WordResult m (word_on text line) (Err faults.UpscopeAtTop) new
shows_upscope_at_top m new text is declares word top line asked c begun at =
    let a = at.0 in
    let none : begun ≡ [] = rw is at at.1 in
    shown_after c begun [] text faults.UpscopeAtTop (ap word_texts none)
    (rw word (upscope_at_top c (sym a.in_body ∙ declares) (grind (arith, nil_from_length, so_deep))))

-- a word other than `$end` after `$upscope` or `$enddefinitions`
pub shows_no_end : (m new : Parser) (text : List ℕ) → (m.item ≡ items.Upscope) ⊎ (m.item ≡ items.EndDefinitions)
    → IsFalse (is_end_word text) → (line : ℕ) → WordResult m (word_on text line) (Err faults.UnexpectedWord) new
shows_no_end m new text (inl is) isnt line asked c begun at =
    let a = at.0 in
    let b : IsFalse m.in_body × (word_texts begun ≡ codes "$upscope" ∷ []) × (0 < m.variables.scopes.depth) =
    rw is at at.1 in
    shown_after c begun (codes "$upscope" ∷ []) text faults.UnexpectedWord b.1 (upscope_goes_on c text (sym a.in_body
    ∙ b.0) isnt (omega (arith, so_deep m.variables (seen_state m.part c a.seen) a.variables, b.2)))
shows_no_end m new text (inr is) isnt line asked c begun at =
    let b : IsFalse m.in_body × (word_texts begun ≡ codes "$enddefinitions" ∷ []) = rw is at at.1 in
    shown_after c begun _ text _ b.1 (definitions_go_on c text (sym at.0.in_body ∙ b.0) isnt)

-- a scope without a kind
pub shows_missing_kind : (m new : Parser) → m.item ≡ items.Scope → m.words.items ≡ [] → (line : ℕ)
    → WordResult m (word_on end_word line) (Err faults.BadScope) new
shows_missing_kind m new is none line asked c begun at =
    let b : Collects m begun (codes "$scope") m.words.items = subst (IsBegun m begun) is at.1 in
    shown_after c begun (codes "$scope" ∷ []) end_word faults.BadScope
    (b.spelled ∙ ap (λ ws. codes "$scope" ∷ ws) none) (missing_kind c (sym at.0.in_body ∙ b.declares))
