-- Every word of the items that are put into an amended file has a byte and no white space.
use Rattle.std.proofs.Common.{◌≡◌, ◌+◌, ◌-◌, ◌<◌, ◌≤◌, ◌^◌, ◌∙◌, ◌==◌, ℕ, zero, suc, Bool, true, false, not, All, List}
use Rattle.std.proofs.Common.{[], ◌∷◌, ◌++◌, refl, length, sym, arith, map, inl, inr, decimal, ◌&&◌, if◌then◌else◌}
use Rattle.std.proofs.Common.{nat_le, Option, Some, None, IsTrue}
use Rattle.std.specs.List.{list_all, flat_map, range_with_len}
use Rattle.std.proofs.lemmas.Bool.{and_parts, and_from, cases_Bool, leb-true}
use Rattle.std.proofs.lemmas.List.Elements.{All-head, All-tail}
use Rattle.std.proofs.lemmas.List.Folds.{list_all-append}
use Rattle.vcd_core.specs.declared.bit.Bit.{Bit}
use Rattle.vcd_core.specs.declared.capture.TheConstants.{END_LIMIT}
use Rattle.vcd_core.specs.declared.value.TheConstants.{WIDTH_LIMIT}
use Rattle.vcd_core.specs.declared.capture.ScopeName.{ScopeName}
use Rattle.vcd_core.specs.Value.{printed_letter}
use Rattle.vcd_core.specs.Word.{is_word, is_white_space}
use Rattle.vcd_core.specs.Decimal.{is_number, number_of}
use Rattle.vcd_core.specs.Sound.{IsSoundSignal}
use Rattle.vcd_text.specs.Letters.{printed_letters, short_form}
use Rattle.vcd_text.specs.Items.{Item, entry, timescale, scope, upscope, variable, end_definitions, stamp, scalar}
use Rattle.vcd_text.specs.Items.{vector, real_or_string, dump_word, other, end_word}
use Rattle.vcd_text.specs.Grammar.{ParseState, VariableDeclaration, Allows}
use Rattle.vcd_text.specs.Text.{value_item, with_stamp}
use Rattle.vcd_text.proofs.shared.ItemTests.{has_tick}
use Rattle.vcd_text.proofs.shared.ScopePaths.{all_closed}
use Rattle.vcd_text.proofs.read_back.Words.{is_unbroken, is_spelled}
use Rattle.vcd_text.proofs.read_back.WholeText.{word_is_unbroken, words_are_unbroken, decimal_unbroken}
use Rattle.vcd_text.proofs.read_back.WholeText.{with_end_unbroken, both_spelled, one_word, longer_unbroken}
use Rattle.vcd_text.proofs.read_back.WholeText.{printed_no_space, stamped_spelled, upscopes_spelled, scopes_spelled}
use Rattle.vcd_amend.specs.Amendment.{Amendment, AmendedCode, Fate, stays, is_removed, is_changed, new_value}
use Rattle.vcd_amend.specs.Amendment.{needs_change, fate_of, changes_stand, amended_code, is_used}
use Rattle.vcd_amend.specs.AmendedItems.{ItemFate, stands, is_left_out, is_exchanged, file_has_change, due_items}
use Rattle.vcd_amend.specs.AmendedItems.{items_due_at, items_due_now, added_items, inserted_items, item_fate}
use Rattle.vcd_amend.specs.AmendedItems.{added_declarations, declaration_fate, exchange_for, value_fate}
use Rattle.vcd_amend.specs.AmendedMeaning.{FitsFate, amended_signal}
use Rattle.vcd_amend.proofs.shared.Lists.{found_has}

pub unbroken_has_no_space : (w : List ℕ) → is_unbroken w ≡ true → list_all (λ b. not (is_white_space b)) w ≡ true
unbroken_has_no_space [] unbroken = refl
unbroken_has_no_space (b ∷ bs) unbroken = unbroken

letter_is_no_space : (b : Bit) → not (is_white_space (printed_letter b)) ≡ true
letter_is_no_space b = grind arith

-- ---- changes that are due

value_spelled : (code : List ℕ) (v : List Bit) → is_unbroken code ≡ true → is_spelled (value_item code v) ≡ true
value_spelled code [] unbroken = and_from _ _ (longer_unbroken 98 (printed_letters (short_form [])) refl
    (printed_no_space (short_form []))) (one_word code unbroken)
value_spelled code (b ∷ []) unbroken = one_word (printed_letter b ∷ code) (longer_unbroken (printed_letter b) code
    (letter_is_no_space b) (unbroken_has_no_space code unbroken))
value_spelled code (b ∷ c ∷ v) unbroken = and_from _ _ (longer_unbroken 98 (printed_letters (short_form (b ∷ c ∷ v)))
    refl (printed_no_space (short_form (b ∷ c ∷ v)))) (one_word code unbroken)

-- an amended code is a word
abbrev pub HasWord : AmendedCode → Type 0
HasWord c = is_word c.code ≡ true

due_spelled : (s : ParseState) (t : ℕ) (c : AmendedCode) → HasWord c → list_all is_spelled (due_items s t c) ≡ true
due_spelled s t c word = by_test (needs_change c t && not (file_has_change s c.code t))
  where
    by_test : (b : Bool) → list_all is_spelled (if b then value_item c.code (new_value c t) ∷ [] else []) ≡ true
    by_test true = and_from _ _ (value_spelled c.code (new_value c t) (word_is_unbroken c.code word)) refl
    by_test false = refl

all_due_spelled : (s : ParseState) (t : ℕ) (cs : List AmendedCode) → All HasWord cs
    → list_all is_spelled (flat_map (due_items s t) cs) ≡ true
all_due_spelled s t [] words = refl
all_due_spelled s t (c ∷ cs) words = both_spelled (due_items s t c) (flat_map (due_items s t) cs) (due_spelled s t c
    (All-head HasWord c cs words)) (all_due_spelled s t cs (All-tail HasWord c cs words))

pub items_at_spelled : (a : Amendment) (s : ParseState) (t : ℕ) → All HasWord a.codes
    → list_all is_spelled (items_due_at a s t) ≡ true
items_at_spelled a s t words = all_due_spelled s t a.codes words

pub now_spelled : (a : Amendment) (none_yet : Bool) (s : ParseState) → All HasWord a.codes → s.tick < 2 ^ 64
    → list_all is_spelled (items_due_now a none_yet s) ≡ true
now_spelled a true s words small = stamped_spelled false s.tick (items_due_at a s s.tick) small
    (items_at_spelled a s s.tick words)
now_spelled a false s words small = items_at_spelled a s s.tick words

ticks_spelled : (a : Amendment) (none_yet : Bool) (s : ParseState) (t n : ℕ) → All HasWord a.codes
    → s.tick < 2 ^ 64 → t + n ≤ 2 ^ 64
    → list_all is_spelled (flat_map (λ t. if t == s.tick then items_due_now a none_yet s else with_stamp false t
    (items_due_at a s t)) (range_with_len t n)) ≡ true
ticks_spelled a none_yet s t zero words now small = refl
ticks_spelled a none_yet s t (suc n) words now small =
    let here = items_at_spelled a s t words in
    let rest = ticks_spelled a none_yet s (t + 1) n words now (omega arith) in
    elim (cases_Bool (t == s.tick)) [
      | inl is ↦ rw is (both_spelled (items_due_now a none_yet s) _ (now_spelled a none_yet s words now) rest)
      | inr later ↦ rw later (both_spelled (with_stamp false t (items_due_at a s t)) _ (stamped_spelled false t
          (items_due_at a s t) (omega arith) here) rest)
    ]

-- ---- added variables

-- an added variable of a file with this state
abbrev pub IsAdded : Amendment → ParseState → VariableDeclaration → Type 0
IsAdded a final d = IsTrue (is_word d.code) × IsSoundSignal final.tick (amended_signal a final d)

added_spelled : (a : Amendment) (final : ParseState) (d : VariableDeclaration) → IsAdded a final d
    → list_all is_spelled (added_items d) ≡ true
added_spelled a final d (word, sound) =
    let most : d.size ≤ WIDTH_LIMIT = sound.most in
    let small : d.size < 2 ^ 64 = omega arith in
    let it : is_spelled (variable (d.kind ∷ decimal d.size ∷ d.code ∷ d.words)) ≡ true = with_end_unbroken (d.kind
    ∷ decimal d.size ∷ d.code ∷ d.words) (and_from _ _ (word_is_unbroken d.kind sound.kind) (and_from _ _
    (decimal_unbroken d.size small) (and_from _ _ (word_is_unbroken d.code word) (words_are_unbroken d.words
    sound.words)))) in
    let closed : list_all is_spelled (map (λ (s : ScopeName). upscope) d.scopes) ≡ true = rw (all_closed d.scopes)
    (upscopes_spelled (length d.scopes)) in
    both_spelled (map (λ s. scope s.kind s.words) d.scopes) (variable (d.kind ∷ decimal d.size ∷ d.code ∷ d.words) ∷ map
    (λ s. upscope) d.scopes) (scopes_spelled d.scopes sound.scopes) (and_from _ _ it closed)

all_added_spelled : (a : Amendment) (final : ParseState) (ds : List VariableDeclaration) → All (IsAdded a final) ds
    → list_all is_spelled (flat_map added_items ds) ≡ true
all_added_spelled a final [] added = refl
all_added_spelled a final (d ∷ ds) added = both_spelled (added_items d) (flat_map added_items ds)
    (added_spelled a final d (All-head (IsAdded a final) d ds added)) (all_added_spelled a final ds (All-tail (IsAdded a
    final) d ds added))

declarations_spelled : (a : Amendment) (final : ParseState) (scopes : List ScopeName) (ds : List VariableDeclaration)
    → All (IsAdded a final) ds → list_all is_spelled (added_declarations scopes ds) ≡ true
declarations_spelled a final scopes [] added = refl
declarations_spelled a final scopes (d ∷ ds) added = both_spelled (map (λ s. upscope) scopes)
    (flat_map added_items (d ∷ ds)) (rw (all_closed scopes) (upscopes_spelled (length scopes)))
    (all_added_spelled a final (d ∷ ds) added)

-- ---- what is inserted

pub inserted_spelled : (a : Amendment) (none_yet : Bool) (final s : ParseState) (i : Item) → Allows s i
    → All HasWord a.codes
    → All (IsAdded a final) a.added → list_all is_spelled (inserted_items a none_yet s i) ≡ true
inserted_spelled a none_yet final s (entry kind words) allows codes added = refl
inserted_spelled a none_yet final s (timescale words) allows codes added = refl
inserted_spelled a none_yet final s (scope kind words) allows codes added = refl
inserted_spelled a none_yet final s upscope allows codes added = refl
inserted_spelled a none_yet final s (variable words) allows codes added = refl
inserted_spelled a none_yet final s end_definitions allows codes added = declarations_spelled a final s.scopes a.added
    added
inserted_spelled a none_yet final s (stamp digits) allows codes added =
    let ticks = has_tick s digits allows in
    let tests = and_parts (is_number digits) (nat_le (number_of digits) END_LIMIT) ticks.0 in
    let most : number_of digits ≤ END_LIMIT = leb-true (number_of digits) END_LIMIT tests.1 in
    ticks_spelled a none_yet s s.tick (number_of digits - s.tick) codes (omega (arith, most, ticks.1)) (omega (
      arith,
      most,
      ticks.1,
    ))
inserted_spelled a none_yet final s (scalar digit code) allows codes added = refl
inserted_spelled a none_yet final s (vector first digits code) allows codes added = refl
inserted_spelled a none_yet final s (real_or_string first text code) allows codes added = refl
inserted_spelled a none_yet final s (dump_word word) allows codes added = refl
inserted_spelled a none_yet final s (other word words) allows codes added = refl

-- ---- what is exchanged

-- the item in the place of another one
abbrev pub IsSpelledFate : ItemFate → Type 0
IsSpelledFate (is_exchanged j) = is_spelled j ≡ true
IsSpelledFate o = Unit {0}

exchanged_by_fate : (f : Fate) (kind size code name : List ℕ) (names : List (List ℕ)) → FitsFate f
    → list_all is_unbroken (kind ∷ size ∷ code ∷ name ∷ names) ≡ true
    → IsSpelledFate (declaration_fate f (kind ∷ size ∷ code ∷ name ∷ names))
exchanged_by_fate stays kind size code name names fits unbroken = tt
exchanged_by_fate is_removed kind size code name names fits unbroken = tt
exchanged_by_fate (is_changed words new) kind size code name names (word, named, coded) unbroken =
    let first = and_parts (is_unbroken kind) (list_all is_unbroken (size ∷ code ∷ name ∷ names)) unbroken in
    let second = and_parts (is_unbroken size) (list_all is_unbroken (code ∷ name ∷ names)) first.1 in
    with_end_unbroken (kind ∷ size ∷ new ∷ words) (and_from _ _ first.0 (and_from _ _ second.0 (words_are_unbroken (new
    ∷ words) (and_from _ _ coded word))))

-- words up to `$end`
without_end : (words : List (List ℕ)) → list_all is_unbroken (words ++ end_word ∷ []) ≡ true
    → list_all is_unbroken words ≡ true
without_end words unbroken = (and_parts (list_all is_unbroken words) (list_all is_unbroken (end_word ∷ []))
    (sym (list_all-append is_unbroken words (end_word ∷ [])) ∙ unbroken)).0

-- what is due is in the place of a change
exchanged_spelled : (is : List Item) → list_all is_spelled is ≡ true → IsSpelledFate (exchange_for is)
exchanged_spelled [] spelled = tt
exchanged_spelled (i ∷ is) spelled = (and_parts (is_spelled i) (list_all is_spelled is) spelled).0

one_or_other : (b : Bool) (o : ItemFate) → IsSpelledFate o → IsSpelledFate (if b then stands else o)
one_or_other true o spelled = tt
one_or_other false o spelled = spelled

value_fate_spelled : (s : ParseState) (cs : List AmendedCode) (code : List ℕ) (o : Option AmendedCode)
    → amended_code code cs ≡ o → All HasWord cs → IsSpelledFate (value_fate s o)
value_fate_spelled s cs code None is words = tt
value_fate_spelled s cs code (Some c) is words = one_or_other (changes_stand c s.tick) (exchange_for
    (due_items s s.tick c)) (exchanged_spelled (due_items s s.tick c) (due_spelled s s.tick c (found_has HasWord _ cs c
    words is)))

if_left : (b : Bool) (o : ItemFate) → IsSpelledFate o → IsSpelledFate (if b then o else is_left_out)
if_left true o spelled = spelled
if_left false o spelled = tt

pub fate_spelled : (a : Amendment) (s : ParseState) (i : Item) → is_spelled i ≡ true → All HasWord a.codes
    → ((before : List VariableDeclaration) (d : VariableDeclaration) → FitsFate (fate_of a before d))
    → IsSpelledFate (item_fate a s i)
fate_spelled a s (entry kind words) spelled codes fits = tt
fate_spelled a s (timescale words) spelled codes fits = tt
fate_spelled a s (scope kind words) spelled codes fits = tt
fate_spelled a s upscope spelled codes fits = tt
fate_spelled a s (variable []) spelled codes fits = tt
fate_spelled a s (variable (kind ∷ [])) spelled codes fits = tt
fate_spelled a s (variable (kind ∷ size ∷ [])) spelled codes fits = tt
fate_spelled a s (variable (kind ∷ size ∷ code ∷ [])) spelled codes fits = tt
fate_spelled a s (variable (kind ∷ size ∷ code ∷ name ∷ names)) spelled codes fits = exchanged_by_fate _ kind size
    code name names (fits s.declared (record {
      scopes = s.scopes;
      kind = kind;
      size = number_of size;
      code = code;
      words
          = name ∷ names;
    })) (without_end (kind ∷ size ∷ code ∷ name ∷ names) spelled)
fate_spelled a s end_definitions spelled codes fits = tt
fate_spelled a s (stamp digits) spelled codes fits = tt
fate_spelled a s (scalar digit code) spelled codes fits = if_left (is_used a s code) _ (value_fate_spelled s
    a.codes code (amended_code code a.codes) refl codes)
fate_spelled a s (vector first digits code) spelled codes fits = if_left (is_used a s code) _
    (value_fate_spelled s a.codes code (amended_code code a.codes) refl codes)
fate_spelled a s (real_or_string first text code) spelled codes fits = if_left (is_used a s code) stands tt
fate_spelled a s (dump_word word) spelled codes fits = tt
fate_spelled a s (other word words) spelled codes fits = tt

-- nothing is put before an item that is left out or exchanged
abbrev pub IsAlone : ItemFate → List Item → Type 0
IsAlone stands items = Unit {0}
IsAlone o items = items ≡ []

alone_for_none : (o : ItemFate) → IsAlone o []
alone_for_none stands = tt
alone_for_none is_left_out = refl
alone_for_none (is_exchanged j) = refl

pub left_out_alone : (a : Amendment) (none_yet : Bool) (s : ParseState) (i : Item) → IsAlone (item_fate a s i)
    (inserted_items a none_yet s i)
left_out_alone a none_yet s (entry kind words) = tt
left_out_alone a none_yet s (timescale words) = tt
left_out_alone a none_yet s (scope kind words) = tt
left_out_alone a none_yet s upscope = tt
left_out_alone a none_yet s (variable words) = alone_for_none _
left_out_alone a none_yet s end_definitions = tt
left_out_alone a none_yet s (stamp digits) = tt
left_out_alone a none_yet s (scalar digit code) = alone_for_none _
left_out_alone a none_yet s (vector first digits code) = alone_for_none _
left_out_alone a none_yet s (real_or_string first text code) = alone_for_none _
left_out_alone a none_yet s (dump_word word) = tt
left_out_alone a none_yet s (other word words) = tt
