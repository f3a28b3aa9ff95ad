-- The text of a sound capture spells its items, and is read back as the capture.
use Rattle.std.proofs.Common.{◌≡◌, ◌<◌, ◌≤◌, ◌+◌, ◌^◌, ℕ, zero, suc, Bool, true, not, List, [], ◌∷◌, ◌++◌, map, length}
use Rattle.std.proofs.Common.{replicate, refl, ap, sym, subst, ◌∙◌, arith, decimal}
use Rattle.std.specs.List.{list_all, AllByRecursion, common_prefix_len}
use Rattle.std.proofs.lemmas.Bool.{and_from, and_parts, and_right, or_from, not_from_false, lt-leb, leb-true, ne_eqb}
use Rattle.std.proofs.lemmas.List.Elements.{recursion_from_All}
use Rattle.std.proofs.lemmas.List.Folds.{list_all-append}
use Rattle.std.specs.Char.{is_ascii_digit}
use Rattle.vcd_core.specs.declared.bit.Bit.{Bit}
use Rattle.vcd_core.specs.declared.capture.Header.{Header}
use Rattle.vcd_core.specs.declared.capture.ScopeName.{ScopeName}
use Rattle.vcd_core.specs.declared.capture.TheConstants.{END_LIMIT, SIGNAL_LIMIT}
use Rattle.vcd_core.specs.Word.{is_word, is_white_space}
use Rattle.vcd_core.specs.Contents.{Contents, SignalContents}
use Rattle.vcd_core.specs.Sound.{is_sound_header, is_sound_scope, IsSoundSignal, IsSound}
use Rattle.vcd_text.specs.Words.{words_of}
use Rattle.vcd_text.specs.Letters.{printed_letters, short_form}
use Rattle.vcd_text.specs.Items.{Item, scope, upscope, vector, end_definitions, end_word, spellings}
use Rattle.vcd_text.specs.Grammar.{word_texts, initial_state}
use Rattle.vcd_text.specs.Text.{timescale_items, same_scope, scope_items, code_of, variable_item, signal_items}
use Rattle.vcd_text.specs.Text.{value_items, with_stamp, first_items, items_of, text}
use Rattle.vcd_text.specs.inside.writing.Declarations.{header_items}
use Rattle.vcd_text.specs.inside.writing.Transitions.{items_of_ticks}
use Rattle.vcd_text.specs.Meaning.{FileMeans}
use Rattle.vcd_text.proofs.shared.CodesDiffer.{code_no_space, code_not_empty}
use Rattle.vcd_text.proofs.read_back.Decimals.{decimal_digits, decimal_not_empty}
use Rattle.vcd_text.proofs.read_back.Declarations.{sound_count, count_small, declarations_lead, items_in_two}
use Rattle.vcd_text.proofs.shared.ItemTests.{all_weaker}
use Rattle.vcd_text.proofs.shared.WordsByBytes.{words_by_bytes}
use Rattle.vcd_text.proofs.read_back.Words.{is_unbroken, is_spelled, words_of_lines}
use Rattle.vcd_text.proofs.shared.ScopePaths.{all_closed, later_scopes}
use Rattle.vcd_text.proofs.shared.EmittedParts.{ticks_in_turn}
use Rattle.vcd_text.proofs.shared.ItemsInTurn.{Reaches, reaches_both}
use Rattle.vcd_text.proofs.read_back.Changes.{changes_lead, value_changes_of, state_at, text_skips_nothing}
use Rattle.vcd_text.proofs.read_back.Changes.{signals_mean}

-- ==== every word of a capture's text has a byte and no white space

-- ---- words

-- whether a byte is no white space
abbrev has_no_space : ℕ → Bool
has_no_space b = not (is_white_space b)

pub word_is_unbroken : (w : List ℕ) → is_word w ≡ true → is_unbroken w ≡ true
word_is_unbroken w word = grind (arith, and_parts)

pub words_are_unbroken : (ws : List (List ℕ)) → list_all is_word ws ≡ true → list_all is_unbroken ws ≡ true
words_are_unbroken ws words = all_weaker is_word is_unbroken word_is_unbroken ws words

no_space_is_unbroken : (w : List ℕ) → 0 < length w → list_all has_no_space w ≡ true → is_unbroken w ≡ true
no_space_is_unbroken w some no_space = grind arith

digit_is_no_space : (b : ℕ) → is_ascii_digit b ≡ true → has_no_space b ≡ true
digit_is_no_space b digit = grind (arith, leb-true, and_parts, not_from_false, or_from, and_right, lt-leb, ne_eqb)

decimal_no_space : (n : ℕ) → n < 2 ^ 64 → list_all has_no_space (decimal n) ≡ true
decimal_no_space n small = all_weaker is_ascii_digit has_no_space digit_is_no_space (decimal n) (decimal_digits n small)

pub decimal_unbroken : (n : ℕ) → n < 2 ^ 64 → is_unbroken (decimal n) ≡ true
decimal_unbroken n small = no_space_is_unbroken (decimal n) (decimal_not_empty n small) (decimal_no_space n small)

code_unbroken : (k : ℕ) → is_unbroken (code_of k) ≡ true
code_unbroken k = no_space_is_unbroken (code_of k) (code_not_empty k) (code_no_space k)

pub printed_no_space : (v : List Bit) → list_all has_no_space (printed_letters v) ≡ true
printed_no_space [] = refl
printed_no_space (b ∷ v) = grind (arith, and_from, printed_no_space v)

-- a word with another byte in front
pub longer_unbroken : (b : ℕ) (w : List ℕ) → has_no_space b ≡ true → list_all has_no_space w ≡ true
    → is_unbroken (b ∷ w) ≡ true
longer_unbroken b w first rest = and_from (has_no_space b) (list_all has_no_space w) first rest

-- ---- items

-- words up to `$end`
pub with_end_unbroken : (ws : List (List ℕ)) → list_all is_unbroken ws ≡ true
    → list_all is_unbroken (ws ++ end_word ∷ []) ≡ true
with_end_unbroken ws words = grind (arith, list_all-append, and_from)

-- items in front and items after them
pub both_spelled : (xs ys : List Item) → list_all is_spelled xs ≡ true → list_all is_spelled ys ≡ true
    → list_all is_spelled (xs ++ ys) ≡ true
both_spelled xs ys prefix back = grind (arith, list_all-append, and_from)

pub one_word : (w : List ℕ) → is_unbroken w ≡ true → list_all is_unbroken (w ∷ []) ≡ true
one_word w unbroken = and_from (is_unbroken w) true unbroken refl

vector_spelled : (k : ℕ) (v : List Bit) → is_spelled (vector 98 (printed_letters (short_form v)) (code_of k)) ≡ true
vector_spelled k v = grind (arith, and_from, longer_unbroken, printed_no_space, one_word, code_unbroken)

values_spelled : (t : ℕ) (positioned : List (ℕ × SignalContents)) → list_all is_spelled (value_items t positioned)
    ≡ true
values_spelled t [] = refl
values_spelled t (p ∷ ps) =
    grind (arith, and_from, vector_spelled, one_word, longer_unbroken, code_no_space, values_spelled t ps)

pub stamped_spelled : (is_end : Bool) (t : ℕ) (items : List Item) → t < 2 ^ 64 → list_all is_spelled items ≡ true
    → list_all is_spelled (with_stamp is_end t items) ≡ true
stamped_spelled is_end t items small spelled = grind (arith, and_from, one_word, longer_unbroken, decimal_no_space)

ticks_spelled : (signals : List SignalContents) (end t n : ℕ) → t + n ≤ 2 ^ 64
    → list_all is_spelled (items_of_ticks signals end t n) ≡ true
unfolding items_of_ticks
ticks_spelled signals end t zero small = refl
ticks_spelled signals end t (suc n) small =
    grind (arith, both_spelled, stamped_spelled, values_spelled, ticks_spelled signals end (suc t) n (omega arith))

header_spelled : (header : List Header) → list_all is_sound_header header ≡ true
    → list_all is_spelled (header_items header) ≡ true
header_spelled [] sound = refl
header_spelled (h ∷ hs) sound =
    let parts = and_parts (is_sound_header h) (list_all is_sound_header hs) sound in
    let rest = header_spelled hs parts.1 in
    grind (arith, parts, rest, and_from, with_end_unbroken, words_are_unbroken)

pub upscopes_spelled : (n : ℕ) → list_all is_spelled (replicate n upscope) ≡ true
upscopes_spelled zero = refl
upscopes_spelled (suc n) = upscopes_spelled n

pub scopes_spelled : (path : List ScopeName) → list_all is_sound_scope path ≡ true
    → list_all is_spelled (map (λ s. scope s.kind s.words) path) ≡ true
scopes_spelled [] sound = refl
scopes_spelled (s ∷ path) sound =
    let parts = and_parts (is_sound_scope s) (list_all is_sound_scope path) sound in
    let rest = scopes_spelled path parts.1 in
    grind (arith, parts, rest, and_parts, and_from, word_is_unbroken, with_end_unbroken, words_are_unbroken)

-- words without white space
ruleset unbroken_words = (with_end_unbroken, word_is_unbroken, decimal_unbroken, code_unbroken, words_are_unbroken)

signals_spelled : (end : ℕ) (opened : List ScopeName) (k : ℕ) (signals : List SignalContents)
    → AllByRecursion (IsSoundSignal end) signals → list_all is_spelled (signal_items opened k signals) ≡ true
unfolding signal_items
signals_spelled end opened k [] sound = rw (all_closed opened) (upscopes_spelled (length opened))
signals_spelled end opened k (s ∷ ss) sound =
    let shared : ℕ = common_prefix_len same_scope opened s.scopes in
    both_spelled (scope_items opened s.scopes) (variable_item k s ∷ signal_items s.scopes (suc k) ss)
    (grind (arith, both_spelled, upscopes_spelled, scopes_spelled, later_scopes))
    (grind (arith, and_from, is_spelled, unbroken_words, signals_spelled end s.scopes (suc k) ss sound.1))

-- every word of a sound capture's items
items_spelled : (c : Contents) → IsSound c → list_all is_spelled (items_of c) ≡ true
unfolding items_of
items_spelled c sound =
    let end : c.end ≤ END_LIMIT = sound.end in
    let prefix : List Item = header_items c.header ++ timescale_items c.timescale in
    let declared : List Item = prefix ++ signal_items [] 0 c.signals in
    subst (λ ticks. list_all is_spelled (declared ++ end_definitions ∷ first_items c.signals ++ ticks) ≡ true)
    (sym (ticks_in_turn _ _ _ _)) (both_spelled (declared ++ end_definitions ∷ first_items c.signals) _
    (both_spelled declared _ (both_spelled prefix _
    (grind (arith, both_spelled, header_spelled, and_from, decimal_unbroken, count_small, sound_count, one_word))
    (signals_spelled _ _ _ _ (recursion_from_All _ _ sound.signals)))
    (and_from _ (list_all is_spelled (first_items c.signals)) refl
    (grind (arith, both_spelled, and_from, one_word, longer_unbroken, decimal_no_space, values_spelled))))
    (ticks_spelled c.signals c.end 1 c.end (omega arith)))

-- the words of a sound capture's text
words_of_text : (c : Contents) → IsSound c → word_texts (words_of (text c)) ≡ spellings (items_of c)
unfolding text
words_of_text c sound =
    ap word_texts (words_by_bytes (text c)) ∙ words_of_lines 1 (items_of c) (items_spelled c sound)

-- ==== the text of a sound capture is read back as the capture

-- the items of a sound capture's text are allowed in turn, and give the value changes of its
-- signals
items_lead : (c : Contents) → IsSound c → Reaches (initial_state SIGNAL_LIMIT) (items_of c)
    (state_at c (value_changes_of c) c.end)
items_lead c sound = search (arith, items_in_two, reaches_both, declarations_lead, changes_lead)

-- the text means the capture
pub read_back : (c : Contents) → IsSound c → FileMeans SIGNAL_LIMIT (text c) c 0
read_back c sound =
    let all = items_lead c sound in
    record {
      state = state_at c (value_changes_of c) c.end;
      accepted = grind (arith, words_of_text);
      means = grind (arith, signals_mean);
      left_out = text_skips_nothing c sound;
    }
