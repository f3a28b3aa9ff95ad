-- The declarations of a capture's text are allowed, and declare its timescale and its signals.
use Rattle.std.proofs.Common.{◌≡◌, ◌≢◌, ℕ, zero, suc, ◌+◌, ◌<◌, true, false, not, cond, List, [], ◌∷◌, length, get_or}
use Rattle.std.proofs.Common.{Some, All, refl, ap, ◌∙◌, arith, ◌⊎◌, ◌++◌, ◌^◌, inl, inr, decimal, ◌≤◌, Option, None}
use Rattle.std.proofs.Common.{IfSome, IsTrue, append_assoc, append-nil, option_to_list}
use Rattle.std.specs.Prelude.{find, bytes_eq, count_by}
use Rattle.std.proofs.lemmas.Bool.{false_from_ne_true, le-ltb, ne_eqb, not-true, or_cases, eqb-true, and_from}
use Rattle.std.proofs.lemmas.Bool.{and_parts, not_from_false, or_right, lt-ltb}
use Rattle.std.proofs.lemmas.List.Elements.{All-head, All-tail, recursion_from_All}
use Rattle.std.proofs.lemmas.List.Sums.{sum_by-cons, length-filter, count_by-le-length}
use Rattle.std.proofs.lemmas.Slice.Eq.{bytes_eq-Decides}
use Rattle.std.specs.Fmt.{digits}
use Rattle.std.specs.List.{list_all, AllByRecursion}
use Rattle.std.proofs.lemmas.List.{length-append}
use Rattle.std.proofs.lemmas.List.Folds.{find-append}
use Rattle.std.specs.Char.{is_ascii_digit}
use Rattle.vcd_core.specs.declared.capture.TheConstants.{SIGNAL_LIMIT}
use Rattle.vcd_core.specs.Contents.{Contents, SignalContents}
use Rattle.vcd_core.specs.Sound.{IsSoundSignal, is_sound_timescale, is_sound_header, IsSound}
use Rattle.vcd_core.specs.declared.capture.Timescale.{Timescale}
use Rattle.vcd_core.specs.declared.capture.TimeUnit.{TimeUnit}
use Rattle.vcd_core.specs.TimeUnits.{unit_text}
use Rattle.vcd_core.specs.declared.capture.Header.{Header}
use Rattle.vcd_core.specs.declared.capture.ScopeName.{ScopeName}
use Rattle.vcd_core.specs.declared.value.TheConstants.{WIDTH_LIMIT}
use Rattle.vcd_text.specs.Grammar.{ParseState, VariableDeclaration, is_skipped, kept_variables, initial_state}
use Rattle.vcd_text.specs.Grammar.{declaration_of, variable_of, may_have_code}
use Rattle.vcd_text.specs.Text.{code_of, timescale_items, variable_item, signal_items, first_items, items_of}
use Rattle.vcd_text.specs.Items.{timescales, Item, end_definitions, variable}
use Rattle.vcd_text.specs.inside.reading.Declarations.{is_end_word}
use Rattle.vcd_text.specs.inside.writing.Declarations.{header_items}
use Rattle.vcd_text.specs.inside.writing.Transitions.{items_of_ticks}
use Rattle.vcd_text.proofs.shared.CodesDiffer.{codes_differ, code_no_end}
use Rattle.vcd_text.proofs.shared.EmittedParts.{ticks_in_turn}
use Rattle.vcd_text.proofs.read_back.Decimals.{decimal_digits, decimal_is_number, number_of-decimal}
use Rattle.vcd_text.proofs.shared.ItemsInTurn.{Reaches, reaches_none, reaches_first, reaches_one, reaches_both}
use Rattle.vcd_text.proofs.shared.ItemsInTurn.{reaches_same}
use Rattle.vcd_text.proofs.shared.ItemTests.{allows_entry, allows_variable}
use Rattle.vcd_text.proofs.shared.ScopePaths.{declaring, words_have_no_end, scopes_lead, scopes_end}

-- ==== a sound signal is declared as a kept variable, and its code finds it

-- the declaration of the signal at a position
abbrev pub declared_as : ℕ → SignalContents → VariableDeclaration
declared_as k s = record { scopes = s.scopes; kind = s.kind; size = s.width; code = code_of k; words = s.words }

-- the declarations of signals, the first at this position
unfoldable pub declared_of : ℕ → List SignalContents → List VariableDeclaration
declared_of k [] = []
declared_of k (s ∷ ss) = declared_as k s ∷ declared_of (suc k) ss

-- the state after the declarations of a capture's text
abbrev pub declared_state : Contents → ParseState
declared_state c = record {
  header = c.header;
  timescale = c.timescale;
  scopes = [];
  declared = declared_of 0 c.signals;
  in_body = true;
  value_changes = [];
  tick = 0;
  limit = SIGNAL_LIMIT;
}

pub sound_is_kept : (end k : ℕ) (s : SignalContents) → IsSoundSignal end s → is_skipped (declared_as k s) ≡ false
sound_is_kept end k s sound = grind (arith, not-true, ne_eqb, le-ltb)

-- all are kept, and none is skipped
pub all_sound_kept : (end k : ℕ) (ss : List SignalContents) → All (IsSoundSignal end) ss
    → kept_variables (declared_of k ss) ≡ declared_of k ss
unfolding declared_of
all_sound_kept end k [] all = refl
all_sound_kept end k (s ∷ ss) all = ap (λ b. cond (not b) (declared_as k s ∷ kept_variables (declared_of (suc k) ss))
    (kept_variables (declared_of (suc k) ss))) (sound_is_kept end k s (All-head (IsSoundSignal end) s ss all))
    ∙ ap (λ ds. declared_as k s ∷ ds) (all_sound_kept end (suc k) ss (All-tail (IsSoundSignal end) s ss all))

pub none_skipped : (end k : ℕ) (ss : List SignalContents) → All (IsSoundSignal end) ss
    → count_by is_skipped (declared_of k ss) ≡ 0
unfolding declared_of
none_skipped end k [] all = refl
none_skipped end k (s ∷ ss) all = sum_by-cons (λ d. cond (is_skipped d) 1 0) (declared_as k s) (declared_of (suc k) ss)
    ∙ (λ i. cond (sound_is_kept end k s (All-head (IsSoundSignal end) s ss all) i) 1 0 + none_skipped end (suc k) ss
    (All-tail (IsSoundSignal end) s ss all) i)

-- ---- codes

pub other_code : (j k : ℕ) → j ≢ k → bytes_eq (code_of j) (code_of k) ≡ false
other_code j k other = grind (arith, false_from_ne_true, codes_differ, bytes_eq-Decides)

-- the variable of the code of a position is the signal there
pub found_by_code : (ss : List SignalContents) (i j k : ℕ) (d : SignalContents) → j + i ≡ k → i < length ss
    → find (λ v. bytes_eq (code_of k) v.code) (declared_of j ss) ≡ Some (declared_as k (get_or ss i d))
unfolding declared_of
found_by_code [] i j k d at within = absurd (omega arith)
found_by_code (s ∷ ss) zero j k d at within = grind (arith, bytes_eq-Decides)
found_by_code (s ∷ ss) (suc i) j k d at within =
    grind (arith, other_code, found_by_code ss i (suc j) k d (omega arith) (omega arith))

-- ==== the timescale of a sound capture is read back

-- the counts of a unit that a tick can have (IEEE 1364-2005, 18.2)
abbrev IsCount : ℕ → Type 0
IsCount n = (n ≡ 1) ⊎ ((n ≡ 10) ⊎ (n ≡ 100))

pub sound_count : (t : Timescale) → is_sound_timescale t ≡ true → IsCount t.count
sound_count t sound = grind (arith, or_cases, eqb-true)

pub count_small : (n : ℕ) → IsCount n → n < 2 ^ 64
count_small n is = grind arith

-- the timescale that a text spells
abbrev found_in : List ℕ → Timescale → Type 0
found_in text t = find (λ s. bytes_eq text (decimal s.count ++ unit_text s.unit)) timescales ≡ Some t

found : (unit : TimeUnit) → found_in (decimal 1 ++ unit_text unit) (record { count = 1; unit = unit })
    × found_in (decimal 10 ++ unit_text unit) (record { count = 10; unit = unit })
    × found_in (decimal 100 ++ unit_text unit) (record { count = 100; unit = unit })
unfolding digits
found unit = grind arith

counted : (n : ℕ) (unit : TimeUnit) → IsCount n
    → found_in (decimal n ++ unit_text unit) (record { count = n; unit = unit })
counted n unit (inl e) = grind (arith, found)
counted n unit (inr (inl e)) = rw e (found unit).1
counted n unit (inr (inr e)) = rw e (found unit).2

-- ==== the declarations of a capture's text are allowed, and declare the signals of the capture

-- ---- header and timescale

header_leads : (prefix hs : List Header) → list_all is_sound_header hs ≡ true
    → Reaches (declaring prefix None [] []) (header_items hs) (declaring (prefix ++ hs) None [] [])
header_leads prefix [] sound = grind (arith, reaches_same, reaches_none, append-nil)
header_leads prefix (h ∷ hs) sound =
    let parts : (is_sound_header h ≡ true) × (list_all is_sound_header hs ≡ true) = grind (arith, and_parts) in
    reaches_first _ _ _ _ (allows_entry (declaring prefix None [] []) h.kind h.words refl (words_have_no_end h.words
    parts.0)) (grind (arith, reaches_same, declaring, append_assoc, header_leads (prefix ++ h ∷ []) hs parts.1))

-- digits are not `$end`
digits_no_end : (w : List ℕ) → list_all is_ascii_digit w ≡ true → is_end_word w ≡ false
digits_no_end w digits = grind (arith, false_from_ne_true, bytes_eq-Decides)

pub decimal_no_end : (n : ℕ) → n < 2 ^ 64 → not (is_end_word (decimal n)) ≡ true
decimal_no_end n small = not_from_false (is_end_word (decimal n)) (digits_no_end (decimal n) (decimal_digits n small))

timescale_leads : (h : List Header) (t : Option Timescale) → IfSome t (λ t. IsTrue (is_sound_timescale t))
    → Reaches (declaring h None [] []) (timescale_items t) (declaring h t [] [])
timescale_leads h None sound = reaches_none (declaring h None [] [])
timescale_leads h (Some t) sound =
    grind (arith, append-nil, counted, and_from, decimal_no_end, count_small, sound_count, reaches_one)

-- ---- variables

-- no variable has the code of a position from k on
abbrev HasCodesBelow : ℕ → List VariableDeclaration → Type 0
HasCodesBelow k ds = (j : ℕ) → k ≤ j → find (λ d. bytes_eq (code_of j) d.code) ds ≡ None

-- no word of a variable is `$end`, and its size is a number
ruleset sound_words = (words_have_no_end, decimal_no_end, code_no_end, decimal_is_number, not_from_false, and_from)

-- the variable of the signal at a position
variable_leads : (h : List Header) (t : Option Timescale) (ds : List VariableDeclaration) (end k : ℕ)
    (s : SignalContents) → IsSoundSignal end s → k < SIGNAL_LIMIT → length ds ≡ k → HasCodesBelow k ds
    → Reaches (declaring h t s.scopes ds) (variable_item k s ∷ []) (declaring h t s.scopes (ds ++ declared_as k s ∷ []))
variable_leads h t ds end k s sound few at below =
    let most : s.width ≤ WIDTH_LIMIT = sound.most in
    let before : ParseState = declaring h t s.scopes ds in
    let words : List (List ℕ) = s.kind ∷ decimal s.width ∷ code_of k ∷ s.words in
    let declares : declaration_of before words ≡ Some (declared_as k s) = grind (arith, number_of-decimal) in
    let fresh : may_have_code (variable_of before (code_of k)) (declared_as k s) ≡ true = grind arith in
    reaches_one before (declaring h t s.scopes (ds ++ declared_as k s ∷ [])) (variable words)
    (grind (arith, allows_variable, sound_words, and_parts, length-filter, count_by-le-length, or_right, lt-ltb))
    (ap (λ o. declaring h t s.scopes (ds ++ option_to_list o)) declares)

-- ---- signals

signals_lead : (h : List Header) (t : Option Timescale) (opened : List ScopeName) (ds : List VariableDeclaration)
    (end k : ℕ) (signals : List SignalContents) → AllByRecursion (IsSoundSignal end) signals
    → k + length signals ≤ SIGNAL_LIMIT → length ds ≡ k → HasCodesBelow k ds
    → Reaches (declaring h t opened ds) (signal_items opened k signals) (declaring h t [] (ds ++ declared_of k signals))
unfolding signal_items declared_of
signals_lead h t opened ds end k [] sound few at below = search (arith, reaches_same, scopes_end, append-nil)
signals_lead h t opened ds end k (s ∷ ss) sound few at below =
    let more : List VariableDeclaration = ds ++ declared_as k s ∷ [] in
    let one_more : length more ≡ length ds + 1 = length-append ds (declared_as k s ∷ []) in
    reaches_both _ _ _ _ _ (scopes_lead _ _ _ _ _ sound.0.scopes) (reaches_both _ _ _ _ _ (variable_leads _ _ _ _ _ _
    sound.0 (omega arith) at below) (reaches_same _ _ _ _ (signals_lead h t s.scopes more end (suc k) ss sound.1 (omega
    arith) (omega arith) (grind (arith, false_from_ne_true, codes_differ, bytes_eq-Decides, find-append))) (ap (λ l.
    declaring h t [] l) (append_assoc ds (declared_as k s ∷ []) (declared_of (suc k) ss)))))

-- ---- all declarations

-- the items in front of the values
abbrev declaration_items : Contents → List Item
declaration_items c = header_items c.header ++ timescale_items c.timescale ++ signal_items [] 0 c.signals
    ++ end_definitions ∷ []

pub declarations_lead : (c : Contents) → IsSound c → Reaches (initial_state SIGNAL_LIMIT) (declaration_items c)
    (declared_state c)
declarations_lead c sound =
    let few : length c.signals ≤ SIGNAL_LIMIT = sound.few in
    reaches_both _ _ _ _ _ (reaches_both _ _ _ _ _ (reaches_both _ _ _ _ _ (header_leads _ _ sound.header)
    (timescale_leads _ _ sound.timescale)) (signals_lead _ _ _ _ _ _ _ (recursion_from_All _ _ sound.signals) (omega
    arith) refl (λ j from. refl))) (reaches_one _ _ _ (refl, refl) refl)

-- the declarations, and the items after them
pub items_in_two : (c : Contents) → items_of c ≡ declaration_items c
    ++ (first_items c.signals ++ items_of_ticks c.signals c.end 1 c.end)
unfolding items_of
items_in_two c = grind (arith, append_assoc, ticks_in_turn c.signals c.end 1 c.end)
