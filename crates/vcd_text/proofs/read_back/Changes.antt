-- The changes of a capture's text are allowed, their values are read back, and the state after them means the
-- capture.
use Rattle.std.proofs.Common.{◌≡◌, ℕ, ◌+◌, ◌<◌, ◌≤◌, Bool, true, false, if◌then◌else◌, ◌&&◌, nat_le, List, [], ◌∷◌}
use Rattle.std.proofs.Common.{length, All, refl, ◌∙◌, arith, Some, zero, suc, ◌++◌, map, get_or, sym, append_assoc, ◌-◌}
use Rattle.std.proofs.Common.{ap, inl, inr}
use Rattle.std.specs.Prelude.{find, unwrap_or, is_some, bytes_eq}
use Rattle.std.specs.List.{list_all, enumerate_from, filter}
use Rattle.std.proofs.lemmas.List.{length-replicate, append-nil, length-map}
use Rattle.std.proofs.lemmas.List.Elements.{All-nil, All-push, All-head, All-tail, All-filter}
use Rattle.std.proofs.lemmas.Bool.{eq-eqb, le-leb, ne_eqb, and_right, cases_lt, lt-leb}
use Rattle.std.proofs.lemmas.List.FromFn.{get_or-enumerate_from, length-enumerate_from}
use Rattle.std.proofs.lemmas.Slice.Eq.{bytes_eq-Decides}
use Rattle.vcd_core.specs.declared.bit.Bit.{Bit}
use Rattle.vcd_core.specs.declared.bit.Bit.TheVariants.{X}
use Rattle.vcd_core.specs.declared.wave.Change.{Change}
use Rattle.vcd_core.specs.Value.{printed_letter, all_x}
use Rattle.vcd_core.specs.Wave.{value_from, value_at, AreChangesFrom, IsWave}
use Rattle.vcd_core.specs.declared.capture.TheConstants.{END_LIMIT}
use Rattle.vcd_core.specs.Contents.{Contents, SignalContents, signal_value}
use Rattle.vcd_core.specs.Sound.{IsSound, IsSoundSignal}
use Rattle.vcd_core.specs.Word.{is_one_of}
use Rattle.vcd_core.specs.inside.value.EqualByLetters.{same_letters-Decides}
use Rattle.vcd_core.proofs.shared.Waves.{wave_is}
use Rattle.vcd_text.specs.Letters.{is_binary_digit, letter_of_digit, letters_of_digits, printed_letters, suffixes}
use Rattle.vcd_text.specs.Letters.{short_form, extension}
use Rattle.vcd_text.specs.Items.{Item, dump_word, dump_words}
use Rattle.vcd_text.specs.Grammar.{ValueChange, ParseState, is_skipped, VariableDeclaration, kept_variables}
use Rattle.vcd_text.specs.Text.{code_of, differing, first_items, with_stamp, value_item, value_items, differs_at}
use Rattle.vcd_text.specs.inside.writing.Transitions.{stamp_of, items_of_ticks}
use Rattle.vcd_text.specs.Meaning.{changes_of_code, declared_signal}
use Rattle.vcd_text.specs.inside.reading.Variables.{latest_value}
use Rattle.vcd_text.specs.inside.shared.SkippedCount.{skipped_count}
use Rattle.vcd_text.proofs.shared.CodesDiffer.{code_not_empty}
use Rattle.vcd_text.proofs.read_back.Decimals.{decimal_is_number, number_of-decimal}
use Rattle.vcd_text.proofs.read_back.Declarations.{declared_as, declared_state, declared_of, found_by_code}
use Rattle.vcd_text.proofs.read_back.Declarations.{sound_is_kept, other_code, all_sound_kept, none_skipped}
use Rattle.vcd_text.proofs.shared.ItemsInTurn.{Reaches, reaches_both, reaches_none, reaches_one, reaches_same}
use Rattle.vcd_text.proofs.shared.ItemsInTurn.{latest_value-append}

-- ==== a printed value is read back as the value that was written

-- ---- letters

pub letter_back : (b : Bit) → letter_of_digit (printed_letter b) ≡ Some b
letter_back b = grind arith

pub letters_back : (s : List Bit) → letters_of_digits (printed_letters s) ≡ s
letters_back [] = refl
letters_back (b ∷ s) = λ i. unwrap_or (letter_back b i) X ∷ letters_back s i

pub all_letters : (s : List Bit) → list_all is_binary_digit (printed_letters s) ≡ true
all_letters [] = refl
all_letters (b ∷ s) = λ i. is_some (letter_back b i) && all_letters s i

-- ---- the short form

-- the result of a search passes the test, or the other does
pub found_passes : {A : Type 0} (p : A → Bool) (ys : List A) (x : A) → p x ≡ true → p (unwrap_or (find p ys) x) ≡ true
found_passes p [] x passes = passes
found_passes p (y ∷ ys) x passes = grind (arith, found_passes p ys x passes)

-- the result of a search has what all have, or the other has it
found_has : {A : Type 0} (P : A → Type 0) (p : A → Bool) (ys : List A) (x : A) → All P ys → P x
    → P (unwrap_or (find p ys) x)
found_has P p [] x all has = has
found_has P p (y ∷ ys) x all has = grind (arith, All-tail, All-head, found_has P p ys x (All-tail P y ys all) has)

-- a text that is no shorter than one letter, nor longer than a width
abbrev IsWithin : ℕ → List Bit → Type 0
IsWithin width s = (0 < length s) × (length s ≤ width)

suffixes_within : (width : ℕ) (v : List Bit) → length v ≤ width → All (IsWithin width) (suffixes v)
suffixes_within width [] le = All-nil (IsWithin width)
suffixes_within width (b ∷ s) le =
    All-push (IsWithin width) (suffixes s) (b ∷ s) (suffixes_within width s (omega arith)) (omega arith, le)

-- the short form of a value has a letter, and no more than the value
pub short_within : (v : List Bit) → 0 < length v → (0 < length (short_form v)) × (length (short_form v) ≤ length v)
unfolding short_form
short_within v some = found_has (IsWithin (length v)) _ _ v (suffixes_within _ v (omega arith)) (some, omega arith)

-- the short form of one letter is itself
pub short_one : (b : Bit) → short_form (b ∷ []) ≡ b ∷ []
unfolding short_form
short_one b = grind arith

-- ---- the width

-- each value of a wave has its width
wide_from : (width floor t : ℕ) (kept before : List Bit) (cs : List Change) → AreChangesFrom floor kept cs
    → length kept ≡ width → length before ≡ width → length (value_from before cs t) ≡ width
unfolding value_from
wide_from width floor t kept before [] rise long wide = wide
wide_from width floor t kept before (c ∷ cs) (from, other, same, rest) long wide =
    wide_from width (c.tick + 1) t c.value (if nat_le c.tick t then c.value else before) cs rest (same
    ∙ long) (choose (nat_le c.tick t))
  where
    choose : (b : Bool) → length (if b then c.value else before) ≡ width
    choose true = same ∙ long
    choose false = wide

length-value_at : (width t : ℕ) (cs : List Change) → IsWave width cs → length (value_at width cs t) ≡ width
length-value_at width t cs is = grind (arith, wide_from, length-replicate)

-- ==== the changes of a capture's text are allowed, and these are their value changes

-- ---- one value

-- the state of a capture's text with these value changes, at this tick
abbrev pub state_at : Contents → List ValueChange → ℕ → ParseState
state_at c value_changes tick = record (declared_state c) { value_changes = value_changes; tick = tick }

-- the value change of a signal's value at a tick
abbrev value_change_of : ℕ → ℕ × SignalContents → ValueChange
value_change_of t p = record { tick = t; code = code_of p.0; letters = short_form (signal_value p.1 t) }

-- a signal that is found by the code of its position, with its width at each tick
pub record IsFoundByCode (c : Contents) (p : ℕ × SignalContents) : Type 0 where
  pub found : find (λ v. bytes_eq (code_of p.0) v.code) (declared_of 0 c.signals) ≡ Some (declared_as p.0 p.1)
  pub kept : is_skipped (declared_as p.0 p.1) ≡ false
  pub some : 1 ≤ p.1.width
  pub wide : (t : ℕ) → length (signal_value p.1 t) ≡ p.1.width

module _ (c : Contents) (p : ℕ × SignalContents) (positioned : IsFoundByCode c p) (value_changes : List ValueChange)
    (t : ℕ)
  where
    value_leads_of : (v : List Bit) → length v ≡ p.1.width
        → Reaches (state_at c value_changes t) (value_item (code_of p.0) v ∷ [])
        (state_at c (value_changes ++ record { tick = t; code = code_of p.0; letters = short_form v } ∷ []) t)
    value_leads_of [] wide = absurd (omega (arith, wide, positioned.some))
    value_leads_of (b ∷ []) wide = grind (arith, letter_back, code_not_empty, letters_back, short_one)
    value_leads_of (b ∷ d ∷ v) wide = grind (arith, short_within, length-map, ne_eqb, all_letters, le-leb, letters_back)

    value_leads : Reaches (state_at c value_changes t) (value_item (code_of p.0) (signal_value p.1 t) ∷ [])
        (state_at c (value_changes ++ value_change_of t p ∷ []) t)
    value_leads = value_leads_of (signal_value p.1 t) (positioned.wide t)

-- ---- all values at a tick

values_lead : (c : Contents) (positioned : List (ℕ × SignalContents)) (value_changes : List ValueChange) (t : ℕ)
    → All (IsFoundByCode c) positioned → Reaches (state_at c value_changes t) (value_items t positioned)
    (state_at c (value_changes ++ map (value_change_of t) positioned) t)
values_lead c [] value_changes t all = grind (arith, reaches_same, reaches_none, append-nil)
values_lead c (p ∷ ps) value_changes t all = rw (append_assoc value_changes (value_change_of t p ∷ []) (map
    (value_change_of t) ps)) at (reaches_both _ _ _ _ _ (value_leads _ _ (All-head (IsFoundByCode c) p ps all) _ _)
    (values_lead c ps (value_changes ++ value_change_of t p ∷ []) t (All-tail (IsFoundByCode c) p ps all)))

-- ---- stamps and words of dumps

-- a stamp that does not go back
stamp_leads : (c : Contents) (value_changes : List ValueChange) (u t : ℕ) → u ≤ t → t ≤ END_LIMIT
    → Reaches (state_at c value_changes u) (stamp_of t ∷ []) (state_at c value_changes t)
stamp_leads c value_changes u t later within = grind (arith, number_of-decimal, decimal_is_number, le-leb)

-- a word of a dump changes nothing
dump_word_leads : (c : Contents) (value_changes : List ValueChange) (t : ℕ) (word : List ℕ)
    → is_one_of dump_words word ≡ true
    → Reaches (state_at c value_changes t) (dump_word word ∷ []) (state_at c value_changes t)
dump_word_leads c value_changes t word is = grind (arith, reaches_one)

-- the values at tick 0
first_leads : (c : Contents) → All (IsFoundByCode c) (enumerate_from 0 c.signals)
    → Reaches (declared_state c) (first_items c.signals)
    (state_at c (map (value_change_of 0) (enumerate_from 0 c.signals)) 0)
first_leads c all =
    let positioned = enumerate_from 0 c.signals in
    reaches_both _ _ _ _ _ (reaches_both _ _ _ _ _ (stamp_leads c [] 0 0 (omega arith) (omega arith))
    (dump_word_leads c [] 0 _ refl)) (reaches_both _ _ _ _ _ (values_lead c _ [] 0 all) (dump_word_leads c _ 0 _ refl))

-- ---- ticks

-- the value changes of n ticks, from t on
unfoldable pub tick_value_changes : List SignalContents → ℕ → ℕ → List ValueChange
tick_value_changes signals t zero = []
tick_value_changes signals t (suc n) =
    map (value_change_of t) (differing signals t) ++ tick_value_changes signals (suc t) n

-- the stamp of a tick, its values and the rest
stamped_lead : (c : Contents) (e : ParseState) (value_changes : List ValueChange) (u t : ℕ)
    (positioned : List (ℕ × SignalContents)) (rest : List Item) → u ≤ t → t ≤ END_LIMIT
    → All (IsFoundByCode c) positioned
    → Reaches (state_at c (value_changes ++ map (value_change_of t) positioned) t) rest e
    → Reaches (state_at c value_changes u) ((stamp_of t ∷ value_items t positioned) ++ rest) e
stamped_lead c e value_changes u t positioned rest later within all go = reaches_both _ _ e _ _
    (stamp_leads c _ u t later within) (reaches_both _ _ e _ rest (values_lead c _ _ t all) go)

-- one tick, after which the rest goes on from a tick that is no later
one_tick : (c : Contents) (e : ParseState) (value_changes : List ValueChange) (u t : ℕ) (is_end : Bool)
    (positioned : List (ℕ × SignalContents)) (rest : List Item) → u ≤ t → t ≤ END_LIMIT
    → All (IsFoundByCode c) positioned
    → ((v : ℕ) → v ≤ t → (is_end ≡ true → v ≡ t)
    → Reaches (state_at c (value_changes ++ map (value_change_of t) positioned) v) rest e)
    → Reaches (state_at c value_changes u) (with_stamp is_end t (value_items t positioned) ++ rest) e
one_tick c e value_changes u t false [] rest later within all go =
    rw (append-nil value_changes) at (go u later (λ ends. absurd (cc)))
one_tick c e value_changes u t true positioned rest later within all go =
    stamped_lead c e value_changes u t positioned rest later within all (go t (omega arith) (λ _. refl))
one_tick c e value_changes u t false (p ∷ ps) rest later within all go =
    stamped_lead c e value_changes u t (p ∷ ps) rest later within all (go t (omega arith) (λ _. refl))

-- the ticks from t on, up to the end
ticks_lead : (c : Contents) (n : ℕ) (value_changes : List ValueChange) (u t : ℕ) → u < t → t + n ≡ suc c.end
    → (n ≡ 0 → u ≡ c.end) → c.end ≤ END_LIMIT → All (IsFoundByCode c) (enumerate_from 0 c.signals)
    → Reaches (state_at c value_changes u) (items_of_ticks c.signals c.end t n)
    (state_at c (value_changes ++ tick_value_changes c.signals t n) c.end)
unfolding items_of_ticks tick_value_changes
ticks_lead c zero value_changes u t later at last within all = grind (arith, reaches_same, reaches_none, append-nil)
ticks_lead c (suc n) value_changes u t later at last within all =
    let here = map (value_change_of t) (differing c.signals t) in
    one_tick _ _ _ _ _ _ _ _ (omega arith) (omega arith) (All-filter _ (IsFoundByCode c) _ all) (λ v le ends.
    reaches_same _ _ _ _ (ticks_lead c n (value_changes ++ here) v (suc t) (omega arith) (omega arith) (λ none. let end
    : t ≡ c.end = omega arith in ends (eq-eqb t c.end end) ∙ end) within all) (grind (arith, append_assoc)))

-- ---- the changes

-- the value changes of a capture's text
abbrev pub value_changes_of : Contents → List ValueChange
value_changes_of c = map (value_change_of 0) (enumerate_from 0 c.signals) ++ tick_value_changes c.signals 1 c.end

-- each signal of a sound capture is found by its code
all_found_by_code : (c : Contents) → IsSound c → All (IsFoundByCode c) (enumerate_from 0 c.signals)
all_found_by_code c sound k d within =
    let inside : k < length c.signals = omega (arith, length-enumerate_from 0 c.signals) in
    let s : SignalContents = get_or c.signals k d.1 in
    let is : IsSoundSignal c.end s = sound.signals k d.1 inside in
    rw (get_or-enumerate_from 0 c.signals k d inside) (record {
      found = found_by_code c.signals k 0 (0 + k) d.1 refl inside;
      kept = sound_is_kept c.end (0 + k) s is;
      some = is.least;
      wide = λ t. length-value_at s.width t s.changes is.wave;
    })

-- the changes are allowed after the declarations, and give these value changes up to the end
pub changes_lead : (c : Contents) → IsSound c
    → Reaches (declared_state c) (first_items c.signals ++ items_of_ticks c.signals c.end 1 c.end)
    (state_at c (value_changes_of c) c.end)
changes_lead c sound =
    let positioned = all_found_by_code _ sound in
    reaches_both _ _ _ _ _ (first_leads _ positioned) (ticks_lead _ _ _ _ _ (omega arith) (omega arith) (λ none. sym
    none) sound.end positioned)

-- ==== the value changes of a capture's text give each signal its value at every tick

-- for one signal, at the position k and the tick t
module _ (width k t : ℕ) where
  -- the value after these value changes
  abbrev after_value_changes : List Bit → List ValueChange → List Bit
  after_value_changes before rs = latest_value width (code_of k) t before rs

  -- value changes past the tick change nothing
  past_value_changes : (u : ℕ) (before : List Bit) (positioned : List (ℕ × SignalContents)) → t < u
      → after_value_changes before (map (value_change_of u) positioned) ≡ before
  unfolding changes_of_code value_from
  past_value_changes u before [] past = refl
  past_value_changes u before (p ∷ ps) past = grind (arith, and_right, lt-leb, past_value_changes u before ps past)

  past_ticks : (signals : List SignalContents) (u n : ℕ) (before : List Bit) → t < u
      → after_value_changes before (tick_value_changes signals u n) ≡ before
  unfolding changes_of_code value_from tick_value_changes
  past_ticks signals u zero before past = refl
  past_ticks signals u (suc n) before past =
      grind (arith, latest_value-append, past_value_changes, past_ticks signals (suc u) n before (omega arith))

  -- at a tick up to t, for signals that pass a test
  module _ (u : ℕ) (test : ℕ × SignalContents → Bool) where
    -- the value changes of signals from position j on
    abbrev value_changes_from : ℕ → List SignalContents → List ValueChange
    value_changes_from j ss = map (value_change_of u) (filter test (enumerate_from j ss))

    later_signals : (j : ℕ) (ss : List SignalContents) (before : List Bit) → k < j
        → after_value_changes before (value_changes_from j ss) ≡ before
    unfolding changes_of_code value_from
    later_signals j [] before later = refl
    later_signals j (s ∷ ss) before later = grind (arith, other_code, later_signals (j + 1) ss before (omega arith))

    -- the signal itself, if it passes
    own_value_change : (ss : List SignalContents) (i j : ℕ) (d : SignalContents) (before : List Bit) → j + i ≡ k
        → i < length ss → u ≤ t → after_value_changes before (value_changes_from j ss)
        ≡ (if test (k, get_or ss i d) then extension width (short_form (signal_value (get_or ss i d) u)) else before)
    unfolding changes_of_code value_from
    own_value_change [] i j d before at within come = absurd (omega arith)
    own_value_change (s ∷ ss) zero j d before at within come = grind (arith, bytes_eq-Decides, le-leb, later_signals)
    own_value_change (s ∷ ss) (suc i) j d before at within come =
        grind (arith, other_code, own_value_change ss i (j + 1) d before (omega arith) (omega arith) come)

-- ---- one signal

filter_all : {A : Type 0} (xs : List A) → filter (λ x. true) xs ≡ xs
filter_all [] = refl
filter_all (x ∷ xs) = ap (λ l. x ∷ l) (filter_all xs)

module _ (signals : List SignalContents) (k t : ℕ) (d : SignalContents) (inside : k < length signals) (wide : (u : ℕ)
    → length (signal_value (get_or signals k d) u) ≡ (get_or signals k d).width) where
  abbrev signal : SignalContents
  signal = get_or signals k d

  whole : (u : ℕ) → extension signal.width (short_form (signal_value signal u)) ≡ signal_value signal u
  unfolding short_form
  whole u = grind (arith, same_letters-Decides, found_passes)

  -- a value that differs is listed, and one that does not stays
  at_tick : (u : ℕ) → u ≤ t → latest_value signal.width (code_of k) t (signal_value signal (u - 1))
      (map (value_change_of u) (differing signals u)) ≡ signal_value signal u
  at_tick u come =
      let here = own_value_change signal.width k t u (λ p. differs_at u p.1) signals k 0 d (signal_value signal (u - 1))
      (omega arith) inside come in
      grind (arith, here, same_letters-Decides, whole)

  -- the ticks from u on, if the value at the tick before is given
  from_tick : (u n : ℕ) → u ≤ t + 1 → t < u + n
      → latest_value signal.width (code_of k) t (signal_value signal (u - 1)) (tick_value_changes signals u n)
      ≡ signal_value signal t
  unfolding changes_of_code value_from tick_value_changes
  from_tick u zero low high = let same : u - 1 ≡ t = omega arith in ap (signal_value signal) same
  from_tick u (suc n) low high =
      elim (cases_lt t u) [
        | inl past ↦
            let same : u - 1 ≡ t = omega arith in
            past_ticks signal.width k t signals u (suc n) (signal_value signal (u - 1)) past
            ∙ ap (signal_value signal) same
        | inr come ↦
            grind (arith, at_tick, latest_value-append, from_tick (suc u) n (omega arith) (omega arith))
      ]

  -- the values at tick 0
  at_start : latest_value signal.width (code_of k) t (all_x signal.width)
      (map (value_change_of 0) (enumerate_from 0 signals)) ≡ signal_value signal 0
  at_start =
      let here = own_value_change signal.width k t 0 (λ p. true) signals k 0 d (all_x signal.width) (omega arith) inside
      (omega arith) in
      grind (arith, here, filter_all, whole)

-- ==== the state after a capture's text means the capture

-- a function that restores each signal restores all
signals_back : (f : VariableDeclaration → SignalContents) (j : ℕ) (ss : List SignalContents)
    → ((i k : ℕ) (d : SignalContents) → j + i ≡ k → i < length ss → f (declared_as k (get_or ss i d)) ≡ get_or ss i d)
    → map f (declared_of j ss) ≡ ss
unfolding declared_of
signals_back f j [] each = refl
signals_back f j (s ∷ ss) each =
    let first : f (declared_as j s) ≡ s = each 0 j s (omega arith) (omega arith) in
    let rest = signals_back f (suc j) ss (λ i k d at within. each (suc i) k d (omega arith) (omega arith)) in
    λ i. first i ∷ rest i

pub signals_mean : (c : Contents) → IsSound c
    → map (declared_signal (value_changes_of c) c.end) (kept_variables (declared_of 0 c.signals)) ≡ c.signals
signals_mean c sound = ap (map (declared_signal (value_changes_of c) c.end)) (all_sound_kept c.end 0 _ sound.signals)
    ∙ signals_back _ 0 _
    (grind (arith, value_changes_of, declared_as, wave_is, latest_value-append, at_start, from_tick, length-value_at))

-- the text skips no variable
pub text_skips_nothing : (c : Contents) → IsSound c → 0 ≡ skipped_count (state_at c (value_changes_of c) c.end)
text_skips_nothing c sound = sym (none_skipped c.end 0 c.signals sound.signals)
