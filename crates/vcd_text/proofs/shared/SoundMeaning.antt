-- The meaning of an accepted file is sound.
use Rattle.std.proofs.Common.{◌≡◌, ℕ, ◌<◌, ◌≤◌, Bool, true, false, cond, not, ◌&&◌, ◌||◌, List, [], ◌∷◌, ◌++◌, length}
use Rattle.std.proofs.Common.{take, drop, Option, Some, None, IsTrue, IsFalse, IsSomeAnd, IfSome, All, if◌then◌else◌}
use Rattle.std.proofs.Common.{inl, inr, refl, sym, ap, ◌∙◌, arith}
use Rattle.std.specs.Prelude.{find, bytes_eq, ◌==◌, nat_le}
use Rattle.std.specs.List.{list_all}
use Rattle.std.proofs.lemmas.Bool.{cases_Bool, and_parts, and_from, or_parts, false≢true, not-true, eqb-true, eqb-false}
use Rattle.std.proofs.lemmas.Bool.{leb-true, ltb-false}
use Rattle.std.proofs.lemmas.Slice.Eq.{bytes_eq-Decides}
use Rattle.std.proofs.lemmas.List.{append-nil, length-append, length-map, length-replicate, take-append-drop}
use Rattle.std.proofs.lemmas.List.Elements.{All-nil, All-head, All-tail, All-push, All-map, All-filter, filter_passes}
use Rattle.std.proofs.lemmas.List.Folds.{list_all-append, find-append}
use Rattle.vcd_core.specs.declared.bit.Bit.{Bit}
use Rattle.vcd_core.specs.declared.capture.Header.{Header}
use Rattle.vcd_core.specs.declared.capture.ScopeName.{ScopeName}
use Rattle.vcd_core.specs.declared.capture.Timescale.{Timescale}
use Rattle.vcd_core.specs.declared.value.TheConstants.{WIDTH_LIMIT}
use Rattle.vcd_core.specs.declared.capture.TheConstants.{END_LIMIT, SIGNAL_LIMIT}
use Rattle.vcd_core.specs.Wave.{value_from}
use Rattle.vcd_core.specs.Word.{is_word, is_skipped_kind}
use Rattle.vcd_core.specs.Contents.{Contents}
use Rattle.vcd_core.specs.Sound.{IsSound, IsSoundSignal, is_sound_header, is_sound_scope, is_sound_timescale}
use Rattle.vcd_core.proofs.shared.Waves.{changes_rise, changes_end}
use Rattle.vcd_text.specs.Words.{words_of}
use Rattle.vcd_text.specs.Letters.{extension, letters_of_digits}
use Rattle.vcd_text.specs.Items.{Item, entry, timescale, scope, upscope, variable, end_definitions, stamp, scalar}
use Rattle.vcd_text.specs.Items.{vector, real_or_string, dump_word, other, spelling, spellings, end_word}
use Rattle.vcd_text.specs.Items.{has_no_end_word}
use Rattle.vcd_text.specs.inside.reading.Declarations.{is_end_word}
use Rattle.vcd_text.specs.Grammar.{ParseState, VariableDeclaration, ValueChange, Accepts, Allows, AllowsAll}
use Rattle.vcd_text.specs.Grammar.{state_after, state_after_item, is_skipped, kept_variables, variable_of}
use Rattle.vcd_text.specs.Grammar.{may_have_code, value_changes_after, with_value_change}
use Rattle.vcd_text.proofs.shared.ItemTests.{has_declaration, has_tick}
use Rattle.vcd_text.specs.inside.reading.Variables.{is_within_limit, latest_value}
use Rattle.vcd_text.proofs.shared.WordsInTurn.{by_test, is_run_text}
use Rattle.vcd_text.proofs.shared.WordsByBytes.{texts_of_file_are_runs}
use Rattle.vcd_text.specs.Meaning.{meaning, declared_signal, changes_of_code}
use Rattle.vcd_text.proofs.part.FewSignals.{KeepsFew, few_after, same_limit}

-- ---- words

-- words in front of an `$end` are words of names
clean_words : (ws rest : List (List ℕ)) → list_all is_run_text (ws ++ rest) ≡ true → has_no_end_word ws ≡ true
    → list_all is_word ws ≡ true
clean_words [] rest all none = refl
clean_words (w ∷ ws) rest all none =
    let p = and_parts (is_run_text w) (list_all is_run_text (ws ++ rest)) all in
    let q = and_parts (not (is_end_word w)) (has_no_end_word ws) none in
    and_from (is_word w) (list_all is_word ws) (ap (λ t. t && not (is_end_word w)) p.0 ∙ ap not (not-true (is_end_word
    w) q.0)) (clean_words ws rest p.1 q.1)

-- ---- lists

-- the result of a search is that of a search in a longer list
found_further : {A : Type 0} (P : A → Type 0) (p : A → Bool) (xs : List A) (y : A) → IsSomeAnd (find p xs) P
    → IsSomeAnd (find p (xs ++ y ∷ [])) P
found_further P p [] y some = absurd some
found_further P p (x ∷ xs) y some = by_test (λ b. IsSomeAnd (cond b (Some x) (find p xs)) P → IsSomeAnd
    (cond b (Some x) (find p (xs ++ y ∷ []))) P) (p x) (λ _ h. h) (λ _ h. found_further P p xs y h) some

all_taken : {A : Type 0} (p : A → Bool) (n : ℕ) (xs : List A) → list_all p xs ≡ true → list_all p (take n xs) ≡ true
all_taken p n xs all = (and_parts (list_all p (take n xs)) (list_all p (drop n xs))
    (sym (list_all-append p (take n xs) (drop n xs)) ∙ ap (list_all p) (take-append-drop n xs) ∙ all)).0

-- ---- the invariant

pub record IsCleanDeclaration (d : VariableDeclaration) : Type 0 where
  scopes : list_all is_sound_scope d.scopes ≡ true
  kind : is_word d.kind ≡ true
  named : 0 < length d.words
  words : list_all is_word d.words ≡ true

-- the variable of a code has the size of this one, if it is kept
abbrev IsAgreed : ParseState → VariableDeclaration → Type 0
IsAgreed c d = is_skipped d ≡ false → IsSomeAnd (variable_of c d.code) (λ e. (e.size ≡ d.size) × (is_skipped e ≡ false))

-- the variable of the value change's code accepts its letters
abbrev Fits : ParseState → ValueChange → Type 0
Fits c r = IsSomeAnd (variable_of c r.code) (λ e. length r.letters ≤ e.size)

record IsClean (c : ParseState) : Type 0 where
  header : list_all is_sound_header c.header ≡ true
  timescale : IfSome c.timescale (λ t. is_sound_timescale t ≡ true)
  scopes : list_all is_sound_scope c.scopes ≡ true
  declared : All IsCleanDeclaration c.declared
  agree : All (IsAgreed c) c.declared
  fit : All (Fits c) c.value_changes
  no_early_change : c.in_body ≡ false → c.value_changes ≡ []
  tick : c.tick ≤ END_LIMIT

-- ---- sizes

-- a kept variable has a kind with four-state letters and a width within the limit
kept_is : (d : VariableDeclaration) → is_skipped d ≡ false → (is_skipped_kind d.kind ≡ false) × (1 ≤ d.size)
    × (d.size ≤ WIDTH_LIMIT)
kept_is d keeps = grind (arith, or_parts, eqb-false, ltb-false)

-- ---- one item

-- one more value change
clean_value_change : (c : ParseState) (code : List ℕ) (letters : List Bit) → IsClean c → IsTrue c.in_body
    → IsSomeAnd (variable_of c code) (λ e. is_skipped e ≡ false → length letters ≤ e.size)
    → IsClean (with_value_change c code letters)
clean_value_change c code letters clean in_body fits = record {
  header = clean.header;
  timescale = clean.timescale;
  scopes = clean.scopes;
  declared = clean.declared;
  agree = clean.agree;
  fit = more (variable_of c code) refl fits;
  no_early_change = λ no_more. absurd (false≢true (sym no_more ∙ in_body));
  tick = clean.tick;
}
  where
    more : (o : Option VariableDeclaration) → variable_of c code ≡ o
        → IsSomeAnd o (λ e. is_skipped e ≡ false → length letters ≤ e.size)
        → All (Fits c) (c.value_changes ++ value_changes_after c code letters o)
    more None is some = absurd some
    more (Some e) is some =
        let r : ValueChange = record { tick = c.tick; code = code; letters = letters } in
        by_test (λ b. All (Fits c) (c.value_changes ++ cond b [] (r ∷ []))) (is_skipped e)
        (λ _. rw (append-nil c.value_changes) clean.fit)
        (λ keeps. All-push (Fits c) c.value_changes r clean.fit
        (rw is (some keeps)))

both_kept : (s e : Bool) → ((s && false) || (not s && true && e)) ≡ true → (e ≡ true) × (s ≡ false)
both_kept s e h = grind (arith, false≢true)

-- one more variable
clean_declared : (c : ParseState) (d : VariableDeclaration) → IsClean c → IsFalse c.in_body → IsCleanDeclaration d
    → IsTrue (may_have_code (variable_of c d.code) d) → IsTrue (is_within_limit c.limit c.declared d)
    → IsClean (record c { declared = c.declared ++ d ∷ [] })
clean_declared c d clean declaring is shares room =
    let e : ParseState = record c { declared = c.declared ++ d ∷ [] } in
    record {
      header = clean.header;
      timescale = clean.timescale;
      scopes = clean.scopes;
      declared = All-push IsCleanDeclaration c.declared d clean.declared is;
      agree =
          All-push (IsAgreed e) c.declared d
          (grind (arith, found_further))
          (λ keeps. first_or_same (variable_of c d.code) refl shares keeps);
      fit = rw (clean.no_early_change declaring) (All-nil (Fits e));
      no_early_change = clean.no_early_change;
      tick = clean.tick;
    }
  where
    first_or_same : (o : Option VariableDeclaration) → variable_of c d.code ≡ o → IsTrue (may_have_code o d)
        → is_skipped d ≡ false
        → IsSomeAnd (find (λ y. bytes_eq d.code y.code) (c.declared ++ d ∷ [])) (λ e. (e.size ≡ d.size)
        × (is_skipped e ≡ false))
    first_or_same None none shares keeps = grind (arith, find-append, bytes_eq-Decides)
    first_or_same (Some x) some shares keeps =
        let here : ((is_skipped x && false) || (not (is_skipped x) && true && (x.size == d.size))) ≡ true =
        grind arith in
        let same = both_kept (is_skipped x) (x.size == d.size) here in
        found_further _ (λ y. bytes_eq d.code y.code) c.declared d
        (rw some (eqb-true x.size d.size same.0, same.1))

clean_variable : (c : ParseState) (words : List (List ℕ)) → IsClean c
    → list_all is_run_text (spelling (variable words)) ≡ true → Allows c (variable words)
    → IsClean (state_after_item c (variable words))
clean_variable c [] clean all allows = absurd (has_declaration c [] allows)
clean_variable c (kind ∷ []) clean all allows = absurd (has_declaration c (kind ∷ []) allows)
clean_variable c (kind ∷ size ∷ []) clean all allows = absurd (has_declaration c (kind ∷ size ∷ []) allows)
clean_variable c (kind ∷ size ∷ code ∷ []) clean all allows = grind (arith, has_declaration)
clean_variable c (kind ∷ size ∷ code ∷ name ∷ names) clean all allows =
    let fit = and_parts _ _ allows.0 in
    let may = has_declaration c (kind ∷ size ∷ code ∷ name ∷ names) allows in
    let words = clean_words (kind ∷ size ∷ code ∷ name ∷ names) (end_word ∷ []) all (and_parts _ _ fit.1).0 in
    let p = and_parts _ _ words in
    clean_declared _ _ clean (not-true _ fit.0) (record {
      scopes = clean.scopes;
      kind = p.0;
      named = omega arith;
      words = (and_parts _ _ (and_parts _ _ p.1).1).1;
    }) may.0 may.1

-- the state stays clean if neither variables nor value changes are added
clean_beside : (c : ParseState) (header : List Header) (time : Option Timescale) (scopes : List ScopeName)
    (in_body : Bool) (tick : ℕ) → IsClean c
    → list_all is_sound_header header ≡ true → IfSome time (λ t. is_sound_timescale t ≡ true)
    → list_all is_sound_scope scopes ≡ true → (in_body ≡ false → c.value_changes ≡ []) → tick ≤ END_LIMIT
    → IsClean (record {
      limit = c.limit;
      header = header;
      timescale = time;
      scopes = scopes;
      declared = c.declared;
      in_body = in_body;
      value_changes = c.value_changes;
      tick = tick;
    })
clean_beside c header time scopes in_body tick clean sound_header sound_timescale sound_scopes no_early_change within =
    grind arith

clean_item : (c : ParseState) (i : Item) → IsClean c → list_all is_run_text (spelling i) ≡ true → Allows c i
    → IsClean (state_after_item c i)
clean_item c (entry kind words) clean all allows =
    grind (arith, and_parts, clean_beside, list_all-append, and_from, clean_words)
clean_item c (timescale words) clean all allows = grind (arith, clean_beside)
clean_item c (scope kind words) clean all allows =
    grind (arith, and_parts, clean_beside, list_all-append, and_from, clean_words)
clean_item c upscope clean all allows = grind (arith, clean_beside, all_taken)
clean_item c (variable words) clean all allows = clean_variable c words clean all allows
clean_item c end_definitions clean all allows = grind (arith, clean_beside)
clean_item c (stamp digits) clean all allows = grind (arith, has_tick, clean_beside, leb-true, and_parts)
clean_item c (scalar letter code) clean all allows = clean_value_change c code (letters_of_digits (letter ∷ [])) clean
    (and_parts _ _ allows.0).0 (grind (arith, false≢true, kept_is))
clean_item c (vector first digits code) clean all allows = clean_value_change c code (letters_of_digits digits) clean
    (and_parts _ _ allows.0).0 (grind (arith, length-map, leb-true, and_parts))
clean_item c (real_or_string first text code) clean all allows = clean
clean_item c (dump_word word) clean all allows = clean
clean_item c (other word words) clean all allows = clean

clean_items : (c : ParseState) (is : List Item) → IsClean c → list_all is_run_text (spellings is) ≡ true
    → AllowsAll c is → IsClean (state_after c is)
clean_items c [] clean all allows = clean
clean_items c (i ∷ is) clean all allows =
    let p = and_parts _ _ (sym (list_all-append _ (spelling i) (spellings is)) ∙ all) in
    clean_items (state_after_item c i) is (clean_item _ _ clean p.0 allows.0) p.1 allows.1

-- ---- waves

-- a value change of this code has letters for this number of bits
abbrev FitsWidth : ℕ → List ℕ → ValueChange → Type 0
FitsWidth width code r = bytes_eq r.code code ≡ true → length r.letters ≤ width

latest_length : (width : ℕ) (code : List ℕ) (t : ℕ) (before : List Bit) (rs : List ValueChange) → length before ≡ width
    → All (FitsWidth width code) rs → length (latest_value width code t before rs) ≡ width
unfolding changes_of_code value_from
latest_length width code t before [] long all = long
latest_length width code t before (r ∷ rs) long all =
    let rest = All-tail (FitsWidth width code) r rs all in
    elim (cases_Bool (bytes_eq r.code code)) [
      | inl same ↦ rw same (latest_length width code t (if nat_le r.tick t then extension width r.letters else before)
          rs (grind (arith, length-append, length-replicate, All-head)) rest)
      | inr differs ↦ rw differs (latest_length width code t before rs long rest)
    ]

sound_signal : (c : ParseState) (d : VariableDeclaration) → IsClean c → IsCleanDeclaration d → IsAgreed c d
    → is_skipped d ≡ false → IsSoundSignal c.tick (declared_signal c.value_changes c.tick d)
sound_signal c d clean is agrees keeps =
    search (arith, kept_is, latest_length, length-replicate, bytes_eq-Decides, changes_rise, changes_end)

-- a capture is sound, apart from the number of its signals
pub record IsSoundBut (c : Contents) : Type 0 where
  pub header : IsTrue (list_all is_sound_header c.header)
  pub timescale : IfSome c.timescale (λ t. IsTrue (is_sound_timescale t))
  pub end : c.end ≤ END_LIMIT
  pub signals : All (IsSoundSignal c.end) c.signals

pub meaning_is_sound_but : (limit : ℕ) (bytes : List ℕ) (state : ParseState) → Accepts limit (words_of bytes) state
    → IsSoundBut (meaning state)
meaning_is_sound_but limit bytes state accepted =
    let clean : IsClean state = grind (arith, clean_items, texts_of_file_are_runs) in
    let agree = All-filter _ (IsAgreed state) _ clean.agree in
    let keeps = filter_passes _ state.declared in
    record {
      header = clean.header;
      timescale = clean.timescale;
      end = clean.tick;
      signals = All-map (IsSoundSignal state.tick) _ _ (λ k d within. sound_signal state _ clean ((All-filter _
          IsCleanDeclaration _ clean.declared) k d within) (agree k d within) (not-true _ (keeps k d within)));
    }

pub meaning_is_sound : (bytes : List ℕ) (state : ParseState) → Accepts SIGNAL_LIMIT (words_of bytes) state
    → IsSound (meaning state)
meaning_is_sound bytes state accepted =
    let sound = meaning_is_sound_but SIGNAL_LIMIT bytes state accepted in
    let few : KeepsFew state = grind (arith, few_after) in
    let limit : state.limit ≡ SIGNAL_LIMIT = grind (arith, same_limit) in
    record {
      header = sound.header;
      timescale = sound.timescale;
      end = sound.end;
      few = omega (
        arith,
        few,
        limit,
        length-map (kept_variables state.declared) (declared_signal state.value_changes state.tick),
      );
      signals = sound.signals;
    }
