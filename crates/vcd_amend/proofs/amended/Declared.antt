-- The declarations of an amended file are allowed, and declare its variables, which mean the amended capture.
use Rattle.std.proofs.Common.{◌≡◌, ℕ, zero, suc, ◌-◌, ◌<◌, ◌≤◌, ◌^◌, Bool, true, false, not, ◌∙◌, All, ◌||◌, List, []}
use Rattle.std.proofs.Common.{◌∷◌, ◌++◌, map, length, take, replicate, refl, sym, ap, append_assoc, arith, IsTrue}
use Rattle.std.proofs.Common.{nat_lt, decimal, subst, ◌+◌, Option, Some, None, ap₂, inl, inr}
use Rattle.std.specs.List.{flat_map, list_all, filter}
use Rattle.std.proofs.lemmas.Bool.{false≢true, and_from, and_parts, cases_Bool}
use Rattle.std.proofs.lemmas.List.{append-nil, length-take-le}
use Rattle.std.proofs.lemmas.List.Elements.{All-head, All-tail, filter-append}
use Rattle.std.specs.Prelude.{bytes_eq, count_by, is_some}
use Rattle.std.proofs.lemmas.List.Sums.{length-filter}
use Rattle.vcd_core.specs.declared.capture.ScopeName.{ScopeName}
use Rattle.vcd_core.specs.declared.value.TheConstants.{WIDTH_LIMIT}
use Rattle.vcd_core.specs.Decimal.{number_of, is_number}
use Rattle.vcd_core.specs.Sound.{is_sound_scope, IsSoundSignal}
use Rattle.vcd_core.specs.Word.{is_word}
use Rattle.vcd_core.specs.declared.wave.Change.{Change}
use Rattle.vcd_core.specs.Wave.{changes_of}
use Rattle.vcd_core.proofs.shared.Waves.{changes_of-value_at, changes_same}
use Rattle.vcd_text.specs.Items.{Item, entry, timescale, scope, upscope, variable, end_definitions, stamp, scalar}
use Rattle.vcd_text.specs.Items.{vector, real_or_string, dump_word, other, has_no_end_word}
use Rattle.vcd_text.specs.Grammar.{ParseState, VariableDeclaration, is_skipped, kept_variables, may_have_code, Allows}
use Rattle.vcd_text.specs.Grammar.{state_after_item, ValueChange}
use Rattle.vcd_text.specs.inside.reading.Declarations.{is_end_word}
use Rattle.vcd_text.proofs.shared.ScopePaths.{all_closed, words_have_no_end}
use Rattle.vcd_text.proofs.shared.ItemsInTurn.{Reaches, reaches_none, reaches_first, reaches_both, reaches_one}
use Rattle.vcd_text.proofs.shared.ItemsInTurn.{reaches_same}
use Rattle.vcd_text.proofs.shared.ItemTests.{has_declaration, allows_upscope, allows_scope, allows_variable}
use Rattle.vcd_text.proofs.read_back.Declarations.{decimal_no_end, sound_is_kept}
use Rattle.vcd_text.proofs.read_back.Decimals.{decimal_is_number, number_of-decimal}
use Rattle.vcd_text.specs.Meaning.{declared_signal, changes_of_code}
use Rattle.vcd_amend.specs.Amendment.{flat_map_along, Amendment, Fate, stays, is_removed, is_changed, fate_of}
use Rattle.vcd_amend.specs.Amendment.{variable_left, variables_left, amended_variables, first_with_code, AmendedCode}
use Rattle.vcd_amend.specs.Amendment.{amended_code}
use Rattle.vcd_amend.specs.AmendedItems.{items_in_place, declaration_fate, item_fate, inserted_items, added_items}
use Rattle.vcd_amend.specs.AmendedItems.{added_declarations}
use Rattle.vcd_amend.specs.AmendedMeaning.{FitsFate, FitsFile, amended_signal, amended_wave, FitsCode, amended_meaning}
use Rattle.vcd_amend.proofs.amended.Due.{scopes_left}
use Rattle.vcd_amend.proofs.amended.Along.{flat_map_along-append, flat_map_along_by}
use Rattle.vcd_amend.proofs.amended.Fitting.{ours, may_have, has_room, fate_fits, fits_here, fits_of, size_of_class}
use Rattle.vcd_amend.proofs.amended.OneCode.{of_code, itself, value_by}
use Rattle.vcd_amend.proofs.shared.Lists.{is_there, some_passes}
use Rattle.vcd_amend.proofs.amended.Body.{HoldsFor, Holds}

-- ==== the declarations of an amended file are allowed, and declare its variables

-- a state with these open scopes and these variables
abbrev pub declaring : ParseState → List ScopeName → List VariableDeclaration → ParseState
declaring s scopes declared = record s { scopes = scopes; declared = declared }

-- ---- scopes

module _ (s : ParseState) (declares : s.in_body ≡ false) where
  close_n : (n : ℕ) (scopes : List ScopeName) (ds : List VariableDeclaration) → n ≡ length scopes
      → Reaches (declaring s scopes ds) (replicate n upscope) (declaring s [] ds)
  close_n zero [] ds is = reaches_none (declaring s [] ds)
  close_n zero (x ∷ xs) ds is = absurd (omega arith)
  close_n (suc n) scopes ds is =
      let outer : List ScopeName = take (length scopes - 1) scopes in
      let less : length outer ≡ length scopes - 1 = length-take-le (length scopes - 1) scopes (omega arith) in
      reaches_first _ _ _ _ (allows_upscope (declaring s scopes ds) declares (omega arith)) (close_n n outer ds (omega
      arith))

  scopes_close : (scopes : List ScopeName) (ds : List VariableDeclaration)
      → Reaches (declaring s scopes ds) (map (λ s. upscope) scopes) (declaring s [] ds)
  scopes_close scopes ds = rw (all_closed scopes) (close_n (length scopes) scopes ds refl)

  scopes_open : (prefix path : List ScopeName) (ds : List VariableDeclaration) → list_all is_sound_scope path ≡ true
      → Reaches (declaring s prefix ds) (map (λ s. scope s.kind s.words) path) (declaring s (prefix ++ path) ds)
  scopes_open prefix [] ds sound = rw (append-nil prefix) (reaches_none (declaring s prefix ds))
  scopes_open prefix (x ∷ path) ds sound =
      let parts = and_parts (is_sound_scope x) (list_all is_sound_scope path) sound in
      reaches_first _ _ _ _ (allows_scope (declaring s prefix ds) x.kind x.words declares (words_have_no_end (x.kind
      ∷ x.words) parts.0)) (reaches_same _ _ _ _ (scopes_open (prefix ++ x ∷ []) path ds parts.1)
      (ap (λ p. declaring s p ds) (append_assoc prefix (x ∷ []) path)))

  -- the variable that these words declare
  abbrev variable_with : List ScopeName → (kind size code : List ℕ) → List (List ℕ) → VariableDeclaration
  variable_with scopes kind size code names =
      record { scopes = scopes; kind = kind; size = number_of size; code = code; words = names }

  variable_leads : (scopes : List ScopeName) (ds : List VariableDeclaration) (kind size code : List ℕ)
      (names : List (List ℕ)) → 0 < length names → has_no_end_word (kind ∷ size ∷ code ∷ names) ≡ true
      → is_number size ≡ true → may_have_code (first_with_code code ds) (variable_with scopes kind size code names)
      ≡ true
      → (is_skipped (variable_with scopes kind size code names) || nat_lt (length (kept_variables ds)) s.limit) ≡ true
      → Reaches (declaring s scopes ds) (variable (kind ∷ size ∷ code ∷ names) ∷ []) (declaring s scopes (ds ++
      variable_with scopes kind size code names ∷ []))
  variable_leads scopes ds kind size code [] named no_end good may room = absurd (omega arith)
  variable_leads scopes ds kind size code (n ∷ ns) named no_end good may room = reaches_one _ _ _ (allows_variable
      (declaring s scopes ds) (kind ∷ size ∷ code ∷ n ∷ ns) declares no_end good (may, room)) refl

  -- ---- an amendment that fits the whole file

  module _ (a : Amendment) (final : ParseState) (fit : FitsFile a final) (limit : final.limit ≡ s.limit) where
    -- a variable among all can be declared after those before it
    fits_in : (xs : List VariableDeclaration) (e : VariableDeclaration) (ys : List VariableDeclaration)
        → ours a final fit ≡ xs ++ e ∷ ys → (may_have_code (first_with_code e.code xs) e ≡ true)
        × ((is_skipped e || nat_lt (length (kept_variables xs)) s.limit) ≡ true)
    fits_in xs e ys is = (
      may_have a final fit xs e ys is,
      ap (λ n. is_skipped e || nat_lt (length (kept_variables xs)) n)
          (sym limit) ∙ has_room a final fit xs e ys is,
    )

    -- ---- added variables

    added_leads : (e : VariableDeclaration) (xs ys : List VariableDeclaration) → ours a final fit ≡ xs ++ e ∷ ys
        → IsTrue (is_word e.code) × IsSoundSignal final.tick (amended_signal a final e)
        → Reaches (declaring s [] xs) (added_items e) (declaring s [] (xs ++ e ∷ []))
    added_leads e xs ys is (word, sound) =
        let most : e.size ≤ WIDTH_LIMIT = sound.most in
        let small : e.size < 2 ^ 64 = omega arith in
        let it : variable_with e.scopes e.kind (decimal e.size) e.code e.words ≡ e = ap (λ n. record e { size = n })
        (number_of-decimal e.size small) in
        let fits = fits_in xs e ys is in
        let declares_it = variable_leads e.scopes xs e.kind (decimal e.size) e.code e.words sound.named (and_from _ _
        (and_parts _ _ (words_have_no_end (e.kind ∷ []) (and_from _ _ sound.kind refl))).0 (and_from _ _ (decimal_no_end
        e.size small) (words_have_no_end (e.code ∷ e.words) (and_from _ _ word sound.words)))) (decimal_is_number e.size
        small) (subst (λ d. may_have_code (first_with_code e.code xs) d ≡ true) (sym it) fits.0)
        (subst (λ d. (is_skipped d
        || nat_lt (length (kept_variables xs)) s.limit) ≡ true) (sym it) fits.1) in
        reaches_both _ _ _ _ _ (scopes_open [] e.scopes xs sound.scopes) (reaches_both _ _ _ (_ ∷ []) _
        (reaches_same _ _ _ _ declares_it (ap (λ d. declaring s e.scopes (xs ++ d ∷ [])) it)) (scopes_close e.scopes (xs
        ++ e ∷ [])))

    all_added_lead : (xs ys : List VariableDeclaration) → ours a final fit ≡ xs ++ ys
        → All (λ d. IsTrue (is_word d.code) × IsSoundSignal final.tick (amended_signal a final d)) ys
        → Reaches (declaring s [] xs) (flat_map added_items ys) (declaring s [] (xs ++ ys))
    all_added_lead xs [] is all = rw (append-nil xs) (reaches_none (declaring s [] xs))
    all_added_lead xs (e ∷ ys) is all =
        let P = λ (d : VariableDeclaration). IsTrue (is_word d.code) × IsSoundSignal final.tick
        (amended_signal a final d) in
        reaches_both _ _ _ _ _ (added_leads e xs ys is (All-head P e ys all)) (reaches_same _ _ _ _ (all_added_lead (xs
        ++ e ∷ []) ys (is ∙ sym (append_assoc xs (e ∷ []) ys)) (All-tail P e ys all)) (ap (declaring s [])
        (append_assoc xs (e ∷ []) ys)))

    -- the end of the declarations: the open scopes are closed, if variables are added
    pub end_leads : (ds : List VariableDeclaration) (left : List VariableDeclaration) → ours a final fit ≡ left ++ ds
        → All (λ d. IsTrue (is_word d.code) × IsSoundSignal final.tick (amended_signal a final d)) ds
        → Reaches (declaring s s.scopes left) (added_declarations s.scopes ds)
        (declaring s (scopes_left ds s.scopes) (left ++ ds))
    end_leads [] left is all = rw (append-nil left) (reaches_none (declaring s s.scopes left))
    end_leads (d ∷ ds) left is all =
        reaches_both _ _ _ _ _ (scopes_close s.scopes left) (all_added_lead left (d ∷ ds) is all)

    -- ---- variables of the file

    -- the state of the amended file
    abbrev pub amending : ParseState → ParseState
    amending s = declaring s s.scopes (variables_left a s.declared)

    module _ (kind size code name : List ℕ) (names : List (List ℕ))
        (allows : Allows s (variable (kind ∷ size ∷ code ∷ name ∷ names))) where
      abbrev d : VariableDeclaration
      d = record { scopes = s.scopes; kind = kind; size = number_of size; code = code; words = name ∷ names }

      abbrev before : List VariableDeclaration
      before = variables_left a s.declared

      module _ (more : List VariableDeclaration) (whole : final.declared ≡ s.declared ++ d ∷ more) where
        abbrev after : List VariableDeclaration
        after = flat_map_along (λ before d. variable_left (fate_of a before d) d) (s.declared ++ d ∷ []) more ++ a.added

        all_are : ours a final fit ≡ before ++ (variable_left (fate_of a s.declared d) d ++ after)
        all_are = ap (amended_variables a) whole ∙ ap (λ l. l ++ a.added) (flat_map_along-append
            (λ before d. variable_left (fate_of a before d) d) [] s.declared (d ∷ more)) ∙ append_assoc before _ a.added
            ∙ ap (λ l. before ++ l) (append_assoc (variable_left (fate_of a s.declared d) d) _ a.added)

        fit_words : (has_no_end_word (kind ∷ size ∷ code ∷ name ∷ names) ≡ true) × (is_number size ≡ true)
        fit_words = and_parts (has_no_end_word (kind ∷ size ∷ code ∷ name ∷ names)) (is_number size)
            (and_parts (not s.in_body) _ allows.0).1

        -- the words before the code
        front_no_end : (not (is_end_word kind) ≡ true) × (not (is_end_word size) ≡ true)
        front_no_end =
            let first = and_parts (not (is_end_word kind)) (has_no_end_word (size ∷ code ∷ name ∷ names)) fit_words.0 in
            let second = and_parts (not (is_end_word size)) (has_no_end_word (code ∷ name ∷ names)) first.1 in
            (first.0, second.0)

        by_fate : (f : Fate) → FitsFate f → ours a final fit ≡ before ++ (variable_left f d ++ after)
            → Reaches (amending s) (items_in_place (declaration_fate f (kind ∷ size ∷ code ∷ name ∷ names))
            (variable (kind ∷ size ∷ code ∷ name ∷ names))) (declaring s s.scopes (before ++ variable_left f d))
        by_fate stays fits is =
            let able = fits_in before d after is in
            variable_leads s.scopes before kind size code (name ∷ names) (omega arith) fit_words.0 fit_words.1 able.0
            able.1
        by_fate is_removed fits is = rw (append-nil before) (reaches_none (amending s))
        by_fate (is_changed words new) (word, named, coded) is =
            let able = fits_in before (record d { words = words; code = new }) after is in
            variable_leads s.scopes before kind size new words named (and_from _ _ front_no_end.0 (and_from _ _
            front_no_end.1 (words_have_no_end (new ∷ words) (and_from _ _ coded word)))) fit_words.1 able.0 able.1

        declared_leads : Reaches (amending s) (items_in_place (item_fate a s (variable (kind ∷ size ∷ code ∷ name
            ∷ names))) (variable (kind ∷ size ∷ code ∷ name ∷ names))) (amending (state_after_item s (variable (kind ∷
            size ∷ code ∷ name ∷ names))))
        declared_leads = reaches_same _ _ _ _ (by_fate (fate_of a s.declared d) (fate_fits a final fit s.declared d)
            all_are) (ap (declaring s s.scopes) (sym (flat_map_along-append (λ before d. variable_left (fate_of a before
            d) d) [] s.declared (d
            ∷ []) ∙ ap (λ l. before ++ l) (append-nil (variable_left (fate_of a s.declared d) d)))))

    -- a `$var`
    variable_item_leads : (words : List (List ℕ)) (more : List VariableDeclaration) → Allows s (variable words)
        → final.declared ≡ (state_after_item s (variable words)).declared ++ more
        → Reaches (amending s) (items_in_place (item_fate a s (variable words)) (variable words))
        (amending (state_after_item s (variable words)))
    variable_item_leads [] more allows whole = absurd (has_declaration s [] allows)
    variable_item_leads (kind ∷ []) more allows whole = absurd (has_declaration s (kind ∷ []) allows)
    variable_item_leads (kind ∷ size ∷ []) more allows whole = absurd (has_declaration s (kind ∷ size ∷ []) allows)
    variable_item_leads (kind ∷ size ∷ code ∷ []) more allows whole =
        absurd (has_declaration s (kind ∷ size ∷ code ∷ []) allows)
    variable_item_leads (kind ∷ size ∷ code ∷ name ∷ names) more allows whole = declared_leads kind size code name names
        allows more (whole ∙ append_assoc s.declared _ more)

    -- any other item in front of `$enddefinitions`
    pub declaration_leads : (none_yet : Bool) (i : Item) (more : List VariableDeclaration) → Allows s i
        → (i ≡ end_definitions → ⊥)
        → final.declared ≡ (state_after_item s i).declared ++ more
        → Reaches (amending s) (inserted_items a none_yet s i ++ items_in_place (item_fate a s i) i)
        (amending (state_after_item s i))
    declaration_leads none_yet (entry kind words) more allows goes_on whole = reaches_one _ _ _ allows refl
    declaration_leads none_yet (timescale words) more allows goes_on whole = reaches_one _ _ _ allows refl
    declaration_leads none_yet (scope kind words) more allows goes_on whole = reaches_one _ _ _ allows refl
    declaration_leads none_yet upscope more allows goes_on whole = reaches_one _ _ _ allows refl
    declaration_leads none_yet (variable words) more allows goes_on whole = variable_item_leads words more allows whole
    declaration_leads none_yet end_definitions more allows goes_on whole = absurd (goes_on refl)
    declaration_leads none_yet (stamp digits) more allows goes_on whole = absurd (false≢true (sym declares ∙ allows.0))
    declaration_leads none_yet (scalar digit code) more allows goes_on whole =
        absurd (false≢true (sym declares ∙ (and_parts s.in_body _ allows.0).0))
    declaration_leads none_yet (vector first digits code) more allows goes_on whole =
        absurd (false≢true (sym declares ∙ (and_parts s.in_body _ allows.0).0))
    declaration_leads none_yet (real_or_string first text code) more allows goes_on whole =
        absurd (false≢true (sym declares ∙ (and_parts s.in_body _ allows.0).0))
    declaration_leads none_yet (dump_word word) more allows goes_on whole =
        absurd (false≢true (sym declares ∙ (and_parts s.in_body _ allows.0).0))
    declaration_leads none_yet (other word words) more allows goes_on whole = reaches_one _ _ _ allows refl

-- ==== the state after an amended file means the amended capture

-- the changes of a code, from its value changes
abbrev wave_by : ℕ → ℕ → List ValueChange → List Change
wave_by width end xs = changes_of width end (λ t. value_by width xs t)

module _ (a : Amendment) (s : ParseState) (fit : FitsFile a s) where
  module _ (vs : List ValueChange) (holds : Holds a s.declared s.value_changes (s.tick + 1) vs) where
    -- the wave of a variable
    one_wave : (d : VariableDeclaration) (o : Option AmendedCode) → amended_code d.code a.codes ≡ o
        → FitsCode o (first_with_code d.code s.declared) d → is_skipped d ≡ false
        → HoldsFor o (of_code d.code s.value_changes) (s.tick + 1) (of_code d.code vs)
        → wave_by d.size s.tick (of_code d.code vs)
        ≡ amended_wave o (wave_by d.size s.tick (of_code d.code s.value_changes))
    one_wave d None is fits kept same = ap (wave_by d.size s.tick) same
    one_wave d (Some c) is fits kept new =
        let size : d.size ≡ c.width = (size_of_class d c.width fits).1 in
        let fit_c = (fits_of a s fit d.code c is).0 in
        ap (λ n. wave_by n s.tick (of_code d.code vs)) size ∙ changes_same c.width s.tick _ _ (λ t upto. new.early t
        (omega arith)) ∙ changes_of-value_at c.width s.tick c.new fit_c.new fit_c.upto

    one_signal : (xs : List VariableDeclaration) (d : VariableDeclaration) (ys : List VariableDeclaration)
        → ours a s fit ≡ xs ++ d ∷ ys → is_skipped d ≡ false
        → declared_signal vs s.tick d ≡ amended_signal a s d
    unfolding changes_of_code
    one_signal xs d ys is kept =
        let some : is_some (first_with_code d.code (ours a s fit)) ≡ true = ap (λ l. is_some (first_with_code d.code l))
        is
        ∙ some_passes (λ (e : VariableDeclaration). bytes_eq d.code e.code) xs d ys (itself d.code) in
        let there = is_there (first_with_code d.code (ours a s fit)) some in
        ap (λ cs. record { scopes = d.scopes; kind = d.kind; words = d.words; width = d.size; changes = cs })
        (one_wave d (amended_code d.code a.codes) refl (fits_here a s fit xs d ys is) kept (holds d.code there.0
        there.1))

    signals_from : (xs ys : List VariableDeclaration) → ours a s fit ≡ xs ++ ys
        → map (declared_signal vs s.tick) (kept_variables ys) ≡ map (amended_signal a s) (kept_variables ys)
    signals_from xs [] is = refl
    signals_from xs (d ∷ ys) is =
        let rest = signals_from (xs ++ d ∷ []) ys (is ∙ sym (append_assoc xs (d ∷ []) ys)) in
        elim (cases_Bool (is_skipped d)) [
          | inl skipped ↦ rw skipped rest
          | inr kept ↦ rw kept (ap₂ (λ x l. x ∷ l) (one_signal xs d ys is kept) rest)
        ]

    pub signals_mean : map (declared_signal vs s.tick) (kept_variables (ours a s fit)) ≡ (amended_meaning a s).signals
    signals_mean = signals_from [] (ours a s fit) refl

  -- ---- skipped variables

  skipped_by_fate : (f : Fate) (d : VariableDeclaration) → is_skipped d ≡ false
      → filter is_skipped (variable_left f d) ≡ filter is_skipped (d ∷ [])
  skipped_by_fate stays d kept = refl
  skipped_by_fate is_removed d kept = rw kept refl
  skipped_by_fate (is_changed words code) d kept = rw kept refl

  skipped_left : (before : List VariableDeclaration) (d : VariableDeclaration)
      → filter is_skipped (variable_left (fate_of a before d) d) ≡ filter is_skipped (d ∷ [])
  skipped_left before d = elim (cases_Bool (is_skipped d)) [
    | inl skipped ↦
        let fate : fate_of a before d ≡ stays = rw skipped refl in
        ap (λ f. filter is_skipped (variable_left f d)) fate
    | inr kept ↦ skipped_by_fate (fate_of a before d) d kept
  ]

  itself_along : (before ds : List VariableDeclaration) → flat_map_along (λ before d. filter is_skipped (d ∷ [])) before
      ds
      ≡ filter is_skipped ds
  itself_along before [] = refl
  itself_along before (d ∷ ds) = ap (λ l. filter is_skipped (d ∷ []) ++ l) (itself_along (before ++ d ∷ []) ds)
      ∙ sym (filter-append is_skipped (d ∷ []) ds)

  none_skipped : (ds : List VariableDeclaration)
      → All (λ d. IsTrue (is_word d.code) × IsSoundSignal s.tick (amended_signal a s d)) ds → filter is_skipped ds ≡ []
  none_skipped [] all = refl
  none_skipped (d ∷ ds) all =
      let P = λ (d : VariableDeclaration). IsTrue (is_word d.code) × IsSoundSignal s.tick (amended_signal a s d) in
      let kept : is_skipped d ≡ false = sound_is_kept s.tick 0 (amended_signal a s d) (All-head P d ds all).1 in
      rw kept (none_skipped ds (All-tail P d ds all))

  pub as_many_skipped : count_by is_skipped (ours a s fit) ≡ count_by is_skipped s.declared
  as_many_skipped =
      let left : filter is_skipped (variables_left a s.declared) ≡ filter is_skipped s.declared = flat_map_along_by
      (filter is_skipped) (λ before d. variable_left (fate_of a before d) d) (λ before d. filter is_skipped (d ∷ []))
      refl (filter-append is_skipped) s.declared [] s.declared refl (λ xs d ys is. skipped_left xs d) ∙ itself_along []
      s.declared in
      let same : filter is_skipped (ours a s fit) ≡ filter is_skipped s.declared = filter-append is_skipped
      (variables_left a s.declared) a.added ∙ ap₂ (λ x y. x ++ y) left (none_skipped a.added fit.added) ∙ append-nil
      (filter is_skipped s.declared) in
      sym (length-filter is_skipped (ours a s fit)) ∙ ap length same ∙ length-filter is_skipped s.declared
