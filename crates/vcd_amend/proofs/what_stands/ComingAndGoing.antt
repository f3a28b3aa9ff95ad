-- The pieces that pieces become: what comes between them may come, each that stands is at its tick, and a `$var` goes
-- only if its declaration may.
use Rattle.std.proofs.Common.{◌≡◌, ℕ, Bool, true, false, not, ◌&&◌, ◌==◌, ◌∙◌, if◌then◌else◌, List, [], ◌∷◌, ◌++◌, map}
use Rattle.std.proofs.Common.{Some, All, decimal, refl, sym, subst, get_or, length, Option, None, ap, inl, inr}
use Rattle.std.specs.List.{flat_map, list_all, list_any, join_with_byte}
use Rattle.std.proofs.lemmas.Bool.{and_from, and_parts, cases_Bool, or_left, or_right, eq-eqb}
use Rattle.std.proofs.lemmas.List.Elements.{All-head, All-tail, filter-append}
use Rattle.std.proofs.lemmas.List.Folds.{list_all-append, list_any-append}
use Rattle.std.specs.Prelude.{bytes_eq}
use Rattle.std.specs.Cmp.Lexicographic.{pointwise, pointwise_decides}
use Rattle.std.proofs.lemmas.Option.{same_Some}
use Rattle.std.proofs.lemmas.Slice.Eq.{bytes_eq-Decides}
use Rattle.vcd_core.specs.declared.bit.Bit.{Bit}
use Rattle.vcd_core.specs.declared.capture.ScopeName.{ScopeName}
use Rattle.vcd_core.specs.Contents.{SignalContents}
use Rattle.vcd_core.specs.Decimal.{number_of}
use Rattle.vcd_text.specs.Items.{Item, entry, timescale, scope, upscope, variable, end_definitions, stamp, scalar}
use Rattle.vcd_text.specs.Items.{vector, real_or_string, dump_word, other, spelling}
use Rattle.vcd_text.specs.Grammar.{VariableDeclaration, ParseState, state_after, state_after_item, AllowsAll}
use Rattle.vcd_text.specs.Grammar.{is_skipped, kept_variables}
use Rattle.vcd_text.specs.Text.{value_item, with_stamp}
use Rattle.vcd_copy.specs.Pieces.{Piece}
use Rattle.vcd_amend.specs.Amendment.{Amendment, AmendedCode, needs_change, new_value, Fate, stays}
use Rattle.vcd_amend.specs.Amendment.{fate_of}
use Rattle.vcd_amend.specs.AmendedItems.{file_has_change, due_items, items_due_at, items_due_now, added_items}
use Rattle.vcd_amend.specs.AmendedItems.{added_declarations, inserted_items, ItemFate, stands, is_left_out}
use Rattle.vcd_amend.specs.AmendedItems.{is_exchanged, item_fate, still_none_yet, declaration_fate, variable_item_fate}
use Rattle.vcd_amend.specs.WhatStands.{declares, may_be_put_in, may_become, declaration_may_go, may_go}
use Rattle.vcd_copy.specs.Ticks.{tick_after_item}
use Rattle.vcd_amend.proofs.amended.WholeText.{line_piece, after_line, lines_before, placed, made}
use Rattle.vcd_amend.specs.AmendedText.{exchanged_bytes}
use Rattle.vcd_amend.specs.CodedAmendment.{CodedSignal, fate_for, fates_for, coded_amendment}
use Rattle.vcd_amend.specs.GivenCodes.{CodedWave, AreSignalsOf, IsSignalOf, is_unchanged, coded_signal, coded_signals}
use Rattle.vcd_amend.specs.GivenCodes.{signals_left, code_for_wave, new_wave_of}
use Rattle.vcd_amend.proofs.amended.OtherWords.{items_of}
use Rattle.vcd_amend.proofs.amended.OneCode.{itself}

-- ==== what an amended file has between the items that stand may come

-- changes of an amended code may come
abbrev pub ValuesCome : (Item → Bool) → AmendedCode → Type 0
ValuesCome come c = (v : List Bit) → list_all come (value_item c.code v ∷ []) ≡ true

-- the declaration of a variable may come
abbrev pub DeclarationComes : (Item → Bool) → VariableDeclaration → Type 0
DeclarationComes come d = come (variable (d.kind ∷ decimal d.size ∷ d.code ∷ d.words)) ≡ true

module _ (come : Item → Bool) (scopes_come : (kind : List ℕ) (words : List (List ℕ)) → come (scope kind words) ≡ true)
    (ends_come : come upscope ≡ true) (stamps_come : (digits : List ℕ) → come (stamp digits) ≡ true)
    (a : Amendment) (values : All (ValuesCome come) a.codes) (added : All (DeclarationComes come) a.added) where
  both_come : (xs ys : List Item) → list_all come xs ≡ true → list_all come ys ≡ true
      → list_all come (xs ++ ys) ≡ true
  both_come xs ys prefix back = list_all-append come xs ys ∙ and_from _ _ prefix back

  -- ---- changes that are due

  due_comes : (now : ParseState) (t : ℕ) (c : AmendedCode) → ValuesCome come c → list_all come (due_items now t c)
      ≡ true
  due_comes now t c is = by_test (needs_change c t && not (file_has_change now c.code t))
    where
      by_test : (b : Bool) → list_all come (if b then value_item c.code (new_value c t) ∷ [] else []) ≡ true
      by_test true = is (new_value c t)
      by_test false = refl

  all_due_come : (now : ParseState) (t : ℕ) (cs : List AmendedCode) → All (ValuesCome come) cs
      → list_all come (flat_map (due_items now t) cs) ≡ true
  all_due_come now t [] all = refl
  all_due_come now t (c ∷ cs) all = both_come (due_items now t c) (flat_map (due_items now t) cs)
      (due_comes now t c (All-head (ValuesCome come) c cs all)) (all_due_come now t cs (All-tail (ValuesCome come) c cs
      all))

  pub due_come : (now : ParseState) (t : ℕ) → list_all come (items_due_at a now t) ≡ true
  due_come now t = all_due_come now t a.codes values

  stamped_come : (t : ℕ) (items : List Item) → list_all come items ≡ true
      → list_all come (with_stamp false t items) ≡ true
  stamped_come t [] all = refl
  stamped_come t (i ∷ items) all = and_from _ _ (stamps_come (decimal t)) all

  now_comes : (none_yet : Bool) (now : ParseState) → list_all come (items_due_now a none_yet now) ≡ true
  now_comes true now = stamped_come now.tick (items_due_at a now now.tick) (due_come now now.tick)
  now_comes false now = due_come now now.tick

  ticks_come : (none_yet : Bool) (now : ParseState) (ticks : List ℕ)
      → list_all come (flat_map (λ t. if t == now.tick then items_due_now a none_yet now
      else with_stamp false t (items_due_at a now t)) ticks) ≡ true
  ticks_come none_yet now [] = refl
  ticks_come none_yet now (t ∷ ticks) = both_come (if t == now.tick then items_due_now a none_yet now
      else with_stamp false t (items_due_at a now t)) _ (by_test (t == now.tick)) (ticks_come none_yet now ticks)
    where
      by_test : (b : Bool) → list_all come (if b then items_due_now a none_yet now
          else with_stamp false t (items_due_at a now t)) ≡ true
      by_test true = now_comes none_yet now
      by_test false = stamped_come t (items_due_at a now t) (due_come now t)

  -- ---- declarations

  scopes_close : (scopes : List ScopeName) → list_all come (map (λ s. upscope) scopes) ≡ true
  scopes_close [] = refl
  scopes_close (x ∷ scopes) = and_from _ _ ends_come (scopes_close scopes)

  scopes_open : (scopes : List ScopeName) → list_all come (map (λ s. scope s.kind s.words) scopes) ≡ true
  scopes_open [] = refl
  scopes_open (x ∷ scopes) = and_from _ _ (scopes_come x.kind x.words) (scopes_open scopes)

  added_comes : (d : VariableDeclaration) → DeclarationComes come d → list_all come (added_items d) ≡ true
  added_comes d one = both_come (map (λ s. scope s.kind s.words) d.scopes) (variable (d.kind ∷ decimal d.size ∷ d.code
      ∷ d.words) ∷ map (λ s. upscope) d.scopes) (scopes_open d.scopes) (and_from _ _ one (scopes_close d.scopes))

  all_added_come : (ds : List VariableDeclaration) → All (DeclarationComes come) ds
      → list_all come (flat_map added_items ds) ≡ true
  all_added_come [] all = refl
  all_added_come (d ∷ ds) all = both_come (added_items d) (flat_map added_items ds)
      (added_comes d (All-head (DeclarationComes come) d ds all)) (all_added_come ds (All-tail (DeclarationComes come) d
      ds
      all))

  declarations_come : (scopes : List ScopeName) (ds : List VariableDeclaration) → All (DeclarationComes come) ds
      → list_all come (added_declarations scopes ds) ≡ true
  declarations_come scopes [] all = refl
  declarations_come scopes (d ∷ ds) all = both_come (map (λ s. upscope) scopes) (flat_map added_items (d ∷ ds))
      (scopes_close scopes) (all_added_come (d ∷ ds) all)

  -- ---- all that is put before an item

  pub inserted_come : (none_yet : Bool) (now : ParseState) (i : Item)
      → list_all come (inserted_items a none_yet now i) ≡ true
  inserted_come none_yet now (entry kind words) = refl
  inserted_come none_yet now (timescale words) = refl
  inserted_come none_yet now (scope kind words) = refl
  inserted_come none_yet now upscope = refl
  inserted_come none_yet now (variable words) = refl
  inserted_come none_yet now end_definitions = declarations_come now.scopes a.added added
  inserted_come none_yet now (stamp digits) = ticks_come none_yet now _
  inserted_come none_yet now (scalar digit code) = refl
  inserted_come none_yet now (vector first digits code) = refl
  inserted_come none_yet now (real_or_string first text code) = refl
  inserted_come none_yet now (dump_word word) = refl
  inserted_come none_yet now (other word words) = refl

-- ==== the ticks of what is put in

abbrev ticks_after : ℕ → List Item → ℕ
ticks_after t [] = t
ticks_after t (i ∷ is) = ticks_after (tick_after_item t i) is

ticks_of_both : (t : ℕ) (xs ys : List Item) → ticks_after t (xs ++ ys) ≡ ticks_after (ticks_after t xs) ys
ticks_of_both t [] ys = refl
ticks_of_both t (x ∷ xs) ys = ticks_of_both (tick_after_item t x) xs ys

module _ (t : ℕ) where
  none_at_ends : (scopes : List ScopeName) → ticks_after t (map (λ s. upscope) scopes) ≡ t
  none_at_ends [] = refl
  none_at_ends (x ∷ scopes) = none_at_ends scopes

  none_at_scopes : (scopes : List ScopeName) → ticks_after t (map (λ s. scope s.kind s.words) scopes) ≡ t
  none_at_scopes [] = refl
  none_at_scopes (x ∷ scopes) = none_at_scopes scopes

  none_at_added : (ds : List VariableDeclaration) → ticks_after t (flat_map added_items ds) ≡ t
  none_at_added [] = refl
  none_at_added (d ∷ ds) =
      let rest : List Item = variable (d.kind ∷ decimal d.size ∷ d.code ∷ d.words) ∷ map (λ s. upscope) d.scopes in
      ticks_of_both t (added_items d) (flat_map added_items ds)
      ∙ ap (λ u. ticks_after u (flat_map added_items ds)) (ticks_of_both t (map (λ s. scope s.kind s.words) d.scopes)
      rest ∙ ap (λ u. ticks_after u rest) (none_at_scopes d.scopes) ∙ none_at_ends d.scopes) ∙ none_at_added ds

  none_at_declarations : (scopes : List ScopeName) (ds : List VariableDeclaration)
      → ticks_after t (added_declarations scopes ds) ≡ t
  none_at_declarations scopes [] = refl
  none_at_declarations scopes (d ∷ ds) = ticks_of_both t (map (λ s. upscope) scopes) (flat_map added_items (d ∷ ds))
      ∙ ap (λ u. ticks_after u (flat_map added_items (d ∷ ds))) (none_at_ends scopes) ∙ none_at_added (d ∷ ds)

-- after an item the file and the text are at one tick
same_tick : (a : Amendment) (none_yet : Bool) (now : ParseState) (i : Item)
    → tick_after_item (ticks_after now.tick (inserted_items a none_yet now i)) i ≡ (state_after_item now i).tick
same_tick a none_yet now (entry kind words) = refl
same_tick a none_yet now (timescale words) = refl
same_tick a none_yet now (scope kind words) = refl
same_tick a none_yet now upscope = refl
same_tick a none_yet now (variable words) = refl
same_tick a none_yet now end_definitions = none_at_declarations now.tick now.scopes a.added
same_tick a none_yet now (stamp digits) = refl
same_tick a none_yet now (scalar digit code) = refl
same_tick a none_yet now (vector first digits code) = refl
same_tick a none_yet now (real_or_string first text code) = refl
same_tick a none_yet now (dump_word word) = refl
same_tick a none_yet now (other word words) = refl

-- ==== the pieces that pieces become, one by one, if each may have its fate

-- an item may have this fate; in the place of one stands none that is a stamp
abbrev pub MayHave : (go : ParseState → Item → Bool) → (come : Item → Bool) → ParseState → Item → ItemFate → Type 0
MayHave go come now i stands = Unit {0}
MayHave go come now i is_left_out = go now i ≡ true
MayHave go come now i (is_exchanged j) =
    (go now i ≡ true) × (come j ≡ true) × ((t : ℕ) → tick_after_item t j ≡ t)

module _ (go : ParseState → Item → Bool) (come : Item → Bool)
    (goes_within : (now : ParseState) (i : Item) → go now i ≡ true → (state_after_item now i).tick ≡ now.tick) where
  abbrev Becomes : ParseState → ℕ → List Piece → List Piece → Type 0
  Becomes now tick ps qs = may_become go come now tick ps qs ≡ true

  goes : (now : ParseState) (tick : ℕ) (p : Piece) (ps qs : List Piece) → go now p.item ≡ true
      → Becomes (state_after_item now p.item) tick ps qs → Becomes now tick (p ∷ ps) qs
  unfolding may_become
  goes now tick p ps [] may rest = and_from _ _ may rest
  goes now tick p ps (q ∷ qs) may rest = or_right _ _ (or_left _ _ (and_from _ _ may rest))

  comes : (now : ParseState) (tick : ℕ) (p : Piece) (ps : List Piece) (i : Item) (body : List ℕ) (qs : List Piece)
      → come i ≡ true → Becomes now (tick_after_item tick i) (after_line p ∷ ps) qs
      → Becomes now tick (p ∷ ps) (record { item = i; space = p.space; body = body } ∷ qs)
  unfolding may_become
  comes now tick p ps i body qs may rest =
      or_right _ _ (or_right _ _ (and_from _ _ (and_from _ _ may (itself p.space)) rest))

  stands_after : (now : ParseState) (tick : ℕ) (p : Piece) (ps qs : List Piece) (lines : List Item)
      → list_all come lines ≡ true
      → tick_after_item (ticks_after tick lines) p.item ≡ (state_after_item now p.item).tick
      → Becomes (state_after_item now p.item) (state_after_item now p.item).tick ps qs
      → Becomes now tick (p ∷ ps) (lines_before lines p ++ qs)
  unfolding may_become
  stands_after now tick p ps qs [] all same rest = or_left _ _ (and_from _ _ (and_from _ _ (and_from _ _
      (eq-eqb _ _ same) (itself p.space)) (itself p.body)) (subst (λ t. Becomes (state_after_item now p.item) t ps qs)
      (sym same) rest))
  stands_after now tick p ps qs (i ∷ is) all same rest =
      let parts = and_parts (come i) (list_all come is) all in
      comes now tick p ps i (join_with_byte 32 (spelling i)) (lines_before is (after_line p) ++ qs) parts.0
      (stands_after now (tick_after_item tick i) (after_line p) ps qs is parts.1 same rest)

  -- one piece
  piece_becomes : (now : ParseState) (p : Piece) (ps qs : List Piece) (o : ItemFate) (lines : List Item)
      → list_all come lines ≡ true
      → tick_after_item (ticks_after now.tick lines) p.item ≡ (state_after_item now p.item).tick
      → MayHave go come now p.item o
      → Becomes (state_after_item now p.item) (state_after_item now p.item).tick ps qs
      → Becomes now now.tick (p ∷ ps) (placed o lines p ++ qs)
  piece_becomes now p ps qs stands lines all same may rest = stands_after now now.tick p ps qs lines all same rest
  piece_becomes now p ps qs is_left_out lines all same may rest = goes now now.tick p ps qs may
      (subst (λ t. Becomes (state_after_item now p.item) t ps qs) (goes_within now p.item may) rest)
  piece_becomes now p ps qs (is_exchanged j) lines all same may rest =
      comes now now.tick p ps j (exchanged_bytes p j) qs may.1 (goes now (tick_after_item now.tick j) (after_line p) ps
      qs may.0 (subst (λ t. Becomes (state_after_item now p.item) t ps qs) (goes_within now p.item may.0
      ∙ sym (may.2 now.tick)) rest))

  -- what comes last
  last_come : (now : ParseState) (tick : ℕ) (items : List Item) → list_all come items ≡ true
      → Becomes now tick [] (map (line_piece (10 ∷ [])) items)
  unfolding may_become
  last_come now tick [] all = refl
  last_come now tick (i ∷ items) all =
      let parts = and_parts (come i) (list_all come items) all in
      and_from _ _ (and_from _ _ parts.0 refl) (last_come now (tick_after_item tick i) items parts.1)

  -- all pieces
  module _ (a : Amendment) (s : ParseState) (inserted : (none_yet : Bool) (now : ParseState) (i : Item)
      → list_all come (inserted_items a none_yet now i) ≡ true) (last : (now : ParseState)
      → list_all come (items_due_at a now now.tick) ≡ true) (fates : (now : ParseState) (i : Item) (is : List Item)
      → AllowsAll now (i ∷ is) → state_after now (i ∷ is) ≡ s → MayHave go come now i (item_fate a now i)) where
    pub pieces_become : (none_yet : Bool) (now : ParseState) (ps : List Piece) → AllowsAll now (items_of ps)
        → state_after now (items_of ps) ≡ s → Becomes now now.tick ps (made a none_yet now ps)
    pieces_become none_yet now [] allows whole = last_come now now.tick (items_due_at a now now.tick) (last now)
    pieces_become none_yet now (p ∷ ps) allows whole = piece_becomes now p ps _ (item_fate a now p.item)
        (inserted_items a none_yet now p.item) (inserted none_yet now p.item) (same_tick a none_yet now p.item)
        (fates now p.item (items_of ps) allows whole) (pieces_become (still_none_yet none_yet (item_fate a now p.item)
        p.item) (state_after_item now p.item) ps allows.1 whole)

-- ==== a `$var` is left out or exchanged only if its declaration may go

module _ (s : ParseState) (gs : List CodedWave) where
  -- what is left of a variable, with its code
  abbrev left_of : VariableDeclaration → Option SignalContents → Option CodedSignal
  left_of d None = None
  left_of d (Some n) = Some (coded_signal s gs d n)

  -- the fate of the variable after others
  fate_at : (xs : List VariableDeclaration) (d : VariableDeclaration) (ys : List VariableDeclaration)
      (ns : List (Option SignalContents)) → AreSignalsOf s (xs ++ d ∷ ys) ns
      → get_or (fates_for (xs ++ d ∷ ys) (coded_signals s gs (xs ++ d ∷ ys) ns)) (length xs) stays
      ≡ fate_for d (left_of d (get_or ns (length xs) None))
  fate_at [] d ys [] are = absurd are
  fate_at [] d ys (None ∷ ns) are = refl
  fate_at [] d ys (Some n ∷ ns) are = refl
  fate_at (x ∷ xs) d ys [] are = absurd are
  fate_at (x ∷ xs) d ys (None ∷ ns) are = fate_at xs d ys ns are
  fate_at (x ∷ xs) d ys (Some n ∷ ns) (here, are) = fate_at xs d ys ns are

  -- the signal that is left of it is one of the signals that are left
  signal_at : (xs : List VariableDeclaration) (d : VariableDeclaration) (ys : List VariableDeclaration)
      (ns : List (Option SignalContents)) (n : SignalContents) (p : SignalContents → Bool)
      → AreSignalsOf s (xs ++ d ∷ ys) ns → get_or ns (length xs) None ≡ Some n → (IsSignalOf s d n → p n ≡ true)
      → list_any p (signals_left ns) ≡ true
  signal_at [] d ys [] n p are is passes = absurd are
  signal_at [] d ys (None ∷ ns) n p are is passes = let never : None ≡ Some n = is in absurd (cc)
  signal_at [] d ys (Some m ∷ ns) n p (here, are) is passes =
      let same : m ≡ n = same_Some m n is in
      or_left _ _ (ap p same ∙ passes (subst (IsSignalOf s d) same here))
  signal_at (x ∷ xs) d ys [] n p are is passes = absurd are
  signal_at (x ∷ xs) d ys (None ∷ ns) n p are is passes = signal_at xs d ys ns n p are is passes
  signal_at (x ∷ xs) d ys (Some m ∷ ns) n p (here, are) is passes = or_right _ _ (signal_at xs d ys ns n p are is
      passes)

  module _ (remaining : List (Option SignalContents)) (derived : List SignalContents) (right : List CodedSignal)
      (cs : List AmendedCode) (are : AreSignalsOf s (kept_variables s.declared) remaining) where
    abbrev a : Amendment
    a = coded_amendment s (coded_signals s gs (kept_variables s.declared) remaining) right cs

    module _ (now : ParseState) (kind size code name : List ℕ) (names : List (List ℕ)) (more : List VariableDeclaration)
      where
        abbrev words : List (List ℕ)
        words = kind ∷ size ∷ code ∷ name ∷ names

        abbrev d : VariableDeclaration
        d = record { scopes = now.scopes; kind = kind; size = number_of size; code = code; words = name ∷ names }

        abbrev place : ℕ
        place = length (kept_variables now.declared)

        module _ (whole : s.declared ≡ now.declared ++ d ∷ more) (kept : is_skipped d ≡ false) where
          parts : kept_variables s.declared ≡ kept_variables now.declared ++ d ∷ kept_variables more
          parts = ap kept_variables whole ∙ filter-append (λ d. not (is_skipped d)) now.declared (d ∷ more)
              ∙ ap (λ l. kept_variables now.declared ++ l) (rw kept refl)

          are_there : AreSignalsOf s (kept_variables now.declared ++ d ∷ kept_variables more) remaining
          are_there = subst (λ l. AreSignalsOf s l remaining) parts are

          fate_is : fate_of a now.declared d ≡ fate_for d (left_of d (get_or remaining place None))
          fate_is = ap (λ (b : Bool). if b then stays else get_or a.fates place stays) kept
              ∙ ap (λ l. get_or (fates_for l
              (coded_signals s gs l remaining)) place stays) parts ∙ fate_at (kept_variables now.declared) d
              (kept_variables more) remaining are_there

          -- whether it stays as it is
          abbrev stays_as : SignalContents → Bool
          stays_as n = pointwise bytes_eq d.words n.words && bytes_eq d.code (coded_signal s gs d n).code

          -- an unchanged variable keeps its code
          keeps_code : (n : SignalContents) → pointwise bytes_eq d.words n.words ≡ true → is_unchanged s d n ≡ true
              → stays_as n ≡ true
          keeps_code n named same = and_from _ _ named (ap (λ (b : Bool). bytes_eq d.code (if b then d.code else
              code_for_wave gs d.code (new_wave_of s d n))) same ∙ itself d.code)

          touched : (n : SignalContents) → stays_as n ≡ false → declaration_may_go s d (Some n) ≡ true
          touched n unlike = elim (cases_Bool (pointwise bytes_eq d.words n.words)) [
            | inl named ↦ elim (cases_Bool (is_unchanged s d n)) [
              | inl same ↦ let never : true ≡ false = sym (keeps_code n named same) ∙ unlike in absurd (cc)
              | inr changed ↦ rw (named, changed) refl
            ]
            | inr renamed ↦ rw renamed refl
          ]

          -- the words of the exchanged `$var` declare the signal
          declared_so : (n : SignalContents) → IsSignalOf s d n
              → declares (kind ∷ size ∷ (coded_signal s gs d n).code ∷ n.words) n ≡ true
          declared_so n is = and_from _ _ (and_from _ _ (ap (λ k. bytes_eq k n.kind) (sym is.kind) ∙ itself n.kind)
              (eq-eqb _ _ (sym is.width))) ((pointwise_decides bytes_eq-Decides n.words n.words).1 refl)

          comes_in_place : (n : SignalContents) → get_or remaining place None ≡ Some n
              → list_any (declares (kind ∷ size ∷ (coded_signal s gs d n).code ∷ n.words)) (signals_left remaining
              ++ derived) ≡ true
          comes_in_place n is = list_any-append _ (signals_left remaining) derived ∙ or_left _ _ (signal_at
              (kept_variables now.declared) d (kept_variables more) remaining n _ are_there is (declared_so n))

          abbrev May : Fate → Type 0
          May f = MayHave (may_go s remaining) (may_be_put_in s remaining (signals_left remaining ++ derived)) now
              (variable words) (declaration_fate f words)

          -- nothing else is left of it than this
          goes_if : (o : Option SignalContents) → get_or remaining place None ≡ o → declaration_may_go s d o ≡ true
              → may_go s remaining now (variable words) ≡ true
          goes_if o is may = and_from _ _ (ap not kept) (ap (declaration_may_go s d) is ∙ may)

          by_left : (o : Option SignalContents) → get_or remaining place None ≡ o → May (fate_for d (left_of d o))
          by_left None is = goes_if None is refl
          by_left (Some n) is = elim (cases_Bool (stays_as n)) [
            | inl same ↦ rw same tt
            | inr unlike ↦ rw unlike (goes_if (Some n) is (touched n unlike), comes_in_place n is, λ t. refl)
          ]

          kept_may : May (fate_of a now.declared d)
          kept_may = subst May (sym fate_is) (by_left (get_or remaining place None) refl)

        pub declared_may : s.declared ≡ now.declared ++ d ∷ more
            → MayHave (may_go s remaining) (may_be_put_in s remaining (signals_left remaining ++ derived)) now
            (variable words) (variable_item_fate a now.declared (Some d) words)
        declared_may whole = elim (cases_Bool (is_skipped d)) [
          | inl skipped ↦ rw skipped tt
          | inr kept ↦ kept_may whole kept
        ]
