-- The values of a code are those of its last changes to digits, so a retimed file means the retimed capture.
use Rattle.std.proofs.Common.{◌≡◌, ℕ, ◌∙◌, Bool, true, false, not, nat_le, refl, ap, sym, if◌then◌else◌, List, [], ◌∷◌}
use Rattle.std.proofs.Common.{◌++◌, inl, inr, ◌&&◌, Option, Some, None, subst, arith, map}
use Rattle.std.specs.Prelude.{bytes_eq, codes}
use Rattle.std.proofs.lemmas.Bool.{cases_Bool, false≢true}
use Rattle.std.proofs.lemmas.List.{append-nil}
use Rattle.std.specs.List.{list_any}
use Rattle.std.proofs.lemmas.List.Elements.{All-nil}
use Rattle.std.proofs.Math.Bool.{and-false}
use Rattle.vcd_core.specs.declared.bit.Bit.{Bit}
use Rattle.vcd_core.specs.Value.{all_x}
use Rattle.vcd_core.specs.Word.{is_skipped_kind}
use Rattle.vcd_core.specs.Wave.{value_at, value_from}
use Rattle.vcd_core.proofs.shared.Waves.{changes_same, value_at-changes_of}
use Rattle.vcd_text.specs.Letters.{letters_of_digits, extension}
use Rattle.vcd_text.specs.Items.{Item, entry, timescale, scope, upscope, variable, end_definitions, stamp, scalar}
use Rattle.vcd_text.specs.Items.{vector, real_or_string, dump_word, other}
use Rattle.vcd_text.specs.Grammar.{VariableDeclaration, ValueChange, ParseState, AllowsAll, state_after_item}
use Rattle.vcd_text.specs.Grammar.{state_after, is_skipped, value_changes_after, variable_of, initial_state}
use Rattle.vcd_text.specs.Grammar.{kept_variables}
use Rattle.vcd_copy.specs.Pieces.{Piece, state_of_pieces}
use Rattle.vcd_text.specs.inside.reading.Variables.{latest_value}
use Rattle.vcd_text.proofs.shared.ItemsInTurn.{value_with}
use Rattle.vcd_text.specs.Meaning.{declared_signal, changes_of_code, meaning}
use Rattle.vcd_amend.specs.Retimed.{ChangeKey, digits_key, text_key, change_key, code_of_key}
use Rattle.vcd_amend.specs.Retimed.{has_kept_variable, new_tick, retimed_signal, retimed_contents}
use Rattle.vcd_amend.specs.RetimedLaws.{CanBeRetimed, pieces_after}
use Rattle.vcd_amend.specs.inside.LastChange.{last_change}
use Rattle.vcd_amend.specs.Amendment.{first_with_code}
use Rattle.vcd_amend.proofs.amended.OneCode.{same_bytes, bytes_turned}
use Rattle.vcd_amend.proofs.retimed.Kinds.{same_form, count_together, kind_of, is_stamp, is_change, is_still}
use Rattle.vcd_amend.proofs.retimed.Kinds.{declared_stays, at}
use Rattle.vcd_amend.proofs.retimed.Ticks.{items_of, old_of_new, old_rises}
use Rattle.vcd_amend.proofs.retimed.LastChanges.{at_still, at_change, at_stamp, lasting_change_stands}
use Rattle.vcd_amend.proofs.retimed.Accepted.{CanStand, Arrives, retimed_arrives}

-- ==== the values of a code are those of its last changes to digits

-- whether a code is that of a kept variable
abbrev is_kept : Option VariableDeclaration → Bool
is_kept None = false
is_kept (Some d) = not (is_skipped d)

abbrev is_kept_code : ParseState → List ℕ → Bool
is_kept_code s code = is_kept (variable_of s code)

-- the letters of a change to digits
abbrev letters_of : Item → List Bit
letters_of (scalar digit code) = letters_of_digits (digit ∷ [])
letters_of (vector first digits code) = letters_of_digits digits
letters_of i = []

-- the value changes that a change adds
abbrev adds : ParseState → ChangeKey → List Bit → List ValueChange
adds s (digits_key code) letters = value_changes_after s code letters (variable_of s code)
adds s (text_key code) letters = []

change_adds : (s : ParseState) (i : Item) (k : ChangeKey) → change_key i ≡ Some k
    → (state_after_item s i).value_changes ≡ s.value_changes ++ adds s k (letters_of i)
change_adds s (entry kind words) k is = absurd (cc)
change_adds s (timescale words) k is = absurd (cc)
change_adds s (scope kind words) k is = absurd (cc)
change_adds s upscope k is = absurd (cc)
change_adds s (variable words) k is = absurd (cc)
change_adds s end_definitions k is = absurd (cc)
change_adds s (stamp digits) k is = absurd (cc)
change_adds s (scalar digit code) k is =
    let same : digits_key code ≡ k = cc in
    ap (λ k. s.value_changes ++ adds s k (letters_of_digits (digit ∷ []))) same
change_adds s (vector first digits code) k is =
    let same : digits_key code ≡ k = cc in
    ap (λ k. s.value_changes ++ adds s k (letters_of_digits digits)) same
change_adds s (real_or_string first text code) k is =
    let same : text_key code ≡ k = cc in
    sym (append-nil s.value_changes) ∙ ap (λ k. s.value_changes ++ adds s k []) same
change_adds s (dump_word word) k is = absurd (cc)
change_adds s (other word words) k is = absurd (cc)

module _ (code : List ℕ) (t width : ℕ) (before : List Bit) where
  abbrev value : List ValueChange → List Bit
  value vs = latest_value width code t before vs

  abbrev own : ChangeKey
  own = digits_key code

  -- whether a change is to digits of the code
  abbrev is_own : ChangeKey → Bool
  is_own k = bytes_eq code (code_of_key k) && same_form own k

  -- a change counts if it is to digits of the code, which is kept, and no later
  abbrev counts : ParseState → ChangeKey → Bool
  counts s k = is_kept_code s code && is_own k && nat_le s.tick t

  with_true : (b : Bool) → (b && true) ≡ b
  with_true true = refl
  with_true false = refl

  -- the value changes that one change adds
  module _ (s : ParseState) (letters : List Bit) where
    abbrev with_it : Bool → List Bit
    with_it counts = if counts then extension width letters else value s.value_changes

    none_added : (b : Bool) → b ≡ false → value (s.value_changes ++ []) ≡ with_it b
    none_added b is = ap (λ l. value l) (append-nil s.value_changes) ∙ ap (λ b. with_it b) (sym is)

    abbrev one : List ℕ → ValueChange
    one c = record { tick = s.tick; code = c; letters = letters }

    of_variable : (c : List ℕ) (d : VariableDeclaration) (skipped : Bool)
        → value (s.value_changes ++ (if skipped then [] else one c ∷ []))
        ≡ with_it ((not skipped && bytes_eq c code) && nat_le s.tick t)
    of_variable c d true = none_added false refl
    of_variable c d false = value_with width code t before s.value_changes (one c)

    of_option : (c : List ℕ) (o : Option VariableDeclaration)
        → value (s.value_changes ++ value_changes_after s c letters o)
        ≡ with_it ((is_kept o && bytes_eq c code) && nat_le s.tick t)
    of_option c None = none_added false refl
    of_option c (Some d) = of_variable c d (is_skipped d)

    turned : (c : List ℕ) → (is_kept_code s c && bytes_eq c code) ≡ (is_kept_code s code && bytes_eq code c)
    turned c = elim (cases_Bool (bytes_eq code c)) [
      | inl same ↦
          let is : code ≡ c = same_bytes code c same in
          subst (λ c. (is_kept_code s c && bytes_eq c code) ≡ (is_kept_code s code && bytes_eq code c)) is refl
      | inr apart ↦ ap (λ b. is_kept_code s c && b) (sym (bytes_turned code c) ∙ apart) ∙ and-false (is_kept_code s c)
          ∙ sym (ap (λ b. is_kept_code s code && b) apart ∙ and-false (is_kept_code s code))
    ]

    not_own : (c : List ℕ) → (is_kept_code s code && (bytes_eq code c && false)) ≡ false
    not_own c = ap (λ b. is_kept_code s code && b) (and-false (bytes_eq code c)) ∙ and-false (is_kept_code s code)

    gives : (k : ChangeKey) → value (s.value_changes ++ adds s k letters) ≡ with_it (counts s k)
    gives (digits_key c) = of_option c (variable_of s c) ∙ ap (λ b. with_it (b && nat_le s.tick t)) (turned c
        ∙ ap (λ b. is_kept_code s code && b) (sym (with_true (bytes_eq code c))))
    gives (text_key c) = none_added (counts s (text_key c)) (ap (λ b. b && nat_le s.tick t) (not_own c))

  -- the value that a last change gives
  abbrev of_change : Option Piece → List Bit
  of_change None = before
  of_change (Some p) = extension width (letters_of p.item)

  abbrev expected : Bool → Option Piece → List Bit
  expected kept o = if kept then of_change o else before

  one_more : (kept is_it same upto : Bool) (p : Piece) (o : Option Piece) (now : List Bit)
      → (kept ≡ true → is_it ≡ same) → now ≡ expected kept o
      → (if (kept && is_it) && upto then extension width (letters_of p.item) else now)
      ≡ expected kept (if same && upto then Some p else o)
  one_more true is_it true true p o now own_is is = rw (own_is refl) refl
  one_more true is_it true false p o now own_is is = rw (own_is refl) is
  one_more true is_it false upto p o now own_is is = rw (own_is refl) is
  one_more false is_it same upto p o now own_is is = is

  -- changes to digits of a kept code count together, and with no others
  own_together : (test : List ℕ → Bool) (k : ChangeKey) → test code ≡ true → is_own k ≡ count_together test own k
  own_together test (digits_key c) kept = with_true (bytes_eq code c)
  own_together test (text_key c) kept = ap (λ b. bytes_eq code c && not b) (sym kept)

  values_are : (test : List ℕ → Bool) (s : ParseState) (ps : List Piece) (o : Option Piece) (kept : Bool)
      → AllowsAll s (items_of ps)
      → (kept ≡ true → test code ≡ true) → is_kept_code (state_after s (items_of ps)) code ≡ kept
      → value s.value_changes ≡ expected kept o
      → value (state_after s (items_of ps)).value_changes ≡ expected kept (last_change test own t s.tick o ps)
  unfolding last_change
  values_are test s [] o kept allows tested is_kept_now now = now
  values_are test s (p ∷ ps) o kept allows tested is_kept_now now = elim (kind_of p.item) [
    | is_stamp digits is ↦ values_are test (state_after_item s p.item) ps o kept allows.1 tested is_kept_now (ap (λ (i :
        Item). value (state_after_item s i).value_changes) is ∙ now) ∙ ap (λ (u : ℕ). expected kept (last_change test
        own t u o ps)) (ap (λ (i : Item). (state_after_item s i).tick) is) ∙ ap (expected kept) (sym (at_stamp test own
        t s.tick o p ps digits is))
    | is_change k change ↦
        let same : is_kept_code s code ≡ kept = ap (λ (ds : List VariableDeclaration). is_kept (first_with_code code
        ds)) (sym (declared_stays s (p.item ∷ items_of ps) allows (change.in_body s allows.0))) ∙ is_kept_now in
        let more : Option Piece = if count_together test own k && nat_le s.tick t then Some p else o in
        let then_is : value (state_after_item s p.item).value_changes ≡ expected kept more = ap (λ l. value l)
        (change_adds s p.item k change.is) ∙ gives s (letters_of p.item) k ∙ ap (λ (b : Bool). if (b && is_own k) &&
        nat_le s.tick t then extension width (letters_of p.item) else value s.value_changes) same ∙ one_more kept
        (is_own k) (count_together test own k) (nat_le s.tick t) p o (value s.value_changes) (λ is. own_together test k
        (tested is)) now in
        values_are test (state_after_item s p.item) ps more kept allows.1 tested is_kept_now then_is ∙ ap (λ (u : ℕ).
        expected kept (last_change test own t u more ps)) (ap (λ (x : ParseState). x.tick) (change.state s)) ∙ ap
        (expected kept) (sym (at_change test own t s.tick o p ps k change))
    | is_still still ↦ values_are test (state_after_item s p.item) ps o kept allows.1 tested is_kept_now (ap (λ l. value
        l) (still.values s) ∙ now) ∙ ap (λ (u : ℕ). expected kept (last_change test own t u o ps)) (still.same_tick s) ∙
        ap (expected kept) (sym (at_still test own t s.tick o p ps still))
  ]

-- ==== a retimed file means the retimed capture

-- a kept variable is no event
no_event : (d : VariableDeclaration) → is_skipped d ≡ false → bytes_eq d.kind (codes "event") ≡ false
no_event d kept = elim (cases_Bool (bytes_eq d.kind (codes "event"))) [
  | inl event ↦
      let skipped : is_skipped_kind d.kind ≡ true = ap is_skipped_kind (same_bytes d.kind (codes "event") event) in
      absurd (false≢true (sym kept ∙ rw skipped refl))
  | inr unlike ↦ unlike
]

-- so the changes of its code last
kept_lasts : (code : List ℕ) (ds : List VariableDeclaration) → is_kept (first_with_code code ds) ≡ true
    → list_any (λ d. bytes_eq code d.code && not (bytes_eq d.kind (codes "event"))) ds ≡ true
kept_lasts code [] none = absurd (false≢true none)
kept_lasts code (d ∷ ds) kept = elim (cases_Bool (bytes_eq code d.code)) [
  | inl same ↦
      let it : is_skipped d ≡ false = not_true (is_skipped d) (rw same at kept) in
      rw (same, no_event d it) refl
  | inr unlike ↦ rw unlike (kept_lasts code ds (rw unlike at kept))
]
  where
    not_true : (b : Bool) → not b ≡ true → b ≡ false
    not_true true is = absurd (false≢true is)
    not_true false is = refl

-- and a kept variable has it
kept_has : (code : List ℕ) (ds : List VariableDeclaration) → is_kept (first_with_code code ds) ≡ true
    → list_any (λ d. bytes_eq code d.code && not (is_skipped d)) ds ≡ true
kept_has code [] none = absurd (false≢true none)
kept_has code (d ∷ ds) kept = elim (cases_Bool (bytes_eq code d.code)) [
  | inl same ↦
      let it : not (is_skipped d) ≡ true = rw same at kept in
      rw (same, it) refl
  | inr unlike ↦ rw unlike (kept_has code ds (rw unlike at kept))
]

module _ (is_cut_out : ℕ → Bool) (old_tick : ℕ → ℕ) (limit : ℕ) (file : List ℕ) (pieces : List Piece) (tail : List ℕ)
    (can : CanBeRetimed is_cut_out old_tick limit file pieces tail) where
  abbrev pub before_cuts : ParseState
  before_cuts = state_of_pieces limit pieces

  abbrev pub again : List Piece
  again = pieces_after is_cut_out limit pieces

  abbrev pub new_end : ℕ
  new_end = new_tick is_cut_out before_cuts.tick

  -- the codes that kept variables have
  abbrev kept_codes : List ℕ → Bool
  kept_codes = has_kept_variable before_cuts

  pub arrives : Arrives is_cut_out (initial_state limit) [] 0 (items_of again) before_cuts
  unfolding new_tick
  arrives = retimed_arrives is_cut_out (initial_state limit) [] [] 0 pieces can.allowed (record {
    upto = omega arith;
    here = λ _. refl;
    most = omega arith;
  }) (All-nil (CanStand (initial_state limit)))

  -- the state of the file after the cuts
  pub state_is : state_of_pieces limit again ≡ at before_cuts arrives.value_changes new_end
  state_is = arrives.leads.state_is ∙ ap (λ n. at before_cuts arrives.value_changes n) (arrives.is.here can.end)

  pub allowed_again : AllowsAll (initial_state limit) (items_of again)
  allowed_again = arrives.leads.allowed

  module _ (code : List ℕ) (width t : ℕ) (before : List Bit) where
    none_yet : (kept : Bool) → before ≡ expected code t width before kept None
    none_yet true = refl
    none_yet false = refl

    -- the same last change gives the same value, and no change none
    by_kept : (kept : Bool) → is_kept_code before_cuts code ≡ kept
        → expected code t width before kept (last_change kept_codes (digits_key code) t 0 None again)
        ≡ expected code t width before kept (last_change kept_codes (digits_key code) (old_tick t) 0 None pieces)
    by_kept true kept = ap (λ o. expected code t width before true o) (lasting_change_stands is_cut_out old_tick limit
        file
        pieces tail (digits_key code) t can (kept_lasts code before_cuts.declared kept))
    by_kept false skipped = refl

    same_values : latest_value width code t before arrives.value_changes
        ≡ latest_value width code (old_tick t) before before_cuts.value_changes
    unfolding changes_of_code value_from
    same_values =
        let kept : Bool = is_kept_code before_cuts code in
        let ours : latest_value width code t before (state_of_pieces limit again).value_changes
        ≡ expected code t width before kept (last_change kept_codes (digits_key code) t 0 None again) = values_are code
        t width before kept_codes (initial_state limit) again None kept allowed_again (kept_has code
        before_cuts.declared) (ap (λ s. is_kept_code s code) state_is) (none_yet kept) in
        let theirs : latest_value width code (old_tick t) before before_cuts.value_changes
        ≡ expected code t width before kept (last_change kept_codes (digits_key code) (old_tick t) 0 None pieces) =
        values_are code (old_tick t) width before kept_codes (initial_state limit) pieces None kept can.allowed
        (kept_has code before_cuts.declared) refl (none_yet kept) in
        sym (ap (λ (s : ParseState). latest_value width code t before s.value_changes) state_is) ∙ ours ∙ by_kept kept
        refl
        ∙ sym theirs

  one_signal : (d : VariableDeclaration) → declared_signal arrives.value_changes new_end d
      ≡ retimed_signal old_tick new_end (declared_signal before_cuts.value_changes before_cuts.tick d)
  one_signal d = ap (λ cs. record {
    scopes = d.scopes;
    kind = d.kind;
    words = d.words;
    width = d.size;
    changes = cs;
  }) (changes_same d.size new_end _ _ (λ t upto. same_values d.code d.size t (all_x d.size)
      ∙ sym (value_at-changes_of d.size before_cuts.tick (old_tick t) (value_at d.size (changes_of_code d.size d.code
      before_cuts.value_changes)) (omega (
        arith,
        old_of_new is_cut_out old_tick can.ticks before_cuts.tick can.end,
        old_rises is_cut_out old_tick can.ticks t new_end upto,
      )))))

  all_signals : (ds : List VariableDeclaration) → map (declared_signal arrives.value_changes new_end) ds
      ≡ map (retimed_signal old_tick new_end) (map (declared_signal before_cuts.value_changes before_cuts.tick) ds)
  all_signals [] = refl
  all_signals (d ∷ ds) = λ i. one_signal d i ∷ all_signals ds i

  pub means_retimed : meaning (state_of_pieces limit again)
      ≡ retimed_contents is_cut_out old_tick (meaning before_cuts)
  means_retimed = ap meaning state_is ∙ ap (λ ss. record (meaning before_cuts) { end = new_end; signals = ss })
      (all_signals (kept_variables before_cuts.declared))
