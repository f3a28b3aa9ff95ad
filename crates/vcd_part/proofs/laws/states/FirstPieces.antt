-- The pieces of tick 0 in the part of a file: they are allowed, and give each signal its last value.
use Rattle.std.proofs.Common.{◌≡◌, ℕ, ◌∙◌, ◌≤◌, ◌<◌, ◌^◌, Bool, true, false, not, ◌&&◌, ◌||◌, List, [], ◌∷◌}
use Rattle.std.proofs.Common.{◌++◌, refl, ap, sym, subst, Option, Some, None, if◌then◌else◌, arith, nat_le, inl, inr}
use Rattle.std.proofs.Common.{decimal, map, codes}
use Rattle.std.specs.Prelude.{bytes_eq, filter, option_to_list}
use Rattle.std.specs.List.{list_any, list_all, flat_map}
use Rattle.std.proofs.lemmas.Bool.{cases_Bool, false≢true, and_parts, and_from, le-leb}
use Rattle.std.proofs.lemmas.List.{map-append}
use Rattle.std.proofs.lemmas.List.Folds.{list_any-append}
use Rattle.vcd_core.specs.declared.bit.Bit.{Bit}
use Rattle.vcd_core.specs.declared.capture.TheConstants.{END_LIMIT}
use Rattle.vcd_core.specs.Value.{all_x}
use Rattle.vcd_core.specs.Wave.{value_from}
use Rattle.vcd_text.specs.Meaning.{changes_of_code}
use Rattle.vcd_core.specs.Word.{is_skipped_kind}
use Rattle.vcd_core.specs.Decimal.{number_of, is_number}
use Rattle.vcd_text.specs.Letters.{extension}
use Rattle.vcd_text.specs.Items.{Item, stamp}
use Rattle.vcd_text.specs.Grammar.{ParseState, VariableDeclaration, ValueChange, Allows, state_after_item, is_skipped}
use Rattle.vcd_copy.specs.Pieces.{Piece}
use Rattle.vcd_copy.specs.Copied.{piece_items}
use Rattle.vcd_text.proofs.shared.ItemTests.{allows_stamp}
use Rattle.vcd_text.proofs.shared.ItemsInTurn.{Reaches, reaches_none, reaches_one, reaches_both}
use Rattle.vcd_text.proofs.read_back.Decimals.{decimal_is_number, number_of-decimal}
use Rattle.vcd_part.specs.declared.request.Request.{Request}
use Rattle.vcd_part.specs.Requests.{keeps}
use Rattle.vcd_part.specs.PartPieces.{is_change_of, is_used, last_such, each_once, lasting_codes, first_pieces}
use Rattle.vcd_part.specs.PartPieces.{on_own_line}
use Rattle.vcd_part.proofs.laws.signals.SameStatus.{HasOneStatus, IsIn, in_any, bytes_same, same_bytes, in_filter}
use Rattle.vcd_part.proofs.laws.signals.SameStatus.{filter_in}
use Rattle.vcd_part.proofs.laws.signals.SignalValues.{value, letters_of, after_item, last_passes, of_last}
use Rattle.vcd_part.proofs.laws.states.PartStates.{IsKept, kept_again, same_changes, in_part}
use Rattle.vcd_part.specs.StandsInPart.{change_code}
use Rattle.vcd_part.proofs.laws.states.PartStates.{change_stands}
use Rattle.vcd_part.proofs.laws.states.PartStates.{code_of_change, change_state}

-- ---- the codes whose values last

module _ (k : List ℕ) where
  abbrev has : List (List ℕ) → Bool
  has ws = list_any (bytes_eq k) ws

  or_true : (b : Bool) → (b || true) ≡ true
  or_true true = refl
  or_true false = refl

  has_with : (ws : List (List ℕ)) (w : List ℕ) → bytes_eq k w ≡ false → has (ws ++ w ∷ []) ≡ has ws
  has_with ws w apart = list_any-append (bytes_eq k) ws (w ∷ []) ∙ rw apart (or_false (has ws))
    where
      or_false : (b : Bool) → (b || false) ≡ b
      or_false true = refl
      or_false false = refl

  each_stays : (before ws : List (List ℕ)) → has ws ≡ true → (has before || has (each_once before ws)) ≡ true
  unfolding each_once
  each_stays before [] is = absurd (false≢true is)
  each_stays before (w ∷ ws) is = elim (cases_Bool (bytes_eq k w)) [
    | inl same ↦ by_first (same_bytes k w same) (list_any (bytes_eq w) before) refl
    | inr apart ↦ by_test apart (list_any (bytes_eq w) before) (each_stays before ws (rw apart at is)) (each_stays
        (before ++ w ∷ []) ws (rw apart at is))
  ]
    where
      by_first : k ≡ w → (b : Bool) → list_any (bytes_eq w) before ≡ b
          → (has before || has (if b then each_once before ws else w ∷ each_once (before ++ w ∷ []) ws)) ≡ true
      by_first is true it = rw (ap (λ x. list_any (bytes_eq x) before) is ∙ it) refl
      by_first is false it = rw (bytes_same k w is) (or_true (has before))

      by_test : bytes_eq k w ≡ false → (b : Bool) → (has before || has (each_once before ws)) ≡ true
          → (has (before ++ w ∷ []) || has (each_once (before ++ w ∷ []) ws)) ≡ true
          → (has before || has (if b then each_once before ws else w ∷ each_once (before ++ w ∷ []) ws)) ≡ true
      by_test apart true rest later = rest
      by_test apart false rest later = rw apart (subst (λ b. (b || has (each_once (before ++ w ∷ []) ws)) ≡ true)
          (has_with before w apart) later)

  codes_have : (d : VariableDeclaration) (ds : List VariableDeclaration) → IsIn d ds → d.code ≡ k
      → has (map (λ (e : VariableDeclaration). e.code) ds) ≡ true
  codes_have d [] is code = absurd is
  codes_have d (e ∷ ds) (inl same) code = rw (bytes_same k e.code (sym code ∙ ap (λ (v : VariableDeclaration). v.code)
      (sym same))) refl
  codes_have d (e ∷ ds) (inr later) code = ap (λ b. bytes_eq k e.code || b) (codes_have d ds later code) ∙ or_true
      (bytes_eq k e.code)

each_passes : (test : List ℕ → Bool) (before ws : List (List ℕ)) → list_all test ws ≡ true
    → list_all test (each_once before ws) ≡ true
unfolding each_once
each_passes test before [] all = refl
each_passes test before (w ∷ ws) all =
    let parts = and_parts (test w) (list_all test ws) all in
    by_test (list_any (bytes_eq w) before) parts.0 (each_passes test before ws parts.1) (each_passes test (before ++ w
    ∷ []) ws parts.1)
  where
    by_test : (b : Bool) → test w ≡ true → list_all test (each_once before ws) ≡ true
        → list_all test (each_once (before ++ w ∷ []) ws) ≡ true
        → list_all test (if b then each_once before ws else w ∷ each_once (before ++ w ∷ []) ws) ≡ true
    by_test true first rest later = rest
    by_test false first rest later = and_from (test w) _ first later

codes_pass : (test : List ℕ → Bool) (ds : List VariableDeclaration)
    → ((d : VariableDeclaration) → IsIn d ds → test d.code ≡ true)
    → list_all test (map (λ (e : VariableDeclaration). e.code) ds) ≡ true
codes_pass test [] all = refl
codes_pass test (d ∷ ds) all = and_from (test d.code) _ (all d (inl refl)) (codes_pass test ds (λ e is. all e (inr is)))

-- a variable that is not skipped is no event
no_event : (d : VariableDeclaration) → is_skipped d ≡ false → bytes_eq d.kind (codes "event") ≡ false
no_event d kept = elim (cases_Bool (bytes_eq d.kind (codes "event"))) [
  | inl event ↦
      let skipped : is_skipped_kind d.kind ≡ true = ap is_skipped_kind (same_bytes d.kind (codes "event") event) in
      absurd (false≢true (sym kept ∙ rw skipped refl))
  | inr unlike ↦ unlike
]

module _ (r : Request) (ds : List VariableDeclaration) where
  abbrev lasts : VariableDeclaration → Bool
  lasts d = keeps r d && not (bytes_eq d.kind (codes "event"))

  pub lasting_used : list_all (is_used r ds) (lasting_codes r ds) ≡ true
  lasting_used = each_passes (is_used r ds) [] (map (λ (d : VariableDeclaration). d.code) (filter lasts ds))
      (codes_pass (is_used r ds) (filter lasts ds) (λ d is.
      let at = in_filter lasts d ds is in
      in_any (λ e. keeps r e && bytes_eq d.code e.code) d ds at.0 (and_from (keeps r d) (bytes_eq d.code d.code)
      (and_parts (keeps r d) (not (bytes_eq d.kind (codes "event"))) at.1).0 (bytes_same d.code d.code refl))))

  pub kept_lasts : (d : VariableDeclaration) → IsKept r ds d → list_any (bytes_eq d.code) (lasting_codes r ds) ≡ true
  kept_lasts d is = each_stays d.code [] (map (λ (d : VariableDeclaration). d.code) (filter lasts ds)) (codes_have
      d.code d (filter lasts ds) (filter_in lasts d ds is.signal.is_in (and_from (keeps r d) (not (bytes_eq d.kind
      (codes "event"))) is.kept (ap not (no_event d is.signal.signal)))) refl)

-- ---- a stamp of the part

module _ (r : Request) (words : List (List ℕ)) (s : ParseState) (body : s.in_body ≡ true) where
  -- digits of a later tick
  pub digits_lead : (vs : List ValueChange) (n : ℕ) (digits : List ℕ) → is_number digits ≡ true
      → number_of digits ≤ END_LIMIT → n ≤ number_of digits
      → Reaches (in_part r words s vs n) (stamp digits ∷ []) (in_part r words s vs (number_of digits))
  digits_lead vs n digits number most order = reaches_one _ _ _ (allows_stamp (in_part r words s vs n) digits body
      (and_from _ _ number (le-leb _ _ most)) order) refl

  pub stamp_leads : (vs : List ValueChange) (n u : ℕ) → u ≤ END_LIMIT → n ≤ u
      → Reaches (in_part r words s vs n) (stamp (decimal u) ∷ []) (in_part r words s vs u)
  stamp_leads vs n u most order =
      let few : u < 2 ^ 64 = omega arith in
      let read : number_of (decimal u) ≡ u = number_of-decimal u few in
      subst (λ (m : ℕ). Reaches (in_part r words s vs n) (stamp (decimal u) ∷ []) (in_part r words s vs m)) read
      (digits_lead vs n (decimal u) (decimal_is_number u few) (omega (arith, read)) (omega (arith, read)))

-- ---- the last change of each code

-- without value changes there is no value yet
pub none_yet : (d : VariableDeclaration) (t : ℕ) → value d [] t ≡ all_x d.size
unfolding changes_of_code value_from
none_yet d t = refl

module _ (r : Request) (words : List (List ℕ)) (before : List Piece) (s : ParseState) (body : s.in_body ≡ true)
    (one : HasOneStatus s.declared)
    (can : (code : List ℕ) (q : Piece) → last_such (is_change_of s.declared code) before ≡ Some q → Allows s q.item)
  where
    abbrev last_of : List ℕ → Option Piece
    last_of code = last_such (is_change_of s.declared code) before

    -- the value at tick 0 after a piece
    abbrev value_with_piece : VariableDeclaration → Option Piece → List Bit → List Bit
    value_with_piece d None old = old
    value_with_piece d (Some q) old = extension d.size (letters_of q.item)

    -- a piece leads from value changes to others
    record Adds (vs : List ValueChange) (code : List ℕ) (o : Option Piece) : Type 0 where
      more : List ValueChange
      leads : Reaches (in_part r words s vs 0) (piece_items (map on_own_line (option_to_list o)))
          (in_part r words s more 0)
      values : (d : VariableDeclaration) → IsKept r s.declared d → (t : ℕ) → value d more t
          ≡ (if bytes_eq d.code code then value_with_piece d o (value d vs t) else value d vs t)

    one_adds : (vs : List ValueChange) (code : List ℕ) → is_used r s.declared code ≡ true → (o : Option Piece)
        → last_of code ≡ o → Adds vs code o
    one_adds vs code used None is = record {
      more = vs;
      leads = reaches_none (in_part r words s vs 0);
      values = λ d kept t. same_both (bytes_eq d.code code) (value d vs t);
    }
      where
        same_both : (b : Bool) (v : List Bit) → v ≡ (if b then v else v)
        same_both true v = refl
        same_both false v = refl
    one_adds vs code used (Some q) is =
        let own : is_change_of s.declared code q.item ≡ true = last_passes (is_change_of s.declared code) before q is in
        let its : change_code q.item ≡ Some code = code_of_change s.declared code q.item own in
        record {
          more = (state_after_item (in_part r words s vs 0) q.item).value_changes;
          leads = reaches_one (in_part r words s vs 0) _ q.item (change_stands r words s vs 0 one q.item code its used
              (can code q is)) (change_state q.item code its (in_part r words s vs 0));
          values = λ d kept t. after_item (in_part r words s vs 0) d (kept_again r s.declared d kept) t q.item
              ∙ ap (λ b. if b then extension d.size (letters_of q.item) else value d vs t) (counts d kept t own its);
        }
      where
        counts : (d : VariableDeclaration) → IsKept r s.declared d → (t : ℕ)
            → is_change_of s.declared code q.item ≡ true → change_code q.item ≡ Some code
            → (is_change_of (filter (keeps r) s.declared) d.code q.item && nat_le 0 t) ≡ bytes_eq d.code code
        counts d kept t own its = ap (λ b. b && nat_le 0 t) (same_changes r s.declared d kept q.item)
            ∙ ap (λ b. is_change_of s.declared d.code q.item && b) (le-leb 0 t (omega arith))
            ∙ and_true (is_change_of s.declared d.code q.item) ∙ by_code (bytes_eq d.code code) refl
          where
            and_true : (b : Bool) → (b && true) ≡ b
            and_true true = refl
            and_true false = refl

            by_change : (b : Bool) → is_change_of s.declared d.code q.item ≡ b → bytes_eq d.code code ≡ false
                → is_change_of s.declared d.code q.item ≡ false
            by_change false it apart = it
            by_change true it apart =
                let same : Some d.code ≡ Some code = sym (code_of_change s.declared d.code q.item it) ∙ its in
                let is : d.code ≡ code = cc in
                absurd (false≢true (sym apart ∙ bytes_same d.code code is))

            by_code : (b : Bool) → bytes_eq d.code code ≡ b
                → is_change_of s.declared d.code q.item ≡ bytes_eq d.code code
            by_code true same = ap (λ c. is_change_of s.declared c q.item) (same_bytes d.code code same) ∙ own
                ∙ sym same
            by_code false apart = by_change (is_change_of s.declared d.code q.item) refl apart ∙ sym apart

    abbrev Filled : (seen : List ℕ → Bool) → List ValueChange → Type 0
    Filled seen vs = (d : VariableDeclaration) → IsKept r s.declared d → (t : ℕ)
        → value d vs t ≡ (if seen d.code then of_last d (last_of d.code) else all_x d.size)

    record AddsAll (vs : List ValueChange) (seen : List ℕ → Bool) (cs : List (List ℕ)) : Type 0 where
      more : List ValueChange
      leads : Reaches (in_part r words s vs 0) (piece_items (flat_map (λ code. map on_own_line (option_to_list
          (last_such (is_change_of s.declared code) before))) cs)) (in_part r words s more 0)
      values : (d : VariableDeclaration) → IsKept r s.declared d → (t : ℕ)
          → (list_any (bytes_eq d.code) cs || seen d.code) ≡ true → value d more t ≡ of_last d (last_of d.code)

    all_add : (vs : List ValueChange) (seen : List ℕ → Bool) → Filled seen vs → (cs : List (List ℕ))
        → list_all (is_used r s.declared) cs ≡ true → AddsAll vs seen cs
    all_add vs seen filled [] used = record {
      more = vs;
      leads = reaches_none (in_part r words s vs 0);
      values = λ d kept t any. filled d kept t
          ∙ ap (λ b. if b then of_last d (last_of d.code) else all_x d.size) any;
    }
    all_add vs seen filled (c ∷ cs) used =
        let parts = and_parts (is_used r s.declared c) (list_all (is_used r s.declared) cs) used in
        let first = one_adds vs c parts.0 (last_of c) refl in
        let rest = all_add first.more (λ k. bytes_eq k c || seen k) (λ d kept t. first.values d kept t
        ∙ filled_too d (value d vs t) (bytes_eq d.code c) refl (filled d kept t)) cs parts.1 in
        record {
          more = rest.more;
          leads = subst (λ (l : List Item). Reaches (in_part r words s vs 0) l (in_part r words s rest.more 0)) (sym
              (map-append (λ (p : Piece). p.item) (map on_own_line (option_to_list (last_of c))) (flat_map (λ code. map
              on_own_line (option_to_list (last_such (is_change_of s.declared code) before))) cs))) (reaches_both _ _ _
              _ _ first.leads rest.leads);
          values = λ d kept t any. rest.values d kept t (turned (bytes_eq d.code c) (list_any (bytes_eq d.code) cs)
              (seen d.code) any);
        }
      where
        turned : (x y z : Bool) → ((x || y) || z) ≡ true → (y || (x || z)) ≡ true
        turned true true z is = refl
        turned true false z is = refl
        turned false y z is = is

        by_last : (d : VariableDeclaration) (o : Option Piece) (b : Bool) (old : List Bit)
            → old ≡ (if b then of_last d o else all_x d.size) → value_with_piece d o old ≡ of_last d o
        by_last d None true old is = is
        by_last d None false old is = is
        by_last d (Some q) b old is = refl

        filled_too : (d : VariableDeclaration) (old : List Bit) (b : Bool) → bytes_eq d.code c ≡ b
            → old ≡ (if seen d.code then of_last d (last_of d.code) else all_x d.size)
            → (if b then value_with_piece d (last_of c) old else old)
            ≡ (if b || seen d.code then of_last d (last_of d.code) else all_x d.size)
        filled_too d old true it is = ap (λ o. value_with_piece d o old) (ap last_of (sym (same_bytes d.code c it)))
            ∙ by_last d (last_of d.code) (seen d.code) old is
        filled_too d old false it is = is

    pub record HasFirst (vs : List ValueChange) (n : ℕ) : Type 0 where
      pub more : List ValueChange
      pub leads : Reaches (in_part r words s vs n) (piece_items (first_pieces r s.declared before))
          (in_part r words s more 0)
      pub values : (d : VariableDeclaration) → IsKept r s.declared d → (t : ℕ)
          → value d more t ≡ of_last d (last_of d.code)

    pub first_lead : (vs : List ValueChange) (n : ℕ) → vs ≡ [] → n ≡ 0 → HasFirst vs n
    first_lead vs n none zero =
        let stamped = stamp_leads r words s body vs n 0 (omega arith) (omega (arith, zero)) in
        let all = all_add vs (λ k. false) (λ d kept t. ap (λ l. value d l t) none ∙ none_yet d t) (lasting_codes r
        s.declared) (lasting_used r s.declared) in
        record {
          more = all.more;
          leads = reaches_both _ _ _ (stamp (decimal 0) ∷ []) _ stamped all.leads;
          values = λ d kept t. all.values d kept t (rw (kept_lasts r s.declared d kept) refl);
        }
