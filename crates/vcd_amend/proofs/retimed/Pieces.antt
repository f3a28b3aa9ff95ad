-- The pieces of a retimed file: what is neither a stamp nor a change stands, all are cut from its bytes, and
-- its text means the capture.
use Rattle.std.proofs.Common.{◌≡◌, ℕ, ◌-◌, ◌<◌, ◌≤◌, ◌∙◌, ◌^◌, ◌==◌, Bool, true, false, All, drop, length, List, []}
use Rattle.std.proofs.Common.{◌∷◌, ◌++◌, refl, ap, sym, arith, if◌then◌else◌, subst, decimal, not, ◌&&◌, Some}
use Rattle.std.specs.Prelude.{count_by}
use Rattle.std.specs.List.{list_all, prefix_len, suffix_len, filter}
use Rattle.std.proofs.lemmas.Bool.{false≢true}
use Rattle.std.proofs.lemmas.List.Elements.{All-nil, All-cons, All-head, All-tail, All-append, All-filter}
use Rattle.std.proofs.lemmas.List.Elements.{filter-append}
use Rattle.std.proofs.lemmas.List.Sums.{suffix_len_is, AllPass-from_list_all}
use Rattle.vcd_core.specs.Word.{is_white_space}
use Rattle.vcd_core.specs.declared.capture.TheConstants.{END_LIMIT}
use Rattle.vcd_core.specs.Decimal.{number_of}
use Rattle.vcd_text.specs.Words.{words_of}
use Rattle.vcd_text.specs.Items.{Item, stamp}
use Rattle.vcd_text.specs.Grammar.{ParseState, AllowsAll, Allows, state_after_item, initial_state, word_texts}
use Rattle.vcd_text.specs.Grammar.{is_skipped}
use Rattle.vcd_copy.specs.Pieces.{Piece, state_of_pieces}
use Rattle.vcd_text.proofs.read_back.WholeText.{one_word, longer_unbroken, decimal_unbroken}
use Rattle.vcd_copy.proofs.pieces.Bytes.{texts_are, joined_words}
use Rattle.vcd_copy.proofs.shared.SpelledItems.{cut_spells_items}
use Rattle.vcd_amend.specs.AmendedItems.{stands, is_left_out, is_exchanged}
use Rattle.vcd_amend.specs.Retimed.{new_tick, ChangeKey, change_key, counts_with, code_of_key, lasts, held_with}
use Rattle.vcd_amend.specs.Retimed.{is_past, has_kept_variable, released_pieces, retimed_stamp}
use Rattle.vcd_copy.specs.Pieces.{stamp_line}
use Rattle.vcd_amend.specs.Retimed.{pieces_in_place, retimed_pieces}
use Rattle.vcd_amend.specs.RetimedLaws.{CanBeRetimed, MeansRetimed, pieces_after, RetimedFileMeansRetimedCapture}
use Rattle.vcd_amend.specs.RetimedLaws.{bytes_of, RetimedTextMeansRetimedCapture, is_neither}
use Rattle.vcd_amend.proofs.amended.Spelled.{unbroken_has_no_space}
use Rattle.vcd_amend.proofs.amended.OtherWords.{HasSpace, SpellsItem, HasSomeSpace, items_of}
use Rattle.vcd_amend.proofs.retimed.Ticks.{is_earlier, stamp_ticks}
use Rattle.vcd_amend.proofs.retimed.Kinds.{kind_of, is_stamp, is_change, is_still, retimed_still, retimed_change}
use Rattle.vcd_amend.proofs.retimed.Kinds.{retimed_by_stamp, change_of_key}
use Rattle.vcd_amend.proofs.retimed.Meaning.{state_is, allowed_again, means_retimed}
use Rattle.vcd_amend.proofs.retimed.LastChanges.{IsHeld, held_change}

-- ==== the bytes, and what they mean

-- ---- a stamp

-- bytes without white space are tight
abbrev IsTight : Piece → Type 0
IsTight p = (prefix_len is_white_space p.body ≡ 0) × (suffix_len is_white_space p.body ≡ 0)

no_space_last : (bytes : List ℕ) → list_all (λ b. not (is_white_space b)) bytes ≡ true
    → suffix_len is_white_space bytes ≡ 0
no_space_last bytes none =
    let is : suffix_len is_white_space bytes ≡ length bytes - length bytes = suffix_len_is is_white_space bytes (length
    bytes) 0 (omega arith) (λ k from upto. absurd (omega (arith, from, upto))) (λ some. not_space (AllPass-from_list_all
    {X = ℕ} (λ b. not
    (is_white_space b)) bytes none (length bytes - 1) 0 (omega (arith, some)))) in
    omega (arith, is)
  where
    not_space : {b : Bool} → not b ≡ true → b ≡ false
    not_space {b = true} is = absurd (false≢true is)
    not_space {b = false} is = refl

module _ (u : ℕ) (small : u < 2 ^ 64) where
  -- the word of a stamp
  stamp_unbroken : list_all (λ b. not (is_white_space b)) (35 ∷ decimal u) ≡ true
  stamp_unbroken = longer_unbroken 35 (decimal u) refl (unbroken_has_no_space (decimal u) (decimal_unbroken u small))

  stamp_texts : word_texts (words_of (35 ∷ decimal u)) ≡ (35 ∷ decimal u) ∷ []
  stamp_texts = texts_are (35 ∷ decimal u) ∙ joined_words ((35 ∷ decimal u) ∷ []) (one_word (35 ∷ decimal u)
      stamp_unbroken)

  stamp_tight : (prefix_len is_white_space (35 ∷ decimal u) ≡ 0) × (suffix_len is_white_space (35 ∷ decimal u) ≡ 0)
  stamp_tight = (refl, no_space_last (35 ∷ decimal u) stamp_unbroken)

-- ---- what holds of each piece

module _ (is_cut_out : ℕ → Bool) where
  abbrev as_stamp : Piece → ℕ → Piece
  as_stamp p u = record { item = stamp (decimal u); space = p.space; body = 35 ∷ decimal u }

  module _ (P : Piece → Type 0) (line : (u : ℕ) → u ≤ END_LIMIT → P (stamp_line u))
      (again : (p : Piece) (u : ℕ) → u ≤ END_LIMIT → P p → P (as_stamp p u)) where
    abbrev few : ℕ → Type 0
    few u = u ≤ END_LIMIT

    few_new : (u : ℕ) → few u → few (new_tick is_cut_out u)
    few_new u most = omega (arith, is_earlier is_cut_out u, most)

    all_released : (s : ParseState) (held : List Piece) → few s.tick → All P held → All P (released_pieces is_cut_out s
        held)
    all_released s [] most all = all
    all_released s (p ∷ ps) most all = by_test (is_cut_out s.tick)
      where
        by_test : (cut : Bool) → All P ((if cut then stamp_line (new_tick is_cut_out s.tick) ∷ [] else []) ++ p ∷ ps)
        by_test true = All-cons P (stamp_line (new_tick is_cut_out s.tick)) (p ∷ ps) (line (new_tick is_cut_out s.tick)
            (few_new s.tick most)) all
        by_test false = all

    all_placed : (p : Piece) (u : ℕ) → few u → P p → All P (pieces_in_place (retimed_stamp is_cut_out u) p)
    all_placed p u most is = by_tests (is_cut_out u) (new_tick is_cut_out u == u)
      where
        by_tests : (cut same : Bool) → All P (pieces_in_place (if cut then is_left_out else (if same then stands else
            is_exchanged (stamp (decimal (new_tick is_cut_out u))))) p)
        by_tests true same = All-nil P
        by_tests false true = All-cons P p [] is (All-nil P)
        by_tests false false = All-cons P (as_stamp p (new_tick is_cut_out u)) [] (again p (new_tick is_cut_out u)
            (few_new
            u most) is) (All-nil P)

    all_if : (b : Bool) (xs : List Piece) → All P xs → All P (if b then xs else [])
    all_if true xs all = all
    all_if false xs all = All-nil P

    all_held : (s : ParseState) (held : List Piece) (p : Piece) (k : ChangeKey) → P p → All P held
        → All P (held_with is_cut_out s held p (Some k))
    all_held s held p k is all = All-append P _ _ (All-filter (λ h. not (counts_with (has_kept_variable s) k (change_key
        h.item))) P held all) (all_if (is_cut_out s.tick && lasts s (code_of_key k)) (p ∷ []) (All-cons P p [] is
        (All-nil P)))

    all_retimed : (s : ParseState) (held ps : List Piece) → AllowsAll s (items_of ps) → few s.tick → All P held
        → All P ps → All P (retimed_pieces is_cut_out s held ps)
    unfolding retimed_pieces
    all_retimed s held [] allows most all_of_held all = all_released s held most all_of_held
    all_retimed s held (p ∷ ps) allows most all_of_held all = elim (kind_of p.item) [
      | is_stamp digits is ↦
          let later = stamp_ticks s digits (subst (λ (i : Item). Allows s i) is allows.0) in
          let tick : (state_after_item s p.item).tick ≡ number_of digits = ap (λ (i : Item). (state_after_item s
          i).tick) is
          in
          subst (All P) (sym (retimed_by_stamp is_cut_out s held p ps digits is)) (All-append P _ _ (All-append P _ _
          (all_if
          (is_past is_cut_out s (stamp digits)) (released_pieces is_cut_out s held) (all_released s held most
          all_of_held))
          (all_placed p (number_of digits) later.1 (All-head P p ps all))) (all_retimed (state_after_item s p.item) (if
          is_past is_cut_out s (stamp digits) then [] else held) ps allows.1 (omega (arith, later.1, tick)) (all_unless
          (is_past is_cut_out s (stamp digits)) held all_of_held) (All-tail P p ps all)))
      | is_change k change ↦
          let tick : (state_after_item s p.item).tick ≡ s.tick = ap (λ (x : ParseState). x.tick) (change.state s) in
          subst (All P) (sym (retimed_change is_cut_out s held p ps k change)) (All-append P _ _ (all_unless (is_cut_out
          s.tick) (p ∷ []) (All-cons P p [] (All-head P p ps all) (All-nil P))) (all_retimed (state_after_item s p.item)
          (held_with is_cut_out s held p (Some k)) ps allows.1 (omega (arith, most, tick)) (all_held s held p k
          (All-head P
          p ps all) all_of_held) (All-tail P p ps all)))
      | is_still still ↦ subst (All P) (sym (retimed_still is_cut_out s held p ps still)) (All-cons P p _ (All-head P p
          ps
          all) (all_retimed (state_after_item s p.item) held ps allows.1 (omega (arith, most, still.same_tick s))
          all_of_held
          (All-tail P p ps all)))
    ]
      where
        all_unless : (b : Bool) (xs : List Piece) → All P xs → All P (if b then [] else xs)
        all_unless true xs all = All-nil P
        all_unless false xs all = all

  -- the first piece stands, so those after it are apart
  apart_again : (limit : ℕ) (ps : List Piece) → AllowsAll (initial_state limit) (items_of ps)
      → All HasSomeSpace (drop 1 ps) → All HasSomeSpace (drop 1 (retimed_pieces is_cut_out (initial_state limit) [] ps))
  unfolding retimed_pieces
  apart_again limit [] allows some = All-nil HasSomeSpace
  apart_again limit (p ∷ ps) allows some = elim (kind_of p.item) [
    | is_stamp digits is ↦ absurd (false≢true (subst (λ (i : Item). Allows (initial_state limit) i) is allows.0).0)
    | is_change k change ↦ absurd (false≢true (change.in_body (initial_state limit) allows.0))
    | is_still still ↦ subst (λ (l : List Piece). All HasSomeSpace (drop 1 l)) (sym (retimed_still is_cut_out
        (initial_state limit) [] p ps still)) (all_retimed HasSomeSpace (λ u most. omega arith) (λ p u most is. is)
        (state_after_item (initial_state limit) p.item) [] ps allows.1 (omega (
          arith,
          still.same_tick (initial_state
              limit),
        )) (All-nil HasSomeSpace) some)
  ]

-- ---- the laws

module _ (is_cut_out : ℕ → Bool) (old_tick : ℕ → ℕ) (limit : ℕ) (file : List ℕ) (pieces : List Piece) (tail : List ℕ)
    (can : CanBeRetimed is_cut_out old_tick limit file pieces tail) where
  abbrev new_pieces : List Piece
  new_pieces = pieces_after is_cut_out limit pieces

  spelled_again : All SpellsItem new_pieces
  spelled_again = all_retimed is_cut_out SpellsItem (λ u most. stamp_texts u (omega (arith, most))) (λ p u most is.
      stamp_texts u (omega (arith, most))) (initial_state limit) [] pieces can.allowed (omega arith) (All-nil
      SpellsItem)
      can.cut.spelled

  spaces_again : All HasSpace new_pieces
  spaces_again = all_retimed is_cut_out HasSpace (λ u most. refl) (λ p u most is. is) (initial_state limit) [] pieces
      can.allowed (omega arith) (All-nil HasSpace) can.cut.spaces

  tight_again : All IsTight new_pieces
  tight_again = all_retimed is_cut_out IsTight (λ u most. stamp_tight u (omega (arith, most))) (λ p u most is.
      stamp_tight u (omega (arith, most))) (initial_state limit) [] pieces can.allowed (omega arith) (All-nil IsTight)
      can.cut.tight

  means_again : MeansRetimed is_cut_out old_tick limit (state_of_pieces limit pieces) new_pieces tail
  means_again = record {
    cut = record {
      whole = refl;
      spelled = spelled_again;
      tight = tight_again;
      spaces = spaces_again;
      apart = apart_again is_cut_out limit pieces can.allowed can.cut.apart;
      end = can.cut.end;
    };
    allowed = allowed_again is_cut_out old_tick limit file pieces tail can;
    in_body = ap (λ (s : ParseState). s.in_body) (state_is is_cut_out old_tick limit file pieces tail can) ∙
        can.in_body;
    means = means_retimed is_cut_out old_tick limit file pieces tail can;
    left_out = ap (λ (s : ParseState). count_by is_skipped s.declared) (state_is is_cut_out old_tick limit file pieces
        tail
        can);
  }

pub retimed_is_meant : RetimedFileMeansRetimedCapture
retimed_is_meant is_cut_out old_tick limit file pieces tail can =
    means_again is_cut_out old_tick limit file pieces tail can

-- ---- its bytes

pub retimed_text_is_meant : RetimedTextMeansRetimedCapture
retimed_text_is_meant is_cut_out old_tick limit file pieces tail can =
    let again : List Piece = pieces_after is_cut_out limit pieces in
    let means = means_again is_cut_out old_tick limit file pieces tail can in
    record {
      state = state_of_pieces limit again;
      accepted = record {
        items = items_of again;
        spelled = cut_spells_items (bytes_of again tail) again tail means.cut;
        allowed = means.allowed;
        state_is = refl;
        definitions_ended = means.in_body;
      };
      means = sym means.means;
      left_out = sym means.left_out;
    }

-- ==== what is neither a stamp nor a change

abbrev others : List Piece → List Piece
others ps = filter (λ p. is_neither p.item) ps

-- what is held is none of them
none_held : (held : List Piece) → All IsHeld held → others held ≡ []
none_held [] all = refl
none_held (p ∷ ps) all =
    let change = change_of_key p.item (All-head IsHeld p ps all) in
    rw (change.1.neither) (none_held ps (All-tail IsHeld p ps all))

module _ (is_cut_out : ℕ → Bool) where
  none_released : (s : ParseState) (held : List Piece) → All IsHeld held → others (released_pieces is_cut_out s held) ≡
      []
  none_released s [] all = refl
  none_released s (p ∷ ps) all = by_test (is_cut_out s.tick)
    where
      by_test : (cut : Bool)
          → others ((if cut then stamp_line (new_tick is_cut_out s.tick) ∷ [] else []) ++ p ∷ ps) ≡ []
      by_test true = none_held (p ∷ ps) all
      by_test false = none_held (p ∷ ps) all

  none_placed : (p : Piece) (digits : List ℕ) → p.item ≡ stamp digits
      → others (pieces_in_place (retimed_stamp is_cut_out (number_of digits)) p) ≡ []
  none_placed p digits is = by_tests (is_cut_out (number_of digits)) (new_tick is_cut_out (number_of digits) ==
      number_of
      digits)
    where
      by_tests : (cut same : Bool) → others (pieces_in_place (if cut then is_left_out else (if same then stands else
          is_exchanged (stamp (decimal (new_tick is_cut_out (number_of digits)))))) p) ≡ []
      by_tests true same = refl
      by_tests false true = rw is refl
      by_tests false false = refl

  stand : (s : ParseState) (held ps : List Piece) → All IsHeld held → others (retimed_pieces is_cut_out s held ps) ≡
      others ps
  unfolding retimed_pieces
  stand s held [] all = none_released s held all
  stand s held (p ∷ ps) all = elim (kind_of p.item) [
    | is_stamp digits is ↦
        let past : Bool = is_past is_cut_out s (stamp digits) in
        let put : List Piece = if past then released_pieces is_cut_out s held else [] in
        let placed : List Piece = pieces_in_place (retimed_stamp is_cut_out (number_of digits)) p in
        let rest : List Piece = retimed_pieces is_cut_out (state_after_item s p.item) (if past then [] else held) ps in
        let none_put : others put ≡ [] = put_none past in
        let neither : is_neither p.item ≡ false = ap is_neither is in
        ap others (retimed_by_stamp is_cut_out s held p ps digits is) ∙ filter-append (λ (p : Piece). is_neither p.item)
        (put ++ placed) rest ∙ ap (λ (l : List Piece). l ++ others rest) (filter-append (λ (p : Piece). is_neither
        p.item)
        put placed ∙ ap (λ (l : List Piece). l ++ others placed) none_put ∙ none_placed p digits is) ∙ stand
        (state_after_item s p.item) (if past then [] else held) ps (all_after past) ∙ sym (rw neither refl)
    | is_change k change ↦
        let rest : List Piece = retimed_pieces is_cut_out (state_after_item s p.item) (held_with is_cut_out s held p
        (Some k))
        ps
        in
        ap others (retimed_change is_cut_out s held p ps k change) ∙ filter-append (λ (p : Piece). is_neither p.item)
        (if
        is_cut_out s.tick then [] else p ∷ []) rest ∙ ap (λ (l : List Piece). l ++ others rest) (one_none (is_cut_out
        s.tick) change.neither) ∙ stand (state_after_item s p.item) (held_with is_cut_out s held p (Some k)) ps
        (held_change
        is_cut_out s held p k change all) ∙ sym (rw (change.neither) refl)
    | is_still still ↦ ap others (retimed_still is_cut_out s held p ps still) ∙ rw (still.neither) (ap (λ (l : List
        Piece).
        p ∷ l) (stand (state_after_item s p.item) held ps all))
  ]
    where
      put_none : (past : Bool) → others (if past then released_pieces is_cut_out s held else []) ≡ []
      put_none true = none_released s held all
      put_none false = refl

      all_after : (past : Bool) → All IsHeld (if past then [] else held)
      all_after true = All-nil IsHeld
      all_after false = all

      one_none : (cut : Bool) → is_neither p.item ≡ false → others (if cut then [] else p ∷ []) ≡ []
      one_none true neither = refl
      one_none false neither = rw neither refl

pub other_pieces_stand : (is_cut_out : ℕ → Bool) (limit : ℕ) (pieces : List Piece)
    → others (pieces_after is_cut_out limit pieces) ≡ others pieces
other_pieces_stand is_cut_out limit pieces = stand is_cut_out (initial_state limit) [] pieces (All-nil IsHeld)
