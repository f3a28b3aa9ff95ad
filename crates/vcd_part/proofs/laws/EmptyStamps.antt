-- Pieces without their empty stamps: what holds of each piece still does, and they lead to the same state.
use Rattle.std.proofs.Common.{◌≡◌, ◌≤◌, ℕ, ◌&&◌, Bool, true, false, List, [], ◌∷◌, drop, All, arith}
use Rattle.std.proofs.Common.{if◌then◌else◌, refl, sym, subst}
use Rattle.std.proofs.lemmas.Bool.{and_parts, false≢true}
use Rattle.std.proofs.lemmas.List.Elements.{All-nil, All-cons, All-head, All-tail, All-drop}
use Rattle.vcd_core.specs.Decimal.{number_of}
use Rattle.vcd_text.specs.Items.{Item, stamp}
use Rattle.vcd_text.specs.Grammar.{ParseState, state_after_item}
use Rattle.vcd_copy.specs.Pieces.{Piece}
use Rattle.vcd_copy.specs.Copied.{piece_items}
use Rattle.vcd_text.proofs.shared.ItemTests.{has_tick, allows_stamp}
use Rattle.vcd_text.proofs.shared.ItemsInTurn.{Reaches, reaches_first}
use Rattle.vcd_part.specs.PartPieces.{is_stamp, is_later_stamp, begins_with_stamp, without_empty_stamps}
use Rattle.vcd_part.proofs.shared.StampItems.{later_is_stamp, stamp_digits}

-- ---- what holds of each piece

module _ (P : Piece → Type 0) where
  pub all_without : (ps : List Piece) → All P ps → All P (without_empty_stamps ps)
  unfolding without_empty_stamps
  all_without [] all = All-nil P
  all_without (p ∷ ps) all = by_test (is_later_stamp p.item && begins_with_stamp ps)
      (all_without ps (All-tail P p ps all))
    where
      by_test : (b : Bool) → All P (without_empty_stamps ps)
          → All P (if b then without_empty_stamps ps else p ∷ without_empty_stamps ps)
      by_test true rest = rest
      by_test false rest = All-cons P p (without_empty_stamps ps) (All-head P p ps all) rest

  -- the same of each piece but the first
  pub later_without : (ps : List Piece) → All P (drop 1 ps) → All P (drop 1 (without_empty_stamps ps))
  unfolding without_empty_stamps
  later_without [] all = All-nil P
  later_without (p ∷ ps) all = by_test (is_later_stamp p.item && begins_with_stamp ps) (all_without ps all)
    where
      by_test : (b : Bool) → All P (without_empty_stamps ps)
          → All P (drop 1 (if b then without_empty_stamps ps else p ∷ without_empty_stamps ps))
      by_test true rest = All-drop P 1 (without_empty_stamps ps) rest
      by_test false rest = rest

-- ---- the state to which they lead

-- a stamp before another one has no effect but on what may follow it
without_first : (c d : ParseState) (i j : Item) (is : List Item) → is_stamp i ≡ true → is_stamp j ≡ true
    → Reaches c (i ∷ j ∷ is) d → Reaches c (j ∷ is) d
without_first c d i j is i_is j_is leads =
    let (a, a_is) = stamp_digits i i_is in
    let (b, b_is) = stamp_digits j j_is in
    let both : Reaches c (stamp a ∷ stamp b ∷ is) d = subst (λ (i : Item). Reaches c (i ∷ stamp b ∷ is) d) a_is
    (subst (λ (j : Item). Reaches c (i ∷ j ∷ is) d) b_is leads) in
    subst (λ (j : Item). Reaches c (j ∷ is) d) (sym b_is) (go a b both)
  where
    go : (a b : List ℕ) → Reaches c (stamp a ∷ stamp b ∷ is) d → Reaches c (stamp b ∷ is) d
    go a b leads =
        let first : c.tick ≤ number_of a = (has_tick c a leads.allowed.0).1 in
        let next = has_tick (state_after_item c (stamp a)) b leads.allowed.1.0 in
        let later : number_of a ≤ number_of b = next.1 in
        record {
          allowed = (allows_stamp c b leads.allowed.0.0 next.0 (omega arith), leads.allowed.1.1);
          state_is = leads.state_is;
        }

pub reaches_without : (c d : ParseState) (ps : List Piece) → Reaches c (piece_items ps) d
    → Reaches c (piece_items (without_empty_stamps ps)) d
unfolding without_empty_stamps
reaches_without c d [] leads = leads
reaches_without c d (p ∷ ps) leads = by_test (is_later_stamp p.item && begins_with_stamp ps) refl
    (λ c leads. reaches_without c d ps leads)
  where
    goes : (qs : List Piece) → Reaches c (p.item ∷ piece_items qs) d → is_later_stamp p.item ≡ true
        → begins_with_stamp qs ≡ true → Reaches c (piece_items qs) d
    goes [] leads later never = absurd (false≢true never)
    goes (q ∷ qs) leads later next =
        without_first c d p.item q.item (piece_items qs) (later_is_stamp p.item later) next leads

    by_test : (b : Bool) → (is_later_stamp p.item && begins_with_stamp ps) ≡ b
        → ((c : ParseState) → Reaches c (piece_items ps) d → Reaches c (piece_items (without_empty_stamps ps)) d)
        → Reaches c (piece_items (if b then without_empty_stamps ps else p ∷ without_empty_stamps ps)) d
    by_test true empty rest =
        let (later, next) = and_parts (is_later_stamp p.item) (begins_with_stamp ps) empty in
        rest c (goes ps leads later next)
    by_test false stands rest = reaches_first c d p.item (piece_items (without_empty_stamps ps)) leads.allowed.0
        (rest (state_after_item c p.item)
        (record { allowed = leads.allowed.1; state_is = leads.state_is }))
