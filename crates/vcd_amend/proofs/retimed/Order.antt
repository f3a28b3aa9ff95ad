-- The changes of a retimed file at one new tick, in their order.
use Rattle.std.proofs.Common.{◌≡◌, ℕ, ◌<◌, ◌≤◌, ◌∙◌, ◌==◌, Bool, true, false, not, List, [], ◌∷◌, ◌++◌, refl, ap, sym}
use Rattle.std.proofs.Common.{arith, if◌then◌else◌, inl, inr, ◌&&◌, Option, Some, None, IsTrue, subst, append_assoc}
use Rattle.std.proofs.Common.{decimal, All}
use Rattle.std.specs.Prelude.{bytes_eq, codes}
use Rattle.std.specs.List.{filter, list_any}
use Rattle.std.proofs.lemmas.Bool.{cases_Bool, cases_lt, false≢true, ltb-true, ltb-false, eqb-true}
use Rattle.std.proofs.lemmas.List.{append-nil}
use Rattle.std.proofs.lemmas.List.Elements.{All-nil, All-cons, All-head, All-tail, All-append, All-filter}
use Rattle.std.proofs.Math.Bool.{and-false}
use Rattle.vcd_core.specs.Decimal.{number_of, is_number}
use Rattle.vcd_core.specs.declared.capture.TheConstants.{END_LIMIT}
use Rattle.vcd_text.specs.Items.{Item, stamp}
use Rattle.vcd_text.specs.Grammar.{ParseState, VariableDeclaration, Allows, AllowsAll, state_after_item, state_after}
use Rattle.vcd_text.specs.Grammar.{initial_state}
use Rattle.vcd_copy.specs.Pieces.{Piece, state_of_pieces}
use Rattle.vcd_amend.specs.Retimed.{new_tick, AreOldTicks, ChangeKey, change_key, counts_with, code_of_key, lasts}
use Rattle.vcd_amend.specs.Retimed.{held_with, is_past, released_pieces, retimed_stamp, pieces_in_place}
use Rattle.vcd_copy.specs.Pieces.{stamp_line}
use Rattle.vcd_amend.specs.Retimed.{retimed_pieces, has_kept_variable}
use Rattle.vcd_amend.specs.RetimedLaws.{changes_at_ticks, last_ones, lasts_with}
use Rattle.vcd_text.proofs.read_back.Decimals.{number_of-decimal}
use Rattle.vcd_amend.proofs.retimed.Ticks.{rises, rises_past, old_of_new, items_of, IsTickAfter, small}
use Rattle.vcd_amend.proofs.retimed.Ticks.{stamp_ticks, placed}
use Rattle.vcd_amend.proofs.retimed.Kinds.{IsChange, IsStill, kind_of, is_stamp, is_change, is_still, code_together}
use Rattle.vcd_amend.proofs.retimed.Kinds.{declared_stays, kept_same, retimed_still, retimed_change, retimed_by_stamp}
use Rattle.vcd_amend.proofs.retimed.LastChanges.{IsHeld, held_change}
use Rattle.vcd_amend.proofs.retimed.Ticks.{same_when_left, not_when_cut}
use Rattle.vcd_amend.proofs.retimed.ChangesAtTicks.{without, held_last, stands_last, AreApart, all_last, still_apart}
use Rattle.vcd_amend.proofs.retimed.ChangesAtTicks.{with_it_apart, at_still, at_change, at_stamp, changes_written}
use Rattle.vcd_amend.proofs.retimed.ChangesAtTicks.{none_from}

module _ (is_cut_out : ℕ → Bool) (old_tick : ℕ → ℕ) (old : AreOldTicks is_cut_out old_tick) (t : ℕ)
    (final : ParseState) where
  abbrev is_kept : List ℕ → Bool
  is_kept = has_kept_variable final

  abbrev ours : ℕ → Bool
  ours u = u == t

  abbrev theirs : ℕ → Bool
  theirs u = u == old_tick t

  abbrev before : ℕ → Bool
  before u = is_cut_out u && (new_tick is_cut_out u == t)

  abbrev lasting : Piece → Bool
  lasting p = lasts_with final (change_key p.item)

  abbrev Lasts : Piece → Type 0
  Lasts p = lasting p ≡ true

  -- what is held for the new tick
  abbrev mine : ℕ → List Piece → List Piece
  mine u held = if new_tick is_cut_out u == t then held else []

  abbrev no_pieces : List Piece
  no_pieces = []

  none_mine : (u : ℕ) → mine u [] ≡ []
  none_mine u = by_test (new_tick is_cut_out u == t)
    where
      by_test : (b : Bool) → (if b then no_pieces else no_pieces) ≡ no_pieces
      by_test true = refl
      by_test false = refl

  -- the changes at the new tick, if these come at its old tick, and these at ticks that are cut out
  abbrev both : List Piece → List Piece → List Piece → List Piece
  both waiting here cut = here ++ last_ones is_kept (waiting ++ filter lasting cut) here

  abbrev here : ParseState → List Piece → List Piece
  here s ps = changes_at_ticks theirs s.tick ps

  abbrev cut : ParseState → List Piece → List Piece
  cut s ps = changes_at_ticks before s.tick ps

  record Waits (u n : ℕ) (held : List Piece) : Type 0 where
    pub is : IsTickAfter is_cut_out u n
    pub all : All IsHeld held
    pub last : All Lasts held
    pub apart : AreApart is_kept held

  abbrev Goal : ParseState → List Piece → ℕ → List Piece → Type 0
  Goal s held n ps =
      changes_at_ticks ours n (retimed_pieces is_cut_out s held ps) ≡ both (mine s.tick held) (here s ps) (cut s ps)

  -- what is written of the held changes
  record Written (s : ParseState) (n : ℕ) (held rest : List Piece) : Type 0 where
    pub tick : ℕ
    pub is : IsTickAfter is_cut_out s.tick tick
    pub changes : changes_at_ticks ours n (released_pieces is_cut_out s held ++ rest) ≡ mine s.tick held ++
        changes_at_ticks
        ours tick rest

  written : (s : ParseState) (n : ℕ) (held rest : List Piece) → IsTickAfter is_cut_out s.tick n → All IsHeld held
      → Written s n held rest
  written s n [] rest is all = record {
    tick = n;
    is = is;
    changes = ap (λ (l : List Piece). l ++ changes_at_ticks ours n rest) (sym (none_mine s.tick));
  }
  written s n (h ∷ hs) rest is all = by_test (is_cut_out s.tick) refl
    where
      by_test : (cut : Bool) → is_cut_out s.tick ≡ cut → Written s n (h ∷ hs) rest
      by_test true cut = record {
        tick = new_tick is_cut_out s.tick;
        is = record { upto = omega arith; here = λ _. refl; most = is.most };
        changes = rw cut (at_stamp ours n (stamp_line (new_tick is_cut_out s.tick)) ((h ∷ hs) ++ rest) (decimal
            (new_tick
            is_cut_out s.tick)) refl ∙ ap (λ (m : ℕ). changes_at_ticks ours m ((h ∷ hs) ++ rest)) (number_of-decimal
            (new_tick
            is_cut_out s.tick) (small is_cut_out s.tick is.most)) ∙ changes_written ours (new_tick is_cut_out s.tick) (h
            ∷
            hs) rest all);
      }
      by_test false left = record {
        tick = n;
        is = is;
        changes = rw left (changes_written ours n (h ∷ hs) rest all ∙ ap (λ (m : ℕ). (if m == t then h ∷ hs else [])
            ++ changes_at_ticks ours n rest) (is.here left));
      }

  -- ---- one piece

  -- what lasts has other keys than what does not
  keeps_lasting : (p : Piece) (k : ChangeKey) (is : change_key p.item ≡ Some k) → lasts final (code_of_key k) ≡ false
      → (held : List Piece) → All Lasts held → without is_kept p k is held ≡ held
  keeps_lasting p k is not_k [] last = refl
  keeps_lasting p k is not_k (h ∷ hs) last = elim (cases_Bool (counts_with is_kept k (change_key h.item))) [
    | inl has ↦ absurd (false≢true (sym (by_option (change_key h.item) has) ∙ All-head Lasts h hs last))
    | inr none ↦ rw none (ap (λ (l : List Piece). h ∷ l) (keeps_lasting p k is not_k hs (All-tail Lasts h hs last)))
  ]
    where
      by_option : (o : Option ChangeKey) → counts_with is_kept k o ≡ true → lasts_with final o ≡ false
      by_option None has = absurd (false≢true has)
      by_option (Some key) has = ap (lasts final) (sym (code_together is_kept k key has)) ∙ not_k

  module _ (s : ParseState) (held : List Piece) (n : ℕ) (p : Piece) (ps : List Piece)
      (allows : AllowsAll s (items_of (p ∷ ps))) (w : Waits s.tick n held)
      (next : (held : List Piece) (n : ℕ) → Waits (state_after_item s p.item).tick n held
      → Goal (state_after_item s p.item) held n ps) where
    abbrev after : ParseState
    after = state_after_item s p.item

    still_goes : IsStill p.item → Goal s held n (p ∷ ps)
    still_goes still =
        let rest : List Piece = retimed_pieces is_cut_out after held ps in
        ap (λ (l : List Piece). changes_at_ticks ours n l) (retimed_still is_cut_out s held p ps still) ∙ at_still ours
        n p
        rest
        still ∙ next held n (subst (λ (u : ℕ). Waits u n held) (sym (still.same_tick s)) w) ∙ ap (λ (u : ℕ). both (mine
        u
        held) (changes_at_ticks theirs u ps) (changes_at_ticks before u ps)) (still.same_tick s) ∙ ap (λ (l : List
        Piece). both
        (mine
        s.tick held) l (changes_at_ticks before s.tick ps)) (sym (at_still theirs s.tick p ps still)) ∙ ap (λ (l : List
        Piece).
        both (mine s.tick held) (here s (p ∷ ps)) l) (sym (at_still before s.tick p ps still))

    module _ (k : ChangeKey) (change : IsChange p.item k) (kept : has_kept_variable s ≡ is_kept)
        (same_lasts : lasts s (code_of_key k) ≡ lasts final (code_of_key k)) where
      tick : after.tick ≡ s.tick
      tick = ap (λ (x : ParseState). x.tick) (change.state s)

      abbrev few : List Piece
      few = without is_kept p k change.is held

      abbrev held_after : List Piece
      held_after = few ++ (if is_cut_out s.tick && lasts s (code_of_key k) then p ∷ [] else [])

      held_are : held_with is_cut_out s held p (Some k) ≡ held_after
      held_are = ap (λ (test : List ℕ → Bool). filter (λ h. not (counts_with test k (change_key h.item))) held
          ++ (if is_cut_out s.tick && lasts s (code_of_key k) then p ∷ [] else [])) kept

      it_lasts : lasting p ≡ lasts final (code_of_key k)
      it_lasts = ap (lasts_with final) change.is

      waits_after : Waits s.tick n held_after
      waits_after = record {
        is = w.is;
        all = subst (All IsHeld) held_are (held_change is_cut_out s held p k change w.all);
        last = All-append Lasts few _ (All-filter (λ h. not (counts_with is_kept k (change_key h.item))) Lasts held
            w.last) (last_if (is_cut_out s.tick) (lasts s (code_of_key k)) refl);
        apart = apart_if (is_cut_out s.tick && lasts s (code_of_key k));
      }
        where
          last_if : (b last : Bool) → lasts s (code_of_key k) ≡ last → All Lasts (if b && last then p ∷ [] else [])
          last_if true true is = All-cons Lasts p [] (it_lasts ∙ sym same_lasts ∙ is) (All-nil Lasts)
          last_if true false is = All-nil Lasts
          last_if false last is = All-nil Lasts

          apart_if : (b : Bool) → AreApart is_kept (without is_kept p k change.is held ++ (if b then p ∷ [] else []))
          apart_if true = with_it_apart is_kept p k change.is held w.apart
          apart_if false = subst (AreApart is_kept) (sym (append-nil (without is_kept p k change.is held))) (still_apart
              is_kept p k change.is held
              w.apart)

      -- what comes after the change
      abbrev rest : List Piece
      rest = retimed_pieces is_cut_out after held_after ps

      change_is : retimed_pieces is_cut_out s held (p ∷ ps) ≡ (if is_cut_out s.tick then [] else p ∷ []) ++ rest
      change_is = retimed_change is_cut_out s held p ps k change ∙ ap (λ (l : List Piece). (if is_cut_out s.tick then []
          else p ∷ []) ++ retimed_pieces is_cut_out after l ps) held_are

      abbrev here_later : List Piece
      here_later = changes_at_ticks theirs s.tick ps

      abbrev cut_later : List Piece
      cut_later = changes_at_ticks before s.tick ps

      rest_is : changes_at_ticks ours n rest ≡ both (mine s.tick held_after) here_later cut_later
      rest_is = next held_after n (subst (λ (u : ℕ). Waits u n held_after) (sym tick) waits_after) ∙ ap (λ (u : ℕ). both
          (mine u held_after) (changes_at_ticks theirs u ps) (changes_at_ticks before u ps)) tick

      their_side : both (mine s.tick held) ((if theirs s.tick then p ∷ [] else []) ++ here_later) ((if before s.tick
          then
          p ∷ [] else []) ++ cut_later) ≡ both (mine s.tick held) (here s (p ∷ ps)) (cut s (p ∷ ps))
      their_side = ap (λ (l : List Piece). both (mine s.tick held) l ((if before s.tick then p ∷ [] else []) ++
          cut_later))
          (sym (at_change theirs s.tick p ps k change)) ∙ ap (λ (l : List Piece). both (mine s.tick held) (here s (p ∷
          ps))
          l) (sym (at_change before s.tick p ps k change))

      abbrev it_if : Bool → List Piece
      it_if b = if b then p ∷ [] else []

      abbrev at_t : Bool
      at_t = new_tick is_cut_out s.tick == t

      -- the change is held, or does not last
      cut_case : (now last : Bool) → lasting p ≡ last → lasts final (code_of_key k) ≡ last
          → both (if now then few ++ it_if last else []) here_later cut_later
          ≡ both (if now then held else []) here_later (it_if now ++ cut_later)
      cut_case false last is code_is = refl
      cut_case true true is code_is =
          let rest_last : List Piece = filter lasting cut_later in
          let with_it : filter lasting (p ∷ cut_later) ≡ p ∷ rest_last = rw is refl in
          ap (λ (l : List Piece). here_later ++ l) (ap (λ (l : List Piece). last_ones is_kept l here_later)
          (append_assoc few (p
          ∷
          []) rest_last) ∙ sym (held_last is_kept p k change.is held rest_last here_later)
          ∙ ap (λ (l : List Piece). last_ones is_kept (held
          ++ l) here_later) (sym with_it))
      cut_case true false is code_is =
          let rest_last : List Piece = filter lasting cut_later in
          let without_it : filter lasting (p ∷ cut_later) ≡ rest_last = rw is refl in
          ap (λ (l : List Piece). here_later ++ l) (ap (λ (l : List Piece). last_ones is_kept (l ++ rest_last)
          here_later)
          (append-nil few ∙ keeps_lasting p k change.is code_is held w.last) ∙ ap (λ (l : List Piece). last_ones is_kept
          (held ++ l)
          here_later) (sym without_it))

      cut_goes : is_cut_out s.tick ≡ true → Goal s held n (p ∷ ps)
      cut_goes is_cut =
          let held_is : (is_cut_out s.tick && lasts s (code_of_key k)) ≡ lasts final (code_of_key k) = rw is_cut
          same_lasts
          in
          let now : before s.tick ≡ at_t = rw is_cut refl in
          ap (λ (l : List Piece). changes_at_ticks ours n l) (change_is ∙ rw is_cut
          refl)
          ∙ rest_is ∙ ap (λ (b : Bool). both (if at_t then few ++ it_if b else []) here_later cut_later) held_is ∙
          cut_case
          at_t (lasts final (code_of_key k)) it_lasts refl ∙ ap (λ (b : Bool). both (mine s.tick held) (it_if b ++
          here_later) (it_if at_t ++ cut_later)) (sym (not_when_cut is_cut_out old_tick old t s.tick is_cut)) ∙ ap (λ (b
          :
          Bool). both (mine s.tick held) (it_if (theirs s.tick) ++ here_later) (it_if b ++ cut_later)) (sym now)
          ∙ their_side

      -- the change stands
      left_case : (now : Bool) → (now ≡ true → cut_later ≡ [])
          → it_if now ++ both (if now then few else []) here_later cut_later
          ≡ both (if now then held else []) (it_if now ++ here_later) cut_later
      left_case false none = refl
      left_case true none =
          let no_last : filter lasting cut_later ≡ [] = ap (filter lasting) (none refl) in
          ap (λ (l : List Piece). p ∷ (here_later ++ l)) (ap (λ (l : List Piece). last_ones is_kept (few ++ l)
          here_later)
          no_last
          ∙ ap (λ (l : List Piece). last_ones is_kept l here_later) (append-nil few)
          ∙ sym (stands_last is_kept p k change.is held here_later) ∙ ap (λ (l : List Piece). last_ones is_kept l (p ∷
          here_later)) (sym (append-nil held)) ∙ ap (λ (l : List Piece). last_ones is_kept (held ++ l) (p ∷ here_later))
          (sym no_last))

      none_cut : is_cut_out s.tick ≡ false → at_t ≡ true → cut_later ≡ []
      none_cut left now = ap (λ (u : ℕ). changes_at_ticks before u ps) (sym tick) ∙ none_from before after ps allows.1
          (λ v
          from.
          by_tests v (omega (arith, from, tick)) (new_tick is_cut_out v == t) refl)
        where
          by_tests : (v : ℕ) → s.tick ≤ v → (same : Bool) → (new_tick is_cut_out v == t) ≡ same
              → (is_cut_out v && same) ≡ false
          by_tests v from false other = and-false (is_cut_out v)
          by_tests v from true same = elim (cases_lt s.tick v) [
            | inl past ↦ absurd (omega (
              arith,
              eqb-true (new_tick is_cut_out v) t same,
              eqb-true (new_tick is_cut_out
                  s.tick) t now,
              rises_past is_cut_out s.tick v left past,
            ))
            | inr upto ↦
                let it : v ≡ s.tick = omega (arith, from, upto) in
                ap (λ (u : ℕ). is_cut_out u && true) it ∙ rw left refl
          ]

      left_goes : is_cut_out s.tick ≡ false → Goal s held n (p ∷ ps)
      left_goes left =
          let held_is : held_after ≡ few = rw left (append-nil few) in
          let not_cut : before s.tick ≡ false = rw left refl in
          ap (λ (l : List Piece). changes_at_ticks ours n l) (change_is ∙ rw left
          refl)
          ∙ at_change ours n p rest k change ∙ ap (λ (l : List Piece). it_if (ours n) ++ l) rest_is ∙ ap (λ (m : ℕ).
          it_if
          (m == t) ++ both (mine s.tick held_after) here_later cut_later) (w.is.here left) ∙ ap (λ (l : List Piece).
          it_if
          at_t ++ both (mine s.tick l) here_later cut_later) held_is ∙ left_case at_t (none_cut left) ∙ ap (λ (b :
          Bool).
          both (mine s.tick held) (it_if b ++ here_later) cut_later) (same_when_left is_cut_out old_tick old t s.tick
          left)
          ∙ ap (λ (b : Bool). both (mine s.tick held) (it_if (theirs s.tick) ++ here_later) (it_if b ++ cut_later)) (sym
          not_cut) ∙ their_side

      change_goes : Goal s held n (p ∷ ps)
      change_goes = elim (cases_Bool (is_cut_out s.tick)) [
        | inl is_cut ↦ cut_goes is_cut
        | inr left ↦ left_goes left
      ]

    module _ (digits : List ℕ) (is : p.item ≡ stamp digits) where
      later : IsTrue (is_number digits) × (number_of digits ≤ END_LIMIT) × (s.tick ≤ number_of digits)
      later = stamp_ticks s digits (subst (λ (i : Item). Allows s i) is allows.0)

      tick_is : after.tick ≡ number_of digits
      tick_is = ap (λ (i : Item). (state_after_item s i).tick) is

      abbrev in_it : List Piece
      in_it = pieces_in_place (retimed_stamp is_cut_out (number_of digits)) p

      abbrev here_then : List Piece
      here_then = changes_at_ticks theirs (number_of digits) ps

      abbrev cut_then : List Piece
      cut_then = changes_at_ticks before (number_of digits) ps

      stamp_side : (waiting : List Piece) → both waiting here_then cut_then ≡ both waiting (here s (p ∷ ps)) (cut s (p ∷
          ps))
      stamp_side waiting = ap (λ (l : List Piece). both waiting l cut_then) (sym (at_stamp theirs s.tick p ps digits
          is)) ∙
          ap (λ (l : List Piece). both waiting (here s (p ∷ ps)) l) (sym (at_stamp before s.tick p ps digits is))

      -- from the stamp on
      from_stamp : (waiting : List Piece) (m : ℕ) → m ≤ new_tick is_cut_out (number_of digits) → All IsHeld waiting
          → All Lasts waiting → AreApart is_kept waiting
          → changes_at_ticks ours m (in_it ++ retimed_pieces is_cut_out after waiting ps)
          ≡ both (mine (number_of digits) waiting) here_then cut_then
      from_stamp waiting m upto all last apart =
          let rest : List Piece = retimed_pieces is_cut_out after waiting ps in
          let place = placed (λ (n : ℕ) (l : List Piece). changes_at_ticks ours n l) (at_stamp ours) is_cut_out p digits
          m
          rest is
          later.1 upto in
          let waits : Waits (number_of digits) place.tick waiting = record {
            is = place.is;
            all = all;
            last = last;
            apart = apart;
          } in
          place.last ∙ next waiting place.tick (subst (λ (u : ℕ). Waits u place.tick waiting) (sym tick_is) waits) ∙ ap
          (λ
          (u : ℕ). both (mine u waiting) (changes_at_ticks theirs u ps) (changes_at_ticks before u ps)) tick_is

      past_case : (now : Bool) (h c : List Piece) → (now ≡ true → (h ≡ []) × (c ≡ []))
          → (if now then held else []) ++ both [] h c ≡ both (if now then held else []) h c
      unfolding last_ones
      past_case false h c none = refl
      past_case true h c none =
          let whole : held ++ [] ≡ last_ones is_kept (held ++ []) [] = append-nil held
          ∙ sym (ap (λ (l : List Piece). last_ones is_kept
          l
          []) (append-nil held) ∙ all_last is_kept held w.apart) in
          subst (λ (h : List Piece). held ++ both [] h c ≡ both held h c) (sym (none refl).0) (subst (λ (c : List
          Piece).
          held ++ both [] [] c ≡ both held [] c) (sym (none refl).1) whole)

      stamp_goes : (past : Bool) → is_past is_cut_out s (stamp digits) ≡ past → Goal s held n (p ∷ ps)
      stamp_goes true past =
          let above : new_tick is_cut_out s.tick < new_tick is_cut_out (number_of digits) = ltb-true (new_tick
          is_cut_out
          s.tick) (new_tick is_cut_out (number_of digits)) past in
          let rest : List Piece = retimed_pieces is_cut_out after [] ps in
          let out = written s n held (in_it ++ rest) w.is w.all in
          let none : (new_tick is_cut_out s.tick == t) ≡ true → (here_then ≡ []) × (cut_then ≡ []) = λ now. (
            none_then
                theirs (λ v from. not_there v (eqb-true (new_tick is_cut_out s.tick) t now) above from),
            none_then before (λ v
                from. not_before v (eqb-true (new_tick is_cut_out s.tick) t now) above from),
          ) in
          ap (λ (l : List Piece). changes_at_ticks ours n l) (retimed_by_stamp is_cut_out s held p ps digits is ∙ rw
          past
          (append_assoc (released_pieces is_cut_out s held) in_it rest)) ∙ out.changes ∙ ap (λ (l : List Piece). mine
          s.tick
          held
          ++ l) (from_stamp [] out.tick (omega (arith, out.is.upto, above)) (All-nil IsHeld) (All-nil Lasts) tt) ∙ ap (λ
          (l :
          List Piece). mine s.tick held ++ both l here_then cut_then) (none_mine (number_of digits)) ∙ past_case
          (new_tick
          is_cut_out s.tick == t) here_then cut_then none ∙ stamp_side (mine s.tick held)
        where
          none_then : (is_at : ℕ → Bool) → ((v : ℕ) → number_of digits ≤ v → is_at v ≡ false)
              → changes_at_ticks is_at (number_of digits) ps ≡ []
          none_then is_at never = ap (λ (u : ℕ). changes_at_ticks is_at u ps) (sym tick_is) ∙ none_from is_at after ps
              allows.1
              (λ v
              from. never v (omega (arith, from, tick_is)))

          not_there : (v : ℕ) → new_tick is_cut_out s.tick ≡ t
              → new_tick is_cut_out s.tick < new_tick is_cut_out (number_of digits) → number_of digits ≤ v
              → theirs v ≡ false
          not_there v now above from = elim (cases_Bool (theirs v)) [
            | inl same ↦
                let it : new_tick is_cut_out v ≡ t = ap (new_tick is_cut_out) (eqb-true v (old_tick t) same) ∙ old.same
                t in
                absurd (omega (arith, now, above, it, rises is_cut_out (number_of digits) v from))
            | inr other ↦ other
          ]

          not_before : (v : ℕ) → new_tick is_cut_out s.tick ≡ t
              → new_tick is_cut_out s.tick < new_tick is_cut_out (number_of digits) → number_of digits ≤ v
              → before v ≡ false
          not_before v now above from = elim (cases_Bool (new_tick is_cut_out v == t)) [
            | inl same ↦ absurd (omega (
              arith,
              now,
              above,
              eqb-true (new_tick is_cut_out v) t same,
              rises is_cut_out
                  (number_of digits) v from,
            ))
            | inr other ↦ rw other (and-false (is_cut_out v))
          ]
      stamp_goes false not_past =
          let upto : new_tick is_cut_out (number_of digits) ≤ new_tick is_cut_out s.tick = ltb-false (new_tick
          is_cut_out
          s.tick) (new_tick is_cut_out (number_of digits)) not_past in
          let from : new_tick is_cut_out s.tick ≤ new_tick is_cut_out (number_of digits) = rises is_cut_out s.tick
          (number_of digits) later.2 in
          let same : new_tick is_cut_out (number_of digits) ≡ new_tick is_cut_out s.tick = omega arith in
          ap (λ (l : List Piece). changes_at_ticks ours n l) (retimed_by_stamp is_cut_out s held p ps digits is ∙ rw
          not_past
          refl) ∙ from_stamp held n (omega (arith, w.is.upto, same)) w.all w.last w.apart ∙ ap (λ (u : ℕ). both (if u ==
          t
          then held else []) here_then cut_then) same ∙ stamp_side (mine s.tick held)

  goes : (s : ParseState) (held : List Piece) (n : ℕ) (ps : List Piece) → AllowsAll s (items_of ps)
      → (state_after s (items_of ps)).declared ≡ final.declared → Waits s.tick n held → Goal s held n ps
  unfolding retimed_pieces changes_at_ticks
  goes s held n [] allows same w =
      let out = written s n held [] w.is w.all in
      ap (λ (l : List Piece). changes_at_ticks ours n l) (sym (append-nil (released_pieces is_cut_out s held))) ∙
      out.changes ∙
      append-nil
      (mine s.tick held) ∙ sym (ap (λ (l : List Piece). last_ones is_kept l []) (append-nil (mine s.tick held))
      ∙ all_mine (new_tick
      is_cut_out s.tick == t))
    where
      all_mine : (now : Bool) → last_ones is_kept (if now then held else []) [] ≡ (if now then held else [])
      all_mine true = all_last is_kept held w.apart
      all_mine false = all_last is_kept [] tt
  goes s held n (p ∷ ps) allows same w = elim (kind_of p.item) [
    | is_stamp digits is ↦ stamp_goes s held n p ps allows w (λ held n w. goes (state_after_item s p.item) held n ps
        allows.1 same w) digits is (is_past is_cut_out s (stamp digits)) refl
    | is_change k change ↦
        let here : s.declared ≡ final.declared = sym (declared_stays s (p.item ∷ items_of ps) allows (change.in_body s
        allows.0)) ∙ same in
        change_goes s held n p ps allows w (λ held n w. goes (state_after_item s p.item) held n ps
        allows.1 same w) k change (kept_same s final here) (ap (λ (ds : List VariableDeclaration). list_any (λ d.
        bytes_eq (code_of_key k) d.code && not (bytes_eq d.kind (codes "event"))) ds) here)
    | is_still still ↦ still_goes s held n p ps allows w (λ held n w. goes (state_after_item s p.item) held n ps
        allows.1
        same w) still
  ]

pub changes_stand_in_order : (is_cut_out : ℕ → Bool) (old_tick : ℕ → ℕ) (limit : ℕ) (pieces : List Piece)
    → AreOldTicks is_cut_out old_tick → AllowsAll (initial_state limit) (items_of pieces) → (t : ℕ)
    → is_cut_out t ≡ false
    → changes_at_ticks (λ u. u == new_tick is_cut_out t) 0 (retimed_pieces is_cut_out (initial_state limit) [] pieces)
    ≡ changes_at_ticks (λ u. u == t) 0 pieces ++ last_ones (has_kept_variable (state_of_pieces limit pieces))
    (filter (λ p. lasts_with (state_of_pieces limit pieces) (change_key p.item)) (changes_at_ticks (λ u. is_cut_out u
    && (new_tick is_cut_out u == new_tick is_cut_out t)) 0 pieces)) (changes_at_ticks (λ u. u == t) 0 pieces)
unfolding new_tick
changes_stand_in_order is_cut_out old_tick limit pieces old allows u left =
    let s : ParseState = state_of_pieces limit pieces in
    let t : ℕ = new_tick is_cut_out u in
    let cut : List Piece = changes_at_ticks (λ u. is_cut_out u && (new_tick is_cut_out u == t)) 0 pieces in
    goes is_cut_out old_tick old t s (initial_state limit) [] 0 pieces allows refl
    (record {
      is = record { upto = omega arith; here = λ _. refl; most = omega arith };
      all = All-nil IsHeld;
      last = All-nil (λ p. lasts_with s (change_key p.item) ≡ true);
      apart = tt;
    }) ∙ ap (λ (l : List Piece). both is_cut_out old_tick old t s l (changes_at_ticks (λ u. u == old_tick t) 0 pieces)
    cut) (none_mine is_cut_out old_tick old t s 0) ∙ ap (λ (o : ℕ). both is_cut_out old_tick old t s []
    (changes_at_ticks (λ u. u == o) 0 pieces) cut) (old_of_new is_cut_out old_tick old u left)
