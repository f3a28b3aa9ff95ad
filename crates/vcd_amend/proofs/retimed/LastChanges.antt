-- The last change of each code stands in a retimed file.
use Rattle.std.proofs.Common.{◌≡◌, ℕ, ◌<◌, ◌≤◌, ◌∙◌, Bool, true, false, not, nat_le, List, [], ◌∷◌, ◌++◌, refl, ap, sym}
use Rattle.std.proofs.Common.{arith, if◌then◌else◌, inl, inr, ◌&&◌, Option, Some, None, IsTrue, subst, append_assoc}
use Rattle.std.proofs.Common.{decimal, All}
use Rattle.std.specs.Prelude.{bytes_eq, is_some, codes}
use Rattle.std.specs.List.{filter, list_any}
use Rattle.std.proofs.lemmas.Bool.{cases_Bool, false≢true, ltb-true, ltb-false}
use Rattle.std.proofs.lemmas.List.Elements.{All-nil, All-cons, All-head, All-tail, All-append, All-filter}
use Rattle.vcd_core.specs.Decimal.{number_of, is_number}
use Rattle.vcd_core.specs.declared.capture.TheConstants.{END_LIMIT}
use Rattle.vcd_text.specs.Items.{Item, stamp}
use Rattle.std.proofs.lemmas.List.{append-nil}
use Rattle.vcd_text.specs.Grammar.{VariableDeclaration, ParseState, Allows, AllowsAll, state_after_item, state_after}
use Rattle.vcd_text.specs.Grammar.{initial_state}
use Rattle.vcd_copy.specs.Pieces.{Piece, state_of_pieces}
use Rattle.vcd_amend.specs.Retimed.{new_tick, AreOldTicks, ChangeKey, change_key, counts_with}
use Rattle.vcd_amend.specs.Retimed.{code_of_key, lasts, has_kept_variable}
use Rattle.vcd_amend.specs.Retimed.{held_with, is_past, released_pieces, retimed_stamp, pieces_in_place, retimed_pieces}
use Rattle.vcd_copy.specs.Ticks.{tick_after_item}
use Rattle.vcd_amend.specs.RetimedLaws.{pieces_after}
use Rattle.vcd_amend.specs.inside.LastChange.{last_change}
use Rattle.vcd_amend.specs.RetimedLaws.{CanBeRetimed}
use Rattle.vcd_text.proofs.read_back.Decimals.{number_of-decimal}
use Rattle.vcd_amend.proofs.retimed.Ticks.{rises, same_test, items_of, IsTickAfter, small, stamp_ticks, placed}
use Rattle.vcd_amend.proofs.retimed.Kinds.{IsChange, IsStill, kind_of, is_stamp, is_change, is_still, change_of_key}
use Rattle.vcd_amend.proofs.retimed.Kinds.{count_together, code_together, together_second, counts_first, declared_stays}
use Rattle.vcd_amend.proofs.retimed.Kinds.{kept_same}
use Rattle.vcd_amend.proofs.retimed.Kinds.{retimed_still, retimed_change, retimed_by_stamp}

-- a held piece is a change
abbrev pub IsHeld : Piece → Type 0
IsHeld p = is_some (change_key p.item) ≡ true

pub held_change : (c : ℕ → Bool) (s : ParseState) (held : List Piece) (p : Piece) (key : ChangeKey)
    → IsChange p.item key → All IsHeld held → All IsHeld (held_with c s held p (Some key))
held_change c s held p key change all = All-append IsHeld _ _ (All-filter (λ h. not (counts_with (has_kept_variable s)
    key (change_key h.item))) IsHeld held all) (one (c s.tick && lasts s (code_of_key key)))
  where
    one : (b : Bool) → All IsHeld (if b then p ∷ [] else [])
    one true = All-cons IsHeld p [] (ap is_some change.is) (All-nil IsHeld)
    one false = All-nil IsHeld

-- ---- one key, up to one tick

module _ (is_kept : List ℕ → Bool) (key : ChangeKey) where
  -- the last held change with the key
  last_of : Option Piece → List Piece → Option Piece
  last_of b [] = b
  last_of b (p ∷ ps) = last_of (if counts_with is_kept key (change_key p.item) then Some p else b) ps

  last_of_append : (b : Option Piece) (xs ys : List Piece) → last_of b (xs ++ ys) ≡ last_of (last_of b xs) ys
  unfolding last_of
  last_of_append b [] ys = refl
  last_of_append b (x ∷ xs) ys = last_of_append (if counts_with is_kept key (change_key x.item) then Some x else b) xs
      ys

  -- without those that count with another key, and without those that count with the key
  other_key : (other : ChangeKey) (o : Option ChangeKey) → count_together is_kept key other ≡ false
      → counts_with is_kept other o ≡ true → counts_with is_kept key o ≡ false
  other_key other None apart has = absurd (false≢true has)
  other_key other (Some k) apart has = sym (together_second is_kept other k has key) ∙ apart

  last_of_others : (other : ChangeKey) → count_together is_kept key other ≡ false
      → (b : Option Piece) (held : List Piece) → last_of b (filter (λ h. not (counts_with is_kept other (change_key
      h.item))) held) ≡ last_of b held
  unfolding last_of
  last_of_others other apart b [] = refl
  last_of_others other apart b (h ∷ hs) = elim (cases_Bool (counts_with is_kept other (change_key h.item))) [
    | inl has ↦ rw (has, other_key other (change_key h.item) apart has) (last_of_others other apart b hs)
    | inr none ↦ rw none (last_of_others other apart (if counts_with is_kept key (change_key h.item) then Some h else b)
        hs)
  ]

  last_of_none : (k : ChangeKey) → count_together is_kept key k ≡ true → (b : Option Piece) (held : List Piece)
      → last_of b (filter (λ h. not (counts_with is_kept k (change_key h.item))) held) ≡ b
  unfolding last_of
  last_of_none k same b [] = refl
  last_of_none k same b (h ∷ hs) = elim (cases_Bool (counts_with is_kept k (change_key h.item))) [
    | inl has ↦ rw has (last_of_none k same b hs)
    | inr none ↦ rw (none, counts_first is_kept key k same (change_key h.item) ∙ none) (last_of_none k same b hs)
  ]

  -- the last change up to a tick, if those held come at this new tick
  abbrev counted : Bool → Option Piece → List Piece → Option Piece
  counted counts b held = if counts then last_of b held else b

  counted_none : (counts : Bool) (b : Option Piece) → counted counts b [] ≡ b
  unfolding last_of
  counted_none true b = refl
  counted_none false b = refl

  -- one piece in front
  pub at_still : (t n : ℕ) (b : Option Piece) (p : Piece) (ps : List Piece) → IsStill p.item
      → last_change is_kept key t n b (p ∷ ps) ≡ last_change is_kept key t n b ps
  unfolding last_change
  at_still t n b p ps still = ap (λ (k : Option ChangeKey). last_change is_kept key t (tick_after_item n p.item) (if
      counts_with is_kept key k &&
      nat_le n t then Some p else b) ps) still.is ∙ ap (λ (m : ℕ). last_change is_kept key t m b ps) (still.tick n)

  pub at_change : (t n : ℕ) (b : Option Piece) (p : Piece) (ps : List Piece) (k : ChangeKey) → IsChange p.item k
      → last_change is_kept key t n b (p ∷ ps) ≡ last_change is_kept key t n (if count_together is_kept key k && nat_le
      n t then Some p else b) ps
  unfolding last_change
  at_change t n b p ps k change = ap (λ (k : Option ChangeKey). last_change is_kept key t (tick_after_item n p.item) (if
      counts_with is_kept key
      k &&
      nat_le n t then Some p else b) ps) change.is ∙ ap (λ (m : ℕ). last_change is_kept key t m (if count_together
      is_kept key k && nat_le n t then Some p else b) ps) (change.tick n)

  pub at_stamp : (t n : ℕ) (b : Option Piece) (p : Piece) (ps : List Piece) (digits : List ℕ) → p.item ≡ stamp digits
      → last_change is_kept key t n b (p ∷ ps) ≡ last_change is_kept key t (number_of digits) b ps
  unfolding last_change
  at_stamp t n b p ps digits is = ap (λ (i : Item). last_change is_kept key t (tick_after_item n i) (if counts_with
      is_kept key (change_key i) &&
      nat_le n t then Some p else b) ps) is

  module _ (t : ℕ) where
    -- held changes that are written
    changes_written : (n : ℕ) (b : Option Piece) (held rest : List Piece) → All IsHeld held
        → last_change is_kept key t n b (held ++ rest) ≡ last_change is_kept key t n (counted (nat_le n t) b held) rest
    unfolding last_change last_of
    changes_written n b [] rest all = ap (λ (o : Option Piece). last_change is_kept key t n o rest) (sym (counted_none
        (nat_le n t) b))
    changes_written n b (h ∷ hs) rest all =
        let change = change_of_key h.item (All-head IsHeld h hs all) in
        ap (λ (m : ℕ). last_change is_kept key t m (if counts_with is_kept key (change_key h.item) && nat_le n t then
        Some h else b) (hs ++
        rest)) (change.1.tick n) ∙ changes_written n (if counts_with is_kept key (change_key h.item) && nat_le n t then
        Some h else b)
        hs rest (All-tail IsHeld h hs all) ∙ ap (λ (o : Option Piece). last_change is_kept key t n o rest) (by_tests
        (counts_with is_kept key
        (change_key h.item)) (nat_le n t))
      where
        by_tests : (has counts : Bool) → counted counts (if has && counts then Some h else b) hs
            ≡ (if counts then last_of (if has then Some h else b) hs else b)
        by_tests true true = refl
        by_tests true false = refl
        by_tests false true = refl
        by_tests false false = refl

    -- ---- a change more

    module _ (p : Piece) (k : ChangeKey) (change : IsChange p.item k) (b theirs : Option Piece) (held : List Piece)
      where
        abbrev without : List Piece
        without = filter (λ h. not (counts_with is_kept k (change_key h.item))) held

        abbrev one_if : Bool → List Piece
        one_if one = if one then p ∷ [] else []

        has_it : (same : Bool) → count_together is_kept key k ≡ same → counts_with is_kept key (change_key p.item)
            ≡ same
        has_it same is = ap (counts_with is_kept key) change.is ∙ is

        one_beside : count_together is_kept key k ≡ false → (one : Bool) (o : Option Piece) → last_of o (one_if one) ≡ o
        unfolding last_of
        one_beside apart true o = rw (has_it false apart) refl
        one_beside apart false o = refl

        one_here : count_together is_kept key k ≡ true → (o : Option Piece) → last_of o (p ∷ []) ≡ Some p
        unfolding last_of
        one_here same o = rw (has_it true same) refl

        -- it is held
        held_counts : (counts same one : Bool) → count_together is_kept key k ≡ same → (same ≡ true → one ≡ true)
            → counted counts b held ≡ theirs
            → counted counts b (without ++ one_if one) ≡ (if same && counts then Some p else theirs)
        held_counts false true one is lasting before = before
        held_counts false false one is lasting before = before
        held_counts true true one is lasting before = ap (λ (one : Bool). last_of b (without ++ one_if one)) (lasting
            refl)
            ∙ last_of_append b without (p ∷ []) ∙ one_here is (last_of b without)
        held_counts true false one is lasting before = last_of_append b without (one_if one) ∙ one_beside is one
            (last_of
            b
            without) ∙ last_of_others k is b held ∙ before

        -- it stands
        stands_counts : (counts same : Bool) → count_together is_kept key k ≡ same → counted counts b held ≡ theirs
            → counted counts (if same && counts then Some p else b) without ≡ (if same && counts then Some p else
            theirs)
        stands_counts false true is before = before
        stands_counts false false is before = before
        stands_counts true true is before = last_of_none k is (Some p) held
        stands_counts true false is before = last_of_others k is b held ∙ before

    module _ (is_cut_out : ℕ → Bool) (old_tick : ℕ → ℕ) (old : AreOldTicks is_cut_out old_tick) where
      -- what is written of the held changes
      record Written (s : ParseState) (n : ℕ) (b : Option Piece) (held rest : List Piece) : Type 0 where
        pub tick : ℕ
        pub is : IsTickAfter is_cut_out s.tick tick
        pub last : last_change is_kept key t n b (released_pieces is_cut_out s held ++ rest)
            ≡ last_change is_kept key t tick (counted (nat_le (new_tick is_cut_out s.tick) t) b held) rest

      written : (s : ParseState) (n : ℕ) (b : Option Piece) (held rest : List Piece) → IsTickAfter is_cut_out s.tick n
          → All IsHeld held → Written s n b held rest
      unfolding last_change
      written s n b [] rest is all = record {
        tick = n;
        is = is;
        last = ap (λ (o : Option Piece). last_change is_kept key t n o rest) (sym (counted_none (nat_le (new_tick
            is_cut_out s.tick) t) b));
      }
      written s n b (h ∷ hs) rest is all = by_test (is_cut_out s.tick) refl
        where
          read : number_of (decimal (new_tick is_cut_out s.tick)) ≡ new_tick is_cut_out s.tick
          read = number_of-decimal (new_tick is_cut_out s.tick) (small is_cut_out s.tick is.most)

          by_test : (cut : Bool) → is_cut_out s.tick ≡ cut → Written s n b (h ∷ hs) rest
          by_test true cut = record {
            tick = new_tick is_cut_out s.tick;
            is = record { upto = omega arith; here = λ _. refl; most = is.most };
            last = rw (cut, read) (changes_written (new_tick is_cut_out s.tick) b (h ∷ hs) rest all);
          }
          by_test false left = record {
            tick = n;
            is = is;
            last = rw left (changes_written n b (h ∷ hs) rest all ∙ ap (λ (m : ℕ). last_change is_kept key t n (counted
                (nat_le m
                t) b (h ∷ hs)) rest) (is.here left));
          }

      -- after a stamp `u` the last change is that of the file
      record Follows (u : ℕ) (held : List Piece) (n : ℕ) (b theirs : Option Piece) : Type 0 where
        pub is : IsTickAfter is_cut_out u n
        pub all : All IsHeld held
        pub last : counted (nat_le (new_tick is_cut_out u) t) b held ≡ theirs

      abbrev Same : (s : ParseState) (held : List Piece) (n : ℕ) (b theirs : Option Piece) (ps : List Piece) → Type 0
      Same s held n b theirs ps =
          last_change is_kept key t n b (retimed_pieces is_cut_out s held ps) ≡ last_change is_kept key (old_tick t)
          s.tick theirs ps

      module _ (s : ParseState) (held : List Piece) (n : ℕ) (b theirs : Option Piece) (p : Piece) (ps : List Piece)
          (allows : Allows s p.item) (f : Follows s.tick held n b theirs)
          (next : (held : List Piece) (n : ℕ) (b theirs : Option Piece)
          → Follows (state_after_item s p.item).tick held n b theirs → Same (state_after_item s p.item) held n b theirs
          ps)
        where
          abbrev after : ParseState
          after = state_after_item s p.item

          still_follows : IsStill p.item → Same s held n b theirs (p ∷ ps)
          still_follows still = ap (λ (l : List Piece). last_change is_kept key t n b l) (retimed_still is_cut_out s
              held p ps still)
              ∙ at_still t n b p (retimed_pieces is_cut_out after held ps) still ∙ next held n b theirs (subst (λ (u :
              ℕ).
              Follows u
              held n b theirs) (sym (still.same_tick s)) f) ∙ ap (λ (u : ℕ). last_change is_kept key (old_tick t) u
              theirs ps) (still.same_tick s) ∙ sym (at_still (old_tick t) s.tick theirs p ps still)

          module _ (k : ChangeKey) (change : IsChange p.item k) (kept : has_kept_variable s ≡ is_kept)
              (lasting : count_together is_kept key k ≡ true → lasts s (code_of_key k) ≡ true) where
            same_tick : after.tick ≡ s.tick
            same_tick = ap (λ (x : ParseState). x.tick) (change.state s)

            abbrev held_after : List Piece
            held_after = held_with is_cut_out s held p (Some k)

            held_is : held_after ≡ without p k change b theirs held ++ one_if p k change b theirs held (is_cut_out
                s.tick && lasts s (code_of_key k))
            held_is = ap (λ (test : List ℕ → Bool). filter (λ h. not (counts_with test k (change_key h.item))) held
                ++ (if is_cut_out s.tick && lasts s (code_of_key k) then p ∷ [] else [])) kept

            abbrev theirs_after : Option Piece
            theirs_after = if count_together is_kept key k && nat_le s.tick (old_tick t) then Some p else theirs

            their_side : last_change is_kept key (old_tick t) after.tick theirs_after ps
                ≡ last_change is_kept key (old_tick t) s.tick theirs (p ∷ ps)
            their_side = ap (λ (u : ℕ). last_change is_kept key (old_tick t) u theirs_after ps) same_tick
                ∙ sym (at_change (old_tick
                t) s.tick theirs p ps k change)

            abbrev counts : Bool
            counts = nat_le (new_tick is_cut_out s.tick) t

            theirs_is : (if count_together is_kept key k && counts then Some p else theirs) ≡ theirs_after
            theirs_is = ap (λ (c : Bool). if count_together is_kept key k && c then Some p else theirs) (same_test
                is_cut_out old_tick old
                s.tick t)

            by_test : (cut : Bool) → is_cut_out s.tick ≡ cut → Same s held n b theirs (p ∷ ps)
            by_test true cut =
                let held_now : held_after ≡ without p k change b theirs held ++ one_if p k change b theirs held (lasts s
                (code_of_key k)) = held_is ∙ rw cut refl in
                let f_after : Follows s.tick held_after n b theirs_after = record {
                  is = f.is;
                  all = held_change is_cut_out s held p k change f.all;
                  last = ap (λ (l : List Piece). counted counts b l) held_now ∙ held_counts p k change b theirs held
                      counts
                      (count_together is_kept key k) (lasts s (code_of_key k)) refl lasting f.last ∙ theirs_is;
                } in
                ap (λ (l : List Piece). last_change is_kept key t n b l) (retimed_change is_cut_out s held p ps k change
                ∙ rw
                cut refl)
                ∙ next held_after n b theirs_after (subst (λ (u : ℕ). Follows u held_after n b theirs_after) (sym
                same_tick)
                f_after) ∙ their_side
            by_test false left =
                let held_now : held_after ≡ without p k change b theirs held ++ [] = held_is ∙ rw left refl in
                let now : n ≡ new_tick is_cut_out s.tick = f.is.here left in
                let ours : Option Piece = if count_together is_kept key k && nat_le n t then Some p else b in
                let f_after : Follows s.tick held_after n ours theirs_after = record {
                  is = f.is;
                  all = held_change is_cut_out s held p k change f.all;
                  last = ap (λ (l : List Piece). counted counts ours l) (held_now ∙ append-nil (without p k change b
                      theirs
                      held)) ∙ ap (λ (m : ℕ). counted counts (if count_together is_kept key k && nat_le m t then Some p
                      else b) (without p
                      k change b theirs held)) now ∙ stands_counts p k change b theirs held counts (count_together
                      is_kept key k) refl f.last ∙ theirs_is;
                } in
                ap (λ (l : List Piece). last_change is_kept key t n b l) (retimed_change is_cut_out s held p ps k change
                ∙ rw
                left
                refl) ∙ at_change t n b p (retimed_pieces is_cut_out after held_after ps) k change ∙ next held_after n
                ours
                theirs_after (subst (λ (u : ℕ). Follows u held_after n ours theirs_after) (sym same_tick) f_after) ∙
                their_side

          module _ (digits : List ℕ) (is : p.item ≡ stamp digits) where
            later : IsTrue (is_number digits) × (number_of digits ≤ END_LIMIT) × (s.tick ≤ number_of digits)
            later = stamp_ticks s digits (subst (λ (i : Item). Allows s i) is allows)

            new : after.tick ≡ number_of digits
            new = ap (λ (i : Item). (state_after_item s i).tick) is

            in_it : List Piece
            in_it = pieces_in_place (retimed_stamp is_cut_out (number_of digits)) p

            -- from the stamp on
            from_stamp : (held_after : List Piece) (m : ℕ) (o : Option Piece) → All IsHeld held_after
                → m ≤ new_tick is_cut_out (number_of digits)
                → counted (nat_le (new_tick is_cut_out (number_of digits)) t) o held_after ≡ theirs
                → last_change is_kept key t m o (in_it ++ retimed_pieces is_cut_out after held_after ps)
                ≡ last_change is_kept key (old_tick t) s.tick theirs (p ∷ ps)
            unfolding in_it
            from_stamp held_after m o all upto last =
                let place = placed (λ n l. last_change is_kept key t n o l) (λ n p ps digits is. at_stamp t n o p ps
                digits is)
                is_cut_out p digits m (retimed_pieces is_cut_out after held_after ps) is later.1 upto in
                let f_after : Follows (number_of digits) held_after place.tick o theirs = record {
                  is = place.is;
                  all = all;
                  last = last;
                } in
                place.last ∙ next held_after place.tick o theirs (subst (λ (u : ℕ). Follows u held_after place.tick o
                theirs)
                (sym new) f_after) ∙ ap (λ (u : ℕ). last_change is_kept key (old_tick t) u theirs ps) new
                ∙ sym (at_stamp (old_tick t)
                s.tick theirs p ps digits is)

            stamp_follows : (past : Bool) → is_past is_cut_out s (stamp digits) ≡ past → Same s held n b theirs (p ∷ ps)
            unfolding in_it
            stamp_follows true past =
                let order : new_tick is_cut_out s.tick < new_tick is_cut_out (number_of digits) = ltb-true (new_tick
                is_cut_out s.tick) (new_tick is_cut_out (number_of digits)) past in
                let rest : List Piece = in_it ++ retimed_pieces is_cut_out after [] ps in
                let w = written s n b held rest f.is f.all in
                ap (λ (l : List Piece). last_change is_kept key t n b l) (retimed_by_stamp is_cut_out s held p ps digits
                is ∙ rw
                past
                (append_assoc (released_pieces is_cut_out s held) in_it (retimed_pieces is_cut_out after [] ps))) ∙
                w.last ∙
                from_stamp []
                w.tick (counted (nat_le (new_tick is_cut_out s.tick) t) b held) (All-nil IsHeld) (omega (
                  arith,
                  w.is.upto,
                  order,
                )) (counted_none (nat_le (new_tick is_cut_out (number_of digits)) t) (counted (nat_le (new_tick
                is_cut_out s.tick) t) b held) ∙ f.last)
            stamp_follows false not_past =
                let order : new_tick is_cut_out (number_of digits) ≤ new_tick is_cut_out s.tick = ltb-false (new_tick
                is_cut_out s.tick) (new_tick is_cut_out (number_of digits)) not_past in
                let other : new_tick is_cut_out s.tick ≤ new_tick is_cut_out (number_of digits) = rises is_cut_out
                s.tick
                (number_of digits) later.2 in
                let same : new_tick is_cut_out (number_of digits) ≡ new_tick is_cut_out s.tick = omega arith in
                ap (λ (l : List Piece). last_change is_kept key t n b l) (retimed_by_stamp is_cut_out s held p ps digits
                is ∙ rw
                not_past refl) ∙ from_stamp held n b f.all (omega (arith, f.is.upto, same)) (ap (λ (u : ℕ). counted
                (nat_le u
                t) b held) same ∙ f.last)

      follows : (s : ParseState) (held : List Piece) (n : ℕ) (b theirs : Option Piece) (ps : List Piece)
          → AllowsAll s (items_of ps) → has_kept_variable (state_after s (items_of ps)) ≡ is_kept
          → lasts (state_after s (items_of ps)) (code_of_key key) ≡ true
          → Follows s.tick held n b theirs → Same s held n b theirs ps
      unfolding retimed_pieces last_change
      follows s held n b theirs [] allows kept lasting f =
          let end = written s n b held [] f.is f.all in
          ap (λ (l : List Piece). last_change is_kept key t n b l) (sym (append-nil (released_pieces is_cut_out s
          held)))
          ∙ end.last ∙ f.last
      follows s held n b theirs (p ∷ ps) allows kept lasting f = elim (kind_of p.item) [
        | is_stamp digits is ↦ stamp_follows s held n b theirs p ps allows.0 f (λ held n b theirs. follows
            (state_after_item s p.item) held n b theirs ps allows.1 kept lasting) digits is (is_past is_cut_out s (stamp
            digits))
            refl
        | is_change k change ↦
            let same = declared_stays s (p.item ∷ items_of ps) allows (change.in_body s allows.0) in
            by_test s held n b theirs p ps allows.0 f (λ held n b theirs. follows (state_after_item s
            p.item) held n b theirs ps allows.1 kept lasting) k change (kept_same s (state_after s (p.item ∷ items_of
            ps)) (sym same) ∙ kept) (λ together. ap (lasts s) (sym (code_together is_kept key k together)) ∙ ap (λ (ds :
            List VariableDeclaration). list_any (λ d. bytes_eq (code_of_key key) d.code && not (bytes_eq d.kind (codes
            "event"))) ds) (sym same) ∙ lasting) (is_cut_out s.tick) refl
        | is_still still ↦ still_follows s held n b theirs p ps allows.0 f (λ held n b theirs. follows (state_after_item
            s p.item) held n b theirs ps allows.1 kept lasting) still
      ]

pub lasting_change_stands : (is_cut_out : ℕ → Bool) (old_tick : ℕ → ℕ) (limit : ℕ) (file : List ℕ) (pieces : List Piece)
    (tail : List ℕ) (key : ChangeKey) (t : ℕ) → CanBeRetimed is_cut_out old_tick limit file pieces tail
    → lasts (state_of_pieces limit pieces) (code_of_key key) ≡ true
    → last_change (has_kept_variable (state_of_pieces limit pieces)) key t 0 None (pieces_after is_cut_out limit pieces)
    ≡ last_change (has_kept_variable (state_of_pieces limit pieces)) key (old_tick t) 0 None pieces
unfolding new_tick
lasting_change_stands is_cut_out old_tick limit file pieces tail key t can lasting =
    let is_kept : List ℕ → Bool = has_kept_variable (state_of_pieces limit pieces) in
    follows is_kept key t is_cut_out old_tick can.ticks (initial_state limit) [] 0 None None pieces
    can.allowed refl lasting (record {
      is = record { upto = omega arith; here = λ _. refl; most = omega arith };
      all = All-nil IsHeld;
      last = counted_none is_kept key (nat_le 0 t) None;
    })
