-- The changes of a retimed file at some ticks, and of changes with one key the last.
use Rattle.std.proofs.Common.{◌≡◌, ℕ, ◌≤◌, ◌∙◌, Bool, true, false, not, ◌||◌, List, [], ◌∷◌, ◌++◌, refl, ap, sym, arith}
use Rattle.std.proofs.Common.{if◌then◌else◌, inl, inr, ◌&&◌, Option, Some, None, subst, append_assoc, All}
use Rattle.std.specs.Prelude.{is_some}
use Rattle.std.specs.List.{filter, list_any}
use Rattle.std.proofs.lemmas.Bool.{cases_Bool, false≢true}
use Rattle.std.proofs.lemmas.List.{append-nil}
use Rattle.std.proofs.lemmas.List.Folds.{list_any-append}
use Rattle.std.proofs.lemmas.List.Elements.{All-head, All-tail}
use Rattle.std.proofs.Math.Bool.{or-true}
use Rattle.vcd_core.specs.Decimal.{number_of}
use Rattle.vcd_text.specs.Items.{Item, stamp}
use Rattle.vcd_text.specs.Grammar.{ParseState, Allows, AllowsAll, state_after_item}
use Rattle.vcd_copy.specs.Pieces.{Piece}
use Rattle.vcd_amend.specs.Retimed.{ChangeKey, change_key, counts_with}
use Rattle.vcd_copy.specs.Ticks.{tick_after_item}
use Rattle.vcd_amend.specs.RetimedLaws.{changes_at_ticks, is_key_of, last_ones}
use Rattle.vcd_amend.proofs.retimed.Ticks.{items_of, stamp_ticks}
use Rattle.vcd_amend.proofs.retimed.Kinds.{IsChange, IsStill, kind_of, is_stamp, is_change, is_still, change_of_key}
use Rattle.vcd_amend.proofs.retimed.Kinds.{count_together, key_itself, together_first, together_second}
use Rattle.vcd_amend.proofs.retimed.LastChanges.{IsHeld}

-- ---- the last ones

module _ (is_kept : List ℕ → Bool) where
  -- changes count together with those of one key, or with those of another one
  key_of_both : (key k : ChangeKey) (q : Piece) → count_together is_kept key k ≡ false
      → counts_with is_kept k (change_key q.item) ≡ true → counts_with is_kept key (change_key q.item) ≡ false
  key_of_both key k q apart has = by_option (change_key q.item) has
    where
      by_option : (o : Option ChangeKey) → counts_with is_kept k o ≡ true → counts_with is_kept key o ≡ false
      by_option None has = absurd (false≢true has)
      by_option (Some other) has = sym (together_second is_kept k other has key) ∙ apart

  module _ (p : Piece) (k : ChangeKey) (is : change_key p.item ≡ Some k) where
    abbrev pub without : List Piece → List Piece
    without held = filter (λ h. not (counts_with is_kept k (change_key h.item))) held

    -- the piece counts together with those that count with it, and with no other
    seen : (o : Option ChangeKey) → counts_with is_kept k o ≡ true → is_key_of is_kept o p ≡ true
    seen None has = absurd (false≢true has)
    seen (Some key) has = ap (counts_with is_kept key) is ∙ sym (together_first is_kept k key has k)
        ∙ key_itself is_kept k

    unseen : (o : Option ChangeKey) → counts_with is_kept k o ≡ false → is_key_of is_kept o p ≡ false
    unseen None has = refl
    unseen (Some key) has = elim (cases_Bool (count_together is_kept key k)) [
      | inl same ↦ absurd (false≢true (sym has ∙ sym (together_first is_kept key k same key) ∙ key_itself is_kept key))
      | inr apart ↦ ap (counts_with is_kept key) is ∙ apart
    ]

    -- others do not see those that are left out
    others_see : (o : Option ChangeKey) → counts_with is_kept k o ≡ false → (hs : List Piece)
        → list_any (is_key_of is_kept o) (without hs) ≡ list_any (is_key_of is_kept o) hs
    others_see o apart [] = refl
    others_see o apart (h ∷ hs) = elim (cases_Bool (counts_with is_kept k (change_key h.item))) [
      | inl has ↦ rw (has, by_option o apart has) (others_see o apart hs)
      | inr none ↦ rw none (ap (λ b. is_key_of is_kept o h || b) (others_see o apart hs))
    ]
      where
        by_option : (o : Option ChangeKey) → counts_with is_kept k o ≡ false → counts_with is_kept k (change_key h.item)
            ≡ true → is_key_of is_kept o h ≡ false
        by_option None apart has = refl
        by_option (Some key) apart has = elim (cases_Bool (count_together is_kept key k)) [
          | inl same ↦ absurd (false≢true (sym apart ∙ sym (together_first is_kept key k same key)
              ∙ key_itself is_kept key))
          | inr other ↦ key_of_both key k h other has
        ]

    any_here : (o : Option ChangeKey) (xs ys : List Piece) → is_key_of is_kept o p ≡ true
        → list_any (is_key_of is_kept o) (xs ++ p ∷ ys) ≡ true
    any_here o [] ys has = rw has refl
    any_here o (x ∷ xs) ys has = ap (λ b. is_key_of is_kept o x || b) (any_here o xs ys has)
        ∙ or-true (is_key_of is_kept o x)

    -- the piece is held after them
    pub held_last : (held more later : List Piece) → last_ones is_kept (held ++ p ∷ more) later
        ≡ last_ones is_kept (without held ++ p ∷ more) later
    unfolding last_ones
    held_last [] more later = refl
    held_last (h ∷ hs) more later = elim (cases_Bool (counts_with is_kept k (change_key h.item))) [
      | inl has ↦ rw (has, any_whole has) (held_last hs more later)
      | inr none ↦ rw (none, same_any none) (ap (λ l. if list_any (is_key_of is_kept (change_key h.item)) ((hs ++ p ∷
          more) ++ later)
          then l else h ∷ l) (held_last hs more later))
    ]
      where
        any_whole : counts_with is_kept k (change_key h.item) ≡ true
            → list_any (is_key_of is_kept (change_key h.item)) ((hs ++ p ∷ more) ++ later) ≡ true
        any_whole has = rw (append_assoc hs (p ∷ more) later) (any_here (change_key h.item) hs (more ++ later) (seen
            (change_key h.item) has))

        same_any : counts_with is_kept k (change_key h.item) ≡ false
            → list_any (is_key_of is_kept (change_key h.item)) ((without hs ++ p ∷ more) ++ later)
            ≡ list_any (is_key_of is_kept (change_key h.item)) ((hs ++ p ∷ more) ++ later)
        same_any none = rw (append_assoc (without hs) (p ∷ more) later, append_assoc hs (p ∷ more) later)
            (list_any-append (is_key_of is_kept (change_key h.item)) (without hs) (p ∷ (more ++ later))
            ∙ ap (λ b. b || list_any (is_key_of is_kept (change_key h.item)) (p ∷ (more ++ later))) (others_see
            (change_key h.item) none hs) ∙ sym (list_any-append (is_key_of is_kept (change_key h.item)) hs (p ∷ (more ++
            later))))

    -- the piece stands after them
    pub stands_last : (held later : List Piece) → last_ones is_kept held (p ∷ later)
        ≡ last_ones is_kept (without held) later
    unfolding last_ones
    stands_last [] later = refl
    stands_last (h ∷ hs) later = elim (cases_Bool (counts_with is_kept k (change_key h.item))) [
      | inl has ↦ rw (has, any_here (change_key h.item) hs later (seen (change_key h.item) has)) (stands_last hs later)
      | inr none ↦ rw (none, same_any none) (ap (λ l. if list_any (is_key_of is_kept (change_key h.item)) (without hs ++
          later) then l
          else h ∷ l) (stands_last hs later))
    ]
      where
        same_any : counts_with is_kept k (change_key h.item) ≡ false → list_any (is_key_of is_kept (change_key h.item))
            (hs ++ p ∷ later) ≡ list_any (is_key_of is_kept (change_key h.item)) (without hs ++ later)
        same_any none = list_any-append (is_key_of is_kept (change_key h.item)) hs (p ∷ later)
            ∙ ap (λ b. list_any (is_key_of is_kept (change_key h.item)) hs || (b || list_any (is_key_of is_kept
            (change_key h.item)) later)) (unseen (change_key h.item) none) ∙ ap (λ b. b || list_any (is_key_of is_kept
            (change_key h.item)) later) (sym (others_see (change_key h.item) none
            hs)) ∙ sym (list_any-append (is_key_of is_kept (change_key h.item)) (without hs) later)

  -- ---- no two that are held count together

  abbrev pub AreApart : List Piece → Type 0
  AreApart [] = Unit {0}
  AreApart (h ∷ hs) = (list_any (is_key_of is_kept (change_key h.item)) hs ≡ false) × AreApart hs

  pub all_last : (held : List Piece) → AreApart held → last_ones is_kept held [] ≡ held
  unfolding last_ones
  all_last [] apart = refl
  all_last (h ∷ hs) apart = rw (append-nil hs, apart.0) (ap (λ l. h ∷ l) (all_last hs apart.1))

  module _ (p : Piece) (k : ChangeKey) (is : change_key p.item ≡ Some k) where
    pub still_apart : (held : List Piece) → AreApart held → AreApart (without p k is held)
    still_apart [] apart = tt
    still_apart (h ∷ hs) apart = elim (cases_Bool (counts_with is_kept k (change_key h.item))) [
      | inl has ↦ subst (λ b. AreApart (if not b then h ∷ without p k is hs else without p k is hs)) (sym has)
          (still_apart hs
          apart.1)
      | inr none ↦ subst (λ b. AreApart (if not b then h ∷ without p k is hs else without p k is hs)) (sym none) (
        others_see p
            k is (change_key h.item) none hs ∙ apart.0,
        still_apart hs apart.1,
      )
    ]

    pub with_it_apart : (held : List Piece) → AreApart held → AreApart (without p k is held ++ p ∷ [])
    with_it_apart [] apart = (refl, tt)
    with_it_apart (h ∷ hs) apart = elim (cases_Bool (counts_with is_kept k (change_key h.item))) [
      | inl has ↦ subst (λ b. AreApart ((if not b then h ∷ without p k is hs else without p k is hs) ++ p ∷ [])) (sym
          has) (with_it_apart hs apart.1)
      | inr none ↦ subst (λ b. AreApart ((if not b then h ∷ without p k is hs else without p k is hs) ++ p ∷ [])) (sym
          none) (
            list_any-append (is_key_of is_kept (change_key h.item)) (without p k is hs) (p ∷ []) ∙ rw (
              others_see p k is
                  (change_key
                  h.item) none hs,
              apart.0,
              unseen p k is (change_key h.item) none,
            ) refl,
            with_it_apart hs apart.1,
          )
    ]

-- ---- the changes at some ticks

module _ (is_at : ℕ → Bool) where
  pub at_still : (n : ℕ) (p : Piece) (ps : List Piece) → IsStill p.item
      → changes_at_ticks is_at n (p ∷ ps) ≡ changes_at_ticks is_at n ps
  unfolding changes_at_ticks
  at_still n p ps still = ap (λ (o : Option ChangeKey). (if is_some o && is_at n then p ∷ [] else []) ++
      changes_at_ticks
      is_at
      (tick_after_item n p.item) ps) still.is ∙ ap (λ (m : ℕ). changes_at_ticks is_at m ps) (still.tick n)

  pub at_change : (n : ℕ) (p : Piece) (ps : List Piece) (k : ChangeKey) → IsChange p.item k
      → changes_at_ticks is_at n (p ∷ ps) ≡ (if is_at n then p ∷ [] else []) ++ changes_at_ticks is_at n ps
  unfolding changes_at_ticks
  at_change n p ps k change = ap (λ (o : Option ChangeKey). (if is_some o && is_at n then p ∷ [] else []) ++
      changes_at_ticks
      is_at (tick_after_item n p.item) ps) change.is ∙ ap (λ (m : ℕ). (if is_at n then p ∷ [] else []) ++
      changes_at_ticks is_at m
      ps)
      (change.tick n)

  pub at_stamp : (n : ℕ) (p : Piece) (ps : List Piece) (digits : List ℕ) → p.item ≡ stamp digits
      → changes_at_ticks is_at n (p ∷ ps) ≡ changes_at_ticks is_at (number_of digits) ps
  unfolding changes_at_ticks
  at_stamp n p ps digits is = ap (λ (i : Item). (if is_some (change_key i) && is_at n then p ∷ [] else []) ++
      changes_at_ticks
      is_at (tick_after_item n i) ps) is

  -- held changes that are written
  pub changes_written : (n : ℕ) (held rest : List Piece) → All IsHeld held
      → changes_at_ticks is_at n (held ++ rest) ≡ (if is_at n then held else []) ++ changes_at_ticks is_at n rest
  changes_written n [] rest all = elim (cases_Bool (is_at n)) [
    | inl now ↦ rw now refl
    | inr other ↦ rw other refl
  ]
  changes_written n (h ∷ hs) rest all =
      let change = change_of_key h.item (All-head IsHeld h hs all) in
      at_change n h (hs ++ rest) change.0 change.1 ∙ ap (λ (l : List Piece). (if is_at n then h ∷ [] else []) ++ l)
      (changes_written n hs rest (All-tail IsHeld h hs all)) ∙ joined (is_at n)
    where
      joined : (now : Bool) → (if now then h ∷ [] else []) ++ ((if now then hs else []) ++ changes_at_ticks is_at n
          rest)
          ≡ (if now then h ∷ hs else []) ++ changes_at_ticks is_at n rest
      joined true = refl
      joined false = refl

  -- none, if no tick that comes is one of these
  pub none_from : (s : ParseState) (ps : List Piece) → AllowsAll s (items_of ps)
      → ((v : ℕ) → s.tick ≤ v → is_at v ≡ false) → changes_at_ticks is_at s.tick ps ≡ []
  unfolding changes_at_ticks
  none_from s [] allows none = refl
  none_from s (p ∷ ps) allows none = elim (kind_of p.item) [
    | is_stamp digits is ↦
        let later = stamp_ticks s digits (subst (λ (i : Item). Allows s i) is allows.0) in
        let tick : (state_after_item s p.item).tick ≡ number_of digits = ap (λ (i : Item). (state_after_item s i).tick)
        is
        in
        at_stamp s.tick p ps digits is ∙ ap (λ (m : ℕ). changes_at_ticks is_at m ps) (sym tick) ∙ none_from
        (state_after_item
        s
        p.item) ps allows.1 (λ v from. none v (omega (arith, from, tick, later.2)))
    | is_change k change ↦
        let tick : (state_after_item s p.item).tick ≡ s.tick = ap (λ (x : ParseState). x.tick) (change.state s) in
        at_change s.tick p ps k change ∙ ap (λ (b : Bool). (if b then p ∷ [] else []) ++ changes_at_ticks is_at s.tick
        ps)
        (none
        s.tick (omega arith)) ∙ ap (λ (m : ℕ). changes_at_ticks is_at m ps) (sym tick) ∙ none_from (state_after_item s
        p.item)
        ps
        allows.1 (λ v from. none v (omega (arith, from, tick)))
    | is_still still ↦ at_still s.tick p ps still ∙ ap (λ (m : ℕ). changes_at_ticks is_at m ps) (sym (still.same_tick
        s))
        ∙ none_from (state_after_item s p.item) ps allows.1 (λ v from. none v (omega (arith, from, still.same_tick s)))
  ]
