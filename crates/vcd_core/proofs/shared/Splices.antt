-- Lists after a range of one and a piece were swapped, and the splice that undoes a splice.
use Rattle.std.proofs.Common.{◌≡◌, ℕ, ◌+◌, ◌-◌, ◌^◌, ◌<◌, ◌≤◌, All, ℤ, pos, ◌+ℤ◌, unsigned_abs, List, [], ◌∷◌, ◌++◌}
use Rattle.std.proofs.Common.{length, take, drop, map, slice_range, Option, Some, None, SomeIff, is_some, true, subst}
use Rattle.std.proofs.Common.{refl, sym, ap, ◌∙◌, arith}
use Rattle.std.specs.Int.{w64, FitsUnsigned}
use Rattle.std.proofs.Math.Seq.{take-add}
use Rattle.std.proofs.lemmas.List.{append_assoc, append-nil, length-append, length-drop, length-take, take_at, drop_at}
use Rattle.std.proofs.lemmas.List.{length-take-le, take_all, drop_all, take-append-le, take-append-drop, drop-drop}
use Rattle.std.proofs.lemmas.List.Elements.{All-head, All-tail, All-map, All-drop}
use Rattle.std.proofs.lemmas.List.Folds.{drop_split}
use Rattle.std.proofs.lemmas.Slice.{drop-append-drop}
use Rattle.std.proofs.lemmas.Int.{ints}
use Rattle.vcd_core.specs.declared.wave.Change.{Change}
use Rattle.vcd_core.specs.Splice.{moved_change, TickFits, AllTicksFit, spliced_changes}

-- ---- the first changes of a piece for as many of a list

-- the list and the piece after the swap
module _ (xs piece list : List Change) (from to n : ℕ) (some : n ≤ length piece) (ordered : from + n ≤ to)
    (within : to ≤ length xs) (is : list ≡ take from xs ++ take n piece ++ drop (from + n) xs) where
  prefix_long : length (take from xs ++ take n piece) ≡ from + n
  prefix_long = omega (arith, length-append {A = Change}, length-take {A = Change})

  prefix_is_swapped : take (from + n) list ≡ take from xs ++ take n piece
  prefix_is_swapped = ap (take (from + n)) is
      ∙ take_at (take from xs ++ take n piece) (drop (from + n) xs) (from + n) prefix_long

  later_stay : drop to list ≡ drop to xs
  later_stay = ap (drop to) is ∙ drop-append-drop (from + n) xs (take from xs ++ take n piece) to ordered prefix_long

  pub later_fit : (by at : ℤ) → at ≡ by → AllTicksFit by (drop to xs) → AllTicksFit at (drop to list)
  later_fit by at same fits =
      subst (AllTicksFit at) (sym later_stay) (subst (λ z. AllTicksFit z (drop to xs)) (sym same) fits)

  -- the piece is shorter: the rest of the range goes to it
  module _ (all : n ≡ length piece) where
    pub spliced_without_rest : (by at : ℤ) (new : List Change) → at ≡ by
        → new ≡ take (from + n) list ++ map (moved_change at) (drop to list) → new ≡ spliced_changes xs from to piece by
    unfolding spliced_changes
    spliced_without_rest by at new same moves =
        moves ∙ (λ i. prefix_is_swapped i ++ map (moved_change (same i)) (later_stay i))
        ∙ ap (λ l. take from xs ++ l ++ map (moved_change by) (drop to xs)) (take_all n piece (omega arith))

    pub piece_with_rest : take n (drop from xs) ++ drop n piece ++ slice_range list (from + n) to
        ≡ slice_range xs from to
    piece_with_rest =
        let none : take n (drop from xs) ++ drop n piece ≡ take n (drop from xs) =
        ap (λ l. take n (drop from xs) ++ l) (drop_all n piece (omega arith)) ∙ append-nil (take n (drop from xs)) in
        let later : drop (from + n) list ≡ drop n (drop from xs) =
        ap (drop (from + n)) is ∙ drop_at (take from xs ++ take n piece) (drop (from + n) xs) (from + n) prefix_long
        ∙ sym (drop-drop n from xs) in
        (λ i. none i ++ take (to - (from + n)) (later i))
        ∙ sym (take-add n (to - (from + n)) (drop from xs))
        ∙ ap (λ k. take k (drop from xs)) {x = n + (to - (from + n))} {y = to - from} (omega arith)

  -- the range is shorter: the rest of the piece follows its prefix
  pub spliced_with_rest : (by at : ℤ) (new held : List Change) → from + n ≡ to → at ≡ by
      → held ≡ take n (drop from xs) ++ drop n piece
      → new ≡ take to list ++ drop n held ++ map (moved_change at) (drop to list)
      → new ≡ spliced_changes xs from to piece by
  unfolding spliced_changes
  spliced_with_rest by at new held all same holds moves =
      let later = map (moved_change by) (drop to xs) in
      let first : take to list ≡ take from xs ++ take n piece = ap (λ k. take k list) (sym all) ∙ prefix_is_swapped in
      let part : length (take n (drop from xs)) ≡ n =
      length-take-le n (drop from xs) (omega (arith, length-drop from xs)) in
      let rest : drop n held ≡ drop n piece =
      ap (drop n) holds ∙ drop_at (take n (drop from xs)) (drop n piece) n part in
      moves ∙ (λ i. first i ++ rest i ++ map (moved_change (same i)) (later_stay i))
      ∙ ap (λ l. l ++ later) (append_assoc (take from xs) (take n piece) (drop n piece)
      ∙ ap (λ l. take from xs ++ l) (take-append-drop n piece))

-- ---- a later tick

-- a tick that fits is given
pub tick_given : (tick : ℕ) (by at : ℤ) (sum : Option ℕ) → at ≡ by → FitsUnsigned w64 (pos tick +ℤ by)
    → SomeIff sum (FitsUnsigned w64 (pos tick +ℤ at)) (unsigned_abs (pos tick +ℤ at)) → is_some sum ≡ true
tick_given tick by at None same fits told =
    absurd (told (subst (λ z. FitsUnsigned w64 (pos tick +ℤ z)) (sym same) fits))
tick_given tick by at (Some x) same fits told = refl

pub tick_is : (tick : ℕ) (by at : ℤ) (sum : Option ℕ) (later : ℕ) → at ≡ by
    → SomeIff sum (FitsUnsigned w64 (pos tick +ℤ at)) (unsigned_abs (pos tick +ℤ at)) → sum ≡ Some later
    → later ≡ unsigned_abs (pos tick +ℤ by)
tick_is tick by at sum later same told is =
    (subst (λ o. SomeIff o (FitsUnsigned w64 (pos tick +ℤ at)) (unsigned_abs (pos tick +ℤ at))) is told).1
    ∙ ap (λ z. unsigned_abs (pos tick +ℤ z)) same

-- the list after a slice that is the whole list was replaced
pub whole_list : (n : ℕ) (new old : List Change) → n ≡ length new → take n (new ++ drop (length new) old) ≡ new
whole_list n new old all = take-append-le n new (drop (length new) old) (omega arith) ∙ take_all n new (omega arith)

-- ---- no later change moves

pub moved_nowhere : (cs : List Change) → map (moved_change (pos 0)) cs ≡ cs
unfolding moved_change
moved_nowhere [] = refl
moved_nowhere (c ∷ cs) =
    let tick : unsigned_abs (pos c.tick +ℤ pos 0) ≡ c.tick = omega (arith, ints) in
    λ i. record { tick = tick i; value = c.value } ∷ moved_nowhere cs i

pub list_stays : (xs : List Change) (from to : ℕ) (by : ℤ) → from ≡ to → by ≡ pos 0
    → xs ≡ take from xs ++ map (moved_change by) (drop to xs)
list_stays xs from to by none stay =
    sym ((λ i. take (none i) xs ++ map (moved_change (stay i)) (drop to xs))
    ∙ ap (λ l. take to xs ++ l) (moved_nowhere (drop to xs)) ∙ take-append-drop to xs)

-- ---- a splice and the one that undoes it

tick_back : (tick : ℕ) (by back : ℤ) → FitsUnsigned w64 (pos tick +ℤ by) → by +ℤ back ≡ pos 0
    → unsigned_abs (pos (unsigned_abs (pos tick +ℤ by)) +ℤ back) ≡ tick
tick_back tick by back fits opposite = omega (arith, ints, fits.0, opposite)

pub moved_back : (by back : ℤ) (cs : List Change) → by +ℤ back ≡ pos 0 → AllTicksFit by cs
    → map (moved_change back) (map (moved_change by) cs) ≡ cs
unfolding moved_change TickFits
moved_back by back [] opposite fit = refl
moved_back by back (c ∷ cs) opposite fit =
    let tick = tick_back c.tick by back (All-head (TickFits by) c cs fit) opposite in
    let head : moved_change back (moved_change by c) ≡ c = λ i. record { tick = tick i; value = c.value } in
    let tail = moved_back by back cs opposite (All-tail (TickFits by) c cs fit) in
    λ i. head i ∷ tail i

-- a tick that was moved can move back
tick_fits_back : (by back : ℤ) (c : Change) → c.tick < 2 ^ 64 → by +ℤ back ≡ pos 0 → TickFits by c
    → TickFits back (moved_change by c)
unfolding moved_change TickFits
tick_fits_back by back c small opposite fits =
    let same : pos (unsigned_abs (pos c.tick +ℤ by)) +ℤ back ≡ pos c.tick = omega (arith, ints, fits.0, opposite) in
    subst (FitsUnsigned w64) (sym same) (omega (arith, ints), omega (arith, ints, small))

moved_fit : (by back : ℤ) (cs : List Change) → All (λ c. c.tick < 2 ^ 64) cs → by +ℤ back ≡ pos 0 → AllTicksFit by cs
    → AllTicksFit back (map (moved_change by) cs)
moved_fit by back cs small opposite fit =
    All-map (TickFits back) (moved_change by) cs
    (λ k d within. tick_fits_back by back _ (small k d within) opposite (fit k d within))

module _ (cs piece : List Change) (from to : ℕ) (by back : ℤ) (ordered : from ≤ to) (within : to ≤ length cs) where
  prefix_is : length (take from cs) ≡ from
  prefix_is = length-take-le from cs (omega arith)

  both_are : length (take from cs ++ piece) ≡ from + length piece
  both_are = omega (arith, length-append (take from cs) piece, prefix_is)

  -- the later changes of a splice
  pub later_of-spliced : drop (from + length piece) (spliced_changes cs from to piece by)
      ≡ map (moved_change by) (drop to cs)
  unfolding spliced_changes
  later_of-spliced = drop_at (take from cs ++ piece) _ (from + length piece) both_are

  -- the first changes of a splice
  first_of-spliced : take from (spliced_changes cs from to piece by) ≡ take from cs
  unfolding spliced_changes
  first_of-spliced =
      ap (take from) (append_assoc (take from cs) piece _) ∙ take_at (take from cs) _ from prefix_is

  -- the piece within a splice
  pub piece_of-spliced : slice_range (spliced_changes cs from to piece by) from (from + length piece) ≡ piece
  unfolding spliced_changes
  piece_of-spliced =
      ap (λ l. take (from + length piece - from) (drop from l)) (append_assoc (take from cs) piece _)
      ∙ ap (take (from + length piece - from)) (drop_at (take from cs) _ from prefix_is)
      ∙ take_at piece _ (from + length piece - from) (omega arith)

  -- the splice of the replaced changes, with the opposite offset
  pub spliced_back : AllTicksFit by (drop to cs) → by +ℤ back ≡ pos 0
      → spliced_changes (spliced_changes cs from to piece by) from (from + length piece) (slice_range cs from to) back
      ≡ cs
  unfolding spliced_changes
  spliced_back fit opposite =
      let part = slice_range cs from to in
      let later : map (moved_change back) (drop (from + length piece) (spliced_changes cs from to piece by))
      ≡ drop to cs =
      ap (map (moved_change back)) later_of-spliced ∙ moved_back by back (drop to cs) opposite fit in
      (λ i. first_of-spliced i ++ part ++ later i)
      ∙ append_assoc (take from cs) part (drop to cs)
      ∙ ap (λ l. take from cs ++ l) (sym (drop_split cs from to ordered))
      ∙ take-append-drop from cs

  -- the piece is within the list
  pub back_within : from + length piece ≤ length (spliced_changes cs from to piece by)
  unfolding spliced_changes
  back_within = omega (arith, both_are, length-append (take from cs ++ piece) (map (moved_change by) (drop to cs)))

  -- the later ticks can move back
  pub back_fits : All (λ c. c.tick < 2 ^ 64) cs → AllTicksFit by (drop to cs) → by +ℤ back ≡ pos 0
      → AllTicksFit back (drop (from + length piece) (spliced_changes cs from to piece by))
  back_fits small fit opposite =
      subst (AllTicksFit back) (sym later_of-spliced)
      (moved_fit by back (drop to cs) (All-drop (λ c. c.tick < 2 ^ 64) to cs small) opposite fit)
