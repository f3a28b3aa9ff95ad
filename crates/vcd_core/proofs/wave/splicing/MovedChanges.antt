-- Changes that move down or up within their list, each with its new tick.
use Rattle.std.proofs.Common.{◌≡◌, ℕ, ◌+◌, ◌-◌, ◌<◌, ◌≤◌, ℤ, List, [], ◌∷◌, ◌++◌, length, take, drop, map, get_or}
use Rattle.std.proofs.Common.{subst, sym, ap, ◌∙◌, arith}
use Rattle.std.proofs.Math.ListN.{set}
use Rattle.std.proofs.Math.Seq.{set-append_seam}
use Rattle.std.proofs.lemmas.List.{append_assoc, length-append, length-take-le, length-drop, take-append-le, length-map}
use Rattle.std.proofs.lemmas.List.{get_or-take, get_or-drop, get_or_append_left, get_or-append_right, take-take}
use Rattle.std.proofs.lemmas.List.{get_or_default, take_more, take_at, drop_at, length-take, drop_more, get_or-map}
use Rattle.std.proofs.lemmas.List.Edits.{paste_more}
use lib.Seq.{paste}
use Rattle.vcd_core.specs.declared.wave.Change.{Change}
use Rattle.vcd_core.specs.Splice.{moved_change, TickFits, AllTicksFit}

-- ---- down: the first k changes from `to` on are from `from` on

-- the list after the move
abbrev pub pulled : (Change → Change) → List Change → ℕ → ℕ → ℕ → List Change
pulled f xs from to k = paste xs from (map f (drop to xs)) k

module _ (f : Change → Change) (xs : List Change) (from to : ℕ) (ordered : from ≤ to) where
  prefix_long : (k : ℕ) → to + k ≤ length xs → length (take from xs ++ take k (map f (drop to xs))) ≡ from + k
  prefix_long k within = omega (
    arith,
    length-append {A = Change},
    length-map {A = Change} {B = Change},
    length-take {A = Change},
    length-drop {A = Change},
  )

  -- the next one is still the old one
  pub next_to_pull : (ys : List Change) (k i : ℕ) (d : Change) → i ≡ to + k → to + k < length xs
      → ys ≡ pulled f xs from to k → get_or ys i d ≡ get_or xs i d
  next_to_pull ys k i d at within is =
      let back : from + k + (i - (from + k)) ≡ i = omega arith in
      ap (λ l. get_or l i d) is
      ∙ get_or-append_right (take from xs ++ take k (map f (drop to xs))) (drop (from + k) xs) (from + k) i d
      (prefix_long k (omega arith)) (omega arith)
      ∙ get_or-drop (from + k) xs (i - (from + k)) d ∙ ap (λ n. get_or xs n d) back

  pub one_pulled : (ys : List Change) (k i j : ℕ) (x : Change) → i ≡ to + k → j ≡ from + k → to + k < length xs
      → ys ≡ pulled f xs from to k → x ≡ get_or xs i x
      → set ys j (f x) ≡ pulled f xs from to (k + 1)
  one_pulled ys k i j x at index within is read =
      let inside : k < length (drop to xs) = omega (arith, length-drop to xs) in
      let next : f x ≡ get_or (map f (drop to xs)) k x =
      sym (get_or-map f (drop to xs) k x x inside ∙ ap f (get_or-drop to xs k x ∙ ap (λ n. get_or xs n x) (sym at)
      ∙ sym read)) in
      (λ p. set (is p) (index p) (next p))
      ∙ paste_more xs from (map f (drop to xs)) k x (omega arith) (omega (arith, length-map (drop to xs) f))

-- ---- up: the changes from `left` on, but the last `gap`, are `gap` places higher

abbrev pub lifted : (Change → Change) → List Change → ℕ → ℕ → ℕ → List Change
lifted f xs n gap left = take (left + gap) xs ++ map f (drop left (take n xs))

module _ (f : Change → Change) (xs : List Change) (n gap : ℕ) (all : n + gap ≡ length xs) where
  pub next_to_lift : (ys : List Change) (left before : ℕ) (d : Change) → before + 1 ≡ left → left ≤ n
      → ys ≡ lifted f xs n gap left → get_or ys before d ≡ get_or xs before d
  next_to_lift ys left before d one within is =
      ap (λ l. get_or l before d) is
      ∙ get_or_append_left (take (left + gap) xs) (map f (drop left (take n xs))) d before
      (omega (arith, length-take-le (left + gap) xs (omega arith)))
      ∙ get_or-take (left + gap) xs before d (omega arith)

  pub one_lifted : (ys : List Change) (left before : ℕ) (x : Change) → before + 1 ≡ left → left ≤ n
      → ys ≡ lifted f xs n gap left → x ≡ get_or xs before x
      → set ys (before + gap) (f x) ≡ lifted f xs n gap before
  one_lifted ys left before x one within is read =
      let prefix = take (before + gap) xs in
      let long : length prefix ≡ before + gap = length-take-le (before + gap) xs (omega arith) in
      let count : left + gap ≡ before + gap + 1 = omega arith in
      let split : take (left + gap) xs ≡ prefix ++ get_or xs (before + gap) x ∷ [] = ap (λ k. take k xs) count
      ∙ take_more xs (before + gap) x (omega arith) in
      let next : get_or (take n xs) before x ≡ x = get_or-take n xs before x (omega arith) ∙ sym read in
      let rest : drop before (take n xs) ≡ x ∷ drop left (take n xs) =
      drop_more (take n xs) before x (omega (arith, length-take-le n xs (omega arith)))
      ∙ (λ p. next p ∷ drop (one p) (take n xs)) in
      (λ p. set ((is ∙ ap (λ l. l ++ map f (drop left (take n xs))) split
      ∙ append_assoc prefix (get_or xs (before + gap) x ∷ []) (map f (drop left (take n xs)))) p) (sym long p) (f x))
      ∙ set-append_seam prefix (get_or xs (before + gap) x) (map f (drop left (take n xs))) (f x)
      ∙ ap (λ l. prefix ++ map f l) (sym rest)

-- ---- the steps of the loops

-- the next change to move down has a tick that fits, and is put in its place
module _ (at : ℤ) (xs ys : List Change) (from to i : ℕ) (d : Change) (ordered : from ≤ to) (following : to ≤ i)
    (within : i < length xs) (is : ys ≡ pulled (moved_change at) xs from to (i - to)) where
  same_change : get_or ys i d ≡ get_or xs i d
  same_change = next_to_pull (moved_change at) xs from to ordered ys (i - to) i d (omega arith) (omega arith) is

  pub pulled_fits : (by : ℤ) → at ≡ by → AllTicksFit by (drop to xs) → TickFits at (get_or ys i d)
  pulled_fits by same fits =
      let index : to + (i - to) ≡ i = omega arith in
      let read : get_or (drop to xs) (i - to) d ≡ get_or ys i d = get_or-drop to xs (i - to) d
      ∙ ap (λ n. get_or xs n d) index ∙ sym same_change in
      subst (λ z. TickFits z (get_or ys i d)) (sym same)
      (subst (TickFits by) read (fits (i - to) d (omega (arith, length-drop to xs))))

  pub pulled_more : (j : ℕ) (next : Change) → j ≡ i - (to - from) → next ≡ moved_change at (get_or ys i d)
      → set ys j next ≡ pulled (moved_change at) xs from to (i + 1 - to)
  pulled_more j next index told =
      let x : Change = get_or ys i d in
      let read : x ≡ get_or xs i x = same_change ∙ get_or_default xs i d x within in
      let count : i - to + 1 ≡ i + 1 - to = omega arith in
      ap (set ys j) told ∙ one_pulled (moved_change at) xs from to ordered ys (i - to) i j x (omega arith) (omega arith)
      (omega arith) is read
      ∙ ap (pulled (moved_change at) xs from to) count

-- the same for the next change to move up
module _ (at : ℤ) (xs ys : List Change) (n gap left : ℕ) (d : Change) (all : n + gap ≡ length xs) (some : 0 < left)
    (within : left ≤ n) (is : ys ≡ lifted (moved_change at) xs n gap left) where
  same_below : get_or ys (left - 1) d ≡ get_or xs (left - 1) d
  same_below = next_to_lift (moved_change at) xs n gap all ys left (left - 1) d (omega arith) within is

  pub lifted_fits : (from : ℕ) (by : ℤ) → at ≡ by → from < left → AllTicksFit by (drop from (take n xs))
      → TickFits at (get_or ys (left - 1) d)
  lifted_fits from by same below fits =
      let k : ℕ = left - 1 - from in
      let index : from + k ≡ left - 1 = omega arith in
      let read : get_or (drop from (take n xs)) k d ≡ get_or ys (left - 1) d =
      get_or-drop from (take n xs) k d ∙ ap (λ i. get_or (take n xs) i d) index
      ∙ get_or-take n xs (left - 1) d (omega arith) ∙ sym same_below in
      subst (λ z. TickFits z (get_or ys (left - 1) d)) (sym same)
      (subst (TickFits by) read
      (fits k d (omega (arith, length-drop from (take n xs), length-take-le n xs (omega arith)))))

  pub lifted_more : (next : Change) → next ≡ moved_change at (get_or ys (left - 1) d)
      → set ys (left - 1 + gap) next ≡ lifted (moved_change at) xs n gap (left - 1)
  lifted_more next told =
      let x : Change = get_or ys (left - 1) d in
      let read : x ≡ get_or xs (left - 1) x = same_below ∙ get_or_default xs (left - 1) d x (omega arith) in
      ap (set ys (left - 1 + gap)) told
      ∙ one_lifted (moved_change at) xs n gap all ys left (left - 1) x (omega arith) within is read

-- a piece that was appended to a list moves into the gap
pub put_into_gap : (f : Change → Change) (xs piece whole lifts list new : List Change) (from gap : ℕ)
    → gap ≡ length piece → from ≤ length xs → whole ≡ xs ++ piece
    → lifts ≡ take (from + gap) whole ++ map f (drop from (take (length whole - gap) whole)) → list ≡ lifts
    → new ≡ take from list ++ piece ++ drop (from + gap) list → new ≡ take from xs ++ piece ++ map f (drop from xs)
put_into_gap f xs piece whole lifts list new from gap count within both up same is =
    let prefix = take (from + gap) (xs ++ piece) in
    let tail = map f (drop from xs) in
    let long : length prefix ≡ from + gap =
    length-take-le (from + gap) (xs ++ piece) (omega (arith, length-append xs piece)) in
    let own : take (length (xs ++ piece) - gap) (xs ++ piece) ≡ xs =
    take_at xs piece _ (omega (arith, length-append xs piece)) in
    let made : list ≡ prefix ++ tail = same ∙ up
    ∙ (λ p. take (from + gap) (both p) ++ map f (drop from (take (length (both p) - gap) (both p))))
    ∙ ap (λ l. prefix ++ map f (drop from l)) own in
    let first : take from (prefix ++ tail) ≡ take from xs =
    take-append-le from prefix tail (omega (arith, long)) ∙ take-take from (from + gap) (xs ++ piece) (omega arith)
    ∙ take-append-le from xs piece within in
    let following : drop (from + gap) (prefix ++ tail) ≡ tail = drop_at prefix tail (from + gap) long in
    is ∙ (λ p. take from (made p) ++ piece ++ drop (from + gap) (made p)) ∙ (λ p. first p ++ piece ++ following p)
