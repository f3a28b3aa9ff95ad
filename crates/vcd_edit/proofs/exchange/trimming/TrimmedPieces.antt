-- A piece without the changes that its list already has gives the same list; how the code finds these.
use Rattle.std.proofs.Common.{◌≡◌, ℕ, ◌+◌, ◌-◌, ◌^◌, ◌<◌, ◌≤◌, Bool, true, false, eqb, ℤ, pos, ◌+ℤ◌, ◌-ℤ◌, neg_ℤ}
use Rattle.std.proofs.Common.{unsigned_abs, List, length, drop, get_or, reverse, min, Option, Some, None, SomeIff, sym}
use Rattle.std.proofs.Common.{subst, ◌∙◌, arith, ◌++◌, take, map, slice_range, All, ap}
use Rattle.std.specs.Bool.{one_answer}
use Rattle.std.specs.Int.{w64, FitsUnsigned}
use Rattle.std.specs.List.{common_prefix_len}
use Rattle.std.specs.Option.{option_eq}
use Rattle.std.specs.Ordering.{int_eq}
use Rattle.std.proofs.lemmas.Bool.{false_from_ne_true}
use Rattle.std.proofs.lemmas.Bool.Decides.{Decides-eqb, Decides-int_eq}
use Rattle.std.proofs.lemmas.List.{length-reverse, length-drop, get_or-reverse, append_assoc, length-take-le}
use Rattle.std.proofs.lemmas.List.{drop-append-le, drop-drop, take-take, take-append-drop, take_rest, map-append}
use Rattle.std.proofs.lemmas.List.Sums.{common_prefix_len-le, common_prefix_len-drop_yes, common_prefix_len-drop_no}
use Rattle.std.proofs.lemmas.Int.{ints}
use Rattle.std.proofs.Math.Seq.{take-add}
use Rattle.std.proofs.lemmas.List.Edits.{length-between}
use Rattle.std.proofs.lemmas.List.Folds.{drop_split}
use Rattle.std.proofs.lemmas.List.Elements.{All-append, All-drop}
use Rattle.vcd_core.specs.declared.wave.Change.{Change}
use Rattle.vcd_core.specs.Splice.{moved_change, TickFits, AllTicksFit, spliced_changes}
use Rattle.vcd_edit.specs.RecordView.{PieceView}
use Rattle.vcd_edit.specs.Touched.{same_change, common_moved_suffix, touched_count}
use Rattle.vcd_edit.specs.inside.exchange.Trimming.{IsTrimmed}
use Rattle.vcd_edit.proofs.shared.TouchedChanges.{suffix_le, suffix_moves, prefix_same, touched_middle}

-- ==== the code's tests of changes, and its walks over two lists

-- whether a moved tick is another tick
pub moved_test : (old new : ℕ) (by at : ℤ) (sum : Option ℕ) (r : Bool) → at ≡ by → new < 2 ^ 64
    → SomeIff sum (FitsUnsigned w64 (pos old +ℤ at)) (unsigned_abs (pos old +ℤ at)) → r ≡ option_eq eqb sum (Some new)
    → r ≡ int_eq (pos old -ℤ neg_ℤ by) (pos new)
moved_test old new by at None r same small told is =
    is ∙ sym (false_from_ne_true _ (λ equal.
    let later : pos old -ℤ neg_ℤ by ≡ pos new = (Decides-int_eq _ _).0 equal in
    let here : pos old +ℤ at ≡ pos new = omega (arith, ints, later, same) in
    told (subst (FitsUnsigned w64) (sym here) (omega (arith, ints), omega (arith, ints, small)))))
moved_test old new by at (Some x) r same small told is =
    let fits : FitsUnsigned w64 (pos old +ℤ at) = told.0 in
    let value : x ≡ unsigned_abs (pos old +ℤ at) = told.1 in
    let there : x ≡ new → pos old -ℤ neg_ℤ by ≡ pos new =
    λ at_new. omega (arith, ints, fits.0, value, at_new, same) in
    let back : pos old -ℤ neg_ℤ by ≡ pos new → x ≡ new =
    λ later. omega (arith, ints, fits.0, value, later, same) in
    is ∙ one_answer (eqb x new) (int_eq (pos old -ℤ neg_ℤ by) (pos new)) (Decides-eqb x new)
    ((λ equal. back ((Decides-int_eq _ _).0 equal)), (λ at_new. (Decides-int_eq _ _).1 (there at_new)))

-- ---- walks over two lists

module _ (e : Change → Change → Bool) (xs ys : List Change) (i : ℕ) where
  -- after the shorter list nothing remains
  pub walk_end : (most : ℕ) → most ≡ min (length xs) (length ys) → most ≤ i → i ≤ most
      → i + common_prefix_len e (drop i xs) (drop i ys) ≡ common_prefix_len e xs ys → most ≡ common_prefix_len e xs ys
  walk_end most is past within left =
      let le = common_prefix_len-le e (drop i xs) (drop i ys) in
      omega (arith, le.0, le.1, length-drop i xs, length-drop i ys)

  -- from the end: what remains at a pair that differs, and at one that matches
  pub back_stops : (c d : Change) → i < length xs → i < length ys → c ≡ get_or xs (length xs - 1 - i) c
      → d ≡ get_or ys (length ys - 1 - i) d → e c d ≡ false
      → i + common_prefix_len e (drop i (reverse xs)) (drop i (reverse ys))
      ≡ common_prefix_len e (reverse xs) (reverse ys) → i ≡ common_prefix_len e (reverse xs) (reverse ys)
  back_stops c d in_xs in_ys is_c is_d differs left =
      let first = subst (λ x. e x (get_or (reverse ys) i d) ≡ false) (is_c ∙ sym (get_or-reverse xs i c in_xs))
      (subst (λ y. e c y ≡ false) (is_d ∙ sym (get_or-reverse ys i d in_ys)) differs) in
      let none = common_prefix_len-drop_no e (reverse xs) (reverse ys) i c d (omega (arith, length-reverse xs))
      (omega (arith, length-reverse ys)) first in
      omega (arith, left, none)

  pub back_more : (c d : Change) → i < length xs → i < length ys → c ≡ get_or xs (length xs - 1 - i) c
      → d ≡ get_or ys (length ys - 1 - i) d → e c d ≡ true
      → i + common_prefix_len e (drop i (reverse xs)) (drop i (reverse ys))
      ≡ common_prefix_len e (reverse xs) (reverse ys)
      → i + 1 + common_prefix_len e (drop (i + 1) (reverse xs)) (drop (i + 1) (reverse ys))
      ≡ common_prefix_len e (reverse xs) (reverse ys)
  back_more c d in_xs in_ys is_c is_d same left =
      let first = subst (λ x. e x (get_or (reverse ys) i d) ≡ true) (is_c ∙ sym (get_or-reverse xs i c in_xs))
      (subst (λ y. e c y ≡ true) (is_d ∙ sym (get_or-reverse ys i d in_ys)) same) in
      let one = common_prefix_len-drop_yes e (reverse xs) (reverse ys) i c d (omega (arith, length-reverse xs))
      (omega (arith, length-reverse ys)) first in
      omega (arith, left, one)

-- ==== a piece without the changes that its list already has gives the same list

module _ (cs ns : List Change) (a z : ℕ) (by o : ℤ) (opposite : o ≡ neg_ℤ by) (small : All (λ c. c.tick < 2 ^ 64) ns)
    (ordered : a ≤ z) (within : z ≤ length cs) (fit : AllTicksFit by (drop z cs)) where
  abbrev range : List Change
  range = slice_range cs a z

  -- how many match at the front
  abbrev prefix : ℕ
  prefix = common_prefix_len same_change range ns

  -- and of the rest at the end
  abbrev end : ℕ
  end = common_moved_suffix o (drop prefix range) (drop prefix ns)

  abbrev middle : List Change
  middle = take (length (drop prefix ns) - end) (drop prefix ns)

  range_long : length range ≡ z - a
  range_long = length-between cs a z within

  prefix_in_range : prefix ≤ z - a
  prefix_in_range = omega (arith, range_long, (common_prefix_len-le same_change range ns).0)

  prefix_in_piece : prefix ≤ length ns
  prefix_in_piece = (common_prefix_len-le same_change range ns).1

  end_in_range : prefix + end ≤ z - a
  end_in_range =
      let ends = suffix_le o (drop prefix range) (drop prefix ns) in
      omega (arith, range_long, length-drop prefix range, prefix_in_range, ends.0)

  end_in_piece : prefix + end ≤ length ns
  end_in_piece =
      let ends = suffix_le o (drop prefix range) (drop prefix ns) in
      omega (arith, length-drop prefix ns, prefix_in_piece, ends.1)

  moves : (map (moved_change by) (drop (length (drop prefix range) - end) (drop prefix range))
      ≡ drop (length (drop prefix ns) - end) (drop prefix ns))
      × AllTicksFit by (drop (length (drop prefix range) - end) (drop prefix range))
  moves = suffix_moves by o (drop prefix range) (drop prefix ns) opposite (All-drop (λ c. c.tick < 2 ^ 64) prefix ns
      small)

  -- the list up to the new range
  first_is : take (a + prefix) cs ≡ take a cs ++ take prefix ns
  first_is =
      take-add a prefix cs
      ∙ ap (λ l. take a cs ++ l) (sym (take-take prefix (z - a) (drop a cs) prefix_in_range) ∙ prefix_same range ns)

  -- the list from its end on
  last_is : drop (z - end) cs ≡ drop (length (drop prefix range) - end) (drop prefix range) ++ drop z cs
  last_is =
      let long : length (drop prefix range) ≡ z - a - prefix = omega (arith, range_long, length-drop prefix range) in
      ap (λ k. drop k cs) {x = z - end} {y = a + (z - a - end)} (omega (arith, end_in_range))
      ∙ sym (drop-drop (z - a - end) a cs) ∙ ap (drop (z - a - end)) (drop_split cs a z ordered)
      ∙ drop-append-le (z - a - end) range (drop z cs) (omega (arith, range_long))
      ∙ ap (λ k. drop k range ++ drop z cs) {x = z - a - end} {y = prefix + (length (drop prefix range) - end)}
      (omega (arith, long, end_in_range))
      ∙ ap (λ l. l ++ drop z cs) (sym (drop-drop (length (drop prefix range) - end) prefix range))

  piece_is : ns ≡ take prefix ns ++ (middle ++ drop (length (drop prefix ns) - end) (drop prefix ns))
  piece_is =
      sym (ap (λ l. take prefix ns ++ l) (take-append-drop (length (drop prefix ns) - end) (drop prefix ns))
      ∙ take-append-drop prefix ns)

  -- the splice of the trimmed piece
  pub trimmed_same : spliced_changes cs (a + prefix) (z - end) middle by ≡ spliced_changes cs a z ns by
  unfolding spliced_changes
  trimmed_same =
      let tail = drop (length (drop prefix ns) - end) (drop prefix ns) in
      let later = map (moved_change by) (drop z cs) in
      let last : map (moved_change by) (drop (z - end) cs) ≡ tail ++ later =
      ap (map (moved_change by)) last_is
      ∙ map-append (moved_change by) (drop (length (drop prefix range) - end) (drop prefix range)) (drop z cs)
      ∙ ap (λ l. l ++ later) moves.0 in
      (λ i. first_is i ++ middle ++ last i) ∙ sym (append_assoc (take a cs ++ take prefix ns ++ middle) tail later)
      ∙ ap (λ l. l ++ later) (
      ap (λ l. l ++ tail) (append_assoc (take a cs) (take prefix ns) middle)
      ∙ append_assoc (take a cs) (take prefix ns ++ middle) tail
      ∙ ap (λ l. take a cs ++ l) (append_assoc (take prefix ns) middle tail ∙ sym piece_is)
      )

  trimmed_ticks : AllTicksFit by (drop (z - end) cs)
  trimmed_ticks = subst (AllTicksFit by) (sym last_is)
      (All-append (TickFits by) (drop (length (drop prefix range) - end) (drop prefix range)) (drop z cs) moves.1 fit)

  -- the range that remains is touched
  trimmed_part : (z - end) - (a + prefix) ≤ touched_count o cs (spliced_changes cs a z ns by)
  unfolding touched_count spliced_changes
  trimmed_part =
      let least = touched_middle by o (take a cs) range ns (drop z cs) opposite fit in
      let whole : take a cs ++ range ++ drop z cs ≡ cs =
      append_assoc (take a cs) range (drop z cs) ∙ ap (λ l. take a cs ++ l) (sym (drop_split cs a z ordered))
      ∙ take-append-drop a cs in
      let here : touched_count o range ns ≤ touched_count o cs (take a cs ++ ns ++ map (moved_change by) (drop z cs)) =
      subst (λ l. touched_count o range ns ≤ touched_count o l (take a cs ++ ns ++ map (moved_change by) (drop z cs)))
      whole least in
      omega (arith, here, range_long, length-drop prefix range, end_in_range)

  middle_long : length middle ≡ length ns - prefix - end
  middle_long =
      let taken = length-take-le (length (drop prefix ns) - end) (drop prefix ns) (omega arith) in
      omega (arith, taken, length-drop prefix ns, end_in_piece)

  -- what the code finds
  pub found : (r b : ℕ) (at : ℤ) (shown rest list left : List Change) → at ≡ by → shown ≡ ns → list ≡ drop r ns
      → rest ≡ list → r ≡ common_prefix_len same_change range shown
      → b ≡ common_moved_suffix (neg_ℤ at) (take (length range - r) (drop r range)) rest
      → left ≡ take (length rest - b) list → (r ≡ prefix) × (b ≡ end) × (left ≡ middle)
  found r b at shown rest list left same_by same_piece dropped whole first last taken =
      let is_prefix : r ≡ prefix = first ∙ ap (common_prefix_len same_change range) same_piece in
      let rest_is : rest ≡ drop prefix ns = whole ∙ dropped ∙ ap (λ n. drop n ns) is_prefix in
      let range_is : take (length range - r) (drop r range) ≡ drop prefix range = take_rest range r
      ∙ ap (λ n. drop n range) is_prefix in
      let is_end : b ≡ end =
      last ∙ ap (λ z. common_moved_suffix (neg_ℤ z) (take (length range - r) (drop r range)) rest) same_by
      ∙ ap (λ z. common_moved_suffix z (take (length range - r) (drop r range)) rest) (sym opposite)
      ∙ (λ i. common_moved_suffix o (range_is i) (rest_is i)) in
      (is_prefix, is_end, taken ∙ (λ i. take (length (rest_is i) - is_end i) ((sym whole ∙ rest_is) i)))

  pub is_trimmed : (old new : PieceView) → old.from ≡ a → old.to ≡ z → old.changes ≡ ns → old.by ≡ by
      → new.signal ≡ old.signal → new.by ≡ old.by
      → new.from ≡ a + prefix → new.to ≡ z - end → new.changes ≡ middle → IsTrimmed cs old new
  is_trimmed old new from to piece by_is signal same_by new_from new_to new_piece =
      let by_new : new.by ≡ by = same_by ∙ by_is in
      record {
        signal = signal;
        by = same_by;
        ordered = omega (arith, new_from, new_to, end_in_range);
        within = omega (arith, new_to, within);
        ticks = subst (λ b. AllTicksFit b (drop new.to cs)) (sym by_new)
            (subst (λ k. AllTicksFit by (drop k cs)) (sym new_to) trimmed_ticks);
        same = (λ i. spliced_changes cs (new_from i) (new_to i) (new_piece i) (by_new i)) ∙ trimmed_same
            ∙ sym (λ i. spliced_changes cs (from i) (to i) (piece i) (by_is i));
        touched_only = subst (λ l. new.to - new.from ≤ touched_count (neg_ℤ old.by) cs l)
            (sym (λ i. spliced_changes cs (from i) (to i) (piece i) (by_is i)))
            (subst (λ p. new.to - new.from ≤ touched_count p cs (spliced_changes cs a z ns by)) (opposite
            ∙ ap neg_ℤ (sym by_is)) (omega (arith, new_from, new_to, trimmed_part)));
        no_longer = omega (arith, new_from, new_to, from, to, end_in_range);
        balance = omega (arith, ap length new_piece, ap length piece, middle_long, end_in_range, end_in_piece);
      }
