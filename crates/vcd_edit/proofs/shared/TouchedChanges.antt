-- What a splice touches, and that opposite pieces store no more than what is touched.
use Rattle.std.proofs.Common.{◌≡◌, ℕ, suc, ◌+◌, ◌-◌, ◌^◌, ◌<◌, ◌≤◌, ◌==◌, Bool, true, ℤ, pos, ◌+ℤ◌, ◌-ℤ◌, neg_ℤ}
use Rattle.std.proofs.Common.{unsigned_abs, List, [], ◌∷◌, ◌++◌, length, take, drop, get_or, map, reverse, All, refl}
use Rattle.std.proofs.Common.{sym, ap, subst, ◌∙◌, inl, inr, arith, zero, set, Option, Some, None}
use Rattle.std.specs.Int.{w64, FitsUnsigned}
use Rattle.std.specs.Bool.{Decides}
use Rattle.std.specs.List.{common_prefix_len, sum_by}
use Rattle.std.specs.Ordering.{int_eq}
use Rattle.std.proofs.lemmas.Bool.{cases_lt, cases_Bool, and_from, and_parts, eq-eqb, eqb-true, cond-true, cond-false}
use Rattle.std.proofs.lemmas.Bool.{ne_eqb}
use Rattle.std.proofs.lemmas.Bool.Decides.{Decides-int_eq}
use Rattle.std.proofs.Math.Seq.{drop-append-add}
use Rattle.std.proofs.lemmas.List.{append_assoc, reverse-append, reverse-reverse, length-append, length-map}
use Rattle.std.proofs.lemmas.List.{length-reverse, length-drop, drop-append-le, take-append-le, take_all, drop_at}
use Rattle.std.proofs.lemmas.List.{append-nil, take-append-drop, get_or-reverse, map-append, map-id, get_or-map}
use Rattle.std.proofs.lemmas.List.Sums.{common_prefix_len-le, sum_by-cons}
use Rattle.std.proofs.lemmas.List.Elements.{All-nil, All-cons, All-head, All-tail}
use Rattle.std.proofs.lemmas.Int.{ints}
use Rattle.vcd_core.specs.declared.wave.Change.{Change}
use Rattle.vcd_core.proofs.shared.Pushes.{all_from_upto}
use Rattle.vcd_core.specs.declared.capture.TheConstants.{END_LIMIT}
use Rattle.vcd_core.specs.Value.{same_letters}
use Rattle.vcd_core.specs.Wave.{AllUpTo}
use Rattle.vcd_core.specs.inside.value.EqualByLetters.{same_letters-Decides}
use Rattle.vcd_core.specs.Splice.{moved_change, TickFits, AllTicksFit}
use Rattle.vcd_core.specs.Contents.{Contents, SignalContents, no_signal, signal_at}
use Rattle.vcd_edit.specs.Touched.{same_change, same_moved_change, common_moved_suffix, touched_count}
use Rattle.vcd_edit.specs.Touched.{touched_in_signal, touched_from, piece_advance}
use Rattle.vcd_edit.specs.RecordView.{PieceView}
use Rattle.vcd_edit.specs.AppliedRecords.{changes_with_piece, signal_with_changes, with_piece, with_pieces, RiseFrom}
use Rattle.vcd_edit.specs.inside.exchange.Pieces.{AreOppositePieces}
use Rattle.vcd_edit.proofs.exchange.ExchangedPieces.{signal_here, signal_kept, counts_kept, count_kept, all_from}

-- ==== what a splice touches, by its range and its piece

-- ---- tests of changes

same_letters_self : (c : Change) → same_letters c.value c.value ≡ true
same_letters_self c = (same_letters-Decides c.value c.value).1 refl

pub same_change_self : (c : Change) → same_change c c ≡ true
same_change_self c = and_from (c.tick == c.tick) (same_letters c.value c.value) (eq-eqb c.tick c.tick refl)
    (same_letters_self c)

same_change_is : (c d : Change) → same_change c d ≡ true → c ≡ d
same_change_is c d same =
    let parts = and_parts (c.tick == d.tick) (same_letters c.value d.value) same in
    λ i. record { tick = eqb-true c.tick d.tick parts.0 i; value = (same_letters-Decides c.value d.value).0 parts.1 i }

pub same_change-Decides : (c d : Change) → Decides (same_change c d) (c ≡ d)
same_change-Decides c d = (
  same_change_is c d,
  λ same. subst (λ (e : Change). same_change c e ≡ true) same (same_change_self c),
)

-- a change matches its moved change
same_lowered_moved : (by o : ℤ) (c : Change) → o ≡ neg_ℤ by → TickFits by c
    → same_moved_change o c (moved_change by c) ≡ true
unfolding moved_change TickFits
same_lowered_moved by o c opposite fits =
    let tick : pos c.tick -ℤ o ≡ pos (unsigned_abs (pos c.tick +ℤ by)) = omega (arith, ints, fits.0, opposite) in
    and_from _ _ ((Decides-int_eq _ _).1 tick) (same_letters_self c)

-- and only that one
same_lowered_is : (by o : ℤ) (c d : Change) → o ≡ neg_ℤ by → d.tick < 2 ^ 64 → same_moved_change o c d ≡ true
    → (moved_change by c ≡ d) × TickFits by c
unfolding moved_change TickFits
same_lowered_is by o c d opposite small same =
    let parts = and_parts (int_eq (pos c.tick -ℤ o) (pos d.tick)) (same_letters c.value d.value) same in
    let tick : pos c.tick -ℤ o ≡ pos d.tick = (Decides-int_eq _ _).0 parts.0 in
    let later : pos c.tick +ℤ by ≡ pos d.tick = omega (arith, ints, tick, opposite) in
    let value : c.value ≡ d.value = (same_letters-Decides c.value d.value).0 parts.1 in (
      (λ i. record { tick = unsigned_abs (later i); value = value i }),
      subst (FitsUnsigned w64) (sym later) (omega (arith, ints), omega (arith, ints, small)),
    )

-- changes that stay where they are
pub stay_fit : (end : ℕ) (cs : List Change) → end ≤ END_LIMIT → AllUpTo end cs → AllTicksFit (pos 0) cs
unfolding TickFits
stay_fit end cs small upto = λ k d less.
    let le = all_from_upto end cs upto k d less in (omega (arith, ints), omega (arith, ints, small, le))

-- ---- common prefixes

module _ {X Y : Type 0} (e : X → Y → Bool) where
  -- two lists that begin with matching lists
  prefix_after : (h : X → Y) (us xs : List X) (ys : List Y) → All (λ a. e a (h a) ≡ true) us
      → common_prefix_len e (us ++ xs) (map h us ++ ys) ≡ length us + common_prefix_len e xs ys
  prefix_after h [] xs ys match = omega arith
  prefix_after h (a ∷ us) xs ys match =
      cond-true (e a (h a)) _ _ (All-head (λ a. e a (h a) ≡ true) a us match)
      ∙ ap (λ n. 1 + n) (prefix_after h us xs ys (All-tail (λ a. e a (h a) ≡ true) a us match)) ∙ omega arith

  -- lists that differ before either ends
  prefix_differs : (xs cs : List X) (ys ds : List Y) → common_prefix_len e xs ys < length xs
      → common_prefix_len e xs ys < length ys → common_prefix_len e (xs ++ cs) (ys ++ ds) ≡ common_prefix_len e xs ys
  prefix_differs [] cs ys ds in_xs in_ys = absurd (omega arith)
  prefix_differs (x ∷ xs) cs [] ds in_xs in_ys = absurd (omega arith)
  prefix_differs (x ∷ xs) cs (y ∷ ys) ds in_xs in_ys =
      elim (cases_Bool (e x y)) [
        | inl is ↦
            let here : common_prefix_len e (x ∷ xs) (y ∷ ys) ≡ 1 + common_prefix_len e xs ys =
            cond-true (e x y) _ _ is in
            cond-true (e x y) _ _ is ∙ ap (λ n. 1 + n) (prefix_differs xs cs ys ds (omega arith) (omega arith))
            ∙ sym here
        | inr is ↦ cond-false (e x y) _ _ is ∙ sym (cond-false (e x y) _ _ is)
      ]

  -- the pairs that match at the front of each first part
  prefix_parts : (h : X → Y) (P : X → Type 0) (Q : Y → Type 0)
      → ((a : X) (b : Y) → Q b → e a b ≡ true → (h a ≡ b) × P a) → (xs : List X) (ys : List Y) → All Q ys
      → (map h (take (common_prefix_len e xs ys) xs) ≡ take (common_prefix_len e xs ys) ys)
      × All P (take (common_prefix_len e xs ys) xs)
  prefix_parts h P Q means [] ys all = (refl, All-nil P)
  prefix_parts h P Q means (x ∷ xs) [] all = (refl, All-nil P)
  prefix_parts h P Q means (x ∷ xs) (y ∷ ys) all =
      elim (cases_Bool (e x y)) [
        | inl is ↦
            let rest = prefix_parts h P Q means xs ys (All-tail Q y ys all) in
            let here = means x y (All-head Q y ys all) is in
            let more : 1 + common_prefix_len e xs ys ≡ suc (common_prefix_len e xs ys) = omega arith in
            subst (λ n. (map h (take n (x ∷ xs)) ≡ take n (y ∷ ys)) × All P (take n (x ∷ xs)))
            (sym (cond-true (e x y) (1 + common_prefix_len e xs ys) 0 is ∙ more))
            ((λ i. here.0 i ∷ rest.0 i), All-cons P x _ here.1 rest.1)
        | inr is ↦ subst (λ n. (map h (take n (x ∷ xs)) ≡ take n (y ∷ ys)) × All P (take n (x ∷ xs)))
            (sym (cond-false (e x y) (1 + common_prefix_len e xs ys) 0 is)) (refl, All-nil P)
      ]

-- ---- common suffixes

-- the last changes that move with the tail match
suffix_end : (by o : ℤ) (xs ys cs : List Change) → o ≡ neg_ℤ by → AllTicksFit by cs
    → common_moved_suffix o (xs ++ cs) (ys ++ map (moved_change by) cs) ≡ length cs + common_moved_suffix o xs ys
suffix_end by o xs ys [] opposite fit = (λ i. common_moved_suffix o (append-nil xs i) (append-nil ys i)) ∙ omega arith
suffix_end by o xs ys (c ∷ cs) opposite fit =
    let d = moved_change by c in
    let last : common_moved_suffix o (xs ++ c ∷ []) (ys ++ d ∷ []) ≡ 1 + common_moved_suffix o xs ys =
    (λ i. common_prefix_len (same_moved_change o) (reverse-append xs (c ∷ []) i) (reverse-append ys (d ∷ []) i))
    ∙ cond-true (same_moved_change o c d) _ _ (same_lowered_moved by o c opposite (All-head (TickFits by) c cs fit)) in
    (λ i. common_moved_suffix o (sym (append_assoc xs (c ∷ []) cs) i)
    (sym (append_assoc ys (d ∷ []) (map (moved_change by) cs)) i))
    ∙ suffix_end by o (xs ++ c ∷ []) (ys ++ d ∷ []) cs opposite (All-tail (TickFits by) c cs fit)
    ∙ ap (λ n. length cs + n) last ∙ omega arith

pub suffix_le : (o : ℤ) (xs ys : List Change) → (common_moved_suffix o xs ys ≤ length xs)
    × (common_moved_suffix o xs ys ≤ length ys)
suffix_le o xs ys =
    let both = common_prefix_len-le (same_moved_change o) (reverse xs) (reverse ys) in
    (omega (arith, both.0, length-reverse xs), omega (arith, both.1, length-reverse ys))

module _ {X : Type 0} where
  -- the end of a list, by its reverse
  drop-by_reverse : (xs : List X) (n : ℕ) → n ≤ length xs → drop (length xs - n) xs ≡ reverse (take n (reverse xs))
  drop-by_reverse xs n le =
      let back = reverse xs in
      let parts : xs ≡ reverse (drop n back) ++ reverse (take n back) =
      sym (ap reverse (take-append-drop n back) ∙ reverse-reverse xs) ∙ reverse-append (take n back) (drop n back) in
      ap (drop (length xs - n)) parts
      ∙ drop_at (reverse (drop n back)) (reverse (take n back)) (length xs - n)
      (omega (arith, length-reverse (drop n back), length-drop n back, length-reverse xs))

  -- a slice that is the whole list leaves it whole
  pub whole_list : (n : ℕ) (new old : List X) → n ≡ length new → take n (new ++ drop (length new) old) ≡ new
  whole_list n new old all = take-append-le n new (drop (length new) old) (omega arith) ∙ take_all n new (omega arith)

  pub map-reverse : {Y : Type 0} (h : X → Y) (xs : List X) → map h (reverse xs) ≡ reverse (map h xs)
  map-reverse h [] = refl
  map-reverse h (x ∷ xs) =
      ap (map h) (reverse-append (x ∷ []) xs) ∙ map-append h (reverse xs) (x ∷ [])
      ∙ ap (λ l. l ++ h x ∷ []) (map-reverse h xs) ∙ sym (reverse-append (h x ∷ []) (map h xs))

  pub All-reverse : (P : X → Type 0) (xs : List X) → All P xs → All P (reverse xs)
  All-reverse P xs all = λ k d within.
      let long : k < length xs = omega (arith, within, length-reverse xs) in
      subst P (sym (get_or-reverse xs k d long)) (all (length xs - 1 - k) d (omega arith))

-- the old changes that match at the end move to the new ones
pub suffix_moves : (by o : ℤ) (xs ys : List Change) → o ≡ neg_ℤ by → All (λ c. c.tick < 2 ^ 64) ys
    → (map (moved_change by) (drop (length xs - common_moved_suffix o xs ys) xs)
    ≡ drop (length ys - common_moved_suffix o xs ys) ys)
    × AllTicksFit by (drop (length xs - common_moved_suffix o xs ys) xs)
suffix_moves by o xs ys opposite small =
    let n = common_moved_suffix o xs ys in
    let le = suffix_le o xs ys in
    let parts = prefix_parts (same_moved_change o) (moved_change by) (TickFits by) (λ c. c.tick < 2 ^ 64)
    (λ c d less same. same_lowered_is by o c d opposite less same)
    (reverse xs) (reverse ys) (All-reverse (λ c. c.tick < 2 ^ 64) ys small) in (
      ap (map (moved_change by)) (drop-by_reverse xs n le.0) ∙ map-reverse (moved_change by) (take n (reverse xs))
          ∙ ap reverse parts.0 ∙ sym (drop-by_reverse ys n le.1),
      subst (AllTicksFit by) (sym (drop-by_reverse xs n le.0))
          (All-reverse (TickFits by) (take n (reverse xs)) parts.1),
    )

-- the old changes that match at the front are the new ones
pub prefix_same : (xs ys : List Change)
    → take (common_prefix_len same_change xs ys) xs ≡ take (common_prefix_len same_change xs ys) ys
prefix_same xs ys =
    let n = common_prefix_len same_change xs ys in
    sym (map-id (take n xs))
    ∙ (prefix_parts same_change (λ c. c) (λ c. Unit {0}) (λ c. Unit {0}) (λ c d _ same. (same_change_is c d same, tt))
    xs ys (λ k d within. tt)).0

-- ---- what a list touches

-- a list touches at least as many changes as it is longer
touched_least : (o : ℤ) (old new : List Change) → length old ≤ touched_count o old new + length new
unfolding touched_count
touched_least o old new =
    let n = common_prefix_len same_change old new in
    let prefix = common_prefix_len-le same_change old new in
    let end = suffix_le o (drop n old) (drop n new) in
    omega (arith, prefix.0, prefix.1, end.0, end.1, length-drop n old, length-drop n new)

module _ (by o : ℤ) (before ms ns cs : List Change) (opposite : o ≡ neg_ℤ by) (fit : AllTicksFit by cs) where
  abbrev old : List Change
  old = before ++ ms ++ cs

  abbrev new : List Change
  new = before ++ ns ++ map (moved_change by) cs

  abbrev prefix : ℕ
  prefix = common_prefix_len same_change ms ns

  prefix_is : prefix < length ms → prefix < length ns → common_prefix_len same_change old new ≡ length before + prefix
  prefix_is in_ms in_ns =
      (λ i. common_prefix_len same_change (append_assoc before ms cs i)
      (append_assoc before ns (map (moved_change by) cs) i))
      ∙ ap (λ l. common_prefix_len same_change (before ++ (ms ++ cs)) (l ++ (ns ++ map (moved_change by) cs)))
      (sym (map-id before))
      ∙ prefix_after same_change (λ c. c) before (ms ++ cs) (ns ++ map (moved_change by) cs)
      (λ k d within. same_change_self (get_or before k d))
      ∙ ap (λ n. length before + n) (prefix_differs same_change ms cs ns (map (moved_change by) cs) in_ms in_ns)

  rest_is : (xs ds : List Change) → prefix ≤ length xs
      → drop (length before + prefix) (before ++ xs ++ ds) ≡ drop prefix xs ++ ds
  rest_is xs ds le =
      ap (drop (length before + prefix)) (append_assoc before xs ds) ∙ drop-append-add before (xs ++ ds) prefix
      ∙ drop-append-le prefix xs ds le

  -- a range replaced in a list, with the later changes moved, touches no more than the whole list
  pub touched_middle : touched_count o ms ns ≤ touched_count o old new
  unfolding touched_count
  touched_middle =
      let both = common_prefix_len-le same_change ms ns in
      elim (cases_lt prefix (length ms)) [
        | inr up ↦ omega arith
        | inl in_ms ↦ elim (cases_lt prefix (length ns)) [
          | inr all ↦
              let least = touched_least o old new in
              let lengths : length old + length ns ≡ length new + length ms =
              omega (
                arith,
                length-append (before ++ ms) cs,
                length-append before ms,
                length-append (before ++ ns) (map (moved_change by) cs),
                length-append before ns,
                length-map cs (moved_change by),
              ) in
              omega (arith, least, lengths, both.0, both.1)
          | inl in_ns ↦
              let same = prefix_is in_ms in_ns in
              let ends : common_moved_suffix o (drop (common_prefix_len same_change old new) old)
              (drop (common_prefix_len same_change old new) new)
              ≡ length cs + common_moved_suffix o (drop prefix ms) (drop prefix ns) =
              (λ i. common_moved_suffix o (drop (same i) old) (drop (same i) new))
              ∙ (λ i. common_moved_suffix o (rest_is ms cs (omega arith) i)
              (rest_is ns (map (moved_change by) cs) (omega arith) i))
              ∙ suffix_end by o (drop prefix ms) (drop prefix ns) cs opposite fit in
              omega (arith, same, ends, length-append (before ++ ms) cs, length-append before ms)
        ]
      ]

-- ==== what opposite pieces store is at most what is touched, signal by signal

-- ---- the sum over the signals

-- another signal in its place changes only its own part
pub touched-set : (advance : ℕ → ℤ) (j : ℕ) (ss : List SignalContents) (ns : List (Option SignalContents)) (k : ℕ)
    (s new : SignalContents) (n : Option SignalContents) → k < length ss → k < length ns
    → touched_from advance j (set ss k new) ns + touched_in_signal (advance (j + k)) (get_or ss k s) (get_or ns k n)
    ≡ touched_from advance j ss ns + touched_in_signal (advance (j + k)) new (get_or ns k n)
unfolding touched_from
touched-set advance j [] ns k s new n in_ss in_ns = absurd (omega arith)
touched-set advance j (x ∷ ss) [] k s new n in_ss in_ns = absurd (omega arith)
touched-set advance j (x ∷ ss) (y ∷ ns) zero s new n in_ss in_ns =
    let old = ap (λ i. touched_in_signal (advance i) x y) {x = j + 0} {y = j} (omega arith) in
    omega (arith, old, ap (λ i. touched_in_signal (advance i) new y) {x = j + 0} {y = j} (omega arith))
touched-set advance j (x ∷ ss) (y ∷ ns) (suc k) s new n in_ss in_ns =
    let rest = touched-set advance (suc j) ss ns k s new n (omega arith) (omega arith) in
    let index : j + suc k ≡ suc j + k = omega arith in
    let old = ap (λ i. touched_in_signal (advance i) (get_or ss k s) (get_or ns k n)) index in
    omega (arith, rest, old, ap (λ i. touched_in_signal (advance i) new (get_or ns k n)) index)

-- ---- pieces

-- a list that stays touches nothing
touched_self : (o : ℤ) (cs : List Change) → touched_count o cs cs ≡ 0
unfolding touched_count
touched_self o cs =
    let same : common_prefix_len same_change cs cs ≡ length cs = prefix_self cs in
    omega (arith, same)
  where
    prefix_self : (xs : List Change) → common_prefix_len same_change xs xs ≡ length xs
    prefix_self [] = refl
    prefix_self (x ∷ xs) = cond-true (same_change x x) _ _ (same_change_self x) ∙ omega (arith, prefix_self xs)

-- what opposite pieces store, with the opposite offsets
pub stored_within : (advance : ℕ → ℤ) (c : Contents) (ps qs : List PieceView) (j : ℕ) → RiseFrom j ps
    → AreOppositePieces c ps qs → All (λ p. advance p.signal ≡ neg_ℤ p.by) ps
    → sum_by (λ q. length q.changes) qs ≤ touched_from advance 0 c.signals (map Some (with_pieces c ps).signals)
unfolding with_pieces
stored_within advance c [] [] j rise lead opposite = omega arith
stored_within advance c (p ∷ ps) (q ∷ qs) j (from, rise) (within, leads, lead) opposite =
    let next = with_piece c p in
    let end = with_pieces next ps in
    let after = map Some end.signals in
    let old = signal_at c p.signal in
    let new = signal_with_changes old (changes_with_piece p old.changes) in
    let rest = stored_within advance next ps qs (suc p.signal) rise lead
    (All-tail (λ p. advance p.signal ≡ neg_ℤ p.by) p ps opposite) in
    let in_after : p.signal < length after =
    omega (arith, within, length-map {A = SignalContents} end.signals Some, counts_kept next ps, count_kept c p) in
    let partner : get_or after p.signal None ≡ Some new =
    get_or-map Some end.signals p.signal no_signal None (omega (arith, within, counts_kept next ps, count_kept c p))
    ∙ ap Some (signal_kept next ps p.signal (suc p.signal) (omega arith) rise ∙ signal_here c p within) in
    let moved = touched-set advance 0 c.signals after p.signal no_signal new None within in_after in
    let mine : touched_count (neg_ℤ p.by) old.changes new.changes
    ≡ touched_in_signal (advance (0 + p.signal)) old (get_or after p.signal None) =
    ap (λ o. touched_count o old.changes new.changes)
    (sym (All-head (λ p. advance p.signal ≡ neg_ℤ p.by) p ps opposite))
    ∙ ap (λ i. touched_count (advance i) old.changes new.changes) {x = p.signal} {y = 0 + p.signal} (omega arith)
    ∙ ap (touched_in_signal (advance (0 + p.signal)) old) (sym partner) in
    let nothing : touched_in_signal (advance (0 + p.signal)) new (get_or after p.signal None) ≡ 0 =
    ap (touched_in_signal (advance (0 + p.signal)) new) partner ∙ touched_self (advance (0 + p.signal)) new.changes in
    omega (arith, sum_by-cons (λ (q : PieceView). length q.changes) q qs, rest, leads.stored, moved, mine, nothing)
stored_within advance c ps qs j rise lead opposite = absurd lead

-- ---- the offsets of a record's own pieces

pub own_advances : (ps : List PieceView) (j : ℕ) → RiseFrom j ps → All (λ p. piece_advance ps p.signal ≡ neg_ℤ p.by) ps
unfolding piece_advance
own_advances [] j rise = λ k d less. absurd (omega arith)
own_advances (p ∷ ps) j (from, rise) =
    let rest = own_advances ps (suc p.signal) rise in
    All-cons (λ q. piece_advance (p ∷ ps) q.signal ≡ neg_ℤ q.by) p ps
    (cond-true (p.signal == p.signal) _ _ (eq-eqb p.signal p.signal refl))
    (λ k d less. cond-false (p.signal == (get_or ps k d).signal) _ _
    (ne_eqb p.signal (get_or ps k d).signal
    (λ same. absurd (omega (arith, same, all_from (suc p.signal) ps rise k d less)))) ∙ rest k d less)
