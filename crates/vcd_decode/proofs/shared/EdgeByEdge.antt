-- The walk over edges for SPI words: its groups of ticks, and the annotations of an edge and of all ticks.
use Rattle.std.proofs.Common.{◌≡◌, ℕ, ◌+◌, ◌-◌, ◌*◌, ◌^◌, ◌<◌, ◌==◌, ◌||◌, Bool, true, false, if◌then◌else◌, Option}
use Rattle.std.proofs.Common.{Some, None, List, [], ◌∷◌, ◌++◌, map, length, get_or, refl, sym, ap, ◌∙◌, arith}
use Rattle.std.proofs.Common.{zero, suc, ◌&&◌, cond, not, nat_lt, append_assoc, add-one, ◌⊎◌, ◌≤◌, inl, inr}
use Rattle.std.specs.List.{list_any, filter, flat_map, onto_first, range_with_len, slice_split, AllByRecursion}
use Rattle.std.specs.Option.{option_map}
use Rattle.std.proofs.Math.Nat.{pow-suc}
use Rattle.std.proofs.Math.Seq.{get_or-append_seam}
use Rattle.std.proofs.Math.Bool.{or-false}
use Rattle.std.proofs.lemmas.Bool.{lt-ltb, le-ltb, ne_eqb, and_right, cases_lt}
use Rattle.std.proofs.lemmas.List.Folds.{list_any-append}
use Rattle.std.proofs.lemmas.List.{length-append, length-map, reverse-append, map-append, append-nil}
use Rattle.vcd_core.specs.declared.bit.Bit.{Bit}
use Rattle.vcd_core.specs.declared.bit.Bit.TheVariants.{Zero, One, X, Z}
use Rattle.vcd_core.specs.declared.bit_edges.BitEdge.{BitEdge}
use Rattle.vcd_decode.specs.declared.annotation.LineData.{LineData}
use Rattle.vcd_decode.specs.declared.annotation.LineData.TheVariants.{Absent, Unknown, Number}
use Rattle.vcd_decode.specs.declared.spi_setup.BitOrder.{BitOrder}
use Rattle.vcd_decode.specs.declared.spi_setup.BitOrder.TheVariants.{Msb, Lsb}
use Rattle.vcd_decode.specs.SpiSetup.{SpiSetup}
use Rattle.vcd_decode.specs.Lines.{is_one, is_unclear, number_from_letters, letter_before, is_zero}
use Rattle.vcd_decode.specs.Spi.{ordered_number, data_of_letters, group_annotation, has_sampling_edge}
use Rattle.vcd_decode.specs.Spi.{is_selected, spi_annotations}
use Rattle.vcd_decode.specs.inside.SpiParts.{group_start, group_end, segment_annotations, samples_rising_edge}
use Rattle.vcd_decode.specs.inside.PartialWord.{longer_number, data_after, DataFits, empty_group, group_after}
use Rattle.vcd_decode.specs.inside.PartialWord.{word_annotation, unfinished_annotation, line_bit}
use Rattle.vcd_decode.specs.inside.SpiWords.{annotations_of_unfinished, tick_group, selects_chip, deselects_chip}
use Rattle.vcd_decode.specs.inside.SpiWords.{is_sampling, annotations_at_edge, edge_group, spi_annotations_left}
use Rattle.vcd_decode.specs.inside.SpiWords.{edge_marks, annotations_at_marks, HasRoomForBit, group_data, SpiState}
use Rattle.vcd_decode.specs.inside.SpiWords.{state_after}
use Rattle.vcd_decode.specs.declared.annotation.Annotation.{Annotation}
use Rattle.vcd_decode.specs.declared.partial_word.PartialWord.{PartialWord}
use Rattle.vcd_decode.specs.LineEdges.{line_edge, AreEdgesOf}
use Rattle.vcd_decode.specs.inside.SpiSetup.{is_present_and, samples_at}
use Rattle.vcd_decode.proofs.shared.Groups.{groups_none, groups_short, groups_whole}
use Rattle.vcd_decode.proofs.shared.EdgeTicks.{each_edge, over_edges}

-- ==== the group of some ticks of SPI: the group after one more tick, and its annotation

-- ---- numbers

abbrev digit : Bit → ℕ
digit b = if is_one b then 1 else 0

number_last : (bs : List Bit) (b : Bit)
    → number_from_letters (bs ++ b ∷ []) ≡ number_from_letters bs + digit b * 2 ^ length bs
number_last [] b = omega arith
number_last (c ∷ bs) b =
    let doubled : digit b * 2 ^ length (c ∷ bs) ≡ digit b * (2 ^ length bs * 2) =
    ap (λ n. digit b * n) (pow-suc 2 (length bs)) in
    omega (arith, number_last bs b, doubled)

ordered_last : (order : BitOrder) (bs : List Bit) (b : Bit)
    → ordered_number order (bs ++ b ∷ []) ≡ longer_number order (length bs) (ordered_number order bs) (digit b)
ordered_last Msb bs b = ap number_from_letters (reverse-append bs (b ∷ [])) ∙ (omega arith)
ordered_last Lsb bs b = number_last bs b

-- ---- a data line

any_last : (bs : List Bit) (b : Bit) → list_any is_unclear (bs ++ b ∷ []) ≡ (list_any is_unclear bs || is_unclear b)
any_last bs b = list_any-append is_unclear bs (b ∷ []) ∙ ap (λ r. list_any is_unclear bs || r) (or-false (is_unclear b))

data_last : (order : BitOrder) (bs : List Bit) (b : Bit)
    → data_of_letters order (bs ++ b ∷ []) ≡ data_after order (length bs) (data_of_letters order bs) (Some b)
data_last order bs b =
    ap (λ r. if r then Unknown else Number (ordered_number order (bs ++ b ∷ []))) (any_last bs b)
    ∙ ap (λ n. if (list_any is_unclear bs || is_unclear b) then Unknown else Number n) (ordered_last order bs b)
    ∙ choose (list_any is_unclear bs) b
  where
    choose : (c : Bool) (b : Bit)
        → (if (c || is_unclear b) then Unknown else Number
        (longer_number order (length bs) (ordered_number order bs) (digit b)))
        ≡ data_after order (length bs) (if c then Unknown else Number (ordered_number order bs)) (Some b)
    choose false Zero = refl
    choose c b = refl

-- the data of a line of some ticks are those of its letters
line_letters : (order : BitOrder) (f : ℕ → Bit) (ts : List ℕ)
    → group_data order (Some f) ts ≡ data_of_letters order (map f ts)
line_letters Msb f [] = refl
line_letters Lsb f [] = refl
line_letters order f (t ∷ ts) = refl

line_last : (order : BitOrder) (line : Option (ℕ → Bit)) (ts : List ℕ) (t : ℕ) → group_data order line (ts ++ t ∷ [])
    ≡ data_after order (length ts) (group_data order line ts) (option_map (λ f. f t) line)
line_last order None [] t = refl
line_last order None (s ∷ ts) t = refl
line_last order (Some f) ts t =
    line_letters order f (ts ++ t ∷ [])
    ∙ ap (data_of_letters order) (map-append f ts (t ∷ [])) ∙ data_last order (map f ts) (f t)
    ∙ ap (λ n. data_after order n (data_of_letters order (map f ts)) (Some (f t))) (length-map ts f)
    ∙ ap (λ d. data_after order (length ts) d (Some (f t))) (sym (line_letters order f ts))

number_fits : (order : BitOrder) (count n digit : ℕ) → n < 2 ^ count → digit < 2
    → longer_number order count n digit < 2 ^ (count + 1)
number_fits Msb count n digit fits small = omega (arith, fits, small, ap (λ k. 2 ^ k) (add-one count) ∙ pow-suc 2 count)
number_fits Lsb count n zero fits small = omega (arith, fits, ap (λ k. 2 ^ k) (add-one count) ∙ pow-suc 2 count)
number_fits Lsb count n (suc zero) fits small = omega (arith, fits, ap (λ k. 2 ^ k) (add-one count) ∙ pow-suc 2 count)
number_fits Lsb count n (suc (suc digit)) fits small = absurd (omega (arith, small))

-- with one more bit a number fits its bits
data_fits : (order : BitOrder) (count : ℕ) (shown : LineData) (bit : Option Bit) → DataFits count shown
    → DataFits (count + 1) (data_after order count shown bit)
data_fits order count shown None fits = tt
data_fits order count Absent (Some b) fits = tt
data_fits order count Unknown (Some b) fits = tt
data_fits order count (Number n) (Some Zero) fits = number_fits order count n 0 fits (omega arith)
data_fits order count (Number n) (Some One) fits = number_fits order count n 1 fits (omega arith)
data_fits order count (Number n) (Some X) fits = tt
data_fits order count (Number n) (Some Z) fits = tt

-- ---- ticks

not_none : {X : Type 0} (x : X) (xs : List X) → (length (x ∷ xs) == 0) ≡ false
not_none x xs = ne_eqb (length (x ∷ xs)) 0 (λ none. omega arith)

first_last : (ts : List ℕ) (t : ℕ) → (if length ts == 0 then t else group_start ts) ≡ group_start (ts ++ t ∷ [])
first_last [] t = refl
first_last (s ∷ ts) t = ap (λ b. if b then t else s) (not_none s ts)

pub length_last : (ts : List ℕ) (t : ℕ) → length ts + 1 ≡ length (ts ++ t ∷ [])
length_last ts t = sym (length-append ts (t ∷ []))

last_last : (ts : List ℕ) (t : ℕ) → t ≡ group_end (ts ++ t ∷ [])
last_last ts t =
    sym (get_or-append_seam ts t [] 0)
    ∙ ap (λ n. get_or (ts ++ t ∷ []) n 0) {x = length ts} {y =
    length (ts ++ t ∷ []) - 1} (omega (arith, length_last ts t))

-- ---- groups

module _ (u : SpiSetup) (mosi miso : Option (ℕ → Bit)) where
  -- the group with one more tick
  pub group_last : (ts : List ℕ) (t : ℕ) → record {
    start = if length ts == 0 then t else group_start ts;
    last = t;
    count = length ts + 1;
    mosi = data_after u.order (length ts) (group_data u.order mosi ts) (option_map (λ f. f t) mosi);
    miso = data_after u.order (length ts) (group_data u.order miso ts) (option_map (λ f. f t) miso);
  } ≡ tick_group u mosi miso (ts ++ t ∷ [])
  group_last ts t =
      let start = first_last ts t in
      let last = last_last ts t in
      let count = length_last ts t in
      let out = sym (line_last u.order mosi ts t) in
      let back = sym (line_last u.order miso ts t) in
      λ i. record { start = start i; last = last i; count = count i; mosi = out i; miso = back i }

  -- the annotation of a group that is no whole word
  pub rest_is : (ts : List ℕ) → length ts < u.bits
      → annotations_of_unfinished (tick_group u mosi miso ts) ≡ segment_annotations u mosi miso ts
  rest_is [] short = sym (ap (map (group_annotation u mosi miso)) (groups_none u.bits))
  rest_is (t ∷ ts) short =
      let some = not_none t ts in
      let seen : group_annotation u mosi miso (t ∷ ts) ≡ unfinished_annotation (tick_group u mosi miso (t ∷ ts)) =
      rw (lt-ltb (length (t ∷ ts)) u.bits short) refl in
      rw some (sym (ap (map (group_annotation u mosi miso)) (groups_short u.bits (t ∷ ts) (omega arith) (omega arith))
      ∙ ap (λ a. a ∷ []) seen))

  -- the annotation of a whole word
  pub word_is : (ts : List ℕ) → length ts ≡ u.bits → 0 < u.bits
      → group_annotation u mosi miso ts ≡ word_annotation (tick_group u mosi miso ts)
  word_is [] whole some = absurd (omega (arith, whole, some))
  word_is (t ∷ ts) whole some = rw (le-ltb (length (t ∷ ts)) u.bits (omega (arith, whole))) refl

-- ==== the walk over edges for SPI words: the annotations of an edge compared with those of all ticks

-- ---- whether the chip is selected

pub selected_is : (cs : Option (ℕ → Bit)) (t : ℕ) → selects_chip (option_map (λ f. f t) cs) ≡ is_selected cs t
selected_is None t = refl
selected_is (Some f) t = refl

selected_before : (cs : Option (ℕ → Bit)) (t : ℕ)
    → selects_chip (option_map (λ f. letter_before f (suc t)) cs) ≡ is_selected cs t
selected_before None t = refl
selected_before (Some f) t = refl

-- ---- a whole word in front of the rest

module _ (u : SpiSetup) (some : 0 < u.bits) (mosi miso : Option (ℕ → Bit)) where
  abbrev annotations_of_ticks : List ℕ → List Annotation
  annotations_of_ticks = segment_annotations u mosi miso

  word_first : (c ts : List ℕ) (marks : List (Option ℕ)) → length c ≡ u.bits
      → annotations_at_marks u mosi miso (c ++ ts) marks ≡ group_annotation u mosi miso c
      ∷ annotations_at_marks u mosi miso ts marks
  unfolding annotations_at_marks
  word_first c ts [] whole = ap (map (group_annotation u mosi miso)) (groups_whole u.bits c ts some whole)
  word_first c ts (None ∷ marks) whole =
      ap (λ appended. appended ++ annotations_at_marks u mosi miso [] marks)
      (ap (map (group_annotation u mosi miso)) (groups_whole u.bits c ts some whole))
  word_first c ts (Some t ∷ marks) whole =
      ap (λ us. annotations_at_marks u mosi miso us marks) (append_assoc c ts (t ∷ []))
      ∙ word_first c (ts ++ t ∷ []) marks whole

  -- ---- the group of some ticks after an edge: the marks that the edge adds give the same

  pub record IsClockStep (divides reads : Bool) (longer : PartialWord) (t : ℕ) (ts : List ℕ)
      (marks : List (Option ℕ)) : Type 0 where
    pub after : List ℕ
    pub short : length after < u.bits
    pub group : (if divides then empty_group else (if not reads then tick_group u mosi miso ts else
        (if nat_lt (length ts + 1) u.bits then longer else empty_group))) ≡ tick_group u mosi miso after
    pub appended : (if divides then annotations_of_unfinished (tick_group u mosi miso ts)
        else (if not reads then [] else (if nat_lt (length ts + 1) u.bits then [] else word_annotation longer ∷ [])))
        ++ annotations_at_marks u mosi miso after marks
        ≡ annotations_at_marks u mosi miso ts ((if divides then None ∷ [] else (if reads then Some t ∷ [] else []))
        ++ marks)

  clock_step : (divides reads : Bool) (longer : PartialWord) (t : ℕ) (ts : List ℕ) (marks : List (Option ℕ))
      → length ts < u.bits
      → longer ≡ tick_group u mosi miso (ts ++ t ∷ []) → IsClockStep divides reads longer t ts marks
  unfolding annotations_at_marks
  clock_step true reads longer t ts marks short is = record {
    after = [];
    short = some;
    group = refl;
    appended = ap (λ a. a ++ annotations_at_marks u mosi miso [] marks) (rest_is u mosi miso ts short);
  }
  clock_step false false longer t ts marks short is =
      record { after = ts; short = short; group = refl; appended = refl }
  clock_step false true longer t ts marks short is =
      elim (cases_lt (length ts + 1) u.bits) [
        | inl less ↦
            let test : nat_lt (length ts + 1) u.bits ≡ true = lt-ltb (length ts + 1) u.bits less in
            record {
              after = ts ++ t ∷ [];
              short = omega (arith, length_last ts t);
              group = rw test is;
              appended = rw test refl;
            }
        | inr full ↦
            let test : nat_lt (length ts + 1) u.bits ≡ false = le-ltb (length ts + 1) u.bits full in
            let whole : length (ts ++ t ∷ []) ≡ u.bits = omega (arith, length_last ts t) in
            record {
              after = [];
              short = some;
              group = rw test refl;
              appended = rw test (
                  ap (λ g. word_annotation g ∷ annotations_at_marks u mosi miso [] marks) is
                  ∙ ap (λ a. a ∷ annotations_at_marks u mosi miso [] marks)
                  (sym (word_is u mosi miso (ts ++ t ∷ []) whole some)) ∙ sym (word_first (ts ++ t ∷ []) [] marks whole)
                  ∙ ap (λ us. annotations_at_marks u mosi miso us marks) (append-nil (ts ++ t ∷ []))
                  );
            }
      ]

  module _ (clk : ℕ → Bit) (cs : Option (ℕ → Bit)) where
    abbrev lines : List (Option (ℕ → Bit))
    lines = Some clk ∷ mosi ∷ miso ∷ cs ∷ []

    longer_is : (e : BitEdge) (ts : List ℕ) → e ≡ line_edge lines e.tick
        → group_after u.order (tick_group u mosi miso ts) e ≡ tick_group u mosi miso (ts ++ e.tick ∷ [])
    longer_is e ts is =
        let out : line_bit e.at 1 ≡ option_map (λ f. f e.tick) mosi = ap (λ (x : BitEdge). line_bit x.at 1) is in
        let back : line_bit e.at 2 ≡ option_map (λ f. f e.tick) miso = ap (λ (x : BitEdge). line_bit x.at 2) is in
        (λ i. record {
          start = if length ts == 0 then e.tick else group_start ts;
          last = e.tick;
          count = length ts + 1;
          mosi = data_after u.order (length ts) (group_data u.order mosi ts) (out i);
          miso = data_after u.order (length ts) (group_data u.order miso ts) (back i);
        }) ∙ group_last u mosi miso ts e.tick

    -- after some ticks of a segment that are no whole word, edges give the annotations of their marks
    edges_marked : (es : List BitEdge) (ts : List ℕ) → length ts < u.bits
        → AllByRecursion (λ e. e ≡ line_edge lines e.tick) es
        → spi_annotations_left (record { setup = u; group = tick_group u mosi miso ts }) es
        ≡ annotations_at_marks u mosi miso ts (flat_map (edge_marks u) es)
    unfolding spi_annotations_left annotations_at_marks edge_marks
    edges_marked [] ts short each = rest_is u mosi miso ts short
    edges_marked (e ∷ es) ts short each =
        let step = clock_step (deselects_chip e) (is_sampling u e) (group_after u.order (tick_group u mosi miso ts) e)
        e.tick ts (flat_map (edge_marks u) es) short (longer_is e ts each.0) in
        let shown : List Annotation = annotations_at_edge u (tick_group u mosi miso ts) e in
        ap (λ (g : PartialWord). shown ++ spi_annotations_left (record { setup = u; group = g }) es) step.group
        ∙ ap (λ xs. shown ++ xs) (edges_marked es step.after step.short each.1) ∙ step.appended

    -- ---- the marks of all ticks

    -- whether the chip is selected just before a tick
    abbrev was_selected : ℕ → Bool
    was_selected t = selects_chip (option_map (λ f. letter_before f t) cs)

    abbrev mark : Bool → Bool → Bool → ℕ → List (Option ℕ)
    mark was is reads t = if was && not is then None ∷ [] else (if is && reads then Some t ∷ [] else [])

    mark_is : (t : ℕ) → edge_marks u (line_edge lines t)
        ≡ mark (was_selected t) (is_selected cs t) (has_sampling_edge u.mode clk t) t
    unfolding edge_marks
    mark_is t = ap (λ is. mark (was_selected t) is (has_sampling_edge u.mode clk t) t) (selected_is cs t)

    abbrev annotations_of_parts : List (List ℕ) → List Annotation
    annotations_of_parts ps = flat_map annotations_of_ticks (map (filter (has_sampling_edge u.mode clk)) ps)

    -- the annotations of parts of ticks, where some ticks come before the first part
    abbrev parts_annotations : List ℕ → List (List ℕ) → List Annotation
    parts_annotations ts [] = annotations_of_ticks ts
    parts_annotations ts (part ∷ parts) =
        annotations_of_ticks (ts ++ filter (has_sampling_edge u.mode clk) part) ++ annotations_of_parts parts

    abbrev parts : ℕ → ℕ → List (List ℕ)
    parts a n = slice_split (λ t. not (is_selected cs t)) (range_with_len a n)

    none_is : annotations_of_ticks [] ≡ []
    none_is = ap (map (group_annotation u mosi miso)) (groups_none u.bits)

    -- without ticks before, they are those of each part
    parts_alone : (ps : List (List ℕ)) → parts_annotations [] ps ≡ annotations_of_parts ps
    parts_alone [] = none_is
    parts_alone (part ∷ ps) = refl

    -- a tick at which the chip is selected belongs to the first part
    parts_read : (reads : Bool) (a : ℕ) (ts : List ℕ) (ps : List (List ℕ)) → has_sampling_edge u.mode clk a ≡ reads
        → parts_annotations (if reads then ts ++ a ∷ [] else ts) ps ≡ parts_annotations ts (onto_first a ps)
    parts_read true a ts [] is = rw is (sym (append-nil (annotations_of_ticks (ts ++ a ∷ []))))
    parts_read false a ts [] is =
        rw is (sym (append-nil (annotations_of_ticks (ts ++ [])) ∙ ap annotations_of_ticks (append-nil ts)))
    parts_read true a ts (part ∷ ps) is =
        rw is (ap (λ us. annotations_of_ticks us ++ annotations_of_parts ps)
        (append_assoc ts (a ∷ []) (filter (has_sampling_edge u.mode clk) part)))
    parts_read false a ts (part ∷ ps) is = rw is refl

    annotations_at_tick : (was is reads : Bool) (a : ℕ) (ts : List ℕ) (marks : List (Option ℕ)) (ps : List (List ℕ))
        → (was ≡ false → ts ≡ []) → has_sampling_edge u.mode clk a ≡ reads
        → ((us : List ℕ) → (is ≡ false → us ≡ []) → annotations_at_marks u mosi miso us marks ≡ parts_annotations us ps)
        → annotations_at_marks u mosi miso ts (mark was is reads a ++ marks)
        ≡ parts_annotations ts (cond (not is) ([] ∷ ps) (onto_first a ps))
    unfolding annotations_at_marks
    annotations_at_tick was true true a ts marks ps following edge later = rw (and_right was false refl)
        (later (ts ++ a ∷ []) (λ none. absurd (cc)) ∙ parts_read true a ts ps edge)
    annotations_at_tick was true false a ts marks ps following edge later = rw (and_right was false refl)
        (later ts (λ none. absurd (cc)) ∙ parts_read false a ts ps edge)
    annotations_at_tick true false reads a ts marks ps following edge later =
        ap (λ xs. annotations_of_ticks ts ++ xs) (later [] (λ none. refl) ∙ parts_alone ps)
        ∙ ap (λ us. annotations_of_ticks us ++ annotations_of_parts ps) (sym (append-nil ts))
    annotations_at_tick false false reads a ts marks ps following edge later =
        later ts (λ none. following refl) ∙ ap (λ us. parts_annotations us ps) (following refl) ∙ parts_alone ps
        ∙ ap (λ xs. xs ++ annotations_of_parts ps) (sym none_is)
        ∙ ap (λ us. annotations_of_ticks (us ++ []) ++ annotations_of_parts ps) (sym (following refl))

    abbrev marks_of : ℕ → ℕ → List (Option ℕ)
    marks_of a n = flat_map (λ t. edge_marks u (line_edge lines t)) (range_with_len a n)

    annotations_at_ticks : (a n : ℕ) (ts : List ℕ) → (was_selected a ≡ false → ts ≡ [])
        → annotations_at_marks u mosi miso ts (marks_of a n) ≡ parts_annotations ts (parts a n)
    unfolding annotations_at_marks
    annotations_at_ticks a zero ts following = ap annotations_of_ticks (sym (append-nil ts))
        ∙ sym (append-nil (annotations_of_ticks (ts ++ [])))
    annotations_at_ticks a (suc n) ts following =
        let next : was_selected (a + 1) ≡ is_selected cs a = ap was_selected (add-one a) ∙ selected_before cs a in
        let later = λ (us : List ℕ) (none : is_selected cs a ≡ false → us ≡ []). annotations_at_ticks (a + 1) n us
        (λ was. none (sym next ∙ was)) in
        ap (λ marks. annotations_at_marks u mosi miso ts (marks ++ marks_of (a + 1) n)) (mark_is a)
        ∙ annotations_at_tick (was_selected a) (is_selected cs a) (has_sampling_edge u.mode clk a) a ts
        (marks_of (a + 1) n) (parts (a + 1) n) following refl later

    all_is : (end : ℕ)
        → annotations_at_marks u mosi miso [] (marks_of 0 (suc end)) ≡ spi_annotations u clk mosi miso cs end
    unfolding spi_annotations
    all_is end = annotations_at_ticks 0 (suc end) [] (λ none. refl) ∙ parts_alone (parts 0 (suc end))

-- ---- edges

-- a clock that does not change is not sampled
pub never_sampled : (mode : ℕ) (b : Option Bit) → samples_at mode b b ≡ false
never_sampled mode b = no_edge (samples_rising_edge mode) b
  where
    no_edge : (rise : Bool) (b : Option Bit)
        → (if rise then is_present_and is_zero b && is_present_and is_one b else is_present_and is_one b
        && is_present_and is_zero b) ≡ false
    no_edge true None = refl
    no_edge true (Some Zero) = refl
    no_edge rise (Some Zero) = refl
    no_edge rise b = refl

-- where no line changes an edge has no mark
still : (u : SpiSetup) (e : BitEdge) → e.at ≡ e.before → edge_marks u e ≡ []
unfolding edge_marks
still u e same =
    ap (λ bits. edge_marks u (record { tick = e.tick; before = e.before; at = bits })) same
    ∙ nothing (selects_chip (line_bit e.before 3))
    (samples_at u.mode (line_bit e.before 0) (line_bit e.before 0)) (never_sampled u.mode (line_bit e.before 0))
  where
    nothing : (selected reads : Bool) → reads ≡ false
        → (if selected && not selected then None ∷ [] else (if selected && reads then Some e.tick ∷ [] else [])) ≡ []
    nothing true true none = absurd (cc)
    nothing true false none = refl
    nothing false reads none = refl

-- edges of lines give all annotations
pub words_are : (u : SpiSetup) → 0 < u.bits → (clk : ℕ → Bit) (mosi miso cs : Option (ℕ → Bit)) (end : ℕ)
    (edges : List BitEdge) → AreEdgesOf (Some clk ∷ mosi ∷ miso ∷ cs ∷ []) end edges
    → spi_annotations_left (record { setup = u; group = empty_group }) edges ≡ spi_annotations u clk mosi miso cs end
words_are u some clk mosi miso cs end edges are =
    let lines : List (Option (ℕ → Bit)) = Some clk ∷ mosi ∷ miso ∷ cs ∷ [] in
    edges_marked u some mosi miso clk cs edges [] some (each_edge lines end edges are)
    ∙ ap (annotations_at_marks u mosi miso [])
    (over_edges lines end edges are (edge_marks u) (λ t quiet. still u (line_edge lines t) quiet))
    ∙ all_is u some mosi miso clk cs end

-- the group has room for one more bit after an edge
pub room_after : (u : SpiSetup) (g : PartialWord) (e : BitEdge) → HasRoomForBit u g → HasRoomForBit u (edge_group u g e)
room_after u g e room = by_tests (deselects_chip e) (is_sampling u e) (cases_lt (g.count + 1) u.bits)
  where
    empty : HasRoomForBit u empty_group
    empty = record { count = omega (arith, room.count); mosi = omega arith; miso = omega arith }

    by_tests : (divides reads : Bool) → (g.count + 1 < u.bits) ⊎ (u.bits ≤ g.count + 1)
        → HasRoomForBit u (if divides then empty_group else (if not reads then g else
        (if nat_lt (g.count + 1) u.bits then group_after u.order g e else empty_group)))
    by_tests true reads short = empty
    by_tests false false short = room
    by_tests false true (inl less) = rw (lt-ltb (g.count + 1) u.bits less) (record {
      count = less;
      mosi = data_fits u.order g.count g.mosi (line_bit e.at 1) room.mosi;
      miso = data_fits u.order g.count g.miso (line_bit e.at 2) room.miso;
    })
    by_tests false true (inr full) = rw (le-ltb (g.count + 1) u.bits full) empty

-- the annotations of an edge, and then those after it
pub edge_taken : (d : SpiState) (next : PartialWord) (e : BitEdge) (old new : List Annotation) (more : List BitEdge)
    → new ≡ old ++ annotations_at_edge d.setup d.group e → next ≡ edge_group d.setup d.group e
    → new ++ spi_annotations_left (record { setup = d.setup; group = next }) more
    ≡ old ++ spi_annotations_left d (e ∷ more)
unfolding spi_annotations_left
edge_taken d next e old new more appended after =
    (λ i. appended i ++ spi_annotations_left (record { setup = d.setup; group = after i }) more)
    ∙ append_assoc old (annotations_at_edge d.setup d.group e) (spi_annotations_left (state_after d e) more)
