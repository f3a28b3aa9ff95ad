-- What is found of lines that are cut at a tick: before it, and after it.
use Rattle.std.proofs.Common.{◌≡◌, ℕ, zero, suc, ◌+◌, ◌-◌, ◌<◌, ◌≤◌, ◌&&◌, not, Bool, true, false, if◌then◌else◌, inl}
use Rattle.std.proofs.Common.{inr, Option, Some, None, List, [], ◌∷◌, ◌++◌, length, map, append_assoc, append-nil, refl}
use Rattle.std.proofs.Common.{sym, ap, ◌∙◌, arith}
use Rattle.std.specs.Prelude.{filter_map}
use Rattle.std.specs.List.{cons_option, filter, flat_map, list_any, range_with_len, slice_split, onto_first}
use Rattle.std.proofs.lemmas.Bool.{cases_lt, le-leb, lt-leb, and_parts, and_right}
use Rattle.std.proofs.lemmas.List.Elements.{filter_map-append}
use Rattle.std.proofs.lemmas.List.Splits.{slice_split-cons_yes, slice_split-cons_no, length-slice_split}
use Rattle.vcd_core.specs.declared.bit.Bit.{Bit}
use Rattle.vcd_core.specs.declared.bit.Bit.TheVariants.{Zero, One, X, Z}
use Rattle.vcd_decode.specs.declared.annotation.Annotation.{Annotation}
use Rattle.vcd_decode.specs.declared.annotation.Kind.TheVariants as kinds
use Rattle.vcd_decode.specs.declared.annotation.LineData.{LineData}
use Rattle.vcd_decode.specs.declared.annotation.LineData.TheVariants.{Absent}
use Rattle.vcd_decode.specs.declared.i2c_bus.bytes.ByteRole.TheVariants as roles
use Rattle.vcd_decode.specs.declared.i2c_bus.events.BusLevels.{BusLevels}
use Rattle.vcd_decode.specs.declared.i2c_bus.events.BusEvent.{BusEvent}
use Rattle.vcd_decode.specs.declared.i2c_bus.events.BusEvent.TheVariants as events
use Rattle.vcd_decode.specs.inside.i2c_bus.Events.{bus_event}
use Rattle.vcd_decode.specs.Lines.{letter_before, is_zero, annotation}
use Rattle.vcd_decode.specs.Groups.{groups_of}
use Rattle.vcd_decode.specs.Spi.{has_sampling_edge, is_selected, group_annotation, spi_annotations}
use Rattle.vcd_decode.specs.BusEvents.{is_line_high, is_start_at, is_stop_at, bus_event_at, bus_events}
use Rattle.vcd_decode.specs.I2c.{annotations_of_events, nines_annotations, bits_until, is_condition, shown_address}
use Rattle.vcd_decode.specs.I2c.{i2c_annotations}
use Rattle.vcd_decode.specs.I2cSent.{levels}
use Rattle.vcd_decode.specs.Laws.{line_until, line_after, without_mosi, without_miso, with_kind, SpiSelectionsAreApart}
use Rattle.vcd_decode.specs.Laws.{SpiLinesAreApart, I2cMessagesAreApart}
use Rattle.vcd_decode.proofs.shared.Groups.{groups_none}
use Rattle.vcd_decode.proofs.shared.EdgeTicks.{nothing_happens}
use Rattle.vcd_decode.proofs.laws.StraightEdges.{stop_is}
use Rattle.vcd_decode.proofs.laws.sent.SpiSamples.{zero_is}

-- ---- ticks in a row, and lines, cut at a tick

cut_range : (a m n later : ℕ) → a + m ≡ later
    → range_with_len a (m + n) ≡ range_with_len a m ++ range_with_len later n
cut_range a zero n later at =
    let same : a ≡ later = omega arith in
    let size : 0 + n ≡ n = omega arith in
    λ i. range_with_len (same i) (size i)
cut_range a (suc m) n later at =
    ap (λ k. range_with_len a k) {x = suc m + n} {y = suc (m + n)} (omega arith)
    ∙ ap (λ ts. a ∷ ts) (cut_range (a + 1) m n later (omega arith))

-- the ticks up to an end: those before a tick, the tick, and those after it
ticks_cut : (at end : ℕ) → at ≤ end
    → range_with_len 0 (suc end) ≡ range_with_len 0 at ++ at ∷ range_with_len (at + 1) (end - at)
ticks_cut at end within =
    ap (λ k. range_with_len 0 k) {x = suc end} {y = at + suc (end - at)} (omega arith)
    ∙ cut_range 0 at (suc (end - at)) at (omega arith)

until_here : (last : ℕ) (f : ℕ → Bit) (t : ℕ) → t ≤ last → line_until last f t ≡ f t
until_here last f t upto = ap (λ b. if b then f t else One) (le-leb t last upto)

until_past : (last : ℕ) (f : ℕ → Bit) (t : ℕ) → last < t → line_until last f t ≡ One
until_past last f t past = ap (λ b. if b then f t else One) (lt-leb t last past)

after_here : (last : ℕ) (f : ℕ → Bit) (t : ℕ) → t ≤ last → line_after last f t ≡ One
after_here last f t upto = ap (λ b. if b then One else f t) (le-leb t last upto)

after_past : (last : ℕ) (f : ℕ → Bit) (t : ℕ) → last < t → line_after last f t ≡ f t
after_past last f t past = ap (λ b. if b then One else f t) (lt-leb t last past)

-- ---- SPI: parts between the ticks at which the chip is not selected

onto_first_part : {X : Type 0} (x : X) (n : ℕ) (parts more : List (List X)) → length parts ≡ n + 1
    → onto_first x (parts ++ more) ≡ onto_first x parts ++ more
onto_first_part x n [] more long = absurd (omega arith)
onto_first_part x n (part ∷ parts) more long = refl

-- what is split off at one more element, by its test
module _ (p : ℕ → Bool) (x : ℕ) where
  one_more : (b : Bool) → p x ≡ b → (whole xs ys : List ℕ)
      → slice_split p whole ≡ slice_split p xs ++ slice_split p ys
      → slice_split p (x ∷ whole) ≡ slice_split p (x ∷ xs) ++ slice_split p ys
  one_more true is whole xs ys split =
      slice_split-cons_yes p x whole is ∙ ap (λ parts. [] ∷ parts) split
      ∙ ap (λ parts. parts ++ slice_split p ys) (sym (slice_split-cons_yes p x xs is))
  one_more false is whole xs ys split =
      slice_split-cons_no p x whole is ∙ ap (onto_first x) split
      ∙ onto_first_part x _ (slice_split p xs) (slice_split p ys) (length-slice_split p xs)
      ∙ ap (λ parts. parts ++ slice_split p ys) (sym (slice_split-cons_no p x xs is))

  one_more_same : (q : ℕ → Bool) (b : Bool) → p x ≡ b → q x ≡ b → (xs : List ℕ)
      → slice_split p xs ≡ slice_split q xs → slice_split p (x ∷ xs) ≡ slice_split q (x ∷ xs)
  one_more_same q true is also xs same =
      slice_split-cons_yes p x xs is ∙ ap (λ parts. [] ∷ parts) same ∙ sym (slice_split-cons_yes q x xs also)
  one_more_same q false is also xs same =
      slice_split-cons_no p x xs is ∙ ap (onto_first x) same ∙ sym (slice_split-cons_no q x xs also)

split_append : (p : ℕ → Bool) (xs : List ℕ) (y : ℕ) (ys : List ℕ) → p y ≡ true
    → slice_split p (xs ++ y ∷ ys) ≡ slice_split p xs ++ slice_split p ys
split_append p [] y ys ends = slice_split-cons_yes p y ys ends
split_append p (x ∷ xs) y ys ends = one_more p x (p x) refl (xs ++ y ∷ ys) xs ys (split_append p xs y ys ends)

-- two tests that are the same at these ticks
same_parts : (p q : ℕ → Bool) (a n : ℕ) → ((t : ℕ) → a ≤ t → t < a + n → p t ≡ q t)
    → slice_split p (range_with_len a n) ≡ slice_split q (range_with_len a n)
same_parts p q a zero same = refl
same_parts p q a (suc n) same =
    one_more_same p a q (q a) (same a (omega arith) (omega arith)) refl (range_with_len (a + 1) n)
    (same_parts p q (a + 1) n (λ t from to. same t (omega arith) (omega arith)))

module _ (annotations : List ℕ → List Annotation) (nothing : annotations [] ≡ []) (sampled : ℕ → Bool) where
  abbrev of_parts : List (List ℕ) → List Annotation
  of_parts parts = flat_map annotations (map (filter sampled) parts)

  parts_append : (xs ys : List (List ℕ)) → of_parts (xs ++ ys) ≡ of_parts xs ++ of_parts ys
  parts_append [] ys = refl
  parts_append (x ∷ xs) ys =
      ap (λ found. annotations (filter sampled x) ++ found) (parts_append xs ys)
      ∙ sym (append_assoc (annotations (filter sampled x)) (of_parts xs) (of_parts ys))

  parts_none : (p : ℕ → Bool) (a n : ℕ) → ((t : ℕ) → a ≤ t → t < a + n → p t ≡ true)
      → of_parts (slice_split p (range_with_len a n)) ≡ []
  parts_none p a zero all = append-nil (annotations []) ∙ nothing
  parts_none p a (suc n) all =
      ap of_parts (slice_split-cons_yes p a (range_with_len (a + 1) n) (all a (omega arith) (omega arith)))
      ∙ (λ i. nothing i ++ parts_none p (a + 1) n (λ t from to. all t (omega arith) (omega arith)) i)

  -- the parts before and after a tick that no part holds
  parts_cut : (p : ℕ → Bool) (at end : ℕ) → at ≤ end → p at ≡ true
      → of_parts (slice_split p (range_with_len 0 (suc end)))
      ≡ of_parts (slice_split p (range_with_len 0 at)) ++ of_parts (slice_split p (range_with_len (at + 1) (end - at)))
  parts_cut p at end within ends =
      ap (λ ts. of_parts (slice_split p ts)) (ticks_cut at end within)
      ∙ ap of_parts (split_append p (range_with_len 0 at) at (range_with_len (at + 1) (end - at)) ends)
      ∙ parts_append (slice_split p (range_with_len 0 at)) (slice_split p (range_with_len (at + 1) (end - at)))

pub selections_apart : SpiSelectionsAreApart
unfolding spi_annotations
selections_apart u clk cs mosi miso end released within unselected =
    parts_cut annotations nothing sampled (apart cs) released end within (ap not none)
    ∙ (λ i. before i ++ after i)
  where
    annotations : List ℕ → List Annotation
    annotations ticks = map (group_annotation u mosi miso) (groups_of u.bits ticks)

    nothing : annotations [] ≡ []
    nothing = ap (map (group_annotation u mosi miso)) (groups_none u.bits)

    sampled : ℕ → Bool
    sampled = has_sampling_edge u.mode clk

    apart : (ℕ → Bit) → ℕ → Bool
    apart line t = not (is_selected (Some line) t)

    none : is_zero (cs released) ≡ false
    none = zero_is (cs released) ∙ unselected

    early : ℕ → Bool
    early = apart (line_until released cs)

    late : ℕ → Bool
    late = apart (line_after released cs)

    here : List (List ℕ) → List Annotation
    here parts = flat_map annotations (map (filter sampled) parts)

    before : here (slice_split (apart cs) (range_with_len 0 released))
        ≡ here (slice_split early (range_with_len 0 (suc end)))
    before = sym (
        parts_cut annotations nothing sampled early released end within
        (ap (λ b. not (is_zero b)) (until_here released cs released (omega arith)) ∙ ap not none)
        ∙ (λ i. here (same_parts early (apart cs) 0 released
        (λ t from to. ap (λ b. not (is_zero b)) (until_here released cs t (omega arith))) i)
        ++ parts_none annotations nothing sampled early (released + 1) (end - released)
        (λ t from to. ap (λ b. not (is_zero b)) (until_past released cs t (omega arith))) i)
        ∙ append-nil (here (slice_split (apart cs) (range_with_len 0 released)))
        )

    after : here (slice_split (apart cs) (range_with_len (released + 1) (end - released)))
        ≡ here (slice_split late (range_with_len 0 (suc end)))
    after = sym (
        parts_cut annotations nothing sampled late released end within
        (ap (λ b. not (is_zero b)) (after_here released cs released (omega arith)))
        ∙ (λ i. parts_none annotations nothing sampled late 0 released
        (λ t from to. ap (λ b. not (is_zero b)) (after_here released cs t (omega arith))) i
        ++ here (same_parts late (apart cs) (released + 1) (end - released)
        (λ t from to. ap (λ b. not (is_zero b)) (after_past released cs t (omega arith))) i))
        )

-- ---- SPI: two data lines

map_append : {X Y : Type 0} (f : X → Y) (xs ys : List X) → map f (xs ++ ys) ≡ map f xs ++ map f ys
map_append f [] ys = refl
map_append f (x ∷ xs) ys = ap (λ rest. f x ∷ rest) (map_append f xs ys)

module _ (bits : ℕ) (other : Annotation → Annotation) (with_line without : List ℕ → Annotation)
    (same : (ticks : List ℕ) → other (with_line ticks) ≡ without ticks) where
  each_group : (groups : List (List ℕ)) → map other (map with_line groups) ≡ map without groups
  each_group [] = refl
  each_group (g ∷ gs) = λ i. same g i ∷ each_group gs i

  each_part : (parts : List (List ℕ)) → map other (flat_map (λ ticks. map with_line (groups_of bits ticks)) parts)
      ≡ flat_map (λ ticks. map without (groups_of bits ticks)) parts
  each_part [] = refl
  each_part (ticks ∷ parts) =
      map_append other (map with_line (groups_of bits ticks))
      (flat_map (λ ts. map with_line (groups_of bits ts)) parts)
      ∙ (λ i. each_group (groups_of bits ticks) i ++ each_part parts i)

mosi_left_out : (short : Bool) (count : ℕ) (mosi miso : LineData)
    → without_mosi (if short then kinds.Unfinished count else kinds.Word mosi miso)
    ≡ (if short then kinds.Unfinished count else kinds.Word Absent miso)
mosi_left_out true count mosi miso = refl
mosi_left_out false count mosi miso = refl

miso_left_out : (short : Bool) (count : ℕ) (mosi miso : LineData)
    → without_miso (if short then kinds.Unfinished count else kinds.Word mosi miso)
    ≡ (if short then kinds.Unfinished count else kinds.Word mosi Absent)
miso_left_out true count mosi miso = refl
miso_left_out false count mosi miso = refl

pub lines_apart : SpiLinesAreApart
unfolding spi_annotations
lines_apart u clk mosi miso cs end = (
  each_part u.bits (with_kind without_mosi) (group_annotation u mosi miso)
      (group_annotation u None miso)
      (λ ticks. ap (annotation _ _) (mosi_left_out _ (length ticks) _ _)) _,
  each_part u.bits (with_kind without_miso) (group_annotation u mosi miso)
      (group_annotation u mosi None)
      (λ ticks. ap (annotation _ _) (miso_left_out _ (length ticks) _ _)) _,
)

-- ---- I2C: the events before and after a STOP

module _ (t : ℕ) where
  -- nothing happens where high lines stay high
  quiet : (scl sda : Bit) → is_line_high scl ≡ true → is_line_high sda ≡ true
      → bus_event t (levels scl sda) (levels One One) ≡ None
  quiet One One _ _ = refl
  quiet One Z _ _ = refl
  quiet Z One _ _ = refl
  quiet Z Z _ _ = refl
  quiet Zero sda high _ = absurd (cc)
  quiet X sda high _ = absurd (cc)
  quiet One Zero _ high = absurd (cc)
  quiet One X _ high = absurd (cc)
  quiet Z Zero _ high = absurd (cc)
  quiet Z X _ high = absurd (cc)

  -- what follows high lines is what follows lines that are 1
  high_same : (scl sda : Bit) (p : BusLevels) → is_line_high scl ≡ true → is_line_high sda ≡ true
      → bus_event t (levels One One) p ≡ bus_event t (levels scl sda) p
  high_same One One p _ _ = refl
  high_same One Z p _ _ = refl
  high_same Z One p _ _ = refl
  high_same Z Z p _ _ = refl
  high_same Zero sda p high _ = absurd (cc)
  high_same X sda p high _ = absurd (cc)
  high_same One Zero p _ high = absurd (cc)
  high_same One X p _ high = absurd (cc)
  high_same Z Zero p _ high = absurd (cc)
  high_same Z X p _ high = absurd (cc)

not_both : (b : Bit) → is_line_high b ≡ true → is_zero b ≡ false
not_both Zero high = absurd (cc)
not_both b high = refl

same_events : (f g : ℕ → Option BusEvent) (a n : ℕ) → ((t : ℕ) → a ≤ t → t < a + n → f t ≡ g t)
    → filter_map f (range_with_len a n) ≡ filter_map g (range_with_len a n)
same_events f g a zero same = refl
same_events f g a (suc n) same =
    λ i. cons_option (same a (omega arith) (omega arith) i)
    (same_events f g (a + 1) n (λ t from to. same t (omega arith) (omega arith)) i)

no_events : (f : ℕ → Option BusEvent) (a n : ℕ) → ((t : ℕ) → a ≤ t → t < a + n → f t ≡ None)
    → filter_map f (range_with_len a n) ≡ []
no_events f a zero none = refl
no_events f a (suc n) none =
    ap (λ o. cons_option o (filter_map f (range_with_len (a + 1) n))) (none a (omega arith) (omega arith))
    ∙ no_events f (a + 1) n (λ t from to. none t (omega arith) (omega arith))

events_cut : (f : ℕ → Option BusEvent) (at end : ℕ) → at ≤ end → filter_map f (range_with_len 0 (suc end))
    ≡ filter_map f (range_with_len 0 at) ++ cons_option (f at) (filter_map f (range_with_len (at + 1) (end - at)))
events_cut f at end within =
    ap (filter_map f) (ticks_cut at end within)
    ∙ filter_map-append f (range_with_len 0 at) (at ∷ range_with_len (at + 1) (end - at))

-- ---- I2C: the annotations of events before and after a STOP

any_before_stop : (es : List BusEvent) (t : ℕ) (later : List BusEvent)
    → list_any is_condition (es ++ events.Stop t ∷ later) ≡ true
any_before_stop [] t later = refl
any_before_stop (events.Bit b ∷ es) t later = any_before_stop es t later
any_before_stop (e ∷ es) t later = refl

bits_before_stop : (es : List BusEvent) (t : ℕ) (later : List BusEvent)
    → bits_until (es ++ events.Stop t ∷ later) ≡ bits_until es
unfolding bits_until
bits_before_stop [] t later = refl
bits_before_stop (events.Bit b ∷ es) t later = ap (λ bits. b ∷ bits) (bits_before_stop es t later)
bits_before_stop (events.Start s ∷ es) t later = refl
bits_before_stop (events.Stop s ∷ es) t later = refl

stop_parts : (repeated : Bool) (given : Option ℕ) (es : List BusEvent) (t : ℕ) (later : List BusEvent)
    → annotations_of_events repeated given (es ++ events.Stop t ∷ later)
    ≡ annotations_of_events repeated given (es ++ events.Stop t ∷ []) ++ annotations_of_events false None later
unfolding annotations_of_events
stop_parts repeated given [] t later = refl
stop_parts repeated given (events.Bit b ∷ es) t later = stop_parts repeated given es t later
stop_parts repeated given (events.Stop s ∷ es) t later =
    ap (λ found. annotation s s kinds.Stop ∷ found) (stop_parts false None es t later)
stop_parts repeated given (events.Start s ∷ es) t later =
    whole later
    ∙ ap (λ found. start ∷ shown ++ found) (stop_parts true (shown_address shown) es t later)
    ∙ ap (λ found. start ∷ found) (sym (append_assoc shown
    (annotations_of_events true (shown_address shown) (es ++ events.Stop t ∷ []))
    (annotations_of_events false None later)))
    ∙ ap (λ found. found ++ annotations_of_events false None later) (sym (whole []))
  where
    start : Annotation
    start = annotation s s (if repeated then kinds.RepeatedStart else kinds.Start)

    nines : Bool → List Annotation
    nines any = nines_annotations any (roles.Address given) (groups_of 9 (bits_until es))

    shown : List Annotation
    shown = nines true

    whole : (tail : List BusEvent)
        → annotations_of_events repeated given (events.Start s ∷ es ++ events.Stop t ∷ tail)
        ≡ start ∷ shown ++ annotations_of_events true (shown_address shown) (es ++ events.Stop t ∷ tail)
    whole tail =
        let of_parts = λ (any : Bool) (bits : _).
        let found = nines_annotations any (roles.Address given) (groups_of 9 bits) in
        start ∷ found ++ annotations_of_events true (shown_address found) (es ++ events.Stop t ∷ tail) in
        λ i. of_parts (any_before_stop es t tail i) (bits_before_stop es t tail i)

module _ (scl sda : ℕ → Bit) (stop end : ℕ) (within : stop ≤ end) (stops : is_stop_at scl sda stop ≡ true) where
  abbrev event : (ℕ → Bit) → (ℕ → Bit) → ℕ → Option BusEvent
  event f g t = bus_event_at f g t

  abbrev first : List BusEvent
  first = filter_map (event scl sda) (range_with_len 0 stop)

  abbrev second : List BusEvent
  second = filter_map (event scl sda) (range_with_len (stop + 1) (end - stop))

  all_high : (is_line_high (scl stop) ≡ true) × (is_line_high (sda stop) ≡ true)
  all_high =
      let scl_high = is_line_high (letter_before scl stop) && is_line_high (scl stop) in
      let falls = and_parts (scl_high && is_zero (letter_before sda stop)) (is_line_high (sda stop)) stops in
      let low = and_parts scl_high (is_zero (letter_before sda stop)) falls.0 in
      ((and_parts (is_line_high (letter_before scl stop)) (is_line_high (scl stop)) low.0).1, falls.1)

  event_is : event scl sda stop ≡ Some (events.Stop stop)
  event_is =
      let no_start : is_start_at scl sda stop ≡ false =
      ap (λ b. is_line_high (letter_before scl stop) && is_line_high (scl stop)
      && is_line_high (letter_before sda stop) && b) (not_both (sda stop) all_high.1)
      ∙ and_right (is_line_high (letter_before scl stop) && is_line_high (scl stop)
      && is_line_high (letter_before sda stop)) false refl in
      rw (no_start, stops) refl

  -- ---- the lines up to the STOP

  same_until : (t : ℕ) → t ≤ stop → event (line_until stop scl) (line_until stop sda) t ≡ event scl sda t
  same_until zero upto =
      λ i. bus_event zero (levels X X) (levels (until_here stop scl zero upto i) (until_here stop sda zero upto i))
  same_until (suc t) upto =
      λ i. bus_event (suc t)
      (levels (until_here stop scl t (omega arith) i) (until_here stop sda t (omega arith) i))
      (levels (until_here stop scl (suc t) upto i) (until_here stop sda (suc t) upto i))

  high_until : (f : ℕ → Bit) → is_line_high (f stop) ≡ true → (s : ℕ) → stop ≤ s
      → is_line_high (line_until stop f s) ≡ true
  high_until f high s from = elim (cases_lt stop s) [
    | inl past ↦ ap is_line_high (until_past stop f s past)
    | inr upto ↦
        let same : s ≡ stop = omega arith in
        ap is_line_high (until_here stop f s upto) ∙ ap (λ k. is_line_high (f k)) same ∙ high
  ]

  none_until : (t : ℕ) → stop < t → event (line_until stop scl) (line_until stop sda) t ≡ None
  none_until zero from = absurd (omega arith)
  none_until (suc s) from =
      (λ i. bus_event (suc s) (levels (line_until stop scl s) (line_until stop sda s))
      (levels (until_past stop scl (suc s) from i) (until_past stop sda (suc s) from i)))
      ∙ quiet (suc s) (line_until stop scl s) (line_until stop sda s) (high_until scl all_high.0 s (omega arith))
      (high_until sda all_high.1 s (omega arith))

  events_until : bus_events (line_until stop scl) (line_until stop sda) end ≡ first ++ events.Stop stop ∷ []
  unfolding bus_events
  events_until =
      let masked = event (line_until stop scl) (line_until stop sda) in
      events_cut masked stop end within
      ∙ (λ i. same_events masked (event scl sda) 0 stop (λ t from to. same_until t (omega arith)) i
      ++ cons_option ((same_until stop (omega arith) ∙ event_is) i)
      (no_events masked (stop + 1) (end - stop) (λ t from to. none_until t (omega arith)) i))

  -- ---- the lines after it

  none_after : (t : ℕ) → t ≤ stop → event (line_after stop scl) (line_after stop sda) t ≡ None
  none_after zero upto =
      λ i. bus_event zero (levels X X) (levels (after_here stop scl zero upto i) (after_here stop sda zero upto i))
  none_after (suc t) upto =
      (λ i. bus_event (suc t)
      (levels (after_here stop scl t (omega arith) i) (after_here stop sda t (omega arith) i))
      (levels (after_here stop scl (suc t) upto i) (after_here stop sda (suc t) upto i)))
      ∙ nothing_happens (suc t) One One

  same_after : (t : ℕ) → stop < t → event (line_after stop scl) (line_after stop sda) t ≡ event scl sda t
  same_after zero from = absurd (omega arith)
  same_after (suc s) from = elim (cases_lt stop s) [
    | inl past ↦
        λ i. bus_event (suc s) (levels (after_past stop scl s past i) (after_past stop sda s past i))
        (levels (after_past stop scl (suc s) from i) (after_past stop sda (suc s) from i))
    | inr upto ↦
        let same : s ≡ stop = omega arith in
        (λ i. bus_event (suc s) (levels (after_here stop scl s upto i) (after_here stop sda s upto i))
        (levels (after_past stop scl (suc s) from i) (after_past stop sda (suc s) from i)))
        ∙ high_same (suc s) (scl s) (sda s) (levels (scl (suc s)) (sda (suc s)))
        (ap (λ k. is_line_high (scl k)) same ∙ all_high.0) (ap (λ k. is_line_high (sda k)) same ∙ all_high.1)
  ]

  events_after : bus_events (line_after stop scl) (line_after stop sda) end ≡ second
  unfolding bus_events
  events_after =
      let masked = event (line_after stop scl) (line_after stop sda) in
      events_cut masked stop end within
      ∙ (λ i. no_events masked 0 stop (λ t from to. none_after t (omega arith)) i
      ++ cons_option (none_after stop (omega arith) i)
      (same_events masked (event scl sda) (stop + 1) (end - stop) (λ t from to. same_after t (omega arith)) i))

  events_all : bus_events scl sda end ≡ first ++ events.Stop stop ∷ second
  unfolding bus_events
  events_all =
      events_cut (event scl sda) stop end within ∙ ap (λ o. first ++ cons_option o second) event_is

  parts_found : i2c_annotations scl sda end
      ≡ i2c_annotations (line_until stop scl) (line_until stop sda) end
      ++ i2c_annotations (line_after stop scl) (line_after stop sda) end
  parts_found =
      ap (annotations_of_events false None) events_all ∙ stop_parts false None first stop second
      ∙ (λ i. annotations_of_events false None (sym events_until i)
      ++ annotations_of_events false None (sym events_after i))

pub messages_apart : I2cMessagesAreApart
messages_apart scl sda end stop within is = parts_found scl sda stop end within (stop_is scl sda stop ∙ is)
