-- An edge through x or z counts for nothing.
use Rattle.std.proofs.Common.{◌≡◌, ℕ, zero, suc, ◌&&◌, ◌||◌, ◌==◌, nat_le, nat_lt, Bool, true, false, not}
use Rattle.std.proofs.Common.{if◌then◌else◌, Option, Some, None, IfSome, List, [], ◌∷◌, ◌++◌, map, All, refl, sym, ap}
use Rattle.std.proofs.Common.{subst, ◌∙◌}
use Rattle.std.specs.List.{filter, filter_map, flat_map, range_with_len, slice_split}
use Rattle.std.specs.Option.{option_to_list, option_map_or}
use Rattle.std.proofs.Math.Bool.{and_assoc}
use Rattle.std.proofs.lemmas.Bool.{cond_both}
use Rattle.std.proofs.lemmas.List.Elements.{All-nil, All-cons, All-head, All-tail, All-append, filter_passes}
use Rattle.vcd_core.specs.declared.bit.Bit.{Bit}
use Rattle.vcd_core.specs.declared.bit.Bit.TheVariants.{Zero, One, Z}
use Rattle.vcd_decode.specs.declared.annotation.Annotation.{Annotation}
use Rattle.vcd_decode.specs.declared.i2c_bus.events.BusEvent.{BusEvent}
use Rattle.vcd_decode.specs.declared.i2c_bus.events.BusEvent.TheVariants as events
use Rattle.vcd_decode.specs.Lines.{letter_before, is_zero, is_one}
use Rattle.vcd_decode.specs.UartSetup.{UartSetup}
use Rattle.vcd_decode.specs.Uart.{sample_tick, last_bit, begun_frame, falls, frames, uart_annotations}
use Rattle.vcd_decode.specs.Groups.{groups_of}
use Rattle.vcd_decode.specs.Spi.{is_selected, group_annotation, spi_annotations}
use Rattle.vcd_decode.specs.BusEvents.{is_line_high, is_start_at, is_stop_at, bus_event_at, bus_events}
use Rattle.vcd_decode.specs.I2c.{annotations_of_events}
use Rattle.vcd_decode.specs.Laws.{goes_straight, pulled_up, goes_while_high, FramesBeginStraight, StraightClocksCount}
use Rattle.vcd_decode.specs.Laws.{StraightBusEdgesCount}
use Rattle.vcd_core.specs.Value.{same_letter}

-- ---- the tests of the decoders are those of letters

one_is : (b : Bit) → is_one b ≡ same_letter b One
one_is Zero = refl
one_is b = refl

zero_is : (b : Bit) → is_zero b ≡ same_letter b Zero
zero_is Zero = refl
zero_is b = refl

falls_straight : (f : ℕ → Bit) (t : ℕ) → is_one (letter_before f t) && is_zero (f t) ≡ goes_straight One Zero f t
falls_straight f t = λ i. one_is (letter_before f t) i && zero_is (f t) i

rises_straight : (f : ℕ → Bit) (t : ℕ) → is_zero (letter_before f t) && is_one (f t) ≡ goes_straight Zero One f t
rises_straight f t = λ i. zero_is (letter_before f t) i && one_is (f t) i

-- ---- UART

begins_there : (line : ℕ → Bit) (end : ℕ) (u : UartSetup) (start : ℕ)
    → IfSome (begun_frame line end u start) (λ frame. frame.start ≡ start)
unfolding begun_frame
begins_there line end u start =
    let P : Option Annotation → Type 0 = λ found. IfSome found (λ frame. frame.start ≡ start) in
    cond_both (nat_lt end (sample_tick u start 0)) _ _ P (λ _. refl)
    (λ _. cond_both (not (is_zero (line (sample_tick u start 0)))) _ _ P (λ _. tt)
    (λ _. cond_both (nat_lt end (sample_tick u start (last_bit u))) _ _ P (λ _. refl) (λ _. refl)))

module _ (line : ℕ → Bit) (end : ℕ) (u : UartSetup) where
  abbrev falls_at : ℕ → Type 0
  falls_at t = goes_straight One Zero line t ≡ true

  abbrev begins_at_fall : Annotation → Type 0
  begins_at_fall frame = falls_at frame.start

  of_option : (frame : Option Annotation) (start : ℕ) → falls_at start → IfSome frame (λ a. a.start ≡ start)
      → All begins_at_fall (option_to_list frame)
  of_option None start fall at = All-nil begins_at_fall
  of_option (Some a) start fall at =
      All-cons begins_at_fall a [] (ap (goes_straight One Zero line) at ∙ fall) (All-nil begins_at_fall)

  of_falls : (starts : List ℕ) (taken : ℕ) → All falls_at starts
      → All begins_at_fall (frames (begun_frame line end u) taken starts)
  unfolding frames
  of_falls [] taken all = All-nil begins_at_fall
  of_falls (start ∷ starts) taken all =
      let frame = begun_frame line end u start in
      let after : Option Annotation → ℕ = λ some. option_map_or (λ a. a.end) some taken in
      let later : (from : ℕ) → All begins_at_fall (frames (begun_frame line end u) from starts) =
      λ from. of_falls starts from (All-tail falls_at start starts all) in
      cond_both (nat_le start taken) None frame
      (λ some. All begins_at_fall (option_to_list some ++ frames (begun_frame line end u) (after some) starts))
      (λ _. later taken)
      (λ _. All-append begins_at_fall (option_to_list frame) (frames (begun_frame line end u) (after frame) starts)
      (of_option frame start (All-head falls_at start starts all) (begins_there line end u start))
      (later (after frame)))

pub frames_begin : FramesBeginStraight
unfolding uart_annotations falls
frames_begin u line end =
    let ticks = range_with_len 0 (suc end) in
    let straight = filter_passes (goes_straight One Zero line) ticks in
    subst (λ (starts : List ℕ). All (begins_at_fall line end u) (frames (begun_frame line end u) 0 starts))
    (λ i. filter (λ t. sym (falls_straight line t) i) ticks)
    (of_falls line end u (filter (goes_straight One Zero line) ticks) 0 straight)

-- ---- SPI

pub same_clocks : StraightClocksCount
unfolding spi_annotations
same_clocks u clk other mosi miso cs end rises falls =
    let rise : (t : ℕ) → is_zero (letter_before clk t) && is_one (clk t)
    ≡ is_zero (letter_before other t) && is_one (other t) =
    λ t. rises_straight clk t ∙ rises t ∙ sym (rises_straight other t) in
    let fall : (t : ℕ) → is_one (letter_before clk t) && is_zero (clk t)
    ≡ is_one (letter_before other t) && is_zero (other t) =
    λ t. falls_straight clk t ∙ falls t ∙ sym (falls_straight other t) in
    λ i. flat_map (λ ticks. map (group_annotation u mosi miso) (groups_of u.bits ticks))
    (map (filter (λ t. if u.mode == 0 || u.mode == 3 then rise t i else fall t i))
    (slice_split (λ t. not (is_selected cs t)) (range_with_len 0 (suc end))))

-- ---- I2C

high_is : (b : Bit) → is_line_high b ≡ same_letter (if same_letter b Z then One else b) One
high_is Zero = refl
high_is b = refl

low_is : (b : Bit) → is_zero b ≡ same_letter (if same_letter b Z then One else b) Zero
low_is Zero = refl
low_is b = refl

high_before : (f : ℕ → Bit) (t : ℕ) → is_line_high (letter_before f t) ≡ same_letter (letter_before (pulled_up f) t) One
high_before f zero = refl
high_before f (suc t) = high_is (f t)

low_before : (f : ℕ → Bit) (t : ℕ) → is_zero (letter_before f t) ≡ same_letter (letter_before (pulled_up f) t) Zero
low_before f zero = refl
low_before f (suc t) = low_is (f t)

start_is : (scl sda : ℕ → Bit) (t : ℕ) → is_start_at scl sda t ≡ goes_while_high One Zero scl sda t
start_is scl sda t =
    and_assoc (is_line_high (letter_before scl t) && is_line_high (scl t)) (is_line_high (letter_before sda t))
    (is_zero (sda t)) ∙ (λ i. (high_before scl t i && high_is (scl t) i) && (high_before sda t i && low_is (sda t) i))

pub stop_is : (scl sda : ℕ → Bit) (t : ℕ) → is_stop_at scl sda t ≡ goes_while_high Zero One scl sda t
stop_is scl sda t =
    and_assoc (is_line_high (letter_before scl t) && is_line_high (scl t)) (is_zero (letter_before sda t))
    (is_line_high (sda t))
    ∙ (λ i. (high_before scl t i && high_is (scl t) i) && (low_before sda t i && high_is (sda t) i))

rise_is : (scl : ℕ → Bit) (t : ℕ)
    → is_zero (letter_before scl t) && is_line_high (scl t) ≡ goes_straight Zero One (pulled_up scl) t
rise_is scl t = λ i. low_before scl t i && high_is (scl t) i

-- the bit at a tick, if there is one
bit_at : ℕ → Bit → Bool → Option BusEvent
bit_at t level rises = if rises then Some (events.Bit (record { tick = t; level = level })) else None

same_level : (t : ℕ) (a b : Bit) (rises : Bool) → (rises ≡ true → a ≡ b) → bit_at t a rises ≡ bit_at t b rises
unfolding bit_at
same_level t a b true same = ap (λ level. Some (events.Bit (record { tick = t; level = level }))) (same refl)
same_level t a b false same = refl

pub same_buses : StraightBusEdgesCount
unfolding bus_events bit_at
same_buses scl sda other_scl other_sda end rises levels starts stops =
    λ i. annotations_of_events false None (filter_map (λ t. same_event t i) (range_with_len 0 (suc end)))
  where
    same_event : (t : ℕ) → bus_event_at scl sda t ≡ bus_event_at other_scl other_sda t
    same_event t =
        let start = start_is scl sda t ∙ starts t ∙ sym (start_is other_scl other_sda t) in
        let stop = stop_is scl sda t ∙ stops t ∙ sym (stop_is other_scl other_sda t) in
        let bit = ap (bit_at t (sda t)) (rise_is scl t)
        ∙ same_level t (sda t) (other_sda t) (goes_straight Zero One (pulled_up scl) t) (levels t)
        ∙ ap (bit_at t (other_sda t)) (rises t ∙ sym (rise_is other_scl t)) in
        λ i. if start i then Some (events.Start t) else (if stop i then Some (events.Stop t) else bit i)
