-- The frames of a line that sends frames are found: their bits, and one frame after another.
use Rattle.std.proofs.Common.{◌≡◌, ℕ, zero, suc, ◌+◌, ◌-◌, ◌*◌, ◌%◌, ◌<◌, ◌≤◌, ◌==◌, ◌||◌, Bool, true, false, Option}
use Rattle.std.proofs.Common.{Some, None, if◌then◌else◌, cond, List, [], ◌∷◌, ◌++◌, length, get_or, take, drop}
use Rattle.std.proofs.Common.{count_by, replicate, refl, sym, ap, ◌∙◌, ◌^◌, arith, ◌≢◌, ◌/◌, ◌&&◌, ◌⊎◌, inl, inr, map}
use Rattle.std.specs.Prelude.{IfSome, is_some, set}
use Rattle.std.specs.List.{list_any, filter, range_with_len}
use Rattle.std.proofs.lemmas.Bool.{eq-eqb, ne_eqb, cases_lt, lt-leb, le-leb}
use Rattle.std.proofs.lemmas.List.{length-append, length-replicate, append_assoc, length-set, get_or-set_same}
use Rattle.std.proofs.lemmas.List.Folds.{list_any-append, list_any_at}
use Rattle.std.proofs.lemmas.List.Sums.{sum_by-append}
use Rattle.std.proofs.Math.Seq.{take-append_seam, drop-append_seam}
use Rattle.std.proofs.Math.Nat.{le-div_iff_mul-le, div-mul-le_self}
use Rattle.vcd_core.specs.declared.bit.Bit.{Bit}
use Rattle.vcd_core.specs.declared.bit.Bit.TheVariants.{Zero, One}
use Rattle.vcd_core.proofs.shared.TicksInARow.{skip_ticks}
use Rattle.vcd_decode.specs.declared.annotation.Kind.{Kind}
use Rattle.vcd_decode.specs.declared.annotation.Kind.TheVariants.{Byte, ParityError, FrameError, Unknown}
use Rattle.vcd_decode.specs.declared.uart_setup.Parity.{Parity}
use Rattle.vcd_decode.specs.declared.uart_setup.Parity.TheVariants as parities
use Rattle.vcd_decode.specs.UartSetup.{UartSetup}
use Rattle.vcd_decode.specs.Lines.{is_zero, is_one, is_unclear, number_from_letters, letter_before, annotation}
use Rattle.vcd_decode.specs.Uart.{sample_offset, last_bit, checked_bits, parity_bits, is_parity_wrong, frame_kind}
use Rattle.vcd_decode.specs.Uart.{falls, frames, begun_frame, uart_annotations, sample_tick, frame_letters}
use Rattle.vcd_decode.specs.SentLevels.{level, data_levels}
use Rattle.vcd_decode.specs.UartSent.{SentFrame, CanHaveFlaws, parity_levels, with_unclear, sent_parity, stop_levels}
use Rattle.vcd_decode.specs.UartSent.{bit_offset, half_bit, sent_kind, frame_levels, IsIdle, last_middle, SendsFrames}
use Rattle.vcd_decode.specs.UartSent.{sent_annotation}
use Rattle.vcd_decode.specs.declared.annotation.Annotation.{Annotation}
use Rattle.vcd_decode.specs.SetupResults.{IsUartSetup}
use Rattle.vcd_decode.specs.inside.UartFrames.{is_fall}
use Rattle.vcd_decode.specs.Laws.{UartFramesAreFound}
use Rattle.vcd_decode.proofs.shared.Falls.{offsets_rise, whole, glitch, never_both}
use Rattle.vcd_decode.proofs.laws.sent.Levels.{at_level, level_clear, data_clear, data_length, number_of_data}
use Rattle.vcd_decode.proofs.laws.sent.Levels.{map_range}

-- ==== the bits of a frame that is sent: when they last, and what kind of frame they make

-- ---- when a bit is sampled

-- half a bit or more after it starts
pub sample_after_start : (u : UartSetup) (k : ℕ) → 1 ≤ u.denominator → bit_offset u k + half_bit u ≤ sample_offset u k
unfolding sample_offset
sample_after_start u k positive =
    (le-div_iff_mul-le {k = 2 * u.denominator} {x = bit_offset u k + half_bit u} {y = (2 * k + 1) * u.numerator}
    (omega arith)).1
    (omega (arith, div-mul-le_self (k * u.numerator) u.denominator, div-mul-le_self u.numerator (2 * u.denominator)))

-- and half a bit or more before the next starts
pub sample_before_next : (u : UartSetup) (k : ℕ) → 1 ≤ u.denominator
    → sample_offset u k + half_bit u ≤ bit_offset u (suc k)
unfolding sample_offset
sample_before_next u k positive =
    (le-div_iff_mul-le {k = u.denominator} {x = sample_offset u k + half_bit u} {y = suc k * u.numerator} positive).1
    (omega (
      arith,
      div-mul-le_self ((2 * k + 1) * u.numerator) (2 * u.denominator),
      div-mul-le_self u.numerator (2 * u.denominator),
    ))

-- ---- the parity bit

levels_clear : (p : Parity) (ones : ℕ) → list_any is_unclear (parity_levels p ones) ≡ false
levels_clear parities.None ones = refl
levels_clear parities.Even ones = rw (level_clear ones) refl
levels_clear parities.Odd ones = rw (level_clear (suc ones)) refl

parity_clear : (p : Parity) (wrong : Bool) (ones : ℕ) → list_any is_unclear (sent_parity p wrong ones) ≡ false
parity_clear p wrong ones = levels_clear p (if wrong then suc ones else ones)

levels_length : (p : Parity) (ones : ℕ) → length (parity_levels p ones) ≡ parity_bits p
levels_length parities.None ones = refl
levels_length p ones = refl

parity_length : (p : Parity) (wrong : Bool) (ones : ℕ) → length (sent_parity p wrong ones) ≡ parity_bits p
parity_length p wrong ones = levels_length p (if wrong then suc ones else ones)

count_one : (n : ℕ) → count_by is_one (level n ∷ []) ≡ n % 2
count_one n = at_level (λ b. count_by is_one (b ∷ []) ≡ n % 2) n (λ odd. sym odd) (λ even. sym even)

parity_right : (p : Parity) (ones : ℕ) → is_parity_wrong p (ones + count_by is_one (parity_levels p ones)) ≡ false
parity_right parities.None ones = refl
parity_right parities.Even ones =
    ap (λ n. (ones + n) % 2 == 1) (count_one ones) ∙ ne_eqb ((ones + ones % 2) % 2) 1 (omega arith)
parity_right parities.Odd ones =
    ap (λ n. (ones + n) % 2 == 0) (count_one (suc ones)) ∙ ne_eqb ((ones + suc ones % 2) % 2) 0 (omega arith)

parity_wrong : (p : Parity) (ones : ℕ) → parity_bits p ≡ 1
    → is_parity_wrong p (ones + count_by is_one (parity_levels p (suc ones))) ≡ true
parity_wrong parities.None ones some = absurd (omega (arith, some))
parity_wrong parities.Even ones some =
    ap (λ n. (ones + n) % 2 == 1) (count_one (suc ones)) ∙ eq-eqb ((ones + suc ones % 2) % 2) 1 (omega arith)
parity_wrong parities.Odd ones some =
    ap (λ n. (ones + n) % 2 == 0) (count_one (suc (suc ones)))
    ∙ eq-eqb ((ones + suc (suc ones) % 2) % 2) 0 (omega arith)

parity_is : (p : Parity) (wrong : Bool) (ones : ℕ) → (wrong ≡ true → parity_bits p ≡ 1)
    → is_parity_wrong p (ones + count_by is_one (sent_parity p wrong ones)) ≡ wrong
parity_is p true ones can = parity_wrong p ones (can refl)
parity_is p false ones can = parity_right p ones

-- ---- the stop bits

ones_have : (p : Bit → Bool) (n : ℕ) → p One ≡ false → list_any p (replicate n One) ≡ false
ones_have p zero not_one = refl
ones_have p (suc n) not_one = rw not_one (ones_have p n not_one)

stop_clear : (count : ℕ) (low : Option ℕ) → list_any is_unclear (stop_levels count low) ≡ false
stop_clear count (Some k) =
    list_any-append is_unclear (replicate k One) (Zero ∷ replicate (count - suc k) One)
    ∙ (λ i. ones_have is_unclear k refl i || ones_have is_unclear (count - suc k) refl i)
stop_clear count None = ones_have is_unclear count refl

stop_is : (count : ℕ) (low : Option ℕ) → list_any is_zero (stop_levels count low) ≡ is_some low
stop_is count (Some k) =
    list_any-append is_zero (replicate k One) (Zero ∷ replicate (count - suc k) One)
    ∙ ap (λ b. b || true) (ones_have is_zero k refl)
stop_is count None = ones_have is_zero count refl

stop_length : (count : ℕ) (low : Option ℕ) → IfSome low (λ k. k < count) → length (stop_levels count low) ≡ count
stop_length count (Some k) can =
    length-append (replicate k One) (Zero ∷ replicate (count - suc k) One)
    ∙ (λ i. length-replicate k One i + suc (length-replicate (count - suc k) One i)) ∙ omega (arith, can)
stop_length count None can = length-replicate count One

-- ---- the frame

-- the bits after the start bit, as if none were unclear
abbrev clear_levels : UartSetup → SentFrame → List Bit
clear_levels u w =
    let data_bits = data_levels u.data_bits w.word in
    data_bits ++ sent_parity u.parity w.flaws.wrong_parity (count_by is_one data_bits)
    ++ stop_levels u.stop_bits w.flaws.low_stop

-- the bits after the start bit
abbrev pub later_levels : UartSetup → SentFrame → List Bit
later_levels u w = with_unclear w.flaws.unclear (clear_levels u w)

-- the kind by two tests
abbrev kind_of : Bool → Bool → ℕ → Kind
kind_of low wrong word = if low then FrameError else (if wrong then ParityError word else Byte word)

kind_by : (u : UartSetup) (letters : List Bit) (low wrong : Bool) (word : ℕ) → list_any is_unclear letters ≡ false
    → list_any is_zero (drop (checked_bits u) letters) ≡ low
    → is_parity_wrong u.parity (count_by is_one (take (checked_bits u) letters)) ≡ wrong
    → number_from_letters (take u.data_bits letters) ≡ word → frame_kind u letters ≡ kind_of low wrong word
kind_by u letters low wrong word clear is_low is_wrong number = rw (clear, is_low, is_wrong, number) refl

-- these parts make a whole frame
parts : (u : UartSetup) (data_bits parity stop : List Bit) (low wrong : Bool) (word : ℕ)
    → length data_bits ≡ u.data_bits → length parity ≡ parity_bits u.parity
    → list_any is_unclear data_bits ≡ false → list_any is_unclear parity ≡ false → list_any is_unclear stop ≡ false
    → list_any is_zero stop ≡ low
    → is_parity_wrong u.parity (count_by is_one data_bits + count_by is_one parity) ≡ wrong
    → number_from_letters data_bits ≡ word → frame_kind u (data_bits ++ parity ++ stop) ≡ kind_of low wrong word
parts u data_bits parity stop low wrong word data_size parity_size data_is parity_is' stop_is' is_low is_wrong number =
    let checked = data_bits ++ parity in
    let size : checked_bits u ≡ length checked =
    sym (length-append data_bits parity ∙ (λ i. data_size i + parity_size i)) in
    kind_by u (checked ++ stop) low wrong word
    (list_any-append is_unclear checked stop ∙ (λ i. list_any-append is_unclear data_bits parity i || stop_is' i)
    ∙ (λ i. (data_is i || parity_is' i) || false))
    (ap (λ n. list_any is_zero (drop n (checked ++ stop))) size
    ∙ ap (list_any is_zero) (drop-append_seam checked stop) ∙ is_low)
    (ap (λ n. is_parity_wrong u.parity (count_by is_one (take n (checked ++ stop)))) size
    ∙ ap (λ bs. is_parity_wrong u.parity (count_by is_one bs)) (take-append_seam checked stop)
    ∙ ap (is_parity_wrong u.parity) (sum_by-append (λ x. cond (is_one x) 1 0) data_bits parity) ∙ is_wrong)
    (ap (λ n. number_from_letters (take n (checked ++ stop))) (sym data_size)
    ∙ ap (λ bs. number_from_letters (take (length data_bits) bs)) (append_assoc data_bits parity stop)
    ∙ ap number_from_letters (take-append_seam data_bits (parity ++ stop)) ∙ number)

clear_length : (u : UartSetup) (w : SentFrame) → CanHaveFlaws u w.flaws → length (clear_levels u w) ≡ last_bit u
clear_length u w can =
    let data_bits = data_levels u.data_bits w.word in
    let parity = sent_parity u.parity w.flaws.wrong_parity (count_by is_one data_bits) in
    length-append (data_bits ++ parity) (stop_levels u.stop_bits w.flaws.low_stop)
    ∙ (λ i. length-append data_bits parity i + stop_length u.stop_bits w.flaws.low_stop can.1 i)
    ∙ (λ i. (data_length u.data_bits w.word i
    + parity_length u.parity w.flaws.wrong_parity (count_by is_one data_bits) i) + u.stop_bits)

kind_of_clear : (u : UartSetup) (w : SentFrame) → w.word < 2 ^ u.data_bits → CanHaveFlaws u w.flaws
    → frame_kind u (clear_levels u w) ≡ kind_of (is_some w.flaws.low_stop) w.flaws.wrong_parity w.word
kind_of_clear u w within can =
    let data_bits = data_levels u.data_bits w.word in
    let ones = count_by is_one data_bits in
    parts u data_bits (sent_parity u.parity w.flaws.wrong_parity ones) (stop_levels u.stop_bits w.flaws.low_stop)
    (is_some w.flaws.low_stop) w.flaws.wrong_parity w.word (data_length u.data_bits w.word)
    (parity_length u.parity w.flaws.wrong_parity ones) (data_clear u.data_bits w.word)
    (parity_clear u.parity w.flaws.wrong_parity ones) (stop_clear u.stop_bits w.flaws.low_stop)
    (stop_is u.stop_bits w.flaws.low_stop) (parity_is u.parity w.flaws.wrong_parity ones can.0)
    (number_of_data u.data_bits w.word within)

-- one unclear bit decides
kind_with_unclear : (u : UartSetup) (bits : List Bit) (kind : Kind) (unclear : Option (ℕ × Bit))
    → length bits ≡ last_bit u → IfSome unclear (λ bit. (bit.0 < last_bit u) × (is_unclear bit.1 ≡ true))
    → frame_kind u bits ≡ kind
    → frame_kind u (with_unclear unclear bits) ≡ (if is_some unclear then Unknown else kind)
kind_with_unclear u bits kind None long can is = is
kind_with_unclear u bits kind (Some (k, b)) long can is =
    let found : list_any is_unclear (set bits k b) ≡ true =
    list_any_at is_unclear (set bits k b) k One (omega (arith, length-set bits k b, long, can.0))
    (ap is_unclear (get_or-set_same bits k b One (omega (arith, long, can.0))) ∙ can.1) in
    rw found refl

pub kind_of_sent : (u : UartSetup) (w : SentFrame) → w.word < 2 ^ u.data_bits → CanHaveFlaws u w.flaws
    → frame_kind u (later_levels u w) ≡ sent_kind w.flaws w.word
kind_of_sent u w within can =
    kind_with_unclear u (clear_levels u w) (kind_of (is_some w.flaws.low_stop) w.flaws.wrong_parity w.word)
    w.flaws.unclear (clear_length u w can) can.2 (kind_of_clear u w within can)

pub later_length : (u : UartSetup) (w : SentFrame) → CanHaveFlaws u w.flaws → length (later_levels u w) ≡ last_bit u
later_length u w can = with_one w.flaws.unclear ∙ clear_length u w can
  where
    with_one : (unclear : Option (ℕ × Bit))
        → length (with_unclear unclear (clear_levels u w)) ≡ length (clear_levels u w)
    with_one None = refl
    with_one (Some (k, b)) = length-set (clear_levels u w) k b

-- ==== the frames of a line that sends frames are these

-- ---- the walk over the falls of a line

-- the frames that the falls from a tick on begin
abbrev frames_from : (ℕ → Option Annotation) → (ℕ → Bit) → ℕ → ℕ → ℕ → List Annotation
frames_from begun f taken t n = frames begun taken (filter (is_fall f) (range_with_len t n))

-- what begins no frame at a tick
abbrev BeginsNone : (ℕ → Option Annotation) → (ℕ → Bit) → ℕ → ℕ → Type 0
BeginsNone begun f taken t = (t ≤ taken) ⊎ (is_fall f t ≡ false) ⊎ (begun t ≡ None)

one_skipped : (begun : ℕ → Option Annotation) (f : ℕ → Bit) (taken t : ℕ) (ts : List ℕ) → BeginsNone begun f taken t
    → frames begun taken (filter (is_fall f) (t ∷ ts)) ≡ frames begun taken (filter (is_fall f) ts)
unfolding frames
one_skipped begun f taken t ts none = passes (filter (is_fall f) ts) (is_fall f t) none
  where
    passes : (later : List ℕ) (fall : Bool) → (t ≤ taken) ⊎ (fall ≡ false) ⊎ (begun t ≡ None)
        → frames begun taken (cond fall (t ∷ later) later) ≡ frames begun taken later
    passes later false none = refl
    passes later true (inl within) = rw (le-leb t taken within) refl
    passes later true (inr (inl still)) = absurd (cc)
    passes later true (inr (inr none)) = elim (cases_lt taken t) [
      | inl past ↦ rw (lt-leb t taken past, none) refl
      | inr within ↦ rw (le-leb t taken within) refl
    ]

skipped : (begun : ℕ → Option Annotation) (f : ℕ → Bit) (taken count t n later rest : ℕ) → t + count ≡ later
    → count + rest ≡ n → ((s : ℕ) → t ≤ s → s < later → BeginsNone begun f taken s)
    → frames_from begun f taken t n ≡ frames_from begun f taken later rest
skipped begun f taken count t n later rest at all still =
    skip_ticks (λ ts. frames begun taken (filter (is_fall f) ts)) count t n later rest at all
    (λ s ts from before. one_skipped begun f taken s ts (still s from before))

begins : (begun : ℕ → Option Annotation) (f : ℕ → Bit) (taken t n : ℕ) (a : Annotation) → taken < t → is_fall f t ≡ true
    → begun t ≡ Some a → frames_from begun f taken t (suc n) ≡ a ∷ frames_from begun f a.end (t + 1) n
unfolding frames
begins begun f taken t n a past fall is = rw (fall, lt-leb t taken past, is) refl

-- a line that stays does not fall
no_fall_while : (f : ℕ → Bit) (t : ℕ) (b : Bit) → f t ≡ b → f (suc t) ≡ b → is_fall f (suc t) ≡ false
no_fall_while f t b before here = (λ i. is_one (before i) && is_zero (here i)) ∙ never_both b

-- an idle line does not fall, or not to begin a frame
idle_begins_none : (u : UartSetup) (f : ℕ → Bit) (end from until t : ℕ) → IsIdle u f from until end → from < t
    → t < until → (is_fall f t ≡ false) ⊎ (begun_frame f end u t ≡ None)
unfolding sample_offset
idle_begins_none u f end from until zero idle late early = absurd (omega arith)
idle_begins_none u f end from until (suc t) idle late early = by_letters (f t) (f (suc t)) refl refl
  where
    not_zero : (b : Bit) → b ≢ Zero → is_zero b ≡ false
    not_zero Zero other = absurd (other refl)
    not_zero b other = refl

    first_sample : sample_tick u (suc t) 0 ≡ suc t + half_bit u
    first_sample = ap (λ m. suc t + m / (2 * u.denominator)) (omega arith)

    falls_here : f t ≡ One → f (suc t) ≡ Zero → begun_frame f end u (suc t) ≡ None
    falls_here before here =
        let (within, other) = idle t (omega arith) early before here in
        glitch f end u (suc t) (omega (arith, first_sample))
        (ap (λ s. is_zero (f s)) first_sample ∙ not_zero (f (suc t + half_bit u)) other)

    is_none : (a b : Bit) → f t ≡ a → f (suc t) ≡ b → (is_one a && is_zero b) ≡ false → is_fall f (suc t) ≡ false
    is_none a b before here none = (λ i. is_one (before i) && is_zero (here i)) ∙ none

    by_letters : (a b : Bit) → f t ≡ a → f (suc t) ≡ b
        → (is_fall f (suc t) ≡ false) ⊎ (begun_frame f end u (suc t) ≡ None)
    by_letters One Zero before here = inr (falls_here before here)
    by_letters a b before here = inl (is_none a b before here refl)

-- ---- a frame is found

-- a frame at the head of those to come, on a line that sends them
module _ (u : UartSetup) (setup : IsUartSetup u.numerator u.denominator u.data_bits u.stop_bits) (end : ℕ) (f : ℕ → Bit)
    (from : ℕ) (w : SentFrame) (ws : List SentFrame) (can : SendsFrames u f from end (w ∷ ws)) where
  abbrev last_tick : ℕ
  last_tick = sample_tick u w.start (last_bit u)

  bit_here : (k : ℕ) → k ≤ last_bit u → f (sample_tick u w.start k) ≡ get_or (frame_levels u w) k One
  unfolding SendsFrames
  bit_here k within =
      can.6 k (sample_tick u w.start k) within (omega (arith, sample_after_start u k setup.1))
      (omega (arith, sample_before_next u k setup.1))

  letters_are : frame_letters f u w.start ≡ later_levels u w
  unfolding SendsFrames
  letters_are =
      let size = later_length u w can.1 in
      ap (λ n. map (λ bit. f (sample_tick u w.start bit)) (range_with_len 1 n)) (sym size)
      ∙ map_range (λ bit. f (sample_tick u w.start bit)) (later_levels u w) 1 One
      (λ i below.
      ap (λ k. f (sample_tick u w.start k)) (omega arith) ∙ bit_here (suc i) (omega (arith, size)))

  -- the last sample is no later than the last tick at which the last bit is known
  last_within : last_tick ≤ last_middle u w
  last_within = omega (arith, sample_before_next u (last_bit u) setup.1)

  found : begun_frame f end u w.start ≡ Some (sent_annotation u w)
  unfolding SendsFrames
  found =
      let rise = offsets_rise u 0 (last_bit u) (omega arith) in
      let low : is_zero (f (sample_tick u w.start 0)) ≡ true = ap is_zero (bit_here 0 (omega arith)) in
      whole f end u w.start (omega (arith, last_within, can.7)) low (omega (arith, last_within, can.7))
      ∙ ap (λ letters. Some (annotation w.start last_tick (frame_kind u letters))) letters_are
      ∙ ap (λ kind. Some (annotation w.start last_tick kind)) (kind_of_sent u w can.0 can.1)

  start_falls : is_fall f w.start ≡ true
  unfolding SendsFrames
  start_falls =
      let previous : w.start ≡ suc (w.start - 1) = omega (arith, can.2) in
      let high : letter_before f w.start ≡ One = ap (letter_before f) previous ∙ can.4 in
      λ i. is_one (high i) && is_zero (can.5 i)

  -- from its last sample on the line has the last bit
  last_bit_here : (t : ℕ) → last_tick ≤ t → t ≤ last_middle u w → f t ≡ get_or (frame_levels u w) (last_bit u) One
  unfolding SendsFrames
  last_bit_here t late early =
      let before = sample_before_next u (last_bit u) setup.1 in
      can.6 (last_bit u) t (omega arith) (omega (arith, sample_after_start u (last_bit u) setup.1))
      (omega (arith, before))

  still_after : (t : ℕ) → last_tick < t → t ≤ last_middle u w → is_fall f t ≡ false
  still_after zero late early = absurd (omega arith)
  still_after (suc t) late early =
      no_fall_while f t (get_or (frame_levels u w) (last_bit u) One) (last_bit_here t (omega arith) (omega arith))
      (last_bit_here (suc t) (omega arith) early)

-- ---- all frames

-- after the last sample of a frame, up to the middle of its last bit, there is no fall
frames_found : (u : UartSetup) (end : ℕ) (f : ℕ → Bit) (ws : List SentFrame) (taken from n : ℕ)
    → IsUartSetup u.numerator u.denominator u.data_bits u.stop_bits → taken + n ≡ end → taken ≤ from
    → SendsFrames u f from end ws → ((t : ℕ) → taken < t → t ≤ from → is_fall f t ≡ false)
    → frames_from (begun_frame f end u) f taken (suc taken) n ≡ map (sent_annotation u) ws
unfolding SendsFrames frames
frames_found u end f [] taken from n setup all past can still =
    skipped (begun_frame f end u) f taken n (suc taken) n (suc taken + n) 0 refl (omega arith)
    (λ s late early. elim (cases_lt from s) [
      | inl later ↦ inr (idle_begins_none u f end from (suc end) s can later (omega arith))
      | inr sooner ↦ inr (inl (still s (omega arith) sooner))
    ])
frames_found u end f (w ∷ ws) taken from n setup all past can still =
    let begun = begun_frame f end u in
    let last = sample_tick u w.start (last_bit u) in
    let inside : last ≤ last_middle u w = last_within u setup end f from w ws can in
    skipped begun f taken (w.start - suc taken) (suc taken) n w.start (suc (end - w.start)) (omega arith)
    (omega (arith, can.7))
    (λ s late early. elim (cases_lt from s) [
      | inl later ↦ inr (idle_begins_none u f end from w.start s can.3 later early)
      | inr sooner ↦ inr (inl (still s (omega arith) sooner))
    ])
    ∙ begins begun f taken w.start (end - w.start) (sent_annotation u w) (omega (arith, can.2))
    (start_falls u setup end f from w ws can) (found u setup end f from w ws can)
    ∙ ap (λ later. sent_annotation u w ∷ later)
    (skipped begun f last (last - w.start) (w.start + 1) (end - w.start) (suc last) (end - last) (omega arith)
    (omega (arith, can.7)) (λ s late early. inl (omega arith))
    ∙ frames_found u end f ws last (last_middle u w) (end - last) setup (omega (arith, can.7)) inside can.8
    (still_after u setup end f from w ws can))

pub sent_found : UartFramesAreFound
unfolding uart_annotations falls
sent_found u f end ws setup can =
    one_skipped (begun_frame f end u) f 0 0 (range_with_len 1 end) (inl (omega arith))
    ∙ frames_found u end f ws 0 0 end setup (omega arith) (omega arith) can (λ t late early. absurd (omega arith))
