-- When a serial peripheral interface is sampled: where its chip is selected, and at the edges of its clock.
use Rattle.std.proofs.Common.{◌≡◌, ℕ, zero, suc, ◌+◌, ◌-◌, ◌<◌, ◌≤◌, ◌&&◌, nat_le, nat_lt, not, Bool, true, false}
use Rattle.std.proofs.Common.{Option, Some, None, List, [], ◌∷◌, ◌++◌, map, append-nil, refl, sym, ap, ◌∙◌, arith, ◌==◌}
use Rattle.std.proofs.Common.{◌||◌, if◌then◌else◌, inl, inr, append_assoc}
use Rattle.std.specs.List.{filter, flat_map, range_with_len, slice_split, onto_first}
use Rattle.std.proofs.lemmas.Bool.{le-leb, lt-leb, lt-ltb, le-ltb, and_right, cases_eq, cases_lt, cond_both}
use Rattle.std.proofs.lemmas.List.Splits.{slice_split-cons_yes, slice_split-cons_no}
use Rattle.vcd_core.specs.declared.bit.Bit.{Bit}
use Rattle.vcd_core.specs.declared.bit.Bit.TheVariants.{Zero, X}
use Rattle.vcd_core.specs.Value.{same_letter}
use Rattle.vcd_core.proofs.shared.TicksInARow.{skip_ticks}
use Rattle.vcd_decode.specs.declared.annotation.Annotation.{Annotation}
use Rattle.vcd_decode.specs.Lines.{is_zero, letter_before, is_one}
use Rattle.vcd_decode.specs.Spi.{is_selected, has_sampling_edge}
use Rattle.vcd_decode.specs.SpiSent.{IsChipSelect, SpiWord, word_end, HasHalves, WordsFit, SendsClock, idle_level}
use Rattle.vcd_decode.specs.SpiSent.{first_level, second_level}
use Rattle.vcd_decode.specs.SpiSetup.{SpiSetup}

-- ==== the ticks at which a chip is selected, from one tick to another

-- ---- the chip select

-- whether a tick is in the range
abbrev is_within : ℕ → ℕ → ℕ → Bool
is_within select release t = nat_le select t && nat_lt t release

pub zero_is : (b : Bit) → is_zero b ≡ same_letter b Zero
zero_is Zero = refl
zero_is b = refl

selected_is : (cs : Option (ℕ → Bit)) (select release end t : ℕ) → t ≤ end → IsChipSelect cs select release end
    → is_selected cs t ≡ is_within select release t
selected_is None select release end t upto is =
    sym ((λ i. le-leb select t (omega (arith, is.0)) i && lt-ltb t release (omega (arith, is.1)) i))
selected_is (Some cs) select release end t upto is = zero_is (cs t) ∙ is t upto

-- ---- the parts between the ticks at which it is not selected

module _ (annotations : List ℕ → List Annotation) (nothing : annotations [] ≡ []) (sampled : ℕ → Bool) (p : ℕ → Bool)
  where
    abbrev of_parts : List (List ℕ) → List Annotation
    of_parts parts = flat_map annotations (map (filter sampled) parts)

    -- parts without ticks
    empty_parts : (t n : ℕ) → ((s : ℕ) → t ≤ s → s < t + n → p s ≡ true)
        → (tail : List (List ℕ)) × (slice_split p (range_with_len t n) ≡ [] ∷ tail) × (of_parts tail ≡ [])
    empty_parts t zero all = ([], refl, refl)
    empty_parts t (suc n) all =
        let later = empty_parts (t + 1) n (λ s from to. all s (omega arith) (omega arith)) in (
          slice_split p (range_with_len (t + 1) n),
          slice_split-cons_yes p t (range_with_len (t + 1) n) (all t (omega arith) (omega arith)),
          ap of_parts later.1 ∙ (λ i. nothing i ++ later.2 i),
        )

    -- a part up to a tick
    one_part : (t m n : ℕ) → ((s : ℕ) → t ≤ s → s < t + m → p s ≡ false)
        → ((s : ℕ) → t + m ≤ s → s < t + m + n → p s ≡ true)
        → (tail : List (List ℕ)) × (slice_split p (range_with_len t (m + n)) ≡ range_with_len t m ∷ tail)
        × (of_parts tail ≡ [])
    one_part t zero n within after =
        let size : 0 + n ≡ n = omega arith in
        let rest = empty_parts t n (λ s from to. after s (omega arith) (omega arith)) in
        (rest.0, ap (λ k. slice_split p (range_with_len t k)) size ∙ rest.1, rest.2)
    one_part t (suc m) n within after =
        let size : suc m + n ≡ suc (m + n) = omega arith in
        let later = one_part (t + 1) m n (λ s from to. within s (omega arith) (omega arith))
        (λ s from to. after s (omega arith) (omega arith)) in (
          later.0,
          ap (λ k. slice_split p (range_with_len t k)) size
              ∙ slice_split-cons_no p t (range_with_len (t + 1) (m + n)) (within t (omega arith) (omega arith))
              ∙ ap (onto_first t) later.1,
          later.2,
        )

    -- parts without ticks before another
    parts_before : (count t n : ℕ) → ((s : ℕ) → t ≤ s → s < t + count → p s ≡ true)
        → of_parts (slice_split p (range_with_len t (count + n)))
        ≡ of_parts (slice_split p (range_with_len (t + count) n))
    parts_before count t n all =
        skip_ticks (λ ts. of_parts (slice_split p ts)) count t (count + n) (t + count) n refl refl
        (λ s ts from to. ap of_parts (slice_split-cons_yes p s ts (all s from to))
        ∙ ap (λ found. found ++ of_parts (slice_split p ts)) nothing)

-- the annotations of the ticks at which the chip is selected
pub selected_part : (annotations : List ℕ → List Annotation) (sampled : ℕ → Bool) (cs : Option (ℕ → Bit))
    (select release end : ℕ) → annotations [] ≡ [] → select ≤ release → release ≤ suc end
    → IsChipSelect cs select release end
    → flat_map annotations (map (filter sampled)
    (slice_split (λ t. not (is_selected cs t)) (range_with_len 0 (suc end))))
    ≡ annotations (filter sampled (range_with_len select (release - select)))
selected_part annotations sampled cs select release end nothing ordered within is =
    let p : ℕ → Bool = λ t. not (is_selected cs t) in
    let all : suc end ≡ select + ((release - select) + (suc end - release)) = omega arith in
    let tick : 0 + select ≡ select = omega arith in
    let test : (s : ℕ) → s ≤ end → p s ≡ not (is_within select release s) =
    λ s upto. ap not (selected_is cs select release end s upto is) in
    let part = one_part annotations nothing sampled p select (release - select) (suc end - release)
    (λ s from to. test s (omega arith)
    ∙ (λ i. not (le-leb select s (omega arith) i && lt-ltb s release (omega arith) i)))
    (λ s from to. test s (omega arith) ∙ ap not (ap (λ b. nat_le select s && b) (le-ltb s release (omega arith))
    ∙ and_right (nat_le select s) false refl)) in
    ap (λ n. flat_map annotations (map (filter sampled) (slice_split p (range_with_len 0 n)))) all
    ∙ parts_before annotations nothing sampled p select 0 ((release - select) + (suc end - release))
    (λ s from to. test s (omega arith) ∙ ap (λ b. not (b && nat_lt s release)) (lt-leb select s (omega arith)))
    ∙ ap (λ k. flat_map annotations (map (filter sampled)
    (slice_split p (range_with_len k ((release - select) + (suc end - release)))))) tick
    ∙ ap (λ parts. flat_map annotations (map (filter sampled) parts)) part.1
    ∙ ap (λ found. annotations (filter sampled (range_with_len select (release - select))) ++ found) part.2
    ∙ append-nil (annotations (filter sampled (range_with_len select (release - select))))

-- ==== the sampling edges of a clock that sends words

-- ---- edges

-- whether a mode samples where the clock goes from one letter to another
abbrev pub edge_of : ℕ → Bit → Bit → Bool
edge_of mode x y = if mode == 0 || mode == 3 then is_zero x && is_one y else is_one x && is_zero y

edge : (mode : ℕ) → mode ≤ 3 → edge_of mode (first_level mode) (second_level mode) ≡ true
edge (suc (suc (suc (suc m)))) most = absurd (omega arith)
edge mode most = refl

no_edge_to_first : (mode : ℕ) (x : Bit) → mode ≤ 3 → edge_of mode x (first_level mode) ≡ false
no_edge_to_first (suc (suc (suc (suc m)))) x most = absurd (omega arith)
no_edge_to_first mode x most = and_right _ false refl

no_edge_from_second : (mode : ℕ) (y : Bit) → mode ≤ 3 → edge_of mode (second_level mode) y ≡ false
no_edge_from_second (suc (suc (suc (suc m)))) y most = absurd (omega arith)
no_edge_from_second mode y most = refl

no_edge_idle : (mode : ℕ) → mode ≤ 3 → edge_of mode (idle_level mode) (idle_level mode) ≡ false
no_edge_idle (suc (suc (suc (suc m)))) most = absurd (omega arith)
no_edge_idle mode most = refl

no_edge_x : (mode : ℕ) (y : Bit) → edge_of mode X y ≡ false
no_edge_x mode y = cond_both (mode == 0 || mode == 3) (is_zero X && is_one y) (is_one X && is_zero y)
    (λ b. b ≡ false) (λ _. refl) (λ _. refl)

-- ---- the ticks that pass a test

skipped : (p : ℕ → Bool) (count t n later rest : ℕ) → t + count ≡ later → count + rest ≡ n
    → ((s : ℕ) → t ≤ s → s < later → p s ≡ false) → filter p (range_with_len t n) ≡ filter p (range_with_len later rest)
skipped p count t n later rest at all fails = skip_ticks (filter p) count t n later rest at all
    (λ s ts from before. rw (fails s from before) refl)

passed : (p : ℕ → Bool) (t n : ℕ) → p t ≡ true
    → filter p (range_with_len t (suc n)) ≡ t ∷ filter p (range_with_len (t + 1) n)
passed p t n holds = rw holds refl

rising : (f : ℕ → ℕ) → ((k : ℕ) → f k ≤ f (suc k)) → (a b : ℕ) → a ≤ b → f a ≤ f b
rising f steps a zero le = omega (arith, ap f {x = a} {y = 0} (omega arith))
rising f steps a (suc b) le =
    elim (cases_eq a (suc b)) [
      | inl is ↦ omega (arith, ap f is)
      | inr apart ↦ omega (arith, rising f steps a b (omega arith), steps b)
    ]

-- ---- the edges of a word

-- the middles of the first bits of a word
abbrev pub middles : SpiWord → ℕ → List ℕ
middles w count = map w.bit_middle (range_with_len 0 count)

-- a clock that sends a word up to before the tick `limit`
module _ (u : SpiSetup) (limit : ℕ) (w : SpiWord) (clk : ℕ → Bit) (most : u.mode ≤ 3) (halves : HasHalves w)
    (first : (k t : ℕ) → k < u.bits → w.bit_start k ≤ t → t < w.bit_middle k → t < limit → clk t ≡ first_level u.mode)
    (second : (k t : ℕ) → k < u.bits → w.bit_middle k ≤ t → t < w.bit_start (suc k) → t < limit
    → clk t ≡ second_level u.mode) where
  abbrev sampled : ℕ → Bool
  sampled t = has_sampling_edge u.mode clk t

  first_still : (k t : ℕ) → k < u.bits → w.bit_start k ≤ t → t < w.bit_middle k → t < limit → sampled t ≡ false
  first_still k t bit from before inside =
      ap (edge_of u.mode (letter_before clk t)) (first k t bit from before inside)
      ∙ no_edge_to_first u.mode (letter_before clk t) most

  after_second : (k t : ℕ) → k < u.bits → w.bit_middle k ≤ t → t < w.bit_start (suc k) → t < limit
      → sampled (suc t) ≡ false
  after_second k t bit from before inside =
      ap (λ x. edge_of u.mode x (clk (suc t))) (second k t bit from before inside)
      ∙ no_edge_from_second u.mode (clk (suc t)) most

  -- between the middles of two bits
  between : (k t : ℕ) → k < u.bits → w.bit_middle k < t → t < w.bit_middle (suc k) → t < limit
      → (w.bit_start (suc k) < t → suc k < u.bits) → sampled t ≡ false
  between k zero bit from before inside more = absurd (omega arith)
  between k (suc t) bit from before inside more =
      elim (cases_lt (w.bit_start (suc k)) (suc t)) [
        | inl past ↦ first_still (suc k) (suc t) (more past) (omega arith) before inside
        | inr upto ↦ after_second k t bit (omega arith) (omega arith) (omega arith)
      ]

  -- in the middle of a bit
  middle : (k : ℕ) → k < u.bits → w.bit_middle k < limit → sampled (w.bit_middle k) ≡ true
  middle k bit inside =
      let tick = w.bit_middle k in
      let rise = halves k in
      let previous : tick ≡ suc (tick - 1) = omega (arith, rise.0) in
      let before : letter_before clk tick ≡ first_level u.mode =
      ap (letter_before clk) previous
      ∙ first k (tick - 1) bit (omega (arith, rise.0)) (omega (arith, rise.0)) (omega arith) in
      let here : clk tick ≡ second_level u.mode = second k tick bit (omega arith) rise.1 inside in
      (λ i. edge_of u.mode (before i) (here i)) ∙ edge u.mode most

  -- the word is sampled `count` times before the limit
  module _ (stop count : ℕ) (some : 0 < count) (bits : count ≤ u.bits) (fits : limit ≤ stop)
      (short : w.bit_middle (count - 1) < limit) (long : limit ≤ w.bit_middle count)
      (more : (t : ℕ) → t < limit → w.bit_start count < t → count < u.bits) where
    middles_rise : (k : ℕ) → w.bit_middle k ≤ w.bit_middle (suc k)
    middles_rise k = omega (arith, (halves k).1, (halves (suc k)).0)

    -- the sampled ticks after the middle of bit k, of which `m` are in the word
    after_bit : (m k n : ℕ) → suc (k + m) ≡ count → w.bit_middle k + 1 + n ≡ stop
        → filter sampled (range_with_len (w.bit_middle k + 1) n)
        ≡ map w.bit_middle (range_with_len (k + 1) m) ++ filter sampled (range_with_len limit (stop - limit))
    after_bit zero k n all size =
        let last : count ≡ suc k = omega arith in
        let this : w.bit_middle (count - 1) ≡ w.bit_middle k = ap w.bit_middle (omega arith) in
        let next : w.bit_middle count ≡ w.bit_middle (suc k) = ap w.bit_middle last in
        let start : w.bit_start count ≡ w.bit_start (suc k) = ap w.bit_start last in
        skipped sampled (limit - (w.bit_middle k + 1)) (w.bit_middle k + 1) n limit (stop - limit) (omega arith)
        (omega arith)
        (λ s from to. between k s (omega arith) (omega arith) (omega arith) to
        (λ past. let bit = more s to (omega arith) in omega arith))
    after_bit (suc m) k n all size =
        let tick = w.bit_middle (suc k) in
        let inside : tick ≤ w.bit_middle (count - 1) =
        rising w.bit_middle middles_rise (suc k) (count - 1) (omega arith) in
        let rise = middles_rise k in
        let this : w.bit_middle k < tick = omega (arith, (halves k).1, (halves (suc k)).0) in
        let index : k + 1 ≡ suc k = omega arith in
        skipped sampled (tick - (w.bit_middle k + 1)) (w.bit_middle k + 1) n tick (suc (stop - suc tick)) (omega arith)
        (omega arith)
        (λ s from to. between k s (omega arith) (omega arith) to (omega arith) (λ past. omega arith))
        ∙ passed sampled tick (stop - suc tick) (middle (suc k) (omega arith) (omega arith))
        ∙ ap (λ ts. tick ∷ ts) (after_bit m (suc k) (stop - suc tick) (omega arith) (omega arith))
        ∙ ap (λ b. map w.bit_middle (range_with_len b (suc m)) ++ filter sampled (range_with_len limit (stop - limit)))
        (sym index)

    -- the sampled ticks from the start of the word on
    pub word_walked : (n : ℕ) → w.bit_start 0 + n ≡ stop → filter sampled (range_with_len (w.bit_start 0) n)
        ≡ middles w count ++ filter sampled (range_with_len limit (stop - limit))
    word_walked n size =
        let tick = w.bit_middle 0 in
        let inside : tick ≤ w.bit_middle (count - 1) = rising w.bit_middle middles_rise 0 (count - 1) (omega arith) in
        let this = (halves 0).0 in
        let index : suc (count - 1) ≡ count = omega arith in
        skipped sampled (tick - w.bit_start 0) (w.bit_start 0) n tick (suc (stop - suc tick)) (omega arith)
        (omega arith)
        (λ s from to. first_still 0 s (omega arith) from to (omega arith))
        ∙ passed sampled tick (stop - suc tick) (middle 0 (omega arith) (omega arith))
        ∙ ap (λ ts. tick ∷ ts) (after_bit (count - 1) 0 (stop - suc tick) (omega arith) (omega arith))
        ∙ ap (λ m. middles w m ++ filter sampled (range_with_len limit (stop - limit))) index

-- ---- the edges of all words

-- a clock that idles is not sampled
idle_still : (mode : ℕ) (clk : ℕ → Bit) (t from : ℕ) → mode ≤ 3 → ((r : ℕ) → t ≤ r → r < from → clk r ≡ idle_level mode)
    → edge_of mode (letter_before clk t) (idle_level mode) ≡ false
    → (s : ℕ) → t ≤ s → s < from → has_sampling_edge mode clk s ≡ false
idle_still mode clk t from most idle before s late early =
    elim (cases_eq s t) [
      | inl is ↦ ap (has_sampling_edge mode clk) is
          ∙ ap (edge_of mode (letter_before clk t)) (idle t (omega arith) (omega arith)) ∙ before
      | inr apart ↦
          let previous : s ≡ suc (s - 1) = omega arith in
          let high : letter_before clk s ≡ idle_level mode =
          ap (letter_before clk) previous ∙ idle (s - 1) (omega arith) (omega arith) in
          let here = idle s late early in
          (λ i. edge_of mode (high i) (here i)) ∙ no_edge_idle mode most
    ]

-- the words end before what comes after them
pub fits_until : (u : SpiSetup) (from until : ℕ) (ws : List SpiWord) → 0 < u.bits → WordsFit u from until ws
    → from ≤ until
unfolding WordsFit
fits_until u from until [] some fit = fit
fits_until u from until (w ∷ ws) some fit =
    let rest = fits_until u (word_end u w) until ws some fit.4 in
    let reach = rising w.bit_start (λ k. omega (arith, (fit.2 k).0, (fit.2 k).1)) 0 u.bits (omega arith) in
    omega (arith, rest, reach, fit.3)

-- a clock that sends words from a tick on sends them from a later one on
pub sends_later : (u : SpiSetup) (clk : ℕ → Bit) (from later until : ℕ) (ws : List SpiWord) → from ≤ later
    → SendsClock u clk from until ws → SendsClock u clk later until ws
unfolding SendsClock
sends_later u clk from later until [] le sends = λ t late early. sends t (omega arith) early
sends_later u clk from later until (w ∷ ws) le sends =
    (λ t late before early. sends.0 t (omega arith) before early, sends.1, sends.2, sends.3)

-- before the first word the clock idles
pub clock_idle : (u : SpiSetup) (clk : ℕ → Bit) (from select fit_until until : ℕ) (ws tail : List SpiWord) (t : ℕ)
    → WordsFit u select fit_until ws → (SendsClock u clk from until tail → t < fit_until → clk t ≡ idle_level u.mode)
    → SendsClock u clk from until (ws ++ tail) → from ≤ t → t < select → t < until → clk t ≡ idle_level u.mode
unfolding WordsFit SendsClock
clock_idle u clk from select fit_until until [] tail t fit idle sends late early inside = idle sends (omega arith)
clock_idle u clk from select fit_until until (w ∷ ws) tail t fit idle sends late early inside =
    sends.0 t late (omega (arith, fit.3)) inside

-- no edge begins as the chip is selected, if the clock idles before that
pub no_edge_first : (u : SpiSetup) (clk : ℕ → Bit) (t : ℕ) → u.mode ≤ 3
    → ((s : ℕ) → t ≡ suc s → clk s ≡ idle_level u.mode)
    → edge_of u.mode (letter_before clk t) (idle_level u.mode) ≡ false
no_edge_first u clk zero most idle = no_edge_x u.mode (idle_level u.mode)
no_edge_first u clk (suc t) most idle =
    ap (λ b. edge_of u.mode b (idle_level u.mode)) (idle t refl) ∙ no_edge_idle u.mode most

-- a clock that sends words, and then what `rest` has the sampled ticks of
module _ (u : SpiSetup) (stop until : ℕ) (clk : ℕ → Bit) (tail : List SpiWord) (rest : List ℕ) (most : u.mode ≤ 3)
    (some : 0 < u.bits) (within : until ≤ stop) where
  -- from a tick on, before which no edge begins
  abbrev pub IsSentFrom : ℕ → List SpiWord → Type 0
  IsSentFrom t ws = SendsClock u clk t stop ws × (edge_of u.mode (letter_before clk t) (idle_level u.mode) ≡ false)

  pub words_walked : ((t : ℕ) → t ≤ until → IsSentFrom t tail
      → filter (has_sampling_edge u.mode clk) (range_with_len t (stop - t)) ≡ rest)
      → (ws : List SpiWord) (t : ℕ) → WordsFit u t until ws → IsSentFrom t (ws ++ tail)
      → filter (has_sampling_edge u.mode clk) (range_with_len t (stop - t))
      ≡ flat_map (λ w. middles w u.bits) ws ++ rest
  unfolding WordsFit SendsClock
  words_walked ending [] t fit at = ending t fit at
  words_walked ending (w ∷ ws) t fit (at, before) =
      let after = word_end u w in
      let halves : HasHalves w = fit.2 in
      let reach : after ≤ until = fits_until u after until ws some fit.4 in
      let starts_rise : (k : ℕ) → w.bit_start k ≤ w.bit_start (suc k) =
      λ k. omega (arith, (halves k).0, (halves k).1) in
      let start : w.bit_start 0 ≤ after = rising w.bit_start starts_rise 0 u.bits (omega arith) in
      let index : suc (u.bits - 1) ≡ u.bits = omega arith in
      let last : w.bit_start (suc (u.bits - 1)) ≡ after = ap w.bit_start index in
      let half = halves (u.bits - 1) in
      let past = halves u.bits in
      let final : clk (after - 1) ≡ second_level u.mode =
      at.2 (u.bits - 1) (after - 1) (omega arith) (omega (arith, half.1, last)) (omega (arith, half.1, last))
      (omega (arith, half.1, last)) in
      let previous : after ≡ suc (after - 1) = omega (arith, half.1, last) in
      let next : edge_of u.mode (letter_before clk after) (idle_level u.mode) ≡ false =
      ap (λ x. edge_of u.mode x (idle_level u.mode)) (ap (letter_before clk) previous ∙ final)
      ∙ no_edge_from_second u.mode (idle_level u.mode) most in
      skipped (has_sampling_edge u.mode clk) (w.bit_start 0 - t) t (stop - t) (w.bit_start 0) (stop - w.bit_start 0)
      (omega (arith, fit.3)) (omega (arith, fit.3))
      (idle_still u.mode clk t (w.bit_start 0) most (λ r late early. at.0 r late early (omega arith)) before)
      ∙ word_walked u after w clk most halves
      (λ k s bit from to inside. at.1 k s bit from to (omega arith))
      (λ k s bit from to inside. at.2 k s bit from to (omega arith))
      stop u.bits some (omega arith) (omega arith) (omega (arith, half.1, last)) (omega (arith, past.0))
      (λ s inside late. absurd (omega arith)) (stop - w.bit_start 0) (omega arith)
      ∙ ap (λ ts. middles w u.bits ++ ts) (words_walked ending ws after fit.4 (at.3, next))
      ∙ sym (append_assoc (middles w u.bits) (flat_map (λ w. middles w u.bits) ws) rest)

-- a word starts before a bit of it is sampled
pub starts_before : (w : SpiWord) (count limit : ℕ) → HasHalves w → 0 < count → w.bit_middle (count - 1) < limit
    → w.bit_start 0 ≤ limit
starts_before w count limit halves some short =
    let middles_rise : (k : ℕ) → w.bit_middle k ≤ w.bit_middle (suc k) =
    λ k. omega (arith, (halves k).1, (halves (suc k)).0) in
    omega (arith, (halves 0).0, rising w.bit_middle middles_rise 0 (count - 1) (omega arith))

-- after the last word there are no more
pub nothing_follows : (u : SpiSetup) (stop : ℕ) (clk : ℕ → Bit) → u.mode ≤ 3 → (t : ℕ) → t ≤ stop
    → SendsClock u clk t stop [] × (edge_of u.mode (letter_before clk t) (idle_level u.mode) ≡ false)
    → filter (has_sampling_edge u.mode clk) (range_with_len t (stop - t)) ≡ []
unfolding SendsClock
nothing_follows u stop clk most t upto (at, before) =
    skipped (has_sampling_edge u.mode clk) (stop - t) t (stop - t) stop 0 (omega arith) (omega arith)
    (idle_still u.mode clk t stop most at before)

-- the first bits of a word that is cut off
pub partial_follows : (u : SpiSetup) (stop : ℕ) (clk : ℕ → Bit) (w : SpiWord) (count : ℕ) → u.mode ≤ 3 → HasHalves w
    → 0 < count → count < u.bits → w.bit_middle (count - 1) < stop → stop ≤ w.bit_middle count → (t : ℕ)
    → t ≤ w.bit_start 0
    → SendsClock u clk t stop (w ∷ []) × (edge_of u.mode (letter_before clk t) (idle_level u.mode) ≡ false)
    → filter (has_sampling_edge u.mode clk) (range_with_len t (stop - t)) ≡ middles w count
unfolding SendsClock
partial_follows u stop clk w count most halves some less short long t upto (at, before) =
    let none : stop - stop ≡ 0 = omega arith in
    let start : w.bit_start 0 ≤ stop = starts_before w count stop halves some short in
    skipped (has_sampling_edge u.mode clk) (w.bit_start 0 - t) t (stop - t) (w.bit_start 0) (stop - w.bit_start 0)
    (omega arith) (omega arith)
    (idle_still u.mode clk t (w.bit_start 0) most (λ r late early. at.0 r late early (omega arith)) before)
    ∙ word_walked u stop w clk most halves at.1 at.2 stop count some (omega arith) (omega arith) short long
    (λ s inside late. less) (stop - w.bit_start 0) (omega arith)
    ∙ ap (λ n. middles w count ++ filter (has_sampling_edge u.mode clk) (range_with_len stop n)) none
    ∙ append-nil (middles w count)
