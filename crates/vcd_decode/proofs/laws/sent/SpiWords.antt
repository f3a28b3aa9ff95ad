-- The words that are sent on a serial peripheral interface are found, bit by bit.
use Rattle.std.proofs.Common.{◌≡◌, ℕ, ◌-◌, ◌^◌, ◌<◌, false, Option, Some, None, List, [], ◌∷◌, ◌++◌, map, length}
use Rattle.std.proofs.Common.{reverse, get_or, append_assoc, refl, sym, ap, ◌∙◌, arith, suc, ◌≤◌, append-nil}
use Rattle.std.specs.List.{flat_map, list_any, range_with_len, slice_index, filter}
use Rattle.std.proofs.lemmas.Bool.{lt-ltb, le-ltb}
use Rattle.std.proofs.lemmas.List.{length-reverse, reverse-reverse}
use Rattle.std.proofs.lemmas.List.FromFn.{get_or-map-range_with_len, length-map-range_with_len}
use mathlib.Core.List.{map-map}
use Rattle.std.proofs.lemmas.List.Sorted.{list_any-IsPermutation, IsPermutation-reverse}
use Rattle.std.proofs.lemmas.Bool.Decides.{nat_tests}
use Rattle.vcd_core.specs.declared.bit.Bit.{Bit}
use Rattle.vcd_core.specs.declared.bit.Bit.TheVariants.{X}
use Rattle.vcd_decode.specs.declared.annotation.LineData.TheVariants.{Number}
use Rattle.vcd_decode.specs.declared.spi_setup.BitOrder.{BitOrder}
use Rattle.vcd_decode.specs.declared.spi_setup.BitOrder.TheVariants.{Msb, Lsb}
use Rattle.vcd_decode.specs.SpiSetup.{SpiSetup}
use Rattle.vcd_decode.specs.Lines.{is_unclear, number_from_letters, letter_before}
use Rattle.vcd_decode.specs.Groups.{groups_of}
use Rattle.vcd_decode.specs.Spi.{data_of_letters, line_data, group_annotation, has_sampling_edge, spi_annotations}
use Rattle.vcd_decode.specs.SentLevels.{data_levels}
use Rattle.vcd_decode.specs.SpiSent.{SpiWord, WordsFit, word_end, ordered_levels, SendsData, MaySendData}
use Rattle.vcd_decode.specs.SpiSent.{sent_line_data, sent_word_annotation, sent_partial_annotation, idle_level}
use Rattle.vcd_decode.specs.SpiSent.{SendsClock, IsChipSelect}
use Rattle.vcd_decode.specs.declared.annotation.Annotation.{Annotation}
use Rattle.vcd_decode.specs.declared.spi_setup.TheConstants.{GREATEST_MODE}
use Rattle.vcd_decode.specs.SetupFaults.{spi_fault}
use Rattle.vcd_decode.specs.Laws.{SpiWordsAreFound, SpiPartialWordIsFound}
use Rattle.vcd_decode.proofs.laws.sent.Levels.{data_clear, data_length, number_of_data, map_range}
use Rattle.vcd_decode.proofs.laws.sent.SpiSamples.{middles, edge_of, fits_until, sends_later, clock_idle, no_edge_first}
use Rattle.vcd_decode.proofs.laws.sent.SpiSamples.{words_walked, starts_before, nothing_follows, partial_follows}
use Rattle.vcd_decode.proofs.laws.sent.SpiSamples.{selected_part}
use Rattle.vcd_decode.proofs.shared.Groups.{groups_whole, groups_none, groups_short}

-- ==== the words that are read at the middles of their bits

-- ---- a line

levels_length : (order : BitOrder) (bits word : ℕ) → length (ordered_levels order bits word) ≡ bits
levels_length Lsb bits word = data_length bits word
levels_length Msb bits word = length-reverse (data_levels bits word) ∙ data_length bits word

-- the bits in their order give the word
levels_data : (order : BitOrder) (bits word : ℕ) → word < 2 ^ bits
    → data_of_letters order (ordered_levels order bits word) ≡ Number word
levels_data Lsb bits word within = rw (data_clear bits word, number_of_data bits word within) refl
levels_data Msb bits word within =
    let clear : list_any is_unclear (reverse (data_levels bits word)) ≡ false =
    sym (list_any-IsPermutation is_unclear (data_levels bits word) (reverse (data_levels bits word))
    (IsPermutation-reverse (data_levels bits word))) ∙ data_clear bits word in
    let number : number_from_letters (reverse (reverse (data_levels bits word))) ≡ word =
    ap number_from_letters (reverse-reverse (data_levels bits word)) ∙ number_of_data bits word within in
    rw (clear, number) refl

line_read : (u : SpiSetup) (w : SpiWord) (f : ℕ → Bit) (word : ℕ) → word < 2 ^ u.bits
    → ((k : ℕ) → k < u.bits → f (w.bit_middle k) ≡ get_or (ordered_levels u.order u.bits word) k X)
    → line_data u.order (Some f) (middles w u.bits) ≡ Number word
line_read u w f word within at =
    let levels = ordered_levels u.order u.bits word in
    let size = levels_length u.order u.bits word in
    ap (data_of_letters u.order) (map-map f w.bit_middle (range_with_len 0 u.bits))
    ∙ ap (λ n. data_of_letters u.order (map (λ k. f (w.bit_middle k)) (range_with_len 0 n))) (sym size)
    ∙ ap (data_of_letters u.order) (map_range (λ k. f (w.bit_middle k)) levels 0 X
    (λ i below. ap (λ k. f (w.bit_middle k)) (omega arith) ∙ at i (omega (arith, size))))
    ∙ levels_data u.order u.bits word within

-- what a line shows of the first word that it sends
line_shows : (u : SpiSetup) (word_of : SpiWord → ℕ) (line : Option (ℕ → Bit)) (w : SpiWord)
    (ws : List SpiWord) → word_of w < 2 ^ u.bits → MaySendData u word_of line (w ∷ ws)
    → line_data u.order line (middles w u.bits) ≡ sent_line_data line (word_of w)
unfolding SendsData
line_shows u word_of None w ws fit sends = refl
line_shows u word_of (Some f) w ws fit sends =
    line_read u w f (word_of w) fit
    sends.0

later_sent : (u : SpiSetup) (word_of : SpiWord → ℕ) (line : Option (ℕ → Bit)) (w : SpiWord)
    (ws : List SpiWord) → MaySendData u word_of line (w ∷ ws) → MaySendData u word_of line ws
unfolding SendsData
later_sent u word_of None w ws sends = tt
later_sent u word_of (Some f) w ws sends = sends.1

-- ---- a word

pub middles_length : (w : SpiWord) (count : ℕ) → length (middles w count) ≡ count
middles_length w count = length-map-range_with_len w.bit_middle 0 count

first_middle : (w : SpiWord) (count : ℕ) → 0 < count → slice_index (middles w count) 0 ≡ w.bit_middle 0
first_middle w count some = get_or-map-range_with_len w.bit_middle 0 count 0 0 0 some refl

last_middle : (w : SpiWord) (count : ℕ) → 0 < count
    → slice_index (middles w count) (count - 1) ≡ w.bit_middle (count - 1)
last_middle w count some =
    get_or-map-range_with_len w.bit_middle 0 count (count - 1) (count - 1) 0 (omega arith) (omega arith)

-- a word of these data
word_read : (u : SpiSetup) (w : SpiWord) (mosi miso : Option (ℕ → Bit)) → 0 < u.bits
    → line_data u.order mosi (middles w u.bits) ≡ sent_line_data mosi w.out
    → line_data u.order miso (middles w u.bits) ≡ sent_line_data miso w.back
    → group_annotation u mosi miso (middles w u.bits) ≡ sent_word_annotation u mosi miso w
word_read u w mosi miso some out back =
    rw (
      middles_length w u.bits,
      le-ltb u.bits u.bits (omega arith),
      first_middle w u.bits some,
      last_middle w u.bits some,
      out,
      back,
    ) refl

-- a word of which some bits are missing
pub partial_read : (u : SpiSetup) (w : SpiWord) (count : ℕ) (mosi miso : Option (ℕ → Bit)) → 0 < count
    → count < u.bits → group_annotation u mosi miso (middles w count) ≡ sent_partial_annotation w count
partial_read u w count mosi miso some less =
    rw (middles_length w count, lt-ltb count u.bits less, first_middle w count some, last_middle w count some) refl

-- ---- all words

pub words_read : (u : SpiSetup) (from until : ℕ) (mosi miso : Option (ℕ → Bit)) (ws : List SpiWord)
    (rest : List ℕ) → 0 < u.bits → WordsFit u from until ws
    → MaySendData u (λ w. w.out) mosi ws → MaySendData u (λ w. w.back) miso ws
    → map (group_annotation u mosi miso) (groups_of u.bits (flat_map (λ w. middles w u.bits) ws ++ rest))
    ≡ map (sent_word_annotation u mosi miso) ws ++ map (group_annotation u mosi miso) (groups_of u.bits rest)
unfolding WordsFit
words_read u from until mosi miso [] rest some fit out back = refl
words_read u from until mosi miso (w ∷ ws) rest some fit out back =
    let ticks = middles w u.bits in
    let others = flat_map (λ w. middles w u.bits) ws in
    let here : group_annotation u mosi miso ticks ≡ sent_word_annotation u mosi miso w =
    word_read u w mosi miso some (line_shows u (λ w. w.out) mosi w ws fit.0 out)
    (line_shows u (λ w. w.back) miso w ws fit.1 back) in
    let later = words_read u (word_end u w) until mosi miso ws rest some fit.4
    (later_sent u (λ w. w.out) mosi w ws out) (later_sent u (λ w. w.back) miso w ws back) in
    ap (λ ts. map (group_annotation u mosi miso) (groups_of u.bits ts)) (append_assoc ticks others rest)
    ∙ ap (map (group_annotation u mosi miso))
    (groups_whole u.bits ticks (others ++ rest) some (middles_length w u.bits)) ∙ (λ i. here i ∷ later i)

-- ==== the words that are sent on a serial peripheral interface are found

-- the numbers of a setup without a fault
numbers_fit : (u : SpiSetup) → spi_fault u ≡ None → (u.mode ≤ GREATEST_MODE) × (1 ≤ u.bits)
numbers_fit u none = grind (arith, nat_tests)

module _ (u : SpiSetup) (select release end : ℕ) (clk : ℕ → Bit) (mosi miso cs : Option (ℕ → Bit)) (most : u.mode ≤ 3)
    (some : 0 < u.bits) (within : release ≤ suc end) (is : IsChipSelect cs select release end) where
  abbrev annotations : List ℕ → List Annotation
  annotations ticks = map (group_annotation u mosi miso) (groups_of u.bits ticks)

  all_found : (until : ℕ) (ws tail : List SpiWord) (rest : List ℕ) → until ≤ release
      → WordsFit u select until ws → SendsClock u clk (select - 1) release (ws ++ tail)
      → ((t : ℕ) → SendsClock u clk (select - 1) release tail → select - 1 ≤ t → t < until → clk t ≡ idle_level u.mode)
      → MaySendData u (λ w. w.out) mosi ws → MaySendData u (λ w. w.back) miso ws → ((t : ℕ) → t ≤ until
      → SendsClock u clk t release tail × (edge_of u.mode (letter_before clk t) (idle_level u.mode) ≡ false)
      → filter (has_sampling_edge u.mode clk) (range_with_len t (release - t)) ≡ rest)
      → spi_annotations u clk mosi miso cs end ≡ map (sent_word_annotation u mosi miso) ws ++ annotations rest
  unfolding spi_annotations
  all_found until ws tail rest reach fit sends idle out back ending =
      let ordered : select ≤ release = omega (arith, fits_until u select until ws some fit) in
      let still : edge_of u.mode (letter_before clk select) (idle_level u.mode) ≡ false =
      no_edge_first u clk select most
      (λ s at. clock_idle u clk (select - 1) select until release ws tail s fit
      (λ sent before. idle s sent (omega arith) before) sends (omega arith) (omega arith) (omega arith)) in
      selected_part annotations (has_sampling_edge u.mode clk) cs select release end
      (ap (map (group_annotation u mosi miso)) (groups_none u.bits)) ordered within is
      ∙ ap annotations
      (words_walked u release until clk tail rest most some reach ending ws select fit
      (sends_later u clk (select - 1) select release (ws ++ tail) (omega arith) sends, still))
      ∙ words_read u select until mosi miso ws rest some fit out back

pub words_found : SpiWordsAreFound
unfolding SendsClock
words_found u select release end ws clk mosi miso cs none fit within is sends out back =
    let fits = numbers_fit u none in
    all_found u select release end clk mosi miso cs fits.0 fits.1 within is release ws [] [] (omega arith) fit
    (rw (append-nil ws) sends) (λ t sent late early. sent t late early) out back (nothing_follows u release clk fits.0)
    ∙ ap (λ found. map (sent_word_annotation u mosi miso) ws ++ map (group_annotation u mosi miso) found)
    (groups_none u.bits) ∙ append-nil (map (sent_word_annotation u mosi miso) ws)

pub partial_found : SpiPartialWordIsFound
unfolding SendsClock
partial_found u select release end ws w count clk mosi miso cs none fit halves within more less long short is sends out
    back =
    let fits = numbers_fit u none in
    let size : length (middles w count) ≡ count = middles_length w count in
    let reach : w.bit_start 0 ≤ release = starts_before w count release halves more long in
    all_found u select release end clk mosi miso cs fits.0 fits.1 within is (w.bit_start 0) ws (w ∷ [])
    (middles w count) reach fit sends
    (λ t sent late early. sent.0 t late early (omega arith))
    out back (partial_follows u release clk w count fits.0 halves more less long short)
    ∙ ap (λ found. map (sent_word_annotation u mosi miso) ws ++ map (group_annotation u mosi miso) found)
    (groups_short u.bits (middles w count) (omega (arith, size)) (omega (arith, size)))
    ∙ ap (λ a. map (sent_word_annotation u mosi miso) ws ++ a ∷ []) (partial_read u w count mosi miso more less)
