-- An I2C message that is sent is found: its events, its bytes, and the whole of it.
use Rattle.std.proofs.Common.{◌≡◌, ℕ, zero, suc, ◌+◌, ◌-◌, ◌<◌, ◌≤◌, Option, None, List, [], ◌∷◌, ◌++◌, length, get_or}
use Rattle.std.proofs.Common.{refl, sym, ap, ◌∙◌, arith, ◌≢◌, ◌*◌, ◌/◌, ◌%◌, ◌==◌, Bool, true, false, if◌then◌else◌}
use Rattle.std.proofs.Common.{Some, reverse, map, fold, append_assoc, subst}
use Rattle.std.specs.Prelude.{filter_map, ⊤, IfSome}
use Rattle.std.specs.List.{cons_option, range_with_len, flat_map, list_any}
use Rattle.std.specs.Option.{option_to_list}
use Rattle.std.proofs.lemmas.Bool.{eq-eqb, ne_eqb}
use Rattle.std.proofs.lemmas.List.{length-append}
use Rattle.vcd_core.specs.declared.bit.Bit.{Bit}
use Rattle.vcd_core.specs.declared.bit.Bit.TheVariants.{One, Zero}
use Rattle.vcd_core.proofs.shared.TicksInARow.{skip_ticks}
use Rattle.vcd_decode.specs.declared.i2c_bus.events.BusLevels.{BusLevels}
use Rattle.vcd_decode.specs.declared.i2c_bus.events.BusEvent.{BusEvent}
use Rattle.vcd_decode.specs.BusEvents.{bus_event_at, bus_events}
use Rattle.vcd_decode.specs.inside.i2c_bus.Events.{bus_event}
use Rattle.vcd_decode.specs.I2cSent.{levels, HaveLevels, DataByte, AreBytes, Transfer, seven_bit, ten_bit_write}
use Rattle.vcd_decode.specs.I2cSent.{ten_bit_read, high_bits_read, IsTransfer, ten_bits_of, SentByte, sent_byte}
use Rattle.vcd_decode.specs.I2cSent.{direction_bit, data_bytes, transfer_bytes, byte_bits, acknowledge, sent_bytes}
use Rattle.vcd_decode.specs.I2cSent.{AreTransfers, bit_levels, transfer_levels, later_levels, later_annotations}
use Rattle.vcd_decode.specs.declared.annotation.Kind.TheVariants as kinds
use Rattle.vcd_decode.specs.declared.annotation.Direction.{Direction}
use Rattle.vcd_decode.specs.declared.annotation.Direction.TheVariants.{Write, Read}
use Rattle.vcd_decode.specs.declared.i2c_bus.events.BusBit.{BusBit}
use Rattle.vcd_decode.specs.declared.i2c_bus.bytes.ByteRole.{ByteRole}
use Rattle.vcd_decode.specs.declared.i2c_bus.bytes.ByteRole.TheVariants as roles
use Rattle.vcd_decode.specs.Lines.{annotation}
use Rattle.vcd_decode.specs.Groups.{groups_of}
use Rattle.vcd_decode.specs.BusBytes.{number_with, number_of_bits, byte_kind, role_after, acknowledge_kind, is_ten_bit}
use Rattle.vcd_decode.specs.BusBytes.{high_bits, ten_bit_kind, ten_bit_address}
use Rattle.vcd_decode.specs.I2c.{nines_annotations, byte_annotations, shown_address, annotations_of_events}
use Rattle.vcd_decode.specs.I2c.{is_condition, bits_until}
use Rattle.vcd_decode.specs.SentLevels.{level, data_levels}
use Rattle.vcd_decode.specs.declared.annotation.Kind.{Kind}
use Rattle.vcd_decode.specs.declared.i2c_bus.events.BusEvent.TheVariants as events
use Rattle.vcd_decode.specs.Laws.{I2cMessagesAreFound}
use Rattle.vcd_decode.proofs.shared.EdgeTicks.{cons_is, nothing_happens}
use Rattle.vcd_decode.proofs.shared.Groups.{groups_short, groups_whole}
use Rattle.vcd_decode.proofs.laws.sent.Levels.{at_level}

-- ==== the events on a bus whose levels come one after the other

-- the events where one of these levels after the other begins, the first of them at index i
unfoldable pub level_events : (ℕ → ℕ) → ℕ → BusLevels → List BusLevels → List BusEvent
level_events at i before [] = []
level_events at i before (p ∷ ps) = option_to_list (bus_event (at i) before p) ++ level_events at (suc i) p ps

-- later levels begin later
pub ticks_rise : (at : ℕ → ℕ) (i n : ℕ) → ((k : ℕ) → at k < at (suc k)) → at i ≤ at (n + i)
ticks_rise at i zero rises = omega (arith, ap at {x = 0 + i} {y = i} (omega arith))
ticks_rise at i (suc n) rises =
    omega (arith, ticks_rise at i n rises, rises (n + i), ap at {x = suc n + i} {y = suc (n + i)} (omega arith))

module _ (scl sda : ℕ → Bit) (at : ℕ → ℕ) (rises : (k : ℕ) → at k < at (suc k)) where
  abbrev bus : ℕ → BusLevels
  bus t = levels (scl t) (sda t)

  abbrev event : ℕ → Option BusEvent
  event t = bus_event_at scl sda t

  -- while nothing changes there is none
  held : (p : BusLevels) (n t m : ℕ) → ((s : ℕ) → t ≤ s → s ≤ t + n → bus s ≡ p)
      → filter_map event (range_with_len (suc t) (n + m)) ≡ filter_map event (range_with_len (suc t + n) m)
  held p n t m same = skip_ticks (filter_map event) n (suc t) (n + m) (suc t + n) m refl refl
      (λ s ts from to. ap (λ found. cons_option found (filter_map event ts)) (none s from to))
    where
      none : (s : ℕ) → suc t ≤ s → s < suc t + n → event s ≡ None
      none zero from to = absurd (omega arith)
      none (suc s) from to =
          (λ i. bus_event (suc s) (same s (omega arith) (omega arith) i) (same (suc s) (omega arith) (omega arith) i))
          ∙ nothing_happens (suc s) p.scl p.sda

  -- the events of levels from the one at index i on
  walked : (stop : ℕ) (ps : List BusLevels) (i t : ℕ) (before : BusLevels) → at i ≡ suc t → at (length ps + i) ≡ stop
      → bus t ≡ before
      → ((j s : ℕ) → j < length ps → at (j + i) ≤ s → s < at (suc (j + i)) → bus s ≡ get_or ps j (levels One One))
      → filter_map event (range_with_len (suc t) (stop - suc t)) ≡ level_events at i before ps
  unfolding level_events
  walked stop [] i t before first last prior all =
      let none : stop - suc t ≡ 0 = omega (arith, first, last, ap at {x = 0 + i} {y = i} (omega arith)) in
      ap (λ n. filter_map event (range_with_len (suc t) n)) none
  walked stop (p ∷ ps) i t before first last prior all =
      let next = at (suc i) in
      let reach = ap at {x = length ps + suc i} {y = length (p ∷ ps) + i} (omega arith) in
      let later : next < suc stop = omega (arith, last, ticks_rise at (suc i) (length ps) rises, reach) in
      let long = next - suc (suc t) in
      let rise : suc t < next = omega (arith, first, rises i) in
      let size : stop - suc t ≡ suc (long + (stop - next)) = omega arith in
      let here : (s : ℕ) → suc t ≤ s → s < next → bus s ≡ p = λ s from to.
      all 0 s (omega arith) (omega (arith, first, ap at {x = 0 + i} {y = i} (omega arith)))
      (omega (arith, ap at {x = suc (0 + i)} {y = suc i} (omega arith))) in
      let event_here : event (suc t) ≡ bus_event (at i) before p =
      (λ k. bus_event (suc t) (prior k) (here (suc t) (omega arith) rise k))
      ∙ ap (λ k. bus_event k before p) (sym first) in
      let step : suc t + 1 ≡ suc (suc t) = omega arith in
      let tick : suc (suc t) + long ≡ next = omega arith in
      let previous : next ≡ suc (next - 1) = omega arith in
      ap (λ n. filter_map event (range_with_len (suc t) n)) size
      ∙ cons_is (event (suc t)) (filter_map event (range_with_len (suc t + 1) (long + (stop - next))))
      ∙ (λ k. option_to_list (event_here k) ++ filter_map event (range_with_len (step k) (long + (stop - next))))
      ∙ ap (λ es. option_to_list (bus_event (at i) before p) ++ es)
      (held p long (suc t) (stop - next) (λ s from to. here s from (omega arith))
      ∙ ap (λ k. filter_map event (range_with_len k (stop - next))) tick
      ∙ (λ k. filter_map event (range_with_len (previous k) (stop - previous k)))
      ∙ walked stop ps (suc i) (next - 1) p previous
      (ap at {x = length ps + suc i} {y = length (p ∷ ps) + i} (omega arith) ∙ last)
      (here (next - 1) (omega arith) (omega arith))
      (λ j s below from to. all (suc j) s (omega arith)
      (omega (arith, from, ap at {x = j + suc i} {y = suc j + i} (omega arith)))
      (omega (arith, to, ap at {x = suc (j + suc i)} {y = suc (suc j + i)} (omega arith)))))

  -- the events of all levels, of which the first is that of a free bus
  pub bus_walked : (end : ℕ) (ps : List BusLevels) → at 0 ≡ 0 → at (length (levels One One ∷ ps)) ≡ suc end
      → HaveLevels scl sda at (levels One One ∷ ps) → bus_events scl sda end ≡ level_events at 1 (levels One One) ps
  unfolding bus_events
  bus_walked end ps first last have =
      let rise = rises 0 in
      let here : (j s : ℕ) → j < length (levels One One ∷ ps) → at j ≤ s → s < at (suc j)
      → bus s ≡ get_or (levels One One ∷ ps) j (levels One One) =
      λ j s below from to. λ k. levels ((have j s below from to).0 k) ((have j s below from to).1 k) in
      let free : (s : ℕ) → s < at 1 → bus s ≡ levels One One =
      λ s to. here 0 s (omega arith) (omega (arith, first)) to in
      let reach = ap at {x = length ps + 1} {y = suc (length ps)} (omega arith) in
      let within : at 1 ≤ suc end = omega (arith, last, ticks_rise at 1 (length ps) rises, reach) in
      let size : end ≡ (at 1 - 1) + (suc end - at 1) = omega (arith, rise, within) in
      let tick : 1 + (at 1 - 1) ≡ at 1 = omega (arith, rise) in
      let previous : at 1 ≡ suc (at 1 - 1) = omega (arith, rise) in
      cons_is (event 0) (filter_map event (range_with_len (0 + 1) end))
      ∙ ap (λ n. filter_map event (range_with_len 1 n)) size
      ∙ held (levels One One) (at 1 - 1) 0 (suc end - at 1) (λ s from to. free s (omega (arith, to, rise)))
      ∙ ap (λ k. filter_map event (range_with_len k (suc end - at 1))) tick
      ∙ (λ k. filter_map event (range_with_len (previous k) (suc end - previous k)))
      ∙ walked (suc end) ps 1 (at 1 - 1) (levels One One) previous
      (ap at {x = length ps + 1} {y = suc (length ps)} (omega arith) ∙ last)
      (free (at 1 - 1) (omega (arith, rise)))
      (λ j s below from to. here (suc j) s (omega arith)
      (omega (arith, from, ap at {x = j + 1} {y = suc j} (omega arith)))
      (omega (arith, to, ap at {x = suc (j + 1)} {y = suc (suc j)} (omega arith))))

-- ==== the bits and bytes that are sent on an I2C bus

-- bits whose levels begin at index i
unfoldable pub sent_bits : (ℕ → ℕ) → ℕ → List Bit → List BusBit
sent_bits at i [] = []
sent_bits at i (b ∷ bs) = record { tick = at (suc i); level = b } ∷ sent_bits at (suc (suc (suc i))) bs

sent_append : (at : ℕ → ℕ) (i : ℕ) (xs ys : List Bit)
    → sent_bits at i (xs ++ ys) ≡ sent_bits at i xs ++ sent_bits at (i + 3 * length xs) ys
unfolding sent_bits
sent_append at i [] ys = ap (λ k. sent_bits at k ys) {x = i} {y = i + 3 * 0} (omega arith)
sent_append at i (x ∷ xs) ys =
    let index : suc (suc (suc i)) + 3 * length xs ≡ i + 3 * length (x ∷ xs) = omega arith in
    ap (λ bs. record { tick = at (suc i); level = x } ∷ bs) (sent_append at (suc (suc (suc i))) xs ys)
    ∙ ap (λ k. record { tick = at (suc i); level = x } ∷ sent_bits at (suc (suc (suc i))) xs ++ sent_bits at k ys) index

-- ---- the number of a byte

one_bit : (n m t : ℕ) → number_with (Some n) (record { tick = t; level = level m }) ≡ Some (2 * n + m % 2)
one_bit n m t =
    at_level (λ b. number_with (Some n) (record { tick = t; level = b }) ≡ Some (2 * n + m % 2)) m
    (λ odd. ap (λ k. Some k) (omega arith)) (λ even. ap (λ k. Some k) (omega arith))

-- each bit of a word is one digit more
digits_folded : ℕ → List ℕ → ℕ
digits_folded n [] = n
digits_folded n (m ∷ ms) = digits_folded (2 * n + m % 2) ms

numbers : (at : ℕ → ℕ) (i n : ℕ) (ms : List ℕ)
    → fold number_with (Some n) (sent_bits at i (map level ms)) ≡ Some (digits_folded n ms)
unfolding sent_bits digits_folded
numbers at i n [] = refl
numbers at i n (m ∷ ms) =
    ap (λ o. fold number_with o (sent_bits at (suc (suc (suc i))) (map level ms))) (one_bit n m (at (suc i)))
    ∙ numbers at (suc (suc (suc i))) (2 * n + m % 2) ms

byte_number : (at : ℕ → ℕ) (i w : ℕ) → w < 256 → number_of_bits (sent_bits at i (reverse (data_levels 8 w))) ≡ Some w
unfolding data_levels digits_folded
byte_number at i w within =
    numbers at i 0 (w / 2 / 2 / 2 / 2 / 2 / 2 / 2 ∷ w / 2 / 2 / 2 / 2 / 2 / 2 ∷ w / 2 / 2 / 2 / 2 / 2
    ∷ w / 2 / 2 / 2 / 2 ∷ w / 2 / 2 / 2 ∷ w / 2 / 2 ∷ w / 2 ∷ w ∷ []) ∙ ap (λ k. Some k) (omega arith)

-- ---- bytes and their acknowledges

acknowledge_is : (at : ℕ → ℕ) (i : ℕ) (taken : Bool)
    → acknowledge_kind (number_of_bits (sent_bits at i ((if taken then Zero else One) ∷ []))) ≡ acknowledge taken
unfolding sent_bits
acknowledge_is at i true = refl
acknowledge_is at i false = refl

byte_is : (role : ByteRole) (at : ℕ → ℕ) (i : ℕ) (b : SentByte) → b.byte < 256 → byte_kind role (Some b.byte) ≡ b.kind
    → byte_annotations role (sent_bits at i (byte_bits b))
    ≡ annotation (at (i + 1)) (at (i + 22)) b.kind ∷ annotation (at (i + 25)) (at (i + 25)) (acknowledge b.taken) ∷ []
unfolding sent_bits data_levels
byte_is role at i b within kind =
    let i7 = suc (suc (suc (suc (suc (suc (suc i)))))) in
    let i14 = suc (suc (suc (suc (suc (suc (suc i7)))))) in
    let i21 = suc (suc (suc (suc (suc (suc (suc i14)))))) in
    let first : suc i ≡ i + 1 = omega arith in
    let last : suc i21 ≡ i + 22 = omega arith in
    let ninth : suc (suc (suc (suc i21))) ≡ i + 25 = omega arith in
    (λ k. annotation (at (first k)) (at (last k)) (byte_kind role (byte_number at i b.byte within k))
    ∷ annotation (at (ninth k)) (at (ninth k)) (acknowledge_is at (suc (suc (suc i21))) b.taken k) ∷ [])
    ∙ ap (λ found. annotation (at (i + 1)) (at (i + 22)) found
    ∷ annotation (at (i + 25)) (at (i + 25)) (acknowledge b.taken) ∷ []) kind

-- bytes that are to have the kinds that their places give them
unfoldable pub HaveKinds : ByteRole → List SentByte → Type 0
HaveKinds role [] = ⊤
HaveKinds role (b ∷ bs) =
    (b.byte < 256) × (byte_kind role (Some b.byte) ≡ b.kind) × HaveKinds (role_after role (Some b.byte)) bs

-- the bits of bytes up to a rise of SCL, cut into nines, give these bytes
pub bytes_found : (role : ByteRole) (at : ℕ → ℕ) (i : ℕ) (bytes : List SentByte) (rise : BusBit) → HaveKinds role bytes
    → nines_annotations true role (groups_of 9 (sent_bits at i (flat_map byte_bits bytes) ++ rise ∷ []))
    ≡ sent_bytes at i bytes
unfolding sent_bits sent_bytes nines_annotations HaveKinds data_levels
bytes_found role at i [] rise have =
    ap (nines_annotations true role) (groups_short 9 (rise ∷ []) (omega arith) (omega arith))
bytes_found role at i (b ∷ bs) rise (within, kind, have) =
    let nine = sent_bits at i (byte_bits b) in
    let others = sent_bits at (i + 27) (flat_map byte_bits bs) in
    let index : i + 3 * 9 ≡ i + 27 = omega arith in
    let bits : sent_bits at i (flat_map byte_bits (b ∷ bs)) ++ rise ∷ [] ≡ nine ++ (others ++ rise ∷ []) =
    ap (λ xs. xs ++ rise ∷ []) (sent_append at i (byte_bits b) (flat_map byte_bits bs))
    ∙ ap (λ k. nine ++ sent_bits at k (flat_map byte_bits bs) ++ rise ∷ []) index
    ∙ append_assoc nine others (rise ∷ []) in
    ap (λ xs. nines_annotations true role (groups_of 9 xs)) bits
    ∙ ap (nines_annotations true role) (groups_whole 9 nine (others ++ rise ∷ []) (omega arith) refl)
    ∙ (λ k. byte_is role at i b within kind k
    ++ nines_annotations true (role_after role (byte_number at i b.byte within k)) (groups_of 9 (others ++ rise ∷ [])))
    ∙ ap (λ found. annotation (at (i + 1)) (at (i + 22)) b.kind
    ∷ annotation (at (i + 25)) (at (i + 25)) (acknowledge b.taken) ∷ found)
    (bytes_found (role_after role (Some b.byte)) at (i + 27) bs rise have)

-- ---- the bytes of a transfer

data_kinds : (bytes : List DataByte) → AreBytes bytes → HaveKinds roles.Data (data_bytes bytes)
unfolding AreBytes HaveKinds
data_kinds [] small = tt
data_kinds (b ∷ bs) (within, small) = (within, refl, data_kinds bs small)

-- a byte that begins an address of seven bits
seven_kind : (given : Option ℕ) (address : ℕ) (direction : Direction) → address < 128 → address / 4 ≢ 30
    → (2 * address + direction_bit direction < 256)
    × (byte_kind (roles.Address given) (Some (2 * address + direction_bit direction)) ≡ kinds.Address address direction)
    × (role_after (roles.Address given) (Some (2 * address + direction_bit direction)) ≡ roles.Data)
seven_kind given address Write small seven =
    let n = 2 * address + 0 in
    let other : is_ten_bit n ≡ false = ne_eqb (n / 8) 30 (omega arith) in
    let half : n / 2 ≡ address = omega arith in
    let even : (n % 2 == 1) ≡ false = ne_eqb (n % 2) 1 (omega arith) in
    (omega arith, rw (other, even, half) refl, rw (even, other) refl)
seven_kind given address Read small seven =
    let n = 2 * address + 1 in
    let other : is_ten_bit n ≡ false = ne_eqb (n / 8) 30 (omega arith) in
    let half : n / 2 ≡ address = omega arith in
    let odd : (n % 2 == 1) ≡ true = eq-eqb (n % 2) 1 (omega arith) in
    (omega arith, rw (other, odd, half) refl, rw odd refl)

-- one that begins a write to ten bits
write_kind : (given : Option ℕ) (high : ℕ) → high < 4
    → (byte_kind (roles.Address given) (Some (240 + 2 * high)) ≡ kinds.AddressHigh high Write)
    × (role_after (roles.Address given) (Some (240 + 2 * high)) ≡ roles.AddressLow high)
write_kind given high small =
    let n = 240 + 2 * high in
    let ten : is_ten_bit n ≡ true = eq-eqb (n / 8) 30 (omega arith) in
    let even : (n % 2 == 1) ≡ false = ne_eqb (n % 2) 1 (omega arith) in
    let two : high_bits n ≡ high = omega arith in
    (rw (ten, even, two) (no_read given), rw (even, ten, two) refl)
  where
    no_read : (given : Option ℕ) → ten_bit_kind given high Write ≡ kinds.AddressHigh high Write
    no_read None = refl
    no_read (Some a) = refl

-- one that begins a read from the ten bits before it
read_kind : (address : ℕ) → address < 1024
    → (byte_kind (roles.Address (Some address)) (Some (241 + 2 * (address / 256))) ≡ kinds.TenBitAddress address Read)
    × (role_after (roles.Address (Some address)) (Some (241 + 2 * (address / 256))) ≡ roles.Data)
read_kind address small =
    let n = 241 + 2 * (address / 256) in
    let ten : is_ten_bit n ≡ true = eq-eqb (n / 8) 30 (omega arith) in
    let odd : (n % 2 == 1) ≡ true = eq-eqb (n % 2) 1 (omega arith) in
    let two : (address / 256 == high_bits n) ≡ true = eq-eqb (address / 256) (high_bits n) (omega arith) in
    (rw (ten, odd, two) refl, rw odd refl)

-- one that begins a read from ten bits of which the two high ones alone are known
high_kind : (given : Option ℕ) (high : ℕ) → high < 4 → IfSome given (λ address. address / 256 ≢ high)
    → (byte_kind (roles.Address given) (Some (241 + 2 * high)) ≡ kinds.AddressHigh high Read)
    × (role_after (roles.Address given) (Some (241 + 2 * high)) ≡ roles.Data)
high_kind given high small other =
    let n = 241 + 2 * high in
    let ten : is_ten_bit n ≡ true = eq-eqb (n / 8) 30 (omega arith) in
    let odd : (n % 2 == 1) ≡ true = eq-eqb (n % 2) 1 (omega arith) in
    let two : high_bits n ≡ high = omega arith in
    (rw (ten, odd, two) (alone given other), rw odd refl)
  where
    alone : (given : Option ℕ) → IfSome given (λ address. address / 256 ≢ high)
        → ten_bit_kind given high Read ≡ kinds.AddressHigh high Read
    alone None other = refl
    alone (Some address) other = rw (ne_eqb (address / 256) high other) refl

pub transfer_kinds : (given : Option ℕ) (t : Transfer) → IsTransfer given t
    → HaveKinds (roles.Address given) (transfer_bytes t)
unfolding HaveKinds
transfer_kinds given (seven_bit address direction taken bytes) (small, seven, fit) =
    let first = seven_kind given address direction small seven in
    (first.0, first.1, subst (λ role. HaveKinds role (data_bytes bytes)) (sym first.2) (data_kinds bytes fit))
transfer_kinds given (ten_bit_write address high_taken low_taken bytes) (small, fit) =
    let first = write_kind given (address / 256) (omega arith) in
    let whole : 256 * (address / 256) + address % 256 ≡ address = omega arith in (
      omega arith,
      first.0,
      subst (λ role. HaveKinds role (sent_byte (address % 256) low_taken (kinds.TenBitAddress address Write)
          ∷ data_bytes bytes)) (sym first.1)
          (omega arith, ap (λ a. kinds.TenBitAddress a Write) whole, data_kinds bytes fit),
    )
transfer_kinds given (high_bits_read high taken bytes) (small, other, fit) =
    let first = high_kind given high small other in (
      omega arith,
      first.0,
      subst (λ role. HaveKinds role (data_bytes bytes)) (sym first.1) (data_kinds bytes fit),
    )
transfer_kinds given (ten_bit_read address taken bytes) (small, same, fit) =
    subst (λ (g : Option ℕ). HaveKinds (roles.Address g) (transfer_bytes (ten_bit_read address taken bytes))) (sym same)
    (read_from address taken bytes small fit)
  where
    read_from : (address : ℕ) (taken : Bool) (bytes : List DataByte) → address < 1024 → AreBytes bytes
        → HaveKinds (roles.Address (Some address)) (transfer_bytes (ten_bit_read address taken bytes))
    read_from address taken bytes small fit =
        let first = read_kind address small in (
          omega arith,
          first.0,
          subst (λ role. HaveKinds role (data_bytes bytes)) (sym first.1) (data_kinds bytes fit),
        )

-- ---- the address that the bytes show

no_address : (taken : Bool) → ten_bit_address (acknowledge taken) ≡ None
no_address true = refl
no_address false = refl

data_address : (at : ℕ → ℕ) (i : ℕ) (bytes : List DataByte) → shown_address (sent_bytes at i (data_bytes bytes)) ≡ None
unfolding shown_address sent_bytes
data_address at i [] = refl
data_address at i (b ∷ bs) = rw (no_address b.taken) (data_address at (i + 27) bs)

pub address_shown : (at : ℕ → ℕ) (i : ℕ) (t : Transfer)
    → shown_address (sent_bytes at i (transfer_bytes t)) ≡ ten_bits_of t
unfolding shown_address sent_bytes
address_shown at i (seven_bit address direction taken bytes) = rw (no_address taken) (data_address at (i + 27) bytes)
address_shown at i (ten_bit_write address high_taken low_taken bytes) = rw (no_address high_taken) refl
address_shown at i (ten_bit_read address taken bytes) = refl
address_shown at i (high_bits_read high taken bytes) = rw (no_address taken) (data_address at (i + 27) bytes)

-- ==== an I2C message that is sent is found

-- ---- the events of levels

abbrev transfer_bits : Transfer → List Bit
transfer_bits t = flat_map byte_bits (transfer_bytes t)

-- the events of bits
abbrev bit_events : (ℕ → ℕ) → ℕ → List Bit → List BusEvent
bit_events at i bits = map (λ b. events.Bit b) (sent_bits at i bits)

-- what follows the bits of a transfer: a rise of SCL, and a START with its bits, or a STOP
unfoldable later_events : (ℕ → ℕ) → ℕ → List Transfer → List BusEvent
later_events at i [] = events.Bit (record { tick = at (suc i); level = Zero }) ∷ events.Stop (at (suc (suc i))) ∷ []
later_events at i (t ∷ ts) =
    events.Bit (record { tick = at (suc i); level = One }) ∷ events.Start (at (suc (suc i)))
    ∷ bit_events at (4 + i) (transfer_bits t) ++ later_events at (4 + i + 3 * length (transfer_bits t)) ts

bits_walked : (at : ℕ → ℕ) (tail : List BusLevels) (found : ℕ → List BusEvent)
    → ((j : ℕ) (x : Bit) → level_events at j (levels Zero x) tail ≡ found j) → (bits : List Bit) (i : ℕ) (x : Bit)
    → level_events at i (levels Zero x) (flat_map bit_levels bits ++ tail)
    ≡ bit_events at i bits ++ found (i + 3 * length bits)
unfolding level_events sent_bits
bits_walked at tail found ending [] i x = ending i x ∙ ap found {x = i} {y = i + 3 * 0} (omega arith)
bits_walked at tail found ending (b ∷ bits) i x =
    let index : suc (suc (suc i)) + 3 * length bits ≡ i + 3 * length (b ∷ bits) = omega arith in
    ap (λ es. events.Bit (record { tick = at (suc i); level = b }) ∷ es)
    (bits_walked at tail found ending bits (suc (suc (suc i))) b)
    ∙ ap (λ k. events.Bit (record { tick = at (suc i); level = b })
    ∷ bit_events at (suc (suc (suc i))) bits ++ found k) index

later_walked : (at : ℕ → ℕ) (ts : List Transfer) (i : ℕ) (x : Bit)
    → level_events at i (levels Zero x) (later_levels ts) ≡ later_events at i ts
unfolding level_events later_levels later_events
later_walked at [] i x = refl
later_walked at (t ∷ ts) i x =
    let index : suc (suc (suc (suc i))) ≡ 4 + i = omega arith in
    ap (λ k. events.Bit (record { tick = at (suc i); level = One }) ∷ events.Start (at (suc (suc i)))
    ∷ level_events at k (levels Zero Zero) (flat_map bit_levels (transfer_bits t) ++ later_levels ts)) index
    ∙ ap (λ es. events.Bit (record { tick = at (suc i); level = One }) ∷ events.Start (at (suc (suc i))) ∷ es)
    (bits_walked at (later_levels ts) (λ j. later_events at j ts) (later_walked at ts) (transfer_bits t) (4 + i) Zero)

-- ---- the annotations of events

-- the rise of SCL with which they begin
abbrev rise_of : (ℕ → ℕ) → ℕ → List Transfer → BusBit
rise_of at i [] = record { tick = at (suc i); level = Zero }
rise_of at i (t ∷ ts) = record { tick = at (suc i); level = One }

has_one : (at : ℕ → ℕ) (i : ℕ) (ts : List Transfer) (bits : List BusBit)
    → list_any is_condition (map (λ b. events.Bit b) bits ++ later_events at i ts) ≡ true
unfolding later_events
has_one at i [] [] = refl
has_one at i (t ∷ ts) [] = refl
has_one at i ts (b ∷ bits) = has_one at i ts bits

bits_up_to : (at : ℕ → ℕ) (i : ℕ) (ts : List Transfer) (bits : List BusBit)
    → bits_until (map (λ b. events.Bit b) bits ++ later_events at i ts) ≡ bits ++ rise_of at i ts ∷ []
unfolding bits_until later_events
bits_up_to at i [] [] = refl
bits_up_to at i (t ∷ ts) [] = refl
bits_up_to at i ts (b ∷ bits) = ap (λ bs. b ∷ bs) (bits_up_to at i ts bits)

-- the kind of a START
abbrev start_kind : Bool → Kind
start_kind repeated = if repeated then kinds.RepeatedStart else kinds.Start

bits_passed : (repeated : Bool) (given : Option ℕ) (es : List BusEvent) (bits : List BusBit)
    → annotations_of_events repeated given (map (λ b. events.Bit b) bits ++ es)
    ≡ annotations_of_events repeated given es
unfolding annotations_of_events
bits_passed repeated given es [] = refl
bits_passed repeated given es (b ∷ bits) = bits_passed repeated given es bits

transfer_found : (at : ℕ → ℕ) (start i j : ℕ) (repeated : Bool) (given : Option ℕ) (t : Transfer) (ts : List Transfer)
    → IsTransfer given t
    → annotations_of_events repeated given
    (events.Start start ∷ bit_events at i (transfer_bits t) ++ later_events at j ts)
    ≡ annotation start start (start_kind repeated) ∷ sent_bytes at i (transfer_bytes t)
    ++ annotations_of_events true (ten_bits_of t) (later_events at j ts)
unfolding annotations_of_events
transfer_found at start i j repeated given t ts is =
    let bits = sent_bits at i (transfer_bits t) in
    let es = map (λ b. events.Bit b) bits ++ later_events at j ts in
    let role = roles.Address given in
    let shown : nines_annotations (list_any is_condition es) role (groups_of 9 (bits_until es))
    ≡ sent_bytes at i (transfer_bytes t) =
    (λ k. nines_annotations (has_one at j ts bits k) role (groups_of 9 (bits_up_to at j ts bits k)))
    ∙ bytes_found role at i (transfer_bytes t) (rise_of at j ts) (transfer_kinds given t is) in
    (λ k. annotation start start (start_kind repeated) ∷ shown k
    ++ annotations_of_events true (shown_address (shown k)) es)
    ∙ ap (λ (next : Option ℕ). annotation start start (start_kind repeated) ∷ sent_bytes at i (transfer_bytes t)
    ++ annotations_of_events true next es) (address_shown at i t)
    ∙ ap (λ found. annotation start start (start_kind repeated) ∷ sent_bytes at i (transfer_bytes t) ++ found)
    (bits_passed true (ten_bits_of t) (later_events at j ts) bits)

-- three levels a bit
bit_lengths : (bits : List Bit) → length (flat_map bit_levels bits) ≡ 3 * length bits
bit_lengths [] = refl
bit_lengths (b ∷ bits) =
    length-append (bit_levels b) (flat_map bit_levels bits) ∙ ap (λ n. 3 + n) (bit_lengths bits) ∙ omega arith

transfer_length : (t : Transfer) → length (transfer_levels t) ≡ 3 + 3 * length (transfer_bits t)
transfer_length t = ap (λ n. suc (suc (suc n))) (bit_lengths (transfer_bits t)) ∙ omega arith

later_found : (at : ℕ → ℕ) (given : Option ℕ) (i : ℕ) (ts : List Transfer) → AreTransfers given ts
    → annotations_of_events true given (later_events at i ts) ≡ later_annotations at i ts
unfolding annotations_of_events later_events later_annotations AreTransfers
later_found at given i [] are =
    let index : suc (suc i) ≡ i + 2 = omega arith in
    λ k. annotation (at (index k)) (at (index k)) kinds.Stop ∷ []
later_found at given i (t ∷ ts) (is, are) =
    let first : suc (suc i) ≡ i + 1 + 1 = omega arith in
    let second : 4 + i ≡ i + 1 + 3 = omega arith in
    let next : 4 + i + 3 * length (transfer_bits t) ≡ i + 1 + length (transfer_levels t) =
    omega (arith, transfer_length t) in
    transfer_found at (at (suc (suc i))) (4 + i) (4 + i + 3 * length (transfer_bits t)) true given t ts is
    ∙ ap (λ found. annotation (at (suc (suc i))) (at (suc (suc i))) kinds.RepeatedStart
    ∷ sent_bytes at (4 + i) (transfer_bytes t) ++ found)
    (later_found at (ten_bits_of t) (4 + i + 3 * length (transfer_bits t)) ts are)
    ∙ (λ k. annotation (at (first k)) (at (first k)) kinds.RepeatedStart
    ∷ sent_bytes at (second k) (transfer_bytes t) ++ later_annotations at (next k) ts)

pub message_found : I2cMessagesAreFound
unfolding level_events AreTransfers
message_found scl sda end at t ts first rises last are have =
    let bits = transfer_bits t in
    let next : 3 + 3 * length bits ≡ length (transfer_levels t) = sym (transfer_length t) in
    ap (annotations_of_events false None)
    (bus_walked scl sda at rises end
    (levels One Zero ∷ levels Zero Zero ∷ flat_map bit_levels bits ++ later_levels ts) first last have
    ∙ ap (λ es. events.Start (at 1) ∷ es)
    (bits_walked at (later_levels ts) (λ j. later_events at j ts) (later_walked at ts) bits 3 Zero))
    ∙ transfer_found at (at 1) 3 (3 + 3 * length bits) false None t ts are.0
    ∙ ap (λ found. annotation (at 1) (at 1) kinds.Start ∷ sent_bytes at 3 (transfer_bytes t) ++ found)
    (later_found at (ten_bits_of t) (3 + 3 * length bits) ts are.1)
    ∙ ap (λ k. annotation (at 1) (at 1) kinds.Start ∷ sent_bytes at 3 (transfer_bytes t)
    ++ later_annotations at k ts) next
