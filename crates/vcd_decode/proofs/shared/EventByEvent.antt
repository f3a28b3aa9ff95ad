-- The walk over a bus: its events are those at the edges, and taken one at a time they give all annotations.
use Rattle.std.proofs.Common.{◌≡◌, ℕ, zero, suc, Option, Some, None, List, [], ◌∷◌, ◌++◌, refl, sym, ap, ◌∙◌}
use Rattle.std.proofs.Common.{option_to_list, ◌+◌, ◌-◌, ◌<◌, if◌then◌else◌, length, fold, arith, add-zero}
use Rattle.std.proofs.Common.{◌≤◌, ◌==◌, nat_le, Bool, true, false, take, inl, inr}
use Rattle.std.specs.Prelude.{slice_index}
use Rattle.std.specs.List.{filter_map, flat_map, range_with_len, list_any, cons_option, slice_get}
use Rattle.std.proofs.lemmas.Bool.{ne_eqb, cases_eq, cond_both}
use Rattle.std.specs.Option.{option_or}
use Rattle.std.proofs.lemmas.Bool.Decides.{Decides-eqb}
use Rattle.std.proofs.lemmas.List.{length_push, take_at, drop_at, append-nil, append_assoc}
use Rattle.std.proofs.lemmas.List.Sums.{fold-append}
use Rattle.vcd_core.specs.declared.bit.Bit.{Bit}
use Rattle.vcd_core.specs.declared.bit_edges.BitEdge.{BitEdge}
use Rattle.vcd_core.specs.BitEdges.{bit_edges_of}
use Rattle.vcd_core.specs.WaveView.{WaveView}
use Rattle.vcd_decode.specs.Lines.{letter_before, annotation}
use Rattle.vcd_decode.specs.BusEvents.{bus_event_at, bus_events}
use Rattle.vcd_decode.specs.inside.i2c_bus.Events.{bus_event}
use Rattle.vcd_decode.specs.inside.i2c_bus.BusWalk.{levels_of, edge_event, edge_events, no_bits}
use Rattle.vcd_decode.specs.inside.i2c_bus.BusWalk.{partial_byte_with, partial_byte_of, transfer_rest_annotations}
use Rattle.vcd_decode.specs.inside.i2c_bus.BusWalk.{whole_byte_annotations, transfer_after_byte, event_annotations}
use Rattle.vcd_decode.specs.inside.i2c_bus.BusWalk.{bus_after, walk_annotations}
use Rattle.vcd_decode.specs.WaveLines.{line_of}
use Rattle.vcd_decode.specs.LineEdges.{line_edge, AreEdgesOf}
use Rattle.vcd_decode.specs.declared.i2c_bus.events.BusBit.{BusBit}
use Rattle.vcd_decode.specs.declared.i2c_bus.bytes.PartialByte.{PartialByte}
use Rattle.vcd_decode.specs.BusBytes.{number_with, number_of_bits, byte_kind, role_after, acknowledge_kind}
use Rattle.vcd_decode.specs.BusBytes.{ten_bit_address}
use Rattle.vcd_decode.specs.I2c.{ticks_of, bits_annotation, byte_annotations, rest_annotations, nines_annotations}
use Rattle.vcd_decode.specs.I2c.{bits_until, is_condition, shown_address, annotations_of_events, i2c_annotations}
use Rattle.vcd_decode.specs.declared.annotation.Annotation.{Annotation}
use Rattle.vcd_decode.specs.declared.annotation.Kind.TheVariants as kinds
use Rattle.vcd_decode.specs.declared.i2c_bus.events.BusEvent.{BusEvent}
use Rattle.vcd_decode.specs.declared.i2c_bus.events.BusEvent.TheVariants as events
use Rattle.vcd_decode.specs.declared.i2c_bus.bytes.ByteRole.{ByteRole}
use Rattle.vcd_decode.specs.declared.i2c_bus.bytes.ByteRole.TheVariants as roles
use Rattle.vcd_decode.specs.declared.i2c_bus.transfer.Transfer.{Transfer}
use Rattle.vcd_decode.specs.Groups.{groups_of}
use Rattle.vcd_decode.proofs.shared.EdgeTicks.{bit_edges_are, over_edges, cons_is, nothing_happens}
use Rattle.vcd_decode.proofs.shared.Groups.{groups_none, groups_short, groups_whole}

-- ==== the events at the edges of two lines are those at all ticks

as_lists : {A B : Type 0} (f : A → Option B) (xs : List A) → filter_map f xs ≡ flat_map (λ x. option_to_list (f x)) xs
as_lists f [] = refl
as_lists f (x ∷ xs) = cons_is (f x) (filter_map f xs) ∙ ap (λ ys. option_to_list (f x) ++ ys) (as_lists f xs)

module _ (scl sda : ℕ → Bit) where
  abbrev pub bus_lines : List (Option (ℕ → Bit))
  bus_lines = Some scl ∷ Some sda ∷ None ∷ None ∷ []

  still : (t : ℕ) → (line_edge bus_lines t).at ≡ (line_edge bus_lines t).before
      → option_to_list (edge_event (line_edge bus_lines t)) ≡ []
  still t same =
      ap (λ (letters : List (Option Bit)). option_to_list
      (bus_event t (levels_of (line_edge bus_lines t).before) (levels_of letters))) same
      ∙ ap option_to_list (nothing_happens t (letter_before scl t) (letter_before sda t))

  pub events_are : (end : ℕ) (edges : List BitEdge) → AreEdgesOf bus_lines end edges
      → edge_events edges ≡ bus_events scl sda end
  unfolding bus_events
  events_are end edges are =
      as_lists edge_event edges
      ∙ over_edges bus_lines end edges are (λ e. option_to_list (edge_event e)) still
      ∙ sym (as_lists (bus_event_at scl sda) (range_with_len 0 (suc end)))

-- those of two waves are the events of their lines
pub bus_waves_events : (scl sda : WaveView) (end : ℕ)
    → edge_events (bit_edges_of (Some scl ∷ Some sda ∷ None ∷ None ∷ []) end)
    ≡ bus_events (line_of scl) (line_of sda) end
bus_waves_events scl sda end =
    events_are (line_of scl) (line_of sda) end _ (bit_edges_are (Some scl ∷ Some sda ∷ None ∷ None ∷ []) end)

-- ==== the state of the current bits

kept_count : (g : List BusBit) (p : PartialByte) → (fold partial_byte_with p g).count ≡ p.count + length g
kept_count [] p = sym (add-zero p.count)
kept_count (b ∷ g) p = kept_count g (partial_byte_with p b) ∙ omega arith

kept_first : (g : List BusBit) (p : PartialByte) → 0 < p.count → (fold partial_byte_with p g).first ≡ p.first
kept_first [] p some = refl
kept_first (b ∷ g) p some = kept_first g (partial_byte_with p b) (omega arith)
    ∙ ap (λ e. if e then b.tick else p.first) (ne_eqb p.count 0 (omega arith))

kept_last : (g : List BusBit) (b : BusBit) (p : PartialByte)
    → (fold partial_byte_with p (b ∷ g)).last ≡ slice_index (ticks_of (b ∷ g)) (length g)
kept_last [] b p = refl
kept_last (c ∷ g) b p = kept_last g c (partial_byte_with p b)

kept_number : (g : List BusBit) (p : PartialByte) → (fold partial_byte_with p g).number ≡ fold number_with p.number g
kept_number [] p = refl
kept_number (b ∷ g) p = kept_number g (partial_byte_with p b)

pub byte_count : (g : List BusBit) → (partial_byte_of g).count ≡ length g
byte_count g = kept_count g no_bits ∙ omega arith

pub byte_number : (g : List BusBit) → (partial_byte_of g).number ≡ number_of_bits g
byte_number g = kept_number g no_bits

pub byte_first : (b : BusBit) (g : List BusBit) → (partial_byte_of (b ∷ g)).first ≡ b.tick
byte_first b g = kept_first g (partial_byte_with no_bits b) (omega arith)

pub byte_last : (b : BusBit) (g : List BusBit)
    → (partial_byte_of (b ∷ g)).last ≡ slice_index (ticks_of (b ∷ g)) (length (b ∷ g) - 1)
byte_last b g = kept_last g b no_bits ∙ ap (slice_index (ticks_of (b ∷ g))) (omega arith)

-- ==== events taken one at a time give the annotations of the whole bus

-- a transfer of these parts
abbrev pub transfer_of : ByteRole → PartialByte → Option ℕ → Transfer
transfer_of role byte given = record { role = role; byte = byte; address = given }

-- ---- fewer than nine bits

rest_alone : (ended : Bool) (role : ByteRole) (g : List BusBit) → length g ≤ 8
    → nines_annotations ended role (groups_of 9 g) ≡ rest_annotations ended g
unfolding nines_annotations
rest_alone true role [] few = ap (nines_annotations true role) (groups_none 9)
rest_alone false role [] few = ap (nines_annotations false role) (groups_none 9)
rest_alone ended role (b ∷ g) few =
    let short : (length (b ∷ g) == 9) ≡ false = ne_eqb (length (b ∷ g)) 9 (λ nine. omega arith) in
    ap (nines_annotations ended role) (groups_short 9 (b ∷ g) (omega arith) (omega arith)) ∙ rw short refl

-- the annotations of these bits where a condition comes
left_is : (role : ByteRole) (g : List BusBit) (given : Option ℕ)
    → transfer_rest_annotations (Some (transfer_of role (partial_byte_of g) given)) ≡ rest_annotations true g
left_is role [] given = refl
left_is role (b ∷ g) given =
    let count = byte_count (b ∷ g) in
    let first = byte_first b g in
    let last = byte_last b g in
    λ i. if nat_le 2 (count i) then annotation (first i) (last i) (kinds.Unfinished (count i)) ∷ [] else []

-- they show no address
none_given : (g : List BusBit) → shown_address (rest_annotations true g) ≡ None
unfolding shown_address
none_given g = cond_both (nat_le 2 (length g)) (bits_annotation g (kinds.Unfinished (length g)) ∷ []) []
    (λ found. shown_address found ≡ None) (λ _. refl) (λ _. refl)

-- ---- a whole byte

-- eight current bits and the ninth
whole_is : (role : ByteRole) (g : List BusBit) (given : Option ℕ) (b : BusBit) → length g ≡ 8
    → byte_annotations role (g ++ b ∷ []) ≡ whole_byte_annotations (transfer_of role (partial_byte_of g) given) b
whole_is role [] given b eight = absurd (omega arith)
whole_is role (a ∷ g) given b eight =
    let prefix = take_at (a ∷ g) (b ∷ []) 8 eight in
    let ninth = drop_at (a ∷ g) (b ∷ []) 8 eight in
    let first = byte_first a g in
    let last = byte_last a g in
    let number = byte_number (a ∷ g) in
    (λ i. bits_annotation (prefix i) (byte_kind role (number_of_bits (prefix i)))
    ∷ bits_annotation (ninth i) (acknowledge_kind (number_of_bits (ninth i))) ∷ [])
    ∙ sym (λ i. annotation (first i) (last i) (byte_kind role (number i))
    ∷ annotation b.tick b.tick (acknowledge_kind (number_with (Some 0) b)) ∷ [])

acknowledge_none : (number : Option ℕ) → ten_bit_address (acknowledge_kind number) ≡ None
acknowledge_none (Some zero) = refl
acknowledge_none number = refl

or_first : (a b : Option ℕ) (ns : List ℕ)
    → option_or a (slice_get (cons_option b ns) 0) ≡ option_or (option_or a b) (slice_get ns 0)
or_first (Some x) b ns = refl
or_first None None ns = refl
or_first None (Some y) ns = refl

or_none : (a : Option ℕ) → option_or a None ≡ a
or_none None = refl
or_none (Some x) = refl

-- the address that the whole bits show, with the one that came before
given_past : (t : Transfer) (b : BusBit) (others : List Annotation)
    → option_or t.address (shown_address (whole_byte_annotations t b ++ others))
    ≡ option_or (transfer_after_byte t).address (shown_address others)
unfolding shown_address
given_past t b others =
    let more : List ℕ = filter_map (λ (a : Annotation). ten_bit_address a.kind) others in
    let byte = ten_bit_address (byte_kind t.role t.byte.number) in
    ap (λ (o : Option ℕ). option_or t.address (slice_get (cons_option byte (cons_option o more)) 0))
    (acknowledge_none (number_with (Some 0) b))
    ∙ or_first t.address byte more

-- the annotations of the current bits and those up to the next condition
abbrev stretch : List BusEvent → ByteRole → List BusBit → List Annotation
stretch es role g = nines_annotations (list_any is_condition es) role (groups_of 9 (g ++ bits_until es))

-- a full nine and the bits after it
stretch_past : (es : List BusEvent) (role : ByteRole) (g : List BusBit) (given : Option ℕ) (b : BusBit) → length g ≡ 8
    → nines_annotations (list_any is_condition es) role (groups_of 9 (g ++ b ∷ bits_until es))
    ≡ whole_byte_annotations (transfer_of role (partial_byte_of g) given) b
    ++ stretch es (role_after role (partial_byte_of g).number) []
unfolding nines_annotations
stretch_past es role g given b eight =
    let nine : length (g ++ b ∷ []) ≡ 9 = length_push g b ∙ omega arith in
    let full : (length (g ++ b ∷ []) == 9) ≡ true = (Decides-eqb (length (g ++ b ∷ [])) 9).1 nine in
    let prefix = take_at g (b ∷ []) 8 eight in
    let number : number_of_bits (take 8 (g ++ b ∷ [])) ≡ (partial_byte_of g).number = ap number_of_bits prefix
    ∙ sym (byte_number g) in
    let annotations = whole_is role g given b eight in
    ap (λ (bs : List BusBit). nines_annotations (list_any is_condition es) role (groups_of 9 bs))
    (sym (append_assoc g (b ∷ []) (bits_until es)))
    ∙ ap (nines_annotations (list_any is_condition es) role)
    (groups_whole 9 (g ++ b ∷ []) (bits_until es) (omega arith) nine)
    ∙ rw full (λ i. annotations i ++ nines_annotations (list_any is_condition es) (role_after role (number i))
    (groups_of 9 (bits_until es)))

-- ---- all events

abbrev WalksFree : List BusEvent → Type 0
WalksFree es = walk_annotations None es ≡ annotations_of_events false None es

-- from these current bits on, all annotations are those of the stretch, and then those after it
abbrev WalksFrom : List BusEvent → ByteRole → List BusBit → Option ℕ → Type 0
WalksFrom es role g given = walk_annotations (Some (transfer_of role (partial_byte_of g) given)) es
    ≡ stretch es role g ++ annotations_of_events true (option_or given (shown_address (stretch es role g))) es

abbrev WalksTransfer : List BusEvent → Type 0
WalksTransfer es = (role : ByteRole) (g : List BusBit) (given : Option ℕ) → length g ≤ 8 → WalksFrom es role g given

-- at a condition the current bits are a rest
at_condition : (c : BusEvent) (es : List BusEvent) (role : ByteRole) (g : List BusBit) (given : Option ℕ) → length g ≤ 8
    → bits_until (c ∷ es) ≡ [] → list_any is_condition (c ∷ es) ≡ true
    → (transfer_rest_annotations (Some (transfer_of role (partial_byte_of g) given)) ≡ stretch (c ∷ es) role g)
    × (option_or given (shown_address (stretch (c ∷ es) role g)) ≡ given)
at_condition c es role g given few none ended =
    let all : stretch (c ∷ es) role g ≡ rest_annotations true g =
    (λ i. nines_annotations (ended i) role (groups_of 9 (g ++ none i)))
    ∙ ap (λ (bs : List BusBit). nines_annotations true role (groups_of 9 bs)) (append-nil g)
    ∙ rest_alone true role g few in (
      left_is role g given ∙ sym all,
      ap (λ (shown : List Annotation). option_or given (shown_address shown)) all
          ∙ ap (option_or given) (none_given g) ∙ or_none given,
    )

-- a bit that ends a byte, or does not
bit_taken : (t : Transfer) (b : BusBit) (es : List BusEvent) (full : Bool) → (t.byte.count == 8) ≡ full
    → walk_annotations (Some t) (events.Bit b ∷ es) ≡ (if full then whole_byte_annotations t b else [])
    ++ walk_annotations (Some
    (if full then transfer_after_byte t else record t { byte = partial_byte_with t.byte b })) es
unfolding walk_annotations
bit_taken t b es full is = λ i. (if is i then whole_byte_annotations t b else [])
    ++ walk_annotations (Some
    (if is i then transfer_after_byte t else record t { byte = partial_byte_with t.byte b })) es

held_byte : (b : BusBit) (es : List BusEvent) (role : ByteRole) (g : List BusBit) (given : Option ℕ) → WalksTransfer es
    → length g ≡ 8 → WalksFrom (events.Bit b ∷ es) role g given
unfolding bits_until annotations_of_events
held_byte b es role g given later eight =
    let t : Transfer = transfer_of role (partial_byte_of g) given in
    let count : (t.byte.count == 8) ≡ true = (Decides-eqb t.byte.count 8).1 (byte_count g ∙ eight) in
    let whole : List Annotation = whole_byte_annotations t b in
    let next : ByteRole = role_after role (partial_byte_of g).number in
    let rest : List Annotation = stretch es next [] in
    let given_then : Option ℕ = (transfer_after_byte t).address in
    let past = stretch_past es role g given b eight in
    bit_taken t b es true count
    ∙ ap (λ (annotations : List Annotation). whole ++ annotations) (later next [] given_then (omega arith))
    ∙ sym (append_assoc whole rest (annotations_of_events true (option_or given_then (shown_address rest)) es))
    ∙ ap (λ (o : Option ℕ). (whole ++ rest) ++ annotations_of_events true o es) (sym (given_past t b rest))
    ∙ sym (λ i. past i ++ annotations_of_events true (option_or given (shown_address (past i))) es)

held_bit : (b : BusBit) (es : List BusEvent) (role : ByteRole) (g : List BusBit) (given : Option ℕ) → WalksTransfer es
    → length g < 8 → WalksFrom (events.Bit b ∷ es) role g given
unfolding bits_until annotations_of_events
held_bit b es role g given later few =
    let t : Transfer = transfer_of role (partial_byte_of g) given in
    let count : (t.byte.count == 8) ≡ false = ne_eqb t.byte.count 8 (λ eight. omega (arith, byte_count g)) in
    let more : partial_byte_with (partial_byte_of g) b
    ≡ partial_byte_of (g ++ b ∷ []) = sym (fold-append partial_byte_with no_bits g (b ∷ [])) in
    let longer = append_assoc g (b ∷ []) (bits_until es) in
    bit_taken t b es false count ∙ ap (λ (p : PartialByte). walk_annotations (Some (transfer_of role p given)) es) more
    ∙ later role (g ++ b ∷ []) given (omega (arith, length_push g b))
    ∙ (λ i. nines_annotations (list_any is_condition es) role (groups_of 9 (longer i))
    ++ annotations_of_events
    true (option_or given (shown_address (nines_annotations (list_any is_condition es) role (groups_of 9 (longer i)))))
    es)

held_start : (t : ℕ) (es : List BusEvent) (role : ByteRole) (g : List BusBit) (given : Option ℕ) → WalksTransfer es
    → length g ≤ 8 → WalksFrom (events.Start t ∷ es) role g given
unfolding walk_annotations bits_until annotations_of_events
held_start t es role g given later few =
    let here = at_condition (events.Start t) es role g given few refl refl in
    let rest : List Annotation = transfer_rest_annotations (Some (transfer_of role (partial_byte_of g) given)) in
    let shown : List Annotation = stretch es (roles.Address given) [] in
    let others : List Annotation = shown ++ annotations_of_events true (shown_address shown) es in
    let start : List Annotation = annotation t t kinds.RepeatedStart ∷ [] in
    let old = sym here.1 in
    ap (λ (annotations : List Annotation). (rest ++ start) ++ annotations)
    (later (roles.Address given) [] None (omega arith)) ∙ append_assoc rest start others
    ∙ (λ i. here.0 i ++ annotations_of_events true (old i) (events.Start t ∷ es))

held_stop : (t : ℕ) (es : List BusEvent) (role : ByteRole) (g : List BusBit) (given : Option ℕ) → WalksFree es
    → length g ≤ 8 → WalksFrom (events.Stop t ∷ es) role g given
unfolding walk_annotations bits_until annotations_of_events
held_stop t es role g given later few =
    let here = at_condition (events.Stop t) es role g given few refl refl in
    let rest : List Annotation = transfer_rest_annotations (Some (transfer_of role (partial_byte_of g) given)) in
    let stop : List Annotation = annotation t t kinds.Stop ∷ [] in
    let old = sym here.1 in
    ap (λ (annotations : List Annotation). (rest ++ stop) ++ annotations) later
    ∙ append_assoc rest stop (annotations_of_events false None es)
    ∙ (λ i. here.0 i ++ annotations_of_events true (old i) (events.Stop t ∷ es))

held_none : WalksTransfer []
unfolding walk_annotations bits_until annotations_of_events
held_none role g given few =
    sym (append-nil (stretch [] role g)
    ∙ ap (λ (bs : List BusBit). nines_annotations false role (groups_of 9 bs)) (append-nil g)
    ∙ rest_alone false role g few)

held_start_free : (t : ℕ) (es : List BusEvent) → WalksTransfer es → WalksFree (events.Start t ∷ es)
unfolding walk_annotations annotations_of_events
held_start_free t es later =
    ap (λ (annotations : List Annotation). annotation t t kinds.Start ∷ annotations)
    (later (roles.Address None) [] None (omega arith))

walked : (es : List BusEvent) → WalksFree es × WalksTransfer es
unfolding walk_annotations annotations_of_events
walked [] = (refl, held_none)
walked (events.Bit b ∷ es) =
    let later = walked es in (
      later.0,
      λ role g given few. elim (cases_eq (length g) 8) [
        | inl eight ↦ held_byte b es role g given later.1 eight
        | inr fewer ↦ held_bit b es role g given later.1 (omega arith)
      ],
    )
walked (events.Start t ∷ es) =
    let later = walked es in
    (held_start_free t es later.1, λ role g given few. held_start t es role g given later.1 few)
walked (events.Stop t ∷ es) =
    let later = walked es in (
      ap (λ (annotations : List Annotation). annotation t t kinds.Stop ∷ annotations) later.0,
      λ role g given few. held_stop t es role g given later.0 few,
    )

-- events taken one at a time, from a free bus on
pub walk_is : (es : List BusEvent) → walk_annotations None es ≡ annotations_of_events false None es
walk_is es = (walked es).0

-- edges of the lines of a free bus give all annotations
pub bus_annotations_are : (scl sda : ℕ → Bit) (end : ℕ) (edges : List BitEdge)
    → AreEdgesOf (bus_lines scl sda) end edges
    → walk_annotations None (edge_events edges) ≡ i2c_annotations scl sda end
bus_annotations_are scl sda end edges are =
    ap (walk_annotations None) (events_are scl sda end edges are) ∙ walk_is (bus_events scl sda end)

-- the annotations of an event, and then those after it
pub event_taken : (old new : List Annotation) (bus next : Option Transfer) (seen : Option BusEvent) (e : BusEvent)
    (es : List BusEvent) → seen ≡ Some e → new ≡ old ++ event_annotations bus e → next ≡ bus_after bus e
    → new ++ walk_annotations next es ≡ old ++ walk_annotations bus (cons_option seen es)
unfolding walk_annotations
event_taken old new bus next seen e es is annotations after =
    (λ i. annotations i ++ walk_annotations (after i) es)
    ∙ append_assoc old (event_annotations bus e) (walk_annotations (bus_after bus e) es)
    ∙ ap (λ (o : Option BusEvent). old ++ walk_annotations bus (cons_option o es)) (sym is)
