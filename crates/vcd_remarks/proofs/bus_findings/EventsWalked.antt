-- The walk over the events of a bus finds what there is.
use Rattle.std.proofs.Common.{◌≡◌, ℕ, ◌+◌, ◌-◌, ◌^◌, ◌<◌, ◌≤◌, ◌&&◌, min, nat_lt, not, Bool, true, false}
use Rattle.std.proofs.Common.{if◌then◌else◌, Option, Some, None, List, [], ◌∷◌, ◌++◌, length, refl, ap, ◌∙◌, arith}
use Rattle.std.specs.List.{cons_option}
use Rattle.vcd_decode.specs.declared.i2c_bus.events.BusEvent.{BusEvent}
use Rattle.vcd_decode.specs.declared.i2c_bus.events.BusEvent.TheVariants as events
use Rattle.vcd_remarks.specs.declared.bus_findings.BusWalk.{BusWalk}
use Rattle.vcd_remarks.specs.declared.findings.found_ticks.FoundTicks.{FoundTicks}
use Rattle.vcd_remarks.specs.BusFindings.{is_cut_off, cutting_conditions, stray_bits, open_start}
use Rattle.vcd_remarks.specs.FoundTicks.{found_ticks, first_ticks}
use Rattle.vcd_remarks.specs.inside.FoundTicks.{with_tick, with_ticks}
use Rattle.vcd_remarks.specs.inside.BusFindings.{no_events, with_event, with_event_if, with_events}
use Rattle.vcd_remarks.proofs.findings.TicksInTurn.{found_so_far}

-- a tick where a test passes
noted : (b : Bool) (found : FoundTicks) (t : ℕ) (ts : List ℕ)
    → with_ticks (if b then with_tick found t else found) ts ≡ with_ticks found ((if b then t ∷ [] else []) ++ ts)
unfolding with_ticks
noted true found t ts = refl
noted false found t ts = refl

-- one bit more is counted
one_bit_more : (bits : ℕ) → bits < 2 ^ 64 - 1 → min (bits + 1) (2 ^ 64 - 1) ≡ bits + 1
one_bit_more bits fits = omega (arith, fits)

cuts_so_far : (w : BusWalk) (es : List BusEvent) → w.bits + length es < 2 ^ 64
    → (with_events w es).cuts ≡ with_ticks w.cuts (cutting_conditions w.in_transfer w.bits es)
unfolding with_events with_ticks cutting_conditions
cuts_so_far w [] fits = refl
cuts_so_far w (events.Bit b ∷ es) fits = cuts_so_far (with_event w (events.Bit b)) es (omega (arith, fits))
    ∙ ap (λ n. with_ticks w.cuts (cutting_conditions w.in_transfer n es)) (one_bit_more w.bits (omega (arith, fits)))
cuts_so_far w (events.Start t ∷ es) fits = cuts_so_far (with_event w (events.Start t)) es (omega (arith, fits))
    ∙ noted (is_cut_off w.in_transfer w.bits) w.cuts t (cutting_conditions true 0 es)
cuts_so_far w (events.Stop t ∷ es) fits = cuts_so_far (with_event w (events.Stop t)) es (omega (arith, fits))
    ∙ noted (is_cut_off w.in_transfer w.bits) w.cuts t (cutting_conditions false 0 es)

stray_so_far : (w : BusWalk) (es : List BusEvent) → w.bits + length es < 2 ^ 64
    → (with_events w es).stray ≡ with_ticks w.stray (stray_bits w.in_transfer w.bits es)
unfolding with_events with_ticks stray_bits
stray_so_far w [] fits = refl
stray_so_far w (events.Bit b ∷ es) fits = stray_so_far (with_event w (events.Bit b)) es (omega (arith, fits))
    ∙ ap (λ n. with_ticks (with_event w (events.Bit b)).stray (stray_bits w.in_transfer n es))
    (one_bit_more w.bits (omega (arith, fits)))
    ∙ noted (not w.in_transfer && nat_lt 0 w.bits) w.stray b.tick (stray_bits w.in_transfer (w.bits + 1) es)
stray_so_far w (events.Start t ∷ es) fits = stray_so_far (with_event w (events.Start t)) es (omega (arith, fits))
stray_so_far w (events.Stop t ∷ es) fits = stray_so_far (with_event w (events.Stop t)) es (omega (arith, fits))

unstopped_so_far : (w : BusWalk) (before : List ℕ) (es : List BusEvent) → w.unstopped ≡ found_ticks before
    → (with_events w es).unstopped ≡ found_ticks (open_start before es)
unfolding with_events open_start first_ticks
unstopped_so_far w before [] is = is
unstopped_so_far w before (events.Bit b ∷ es) is = unstopped_so_far (with_event w (events.Bit b)) before es is
unstopped_so_far w before (events.Start t ∷ es) is = unstopped_so_far (with_event w (events.Start t)) (t ∷ []) es refl
unstopped_so_far w before (events.Stop t ∷ es) is = unstopped_so_far (with_event w (events.Stop t)) [] es refl

-- ---- no more than the events

one_or_none : (b : Bool) (t : ℕ) (ts : List ℕ) → length ((if b then t ∷ [] else []) ++ ts) ≤ length ts + 1
one_or_none true t ts = omega arith
one_or_none false t ts = omega arith

cuts_few : (in_transfer : Bool) (bits : ℕ) (es : List BusEvent)
    → length (cutting_conditions in_transfer bits es) ≤ length es
unfolding cutting_conditions
cuts_few in_transfer bits [] = omega arith
cuts_few in_transfer bits (events.Bit b ∷ es) = omega (arith, cuts_few in_transfer (bits + 1) es)
cuts_few in_transfer bits (events.Start t ∷ es) = omega (
  arith,
  cuts_few true 0 es,
  one_or_none (is_cut_off in_transfer bits) t (cutting_conditions true 0 es),
)
cuts_few in_transfer bits (events.Stop t ∷ es) = omega (
  arith,
  cuts_few false 0 es,
  one_or_none (is_cut_off in_transfer bits) t (cutting_conditions false 0 es),
)

stray_few : (in_transfer : Bool) (bits : ℕ) (es : List BusEvent) → length (stray_bits in_transfer bits es) ≤ length es
unfolding stray_bits
stray_few in_transfer bits [] = omega arith
stray_few in_transfer bits (events.Bit b ∷ es) = omega (
  arith,
  stray_few in_transfer (bits + 1) es,
  one_or_none (not in_transfer && nat_lt 0 bits) b.tick (stray_bits in_transfer (bits + 1) es),
)
stray_few in_transfer bits (events.Start t ∷ es) = omega (arith, stray_few true 0 es)
stray_few in_transfer bits (events.Stop t ∷ es) = omega (arith, stray_few false 0 es)

-- ---- all events

module _ (es : List BusEvent) (fits : length es < 2 ^ 64) where
  pub all_cuts : (with_events no_events es).cuts ≡ found_ticks (cutting_conditions false 0 es)
  all_cuts = cuts_so_far no_events es (omega (arith, fits))
      ∙ found_so_far [] (cutting_conditions false 0 es) (omega (arith, fits, cuts_few false 0 es))

  pub all_stray : (with_events no_events es).stray ≡ found_ticks (stray_bits false 0 es)
  all_stray = stray_so_far no_events es (omega (arith, fits))
      ∙ found_so_far [] (stray_bits false 0 es) (omega (arith, fits, stray_few false 0 es))

  pub all_unstopped : (with_events no_events es).unstopped ≡ found_ticks (open_start [] es)
  all_unstopped = unstopped_so_far no_events [] es refl

-- the first event, if there is one
pub event_walked : (w : BusWalk) (event : Option BusEvent) (es : List BusEvent)
    → with_events (with_event_if w event) es ≡ with_events w (cons_option event es)
unfolding with_events
event_walked w None es = refl
event_walked w (Some e) es = refl
