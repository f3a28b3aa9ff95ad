-- The walk over the edges of an I2C bus for what is found of them.
use Rattle.std.specs.Prelude.{ℕ, ◌+◌, ◌-◌, ◌^◌, ◌&&◌, min, nat_lt, true, false, not, if◌then◌else◌}
use Rattle.std.specs.Prelude.{Option, Some, None, List, [], ◌∷◌}
use Rattle.vcd_core.specs.declared.bit_edges.BitEdge.{BitEdge}
use Rattle.vcd_decode.specs.declared.i2c_bus.events.BusEvent.{BusEvent}
use Rattle.vcd_decode.specs.declared.i2c_bus.events.BusEvent.TheVariants as events
use Rattle.vcd_decode.specs.inside.i2c_bus.BusWalk.{edge_event, edge_events}
use Rattle.vcd_remarks.specs.declared.bus_finder.BusFinder.{BusFinder}
use Rattle.vcd_remarks.specs.declared.bus_findings.BusWalk.{BusWalk}
use Rattle.vcd_remarks.specs.declared.findings.finding.Finding.{Finding}
use Rattle.vcd_remarks.specs.declared.findings.finding_kind.FindingKind.TheVariants as kinds
use Rattle.vcd_remarks.specs.declared.lost_lines.Pull.TheVariants.{Up}
use Rattle.vcd_remarks.specs.BusFindings.{is_cut_off}
use Rattle.vcd_remarks.specs.FoundTicks.{found_ticks}
use Rattle.vcd_remarks.specs.inside.FoundTicks.{with_tick, with_edge_tick, found_left, finding_at}
use Rattle.vcd_remarks.specs.inside.JointRises.{is_joint_rise}
use Rattle.vcd_remarks.specs.inside.LostLines.{loses_line_at}

-- before all events
abbrev pub no_events : BusWalk
no_events = record {
  in_transfer = false;
  bits = 0;
  cuts = found_ticks [];
  stray = found_ticks [];
  unstopped = found_ticks [];
}

-- after a condition at a tick
abbrev pub with_condition : BusWalk → ℕ → BusWalk
with_condition w t = record w {
  bits = 0;
  cuts = if is_cut_off w.in_transfer w.bits then with_tick w.cuts t else w.cuts;
}

-- after one more event
abbrev pub with_event : BusWalk → BusEvent → BusWalk
with_event w (events.Bit b) = record w {
  bits = min (w.bits + 1) (2 ^ 64 - 1);
  stray = if not w.in_transfer && nat_lt 0 w.bits then with_tick w.stray b.tick else w.stray;
}
with_event w (events.Start t) =
    record (with_condition w t) { in_transfer = true; unstopped = with_tick (found_ticks []) t }
with_event w (events.Stop t) =
    record (with_condition w t) { in_transfer = false; unstopped = found_ticks [] }

-- after several
unfoldable pub with_events : BusWalk → List BusEvent → BusWalk
with_events w [] = w
with_events w (e ∷ es) = with_events (with_event w e) es

-- after the event at an edge, if there is one
abbrev pub with_event_if : BusWalk → Option BusEvent → BusWalk
with_event_if w None = w
with_event_if w (Some e) = with_event w e

-- ---- edges

-- a finder after one more edge
abbrev pub with_edge : BusFinder → BitEdge → BusFinder
with_edge f e = record {
  scl_lost = with_edge_tick (loses_line_at Up 0) f.scl_lost e;
  sda_lost = with_edge_tick (loses_line_at Up 1) f.sda_lost e;
  events = with_event_if f.events (edge_event e);
  joint_rises = with_edge_tick is_joint_rise f.joint_rises e;
}

-- what will have been found after the edges to come
abbrev pub bus_findings_left : BusFinder → List BitEdge → List Finding
bus_findings_left f es =
    let events = with_events f.events (edge_events es) in
    finding_at kinds.SclLost (found_left (loses_line_at Up 0) f.scl_lost es)
    ∷ finding_at kinds.SdaLost (found_left (loses_line_at Up 1) f.sda_lost es)
    ∷ finding_at kinds.BusCuts events.cuts
    ∷ finding_at kinds.BusStray events.stray
    ∷ finding_at kinds.BusUnstopped events.unstopped
    ∷ finding_at kinds.BusJointRises (found_left is_joint_rise f.joint_rises es) ∷ []
