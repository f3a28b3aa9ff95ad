-- What is left to find of the lines of a bus: of all edges, and after one more.
use Rattle.std.proofs.Common.{◌≡◌, ℕ, ◌<◌, ◌^◌, false, List, [], ◌∷◌, length, refl, ap, ◌∙◌, arith}
use Rattle.vcd_core.specs.declared.bit_edges.BitEdge.{BitEdge}
use Rattle.vcd_core.specs.Contents.{SignalContents}
use Rattle.vcd_decode.specs.BusEvents.{bus_events}
use Rattle.vcd_decode.specs.LineEdges.{AreEdgesOf}
use Rattle.vcd_decode.specs.inside.i2c_bus.BusWalk.{edge_event, edge_events}
use Rattle.vcd_decode.proofs.shared.EventByEvent.{bus_lines, events_are}
use Rattle.vcd_decode.proofs.shared.EventsOfTicks.{events_are_few}
use Rattle.vcd_remarks.specs.declared.bus_finder.BusFinder.{BusFinder}
use Rattle.vcd_remarks.specs.declared.findings.finding_kind.FindingKind.TheVariants as kinds
use Rattle.vcd_remarks.specs.declared.lost_lines.Pull.TheVariants.{Up}
use Rattle.vcd_remarks.specs.BusFindings.{cutting_conditions, stray_bits, open_start, has_joint_rise}
use Rattle.vcd_remarks.specs.DecoderFindings.{bit_line, bus_findings}
use Rattle.vcd_remarks.specs.FoundTicks.{found_ticks}
use Rattle.vcd_remarks.specs.LostLines.{becomes_lost}
use Rattle.vcd_remarks.specs.inside.BusFindings.{no_events, with_edge, bus_findings_left}
use Rattle.vcd_remarks.specs.inside.FoundTicks.{finding_at}
use Rattle.vcd_remarks.specs.inside.JointRises.{is_joint_rise}
use Rattle.vcd_remarks.specs.inside.LostLines.{loses_line_at}
use Rattle.vcd_remarks.proofs.bus_findings.EventsWalked.{all_cuts, all_stray, all_unstopped, event_walked}
use Rattle.vcd_remarks.proofs.joint_rises.JointEdges.{no_joint_rise}
use Rattle.vcd_remarks.proofs.lost_lines.LostEdges.{not_lost_at}
use Rattle.vcd_remarks.proofs.shared.FoundSoFar.{found_at_ticks, edge_found}

-- before the first edge
abbrev pub new_finder : BusFinder
new_finder = record {
  scl_lost = found_ticks [];
  sda_lost = found_ticks [];
  events = no_events;
  joint_rises = found_ticks [];
}

module _ (scl sda : SignalContents) (end : ℕ) (edges : List BitEdge) (fits : end < 2 ^ 64)
    (are : AreEdgesOf (bus_lines (bit_line scl) (bit_line sda)) end edges) where
  same_events : edge_events edges ≡ bus_events (bit_line scl) (bit_line sda) end
  same_events = events_are (bit_line scl) (bit_line sda) end edges are

  few : length (edge_events edges) < 2 ^ 64
  few = omega (arith, fits, ap length same_events, events_are_few (bit_line scl) (bit_line sda) end)

  pub bus_found : bus_findings_left new_finder edges ≡ bus_findings end scl sda
  bus_found =
      let lines = bus_lines (bit_line scl) (bit_line sda) in
      let scl_lost = found_at_ticks lines end edges are (loses_line_at Up 0) (becomes_lost Up (bit_line scl))
      (λ t. refl) (not_lost_at Up 0) refl fits in
      let sda_lost = found_at_ticks lines end edges are (loses_line_at Up 1) (becomes_lost Up (bit_line sda))
      (λ t. refl) (not_lost_at Up 1) refl fits in
      let joint = found_at_ticks lines end edges are is_joint_rise (has_joint_rise (bit_line scl) (bit_line sda))
      (λ t. refl) no_joint_rise refl fits in
      let events = edge_events edges in
      let cuts = all_cuts events few ∙ ap (λ es. found_ticks (cutting_conditions false 0 es)) same_events in
      let stray = all_stray events few ∙ ap (λ es. found_ticks (stray_bits false 0 es)) same_events in
      let unstopped = all_unstopped events few ∙ ap (λ es. found_ticks (open_start [] es)) same_events in
      λ i. finding_at kinds.SclLost (scl_lost i) ∷ finding_at kinds.SdaLost (sda_lost i)
      ∷ finding_at kinds.BusCuts (cuts i) ∷ finding_at kinds.BusStray (stray i)
      ∷ finding_at kinds.BusUnstopped (unstopped i) ∷ finding_at kinds.BusJointRises (joint i) ∷ []

module _ (f : BusFinder) (e : BitEdge) (more : List BitEdge) where
  pub bus_edge_taken : bus_findings_left (with_edge f e) more ≡ bus_findings_left f (e ∷ more)
  bus_edge_taken =
      let scl_lost = edge_found (loses_line_at Up 0) f.scl_lost e more in
      let sda_lost = edge_found (loses_line_at Up 1) f.sda_lost e more in
      let events = event_walked f.events (edge_event e) (edge_events more) in
      let joint = edge_found is_joint_rise f.joint_rises e more in
      λ i. finding_at kinds.SclLost (scl_lost i) ∷ finding_at kinds.SdaLost (sda_lost i)
      ∷ finding_at kinds.BusCuts (events i).cuts ∷ finding_at kinds.BusStray (events i).stray
      ∷ finding_at kinds.BusUnstopped (events i).unstopped ∷ finding_at kinds.BusJointRises (joint i) ∷ []
