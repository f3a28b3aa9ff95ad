-- The cuts passed are made.
use Rattle.std.proofs.Common.{◌≡◌, ◌||◌, ◌+◌, ◌<◌, ℕ, drop}
use Rattle.vcd_amend.specs.Retimed.{new_tick}
use Rattle.vcd_amend.specs.RetimedCopy.{is_cut_by}
use Rattle.vcd_amend.specs.inside.CutTicks.{later}
use Rattle.vcd_amend.proofs.cut_ticks.retimed_tick.Given as goal

abbrev pub invariant-loop-cut : goal.invariant-loop-cut
invariant-loop-cut l = record {
  cut : (l.found.is_cut || is_cut_by (drop l.cut-index l.cuts) l.found.tick) ≡ is_cut_by l.cuts l.tick;
  tick : new_tick (is_cut_by (drop l.cut-index l.cuts)) l.found.tick ≡ new_tick (is_cut_by l.cuts) l.tick;
  cut_later : (more : ℕ) → more < l.ticks
      → (l.found.is_cut || is_cut_by (drop l.cut-index l.cuts) (later l.found more)) ≡ is_cut_by l.cuts (l.tick + more);
  tick_later : (more : ℕ) → more < l.ticks → new_tick (is_cut_by (drop l.cut-index l.cuts)) (later l.found more)
      ≡ new_tick (is_cut_by l.cuts) (l.tick + more);
}
