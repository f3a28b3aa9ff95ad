use Rattle.std.proofs.Common.{◌∙◌, sym, ap, nat_le}
use Rattle.std.specs.List.{count_by}
use Rattle.vcd_stream.specs.CompactWaveView.{CompactWaveView}
use Rattle.vcd_stream.proofs.compact_wave.PartsOfChanges.{ticks_made, ticks_stay, index_counts}
use Rattle.vcd_stream.proofs.compact_wave.CompactWave.count_through_near.Goals as goal

pub count_through_near-requires : goal.count_through_near-requires
count_through_near-requires c =
    ticks_stay c.self.inside.width _ c.self.invariant.4 _
    (ticks_made _ _ c.self.invariant.3 ∙ sym c.as_slice.ensures.value)

pub returns : goal.returns
returns c =
    let found = c.count_through_near.ensures in
    index_counts c.self.inside.width _ c.self.invariant.4 _
    (ticks_made _ _ c.self.invariant.3 ∙ sym c.as_slice.ensures.value) c.args.tick c.count_through_near.result
    found.within found.early found.late
    ∙ ap (λ (w : CompactWaveView). count_by (λ x. nat_le x.tick c.args.tick) w.changes) c.self.view_is
