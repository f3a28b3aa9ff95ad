use Rattle.std.proofs.Common.{◌∙◌, sym, ap, map}
use Rattle.vcd_core.specs.declared.wave.Change.{Change}
use Rattle.vcd_stream.specs.CompactWaveView.{CompactWaveView}
use Rattle.vcd_stream.proofs.compact_wave.PartsOfChanges.{ticks_made}
use Rattle.vcd_stream.proofs.compact_wave.CompactWave.ticks.Goals as goal

pub returns-clause-ticks : goal.returns-clause-ticks
returns-clause-ticks c =
    c.as_slice.ensures.value ∙ sym (ticks_made _ _ c.self.invariant.3)
    ∙ ap (λ (w : CompactWaveView). map (λ (x : Change). x.tick) w.changes) c.self.view_is
