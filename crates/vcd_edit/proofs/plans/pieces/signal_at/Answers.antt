use Rattle.std.proofs.Common.{◌<◌, length, arith}
use Rattle.std.proofs.lemmas.List.{length-map}
use Rattle.vcd_core.specs.CaptureContents.{signal_contents}
use Rattle.vcd_edit.proofs.exchange.ExchangedPieces.{contents_at}
use Rattle.vcd_edit.proofs.plans.EffectOfRecord.{there, sound_here}
use Rattle.vcd_edit.proofs.plans.pieces.signal_at.Goals as goal

pub bounds-signals-position : goal.bounds-signals-position
bounds-signals-position c = rw (c.signals.ensures) (there c.args.capture.now c.args.position c.requires.position_exists)

pub returns : goal.returns
returns c =
    let within : c.args.position < length c.args.capture.now.signals =
    there c.args.capture.now c.args.position c.requires.position_exists in
    let here = rw (c.signals.ensures) at c.index-signals-position.is in
    record {
      signal = contents_at c.args.capture.now.signals c.args.position c.index-signals-position.result within here;
      sound = sound_here c.args.capture.now c.args.position c.index-signals-position.result c.requires.sound within
          here;
      within = omega (arith, within, length-map c.args.capture.now.signals signal_contents);
    }
