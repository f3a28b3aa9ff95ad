use Rattle.std.proofs.Common.{map, ap, length, arith}
use Rattle.std.proofs.lemmas.Bool.{false≢true}
use Rattle.std.proofs.lemmas.List.{length-map}
use Rattle.vcd_core.specs.CaptureContents.{signal_contents}
use Rattle.vcd_edit.specs.Records.{piece_view}
use Rattle.vcd_edit.proofs.exchange.ExchangedPieces.{counts_kept}
use Rattle.vcd_edit.proofs.fitting.wave_pieces.pieces_fit.Goals as goal

pub returns-then-signals-gt-SIGNAL_LIMIT : goal.returns-then-signals-gt-SIGNAL_LIMIT
returns-then-signals-gt-SIGNAL_LIMIT c = λ d same.
    let count = counts_kept d (map piece_view c.args.pieces.now) in
    let size = length-map c.args.signals.now signal_contents in (
      (λ t. absurd (false≢true t)),
      (λ fit. absurd (omega (arith, c.if-signals-gt-SIGNAL_LIMIT.true, fit.1.0, count, ap length same, size))),
    )

pub returns : goal.returns
returns c = λ d same.
    let count = counts_kept d (map piece_view c.args.pieces.now) in
    let size = length-map c.args.signals.now signal_contents in
    let told = c.are_sound_with.ensures d same in (
      (λ yes. let fit = told.0 yes in
          (fit.0, (omega (arith, c.if-signals-gt-SIGNAL_LIMIT.false, count, ap length same, size), fit.1))),
      (λ fit. told.1 (fit.0, fit.1.1)),
    )
