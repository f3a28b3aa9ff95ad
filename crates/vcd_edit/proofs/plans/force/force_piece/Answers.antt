use Rattle.std.proofs.Common.{ap, arith}
use Rattle.vcd_core.specs.Contents.{SignalContents}
use Rattle.vcd_core.specs.CaptureContents.{signal_contents}
use Rattle.vcd_edit.specs.RecordView.{PieceView}
use Rattle.vcd_edit.specs.Records.{piece_view}
use Rattle.vcd_edit.proofs.plans.Ranges.{force_to_end, force_before_end}
use Rattle.vcd_edit.proofs.plans.force.force_piece.Goals as goal

pub returns-then-to-end : goal.returns-then-to-end
returns-then-to-end c =
    let p : PieceView = piece_view c.piece_between.result in
    let s : SignalContents = signal_contents c.args.signal.now in
    let f = c.args.forced.now in
    record {
      signal = ap (λ (q : PieceView). q.signal) c.piece_between.ensures;
      offset = ap (λ (q : PieceView). q.by) c.piece_between.ensures;
      leads = force_to_end f.from f.to f.value s c.args.end c.requires.sound.wave c.requires.sound.ticks
          c.requires.end c.requires.not_empty p
          (ap (λ (q : PieceView). q.from) c.piece_between.ensures)
          (ap (λ (q : PieceView). q.by) c.piece_between.ensures)
          (omega (arith, c.requires.within)) (ap (λ (q : PieceView). q.to) c.piece_between.ensures)
          (cc (
            ap (λ (q : PieceView). q.changes) c.piece_between.ensures,
            c.in_ok-push_if_new.ensures.added,
            c.new-changes.ensures.items,
            c.value_just_before.ensures,
          ));
    }

pub returns : goal.returns
returns c =
    let p : PieceView = piece_view c.piece_between-2.result in
    let s : SignalContents = signal_contents c.args.signal.now in
    let f = c.args.forced.now in
    record {
      signal = ap (λ (q : PieceView). q.signal) c.piece_between-2.ensures;
      offset = ap (λ (q : PieceView). q.by) c.piece_between-2.ensures;
      leads = force_before_end f.from f.to f.value s c.args.end c.requires.sound.wave
          c.requires.sound.ticks c.requires.end c.requires.not_empty p
          (ap (λ (q : PieceView). q.from) c.piece_between-2.ensures)
          (ap (λ (q : PieceView). q.by) c.piece_between-2.ensures)
          (omega arith) (ap (λ (q : PieceView). q.to) c.piece_between-2.ensures)
          (cc (
            ap (λ (q : PieceView). q.changes) c.piece_between-2.ensures,
            c.in_ok-push_if_new.ensures.added,
            c.in_ok-push_if_new-2.ensures.added,
            c.new-changes.ensures.items,
            c.value_just_before.ensures,
            c.at.ensures,
          ));
    }
