use Rattle.std.proofs.Common.{arith}
use Rattle.std.proofs.lemmas.List.{length-map}
use Rattle.vcd_core.specs.CaptureContents.{signal_contents}
use Rattle.vcd_edit.proofs.fitting.FittingPieces.{refused, next_rises, next_piece_tells, last_tells}
use Rattle.vcd_edit.proofs.fitting.wave_pieces.are_sound_with.Goals as goal

pub are_sound_to-requires-clause-order : goal.are_sound_to-requires-clause-order
are_sound_to-requires-clause-order c =
    let l = c.loop-piece in
    (next_rises c.args.pieces.now l.piece-index l.next c.piece-item.result c.loop-piece-test.true c.piece-item.is
    l.invariant.rise).0

pub returns-then-not-are_sound_to : goal.returns-then-not-are_sound_to
returns-then-not-are_sound_to c = λ d same.
    let l = c.loop-piece in
    let next = next_piece_tells c.args.pieces.now l.piece-index l.next c.piece-item.result c.loop-piece-test.true
    c.piece-item.is l.invariant.rise c.args.end d _ same in
    refused c.are_sound_to.result _ c.if-not-are_sound_to.true
    (λ all. c.are_sound_to.ensures.1 (next.0 ((l.invariant.tells d same).1 all)).0)

pub loop-piece-preserved : goal.loop-piece-preserved
loop-piece-preserved c =
    let l = c.loop-piece in
    let x = c.piece-item.result in
    let to = c.are_sound_to.ensures.0 c.if-not-are_sound_to.false in
    record {
      within = omega (arith, to.0, length-map c.args.signals.now signal_contents);
      rise = (next_rises c.args.pieces.now l.piece-index l.next x c.loop-piece-test.true c.piece-item.is
          l.invariant.rise).1;
      tells = λ d same.
          let next = next_piece_tells c.args.pieces.now l.piece-index l.next x c.loop-piece-test.true c.piece-item.is
          l.invariant.rise c.args.end d _ same in
          let all = l.invariant.tells d same in
          ((λ left. all.0 (next.1 (to, left))), (λ whole. (next.0 (all.1 whole)).1));
    }

pub returns : goal.returns
returns c = λ d same.
    let l = c.loop-piece in
    let last = last_tells c.args.pieces.now l.piece-index l.next c.args.end d c.args.signals.now same
    c.loop-piece-test.false in
    let all = l.invariant.tells d same in
    ((λ yes. all.0 (last.0 (c.are_sound.ensures.0 yes))), (λ whole. c.are_sound.ensures.1 (last.1 (all.1 whole))))
