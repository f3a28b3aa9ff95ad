use Rattle.std.proofs.Common.{◌≡◌, ◌-◌, ℤ, refl, pos, sym, ap, ◌∙◌, arith}
use Rattle.std.specs.Prelude.{neg_ℤ}
use Rattle.std.specs.Int.{w64}
use Rattle.std.proofs.lemmas.Int.{ints, to_z-of_z}
use Rattle.vcd_core.specs.Contents.{SignalContents}
use Rattle.vcd_core.specs.CaptureContents.{signal_contents}
use Rattle.vcd_edit.specs.Effect.{shift_value}
use Rattle.vcd_edit.proofs.plans.shift.ShiftPieces.{shift_to_last, shift_as_cut, gives_same}
use Rattle.vcd_edit.proofs.plans.shift.advance_piece.Goals as goal

pub returns-then-ticks-end : goal.returns-then-ticks-end
returns-then-ticks-end c =
    let s : SignalContents = signal_contents c.args.signal.now in
    let same : neg_ℤ (pos c.unsigned_abs-ticks.result) ≡ c.args.by =
    omega (arith, ints, c.requires.earlier, c.unsigned_abs-ticks.ensures.value, to_z-of_z w64 c.args.by c.ranges.by) in
    gives_same c.constant_piece.result c.args.position s c.args.end _ c.args.by (shift_value c.args.end c.args.by s)
    (shift_value c.args.end c.args.by s) (to_z-of_z w64 c.args.by c.ranges.by) (λ t. refl)
    (c.constant_piece.ensures c.args.end (shift_value c.args.end c.args.by s)
    (λ t to. ap (λ (by : ℤ). shift_value c.args.end by s t) (sym same)
    ∙ shift_to_last c.unsigned_abs-ticks.result c.args.end s c.requires.sound.ticks c.if-ticks-end.true t
    ∙ sym c.at-last.ensures))

pub returns : goal.returns
returns c =
    let s : SignalContents = signal_contents c.args.signal.now in
    let same : neg_ℤ (pos c.unsigned_abs-ticks.result) ≡ c.args.by =
    omega (arith, ints, c.requires.earlier, c.unsigned_abs-ticks.ensures.value, to_z-of_z w64 c.args.by c.ranges.by) in
    gives_same c.cut_piece.result c.args.position s c.args.end (neg_ℤ (pos (c.unsigned_abs-ticks.result - 0))) c.args.by
    _ _
    (ap (λ n. neg_ℤ (pos n)) {x = c.unsigned_abs-ticks.result - 0} {y = c.unsigned_abs-ticks.result} (omega arith)
    ∙ same)
    (λ t. shift_as_cut c.unsigned_abs-ticks.result c.args.end s c.requires.sound.ticks t
    ∙ ap (λ (by : ℤ). shift_value c.args.end by s t) same)
    (c.cut_piece.ensures c.args.end c.args.end c.requires.sound (omega arith) (omega arith)
    (omega (arith, c.requires.end)))
