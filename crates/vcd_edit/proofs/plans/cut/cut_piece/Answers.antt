use Rattle.std.proofs.Common.{◌+◌, ◌-◌, suc, pos, refl, ap, ◌∙◌, arith}
use Rattle.std.specs.Prelude.{neg_ℤ}
use Rattle.std.proofs.lemmas.Int.{ints, to_z-of_z}
use Rattle.std.specs.Int.{w64}
use Rattle.vcd_core.specs.Wave.{value_at}
use Rattle.vcd_core.specs.CaptureContents.{signal_contents}
use Rattle.vcd_edit.specs.inside.plans.Ranges.{value_just_before}
use Rattle.vcd_edit.proofs.plans.Ranges.{last_before_tick}
use Rattle.vcd_edit.proofs.plans.CutPieces.{cut_leads}
use Rattle.vcd_edit.proofs.plans.cut.cut_piece.Goals as goal

pub returns : goal.returns
returns c = λ end stop sound long there small.
    let s = signal_contents c.args.signal.now in
    let from = c.args.from in
    let to = c.args.to in
    let before = last_before_tick s.width end from (end + 1) c.count_until-first.result s.changes sound.wave sound.ticks
    (omega arith) c.count_until-first.ensures in
    let value = last_before_tick s.width end (to + 1) (end + 1) c.count_until-last.result s.changes sound.wave
    sound.ticks (omega arith) c.count_until-last.ensures
    ∙ ap (value_just_before s.width (value_at s.width s.changes)) {x = to + 1} {y = suc to} (omega arith) in
    record {
      signal = refl;
      offset = to_z-of_z w64 c.negative_offset.result (record { sfits = c.negative_offset.type_inv })
          ∙ c.negative_offset.ensures;
      leads = cut_leads from to end stop s sound.wave sound.ticks c.requires.not_empty long there small _
          (neg_ℤ (pos (to - from))) (omega (arith, ints, c.requires.not_empty))
          c.count_until-first.ensures c.count_until-last.ensures
          (to_z-of_z w64 c.negative_offset.result (record { sfits = c.negative_offset.type_inv })
          ∙ c.negative_offset.ensures) (cc (
            c.in_ok-push_if_new.ensures.added,
            c.new-changes.ensures.items,
            c.value_after-before.ensures,
            before,
            c.value_after.ensures,
            value,
          ));
    }
