use Rattle.std.proofs.Common.{inl, inr, refl, sym, ◌∙◌, arith}
use Rattle.std.proofs.lemmas.Bool.{eqb-true}
use Rattle.std.proofs.lemmas.List.{nil_from_length}
use Rattle.std.specs.Vec.{with_item}
use Rattle.vcd_text.specs.declared.reading.log.LoggedChange.{LoggedChange}
use Rattle.vcd_text.proofs.reading.variables.ChangedVariable.{wave_late, refused, wide_changes, narrow_changes}
use Rattle.vcd_text.proofs.reading.variables.Variables.change_at.Goals as goal
use Rattle.vcd_text.proofs.shared.FailedResults.{err_is}

pub change_wave-requires : goal.change_wave-requires
change_wave-requires c =
    let (state, code, k, later, had) = c.requires.known in
    record {
      none_later = wave_late _ _ code c.args.change.now.digits.now _ _ k had _ _ c.index_mut.ensures.value later;
    }

pub returns-then-width-gt64-clause-changed : goal.returns-then-width-gt64-clause-changed
returns-then-width-gt64-clause-changed c = λ state code tick k had.
    let old = c.args.self.now in
    let digits = c.args.change.now.digits.now in
    let v = c.index_mut.result.now in
    wide_changes _ (with_item old.kept c.args.first c.change_wave.new.self) _ _ digits _ _ v c.change_wave.new.self
    c.change_wave.result k had c.index_mut.ensures.value (inl c.if-width-gt64.true) refl (rw tick
    c.change_wave.ensures.values) c.change_wave.ensures.refuses

pub returns-in_err-block-clause-changed : goal.returns-in_err-block-clause-changed
returns-in_err-block-clause-changed c = λ state code tick k had. rw (err_is _ c.from_residual.ensures.1) (inr (refused _
    _ _ _ _ _ k had _ c.in_err-block.ensures))

pub returns-clause-changed : goal.returns-clause-changed
returns-clause-changed c = λ state code tick k had.
    let e : LoggedChange =
    record { tick = c.args.change.now.tick; position = c.args.first; block = c.in_ok-block.block } in
    narrow_changes c.args.self.now c.append.new.groups state code c.args.change.now.digits.now c.args.width c.args.first
    e k had (omega (arith, c.if-width-gt64.false)) (sym tick) refl c.in_ok-block.ensures c.in_ok-append.ensures.grouped
    c.in_ok-append.ensures.appended tt

pub change_wave-requires-then-is_empty : goal.change_wave-requires-then-is_empty
change_wave-requires-then-is_empty c =
    let (state, code, k, later, had) = c.requires.known in
    record {
      none_later = wave_late _ _ code c.args.change.now.digits.now _ _ k had _ _
          c.index_mut-then-is_empty.ensures.value later;
    }

pub returns-then-is_empty-clause-changed : goal.returns-then-is_empty-clause-changed
returns-then-is_empty-clause-changed c = λ state code tick k had.
    let old = c.args.self.now in
    let digits = c.args.change.now.digits.now in
    let v = c.index_mut-then-is_empty.result.now in
    wide_changes _ (with_item old.kept c.args.first c.change_wave-then-is_empty.new.self) _ _ digits _ _ v
    c.change_wave-then-is_empty.new.self c.change_wave-then-is_empty.result k had
    c.index_mut-then-is_empty.ensures.value (inr (nil_from_length old.log.items (omega (
      arith,
      eqb-true old.log.len 0 (sym c.is_empty.ensures ∙ c.if-is_empty.true),
      old.log.ok.0,
    )))) refl (rw tick c.change_wave-then-is_empty.ensures.values) c.change_wave-then-is_empty.ensures.refuses
