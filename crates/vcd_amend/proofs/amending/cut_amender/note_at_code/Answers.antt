use Rattle.std.proofs.Common.{◌∙◌, ◌||◌, ◌&&◌, ◌==◌, not, nat_lt, ap, Bool}
use Rattle.std.specs.Prelude.{bytes_eq, codes}
use Rattle.vcd_core.specs.Decimal.{is_number, number_of}
use Rattle.vcd_core.specs.Word.{is_skipped_kind}
use Rattle.vcd_core.specs.declared.value.TheConstants.{WIDTH_LIMIT}
use Rattle.vcd_text.specs.inside.reading.CodeTargets.{code_target}
use Rattle.vcd_amend.proofs.amending.cut_amender.note_at_code.Goals as goal

pub returns-clause-lasts : goal.returns-clause-lasts
returns-clause-lasts c = λ kind size code names is key.
    let (k, z, co, later) = c.in-Some.ensures kind size code names is in
    c.in_ok-note_code.ensures.lasts key
    ∙ ap (λ (e : Bool). (code_target c.args.variables.now key).lasts
    || (bytes_eq key c.in-Some.declared.code.now && not e)) c.is_event-lasts.ensures
    ∙ (λ i. (code_target c.args.variables.now key).lasts || (bytes_eq key (co i) && not (bytes_eq (k i) (codes
    "event"))))

pub returns-clause-kept : goal.returns-clause-kept
returns-clause-kept c = λ kind size code names is number key.
    let (k, z, co, later) = c.in-Some.ensures kind size code names is in
    c.in_ok-note_code.ensures.kept key
    ∙ ap (λ (e : Bool). (code_target c.args.variables.now key).is_kept
    || (bytes_eq key c.in-Some.declared.code.now && not e)) (c.is_skipped-is_kept.ensures (ap is_number z ∙ number))
    ∙ (λ i. (code_target c.args.variables.now key).is_kept || (bytes_eq key (co i) && not (is_skipped_kind (k i)
    || (number_of (z i) == 0 || nat_lt WIDTH_LIMIT (number_of (z i))))))
