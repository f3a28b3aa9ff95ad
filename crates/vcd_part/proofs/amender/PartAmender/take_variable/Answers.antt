use Rattle.std.proofs.Common.{◌∙◌, ap, sym, refl}
use Rattle.vcd_core.specs.Decimal.{is_number, number_of}
use Rattle.vcd_copy.specs.Pieces.{piece_bytes, state_of_pieces}
use Rattle.vcd_text.specs.Grammar.{ParseState}
use Rattle.vcd_copy.specs.Copied.{may_be_amended}
use Rattle.vcd_text.proofs.shared.EmittedParts.{writes_as, more_none}
use Rattle.vcd_part.proofs.amender.NextVariable.{words_next, declared_by, same_scopes, variable_bytes, variable_seen}
use Rattle.vcd_part.proofs.amender.NextVariable.{before_body}
use Rattle.vcd_part.proofs.amender.Written.{on_error}
use Rattle.vcd_part.proofs.amender.Comments.{counted_amended}
use Rattle.vcd_part.proofs.amender.Waiting.{seen_with, settled_out}
use Rattle.vcd_part.proofs.amender.PartAmender.take_variable.Goals as goal

pub returns-in_default-clause-written : goal.returns-in_default-clause-written
returns-in_default-clause-written g c = λ limit before p code seen taken.
    let v = words_next limit before p code _ _ _ taken in
    absurd (c.in_default.ensures v.kind v.size v.code v.names v.is_variable)

pub returns-in_default-clause-seen : goal.returns-in_default-clause-seen
returns-in_default-clause-seen g c = λ limit before p code seen taken.
    let v = words_next limit before p code _ _ _ taken in
    absurd (c.in_default.ensures v.kind v.size v.code v.names v.is_variable)

pub returns-in_err-is_kept-clause-more : goal.returns-in_err-is_kept-clause-more
returns-in_err-is_kept-clause-more g c = on_error c.from_residual.result more_none

pub returns-in_err-note_variable-clause-more : goal.returns-in_err-note_variable-clause-more
returns-in_err-note_variable-clause-more g c = on_error c.from_residual-in_err-note_variable.result more_none

pub returns-clause-written : goal.returns-clause-written
returns-clause-written g c = λ limit before p code seen taken.
    let m = c.args.self.now in
    let s : ParseState = state_of_pieces 0 before in
    let v = words_next limit before p code _ _ _ taken in
    let d = declared_by s v in
    let (k, z, co, later) = c.in-Some.ensures v.kind v.size v.code v.names v.is_variable in
    let settled = settled_out m.request limit before p _ _ taken.shown.next
    (before_body limit before p code _ _ _ taken) in
    writes_as (variable_bytes limit before p code _ _ _ taken v m.request c.in_ok-is_kept.is_kept
    (c.in_ok-is_kept.ensures.kept m.request s.declared d seen.known.noted (same_scopes limit before p code _ _ _ taken)
    later) ∙ ap piece_bytes (sym settled.written)) c.write_if.ensures

pub returns-clause-seen : goal.returns-clause-seen
returns-clause-seen g c = λ limit before p code seen taken.
    let m = c.args.self.now in
    let s : ParseState = state_of_pieces 0 before in
    let known = seen.known in
    let v = words_next limit before p code _ _ _ taken in
    let d = declared_by s v in
    let (k, z, co, later) = c.in-Some.ensures v.kind v.size v.code v.names v.is_variable in
    let scopes = same_scopes limit before p code _ _ _ taken in
    let kept = c.in_ok-is_kept.ensures.kept m.request s.declared d known.noted scopes later in
    let settled = settled_out m.request limit before p _ _ taken.shown.next
    (before_body limit before p code _ _ _ taken) in
    seen_with (record m { choice = c.note.new.self; codes = c.note_variable.new.self }) m.waiting before p _ refl
    (variable_seen limit before p code _ _ _ taken v m c.note.new.self c.note_variable.new.self known
    (c.in_ok-is_kept.ensures.noted m.request s.declared d known.noted scopes k (sym co) later)
    (c.in_ok-note_variable.ensures.uses m.request s.declared d known.uses k (ap is_number z ∙ v.number)
    (ap number_of z) co kept)
    (λ out. c.in_ok-note_variable.ensures.none m.request s.declared d known.uses k co kept (known.holds_none out)))
    (seen.waiting ∙ ap piece_bytes (settled.before_it ∙ sym settled.none))
    (counted_amended m.comments before p (ap may_be_amended v.item_is) seen.comments)
