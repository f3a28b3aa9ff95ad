use Rattle.std.proofs.Common.{◌≡◌, ◌∙◌, ◌∷◌, [], ◌++◌, sym, ap, Some, refl}
use Rattle.std.specs.Prelude.{Ok, Err}
use Rattle.vcd_text.specs.Grammar.{ParseState}
use Rattle.vcd_copy.specs.Pieces.{piece_bytes, state_of_pieces}
use Rattle.vcd_copy.specs.Copied.{may_be_amended}
use Rattle.vcd_text.proofs.shared.EmittedParts.{writes_as, writes_both, writes_none}
use Rattle.vcd_part.specs.PartPieces.{comment_piece}
use Rattle.vcd_part.specs.inside.PartAmender.{window_of, refusal_of}
use Rattle.vcd_part.proofs.amender.Decided.{answer_in}
use Rattle.vcd_part.proofs.amender.Ended.{out_of_body, no_window_before, no_refusal_before, ended_bytes}
use Rattle.vcd_part.proofs.amender.Ended.{refused_end_bytes, end_seen, same_timescale}
use Rattle.vcd_part.proofs.amender.Comments.{counted_amended}
use Rattle.vcd_part.proofs.amender.Waiting.{seen_with, settled_out}
use Rattle.vcd_part.proofs.amender.PartAmender.end_declarations.Goals as goal

pub returns-in-Ok-clause-written : goal.returns-in-Ok-clause-written
returns-in-Ok-clause-written g c = λ limit before p depth code scopes seen taken.
    let m = c.args.self.now in
    let s : ParseState = state_of_pieces 0 before in
    let (is, depth_is, scale) = taken.shown.shows in
    let out = out_of_body limit before p _ _ taken.shown.next is in
    let settled = settled_out m.request limit before p _ _ taken.shown.next out in
    let answer : answer_in m.request s ≡ Ok c.in-Ok.window = sym (same_timescale limit m.request before c.args.timescale
    scale) ∙ sym (c.decide.ensures s.declared seen.known.noted) ∙ c.in-Ok.is in
    let sp = sym taken.shown.next.space_is in
    let bo = sym taken.shown.next.body_is in
    let noted = seen.known.noted in
    writes_as ((λ i. sp i ++ ((comment_piece c.in-Ok.window (noted.kept i) (noted.all i) p.space).body
    ++ ((10 ∷ []) ++ bo i))) ∙ ended_bytes m.request before p c.in-Ok.window is out answer
    ∙ ap piece_bytes (sym settled.written))
    (writes_both c.write_bytes.ensures.written (writes_both (c.write_comment.ensures p.space)
    (writes_both c.write_byte.ensures.written c.write_bytes-in-Ok.ensures.written)))

pub returns-in-Ok-clause-seen : goal.returns-in-Ok-clause-seen
returns-in-Ok-clause-seen g c = λ limit before p depth code scopes seen taken.
    let m = c.args.self.now in
    let s : ParseState = state_of_pieces 0 before in
    let (is, depth_is, scale) = taken.shown.shows in
    let out = out_of_body limit before p _ _ taken.shown.next is in
    let settled = settled_out m.request limit before p _ _ taken.shown.next out in
    let answer : answer_in m.request s ≡ Ok c.in-Ok.window = sym (same_timescale limit m.request before c.args.timescale
    scale) ∙ sym (c.decide.ensures s.declared seen.known.noted) ∙ c.in-Ok.is in
    seen_with (record m { window = Some c.in-Ok.window }) m.waiting before p _ refl
    (end_seen limit m before p _ _ (Some c.in-Ok.window) m.refusal seen.known taken.shown.next is
    (ap window_of (sym answer)) (no_refusal_before m before seen.known out ∙ ap refusal_of (sym answer)))
    (seen.waiting ∙ ap piece_bytes (settled.before_it ∙ sym settled.none))
    (counted_amended m.comments before p (ap may_be_amended is) seen.comments)

pub returns-in-Err-clause-written : goal.returns-in-Err-clause-written
returns-in-Err-clause-written g c = λ limit before p depth code scopes seen taken.
    let m = c.args.self.now in
    let s : ParseState = state_of_pieces 0 before in
    let (is, depth_is, scale) = taken.shown.shows in
    let out = out_of_body limit before p _ _ taken.shown.next is in
    let settled = settled_out m.request limit before p _ _ taken.shown.next out in
    let answer : answer_in m.request s ≡ Err c.in-Err.refusal = sym (same_timescale limit m.request before
    c.args.timescale scale) ∙ sym (c.decide.ensures s.declared seen.known.noted) ∙ c.in-Err.is in
    writes_as (refused_end_bytes m.request before p c.in-Err.refusal is out answer
    ∙ ap piece_bytes (sym settled.written)) writes_none

pub returns-in-Err-clause-seen : goal.returns-in-Err-clause-seen
returns-in-Err-clause-seen g c = λ limit before p depth code scopes seen taken.
    let m = c.args.self.now in
    let s : ParseState = state_of_pieces 0 before in
    let (is, depth_is, scale) = taken.shown.shows in
    let out = out_of_body limit before p _ _ taken.shown.next is in
    let settled = settled_out m.request limit before p _ _ taken.shown.next out in
    let answer : answer_in m.request s ≡ Err c.in-Err.refusal = sym (same_timescale limit m.request before
    c.args.timescale scale) ∙ sym (c.decide.ensures s.declared seen.known.noted) ∙ c.in-Err.is in
    seen_with (record m { refusal = Some c.in-Err.refusal }) m.waiting before p _ refl
    (end_seen limit m before p _ _ m.window (Some c.in-Err.refusal) seen.known taken.shown.next is
    (no_window_before m before seen.known out ∙ ap window_of (sym answer)) (ap refusal_of (sym answer)))
    (seen.waiting ∙ ap piece_bytes (settled.before_it ∙ sym settled.none))
    (counted_amended m.comments before p (ap may_be_amended is) seen.comments)
