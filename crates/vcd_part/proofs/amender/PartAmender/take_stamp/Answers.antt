use Rattle.std.proofs.Common.{◌≡◌, ◌∙◌, [], sym, ap}
use Rattle.std.specs.Prelude.{Ok, Err}
use Rattle.std.proofs.lemmas.Bool.{and_parts}
use Rattle.std.proofs.lemmas.Result.{on_ok_weaker, on_err_weaker}
use Rattle.vcd_text.specs.Items.{Item}
use Rattle.vcd_text.specs.Grammar.{ParseState}
use Rattle.vcd_copy.specs.Pieces.{state_of_pieces}
use Rattle.vcd_copy.specs.Copied.{may_be_amended}
use Rattle.vcd_text.proofs.shared.EmittedParts.{writes_as, writes_none, more_both}
use Rattle.vcd_part.specs.PartPieces.{body_in_part, is_up_to_first, pieces_of_step, stamp_pieces}
use Rattle.vcd_part.specs.inside.PartCopy.{waiting_stamp}
use Rattle.vcd_part.proofs.amender.States.{stamp_in_body}
use Rattle.vcd_part.proofs.amender.Steps.{stamp_seen}
use Rattle.vcd_part.proofs.amender.StampPieces.{stamp_put}
use Rattle.vcd_part.proofs.amender.Decided.{answer_with_window, answer_without_window, window_means_body}
use Rattle.vcd_part.proofs.amender.Decided.{pieces_in_body, stamp_pieces_are}
use Rattle.vcd_part.proofs.amender.Comments.{counted_amended}
use Rattle.vcd_part.proofs.amender.Waiting.{seen_with, seen_without, bytes_without}
use Rattle.vcd_part.proofs.shared.PutPieces.{put_as}
use Rattle.vcd_part.proofs.amender.PartAmender.take_stamp.Goals as goal

pub returns-in_default-clause-written : goal.returns-in_default-clause-written
returns-in_default-clause-written g c = λ limit before p code scopes seen taken.
    let m = c.args.self.now in
    let s : ParseState = state_of_pieces 0 before in
    let (digits, is, number) = taken.shown.shows in
    let body = stamp_in_body limit before p _ _ digits taken.shown.next is in
    let (refusal, answer) = answer_without_window m before s seen.known body c.in_default.is in
    let none : pieces_of_step m.request before p ≡ [] =
    pieces_in_body m.request before p (ap may_be_amended is) body (Err refusal) answer
    ∙ ap (λ (i : Item). body_in_part m.request s before p i (Err refusal)) is in
    writes_as (sym (bytes_without m.request before p none)) writes_none

pub returns-in_default-clause-seen : goal.returns-in_default-clause-seen
returns-in_default-clause-seen g c = λ limit before p code scopes seen taken.
    let m = c.args.self.now in
    let s : ParseState = state_of_pieces 0 before in
    let (digits, is, number) = taken.shown.shows in
    let body = stamp_in_body limit before p _ _ digits taken.shown.next is in
    let (refusal, answer) = answer_without_window m before s seen.known body c.in_default.is in
    let none : pieces_of_step m.request before p ≡ [] =
    pieces_in_body m.request before p (ap may_be_amended is) body (Err refusal) answer
    ∙ ap (λ (i : Item). body_in_part m.request s before p i (Err refusal)) is in
    seen_without (record m { tick = c.args.tick }) m.waiting before p none
    (stamp_seen limit m before p c.args.tick _ _ seen.known taken.shown.next taken.shown.shows) seen.waiting
    (counted_amended m.comments before p (ap may_be_amended is) seen.comments)

pub returns-clause-written : goal.returns-clause-written
returns-clause-written g c = on_ok_weaker c.put_stamp.result (λ put limit before p code scopes seen taken.
    let m = c.args.self.now in
    let s : ParseState = state_of_pieces 0 before in
    let w = c.in-Some.window in
    let tick = c.args.tick in
    let (digits, is, number) = taken.shown.shows in
    let next = taken.shown.next in
    let same = seen.known.tick in
    let due = c.is_past_first-is_due.ensures in
    let pieces : pieces_of_step m.request before p ≡ stamp_pieces m.request w s before p tick =
    pieces_in_body m.request before p (ap may_be_amended is)
    (window_means_body m before s w seen.known c.in-Some.is) (Ok w)
    (answer_with_window m before s w seen.known c.in-Some.is)
    ∙ stamp_pieces_are m.request s before p w digits tick p.item is number in
    let first = c.write_first_if.ensures.put m.request s.declared before
    (λ is_due. seen.known.holds w c.in-Some.is
    (ap (is_up_to_first w) (sym same) ∙ (and_parts _ _ (sym due ∙ is_due)).0)) in
    (put_as g.W.Sink _ _ _ _ _ _ (sym pieces) (stamp_put g.W.Sink _ _ _ _ _ _ m.request s before p w m.tick tick _ same
    due first (put p digits is (sym number) next.space_is next.body_is)) (waiting_stamp m.request before)
    seen.waiting).0) c.put_stamp.ensures.put

pub returns-clause-seen : goal.returns-clause-seen
returns-clause-seen g c = on_ok_weaker c.put_stamp.result (λ put limit before p code scopes seen taken.
    let m = c.args.self.now in
    let s : ParseState = state_of_pieces 0 before in
    let w = c.in-Some.window in
    let tick = c.args.tick in
    let (digits, is, number) = taken.shown.shows in
    let next = taken.shown.next in
    let same = seen.known.tick in
    let due = c.is_past_first-is_due.ensures in
    let pieces : pieces_of_step m.request before p ≡ stamp_pieces m.request w s before p tick =
    pieces_in_body m.request before p (ap may_be_amended is)
    (window_means_body m before s w seen.known c.in-Some.is) (Ok w)
    (answer_with_window m before s w seen.known c.in-Some.is)
    ∙ stamp_pieces_are m.request s before p w digits tick p.item is number in
    let first = c.write_first_if.ensures.put m.request s.declared before
    (λ is_due. seen.known.holds w c.in-Some.is
    (ap (is_up_to_first w) (sym same) ∙ (and_parts _ _ (sym due ∙ is_due)).0)) in
    seen_with (record m { tick = tick }) c.put_stamp.new.waiting before p _ pieces
    (stamp_seen limit m before p tick _ _ seen.known next taken.shown.shows)
    (stamp_put g.W.Sink _ _ _ _ _ _ m.request s before p w m.tick tick _ same due first
    (put p digits is (sym number) next.space_is next.body_is) (waiting_stamp m.request before) seen.waiting).1
    (counted_amended m.comments before p (ap may_be_amended is) seen.comments))
    c.put_stamp.ensures.put

pub returns-clause-more : goal.returns-clause-more
returns-clause-more g c =
    on_err_weaker c.put_stamp.result (λ more. more_both c.write_first_if.ensures.more more) c.put_stamp.ensures.more
