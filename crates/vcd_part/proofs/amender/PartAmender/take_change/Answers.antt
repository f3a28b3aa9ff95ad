use Rattle.std.proofs.Common.{◌∙◌, ◌∷◌, [], Bool, ℕ, List, sym, ap, subst, ◌<◌, length, if◌then◌else◌}
use Rattle.vcd_text.specs.Grammar.{ParseState}
use Rattle.vcd_copy.specs.Pieces.{state_of_pieces}
use Rattle.vcd_text.proofs.shared.EmittedParts.{writes_as, writes_none, more_none}
use Rattle.vcd_part.specs.inside.PartCopy.{waiting_stamp}
use Rattle.vcd_part.proofs.amender.States.{next_some}
use Rattle.vcd_part.proofs.amender.ChangeItems.{change_is}
use Rattle.vcd_part.proofs.amender.Written.{change_pieces, refused_change_pieces, early_change_pieces, change_passes}
use Rattle.vcd_part.proofs.amender.Written.{change_past_first, on_error}
use Rattle.vcd_part.proofs.amender.Comments.{counted_amended}
use Rattle.vcd_part.proofs.amender.Waiting.{seen_with, seen_without, bytes_without}
use Rattle.vcd_part.proofs.shared.PutPieces.{put_as}
use Rattle.vcd_part.proofs.amender.PartAmender.take_change.Goals as goal

pub returns-in_default-clause-written : goal.returns-in_default-clause-written
returns-in_default-clause-written g c = λ limit before p seen next is.
    let m = c.args.self.now in
    writes_as (sym (bytes_without m.request before p (refused_change_pieces limit m before p c.args.is_text
    c.args.ended.now.code.now _ _ seen.known next is c.in_default.is))) writes_none

pub returns-in_default-clause-seen : goal.returns-in_default-clause-seen
returns-in_default-clause-seen g c = λ limit before p seen next is.
    let m = c.args.self.now in
    let code = c.args.ended.now.code.now in
    seen_without m m.waiting before p
    (refused_change_pieces limit m before p c.args.is_text code _ _ seen.known next is c.in_default.is)
    (change_passes limit m m.codes before p c.args.is_text code _ _ seen.known next is seen.known.uses
    (λ w known up. absurd (c.in_default.not-Some w known))) seen.waiting
    (counted_amended m.comments before p (change_is p.item c.args.is_text code is).amended seen.comments)

pub returns-in_err-hold-clause-more : goal.returns-in_err-hold-clause-more
returns-in_err-hold-clause-more g c = on_error _ more_none

pub returns-then-is_up_to_first-clause-written : goal.returns-then-is_up_to_first-clause-written
returns-then-is_up_to_first-clause-written g c = λ limit before p seen next is.
    let m = c.args.self.now in
    writes_as (sym (bytes_without m.request before p (early_change_pieces m before p c.in-Some.window c.args.is_text
    c.args.ended.now.code.now seen.known is c.in-Some.is (sym c.is_up_to_first.ensures ∙ c.if-is_up_to_first.true))))
    writes_none

pub returns-then-is_up_to_first-clause-seen : goal.returns-then-is_up_to_first-clause-seen
returns-then-is_up_to_first-clause-seen g c = λ limit before p seen next is.
    let m = c.args.self.now in
    let s : ParseState = state_of_pieces 0 before in
    let known = seen.known in
    let code = c.args.ended.now.code.now in
    seen_without (record m { codes = c.hold.new.self }) m.waiting before p
    (early_change_pieces m before p c.in-Some.window c.args.is_text code known is c.in-Some.is
    (sym c.is_up_to_first.ensures ∙ c.if-is_up_to_first.true))
    (change_passes limit m c.hold.new.self before p c.args.is_text code _ _ known next is
    (c.in_ok-hold.ensures.uses m.request s.declared known.uses)
    (λ w window up. c.in_ok-hold.ensures.holds m.request s.declared before p known.uses (known.holds w window up) is
    next.body_is (subst (λ (l : List ℕ). 0 < length l) next.body_is (next_some limit before p _ _ next)))) seen.waiting
    (counted_amended m.comments before p (change_is p.item c.args.is_text code is).amended seen.comments)

pub returns-clause-written : goal.returns-clause-written
returns-clause-written g c = λ limit before p seen next is.
    let m = c.args.self.now in
    let code = c.args.ended.now.code.now in
    let stands = c.is_in_part-stands.ensures m.request (state_of_pieces 0 before).declared seen.known.uses in
    (put_as g.W.Sink _ _ _ _ _ _ (ap (λ (b : Bool). if b then p ∷ [] else []) stands
    ∙ sym (change_pieces m before p c.in-Some.window c.args.is_text code seen.known is c.in-Some.is))
    (c.write_change_if.ensures p (change_is p.item c.args.is_text code is).no_stamp next.space_is next.body_is)
    (waiting_stamp m.request before) seen.waiting).0

pub returns-clause-seen : goal.returns-clause-seen
returns-clause-seen g c = λ limit before p seen next is.
    let m = c.args.self.now in
    let code = c.args.ended.now.code.now in
    let stands = c.is_in_part-stands.ensures m.request (state_of_pieces 0 before).declared seen.known.uses in
    seen_with m c.write_change_if.new.waiting before p _
    (change_pieces m before p c.in-Some.window c.args.is_text code seen.known is c.in-Some.is
    ∙ ap (λ (b : Bool). if b then p ∷ [] else []) (sym stands))
    (change_past_first limit m before p c.in-Some.window c.args.is_text code _ _ seen.known next is c.in-Some.is
    (sym c.is_up_to_first.ensures ∙ c.if-is_up_to_first.false))
    (c.write_change_if.ensures p (change_is p.item c.args.is_text code is).no_stamp next.space_is next.body_is
    (waiting_stamp m.request before) seen.waiting).1
    (counted_amended m.comments before p (change_is p.item c.args.is_text code is).amended seen.comments)
