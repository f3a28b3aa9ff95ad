use Rattle.std.proofs.Common.{◌∙◌, ◌++◌, ◌∷◌, [], Bool, ◌&&◌, sym, ap, subst, if◌then◌else◌, not}
use Rattle.std.specs.List.{filter}
use Rattle.vcd_amend.specs.Retimed.{change_key, counts_with, has_kept_variable}
use Rattle.vcd_amend.specs.inside.amending.HeldChanges.{last_held, ArePieces, key_of}
use Rattle.std.proofs.lemmas.List.{append-nil}
use Rattle.vcd_copy.specs.Copied.{copied_pieces}
use Rattle.vcd_copy.specs.Pieces.{state_of_pieces}
use Rattle.vcd_amend.specs.declared.amending.cut_amender.CodeVariables.{CodeVariables}
use Rattle.vcd_text.proofs.shared.EmittedParts.{writes_as, writes_none, more_none}
use Rattle.vcd_amend.specs.inside.amending.FileAmender.{HasSeen}
use Rattle.vcd_amend.specs.inside.amending.CutAmender.{rules_of, sent_for, held_for, cut_of}
use Rattle.vcd_amend.proofs.amending.CutPieces.{on_error}
use Rattle.vcd_amend.proofs.amending.CutSteps.{change_step, change_seen}
use Rattle.vcd_amend.proofs.amending.cut_amender.CutAmender.take_change.Goals as goal

pub put_change-requires : goal.put_change-requires
put_change-requires g c = let (before, at) = c.requires in (sent_for (cut_of c.args.self.now) before, at.seen)

pub returns-in_err-hold-clause-more : goal.returns-in_err-hold-clause-more
returns-in_err-hold-clause-more g c = on_error c.from_residual.result more_none

pub returns-then-self-clause-written : goal.returns-then-self-clause-written
unfolding copied_pieces
returns-then-self-clause-written g c = λ before p at here.
    let m = c.args.self.now in
    let e = c.args.change in
    let step_is = change_step m before at p e.is_text e.code.now e.space.now e.body.now here
    ∙ ap (λ (b : Bool). if b then [] else p ∷ []) c.if-self.true in
    writes_as (sym (ap (copied_pieces (rules_of m.inner) (sent_for (cut_of m) before)) step_is)) writes_none

pub returns-then-self-clause-at : goal.returns-then-self-clause-at
returns-then-self-clause-at g c = λ before p at here.
    let m = c.args.self.now in
    let e = c.args.change in
    let sent = sent_for (cut_of m) before in
    change_seen m before at p e.is_text e.code.now e.space.now e.body.now here m.inner _ _
    (subst (λ (b : Bool). HasSeen m.inner (sent ++ (if b then [] else p ∷ []))) (sym c.if-self.true)
    (subst (HasSeen m.inner) (sym (append-nil sent)) at.seen))
    (subst (λ (b : Bool). ArePieces (last_held c.hold.new.held.items)
    (filter (λ q. not (counts_with (has_kept_variable (state_of_pieces 0 before)) (key_of e.is_text
    e.code.now) (change_key q.item))) (held_for (cut_of m) before)
    ++ (if b then p ∷ [] else [])))
    (c.is_held.ensures ∙ ap (λ (v : CodeVariables). m.last.is_cut && v.lasts) c.get-variables.ensures)
    (c.in_ok-hold.ensures (has_kept_variable (state_of_pieces 0 before)) (held_for (cut_of m) before) p
    (sym (ap (λ (v : CodeVariables). v.is_kept) c.get-variables.ensures ∙ at.kept e.code.now)) at.holds here))

pub returns-clause-written : goal.returns-clause-written
returns-clause-written g c = λ before p at here.
    let m = c.args.self.now in
    let e = c.args.change in
    let sent = sent_for (cut_of m) before in
    let step_is = change_step m before at p e.is_text e.code.now e.space.now e.body.now here
    ∙ ap (λ (b : Bool). if b then [] else p ∷ []) c.if-self.false in
    writes_as (sym (ap (copied_pieces (rules_of m.inner) sent) step_is))
    (c.put_change.ensures.written sent p at.seen here)

pub returns-clause-at : goal.returns-clause-at
returns-clause-at g c = λ before p at here.
    let m = c.args.self.now in
    let e = c.args.change in
    let sent = sent_for (cut_of m) before in
    change_seen m before at p e.is_text e.code.now e.space.now e.body.now here _ _ _
    (subst (λ (b : Bool). HasSeen c.put_change.new.inner (sent ++ (if b then [] else p ∷ []))) (sym c.if-self.false)
    (c.put_change.ensures.seen sent p at.seen here))
    (subst (λ (b : Bool). ArePieces (last_held c.hold.new.held.items)
    (filter (λ q. not (counts_with (has_kept_variable (state_of_pieces 0 before)) (key_of e.is_text
    e.code.now) (change_key q.item))) (held_for (cut_of m) before)
    ++ (if b then p ∷ [] else [])))
    (c.is_held.ensures ∙ ap (λ (v : CodeVariables). m.last.is_cut && v.lasts) c.get-variables.ensures)
    (c.in_ok-hold.ensures (has_kept_variable (state_of_pieces 0 before)) (held_for (cut_of m) before) p
    (sym (ap (λ (v : CodeVariables). v.is_kept) c.get-variables.ensures ∙ at.kept e.code.now)) at.holds here))
