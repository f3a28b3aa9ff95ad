use Rattle.std.proofs.Common.{◌≡◌, ◌∙◌, ◌++◌, sym, ap, subst}
use Rattle.std.specs.Global.{Vec}
use Rattle.std.proofs.lemmas.Result.{on_ok_weaker, on_err_weaker}
use Rattle.vcd_copy.specs.Copied.{copied_pieces}
use Rattle.vcd_copy.specs.Pieces.{state_of_pieces}
use Rattle.vcd_text.proofs.shared.EmittedParts.{writes_as, writes_both, writes_more, more_both}
use Rattle.vcd_amend.specs.AmendmentContents.{amendment_contents}
use Rattle.vcd_amend.specs.AmendedCopy.{amendment_rules}
use Rattle.vcd_amend.specs.declared.amendment.Amendment.{Amendment}
use Rattle.vcd_amend.specs.declared.amending.held_changes.HeldChange.{HeldChange}
use Rattle.vcd_amend.specs.inside.amending.HeldChanges.{ArePieces, last_held, released}
use Rattle.vcd_amend.specs.inside.amending.CutAmender.{rules_of, sent_for, held_for, cut_of}
use Rattle.vcd_amend.specs.Retimed.{released_pieces}
use Rattle.vcd_amend.proofs.amending.CutPieces.{released_are}
use Rattle.vcd_amend.proofs.amending.cut_amender.CutAmenderAmender.finish.Goals as goal

pub finish-requires : goal.finish-requires
finish-requires g c =
    let (before, at) = c.requires in
    let m = c.args.self.now in
    let sent = sent_for (cut_of m) before in
    let held = held_for (cut_of m) before in (
      sent ++ released m.last.is_cut m.last.tick held,
      c.in_ok-release.ensures.seen sent held at.seen
          (subst (λ (v : Vec HeldChange). ArePieces (last_held v.items) held) (sym c.replace-held.ensures.value)
          at.holds)
          at.behind,
    )

pub returns-clause-more : goal.returns-clause-more
returns-clause-more g c =
    let (before, at) = c.requires in
    let m = c.args.self.now in
    let sent = sent_for (cut_of m) before in
    let held = held_for (cut_of m) before in
    on_err_weaker c.finish.result (λ more. more_both (writes_more (c.in_ok-release.ensures.written sent held at.seen
    (subst (λ (v : Vec HeldChange). ArePieces (last_held v.items) held) (sym c.replace-held.ensures.value) at.holds)
    at.behind)) more) c.finish.ensures.more

pub returns-clause-written : goal.returns-clause-written
returns-clause-written g c = on_ok_weaker c.finish.result (λ ends before at.
    let m = c.args.self.now in
    let cut = cut_of m in
    let sent = sent_for cut before in
    let held = held_for cut before in
    let last = released m.last.is_cut m.last.tick held in
    let are = subst (λ (v : Vec HeldChange). ArePieces (last_held v.items) held) (sym c.replace-held.ensures.value)
    at.holds in
    let is : last ≡ released_pieces cut (state_of_pieces 0 before) held =
    (λ i. released (at.is_cut i) (at.tick i) held) ∙ released_are cut (state_of_pieces 0 before) held in
    writes_as (ap (λ (x : Amendment). copied_pieces (rules_of m.inner) sent last
    ++ (amendment_rules (amendment_contents x) 0).at_end (sent ++ last) c.args.space.now) c.release.ensures.same
    ∙ ap (λ l. copied_pieces (rules_of m.inner) sent l ++ (rules_of m.inner).at_end (sent ++ l) c.args.space.now) is)
    (writes_both (c.in_ok-release.ensures.written sent held at.seen are at.behind)
    (ends (sent ++ last) (c.in_ok-release.ensures.seen sent held at.seen are at.behind)))) c.finish.ensures.written
