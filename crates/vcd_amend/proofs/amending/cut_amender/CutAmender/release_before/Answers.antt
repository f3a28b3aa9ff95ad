use Rattle.std.proofs.Common.{◌∙◌, [], Bool, sym, ap, subst, if◌then◌else◌, arith}
use Rattle.std.specs.Global.{Vec}
use Rattle.std.proofs.lemmas.Bool.{le-ltb}
use Rattle.vcd_copy.specs.Copied.{copied_pieces}
use Rattle.vcd_text.proofs.shared.EmittedParts.{writes_as, writes_none}
use Rattle.vcd_amend.specs.declared.amending.held_changes.HeldChange.{HeldChange}
use Rattle.vcd_amend.specs.inside.amending.HeldChanges.{ArePieces, last_held, released}
use Rattle.vcd_amend.specs.inside.amending.CutAmender.{rules_of, sent_for, held_for, cut_of}
use Rattle.vcd_amend.proofs.amending.CutSteps.{released_past}
use Rattle.vcd_amend.proofs.amending.cut_amender.CutAmender.release_before.Goals as goal

pub returns-then-self-tick-clause-written : goal.returns-then-self-tick-clause-written
unfolding copied_pieces
returns-then-self-tick-clause-written g c = λ before at.
    let m = c.args.self.now in
    writes_as (sym (ap (λ (b : Bool). copied_pieces (rules_of m.inner) (sent_for (cut_of m) before)
    (if b then released m.last.is_cut m.last.tick (held_for (cut_of m) before) else []))
    (le-ltb m.last.tick c.args.tick c.if-self-tick.true))) writes_none

pub returns-clause-at : goal.returns-clause-at
returns-clause-at g c = λ before at.
    let m = c.args.self.now in
    let sent = sent_for (cut_of m) before in
    let held = held_for (cut_of m) before in
    let are : ArePieces (last_held c.replace-held.result.items) held =
    subst (λ (v : Vec HeldChange). ArePieces (last_held v.items) held) (sym c.replace-held.ensures.value) at.holds in
    released_past m before at (omega (arith, c.if-self-tick.false, c.ranges.tick.fits))
    c.release.new.inner c.replace-held.new.dest c.release.new.stamp c.args.tick
    (ap (λ (v : Vec HeldChange). v.items) c.replace-held.ensures.after ∙ c.new.ensures.items)
    (omega (arith, c.if-self-tick.false)) (c.in_ok-release.ensures.seen sent held at.seen are at.behind)
