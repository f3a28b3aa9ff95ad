use Rattle.std.proofs.Common.{◌∙◌, ◌++◌, ◌∷◌, [], Bool, true, false, refl, sym, ap, subst, if◌then◌else◌}
use Rattle.vcd_copy.specs.Copied.{copied_pieces}
use Rattle.vcd_amend.specs.inside.amending.FileAmender.{HasSeen}
use Rattle.vcd_amend.specs.inside.amending.HeldChanges.{IsChangePiece}
use Rattle.vcd_amend.specs.inside.amending.CutAmender.{rules_of, sent_for, cut_of}
use Rattle.vcd_amend.proofs.amending.CutPieces.{key_of_value, key_of_text}
use Rattle.vcd_amend.proofs.amending.CutSteps.{change_step, change_seen, none_holds}
use Rattle.vcd_amend.proofs.amending.cut_amender.CutAmenderAmender.settle.Goals as goal

pub settle_change-requires : goal.settle_change-requires
settle_change-requires g c = let (limit, before, p, at, next) = c.requires in
    (sent_for (cut_of c.args.self.now) before, at.seen)

pub returns-in-Value-clause-stands : goal.returns-in-Value-clause-stands
returns-in-Value-clause-stands g c = λ itself limit before p at next.
    let m = c.args.self.now in
    let code = c.args.code.now in
    let sent = sent_for (cut_of m) before in
    let (left, none) = c.is_idle.ensures c.if-not-is_idle.false in
    let here : IsChangePiece p false code p.space p.body = record {
      key = key_of_value p.item code (rw c.in-Value.is at next.shows);
      space_is = refl;
      body_is = refl;
    } in
    let step = change_step m before at p false code p.space p.body here
    ∙ ap (λ (b : Bool). if b then [] else p ∷ []) left in
    let (text, seen) = c.settle_change.ensures.stands itself sent p at.seen here in (
      ap (copied_pieces (rules_of m.inner) sent) step ∙ text,
      change_seen m before at p false code p.space p.body here c.settle_change.new.inner m.held m.room
          (subst (λ (b : Bool). HasSeen c.settle_change.new.inner (sent ++ (if b then [] else p ∷ [])))
          (sym left) seen)
          (none_holds m before at left none p false code),
    )

pub returns-in-Value-clause-goes : goal.returns-in-Value-clause-goes
returns-in-Value-clause-goes g c = λ nothing limit before p at next.
    let m = c.args.self.now in
    let code = c.args.code.now in
    let sent = sent_for (cut_of m) before in
    let (left, none) = c.is_idle.ensures c.if-not-is_idle.false in
    let here : IsChangePiece p false code p.space p.body = record {
      key = key_of_value p.item code (rw c.in-Value.is at next.shows);
      space_is = refl;
      body_is = refl;
    } in
    let step = change_step m before at p false code p.space p.body here
    ∙ ap (λ (b : Bool). if b then [] else p ∷ []) left in
    let (none_written, seen) = c.settle_change.ensures.goes nothing sent p at.seen here in (
      ap (copied_pieces (rules_of m.inner) sent) step ∙ none_written,
      change_seen m before at p false code p.space p.body here c.settle_change.new.inner m.held m.room
          (subst (λ (b : Bool). HasSeen c.settle_change.new.inner (sent ++ (if b then [] else p ∷ [])))
          (sym left) seen)
          (none_holds m before at left none p false code),
    )

pub returns-in-RealOrString-clause-stands : goal.returns-in-RealOrString-clause-stands
returns-in-RealOrString-clause-stands g c = λ itself limit before p at next.
    let m = c.args.self.now in
    let code = c.args.code.now in
    let sent = sent_for (cut_of m) before in
    let (left, none) = c.is_idle.ensures c.if-not-is_idle.false in
    let here : IsChangePiece p true code p.space p.body = record {
      key = key_of_text p.item code (rw c.in-RealOrString.is at next.shows);
      space_is = refl;
      body_is = refl;
    } in
    let step = change_step m before at p true code p.space p.body here
    ∙ ap (λ (b : Bool). if b then [] else p ∷ []) left in
    let (text, seen) = c.settle_change-in-RealOrString.ensures.stands itself sent p at.seen here in (
      ap (copied_pieces (rules_of m.inner) sent) step ∙ text,
      change_seen m before at p true code p.space p.body here c.settle_change-in-RealOrString.new.inner m.held m.room
          (subst (λ (b : Bool). HasSeen c.settle_change-in-RealOrString.new.inner (sent ++
          (if b then [] else p ∷ []))) (sym left) seen)
          (none_holds m before at left none p true code),
    )

pub returns-in-RealOrString-clause-goes : goal.returns-in-RealOrString-clause-goes
returns-in-RealOrString-clause-goes g c = λ nothing limit before p at next.
    let m = c.args.self.now in
    let code = c.args.code.now in
    let sent = sent_for (cut_of m) before in
    let (left, none) = c.is_idle.ensures c.if-not-is_idle.false in
    let here : IsChangePiece p true code p.space p.body = record {
      key = key_of_text p.item code (rw c.in-RealOrString.is at next.shows);
      space_is = refl;
      body_is = refl;
    } in
    let step = change_step m before at p true code p.space p.body here
    ∙ ap (λ (b : Bool). if b then [] else p ∷ []) left in
    let (none_written, seen) = c.settle_change-in-RealOrString.ensures.goes nothing sent p at.seen here in (
      ap (copied_pieces (rules_of m.inner) sent) step ∙ none_written,
      change_seen m before at p true code p.space p.body here c.settle_change-in-RealOrString.new.inner m.held m.room
          (subst (λ (b : Bool). HasSeen c.settle_change-in-RealOrString.new.inner (sent ++
          (if b then [] else p ∷ []))) (sym left) seen)
          (none_holds m before at left none p true code),
    )
