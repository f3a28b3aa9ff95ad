use Rattle.std.proofs.Common.{◌≡◌, ◌∙◌, ◌++◌, ◌∷◌, [], refl, sym, ap, subst, take, arith, append_assoc}
use Rattle.std.proofs.lemmas.List.{append-nil, take_all}
use Rattle.vcd_copy.specs.Copied.{copied_pieces}
use Rattle.vcd_text.proofs.shared.EmittedParts.{writes_as, writes_both, writes_none}
use Rattle.vcd_amend.specs.AmendmentContents.{amendment_contents}
use Rattle.vcd_amend.specs.AmendedCopy.{amendment_rules}
use Rattle.vcd_amend.specs.declared.amendment.Amendment.{Amendment}
use Rattle.vcd_amend.specs.declared.amending.held_changes.HeldChange.{HeldChange}
use Rattle.vcd_amend.specs.inside.amending.FileAmender.{HasSeen}
use Rattle.vcd_amend.specs.inside.amending.HeldChanges.{IsChangePiece}
use Rattle.vcd_amend.specs.inside.amending.CutAmender.{rules_of}
use Rattle.vcd_copy.proofs.shared.CopiedPieces.{copied_more}
use Rattle.vcd_amend.proofs.amending.CutPieces.{piece_at, as_many, spelled_as}
use Rattle.vcd_amend.proofs.amending.cut_amender.put_changes.Goals as goal

pub loop-change-init : goal.loop-change-init
unfolding copied_pieces
loop-change-init g c = record {
  same = refl;
  each = λ r ps seen are. (writes_none, subst (HasSeen c.args.inner.now) (sym (append-nil r)) seen);
}

pub put_change-requires : goal.put_change-requires
put_change-requires g c = let (r, ps, seen, are) = c.requires in
    (r ++ take c.loop-change.change-index ps, (c.loop-change.invariant.each r ps seen are).1)

pub loop-change-preserved : goal.loop-change-preserved
loop-change-preserved g c =
    let kept = c.loop-change.invariant in
    let k = c.loop-change.change-index in
    let item = c.change-item.result in
    record {
      same = c.put_change.ensures.same ∙ kept.same;
      each = λ r ps seen are.
          let (out, now) = kept.each r ps seen are in
          let at = piece_at c.args.held.now ps k item are (omega arith) in
          let own : IsChangePiece at.p item.is_text item.code item.space item.body =
          subst (λ (h : HeldChange). IsChangePiece at.p h.is_text h.code h.space h.body) (sym c.change-item.is) at.is in
          let here = spelled_as at.p item.is_text item.code item.space item.body c.as_slice.result.now
          c.as_slice-in-loop-change.result.now c.as_slice-in-loop-change-2.result.now c.as_slice.ensures
          c.as_slice-in-loop-change.ensures c.as_slice-in-loop-change-2.ensures own in (
            writes_as (ap (λ (x : Amendment). copied_pieces (rules_of c.args.inner.now) r (take k ps)
                ++ copied_pieces (amendment_rules (amendment_contents x) 0) (r ++ take k ps) (at.p ∷ [])) kept.same
                ∙ sym (copied_more (rules_of c.args.inner.now) r (take k ps) (at.p ∷ []))
                ∙ ap (copied_pieces (rules_of c.args.inner.now) r) (sym at.more))
                (writes_both out (c.put_change.ensures.written (r ++ take k ps) at.p now here)),
            subst (HasSeen c.put_change.new.inner)
                (append_assoc r (take k ps) (at.p ∷ []) ∙ ap (λ l. r ++ l) (sym at.more))
                (c.put_change.ensures.seen (r ++ take k ps) at.p now here),
          );
    }

pub returns-clause-written : goal.returns-clause-written
returns-clause-written g c = λ r ps seen are.
    let k = c.loop-change.change-index in
    let all : take k ps ≡ ps = take_all k ps (omega (arith, as_many c.args.held.now ps are)) in
    writes_as (ap (copied_pieces (rules_of c.args.inner.now) r) all) (c.loop-change.invariant.each r ps seen are).0

pub returns-clause-seen : goal.returns-clause-seen
returns-clause-seen g c = λ r ps seen are.
    let k = c.loop-change.change-index in
    let all : take k ps ≡ ps = take_all k ps (omega (arith, as_many c.args.held.now ps are)) in
    subst (λ l. HasSeen c.loop-change.inner (r ++ l)) all (c.loop-change.invariant.each r ps seen are).1
