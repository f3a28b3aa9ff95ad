use Rattle.std.proofs.Common.{◌≡◌, ◌∙◌, ◌++◌, ◌∷◌, [], List, sym, ap, subst, if◌then◌else◌, append_assoc, length, arith}
use Rattle.std.proofs.lemmas.Bool.{false≢true, eqb-true}
use Rattle.std.proofs.lemmas.List.{append-nil}
use Rattle.vcd_copy.specs.Copied.{copied_pieces}
use Rattle.vcd_copy.specs.Pieces.{Piece}
use Rattle.vcd_text.proofs.shared.EmittedParts.{writes_as, writes_both, writes_none, more_none}
use Rattle.vcd_amend.specs.AmendmentContents.{amendment_contents}
use Rattle.vcd_amend.specs.AmendedCopy.{amendment_rules}
use Rattle.vcd_copy.specs.Pieces.{stamp_line}
use Rattle.vcd_amend.specs.declared.amendment.Amendment.{Amendment}
use Rattle.vcd_amend.specs.declared.amending.held_changes.HeldChange.{HeldChange}
use Rattle.vcd_amend.specs.inside.amending.FileAmender.{HasSeen}
use Rattle.vcd_amend.specs.inside.amending.HeldChanges.{ArePieces, released}
use Rattle.vcd_amend.specs.inside.amending.CutAmender.{rules_of}
use Rattle.vcd_copy.proofs.shared.CopiedPieces.{copied_more}
use Rattle.vcd_amend.proofs.amending.HeldPieces.{no_pieces, no_changes}
use Rattle.vcd_amend.proofs.amending.CutPieces.{on_error, released_some, same_number}
use Rattle.vcd_amend.proofs.amending.cut_amender.release.Goals as goal

pub returns-in_err-held-clause-more : goal.returns-in_err-held-clause-more
returns-in_err-held-clause-more g c = on_error c.from_residual.result more_none

pub returns-then-is_empty-clause-written : goal.returns-then-is_empty-clause-written
unfolding copied_pieces
returns-then-is_empty-clause-written g c = λ r ps seen are later.
    let last = c.args.last in
    let held = c.in_ok-held.held in
    let none = no_changes held.items (omega (
      arith,
      held.ok.0,
      eqb-true held.len 0 (sym c.is_empty.ensures
          ∙ c.if-is_empty.true),
    )) in
    let no_ps : ps ≡ [] = no_pieces ps (subst (λ (l : List HeldChange). ArePieces l ps) (sym c.in_ok-held.ensures
    ∙ none)
    are) in
    writes_as (sym (ap (λ (l : List Piece). copied_pieces (rules_of c.args.inner.now) r (released last.is_cut
    last.tick
    l)) no_ps)) writes_none

pub returns-then-is_empty-clause-seen : goal.returns-then-is_empty-clause-seen
returns-then-is_empty-clause-seen g c = λ r ps seen are later.
    let last = c.args.last in
    let held = c.in_ok-held.held in
    let none = no_changes held.items (omega (
      arith,
      held.ok.0,
      eqb-true held.len 0 (sym c.is_empty.ensures
          ∙ c.if-is_empty.true),
    )) in
    let no_ps : ps ≡ [] = no_pieces ps (subst (λ (l : List HeldChange). ArePieces l ps) (sym c.in_ok-held.ensures
    ∙ none)
    are) in
    subst (λ (l : List Piece). HasSeen c.args.inner.now (r ++ released last.is_cut last.tick l)) (sym no_ps)
    (subst (HasSeen c.args.inner.now) (sym (append-nil r)) seen)

pub returns-clause-written : goal.returns-clause-written
returns-clause-written g c = λ r ps seen are later.
    let last = c.args.last in
    let held = c.in_ok-held.held in
    let here : ArePieces held.items ps = subst (λ (l : List HeldChange). ArePieces l ps) (sym c.in_ok-held.ensures) are
    in
    let some : held.items ≡ [] → ⊥ = λ none. false≢true (sym c.if-is_empty.false ∙ c.is_empty.ensures
    ∙ same_number held.len 0 (held.ok.0 ∙ ap (λ (l : List HeldChange). length l) none)) in
    let line = if last.is_cut then stamp_line last.tick ∷ [] else [] in
    let put = c.in_ok-put_held_stamp.ensures in
    writes_as (ap (λ (x : Amendment). copied_pieces (rules_of c.args.inner.now) r line
    ++ copied_pieces (amendment_rules (amendment_contents x) 0) (r ++ line) ps) c.put_held_stamp.ensures.same
    ∙ sym (copied_more (rules_of c.args.inner.now) r line ps)
    ∙ ap (copied_pieces (rules_of c.args.inner.now) r) (sym (released_some last.is_cut last.tick held.items ps here
    some)))
    (writes_both (put.written r seen later)
    (c.put_changes.ensures.written (r ++ line) ps (put.seen r seen later)
    (subst (λ (l : List HeldChange). ArePieces l ps) (sym c.as_slice.ensures.value) here)))

pub returns-clause-seen : goal.returns-clause-seen
returns-clause-seen g c = λ r ps seen are later.
    let last = c.args.last in
    let held = c.in_ok-held.held in
    let here : ArePieces held.items ps = subst (λ (l : List HeldChange). ArePieces l ps) (sym c.in_ok-held.ensures) are
    in
    let some : held.items ≡ [] → ⊥ = λ none. false≢true (sym c.if-is_empty.false ∙ c.is_empty.ensures
    ∙ same_number held.len 0 (held.ok.0 ∙ ap (λ (l : List HeldChange). length l) none)) in
    let line = if last.is_cut then stamp_line last.tick ∷ [] else [] in
    let put = c.in_ok-put_held_stamp.ensures in
    subst (HasSeen c.put_changes.new.inner)
    (append_assoc r line ps ∙ ap (λ l. r ++ l) (sym (released_some last.is_cut last.tick held.items ps here some)))
    (c.put_changes.ensures.seen (r ++ line) ps (put.seen r seen later)
    (subst (λ (l : List HeldChange). ArePieces l ps) (sym c.as_slice.ensures.value) here))

pub put_held_stamp-requires : goal.put_held_stamp-requires
put_held_stamp-requires g c = let (r, ps, seen, are, later) = c.requires in (r, seen)

pub put_changes-requires : goal.put_changes-requires
put_changes-requires g c = let (r, ps, seen, are, later) = c.requires in (
  r ++ (if c.args.last.is_cut then stamp_line c.args.last.tick ∷ [] else []),
  ps,
  c.in_ok-put_held_stamp.ensures.seen r seen later,
  subst (λ (l : List HeldChange). ArePieces l ps) (sym (c.as_slice.ensures.value ∙ c.in_ok-held.ensures)) are,
)
