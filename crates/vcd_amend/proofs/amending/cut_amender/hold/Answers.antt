use Rattle.std.proofs.Common.{◌≡◌, ◌∙◌, ◌++◌, ◌∷◌, [], List, Bool, sym, ap, subst, not, if◌then◌else◌}
use Rattle.std.specs.List.{filter}
use Rattle.vcd_copy.specs.Pieces.{Piece}
use Rattle.vcd_amend.specs.Retimed.{change_key, counts_with}
use Rattle.vcd_amend.specs.declared.amending.held_changes.HeldChange.{HeldChange}
use Rattle.vcd_amend.specs.inside.amending.HeldChanges.{last_held, ArePieces, key_of}
use Rattle.vcd_amend.proofs.amending.HeldPieces.{no_pieces, pieces_held}
use Rattle.vcd_amend.proofs.amending.cut_amender.hold.Goals as goal

pub returns-then-is_idle : goal.returns-then-is_idle
unfolding last_held
returns-then-is_idle c = λ test ps p kept are here.
    let (left, none) = c.is_idle.ensures c.if-is_idle.true in
    let items = c.args.held.now.items in
    let empty : ps ≡ [] = no_pieces ps (subst (λ (l : List HeldChange). ArePieces (last_held l) ps) none are) in
    subst (λ (qs : List Piece). ArePieces (last_held items)
    (filter (λ q. not (counts_with test (key_of c.args.change.is_text c.args.change.code.now) (change_key q.item))) qs
    ++ (if c.args.holding.is_held then p ∷ [] else []))) (sym empty)
    (subst (λ (b : Bool). ArePieces (last_held items) (if b then p ∷ [] else [])) (sym left)
    (subst (λ (l : List HeldChange). ArePieces (last_held l) []) (sym none) tt))

pub returns : goal.returns
returns c = λ test ps p kept are here.
    let is = c.in_ok-change.ensures in
    pieces_held test (record {
      is_text = c.args.change.is_text;
      is_held = c.args.holding.is_held;
      is_kept = c.args.holding.is_kept;
      code = c.args.change.code.now;
      space = c.args.change.space.now;
      body = c.args.change.body.now;
    }) c.args.held.now.items _ ps p kept
    (c.in_ok-push_held.ensures ∙ ap (λ (h : HeldChange). last_held (c.args.held.now.items ++ h ∷ [])) is) are here
