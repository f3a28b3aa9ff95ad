use Rattle.std.proofs.Common.{◌∙◌, ◌++◌, ◌∷◌, [], ap, List}
use Rattle.std.specs.Global.{Vec}
use Rattle.vcd_amend.specs.inside.amending.HeldChanges.{last_held}
use Rattle.vcd_amend.specs.declared.amending.held_changes.HeldChange.{HeldChange}
use Rattle.vcd_amend.proofs.amending.HeldPieces.{held_again_with}
use Rattle.vcd_amend.proofs.amending.cut_amender.make_room.Goals as goal

pub returns : goal.returns
returns c = λ h.
    ap (λ (l : List HeldChange). last_held (l ++ h ∷ []))
    (c.in_ok-held.ensures ∙ ap (λ (v : Vec HeldChange). last_held v.items) c.replace-changes.ensures.value)
    ∙ held_again_with h c.args.held.now.items
