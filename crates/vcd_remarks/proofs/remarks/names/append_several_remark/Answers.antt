use Rattle.std.proofs.Common.{ℕ, ◌∷◌, [], ◌++◌, ap, ◌∙◌}
use Rattle.vcd_remarks.specs.NameRemarks.{several_text}
use Rattle.vcd_remarks.specs.Remarks.{remarks_text}
use Rattle.vcd_remarks.proofs.remarks.RemarksInTurn.{remark_in_turn}
use Rattle.vcd_remarks.proofs.remarks.names.append_several_remark.Goals as goal

pub returns : goal.returns
returns c =
    remark_in_turn c.args.number _ c.args.text.now.items c.append_remark_head.new.text.items
    c.append_several.new.text.items c.append_bytes.new.text.items c.in_ok-append_remark_head.ensures
    c.in_ok-append_several.ensures c.in_ok-append_bytes.ensures
    ∙ ap (λ (count : ℕ). c.args.text.now.items
    ++ remarks_text c.args.number (several_text count c.args.name.now c.args.position ∷ [])) c.count_of_name.ensures
