use Rattle.std.proofs.Common.{Option, List, subst, sym}
use Rattle.vcd_core.specs.declared.bit.Bit.{Bit}
use Rattle.vcd_decode.specs.LineEdges.{AreEdgesOf}
use Rattle.vcd_decode.specs.LineChanges.{lines_fed}
use Rattle.vcd_decode.specs.inside.EdgeMaker.{edges_left}
use Rattle.vcd_decode.proofs.edge_maker.ChangesInTurn.{made_of_lines}
use Rattle.vcd_decode.proofs.edge_maker.EdgeMaker.new.Goals as goal

pub returns : goal.returns
returns c = λ end fed order. subst (λ (os : List (Option Bit)). AreEdgesOf (lines_fed c.args.present fed) end
    (edges_left (record { before = os; at = os; tick = 0 }) fed)) (sym c.first_letters-letters.ensures)
    (made_of_lines c.args.present fed end order)
