use Rattle.std.proofs.Common.{None, sym, ap, ◌∙◌, arith}
use Rattle.std.specs.Option.{is_some}
use Rattle.std.proofs.Math.ListN.{get_or-eq_default}
use Rattle.vcd_decode.proofs.edge_maker.ChangesInTurn.{put, kept}
use Rattle.vcd_decode.proofs.edge_maker.letters_after.Goals as goal
use Rattle.vcd_decode.proofs.edge_maker.letters_after.Goals.{else-change-lt4-via-then-change-lt4+else-is_some}
use Rattle.vcd_decode.proofs.edge_maker.letters_after.Goals.{else-change-lt4-via-else-change-lt4}

pub returns-then-is_some : goal.returns-then-is_some
returns-then-is_some c = put c.args.change c.args.letters c.args.change.line 0 (omega arith)
    (sym c.is_some.ensures ∙ c.if-is_some.true)

pub returns-else-change-lt4 : goal.returns-else-change-lt4
returns-else-change-lt4 c = kept c.args.change c.args.letters c.args.change.line 0 (omega arith)
    (elim c.else-change-lt4.branch [
      | else-change-lt4-via-then-change-lt4+else-is_some w ↦ sym w.is_some.ensures ∙ w.if-is_some.false
      | else-change-lt4-via-else-change-lt4 w ↦ ap is_some
          (get_or-eq_default c.args.letters None (omega (arith, c.well_formed, w.if-change-lt4.false)))
    ])
