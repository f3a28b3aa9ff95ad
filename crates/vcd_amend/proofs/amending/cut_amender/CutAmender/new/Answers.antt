use Rattle.std.proofs.Common.{[], List, refl, sym, ap, subst, ◌∙◌, arith}
use Rattle.vcd_amend.specs.declared.amending.held_changes.HeldChange.{HeldChange}
use Rattle.vcd_amend.specs.declared.amending.cut_amender.CodeVariables.{CodeVariables}
use Rattle.vcd_amend.specs.inside.amending.HeldChanges.{last_held, ArePieces}
use Rattle.vcd_amend.specs.declared.cut_ticks.CutTicks.{CutTicks}
use Rattle.vcd_amend.specs.Retimed.{new_tick}
use Rattle.vcd_amend.specs.RetimedCopy.{pieces_so_far, held_after, is_cut_by}
use Rattle.vcd_amend.proofs.amending.cut_amender.CutAmender.new.Goals as goal

pub returns : goal.returns
unfolding last_held pieces_so_far held_after
returns c = (
  record {
    seen = c.in_ok-inner.ensures.0;
    holds = subst (λ (l : List HeldChange). ArePieces (last_held l) []) (sym c.new-3.ensures.items) tt;
    lasting = λ code. ap (λ (v : CodeVariables). v.lasts) (c.new-2.ensures code);
    kept = λ code. ap (λ (v : CodeVariables). v.is_kept) (c.new-2.ensures code);
    is_cut = c.retimed-last.ensures.cut
        ∙ ap (λ (cs : List CutTicks). is_cut_by cs 0) (sym c.retimed-last.ensures.same);
    tick = c.retimed-last.ensures.tick
        ∙ ap (λ (cs : List CutTicks). new_tick (is_cut_by cs) 0) (sym c.retimed-last.ensures.same);
    behind = omega arith;
    scopes = refl;
  },
  c.in_ok-inner.ensures.1,
  c.retimed-last.ensures.same ∙ c.new-walk.ensures,
)
