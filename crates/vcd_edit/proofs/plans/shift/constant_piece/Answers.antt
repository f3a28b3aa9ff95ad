use Rattle.std.proofs.Common.{[], ◌++◌, length, ap, refl, ◌∙◌}
use Rattle.std.specs.Int.{w64}
use Rattle.std.proofs.lemmas.Int.{to_z-of_z}
use Rattle.vcd_core.specs.Value.{same_letters}
use Rattle.vcd_core.specs.Wave.{change, unless_same}
use Rattle.vcd_edit.proofs.plans.Ranges.{whole_leads, one_value_changes}
use Rattle.vcd_edit.proofs.plans.shift.constant_piece.Goals as goal

pub returns : goal.returns
returns c = λ end f same.
    record {
      signal = refl;
      offset = to_z-of_z w64 c.args.by c.ranges.by;
      leads = whole_leads _ c.args.signal.now.wave.changes c.args.signal.now.wave.width end f refl
          (ap length c.changes.ensures.changes)
          (c.in_ok-push_if_new.ensures.added ∙ (λ i. c.new-changes.ensures.items i
          ++ unless_same (same_letters c.args.value (c.x_value.ensures i)) (change 0 c.args.value) [])
          ∙ one_value_changes c.args.signal.now.wave.width end f c.args.value same);
    }
