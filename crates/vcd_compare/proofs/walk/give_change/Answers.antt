use Rattle.std.proofs.Common.{◌≡◌, sym, ap, subst, ◌∙◌, length}
use Rattle.std.specs.Prelude.{slice_get}
use Rattle.vcd_text.specs.Grammar.{kept_variables}
use Rattle.vcd_text.specs.HeardChanges.{HeardChange, skipped_variables}
use Rattle.vcd_text.specs.LentChanges.{heard_contents}
use Rattle.vcd_text.specs.inside.reading.ChangeStream.{heard_by}
use Rattle.vcd_compare.specs.inside.WalkSteps.{AreGiven, IsGiven, target_position, text_of_target}
use Rattle.vcd_compare.proofs.side.Chunks.{change_is}
use Rattle.vcd_compare.proofs.walk.give_change.Goals as goal

pub returns-in_ok-change-in-Kept : goal.returns-in_ok-change-in-Kept
returns-in_ok-change-in-Kept c s h rest at_s at =
    let side = c.args.side.now in
    let old = c.args.pairs.now in
    let new = c.change.new.self in
    let heard = c.get-change.result in
    let is : heard_contents heard ≡ h = change_is (heard_by side.stream) side.taken h _ rest
    (ap (λ hs. slice_get {X = HeardChange} hs side.taken) (sym c.heard-heard.ensures) ∙ c.get-change.ensures) at in
    subst (λ g. IsGiven s c.args.which c.args.tick g old new) is
    (subst (λ t. AreGiven c.args.which (target_position (length (kept_variables s.declared)) t) c.args.tick
    (text_of_target (skipped_variables s.declared) t c.args.tick heard.text.now) old new)
    (sym c.in-Kept.is) (record {
      bounds = c.in_ok-change-in-Kept.ensures.bounds;
      listed = c.in_ok-change-in-Kept.ensures.listed;
      changed = c.in_ok-change-in-Kept.ensures.changed;
    }))

pub returns-in_ok-give_word-in-Skipped : goal.returns-in_ok-give_word-in-Skipped
returns-in_ok-give_word-in-Skipped c s h rest at_s at =
    let side = c.args.side.now in
    let old = c.args.pairs.now in
    let new = c.give_word.new.pairs in
    let heard = c.get-change.result in
    let is : heard_contents heard ≡ h = change_is (heard_by side.stream) side.taken h _ rest
    (ap (λ hs. slice_get {X = HeardChange} hs side.taken) (sym c.heard-heard.ensures) ∙ c.get-change.ensures) at in
    subst (λ g. IsGiven s c.args.which c.args.tick g old new) is
    (subst (λ t. AreGiven c.args.which (target_position (length (kept_variables s.declared)) t) c.args.tick
    (text_of_target (skipped_variables s.declared) t c.args.tick heard.text.now) old new)
    (sym c.in-Skipped.is) (c.in_ok-give_word-in-Skipped.ensures s at_s))
