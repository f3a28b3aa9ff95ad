use Rattle.std.proofs.Common.{◌≡◌, ℕ, List, ◌∷◌, drop, ap, ◌∙◌}
use Rattle.vcd_core.specs.FullName.{name_bytes}
use Rattle.vcd_core.specs.CaptureContents.{signal_contents}
use Rattle.vcd_core.specs.Names.{full_name, name_in}
use Rattle.vcd_edit.specs.Effect.{renamed_signal}
use Rattle.vcd_edit.proofs.checking.Faults.{taken_before, taken_after}
use Rattle.vcd_edit.proofs.checking.new_names.is_name_taken.Goals as goal

pub returns-then-is_taken : goal.returns-then-is_taken
returns-then-is_taken c =
    let given : name_bytes c.new-name.result
    ≡ full_name (renamed_signal c.args.word.now (signal_contents c.index-signals-signal.result)) =
    c.new-name.ensures ∙ (λ i. name_in (c.as_slice-2.ensures i)
    (c.args.word.now ∷ (c.after_first-others.ensures ∙ ap (λ (ws : List (List ℕ)). drop 1 ws) c.as_slice.ensures)
    i)) in
    taken_before c.args.signals.now c.args.signal c.index-signals-signal.result c.args.word.now
    (name_bytes c.new-name.result) c.requires c.index-signals-signal.is given
    c.is_taken.result c.is_taken.ensures c.if-is_taken.true

pub returns-else-is_taken : goal.returns-else-is_taken
returns-else-is_taken c =
    let given : name_bytes c.new-name.result
    ≡ full_name (renamed_signal c.args.word.now (signal_contents c.index-signals-signal.result)) =
    c.new-name.ensures ∙ (λ i. name_in (c.as_slice-2.ensures i)
    (c.args.word.now ∷ (c.after_first-others.ensures ∙ ap (λ (ws : List (List ℕ)). drop 1 ws) c.as_slice.ensures)
    i)) in
    taken_after c.args.signals.now c.args.signal c.index-signals-signal.result c.args.word.now
    (name_bytes c.new-name.result) c.requires c.index-signals-signal.is given
    c.is_taken.result c.is_taken-else-is_taken.result c.is_taken.ensures c.if-is_taken.false
    c.is_taken-else-is_taken.ensures
