use Rattle.std.proofs.Common.{◌≡◌, ◌∙◌, ◌++◌, ℕ, map, ap, ap₂, append_assoc}
use Rattle.std.proofs.lemmas.Simd.{map-map}
use Rattle.vcd_core.specs.declared.wave.Change.{Change}
use Rattle.vcd_text.specs.inside.writing.Transitions.{Transition, transition_of}
use Rattle.vcd_amend.specs.inside.amending.DueChanges.{due_transition}
use Rattle.vcd_amend.proofs.amending.due_changes.add_due_changes.Goals as goal

pub returns-clause-added : goal.returns-clause-added
returns-clause-added c =
    let f : ℕ → Transition = λ tick. transition_of tick c.args.index in
    let changes = c.args.code.now.new.changes in
    let at : map f c.ticks.result.now ≡ map (λ (x : Change). f x.tick) changes =
    ap (map f) c.ticks.ensures.ticks ∙ map-map f (λ (x : Change). x.tick) changes in
    c.in_ok-add_new_changes.ensures.added
    ∙ ap₂ (λ l m. l ++ m) c.in_ok-add_other_change.ensures.added at
    ∙ append_assoc (map due_transition c.args.due.now.items) _ (map (λ (x : Change). f x.tick) changes)
