use Rattle.std.proofs.Common.{◌≡◌, ◌<◌, ◌+◌, ◌++◌, ◌∷◌, [], List, ℕ, map, take, length, get_or, ap, ◌∙◌, sym}
use Rattle.std.proofs.Common.{append_assoc, subst, All}
use Rattle.std.proofs.lemmas.List.{map_more, map_push}
use Rattle.std.proofs.lemmas.List.Elements.{All-append, All-cons, All-nil}
use Rattle.vcd_text.specs.inside.writing.Transitions.{Transition, transition_of}
use Rattle.vcd_amend.specs.declared.amending.due_changes.DueChange.{DueChange}
use Rattle.vcd_amend.specs.inside.amending.DueChanges.{due_transition}
use Rattle.vcd_amend.proofs.amending.due_changes.add_new_changes.Goals as goal

one_added : (ticks : List ℕ) (k index : ℕ) (old new start : List DueChange) → k < length ticks
    → new ≡ old ++ record { tick = get_or ticks k 0; index = index } ∷ []
    → map due_transition old ≡ map due_transition start ++ map (λ t. transition_of t index) (take k ticks)
    → map due_transition new ≡ map due_transition start ++ map (λ t. transition_of t index) (take (k + 1) ticks)
one_added ticks k index old new start within grown so_far =
    let f : ℕ → Transition = λ t. transition_of t index in
    let begun = map due_transition start in
    ap (map due_transition) grown ∙ map_push due_transition old (record { tick = get_or ticks k 0; index = index })
    ∙ ap (λ l. l ++ f (get_or ticks k 0) ∷ []) so_far
    ∙ append_assoc begun (map f (take k ticks)) (f (get_or ticks k 0) ∷ [])
    ∙ ap (λ l. begun ++ l) (sym (map_more f ticks k 0 within))

one_within : (count : ℕ) (d : DueChange) (old new : List DueChange) → new ≡ old ++ d ∷ [] → d.index < count
    → All (λ (x : DueChange). x.index < count) old → All (λ (x : DueChange). x.index < count) new
one_within count d old new grown here so_far =
    let P : DueChange → Type 0 = λ x. x.index < count in
    subst (λ l. All P l) (sym grown) (All-append P old (d ∷ []) so_far (All-cons P d [] here (All-nil P)))

pub loop-tick-preserved : goal.loop-tick-preserved
loop-tick-preserved c =
    let ticks = c.args.ticks.now in
    let k = c.loop-tick.tick-index in
    record {
      added = one_added ticks k c.args.index c.loop-tick.due.items c.push.new.self.items c.args.due.now.items
          c.loop-tick-test.true c.in_ok-push.ensures.items c.loop-tick.invariant.added;
      within = λ count inside all. one_within count (record { tick = get_or ticks k 0; index = c.args.index })
          c.loop-tick.due.items c.push.new.self.items c.in_ok-push.ensures.items inside
          (c.loop-tick.invariant.within count inside all);
    }
