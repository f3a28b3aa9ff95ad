-- After a change is taken, what was given and what is to be given is the same.
use Rattle.std.proofs.Common.{◌≡◌, List, [], ◌∷◌, ◌++◌, Result, sym, ap, subst, ◌∙◌}
use Rattle.std.specs.Prelude.{IfOk}
use Rattle.std.specs.Result.{OnOk}
use Rattle.std.proofs.lemmas.List.{append-nil}
use Rattle.std.proofs.lemmas.Result.{IfOk-weaker}
use Rattle.vcd_core.specs.declared.bit.Bit.{Bit}
use Rattle.vcd_core.specs.declared.memory.NoMemory.{NoMemory}
use Rattle.vcd_core.specs.declared.wave.Change.{Change}
use Rattle.vcd_edit.specs.inside.plans.RemainingChanges.{without_repeats}
use Rattle.vcd_stream.specs.declared.stage.ChangeTo.{ChangeTo}
use Rattle.vcd_stream.specs.declared.stage.Stage.{Stage}
use Rattle.vcd_stream.specs.declared.stage.Work.{Work}
use Rattle.vcd_stream.specs.Stages.{seen, all_seen, made_changes, given, GoesOn}

module _ {V : Type 0} (letters : V → List Bit) (old : List (ChangeTo V)) (before : Stage V) (c : ChangeTo V) where
  -- one change was given
  pub one_given : (new : List (ChangeTo V)) (after : Stage V) (put : Change)
      → ((more : List Change) → all_seen letters new ++ without_repeats (letters after.last) more
      ≡ all_seen letters old ++ without_repeats (letters before.last) (put ∷ more))
      → ((more : List Change) → made_changes letters before.work (seen letters c ∷ more)
      ≡ put ∷ made_changes letters after.work more)
      → GoesOn letters old new before c after
  unfolding given
  one_given new after put gave makes more =
      gave (made_changes letters after.work more)
      ∙ ap (λ l. all_seen letters old ++ without_repeats (letters before.last) l) (sym (makes more))

  -- none was
  pub none_given : (work : Work V)
      → ((more : List Change) → made_changes letters before.work (seen letters c ∷ more)
      ≡ made_changes letters work more)
      → GoesOn letters old old before c (record { work = work; last = before.last })
  unfolding given
  none_given work makes more =
      ap (λ l. all_seen letters old ++ without_repeats (letters before.last) l) (sym (makes more))

  -- some were, and then the next stage takes the change
  pub given_first : (r : Result (Stage V) NoMemory) (mid new : List (ChangeTo V)) (between : Stage V)
      → ((more : List Change) → all_seen letters mid ++ given letters between (seen letters c ∷ more)
      ≡ all_seen letters old ++ given letters before (seen letters c ∷ more))
      → IfOk r (GoesOn letters mid new between c) → IfOk r (GoesOn letters old new before c)
  given_first r mid new between same told =
      IfOk-weaker r (GoesOn letters mid new between c) (GoesOn letters old new before c)
      (λ s goes more. goes more ∙ same more) told

module _ {V : Type 0} (letters : V → List Bit) (old : List (ChangeTo V)) (s : Stage V) (w : Work V)
    (is : s.work ≡ w) where
  -- what is left was given
  pub all_given : (r : Result (Unit {0}) NoMemory) (new : List (ChangeTo V)) (cs : List Change)
      → made_changes letters w [] ≡ cs
      → OnOk r (all_seen letters new ≡ all_seen letters old ++ without_repeats (letters s.last) cs)
      → OnOk r (all_seen letters new ≡ all_seen letters old ++ given letters s [])
  unfolding given
  all_given r new cs left told =
      subst (λ l. OnOk r (all_seen letters new ≡ all_seen letters old ++ without_repeats (letters s.last) l))
      (sym (ap (λ w. made_changes letters w []) is ∙ left)) told

  -- nothing is left
  pub nothing_left : made_changes letters w [] ≡ [] → all_seen letters old ≡ all_seen letters old ++ given letters s []
  unfolding given without_repeats
  nothing_left none =
      sym (append-nil (all_seen letters old))
      ∙ ap (λ l. all_seen letters old ++ without_repeats (letters s.last) l)
      (sym (ap (λ w. made_changes letters w []) is ∙ none))
