-- The laws of a run: each capture is sound, a refused line changes nothing, and an undo or a redo
-- restores.
use Rattle.std.proofs.Common.{◌≡◌, ◌≤◌, ◌<◌, ◌+◌, ◌-◌, ℕ, zero, suc, Bool, true, false, cond, List, [], ◌∷◌, ◌++◌, take}
use Rattle.std.proofs.Common.{length, Option, Some, None, Result, Ok, Err, is_err, refl, sym, ◌∙◌, ap, subst, arith}
use Rattle.std.proofs.Common.{get_or}
use Rattle.std.specs.Prelude.{fold, drop, min, not, nat_lt}
use Rattle.std.proofs.lemmas.Bool.{cond_both}
use Rattle.std.proofs.lemmas.Bool.Decides.{nat_tests}
use Rattle.std.proofs.lemmas.List.{length-append, length-take, length-drop}
use Rattle.vcd_core.specs.Contents.{Contents}
use Rattle.vcd_core.specs.Sound.{IsSound}
use Rattle.vcd_core.specs.declared.capture.TheConstants.{SIGNAL_LIMIT}
use Rattle.vcd_text.specs.Words.{words_of}
use Rattle.vcd_text.specs.Text.{text}
use Rattle.vcd_text.specs.Meaning.{FileMeans}
use Rattle.vcd_text.proofs.shared.ResultIsUnique.{one_meaning}
use Rattle.vcd_text.proofs.read_back.WholeText.{read_back}
use Rattle.vcd_text.proofs.shared.SoundMeaning.{meaning_is_sound}
use Rattle.vcd_edit.specs.declared.edit.Edit.{Edit}
use Rattle.vcd_edit.specs.declared.fault.EditError.{EditError}
use Rattle.vcd_edit.specs.EditFaults.{edit_fault}
use Rattle.vcd_edit.proofs.shared.SoundEffects.{effect_is_sound}
use Rattle.vcd_journal.specs.declared.step.Step.{Step}
use Rattle.vcd_journal.specs.declared.step.Step.TheVariants as steps
use Rattle.vcd_journal.specs.declared.step.StepError.{StepError}
use Rattle.vcd_journal.specs.declared.step.StepError.TheVariants as refusals
use Rattle.vcd_journal.specs.StepErrorNames.{step_error_name}
use Rattle.vcd_journal.specs.History.{History, initial_history, replay, is_depth, history_after}
use Rattle.vcd_journal.specs.Machine.{initial_machine}
use Rattle.vcd_journal.proofs.shared.Replay.{first_follows}
use Rattle.vcd_script.specs.declared.script.command.Command.{Command}
use Rattle.vcd_script.specs.declared.script.command.Command.TheVariants as commands
use Rattle.vcd_script.specs.declared.script.line_error.LineError.{LineError}
use Rattle.vcd_script.specs.ScriptCommands.{command_of_line}
use Rattle.vcd_script.specs.Reply.{ok_reply, line_reply, command_reply, edit_reply, history_reply}
use Rattle.vcd_script.specs.Run.{history_after_command, line_answer, history_after_line, history_at, capture_at}
use Rattle.vcd_script.specs.Run.{RunLaws}
use Rattle.vcd_script.proofs.shared.LinesAndHistory.{lines_follow}

-- the edits in force after all undone ones are made again
restored : List Edit → List Edit → List Edit
restored es [] = es
restored es (u ∷ us) = restored (u ∷ es) us

undo_restores : (es us : List Edit) → restored (drop 1 es) (take 1 es ++ us) ≡ restored es us
unfolding restored
undo_restores [] us = refl
undo_restores (e ∷ es) us = refl

redo_restores : (es us : List Edit) → restored (take 1 us ++ es) (drop 1 us) ≡ restored es us
unfolding restored
redo_restores es [] = refl
redo_restores es (u ∷ us) = refl

-- steps alone change the history
by_step : (P : History → Type 0) (h : History) (asked : Result Command LineError) → P h →
    ((s : Step) → asked ≡ Ok (commands.Step s) → P (history_after h s)) → P (history_after_command h asked)
by_step P h (Ok (commands.Step s)) stays stepped = stepped s refl
by_step P h asked stays stepped = stays

-- ---- what is accepted

no_fault : (found : Option EditError) → is_err (edit_reply found) ≡ false → found ≡ None
no_fault None accepted = refl
no_fault (Some fault) accepted = absurd (cc)

some_held : (held : ℕ) (refusal : StepError) → is_err (history_reply held refusal) ≡ false → 1 ≤ held
some_held zero refusal accepted = absurd (cc)
some_held (suc held) refusal accepted = omega arith

no_depth_fault : (bad small : Bool) →
    is_err (cond bad (Err (step_error_name refusals.BadDepth))
    (cond small (Err (step_error_name refusals.DepthTooSmall)) ok_reply)) ≡ false → (bad ≡ false) × (small ≡ false)
no_depth_fault false false accepted = (refl, refl)
no_depth_fault bad small accepted = absurd (cc)

module _ (c : Contents) (skipped depth : ℕ) (lines : List (List ℕ)) where
  abbrev at_line : ℕ → History
  at_line count = history_at c skipped depth lines count

  -- what the line after the first `count` asks for
  abbrev asked_after : ℕ → Result Command LineError
  asked_after count = command_of_line (capture_at c skipped depth lines count) (get_or lines count [])

  -- whether it is refused
  abbrev is_refused_after : ℕ → Bool
  is_refused_after count = is_err (line_answer c skipped (at_line count) (get_or lines count []))

  -- it asks for this step and is not refused
  abbrev IsStepAfter : ℕ → Step → Type 0
  IsStepAfter count s = (asked_after count ≡ Ok (commands.Step s)) × (is_refused_after count ≡ false)

  step_accepted : (count : ℕ) (s : Step) → IsStepAfter count s →
      is_err (command_reply (Ok (commands.Step s)) (capture_at c skipped depth lines count) skipped
      (at_line count).undoable (length (at_line count).undone)) ≡ false
  unfolding line_reply
  step_accepted count s is =
      sym (ap (λ (r : Result Command LineError). is_err
      (command_reply r (capture_at c skipped depth lines count) skipped
      (at_line count).undoable (length (at_line count).undone))) is.0) ∙ is.1

  some_undoable : (count : ℕ) → IsStepAfter count steps.Undo → 1 ≤ (at_line count).undoable
  some_undoable count is = some_held (at_line count).undoable refusals.NothingToUndo (step_accepted count steps.Undo is)

  some_undone : (count : ℕ) → IsStepAfter count steps.Redo → 1 ≤ length (at_line count).undone
  some_undone count is =
      some_held (length (at_line count).undone) refusals.NothingToRedo (step_accepted count steps.Redo is)

  new_depth_fits : (count d : ℕ) → IsStepAfter count (steps.Depth d) → (1 ≤ d) × (length (at_line count).undone ≤ d)
  new_depth_fits count d is =
      let fits = no_depth_fault (not (is_depth d)) (nat_lt d (length (at_line count).undone))
      (step_accepted count (steps.Depth d) is) in
      (grind (arith, nat_tests, fits.0), grind (arith, nat_tests, fits.1))

  -- ---- one more line

  -- past the last line there are only empty ones, which change nothing
  next_from : (h : History) (left : List (List ℕ)) (count : ℕ) →
      fold (history_after_line c skipped) h (take (suc count) left)
      ≡ history_after_line c skipped (fold (history_after_line c skipped) h (take count left)) (get_or left count [])
  unfolding line_reply command_of_line words_of
  next_from h [] zero = refl
  next_from h [] (suc count) = refl
  next_from h (line ∷ left) zero = refl
  next_from h (line ∷ left) (suc count) = next_from (history_after_line c skipped h line) left count

  history_next : (count : ℕ)
      → at_line (suc count) ≡ history_after_line c skipped (at_line count) (get_or lines count [])
  history_next count = next_from (initial_history depth) lines count

  -- refused or not
  next_is : (count : ℕ) (refused : Bool) → is_refused_after count ≡ refused
      → at_line (suc count) ≡ cond refused (at_line count) (history_after_command (at_line count) (asked_after count))
  next_is count refused is =
      history_next count
      ∙ ap (λ (r : Bool). cond r (at_line count) (history_after_command (at_line count) (asked_after count))) is

  after_step : (count : ℕ) (s : Step) → IsStepAfter count s → at_line (suc count) ≡ history_after (at_line count) s
  after_step count s is = next_is count false is.1 ∙ ap (history_after_command (at_line count)) is.0

  -- what holds of the history before a line, and after each step that it may make, holds after it
  next_holds : (P : History → Type 0) (count : ℕ) → P (at_line count) →
      ((s : Step) → IsStepAfter count s → P (history_after (at_line count) s)) → P (at_line (suc count))
  next_holds P count stays stepped =
      subst P (sym (history_next count))
      (cond_both (is_refused_after count) (at_line count) (history_after_command (at_line count) (asked_after count)) P
      (λ _. stays) (λ is. by_step P (at_line count) (asked_after count) stays (λ s asks. stepped s (asks, is))))

  -- ---- the edits in force

  -- each of these edits was made by a line after fewer than `count`, on the edits after it in the
  -- list
  unfoldable pub AreMade : (count : ℕ) → List Edit → Type 0
  AreMade count [] = Unit {0}
  AreMade count (e ∷ es) = ((i : ℕ) × (i < count) × IsStepAfter i (steps.Edit e)
      × ((at_line i).edits ≡ es)) × AreMade count es

  made_later : (count : ℕ) (es : List Edit) → AreMade count es → AreMade (suc count) es
  unfolding AreMade
  made_later count [] made = tt
  made_later count (e ∷ es) made =
      let at = made.0 in ((at.0, omega (arith, at.1), at.2, at.3), made_later count es made.1)

  -- those in force are among them
  made_in_force : (count : ℕ) (es us : List Edit) → AreMade count (restored es us) → AreMade count es
  unfolding AreMade restored
  made_in_force count es [] made = made
  made_in_force count es (u ∷ us) made = (made_in_force count (u ∷ es) us made).1

  -- none was refused
  pub none_refused : (count : ℕ) (e : Edit) (es : List Edit) → AreMade count (e ∷ es)
      → edit_fault e (replay c es) ≡ None
  unfolding AreMade
  none_refused count e es made =
      let at = made.0 in
      ap (λ (before : List Edit). edit_fault e (replay c before)) (sym at.3)
      ∙ no_fault (edit_fault e (capture_at c skipped depth lines at.0)) (step_accepted at.0 (steps.Edit e) at.2)

  -- so each leaves a sound capture
  replay_sound : (count : ℕ) (es : List Edit) → IsSound c → AreMade count es → IsSound (replay c es)
  unfolding AreMade replay
  replay_sound count [] sound made = sound
  replay_sound count (e ∷ es) sound made =
      effect_is_sound e (replay c es) (replay_sound count es sound made.1) (none_refused count e es made)

  abbrev AllMade : (count : ℕ) → History → Type 0
  AllMade count h = AreMade count (restored h.edits h.undone)

  made_by_step : (count : ℕ) (s : Step) → IsStepAfter count s → AllMade count (at_line count)
      → AllMade (suc count) (history_after (at_line count) s)
  unfolding AreMade restored
  made_by_step count (steps.Edit e) is made = (
    (count, omega arith, is, refl),
    made_later count _ (made_in_force count (at_line count).edits (at_line count).undone made),
  )
  made_by_step count steps.Undo is made =
      subst (AreMade (suc count)) (sym (undo_restores (at_line count).edits (at_line count).undone))
      (made_later count _ made)
  made_by_step count steps.Redo is made =
      subst (AreMade (suc count)) (sym (redo_restores (at_line count).edits (at_line count).undone))
      (made_later count _ made)
  made_by_step count (steps.Depth d) is made = made_later count _ made

  all_made : (count : ℕ) → AllMade count (at_line count)
  unfolding AreMade restored
  all_made zero = tt
  all_made (suc count) =
      next_holds (AllMade (suc count)) count (made_later count _ (all_made count))
      (λ s is. made_by_step count s is (all_made count))

  pub in_force_made : (count : ℕ) → AreMade count (at_line count).edits
  in_force_made count = made_in_force count (at_line count).edits (at_line count).undone (all_made count)

  -- ---- the undone edits

  -- where `es` are in force, each of these was undone by a line after fewer than `count`: before
  -- that line it was the last in force, on those before it in the list, which were on `es`
  AreUndone : (count : ℕ) → (es us : List Edit) → Type 0
  AreUndone count es [] = Unit {0}
  AreUndone count es (u ∷ us) = ((i : ℕ) × (i < count) × IsStepAfter i steps.Undo
      × ((at_line i).edits ≡ u ∷ es)) × AreUndone count (u ∷ es) us

  undone_later : (count : ℕ) (es us : List Edit) → AreUndone count es us → AreUndone (suc count) es us
  unfolding AreUndone
  undone_later count es [] undone = tt
  undone_later count es (u ∷ us) undone =
      let at = undone.0 in ((at.0, omega (arith, at.1), at.2, at.3), undone_later count (u ∷ es) us undone.1)

  undone_by_undo : (count : ℕ) (es us : List Edit) → IsStepAfter count steps.Undo → (at_line count).edits ≡ es
      → AreUndone count es us → AreUndone (suc count) (drop 1 es) (take 1 es ++ us)
  unfolding AreUndone
  undone_by_undo count [] us is now undone = undone_later count [] us undone
  undone_by_undo count (e ∷ es) us is now undone =
      ((count, omega arith, is, now), undone_later count (e ∷ es) us undone)

  undone_by_redo : (count : ℕ) (es us : List Edit) → AreUndone count es us
      → AreUndone count (take 1 us ++ es) (drop 1 us)
  unfolding AreUndone
  undone_by_redo count es [] undone = undone
  undone_by_redo count es (u ∷ us) undone = undone.1

  abbrev AllUndone : (count : ℕ) → History → Type 0
  AllUndone count h = AreUndone count h.edits h.undone

  undone_by_step : (count : ℕ) (s : Step) → IsStepAfter count s → AllUndone count (at_line count)
      → AllUndone (suc count) (history_after (at_line count) s)
  unfolding AreUndone
  undone_by_step count (steps.Edit e) is undone = tt
  undone_by_step count steps.Undo is undone =
      undone_by_undo count (at_line count).edits (at_line count).undone is refl undone
  undone_by_step count steps.Redo is undone =
      undone_later count _ _ (undone_by_redo count (at_line count).edits (at_line count).undone undone)
  undone_by_step count (steps.Depth d) is undone = undone_later count _ _ undone

  all_undone : (count : ℕ) → AllUndone count (at_line count)
  unfolding AreUndone
  all_undone zero = tt
  all_undone (suc count) =
      next_holds (AllUndone (suc count)) count (undone_later count _ _ (all_undone count))
      (λ s is. undone_by_step count s is (all_undone count))

  -- ---- how many can be undone

  undoable_within : (count : ℕ) → (at_line count).undoable ≤ length (at_line count).edits
  undoable_within count =
      (lines_follow c (initial_history depth) (initial_machine c depth) skipped (take count lines)
      (first_follows c depth)).undoable

  deep_after_step : (count : ℕ) (s : Step) → IsStepAfter count s → 1 ≤ (at_line count).depth
      → 1 ≤ (history_after (at_line count) s).depth
  deep_after_step count (steps.Depth d) is least = (new_depth_fits count d is).0
  deep_after_step count s is least = least

  deep : 1 ≤ depth → (count : ℕ) → 1 ≤ (at_line count).depth
  deep least zero = least
  deep least (suc count) =
      next_holds (λ h. 1 ≤ h.depth) count (deep least count)
      (λ s is. deep_after_step count s is (deep least count))

  -- each of the `count` lines after the first `before` makes an edit
  abbrev MakeEdits : (before count : ℕ) → Type 0
  MakeEdits before count = (i : ℕ) → before ≤ i → i < before + count → (e : Edit) × IsStepAfter i (steps.Edit e)

  edits_can_be_undone : (before count : ℕ) → MakeEdits before count
      → min count (at_line (before + count)).depth ≤ (at_line (before + count)).undoable
  edits_can_be_undone before zero make = omega arith
  edits_can_be_undone before (suc count) make =
      let last = make (before + count) (omega arith) (omega arith) in
      let next : suc (before + count) ≡ before + suc count = omega arith in
      let earlier = edits_can_be_undone before count (λ i from to. make i from (omega arith)) in
      let undoable = ap (λ (h : History). h.undoable) (after_step (before + count) (steps.Edit last.0) last.1) in
      let depth_is = ap (λ (h : History). h.depth) (after_step (before + count) (steps.Edit last.0) last.1) in
      subst (λ n. min (suc count) (at_line n).depth ≤ (at_line n).undoable) next
      (omega (arith, earlier, undoable, depth_is))

  undo_can_be_redone : (count : ℕ) → IsStepAfter count steps.Undo → 1 ≤ length (at_line (suc count)).undone
  undo_can_be_redone count is =
      let undone = ap (λ (h : History). length h.undone) (after_step count steps.Undo is) in
      let taken = length-take 1 (at_line count).edits in
      let both = length-append (take 1 (at_line count).edits) (at_line count).undone in
      omega (arith, undone, taken, both, some_undoable count is, undoable_within count)

  -- ---- and how many can be made again with them

  abbrev HasRoom : History → Type 0
  HasRoom h = h.undoable + length h.undone ≤ h.depth

  room_after_step : (count : ℕ) (s : Step) → IsStepAfter count s → HasRoom (at_line count)
      → HasRoom (history_after (at_line count) s)
  room_after_step count (steps.Edit e) is room = omega arith
  room_after_step count steps.Undo is room =
      let taken = length-take 1 (at_line count).edits in
      let both = length-append (take 1 (at_line count).edits) (at_line count).undone in
      omega (arith, room, some_undoable count is, taken, both)
  room_after_step count steps.Redo is room =
      let left = length-drop 1 (at_line count).undone in
      omega (arith, room, some_undone count is, left)
  room_after_step count (steps.Depth d) is room = let fits = (new_depth_fits count d is).1 in omega (arith, fits)

  has_room : (count : ℕ) → HasRoom (at_line count)
  has_room zero = omega arith
  has_room (suc count) = next_holds HasRoom count (has_room count) (λ s is. room_after_step count s is (has_room count))

  -- ---- an undo

  undone_edit : (j : ℕ) (es : List Edit) → (at_line j).edits ≡ es → 1 ≤ length es → AreMade j es →
      (i : ℕ) × (e : Edit) × (i < j) × IsStepAfter i (steps.Edit e) × ((at_line j).edits ≡ e ∷ (at_line i).edits)
      × (replay c (drop 1 (at_line j).edits) ≡ capture_at c skipped depth lines i)
  unfolding AreMade
  undone_edit j [] is some made = absurd (omega (arith, some))
  undone_edit j (e ∷ es) is some made =
      let at = made.0 in
      let now = is ∙ ap (λ (before : List Edit). e ∷ before) (sym at.3) in
      let before = ap (λ (now : List Edit). replay c (drop 1 now)) is ∙ ap (replay c) (sym at.3) in
      (at.0, e, at.1, at.2, now, before)

  undo_gives_back : (j : ℕ) → IsStepAfter j steps.Undo →
      (i : ℕ) × (e : Edit) × (i < j) × IsStepAfter i (steps.Edit e) × ((at_line j).edits ≡ e ∷ (at_line i).edits)
      × (capture_at c skipped depth lines (suc j) ≡ capture_at c skipped depth lines i)
  undo_gives_back j undo =
      let some : 1 ≤ length (at_line j).edits = omega (arith, some_undoable j undo, undoable_within j) in
      let found = undone_edit j (at_line j).edits refl some (in_force_made j) in
      let back = ap (λ (h : History). replay c h.edits) (after_step j steps.Undo undo) ∙ found.5 in
      (found.0, found.1, found.2, found.3, found.4, back)

  -- ---- a redo

  redone_edit : (count : ℕ) (es us : List Edit) → 1 ≤ length us → AreUndone count es us →
      (i : ℕ) × (i < count) × IsStepAfter i steps.Undo × (take 1 us ++ es ≡ (at_line i).edits)
  unfolding AreUndone
  redone_edit count es [] some undone = absurd (omega (arith, some))
  redone_edit count es (u ∷ us) some undone = let at = undone.0 in (at.0, at.1, at.2, sym at.3)

  redo_gives_back : (j : ℕ) → IsStepAfter j steps.Redo →
      (i : ℕ) × (i < j) × IsStepAfter i steps.Undo × ((at_line (suc j)).edits ≡ (at_line i).edits)
  redo_gives_back j redo =
      let found = redone_edit j (at_line j).edits (at_line j).undone (some_undone j redo) (all_undone j) in
      let again = ap (λ (h : History). h.edits) (after_step j steps.Redo redo) ∙ found.3 in
      (found.0, found.1, found.2, again)

  -- ---- the laws, with lines counted from 1

  pub laws : IsSound c → RunLaws c skipped depth lines
  laws sound =
      let all_sound : (count : ℕ) → IsSound (capture_at c skipped depth lines count) =
      λ count. replay_sound count (at_line count).edits sound (in_force_made count) in
      let last : Contents = capture_at c skipped depth lines (length lines) in
      record {
        sound = all_sound;
        undoable = undoable_within;
        bounded = has_room;
        unchanged = λ number least refused.
            let next : suc (number - 1) ≡ number = omega (arith, least) in
            ap at_line (sym next) ∙ next_is (number - 1) true refused;
        deep = λ count least. deep least count;
        edits_can_be_undone = λ before count make.
            edits_can_be_undone before count (λ i from to.
            let edit = make (suc i) (omega arith) (omega arith) in
            let before_it : suc i - 1 ≡ i = omega arith in
            (edit.0, subst (λ n. IsStepAfter n (steps.Edit edit.0)) before_it edit.1));
        undo_can_be_redone = λ number least undo.
            let next : suc (number - 1) ≡ number = omega (arith, least) in
            subst (λ n. 1 ≤ length (at_line n).undone) next (undo_can_be_redone (number - 1) undo);
        undo_restores = λ number least undo.
            let next : suc (number - 1) ≡ number = omega (arith, least) in
            let found = undo_gives_back (number - 1) undo in
            let before : found.0 ≡ suc found.0 - 1 = omega arith in
            let edit = subst (λ n. IsStepAfter n (steps.Edit found.1)) before found.3 in
            let now = found.4 ∙ ap (λ n. found.1 ∷ (at_line n).edits) before in
            let capture : ℕ → Contents = capture_at c skipped depth lines in
            let back = ap capture (sym next) ∙ found.5 ∙ ap capture before in
            (suc found.0, found.1, omega arith, omega (arith, found.2, next), edit, now, back);
        redo_restores = λ number least redo.
            let next : suc (number - 1) ≡ number = omega (arith, least) in
            let found = redo_gives_back (number - 1) redo in
            let before : found.0 ≡ suc found.0 - 1 = omega arith in
            let again : (at_line number).edits ≡ (at_line (suc found.0 - 1)).edits =
            ap (λ n. (at_line n).edits) (sym next) ∙ found.3 ∙ ap (λ n. (at_line n).edits) before in
            let undo = subst (λ n. IsStepAfter n steps.Undo) before found.2 in
            (suc found.0, omega arith, omega (arith, found.1, next), undo, again, ap (replay c) again);
        read_again = read_back last (all_sound (length lines));
        nothing_else = λ d count means.
            one_meaning SIGNAL_LIMIT (text last) d last count 0 means (read_back last (all_sound (length lines)));
      }

-- the laws of any lines on what a file means
pub run_laws : (depth : ℕ) (file : List ℕ) (c : Contents) (skipped : ℕ) (lines : List (List ℕ))
    → FileMeans SIGNAL_LIMIT file c skipped → RunLaws c skipped depth lines
run_laws depth file c skipped lines means =
    laws c skipped depth lines (subst IsSound (sym means.means) (meaning_is_sound file means.state means.accepted))
