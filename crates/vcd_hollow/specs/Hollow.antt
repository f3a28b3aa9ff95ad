-- Sessions on a capture that lacks the waves of silent signals. The project's own.
use Rattle.std.specs.Prelude.{ℕ, ◌≡◌, Bool, if◌then◌else◌, List, [], ◌∷◌, length, map, Some, None}
use Rattle.std.specs.List.{range_with_len}
use Rattle.vcd_core.specs.Contents.{Contents, signal_at}
use Rattle.vcd_core.specs.Outline.{outline}
use Rattle.vcd_core.specs.Sound.{IsSound}
use Rattle.vcd_edit.specs.declared.edit.Edit.{Edit}
use Rattle.vcd_hollow.specs.OtherWaves.{OtherChanges, with_others, waves_read, HaveOwn}
use Rattle.vcd_journal.specs.declared.step.Step.{Step}
use Rattle.vcd_journal.specs.declared.step.Answer.{Answer}
use Rattle.vcd_journal.specs.History.{initial_history, replay}
use Rattle.vcd_journal.specs.Machine.{Machine, initial_machine, AreSteps}
use Rattle.vcd_journal.specs.HistoryMachine.{machine_of, history_after_all}
use Rattle.vcd_hollow.specs.Origins.{origins}
use Rattle.vcd_hollow.specs.Cuts.{cuts}

-- in place of its changes, a silent signal has none
abbrev pub emptied : (silent : ℕ → Bool) → ℕ → OtherChanges
emptied silent k = if silent k then Some [] else None

-- in place of its changes, a silent signal has those of the signal at its position in a capture
abbrev pub filled : (silent : ℕ → Bool) → Contents → ℕ → OtherChanges
filled silent d k = if silent k then Some (signal_at d k).changes else None

-- the capture without the changes of silent signals
abbrev pub hollow : (silent : ℕ → Bool) → Contents → Contents
hollow silent c = with_others (map (emptied silent) (range_with_len 0 (length c.signals))) c

-- each edit reads only signals that have their own changes, wherever they then stand, if signals of
-- the first capture have these other changes
unfoldable pub ReadOwn : (ℕ → OtherChanges) → (count : ℕ) → List Edit → Type 0
ReadOwn other count [] = Unit {0}
ReadOwn other count (e ∷ es) =
    HaveOwn (map other (origins count es)) (waves_read e) × ReadOwn other count es

-- ---- the laws

-- the same edits make of captures of one outline captures of one outline
abbrev pub ReplayKeepsOutlines : Type 0
ReplayKeepsOutlines =
    (c d : Contents) (es : List Edit) → outline c ≡ outline d
    → outline (replay c es) ≡ outline (replay d es)

-- steps may have the same answers on another capture of the same outline, and lead to the machine
-- of the same history, on that capture
abbrev pub StepsAreOfOutline : Type 0
StepsAreOfOutline =
    (c d : Contents) (depth : ℕ) (asked : List Step) (answers : List Answer) (m : Machine)
    → outline c ≡ outline d → AreSteps (initial_machine c depth) asked answers m
    → AreSteps (initial_machine d depth) asked answers
    (machine_of d (history_after_all (initial_history depth) asked answers))

-- edits that read no silent wave make of the hollow capture what they make of the whole one,
-- without the changes of the silent signals that are left
abbrev pub ReplayOnHollow : Type 0
ReplayOnHollow =
    (silent : ℕ → Bool) (c : Contents) (es : List Edit)
    → ReadOwn (emptied silent) (length c.signals) es
    → replay (hollow silent c) es
    ≡ with_others (map (emptied silent) (origins (length c.signals) es)) (replay c es)

-- and the whole one is known from that: a silent signal has the changes that the cuts alone leave
abbrev pub SilentAreCutAlone : Type 0
SilentAreCutAlone =
    (silent : ℕ → Bool) (c : Contents) (es : List Edit)
    → ReadOwn (emptied silent) (length c.signals) es
    → replay c es
    ≡ with_others (map (filled silent (replay c (cuts es))) (origins (length c.signals) es))
    (replay (hollow silent c) es)

-- a sound capture is sound without the changes of silent signals
abbrev pub HollowIsSound : Type 0
HollowIsSound = (silent : ℕ → Bool) (c : Contents) → IsSound c → IsSound (hollow silent c)
