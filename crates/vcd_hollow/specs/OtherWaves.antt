-- What edits make of a capture with other waves. The project's own.
use Rattle.std.specs.Prelude.{ℕ, ◌≡◌, ◌≤◌, ◌-◌, List, [], ◌∷◌, length, slice_index_or, Option, Some}
use Rattle.std.specs.Prelude.{None, option_map}
use Rattle.std.specs.List.{AllByRecursion, remove}
use Rattle.vcd_core.specs.declared.wave.Change.{Change}
use Rattle.vcd_core.specs.Contents.{Contents, SignalContents}
use Rattle.vcd_core.specs.Outline.{outline}
use Rattle.vcd_edit.specs.declared.edit.Edit.{Edit}
use Rattle.vcd_edit.specs.declared.edit.Edit.TheVariants.{Remove, Invert, Shift, Cut, Deglitch}
use Rattle.vcd_edit.specs.declared.edit.Edit.TheVariants.{Force, Derive}
use Rattle.vcd_edit.specs.Effect.{signal_after_cut, formula, effect}
use Rattle.vcd_edit.specs.EditFaults.{operands, edit_fault}

-- ---- other waves

-- what a signal has in place of its changes: none if it keeps its own
abbrev pub OtherChanges : Type 0
OtherChanges = Option (List Change)

-- the signal with these changes, or with its own
abbrev pub with_other : OtherChanges → SignalContents → SignalContents
with_other None s = s
with_other (Some changes) s = record s { changes = changes }

-- the signals, the first ones with these changes, one after another, the others with their own
abbrev pub signals_with_others : List OtherChanges → List SignalContents → List SignalContents
signals_with_others [] signals = signals
signals_with_others (other ∷ others) [] = []
signals_with_others (other ∷ others) (s ∷ signals) =
    with_other other s ∷ signals_with_others others signals

-- the capture with these signals
abbrev pub with_others : List OtherChanges → Contents → Contents
with_others others c = record c { signals = signals_with_others others c.signals }

-- ---- edits that do not read them

-- the positions of the signals whose changes an edit reads; a cut reads none, as it moves each wave
-- by itself
abbrev pub waves_read : Edit → List ℕ
waves_read (Invert k) = k ∷ []
waves_read (Shift k by) = k ∷ []
waves_read (Deglitch k ticks) = k ∷ []
waves_read (Force k from to value) = k ∷ []
waves_read (Derive word rule) = operands (formula rule)
waves_read e = []

-- the signals at these positions keep their own changes
abbrev pub HaveOwn : List OtherChanges → List ℕ → Type 0
HaveOwn others = AllByRecursion (λ k. slice_index_or others k None ≡ None)

-- what a cut makes of the changes that a signal has in place of its own; `end` is the end after it
abbrev pub other_after_cut : (end from to : ℕ) → OtherChanges → SignalContents → OtherChanges
other_after_cut end from to other s =
    option_map (λ changes. (signal_after_cut end from to (record s { changes = changes })).changes)
    other

-- the same for signals one after another
abbrev pub others_after_cut : (end from to : ℕ) → List OtherChanges → List SignalContents
    → List OtherChanges
others_after_cut end from to (other ∷ others) (s ∷ signals) =
    other_after_cut end from to other s ∷ others_after_cut end from to others signals
others_after_cut end from to others signals = []

-- what is left of other changes after an edit of a capture with them: those of a removed signal go
-- with it, and a derived signal comes after all of them
abbrev pub others_after : Edit → Contents → List OtherChanges → List OtherChanges
others_after (Remove k) c others = remove others k
others_after (Cut from to) c others =
    others_after_cut (c.end - (to - from)) from to others c.signals
others_after e c others = others

-- ---- the laws

-- the outline alone decides whether an edit is refused
abbrev pub FaultIsOfOutline : Type 0
FaultIsOfOutline =
    (e : Edit) (c d : Contents) → outline c ≡ outline d → edit_fault e c ≡ edit_fault e d

-- and what the outline is after the edit
abbrev pub EffectKeepsOutlines : Type 0
EffectKeepsOutlines =
    (e : Edit) (c d : Contents) → outline c ≡ outline d
    → outline (effect e c) ≡ outline (effect e d)

-- other waves leave the outline
abbrev pub OthersKeepOutline : Type 0
OthersKeepOutline =
    (others : List OtherChanges) (c : Contents) → outline (with_others others c) ≡ outline c

-- an edit that reads none of the other waves makes the same of the capture with them as of the
-- capture itself, with what is left of them
abbrev pub EffectWithOthers : Type 0
EffectWithOthers =
    (e : Edit) (others : List OtherChanges) (c : Contents) → length others ≤ length c.signals
    → HaveOwn others (waves_read e)
    → effect e (with_others others c) ≡ with_others (others_after e c others) (effect e c)

-- those that are left are no more than the signals that are left
abbrev pub OthersFitEffect : Type 0
OthersFitEffect =
    (e : Edit) (others : List OtherChanges) (c : Contents) → length others ≤ length c.signals
    → length (others_after e c others) ≤ length (effect e c).signals
