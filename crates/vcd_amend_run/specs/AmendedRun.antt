-- What a run leaves of the signals of a file, and what it derives. The project's own.
use Rattle.std.specs.Prelude.{◌≡◌, ℕ, Bool, List, ◌++◌, map}
use Rattle.std.specs.Prelude.{drop, length, count_by, All, Option, option_map}
use Rattle.std.specs.List.{range_with_len}
use Rattle.vcd_core.specs.Contents.{Contents, SignalContents}
use Rattle.vcd_core.specs.SignalOrigins.{signal_from}
use Rattle.vcd_core.specs.Sound.{IsSound, IsSoundSignal}
use Rattle.vcd_text.specs.Grammar.{ParseState, kept_variables}
use Rattle.vcd_text.specs.Grammar.{is_skipped}
use Rattle.vcd_text.specs.Meaning.{meaning}
use Rattle.vcd_amend.specs.GivenCodes.{AreSignalsOf, signals_left}
use Rattle.vcd_edit.specs.declared.edit.Edit.{Edit}
use Rattle.vcd_hollow.specs.OtherWaves.{with_other}
use Rattle.vcd_journal.specs.History.{replay}
use Rattle.vcd_hollow.specs.Origins.{origins}
use Rattle.vcd_hollow.specs.Cuts.{cuts}
use Rattle.vcd_hollow.specs.Hollow.{filled, hollow}
use Rattle.vcd_hollow.specs.HollowRun.{last_edits, last_capture, IsSameRun}

-- ---- what edits leave

-- what edits leave of each signal of a first capture of `count`, in the capture after them, or none
abbrev pub signals_remaining : (count : ℕ) → List Edit → (after : Contents)
    → List (Option SignalContents)
signals_remaining count es after =
    map (λ k. signal_from k (origins count es) after.signals) (range_with_len 0 count)

-- the derived signals of the capture after edits
abbrev pub signals_derived : (count : ℕ) → List Edit → (after : Contents) → List SignalContents
signals_derived count es after = drop (length (origins count es)) after.signals

-- ---- the laws of replays

-- a replay has what is left of the first signals, in their order, and then the derived ones
abbrev pub RemainingThenDerived : Type 0
RemainingThenDerived =
    (c : Contents) (es : List Edit)
    → signals_left (signals_remaining (length c.signals) es (replay c es))
    ++ signals_derived (length c.signals) es (replay c es)
    ≡ (replay c es).signals

-- a file with the state `t` means what the cuts among edits alone make of what a file with the
-- state `s` means, but for its header, and has as many skipped variables
pub record IsAfterCuts (s t : ParseState) (es : List Edit) : Type 0 where
  pub means : meaning t ≡ record (replay (meaning s) (cuts es)) { header = t.header }
  pub left_out : count_by is_skipped t.declared ≡ count_by is_skipped s.declared

-- a replay on what a file means leaves of each kept variable a signal that can be left of it, or
-- none, in the file after the cuts
abbrev pub RemainingAreOfVariables : Type 0
RemainingAreOfVariables =
    (s t : ParseState) (es : List Edit) → IsSound (replay (meaning s) es) → IsAfterCuts s t es
    → AreSignalsOf t (kept_variables t.declared)
    (signals_remaining (length (meaning s).signals) es (replay (meaning s) es))
    × All (IsSoundSignal t.tick)
    (signals_derived (length (meaning s).signals) es (replay (meaning s) es))

-- ---- the laws of runs

-- what a run leaves of the first signals is known from the run on the hollow capture: a silent
-- signal that is left has the changes that the cuts alone leave, without a cut its first ones
abbrev pub RemainingByHollow : Type 0
RemainingByHollow =
    (silent : ℕ → Bool) (c : Contents) (skipped depth : ℕ) (lines : List (List ℕ))
    → IsSameRun silent c skipped depth lines →
    let count : ℕ = length c.signals in
    let es : List Edit = last_edits c skipped depth lines in
    let whole : Contents = last_capture c skipped depth lines in
    let last_hollow : Contents = last_capture (hollow silent c) skipped depth lines in
    (signals_remaining count es whole
    ≡ map (λ k. option_map (with_other (filled silent (replay c (cuts es)) k))
    (signal_from k (origins count es) last_hollow.signals)) (range_with_len 0 count))
    × (signals_derived count es whole ≡ signals_derived count es last_hollow)
