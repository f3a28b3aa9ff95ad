-- The cuts among edits, which together move ticks as one. The project's own.
use Rattle.std.specs.Prelude.{ℕ, ◌≡◌, ◌≤◌, ◌<◌, ◌+◌, ◌-◌, nat_lt, if◌then◌else◌, List, [], ◌∷◌, map}
use Rattle.vcd_core.specs.Contents.{Contents, signal_value}
use Rattle.vcd_core.specs.Sound.{IsSound}
use Rattle.vcd_edit.specs.declared.edit.Edit.{Edit}
use Rattle.vcd_edit.specs.declared.edit.Edit.TheVariants.{Cut}
use Rattle.vcd_edit.specs.Effect.{with_values}
use Rattle.vcd_journal.specs.History.{replay}

-- the cuts among edits
unfoldable pub cuts : List Edit → List Edit
cuts [] = []
cuts (Cut from to ∷ es) = Cut from to ∷ cuts es
cuts (e ∷ es) = cuts es

-- where a tick after the cuts among edits was before them
unfoldable pub tick_before_cuts : List Edit → ℕ → ℕ
tick_before_cuts [] t = t
tick_before_cuts (Cut from to ∷ es) t =
    tick_before_cuts es (if nat_lt t from then t else t + (to - from))
tick_before_cuts (e ∷ es) t = tick_before_cuts es t

-- each cut among edits takes at least one tick out, before the end of the capture on which it is
-- made
unfoldable pub CutsFit : Contents → List Edit → Type 0
CutsFit c [] = Unit {0}
CutsFit c (Cut from to ∷ es) = (from < to) × (to ≤ (replay c es).end) × CutsFit c es
CutsFit c (e ∷ es) = CutsFit c es

-- ---- the laws

-- cuts keep the order of ticks
abbrev pub CutsKeepOrder : Type 0
CutsKeepOrder =
    (es : List Edit) (t u : ℕ) → t < u → tick_before_cuts es t < tick_before_cuts es u

-- all cuts together are one: each tick that is left has the values that were at its tick before
abbrev pub CutsAreOne : Type 0
CutsAreOne =
    (c : Contents) (es : List Edit) → IsSound c → CutsFit c es
    → replay c (cuts es) ≡ record c {
      end = (replay c es).end;
      signals = map (λ s.
          with_values (replay c es).end (λ t. signal_value s (tick_before_cuts es t)) s) c.signals;
    }
