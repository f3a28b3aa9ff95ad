-- Signals that come from those of a first capture: each has there a position, its origin. The
-- project's own.
use Rattle.std.specs.Prelude.{ℕ, suc, ◌≡◌, ◌≤◌, ◌<◌, nat_eq, if◌then◌else◌, List, [], ◌∷◌}
use Rattle.std.specs.Prelude.{Option, Some, None}
use Rattle.vcd_core.specs.Contents.{Contents, SignalContents, signal_at}

-- positions rise strictly, from `floor` on, and are below `count`
abbrev pub RiseWithin : (floor count : ℕ) → List ℕ → Type 0
RiseWithin floor count [] = Unit {0}
RiseWithin floor count (k ∷ ks) = (floor ≤ k) × (k < count) × RiseWithin (suc k) count ks

-- two signals have the same scopes, kind and width
abbrev pub HaveSamePlace : SignalContents → SignalContents → Type 0
HaveSamePlace s t = (s.scopes ≡ t.scopes) × (s.kind ≡ t.kind) × (s.width ≡ t.width)

-- the first signals have, one after another, the place that the signals of a capture at these
-- positions have
abbrev pub ComeFrom : Contents → List ℕ → List SignalContents → Type 0
ComeFrom c [] signals = Unit {0}
ComeFrom c (k ∷ ks) [] = ⊥
ComeFrom c (k ∷ ks) (s ∷ signals) = HaveSamePlace s (signal_at c k) × ComeFrom c ks signals

-- the signal with this origin, of signals that have these origins one after another, or none
abbrev pub signal_from : (k : ℕ) → (origins : List ℕ) → List SignalContents → Option SignalContents
signal_from k (j ∷ origins) (s ∷ signals) =
    if nat_eq k j then Some s else signal_from k origins signals
signal_from k origins signals = None
