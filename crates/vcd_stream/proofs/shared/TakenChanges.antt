-- What works make of the next change, or of none.
use Rattle.std.proofs.Common.{◌≡◌, ℕ, ◌+◌, ◌-◌, ◌<◌, ◌≤◌, true, false, if◌then◌else◌, List, [], ◌∷◌, map, refl}
use Rattle.std.proofs.Common.{ap}
use Rattle.std.proofs.lemmas.Bool.{le-leb, lt-leb, lt-ltb, le-ltb}
use Rattle.vcd_core.specs.declared.bit.Bit.{Bit}
use Rattle.vcd_core.specs.declared.wave.Change.{Change}
use Rattle.vcd_core.specs.Wave.{change}
use Rattle.vcd_edit.specs.inside.plans.RemainingChanges.{begins_steady, steady_changes}
use Rattle.vcd_stream.specs.declared.stage.ReplacedTicks.{ReplacedTicks}
use Rattle.vcd_stream.specs.Stages.{later_changes, earlier_change, shown_changes, begun, replaced_changes}
use Rattle.vcd_stream.specs.Stages.{last_at_ticks}

-- ---- a run

pub run_stays : (ticks : ℕ) (c next : Change) (more : List Change) → begins_steady ticks c (next ∷ more) ≡ true
    → steady_changes ticks (c ∷ next ∷ more) ≡ c ∷ steady_changes ticks (next ∷ more)
unfolding steady_changes
run_stays ticks c next more is =
    ap (λ b. if b then c ∷ steady_changes ticks (next ∷ more) else steady_changes ticks (next ∷ more)) is

pub run_goes : (ticks : ℕ) (c next : Change) (more : List Change) → begins_steady ticks c (next ∷ more) ≡ false
    → steady_changes ticks (c ∷ next ∷ more) ≡ steady_changes ticks (next ∷ more)
unfolding steady_changes
run_goes ticks c next more is =
    ap (λ b. if b then c ∷ steady_changes ticks (next ∷ more) else steady_changes ticks (next ∷ more)) is

pub last_run : (ticks : ℕ) (c : Change) → steady_changes ticks (c ∷ []) ≡ c ∷ []
unfolding steady_changes
last_run ticks c = refl

-- ---- a later change

pub later_near : (by end : ℕ) (c : Change) (cs : List Change) → c.tick + by ≤ end
    → later_changes by end (c ∷ cs) ≡ change (c.tick + by) c.value ∷ later_changes by end cs
unfolding later_changes
later_near by end c cs near =
    ap (λ b. if b then change (c.tick + by) c.value ∷ later_changes by end cs else later_changes by end cs)
    (le-leb (c.tick + by) end near)

pub later_far : (by end : ℕ) (c : Change) (cs : List Change) → end < c.tick + by
    → later_changes by end (c ∷ cs) ≡ later_changes by end cs
unfolding later_changes
later_far by end c cs far =
    ap (λ b. if b then change (c.tick + by) c.value ∷ later_changes by end cs else later_changes by end cs)
    (lt-leb (c.tick + by) end far)

-- ---- replaced ticks

module _ (r : ReplacedTicks) where
  pub hidden : (now : List Bit) (c : Change) (cs : List Change) → c.tick - r.by ≤ r.until
      → shown_changes r now (c ∷ cs) ≡ shown_changes r c.value cs
  unfolding shown_changes
  hidden now c cs early =
      ap (λ b. if b then shown_changes r c.value cs else change r.until now ∷ map (earlier_change r.by) (c ∷ cs))
      (le-leb (c.tick - r.by) r.until early)

  pub shown : (now : List Bit) (c : Change) (cs : List Change) → r.until < c.tick - r.by
      → shown_changes r now (c ∷ cs) ≡ change r.until now ∷ map (earlier_change r.by) (c ∷ cs)
  unfolding shown_changes
  shown now c cs late =
      ap (λ b. if b then shown_changes r c.value cs else change r.until now ∷ map (earlier_change r.by) (c ∷ cs))
      (lt-leb (c.tick - r.by) r.until late)

  pub shown_last : (now : List Bit) → r.until ≤ r.end → shown_changes r now [] ≡ change r.until now ∷ []
  unfolding shown_changes
  shown_last now near = ap (λ b. if b then change r.until now ∷ [] else []) (le-leb r.until r.end near)

  pub hidden_to_end : (now : List Bit) → r.end < r.until → shown_changes r now [] ≡ []
  unfolding shown_changes
  hidden_to_end now far = ap (λ b. if b then change r.until now ∷ [] else []) (lt-leb r.until r.end far)

  pub begun_some : (value : List Bit) (cs : List Change) → r.from < r.until
      → begun r value cs ≡ change r.from value ∷ cs
  begun_some value cs some = ap (λ b. if b then change r.from value ∷ cs else cs) (lt-ltb r.from r.until some)

  pub begun_none : (value : List Bit) (cs : List Change) → r.until ≤ r.from → begun r value cs ≡ cs
  begun_none value cs none = ap (λ b. if b then change r.from value ∷ cs else cs) (le-ltb r.from r.until none)

  pub replaced_to_come : (value now : List Bit) (c : Change) (cs : List Change) → c.tick < r.from
      → replaced_changes r value now (c ∷ cs) ≡ c ∷ replaced_changes r value c.value cs
  unfolding replaced_changes
  replaced_to_come value now c cs early =
      ap (λ b. if b then c ∷ replaced_changes r value c.value cs else begun r value (shown_changes r now (c ∷ cs)))
      (lt-ltb c.tick r.from early)

  pub replaced_begins : (value now : List Bit) (c : Change) (cs : List Change) → r.from ≤ c.tick
      → replaced_changes r value now (c ∷ cs) ≡ begun r value (shown_changes r now (c ∷ cs))
  unfolding replaced_changes
  replaced_begins value now c cs late =
      ap (λ b. if b then c ∷ replaced_changes r value c.value cs else begun r value (shown_changes r now (c ∷ cs)))
      (le-ltb c.tick r.from late)

-- ---- changes at one tick

pub last_over : (h c : Change) (cs : List Change) → h.tick < c.tick
    → last_at_ticks h (c ∷ cs) ≡ h ∷ last_at_ticks c cs
unfolding last_at_ticks
last_over h c cs over = ap (λ b. if b then h ∷ last_at_ticks c cs else last_at_ticks c cs) (lt-ltb h.tick c.tick over)

pub last_within : (h c : Change) (cs : List Change) → c.tick ≤ h.tick → last_at_ticks h (c ∷ cs) ≡ last_at_ticks c cs
unfolding last_at_ticks
last_within h c cs within =
    ap (λ b. if b then h ∷ last_at_ticks c cs else last_at_ticks c cs) (le-ltb h.tick c.tick within)
