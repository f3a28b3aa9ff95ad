-- Stages of a stream: what each is to give for the changes to come.
use Rattle.std.specs.Prelude.{◌≡◌, ℕ, ◌+◌, ◌-◌, ◌==◌, ◌||◌, nat_le, nat_lt, Bool}
use Rattle.std.specs.Prelude.{if◌then◌else◌, List, [], ◌∷◌, ◌++◌, map}
use Rattle.vcd_core.specs.declared.bit.Bit.{Bit}
use Rattle.vcd_core.specs.declared.wave.Change.{Change}
use Rattle.vcd_core.specs.Wave.{change}
use Rattle.vcd_edit.specs.Operators.{not_bit}
use Rattle.vcd_edit.specs.inside.plans.RemainingChanges.{without_repeats, mapped_change}
use Rattle.vcd_edit.specs.inside.plans.RemainingChanges.{steady_changes}
use Rattle.vcd_stream.specs.declared.stage.ChangeTo.{ChangeTo}
use Rattle.vcd_stream.specs.declared.stage.ReplacedTicks.{ReplacedTicks}
use Rattle.vcd_stream.specs.declared.stage.Stage.{Stage}
use Rattle.vcd_stream.specs.declared.stage.Work.{Work}
use Rattle.vcd_stream.specs.declared.stage.Work.TheVariants.{Invert, Deglitch, Later, Replace, Hide}
use Rattle.vcd_stream.specs.declared.stage.Work.TheVariants.{Earlier, OfFile}

-- a change, with the letters of its value
abbrev pub seen : {V : Type 0} → (V → List Bit) → ChangeTo V → Change
seen letters c = change c.tick (letters c.value)

-- all of some changes
abbrev pub all_seen : {V : Type 0} → (V → List Bit) → List (ChangeTo V) → List Change
all_seen letters cs = map (seen letters) cs

-- ---- the changes of each work, where some may repeat a value

-- whether the run from a tick on stays if the next change is at `next`
abbrev pub begins_steady_before : ℕ → ℕ → ℕ → Bool
begins_steady_before ticks tick next = tick == 0 || nat_le ticks (next - tick)

-- each change some ticks later, up to the end
unfoldable pub later_changes : ℕ → ℕ → List Change → List Change
later_changes by end [] = []
later_changes by end (c ∷ cs) =
    if nat_le (c.tick + by) end then change (c.tick + by) c.value ∷ later_changes by end cs
    else later_changes by end cs

-- a change some ticks earlier
abbrev pub earlier_change : ℕ → Change → Change
earlier_change by c = change (c.tick - by) c.value

-- from replaced ticks on, where `now` is the value so far, which they hide
unfoldable pub shown_changes : ReplacedTicks → List Bit → List Change → List Change
shown_changes r now [] = if nat_le r.until r.end then change r.until now ∷ [] else []
shown_changes r now (c ∷ cs) =
    if nat_le (c.tick - r.by) r.until then shown_changes r c.value cs
    else change r.until now ∷ map (earlier_change r.by) (c ∷ cs)

-- the change to the value of replaced ticks, if they have one, before others
abbrev pub begun : ReplacedTicks → List Bit → List Change → List Change
begun r value cs = if nat_lt r.from r.until then change r.from value ∷ cs else cs

-- before replaced ticks and after them
unfoldable pub replaced_changes : ReplacedTicks → List Bit → List Bit → List Change → List Change
replaced_changes r value now [] = begun r value (shown_changes r now [])
replaced_changes r value now (c ∷ cs) =
    if nat_lt c.tick r.from then c ∷ replaced_changes r value c.value cs
    else begun r value (shown_changes r now (c ∷ cs))

-- of changes in the order of ticks, the last one at each tick; `held` is the first
unfoldable pub last_at_ticks : Change → List Change → List Change
last_at_ticks held [] = held ∷ []
last_at_ticks held (c ∷ cs) =
    if nat_lt held.tick c.tick then held ∷ last_at_ticks c cs else last_at_ticks c cs

-- the changes of a work for those to come
unfoldable pub made_changes : {V : Type 0} → (V → List Bit) → Work V → List Change → List Change
made_changes letters Invert cs = map (mapped_change (map not_bit)) cs
made_changes letters (Deglitch ticks held) cs = steady_changes ticks (seen letters held ∷ cs)
made_changes letters (Later by end) cs = later_changes by end cs
made_changes letters (Replace ticks value now) cs =
    replaced_changes ticks (letters value) (letters now) cs
made_changes letters (Hide ticks now) cs = shown_changes ticks (letters now) cs
made_changes letters (Earlier by) cs = map (earlier_change by) cs
made_changes letters (OfFile held) cs = last_at_ticks (seen letters held) cs

-- ---- stages

-- the changes that a stage is to give for all that come, up to the last
unfoldable pub given : {V : Type 0} → (V → List Bit) → Stage V → List Change → List Change
given letters s cs = without_repeats (letters s.last) (made_changes letters s.work cs)

-- after a change is taken, what was given and what is to be given is the same, whatever follows
abbrev pub GoesOn : {V : Type 0} → (V → List Bit) → List (ChangeTo V) → List (ChangeTo V)
    → Stage V → ChangeTo V → Stage V → Type 0
GoesOn letters old new before c after =
    (more : List Change) → all_seen letters new ++ given letters after more
    ≡ all_seen letters old ++ given letters before (seen letters c ∷ more)

-- the stages one into the next, the first one first
unfoldable pub given_by_all : {V : Type 0} → (V → List Bit) → List (Stage V) → List Change
    → List Change
given_by_all letters [] cs = cs
given_by_all letters (s ∷ ss) cs = given_by_all letters ss (given letters s cs)
