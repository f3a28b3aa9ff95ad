-- How ticks go on after one, where cuts take some out.
use Rattle.std.specs.Prelude.{◌≡◌, ◌+◌, ℕ, if◌then◌else◌, List}
use Rattle.vcd_amend.specs.Retimed.{new_tick}
use Rattle.vcd_amend.specs.RetimedCopy.{is_cut_by}
use Rattle.vcd_amend.specs.declared.cut_ticks.CutTicks.{CutTicks}
use Rattle.vcd_amend.specs.declared.cut_ticks.RetimedTick.{RetimedTick}

-- how many ticks are left before the one that comes `more` ticks after this one, if all between are
-- cut out with it, or none is
abbrev pub later : RetimedTick → (more : ℕ) → ℕ
later found more = if found.is_cut then found.tick else found.tick + more

-- `more` ticks after this one it goes on so
abbrev pub GoesOn : List CutTicks → (tick : ℕ) → RetimedTick → (more : ℕ) → Type 0
GoesOn cuts tick found more = (is_cut_by cuts (tick + more) ≡ found.is_cut)
    × (new_tick (is_cut_by cuts) (tick + more) ≡ later found more)
