-- What a comparison leaves out, while it is counted.
use Rattle.std.specs.Prelude.{◌≡◌, ◌-◌, ◌^◌, min, List, map}
use Rattle.vcd_core.specs.declared.capture.TheConstants.{END_LIMIT}
use Rattle.vcd_text.specs.HeardChanges.{HeardChange}
use Rattle.vcd_text.specs.HeardLaws.{TicksRise}
use Rattle.vcd_text.specs.declared.reading.heard_changes.ChangeTarget.{ChangeTarget}
use Rattle.vcd_compare.specs.LeftOut.{replaced_of}
use Rattle.vcd_compare.specs.inside.LastTicks.{tick_kept, tick_after}
use Rattle.vcd_compare.specs.declared.last_ticks.TheConstants.{NO_TICK}
use Rattle.vcd_compare.specs.declared.last_ticks.LastTicks.{LastTicks}
use Rattle.vcd_compare.specs.declared.left_out.LeftOut.{LeftOut}

-- some changes come in the order of ticks, which a file can have
abbrev pub AreInOrder : List HeardChange → Type 0
AreInOrder heard = TicksRise 0 END_LIMIT (map (λ h. h.tick) heard)

-- the changes so far were counted, as far as a `u64` goes
pub record HasCounted (heard : List HeardChange) (left_out : LeftOut) (last_ticks : LastTicks)
    : Type 0 where
  pub replaced : left_out.replaced ≡ min (replaced_of heard) (2 ^ 64 - 1)
  pub ticks : (target : ChangeTarget)
      → tick_kept last_ticks target ≡ tick_after NO_TICK target heard
