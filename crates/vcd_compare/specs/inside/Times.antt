-- The times of a request, before it is decided whether they are whole ticks.
use Rattle.std.specs.Prelude.{ℕ, ◌-◌, ◌^◌, ◌&&◌, min, max, nat_lt, Bool, false, Option, Some, None}
use Rattle.std.specs.Option.{unwrap_or}
use Rattle.vcd_core.specs.declared.capture.Timescale.{Timescale}
use Rattle.vcd_compare.specs.Captures.{finer, factor_of}
use Rattle.vcd_compare.specs.declared.timescales.Scale.{Scale}
use Rattle.vcd_compare.specs.declared.times.AskedTicks.{AskedTicks}
use Rattle.vcd_compare.specs.declared.wave_pair.Bounds.{Bounds}

-- how waves are compared, and from which tick on; 0 where a time is no whole tick
abbrev pub asked_bounds : AskedTicks → Bounds
asked_bounds a =
    record { tolerance = unwrap_or a.tolerance 0; first = unwrap_or a.first 0 }

-- the last tick that is compared
abbrev pub asked_most : AskedTicks → ℕ
asked_most a = unwrap_or a.last 0

-- whether a window goes past the lesser of two ends, which differ by more than the tolerance
abbrev pub are_apart : (tolerance : ℕ) → (last : Option ℕ) → (end other : ℕ) → Bool
are_apart tolerance None end other = false
are_apart tolerance (Some last) end other = nat_lt (min end other) last
    && nat_lt tolerance (max end other - min end other)

-- the ticks of a comparison of captures with these timescales
abbrev pub scale_between : (a b : Option Timescale) → Scale
scale_between a b = record {
  timescale = finer a b;
  first = min (factor_of (finer a b) a) (2 ^ 64 - 1);
  second = min (factor_of (finer a b) b) (2 ^ 64 - 1);
}
