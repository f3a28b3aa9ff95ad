-- Names that are mapped, factors of timescales, and windows, worked out.
use Rattle.std.proofs.Common.{◌≡◌, Some, None, refl, true, false}
use Rattle.std.specs.Prelude.{Ok, Err, codes}
use Rattle.vcd_core.specs.declared.capture.TimeUnit.TheVariants.{Nanosecond, Picosecond}
use Rattle.vcd_core.specs.declared.capture.Timescale.{Timescale}
use Rattle.vcd_compare.specs.Captures.{is_name_end, finer, factor_of}
use Rattle.vcd_compare.specs.Comparisons.{bounds_between}
use Rattle.vcd_compare.specs.Differences.{ticks_between}
use Rattle.vcd_compare.specs.declared.request.CompareRefusal.TheVariants as refusals

-- a name goes on with a `.` or a `[`
of_scope : is_name_end (codes ".clk") ≡ true
of_scope = refl

of_bits : is_name_end (codes "[3:0]") ≡ true
of_bits = refl

of_other : is_name_end (codes "2.clk") ≡ false
of_other = refl

abbrev nanosecond : Timescale
nanosecond = record { count = 1; unit = Nanosecond }

abbrev ten_picoseconds : Timescale
ten_picoseconds = record { count = 10; unit = Picosecond }

-- 10 ps is finer than 1 ns, which has 100 of it
is_finer : finer (Some nanosecond) (Some ten_picoseconds) ≡ Some ten_picoseconds
is_finer = refl

has_hundred : factor_of (Some ten_picoseconds) (Some nanosecond) ≡ 100
has_hundred = refl

has_one : factor_of (Some ten_picoseconds) (Some ten_picoseconds) ≡ 1
has_one = refl

has_none : factor_of (Some nanosecond) None ≡ 1
has_none = refl

-- a window ends with the captures, and needs a tick
up_to_end : bounds_between 30 (Some 2) (Some 5) (Some 100) ≡ Ok (2, ticks_between 5 30)
up_to_end = refl

one_tick : bounds_between 30 (Some 2) (Some 30) (Some 100) ≡ Ok (2, ticks_between 30 30)
one_tick = refl

past_end : bounds_between 30 (Some 2) (Some 31) (Some 100) ≡ Err refusals.NoTickLeft
past_end = refl

no_tolerance : bounds_between 30 None None None ≡ Err refusals.ToleranceIsNoWholeTick
no_tolerance = refl
