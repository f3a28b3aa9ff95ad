-- The frames that the falls of a line begin, and the ticks at which they are sampled.
use Rattle.std.proofs.Common.{◌≡◌, ℕ, ◌<◌, ◌≤◌, true, false, Some, None, refl, zero, suc, ◌+◌, ◌*◌, ◌/◌, arith}
use Rattle.std.proofs.Common.{◌&&◌}
use Rattle.std.proofs.lemmas.Bool.{lt-ltb, le-ltb}
use Rattle.std.proofs.Math.Nat.{mul-le-mul_right, le-div_iff_mul-le, div-mul-le_self, div-zero, le_trans}
use Rattle.vcd_core.specs.declared.bit.Bit.{Bit}
use Rattle.vcd_core.specs.declared.bit.Bit.TheVariants.{Zero}
use Rattle.vcd_decode.specs.declared.annotation.Kind.TheVariants.{CutOff}
use Rattle.vcd_decode.specs.UartSetup.{UartSetup}
use Rattle.vcd_decode.specs.Lines.{is_zero, annotation, is_one}
use Rattle.vcd_decode.specs.Uart.{sample_tick, last_bit, frame_kind, frame_letters, begun_frame, sample_offset}

-- ==== the frame that a fall begins, case by case

module _ (f : ℕ → Bit) (end : ℕ) (u : UartSetup) (start : ℕ) where
  pub cut_in_start_bit : end < sample_tick u start 0 → begun_frame f end u start ≡ Some (annotation start end CutOff)
  unfolding begun_frame
  cut_in_start_bit past = rw (lt-ltb end (sample_tick u start 0) past) refl

  module _ (within : sample_tick u start 0 ≤ end) where
    pub glitch : is_zero (f (sample_tick u start 0)) ≡ false → begun_frame f end u start ≡ None
    unfolding begun_frame
    glitch over = rw (le-ltb end (sample_tick u start 0) within, over) refl

    module _ (low : is_zero (f (sample_tick u start 0)) ≡ true) where
      pub cut_later : end < sample_tick u start (last_bit u)
          → begun_frame f end u start ≡ Some (annotation start end CutOff)
      unfolding begun_frame
      cut_later past =
          rw (le-ltb end (sample_tick u start 0) within, low, lt-ltb end (sample_tick u start (last_bit u)) past) refl

      pub whole : sample_tick u start (last_bit u) ≤ end → begun_frame f end u start
          ≡ Some (annotation start (sample_tick u start (last_bit u)) (frame_kind u (frame_letters f u start)))
      unfolding begun_frame
      whole all =
          rw (le-ltb end (sample_tick u start 0) within, low, le-ltb end (sample_tick u start (last_bit u)) all) refl

-- ==== the ticks at which a frame is sampled

pub quotients_rise : (a b d : ℕ) → a ≤ b → a / d ≤ b / d
quotients_rise a b zero le = rw (div-zero a, div-zero b) (omega arith)
quotients_rise a b (suc d) le =
    (le-div_iff_mul-le {k = suc d} {x = a / suc d} {y = b} (omega arith)).1 (le_trans (div-mul-le_self a (suc d)) le)

-- later bits are sampled no earlier
pub offsets_rise : (u : UartSetup) (k m : ℕ) → k ≤ m → sample_offset u k ≤ sample_offset u m
unfolding sample_offset
offsets_rise u k m le =
    quotients_rise ((2 * k + 1) * u.numerator) ((2 * m + 1) * u.numerator) (2 * u.denominator)
    (mul-le-mul_right u.numerator (omega arith))

-- no letter is both 1 and 0
pub never_both : (b : Bit) → is_one b && is_zero b ≡ false
never_both Zero = refl
never_both b = refl
