-- The window of a part is in order, and its ticks are numbers of 64 bits.
use Rattle.std.proofs.Common.{◌≡◌, ℕ, ◌<◌, ◌≤◌, ◌^◌, Bool, true, false, if◌then◌else◌, List, Option, Some, None, arith}
use Rattle.std.proofs.Common.{sym, refl, ap, inl, inr, ◌⊎◌, not, ◌&&◌, nat_le, nat_lt, ◌∙◌}
use Rattle.std.specs.Prelude.{Ok, Err, is_some}
use Rattle.std.proofs.lemmas.Bool.{ltb-false, leb-true, ltb-true, le-leb, lt-ltb, lt-leb, leb-false}
use Rattle.std.proofs.lemmas.Bool.{and_parts, false≢true}
use Rattle.vcd_core.specs.declared.capture.Timescale.{Timescale}
use Rattle.vcd_text.specs.Grammar.{VariableDeclaration}
use Rattle.vcd_text.specs.declared.reading.choice.TickRange.{TickRange}
use Rattle.vcd_part.specs.declared.request.Request.{Request}
use Rattle.vcd_part.specs.declared.request.Refusal.TheVariants.{UnmetPattern, NoVariableLeft, WindowBackwards}
use Rattle.vcd_part.specs.Requests.{decide, window_between, window, bounded_tick, unmet, leaves_none}
use Rattle.vcd_part.specs.Times.{ticks_of}
use Rattle.vcd_part.specs.PartPieces.{is_up_to_first, is_within}

-- a window in order
pub record IsInOrder (w : TickRange) : Type 0 where
  pub order : w.first ≤ w.last
  pub few : w.last < 2 ^ 64

bounds : (a b : ℕ) (w : TickRange) → window_between (Some a) (Some b) ≡ Ok w → IsInOrder w
bounds a b w is = by_test (nat_lt (bounded_tick b) (bounded_tick a)) refl is
  where
    by_test : (x : Bool) → nat_lt (bounded_tick b) (bounded_tick a) ≡ x
        → (if x then Err WindowBackwards else Ok (record { first = bounded_tick a; last = bounded_tick b })) ≡ Ok w
        → IsInOrder w
    by_test true it gives = absurd (cc)
    by_test false it gives =
        let same : record { first = bounded_tick a; last = bounded_tick b } ≡ w = cc in
        rw (sym same) (record { order = ltb-false (bounded_tick b) (bounded_tick a) it; few = omega arith })

between : (a b : Option ℕ) (w : TickRange) → window_between a b ≡ Ok w → IsInOrder w
between None b w is = absurd (cc)
between (Some a) None w is = absurd (cc)
between (Some a) (Some b) w is = bounds a b w is

pub decided_in_order : (r : Request) (t : Option Timescale) (ds : List VariableDeclaration) (w : TickRange)
    → decide r t ds ≡ Ok w → IsInOrder w
unfolding decide
decided_in_order r t ds w is = by_tests (is_some (unmet r ds)) (leaves_none r ds) is
  where
    by_tests : (x y : Bool) → (if x then Err UnmetPattern else (if y then Err NoVariableLeft else window r t)) ≡ Ok w
        → IsInOrder w
    by_tests true y gives = absurd (cc)
    by_tests false true gives = absurd (cc)
    by_tests false false gives = between (ticks_of t r.from) (ticks_of t r.to) w gives

-- ---- a tick beside the window

module _ (w : TickRange) (t : ℕ) where
  pub upto_is : is_up_to_first w t ≡ true → (0 < w.first) × (t ≤ w.first)
  upto_is is =
      let parts = and_parts (nat_lt 0 w.first) (nat_le t w.first) is in
      (ltb-true 0 w.first parts.0, leb-true t w.first parts.1)

  pub upto_from : 0 < w.first → t ≤ w.first → is_up_to_first w t ≡ true
  upto_from some most = rw (lt-ltb 0 w.first some, le-leb t w.first most) refl

  -- the window begins at 0, or before the tick
  pub past_is : is_up_to_first w t ≡ false → (w.first ≡ 0) ⊎ (w.first < t)
  past_is is = by_tests (nat_lt 0 w.first) (nat_le t w.first) refl refl is
    where
      by_tests : (x y : Bool) → nat_lt 0 w.first ≡ x → nat_le t w.first ≡ y → (x && y) ≡ false
          → (w.first ≡ 0) ⊎ (w.first < t)
      by_tests false y zero it gives = let none = ltb-false 0 w.first zero in inl (omega (arith, none))
      by_tests true false some it gives = inr (leb-false t w.first it)
      by_tests true true some it gives = absurd (false≢true (sym gives))

  pub past_from : (w.first ≡ 0) ⊎ (w.first < t) → is_up_to_first w t ≡ false
  past_from (inl zero) = rw zero refl
  past_from (inr later) = rw (lt-leb t w.first later) (and_false (nat_lt 0 w.first))
    where
      and_false : (b : Bool) → (b && false) ≡ false
      and_false true = refl
      and_false false = refl

  pub within_is : is_within w t ≡ true → (is_up_to_first w t ≡ false) × (t ≤ w.last)
  within_is is = by_test (is_up_to_first w t) refl is
    where
      by_test : (x : Bool) → is_up_to_first w t ≡ x → (not x && nat_le t w.last) ≡ true
          → (is_up_to_first w t ≡ false) × (t ≤ w.last)
      by_test true it gives = absurd (false≢true gives)
      by_test false it gives = (it, leb-true t w.last gives)

  -- a tick that is not within the window is past it, or up to its first
  pub not_within_is : is_within w t ≡ false → is_up_to_first w t ≡ false → w.last < t
  not_within_is is past =
      leb-false t w.last (sym (ap (λ b. not b && nat_le t w.last) past) ∙ is)
