-- The window of a request, and what is known of it once it is decided.
use Rattle.std.proofs.Common.{◌≡◌, ℕ, ◌-◌, ◌^◌, ◌<◌, ◌≤◌, ◌&&◌, nat_lt, min, max, Bool, false, refl, sym, ap, ◌∙◌}
use Rattle.std.proofs.Common.{inl, inr, arith, Option, Some, None}
use Rattle.std.specs.Prelude.{Result, Ok, Err, option_map}
use Rattle.std.proofs.lemmas.Bool.{cases_Bool, ltb-true, lt-ltb, ltb-false, le-ltb}
use Rattle.vcd_text.specs.declared.reading.choice.TickRange.{TickRange}
use Rattle.vcd_part.specs.Requests.{bounded_tick}
use Rattle.vcd_compare.specs.Comparisons.{bounds_between, bounds_unless}
use Rattle.vcd_compare.specs.Differences.{ticks_between}
use Rattle.vcd_compare.specs.inside.Times.{are_apart}

-- a decided window, and the times that are asked for
pub record IsDecided (end : ℕ) (n first last : Option ℕ) (tolerance : ℕ) (window : TickRange) : Type 0 where
  pub own_tolerance : ℕ
  pub own_last : ℕ
  pub tolerance_is : n ≡ Some own_tolerance
  pub first_is : first ≡ Some window.first
  pub last_is : last ≡ Some own_last
  pub bounded : tolerance ≡ bounded_tick own_tolerance
  pub ends : window.last ≡ min own_last end
  pub in_order : window.first ≤ window.last

same_ok : {T E : Type 0} (r : Result T E) (x y : T) → r ≡ Ok x → r ≡ Ok y → x ≡ y
same_ok r x y is at = ap (value_of x) (sym is ∙ at)
  where
    value_of : {T E : Type 0} → T → Result T E → T
    value_of d (Ok v) = v
    value_of d (Err e) = d

in_window : (end n f l tolerance : ℕ) (window : TickRange) → nat_lt (min l end) f ≡ false
    → ◌≡◌ {A = ℕ × TickRange} (bounded_tick n, ticks_between f (min l end)) (tolerance, window)
    → IsDecided end (Some n) (Some f) (Some l) tolerance window
in_window end n f l tolerance window early same =
    let ticks : ticks_between f (min l end) ≡ window = ap (λ (p : ℕ × TickRange). p.1) same in
    let first : f ≡ window.first = ap (λ (w : TickRange). w.first) ticks in
    let last : min l end ≡ window.last = ap (λ (w : TickRange). w.last) ticks in
    let order : f ≤ min l end = ltb-false (min l end) f early in
    record {
      own_tolerance = n;
      own_last = l;
      tolerance_is = refl;
      first_is = ap (λ t. Some t) first;
      last_is = refl;
      bounded = sym (ap (λ (p : ℕ × TickRange). p.0) same);
      ends = sym last;
      in_order = omega (arith, order, first, last);
    }

pub decided : (u v : Option ℕ) (end : ℕ) (n first last : Option ℕ) (tolerance : ℕ) (window : TickRange)
    → bounds_unless u v (bounds_between end n first last) ≡ Ok (tolerance, window)
    → IsDecided end n first last tolerance window
decided (Some k) v end n first last tolerance window is = absurd (cc)
decided None (Some k) end n first last tolerance window is = absurd (cc)
decided None None end None first last tolerance window is = absurd (cc)
decided None None end (Some n) None last tolerance window is = absurd (cc)
decided None None end (Some n) (Some f) None tolerance window is = absurd (cc)
decided None None end (Some n) (Some f) (Some l) tolerance window is =
    elim (cases_Bool (nat_lt (min l end) f)) [
      | inl late ↦ absurd (let no = rw late at is in cc)
      | inr early ↦
          in_window end n f l tolerance window early
          (same_ok (bounds_between end (Some n) (Some f) (Some l)) _ _ (rw early refl) is)
    ]

-- ---- the other end

same_test : (common last : ℕ) → common < 2 ^ 64 - 1 → nat_lt common (bounded_tick last) ≡ nat_lt common last
same_test common last small =
    elim (cases_Bool (nat_lt common last)) [
      | inl less ↦
          let below = ltb-true common last less in
          lt-ltb common (bounded_tick last) (omega (arith, below, small)) ∙ sym less
      | inr more ↦
          let above = ltb-false common last more in
          le-ltb common (bounded_tick last) (omega (arith, above)) ∙ sym more
    ]

-- whether a window goes past the common end does not change where its last tick is bounded
pub same_apart : (tolerance : ℕ) (to : Option ℕ) (end other : ℕ) → min end other < 2 ^ 64 - 1
    → are_apart tolerance (option_map bounded_tick to) end other ≡ are_apart tolerance to end other
same_apart tolerance None end other small = refl
same_apart tolerance (Some last) end other small =
    ap (λ (b : Bool). b && nat_lt tolerance (max end other - min end other)) (same_test (min end other) last small)
