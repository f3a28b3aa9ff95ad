-- A timescale is a count, the longest that fits, and the name of a unit.
use Rattle.std.proofs.Common.{◌≡◌, ℕ, Bool, false, cond, Option, Some, None, List, [], ◌∷◌, take, arith, ◌∙◌, ap, sym}
use Rattle.std.proofs.Common.{rules}
use Rattle.std.specs.Prelude.{bytes_eq}
use Rattle.std.specs.Fmt.{digits}
use Rattle.std.proofs.Math.Bool.{and-true}
use Rattle.vcd_core.specs.declared.capture.TimeUnit.{TimeUnit}
use Rattle.vcd_core.specs.declared.capture.TimeUnit.TheVariants.{Second, Millisecond, Microsecond, Nanosecond}
use Rattle.vcd_core.specs.declared.capture.TimeUnit.TheVariants.{Picosecond, Femtosecond}
use Rattle.vcd_core.specs.UnitNames.{unit_named}
use Rattle.vcd_text.specs.inside.reading.Timescale.{timescale_spelled, timescale_of_unit}
use Rattle.vcd_text.proofs.reading.timescale.timescale_of_text.Goals as goal

-- the first of the six units that fits
abbrev first : {A : Type 0} → (TimeUnit → A) → (s ms us ns ps fs : Bool) → Option A
first f s ms us ns ps fs = cond s (Some (f Second)) (cond ms (Some (f Millisecond)) (cond us (Some (f Microsecond))
    (cond ns (Some (f Nanosecond)) (cond ps (Some (f Picosecond)) (cond fs (Some (f Femtosecond)) None)))))

first_counted : (n : ℕ) (s ms us ns ps fs : Bool) → first (λ u. record { count = n; unit = u }) s ms us ns ps fs
    ≡ timescale_of_unit n (first (λ u. u) s ms us ns ps fs)
first_counted n s ms us ns ps fs = search arith

hundred : (unit : List ℕ) → timescale_spelled (49 ∷ 48 ∷ 48 ∷ unit) ≡ timescale_of_unit 100 (unit_named unit)
unfolding digits
hundred unit = first_counted 100 _ _ _ _ _ _

ten : (unit : List ℕ) → bytes_eq (take 3 (49 ∷ 48 ∷ unit)) (49 ∷ 48 ∷ 48 ∷ []) ≡ false
    → timescale_spelled (49 ∷ 48 ∷ unit) ≡ timescale_of_unit 10 (unit_named unit)
unfolding digits
ten unit other = grind (arith, and-true, first_counted)

one : (unit : List ℕ) → bytes_eq (take 2 (49 ∷ unit)) (49 ∷ 48 ∷ []) ≡ false
    → timescale_spelled (49 ∷ unit) ≡ timescale_of_unit 1 (unit_named unit)
unfolding digits
one unit other = grind (arith, and-true, first_counted)

none : (text : List ℕ) → bytes_eq (take 1 text) (49 ∷ []) ≡ false → timescale_spelled text ≡ None
unfolding digits
none text other = grind (arith, and-true)

pub returns-in-Some : goal.returns-in-Some
returns-in-Some c =
    let prefix : c.args.text.now ≡ 49 ∷ 48 ∷ 48 ∷ c.in-Some.unit.now = search rules in
    c.timescale_with.ensures ∙ sym (ap timescale_spelled prefix ∙ hundred c.in-Some.unit.now)

pub returns-in-Some-strip_prefix : goal.returns-in-Some-strip_prefix
returns-in-Some-strip_prefix c =
    let prefix : c.args.text.now ≡ 49 ∷ 48 ∷ c.in-Some-strip_prefix.unit.now = search rules in
    let other : bytes_eq (take 3 c.args.text.now) (49 ∷ 48 ∷ 48 ∷ []) ≡ false = c.in_default.ensures.cases in
    c.timescale_with-in-Some-strip_prefix.ensures ∙ sym (ap timescale_spelled prefix
    ∙ ten c.in-Some-strip_prefix.unit.now (ap (λ t. bytes_eq (take 3 t) (49 ∷ 48 ∷ 48 ∷ [])) (sym prefix) ∙ other))

pub returns-in-Some-strip_prefix-2 : goal.returns-in-Some-strip_prefix-2
returns-in-Some-strip_prefix-2 c =
    let prefix : c.args.text.now ≡ 49 ∷ c.in-Some-strip_prefix-2.unit.now = search rules in
    let other : bytes_eq (take 2 c.args.text.now) (49 ∷ 48 ∷ []) ≡ false = c.in_default-strip_prefix.ensures.cases in
    c.timescale_with-in-Some-strip_prefix-2.ensures ∙ sym (ap timescale_spelled prefix
    ∙ one c.in-Some-strip_prefix-2.unit.now (ap (λ t. bytes_eq (take 2 t) (49 ∷ 48 ∷ [])) (sym prefix) ∙ other))

pub returns : goal.returns
returns c = sym (none c.args.text.now c.in_default-strip_prefix-2.ensures.cases)
