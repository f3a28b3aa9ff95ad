-- Each step keeps whether the name meets the pattern.
use Rattle.std.proofs.Common.{◌≡◌, Option, Some, None, true, false, sym, ap, ◌∙◌, is_some, refl}
use Rattle.vcd_part.specs.inside.Heads.{ended}
use Rattle.vcd_part.proofs.pattern.Stars.{leaves_star, holds_here, fails_at_end, goes_on}
use Rattle.vcd_part.proofs.pattern.meets_after_star.Goals as goal

none_left : {A : Type 0} (byte : Option A) → is_some byte ≡ false → byte ≡ None
none_left None is = refl
none_left (Some b) is = cc

some_left : {A : Type 0} (byte : Option A) → is_some byte ≡ true → byte ≡ None → ⊥
some_left None is none = cc
some_left (Some b) is none = cc

pub returns-in-Ended-true : goal.returns-in-Ended-true
returns-in-Ended-true c =
    let head = sym c.in-Ended-true.ensures.head ∙ ap ended c.in-Ended-true.field-0-test in
    holds_here _ _ head ∙ c.loop-name.invariant

pub returns-then-is_none : goal.returns-then-is_none
returns-then-is_none c =
    let head = sym c.in-Ended-false.ensures.head ∙ ap ended c.in-Ended-false.field-0-test in
    fails_at_end _ _ _ _ head c.next_byte.ensures.next (none_left _ c.if-is_none.ensures) ∙ c.loop-name.invariant

pub loop-name-preserved-else-is_none : goal.loop-name-preserved-else-is_none
loop-name-preserved-else-is_none c =
    let head = sym c.in-Ended-false.ensures.head ∙ ap ended c.in-Ended-false.field-0-test in
    goes_on _ _ _ _ head c.next_byte.ensures.next (some_left _ c.if-is_none.ensures) ∙ c.loop-name.invariant

pub loop-name-preserved : goal.loop-name-preserved
loop-name-preserved c = leaves_star _ _ _ _ (sym c.in-Star.ensures.head) ∙ c.loop-name.invariant
