-- The bytes of a turn follow those that were taken before it.
use Rattle.std.proofs.Common.{◌≡◌, ℕ, ◌+◌, ◌-◌, List, ◌++◌, length, take, drop, arith, subst, sym, ap, ◌∙◌}
use Rattle.std.proofs.Math.Seq.{take-add}
use Rattle.std.proofs.lemmas.List.{take_rest, length-take, length-drop}
use Rattle.std.proofs.KnownBytes.{Appends-trans}
use Rattle.std.specs.Io.KnownBytes.{Appends}
use Rattle.vcd_core.proofs.device.output.write_all.Goals as goal

take_further : (n k : ℕ) (all : List ℕ) → take n all ++ take k (take (length all - n) (drop n all)) ≡ take (n + k) all
take_further n k all = ap (λ l. take n all ++ take k l) (take_rest all n) ∙ sym (take-add n k all)

pub loop-written-preserved : goal.loop-written-preserved
loop-written-preserved g c =
    let (within, ready, taken) = c.loop-written.invariant in (
      omega (arith, c.in-Ok.ensures.count, length-take {A = ℕ}, length-drop {A = ℕ}),
      c.in-Ok.ensures.fault.not_failed,
      subst (Appends _ _) (take_further _ _ _) (Appends-trans _ _ _ _ _ taken c.in-Ok.ensures.bytes),
    )
