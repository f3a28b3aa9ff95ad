use Rattle.std.proofs.lemmas.Bool.{leb-true, le-leb}
use Rattle.vcd_core.proofs.shared.Pushes.{upto_from_last, last_upto}
use Rattle.vcd_core.proofs.wave.push.ends_by.Goals as goal

pub returns-in-Some : goal.returns-in-Some
returns-in-Some c =
    let (floor, before, rise) = c.requires in
    let split = c.in-Some.ensures.cases.0 in (
      (λ yes. upto_from_last floor before c.args.end _ _ _ rise split (leb-true _ _ yes)),
      (λ upto. le-leb _ _ (last_upto c.args.end _ _ _ split upto)),
    )
