use Rattle.std.proofs.Common.{◌∙◌, ◌&&◌, not, sym, ap, subst}
use Rattle.std.proofs.Math.Bool.{and-false}
use Rattle.vcd_amend.specs.inside.amending.FileAmender.{IsAt}
use Rattle.vcd_amend.proofs.amending.file_amender.FileAmender.settle_real.Goals as goal

pub returns-then-let_real_stand-clause-stands : goal.returns-then-let_real_stand-clause-stands
returns-then-let_real_stand-clause-stands c = λ itself s none at. (
  sym (c.let_real_stand.ensures.stands s none at) ∙ c.if-let_real_stand.true,
  subst (IsAt c.let_real_stand.new.self s) (ap (λ b. none && not b) c.if-let_real_stand.true ∙ and-false none)
      (c.let_real_stand.ensures.at s none at),
)
