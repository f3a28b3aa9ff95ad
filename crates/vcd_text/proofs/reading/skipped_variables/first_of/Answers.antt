use Rattle.std.proofs.Common.{◌≡◌, ◌-◌, ◌^◌, if◌then◌else◌, sym, subst, ◌∙◌, arith}
use Rattle.std.specs.Prelude.{bytes_eq}
use Rattle.vcd_text.specs.inside.reading.CodeTargets.{code_target}
use Rattle.vcd_text.proofs.reading.skipped_variables.Listed.{known_first, new_first, more_firsts, puts_known}
use Rattle.vcd_text.proofs.reading.skipped_variables.first_of.Goals as goal

pub returns-then-first-clause-first : goal.returns-then-first-clause-first
returns-then-first-clause-first c all d own long knows =
    c.get-first.ensures ∙ known_first c.args.firsts.now all d c.args.code.now knows
    (λ is. omega (arith, c.if-first.true, c.get-first.ensures, is))

pub returns-then-first-clause-known : goal.returns-then-first-clause-known
returns-then-first-clause-known c all d own long knows =
    let firsts = c.args.firsts.now in
    let code = c.args.code.now in
    more_firsts firsts firsts all d code c.get-first.result own knows
    (returns-then-first-clause-first c all d own long knows)
    (λ key. subst (λ p. code_target firsts key ≡ (if bytes_eq key code then p else code_target firsts key))
    (sym c.get-first.ensures) (puts_known firsts code key))

pub returns-clause-first : goal.returns-clause-first
returns-clause-first c all d own long knows =
    let is : code_target c.args.firsts.now c.args.code.now ≡ 2 ^ 64 - 1 =
    omega (arith, c.if-first.false, c.get-first.ensures) in
    sym long ∙ new_first c.args.firsts.now all d c.args.code.now knows own
    (omega (arith, long, c.ranges.next.fits)) is

pub returns-clause-known : goal.returns-clause-known
returns-clause-known c all d own long knows =
    more_firsts c.args.firsts.now c.insert.new.self all d c.args.code.now c.args.next own knows
    (returns-clause-first c all d own long knows) c.in_ok-insert.ensures
