use Rattle.std.proofs.Common.{◌∙◌, ◌*◌, ap, ap₂, subst, min, refl}
use Rattle.vcd_part.specs.Requests.{bounded_tick}
use Rattle.vcd_compare.specs.declared.comparison.CompareError.TheVariants as errors
use Rattle.vcd_compare.specs.inside.Times.{are_apart}
use Rattle.vcd_compare.proofs.comparing.Concluded.{Decides, concluded, refused, decides_by}
use Rattle.vcd_compare.proofs.comparing.Failures.{memory_fails, at_error}
use Rattle.vcd_compare.proofs.comparing.conclude.Goals as goal

pub returns-in_err-tolerance-clause-fails : goal.returns-in_err-tolerance-clause-fails
returns-in_err-tolerance-clause-fails c =
    let p = c.args.prepared in
    at_error c.from_residual.result _ _ c.from_residual.ensures.1 (λ r coming other first second x.
    refused r coming other p c.args.walk first second c.in_err-tolerance.field-0.0
    (λ s t at_s at_t. subst (Decides p s t) c.in_err-tolerance.was
    (decides_by p s t c.common.result c.decide.result
    (c.common.ensures ∙ ap₂ (λ m n. bounded_tick (min m n))
    (c.scaled.ensures ∙ ap (λ n. n * p.scale.first) (c.tick.ensures s at_s))
    (c.scaled-2.ensures ∙ ap (λ n. n * p.scale.second) (c.tick-2.ensures t at_t)))
    c.decide.ensures)) x)

pub returns-in_err-compared-clause-fails : goal.returns-in_err-compared-clause-fails
returns-in_err-compared-clause-fails c =
    at_error c.from_residual-in_err-compared.result errors.NoMemory _ c.from_residual-in_err-compared.ensures.1
    (λ r coming other first second x. memory_fails r coming other first second)

pub returns-clause-told : goal.returns-clause-told
returns-clause-told c r coming other x =
    let p = c.args.prepared in
    concluded r coming other p c.args.walk _ (record {
      first_stream = refl;
      second_stream = refl;
      first_factor = refl;
      second_factor = refl;
      first_left_out = refl;
      second_left_out = refl;
      timescale = refl;
      decides = λ s t at_s at_t. subst (Decides p s t) c.in_ok-tolerance.was
          (decides_by p s t c.common.result c.decide.result
          (c.common.ensures ∙ ap₂ (λ m n. bounded_tick (min m n))
          (c.scaled.ensures ∙ ap (λ n. n * p.scale.first) (c.tick.ensures s at_s))
          (c.scaled-2.ensures ∙ ap (λ n. n * p.scale.second) (c.tick-2.ensures t at_t)))
          c.decide.ensures);
      other_end = λ s t at_s at_t. c.are_apart.ensures
          ∙ ap₂ (λ m n. are_apart c.in_ok-tolerance.tolerance p.ticks.last m n)
          (c.scaled.ensures ∙ ap (λ n. n * p.scale.first) (c.tick.ensures s at_s))
          (c.scaled-2.ensures ∙ ap (λ n. n * p.scale.second) (c.tick-2.ensures t at_t));
      outcomes = refl;
      compared = λ small. c.in_ok-compared.ensures small;
      only_in_second = refl;
    }) x
