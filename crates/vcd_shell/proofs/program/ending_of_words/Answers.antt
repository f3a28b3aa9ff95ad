-- Words without a fault that are not accepted ran out of memory.
use Rattle.std.proofs.Common.{◌≡◌, [], inl, refl, ap, subst, map, ◌∙◌}
use Rattle.std.specs.String.{string_bytes}
use Rattle.clap.specs.Words.{fault_of, kind_of, HasKind, Kinds}
use Rattle.clap.specs.declared.error.kind.ErrorKind.TheVariants as kinds_of_clap
use Rattle.vcd_shell.proofs.program.ending_of_words.Goals as goal

pub returns-in_default : goal.returns-in_default
returns-in_default g c = (kinds_of_clap.OutOfMemory, inl refl, tt)

pub returns-in-Ok-parse_words : goal.returns-in-Ok-parse_words
returns-in-Ok-parse_words g c =
    let all = ap (map string_bytes) (c.as_slice.ensures.value ∙ c.in-Ok.ensures) in
    subst (λ words. (fault_of g.P.Program.options words ≡ []) × g.P.Program.can_end words c.carry_out.result) all
    (c.in-Ok-parse_words.ensures.faults, c.carry_out.ensures _ c.in-Ok-parse_words.ensures.asked)

pub returns : goal.returns
returns g c =
    let all = ap (map string_bytes) (c.as_slice.ensures.value ∙ c.in-Ok.ensures) in
    let kinds = ap (fault_of g.P.Program.options) all in (
      kind_of c.in-Err.error,
      subst (λ (k : Kinds). HasKind k c.in-Err.error) kinds c.in-Err.ensures.faults,
      c.answer_shown.ensures,
    )
