use Rattle.std.proofs.Common.{◌∙◌, subst}
use Rattle.std.proofs.lemmas.Option.{IfSome_then}
use Rattle.vcd_copy.specs.Copied.{IsCopy}
use Rattle.vcd_text.specs.declared.reading.TheConstants.{VARIABLE_LIMIT}
use Rattle.vcd_part.specs.PartEnds.{IsPartText}
use Rattle.vcd_part.specs.inside.PartAmender.{rules_of}
use Rattle.vcd_part.specs.inside.PartCopy.{part_rules}
use Rattle.std.specs.Prelude.{Result, Err}
use Rattle.vcd_copy.specs.declared.copying.copy_error.CopyError.{CopyError}
use Rattle.vcd_copy.proofs.shared.CopyFaults.{begun_as}
use Rattle.vcd_text.proofs.shared.FailedResults.{err_is}
use Rattle.vcd_part.proofs.part.CopiedParts.{copied_by_part_rules, part_text}
use Rattle.vcd_part.proofs.part.copy_part.Goals as goal

pub returns-clause-request : goal.returns-clause-request
returns-clause-request g c = c.in_ok-copy.ensures.same ∙ c.in_ok-amender.ensures.request

pub returns-clause-copied : goal.returns-clause-copied
returns-clause-copied g c = λ ready. IfSome_then (g.R.Source.coming c.args.reader.now)
    (c.in_ok-copy.ensures.copied ready) (λ file is.
    let (small, text, copy, appends) = is in (
      small,
      text,
      subst (λ r. IsCopy VARIABLE_LIMIT (part_rules r) file text) c.in_ok-amender.ensures.request
          (copied_by_part_rules VARIABLE_LIMIT c.in_ok-amender.amender.request file text copy),
      appends,
    ))

pub returns-in_err-copy-clause-begun : goal.returns-in_err-copy-clause-begun
returns-in_err-copy-clause-begun g c =
    let failed : Result (Unit {0}) CopyError = Err c.in_err-copy.field-0.0 in
    rw (err_is _ c.from_residual-in_err-copy.ensures.1) (begun_as
    (IsCopy VARIABLE_LIMIT (rules_of c.in_ok-amender.amender.request)) (IsPartText c.args.request) VARIABLE_LIMIT
    (g.R.Source.coming c.args.reader.now) (g.W.Sink.taken c.args.writer.now) (g.W.Sink.taken c.copy.new.writer)
    (g.W.Sink.has_failed c.copy.new.writer) failed (λ file text copy. part_text c.args.request file text
    (subst (λ r. IsCopy VARIABLE_LIMIT (part_rules r) file text) c.in_ok-amender.ensures.request
    (copied_by_part_rules VARIABLE_LIMIT c.in_ok-amender.amender.request file text copy)))
    c.in_err-copy.ensures.begun)
