-- The outcomes of options, by what was wrong with their words.
use Rattle.std.proofs.Common.{◌≡◌, ◌∙◌, inl, inr, ap, sym, [], refl}
use Rattle.std.specs.Prelude.{Result, Ok, Err, IsErrAnd}
use Rattle.std.specs.Option.{unwrap_or}
use Rattle.vcd_compare_program.specs.CommandLine.{AskedOptions}
use Rattle.vcd_compare_program.specs.ProgramEnds.{IsOutcomeOfOptions, IsOutcomeOfRequest, IsRequest, IsWordFault}
use Rattle.vcd_compare_program.specs.declared.compare_fault.CompareFault.{CompareFault}
use Rattle.vcd_compare_program.specs.declared.compare_fault.CompareFault.TheVariants as faults
use Rattle.vcd_compare_program.specs.declared.compare_fault.WordFault.{WordFault}
use Rattle.vcd_compare_program.specs.declared.compare_fault.WordFault.TheVariants as words
use Rattle.vcd_compare_program.specs.declared.reporting.ReportRequest.{ReportRequest}
use Rattle.vcd_compare_program.specs.declared.reporting.Verdict.{Verdict}
use Rattle.vcd_compare_program.specs.inside.Words.{IsBothStandard, IsFaultOfMaps}

-- an error that is handed on
pub ends_with : (o : AskedOptions) (outcome : Result Verdict CompareFault) (e : CompareFault)
    → IsErrAnd outcome (λ x. x ≡ e) → IsOutcomeOfOptions o (Err e) → IsOutcomeOfOptions o outcome
ends_with o (Ok verdict) e gives ends = absurd gives
ends_with o (Err x) e gives ends = rw gives ends

-- a word is no map, or memory ran out
pub maps_refused : (o : AskedOptions) (e : CompareFault) → IsFaultOfMaps (unwrap_or o.maps []) e
    → IsOutcomeOfOptions o (Err e)
maps_refused o e (inl (bad, is)) = inl (words.BadMap, bad, ap Err is)
maps_refused o e (inr is) = inr (inl (ap Err is))

-- a word is not taken
pub word_refused : (o : AskedOptions) (fault : WordFault) → IsWordFault o fault
    → IsOutcomeOfOptions o (Err (faults.Words fault))
word_refused o fault is = inl (fault, is, refl)

-- both captures are standard input
pub both_standard : (o : AskedOptions) (r : ReportRequest) → IsRequest o r → (fault : WordFault)
    → IsBothStandard r fault → IsWordFault o fault
both_standard o r is fault (same, first, second) = rw same (sym is.first ∙ first, sym is.second ∙ second)

-- the request of the options is carried out
pub carried_out : (o : AskedOptions) (r : ReportRequest) (outcome : Result Verdict CompareFault) → IsRequest o r
    → IsOutcomeOfRequest r outcome → IsOutcomeOfOptions o outcome
carried_out o r outcome is ends = inr (inr (r, is, ends))
