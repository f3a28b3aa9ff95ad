-- The report of a comparison over devices, and what it finds. The rules are the project's own.
use Rattle.std.specs.Prelude.{◌≡◌, ℕ, Bool, true, false, not, ◌&&◌, if◌then◌else◌, List, IfSome}
use Rattle.std.specs.Prelude.{Result, Ok, Err}
use Rattle.vcd_core.specs.Devices.{DeviceEnd, HasText, HasPrefix, IsUntouched}
use Rattle.vcd_compare.specs.Comparisons.{IsComparisonOf, IsAnswerOf}
use Rattle.vcd_compare.specs.Variables.{with_all}
use Rattle.vcd_compare.specs.declared.comparison.Comparison.{Comparison}
use Rattle.vcd_compare_program.specs.declared.reporting.Verdict.{Verdict}
use Rattle.vcd_compare_program.specs.declared.reporting.Verdict.TheVariants.{Same, Different}
use Rattle.vcd_compare_program.specs.declared.reporting.Verdict.TheVariants.{Partial}
use Rattle.vcd_compare_program.specs.declared.reporting.ReportRequest.{ReportRequest}
use Rattle.vcd_compare_program.specs.declared.compare_fault.CompareFault.{CompareFault}
use Rattle.vcd_compare_program.specs.declared.compare_fault.CompareFault.TheVariants as faults
use Rattle.vcd_compare_program.specs.CaptureFacts.{CaptureFacts, capture_facts, left_out_told}
use Rattle.vcd_compare_program.specs.ReportLines.{is_whole}
use Rattle.vcd_compare_program.specs.Sameness.{is_same}
use Rattle.vcd_compare_program.specs.ComparisonText.{comparison_text}
use Rattle.vcd_compare_program.specs.JsonText.{comparison_json}

-- what is found: something differs; or nothing does, and it is asked for that all is compared, and
-- something is left out; or nothing differs
abbrev pub verdict_of : (is_strict is_same is_whole : Bool) → Verdict
verdict_of is_strict false is_whole = Different
verdict_of is_strict true is_whole = if is_strict && not is_whole then Partial else Same

-- the report, as lines of text or as an object
abbrev pub report : (is_json : Bool) → (a b : CaptureFacts) → Comparison → List ℕ
report true a b c = comparison_json a b c
report false a b c = comparison_text a b c

-- what is shown of the first capture of a comparison, by what its file means
abbrev pub first_facts : (r : ReportRequest) (file other : List ℕ) (c : Comparison)
    → IsComparisonOf r.compared file other c → CaptureFacts
first_facts r file other c of = capture_facts r.first.now (with_all of.a) c.first.factor
    (left_out_told r.is_strict c.first.left_out)

-- the same of the second
abbrev pub second_facts : (r : ReportRequest) (file other : List ℕ) (c : Comparison)
    → IsComparisonOf r.compared file other c → CaptureFacts
second_facts r file other c of = capture_facts r.second.now (with_all of.b) c.second.factor
    (left_out_told r.is_strict c.second.left_out)

-- a device took the report of the comparison of two files, or the first bytes of it; and this is
-- what it finds
pub record IsReportTaken (r : ReportRequest) (file other : List ℕ) (verdict : Verdict)
    (takes : List ℕ → Type 0) : Type 0 where
  pub c : Comparison
  pub of : IsComparisonOf r.compared file other c
  pub taken : takes
      (report r.is_json (first_facts r file other c of) (second_facts r file other c of) c)
  pub verdict_is : verdict ≡ verdict_of r.is_strict
      (is_same (first_facts r file other c of) (second_facts r file other c of) c)
      (is_whole (first_facts r file other c of) (second_facts r file other c of))

-- how a run ends, by what its devices show: the report was written; it could not be written whole;
-- or there is none, for a reason of the comparison
abbrev pub ReportEnds : ReportRequest → (first second out : DeviceEnd)
    → Result Verdict CompareFault → Type 0
ReportEnds r first second out (Ok verdict) = (out.has_failed ≡ false) × IfSome first.before
    (λ file. IfSome second.before
    (λ other. IsReportTaken r file other verdict (HasText out)))
ReportEnds r first second out (Err faults.NotWritten) = (out.has_failed ≡ true)
    × IfSome first.before (λ file. IfSome second.before
    (λ other. (verdict : Verdict) × (count : ℕ)
    × IsReportTaken r file other verdict (HasPrefix out count)))
ReportEnds r first second out (Err (faults.Compare e)) =
    IsUntouched out × IsAnswerOf r.compared first second (Err e)
ReportEnds r first second out (Err (faults.Words e)) = ⊥
