-- The report of a comparison whose streams have come to some states.
use Rattle.std.specs.Prelude.{◌≡◌, ℕ, true, false, Result, Ok, Err}
use Rattle.vcd_core.specs.Devices.{DeviceEnd, HasText, HasPrefix}
use Rattle.vcd_text.specs.Grammar.{ParseState}
use Rattle.vcd_text.specs.inside.reading.ChangeStream.{IsStreamAt}
use Rattle.vcd_compare.specs.declared.comparison.Comparison.{Comparison}
use Rattle.vcd_compare_program.specs.declared.reporting.ReportRequest.{ReportRequest}
use Rattle.vcd_compare_program.specs.declared.reporting.Report.{Report}
use Rattle.vcd_compare_program.specs.declared.reporting.Verdict.{Verdict}
use Rattle.vcd_compare_program.specs.declared.compare_fault.CompareFault.{CompareFault}
use Rattle.vcd_compare_program.specs.declared.compare_fault.CompareFault.TheVariants as faults
use Rattle.vcd_compare_program.specs.CaptureFacts.{CaptureFacts, capture_facts, left_out_told}
use Rattle.vcd_compare_program.specs.ReportLines.{is_whole}
use Rattle.vcd_compare_program.specs.Sameness.{is_same}
use Rattle.vcd_compare_program.specs.Reports.{report, verdict_of}
use Rattle.vcd_compare_program.specs.inside.Facts.{meaning_with_all}

-- the report of a comparison of captures that are shown so
pub record IsReportOf (r : ReportRequest) (a b : CaptureFacts) (c : Comparison) (made : Report)
    : Type 0 where
  pub text : made.text.items ≡ report r.is_json a b c
  pub verdict : made.verdict ≡ verdict_of r.is_strict (is_same a b c) (is_whole a b)

-- the same for any states to which the streams have come
abbrev pub IsReportAt : ReportRequest → Comparison → Report → Type 0
IsReportAt r c made = (s t : ParseState) → IsStreamAt c.first.stream s
    → IsStreamAt c.second.stream t → IsReportOf r
    (capture_facts r.first.now (meaning_with_all s) c.first.factor
    (left_out_told r.is_strict c.first.left_out))
    (capture_facts r.second.now (meaning_with_all t) c.second.factor
    (left_out_told r.is_strict c.second.left_out)) c made

-- what becomes of a report that is written to a device
abbrev pub IsWritten : Report → DeviceEnd → Result Verdict CompareFault → Type 0
IsWritten made out (Ok verdict) =
    (verdict ≡ made.verdict) × (out.has_failed ≡ false) × HasText out made.text.items
IsWritten made out (Err fault) = (fault ≡ faults.NotWritten) × (out.has_failed ≡ true)
    × ((count : ℕ) × HasPrefix out count made.text.items)
