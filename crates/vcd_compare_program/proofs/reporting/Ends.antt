-- How a run ends, by what its devices took.
use Rattle.std.proofs.Common.{◌≡◌, ◌∙◌, ◌++◌, ◌∷◌, [], ℕ, List, Option, Some, None, map, refl, sym, ap, subst}
use Rattle.std.specs.Prelude.{Result, Ok, Err, IsErrAnd, IfSome}
use Rattle.vcd_core.specs.Devices.{DeviceEnd, HasPrefix, HasText, IsUntouched}
use Rattle.vcd_core.specs.declared.capture.TheConstants.{SIGNAL_LIMIT}
use Rattle.vcd_text.specs.Grammar.{VariableDeclaration, initial_state}
use Rattle.vcd_text.specs.HeardChanges.{HeardChange, heard_all, skipped_variables}
use Rattle.vcd_compare.specs.Comparisons.{IsAnswerOf, IsComparisonOf, IsMeant, no_memory}
use Rattle.vcd_compare.specs.Variables.{ComparedContents, WordVariable, with_all, word_declared, word_variable}
use Rattle.vcd_compare.specs.declared.comparison.CompareError.{CompareError}
use Rattle.vcd_compare.specs.declared.comparison.CompareError.TheVariants as errors
use Rattle.vcd_compare.specs.declared.comparison.Comparison.{Comparison}
use Rattle.vcd_compare_program.specs.CaptureFacts.{capture_facts, left_out_told}
use Rattle.vcd_compare_program.specs.Reports.{IsReportTaken, ReportEnds, first_facts, second_facts}
use Rattle.vcd_compare_program.specs.declared.compare_fault.CompareFault.{CompareFault}
use Rattle.vcd_compare_program.specs.declared.compare_fault.CompareFault.TheVariants as faults
use Rattle.vcd_compare_program.specs.declared.reporting.Report.{Report}
use Rattle.vcd_compare_program.specs.declared.reporting.ReportRequest.{ReportRequest}
use Rattle.vcd_compare_program.specs.declared.reporting.Verdict.{Verdict}
use Rattle.vcd_compare_program.specs.inside.Facts.{meaning_with_all}
use Rattle.vcd_compare_program.specs.inside.Reports.{IsReportAt, IsReportOf, IsWritten}

-- what holds of any bytes holds of those that a device shows
of_any : {X : Type 0} (o : Option X) (P : X → Type 0) → ((x : X) → P x) → IfSome o P
of_any None P holds = tt
of_any (Some x) P holds = holds x

of_shown : {X : Type 0} (o : Option X) (P Q : X → Type 0) → ((x : X) → P x → Q x) → IfSome o P → IfSome o Q
of_shown None P Q gives is = tt
of_shown (Some x) P Q gives is = gives x is

-- memory may run out for any files
pub out_of_memory : (r : ReportRequest) (first second : DeviceEnd)
    → IsAnswerOf r.compared first second (Err errors.NoMemory)
out_of_memory r first second = of_any first.before _ (λ file. of_any second.before _ (λ other. no_memory refl))

-- there is no report, for a reason of the comparison
pub not_compared : (r : ReportRequest) (first second out : DeviceEnd) (outcome : Result Verdict CompareFault)
    (e : CompareError) → IsErrAnd outcome (λ x. x ≡ faults.Compare e) → IsUntouched out
    → IsAnswerOf r.compared first second (Err e) → ReportEnds r first second out outcome
not_compared r first second out (Ok verdict) e gives untouched is = absurd gives
not_compared r first second out (Err x) e gives untouched is = rw gives (untouched, is)

words_declared : (skipped : List VariableDeclaration) (heard : List HeardChange) (ds : List VariableDeclaration)
    → map (λ (v : WordVariable). v.declared) (map (word_variable skipped heard) ds) ≡ map word_declared ds
words_declared skipped heard [] = refl
words_declared skipped heard (d ∷ ds) = ap (λ vs. word_declared d ∷ vs) (words_declared skipped heard ds)

-- the state of a file says what it means, with all variables
all_meant : (file : List ℕ) (contents : ComparedContents) (m : IsMeant file contents)
    → meaning_with_all m.means.state ≡ with_all contents
all_meant file contents m =
    let skipped = skipped_variables m.means.state.declared in
    let declared : map (λ (v : WordVariable). v.declared) contents.words ≡ map word_declared skipped =
    ap (map (λ (v : WordVariable). v.declared)) m.words
    ∙ words_declared skipped (heard_all (initial_state SIGNAL_LIMIT) m.means.accepted.items) skipped in
    sym (λ i. record (m.means.means i) { signals = (m.means.means i).signals ++ declared i })

module _ (r : ReportRequest) (c : Comparison) (made : Report) (is : IsReportAt r c made) where
  -- the report is that of what the files mean
  report_of_files : (file other : List ℕ) (of : IsComparisonOf r.compared file other c)
      → IsReportOf r (first_facts r file other c of) (second_facts r file other c of) c made
  report_of_files file other of =
      let s = of.first.meant.means.state in
      let t = of.second.meant.means.state in
      let told = left_out_told r.is_strict c.first.left_out in
      let other_told = left_out_told r.is_strict c.second.left_out in
      let a : capture_facts r.first.now (meaning_with_all s) c.first.factor told ≡ first_facts r file other c of =
      ap (λ m. capture_facts r.first.now m c.first.factor told) (all_meant file of.a of.first.meant) in
      let b : capture_facts r.second.now (meaning_with_all t) c.second.factor other_told
      ≡ second_facts r file other c of =
      ap (λ m. capture_facts r.second.now m c.second.factor other_told) (all_meant other of.b of.second.meant) in
      subst (λ f. IsReportOf r f (second_facts r file other c of) c made) a
      (subst (λ f. IsReportOf r (capture_facts r.first.now (meaning_with_all s) c.first.factor told) f c made) b
      (is s t of.first.at_end of.second.at_end))

  -- what a device takes of the text it takes of the report
  pub report_taken : (takes : List ℕ → Type 0) → takes made.text.items → (file other : List ℕ)
      → IsComparisonOf r.compared file other c → IsReportTaken r file other made.verdict takes
  report_taken takes taken file other of =
      let report = report_of_files file other of in
      record {
        c = c;
        of = of;
        taken = subst takes report.text taken;
        verdict_is = report.verdict;
      }

  -- for files that are shown
  pub if_shown : (first second : DeviceEnd) (Q : (file other : List ℕ) → Type 0)
      → ((file other : List ℕ) → IsComparisonOf r.compared file other c → Q file other)
      → IsAnswerOf r.compared first second (Ok c)
      → IfSome first.before (λ file. IfSome second.before (λ other. Q file other))
  if_shown first second Q gives is = of_shown first.before _ _
      (λ file. of_shown second.before _ _ (gives file)) is

-- the report is written, or not whole
pub written : (r : ReportRequest) (first second out : DeviceEnd) (c : Comparison) (made : Report)
    → IsReportAt r c made → IsAnswerOf r.compared first second (Ok c) → (outcome : Result Verdict CompareFault)
    → IsWritten made out outcome → ReportEnds r first second out outcome
written r first second out c made is answer (Ok verdict) (same, works, text) = (
  works,
  if_shown r c made is first second (λ file other. IsReportTaken r file other verdict (HasText out))
      (λ file other of. subst (λ v. IsReportTaken r file other v (HasText out)) (sym same)
      (report_taken r c made is (HasText out) text file other of)) answer,
)
written r first second out c made is answer (Err fault) (none, failed, (count, prefix)) = rw none (
  failed,
  if_shown r c made is first second
      (λ file other. (verdict : Verdict) × (count : ℕ) × IsReportTaken r file other verdict (HasPrefix out count))
      (λ file other of. (made.verdict, count, report_taken r c made is (HasPrefix out count) prefix file other of))
      answer,
)
