use Rattle.std.proofs.Common.{[], ◌∷◌, ap, ◌∙◌}
use Rattle.vcd_remarks.specs.declared.findings.finding_kind.FindingKind.TheVariants as kinds
use Rattle.vcd_remarks.specs.inside.FoundTicks.{finding_at}
use Rattle.vcd_remarks.specs.inside.UartFinder.{UartSearch, uart_findings_left, with_amid}
use Rattle.vcd_remarks.proofs.uart_finder.EdgeTaken.{all_taken}
use Rattle.vcd_remarks.proofs.uart_finder.UartFinder.findings.Goals as goal

pub returns : goal.returns
returns c =
    let long = c.of_kind-3.ensures ∙ ap (finding_at kinds.UartLongRuns) c.long_runs.ensures in
    let amid = c.of_kind-4.ensures ∙ ap (finding_at kinds.UartEdgesAmidBits) (c.with_amid-amid_bits.ensures
    ∙ ap (with_amid c.self.inside.setup c.self.inside.amid_bits c.self.inside.held.items) c.in_ok-frame.ensures) in
    (λ i. c.of_kind.ensures i ∷ c.of_kind-2.ensures i ∷ long i ∷ amid i ∷ []) ∙ all_taken _
    ∙ ap (λ (f : UartSearch). uart_findings_left f []) c.self.view_is
