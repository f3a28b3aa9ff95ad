use Rattle.std.proofs.Common.{◌∙◌, ◌++◌, ap, sym}
use Rattle.std.proofs.lemmas.List.{map-append}
use Rattle.vcd_core.specs.Names.{full_names}
use Rattle.vcd_text.specs.AsDeclared.{declared_name}
use Rattle.vcd_text.specs.Grammar.{kept_variables}
use Rattle.vcd_text.specs.HeardChanges.{skipped_variables}
use Rattle.vcd_compare.specs.inside.Planning.{listed_names}
use Rattle.vcd_compare.proofs.names.Texts.{names_undriven}
use Rattle.vcd_compare.proofs.variables.Listed.{names_listed}
use Rattle.vcd_compare.proofs.names.names_of.Goals as goal

pub returns : goal.returns
returns c s at =
    let kept = kept_variables s.declared in
    let skipped = skipped_variables s.declared in
    c.in_ok-add_names.ensures
    ∙ (λ i. (c.in_ok-names.ensures ∙ ap full_names (c.signals.ensures s at) ∙ names_undriven kept) i
    ++ (ap listed_names (c.skipped_variables.ensures s at) ∙ names_listed skipped skipped) i)
    ∙ sym (map-append declared_name kept skipped)
