use Rattle.std.proofs.Common.{◌&&◌, ◌∙◌, rules, tests}
use Rattle.std.specs.Prelude.{bytes_eq}
use Rattle.std.proofs.lemmas.Iterator.{YieldsList-from_slice}
use Rattle.std.proofs.lemmas.Iterator.Search.{any_from_yields_List}
use Rattle.vcd_core.specs.FullName.{name_bytes}
use Rattle.vcd_text.specs.Grammar.{is_skipped}
use Rattle.vcd_amend.specs.DeclaredVariables.{declaration_of_variable}
use Rattle.vcd_text.specs.AsDeclared.{declared_name}
use Rattle.vcd_amend_run.proofs.skipped_names.Hashes.{found_among_variables}
use Rattle.vcd_amend_run.proofs.skipped_names.is_skipped_name.Goals as goal

pub returns : goal.returns
returns c =
    let name = name_bytes c.args.name in
    any_from_yields_List (λ v. is_skipped (declaration_of_variable v)
    && bytes_eq name (declared_name (declaration_of_variable v))) _ _ _ c.any.ensures.ran
    (YieldsList-from_slice c.args.declared.now cc) (λ v b q k. search (rules, tests))
    ∙ found_among_variables declaration_of_variable (bytes_eq name) c.args.declared.now
