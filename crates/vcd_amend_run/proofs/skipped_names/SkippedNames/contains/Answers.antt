use Rattle.std.proofs.Common.{◌∙◌, sym, ap, map, nat_eq}
use Rattle.std.specs.HashSet.{contains}
use Rattle.vcd_core.specs.FullName.{name_bytes}
use Rattle.vcd_amend.specs.DeclaredVariables.{declaration_of_variable}
use Rattle.vcd_amend_run.specs.NewNames.{skipped_names}
use Rattle.vcd_amend_run.specs.inside.NameHash.{name_hash}
use Rattle.vcd_amend_run.proofs.skipped_names.Hashes.{no_name_without_hash}
use Rattle.vcd_amend_run.proofs.skipped_names.SkippedNames.contains.Goals as goal

pub returns-else-contains : goal.returns-else-contains
returns-else-contains c =
    let name = name_bytes c.args.name in
    let names = skipped_names (map declaration_of_variable c.args.self.now.declared.now) in
    c.if-contains.false ∙ no_name_without_hash name names (sym (c.args.self.now.hashed (name_hash name))
    ∙ ap (contains nat_eq c.args.self.now.hashes) (sym c.name_hash.ensures) ∙ sym c.contains.ensures
    ∙ c.if-contains.false)
