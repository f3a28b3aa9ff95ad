-- What contracts see of an amendment in memory: its contents.
use Rattle.std.specs.Prelude.{map}
use Rattle.vcd_text.specs.Grammar.{VariableDeclaration}
use Rattle.vcd_amend.specs.Amendment as spec
use Rattle.vcd_amend.specs.declared.amendment.Fate.{Fate}
use Rattle.vcd_amend.specs.declared.amendment.Fate.TheVariants as fates
use Rattle.vcd_amend.specs.declared.amendment.AddedVariable.{AddedVariable}
use Rattle.vcd_amend.specs.declared.amendment.AmendedCode.{AmendedCode}
use Rattle.vcd_amend.specs.declared.amendment.Amendment.{Amendment}

-- what becomes of a kept variable
abbrev pub fate_contents : Fate → spec.Fate
fate_contents fates.Stays = spec.stays
fate_contents fates.IsRemoved = spec.is_removed
fate_contents (fates.IsChanged words code) = spec.is_changed words code

-- the declaration of an added variable
abbrev pub added_contents : AddedVariable → VariableDeclaration
added_contents v = record {
  scopes = v.scopes;
  kind = v.kind;
  size = v.width;
  code = v.code;
  words = v.words;
}

-- an amended code with its waves
abbrev pub code_contents : AmendedCode → spec.AmendedCode
code_contents c = record {
  code = c.code;
  width = c.new.width;
  old = c.old.changes;
  new = c.new.changes;
}

-- the contents of an amendment
abbrev pub amendment_contents : Amendment → spec.Amendment
amendment_contents a = record {
  fates = map fate_contents a.fates.items;
  added = map added_contents a.added.items;
  codes = map code_contents a.codes.items;
}
