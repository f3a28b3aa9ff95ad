use Rattle.std.proofs.Common.{◌≡◌, ℕ, List, map, false, take}
use Rattle.vcd_text.specs.inside.reading.CodeTargets.{code_target}
use Rattle.vcd_amend.specs.AmendmentContents.{code_contents}
use Rattle.vcd_amend.specs.inside.amending.CodeUses.{amended_index}
use Rattle.vcd_amend.proofs.amending.code_uses.name_amended.Given as goal

abbrev pub invariant-loop-index : goal.invariant-loop-index
invariant-loop-index l = record {
  used : (key : List ℕ) → (code_target l.uses key).is_used ≡ false;
  amended : (key : List ℕ) → (code_target l.uses key).amended
      ≡ amended_index key (take l.index (map code_contents l.codes));
}
