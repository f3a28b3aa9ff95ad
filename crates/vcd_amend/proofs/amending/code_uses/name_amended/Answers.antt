use Rattle.std.proofs.Common.{ap, ◌∙◌, sym, arith, map, take, Some, None, if◌then◌else◌, Option, ℕ}
use Rattle.std.specs.Prelude.{bytes_eq}
use Rattle.std.specs.Option.{option_or}
use Rattle.std.proofs.lemmas.List.{take_all, length-map}
use Rattle.vcd_amend.specs.AmendmentContents.{code_contents}
use Rattle.vcd_amend.specs.declared.amending.code_uses.CodeUse.{CodeUse}
use Rattle.vcd_amend.specs.inside.amending.CodeUses.{amended_index}
use Rattle.vcd_amend.proofs.amending.UsedCodes.{index_more}
use Rattle.vcd_amend.proofs.amending.code_uses.name_amended.Goals as goal

pub loop-index-init : goal.loop-index-init
loop-index-init c = record {
  used = λ key. ap (λ (u : CodeUse). u.is_used) (c.requires key);
  amended = λ key. ap (λ (u : CodeUse). u.amended) (c.requires key);
}

pub loop-index-preserved : goal.loop-index-preserved
loop-index-preserved c = record {
  used = λ key. c.in_ok-name_one.ensures.used key ∙ c.loop-index.invariant.used key;
  amended = λ key.
      let k = c.loop-index.index in
      let code = c.index-codes-index.result in
      c.in_ok-name_one.ensures.amended key
      ∙ ap (λ (o : Option ℕ). option_or o (if bytes_eq key c.as_slice.result.now then Some k else None))
      (c.loop-index.invariant.amended key)
      ∙ ap (λ w. option_or (amended_index key (take k (map code_contents c.args.codes.now)))
      (if bytes_eq key w then Some k else None)) c.as_slice.ensures
      ∙ sym (index_more c.args.codes.now k code key (omega arith) c.index-codes-index.is);
}

pub returns-clause-amended : goal.returns-clause-amended
returns-clause-amended c = λ key. c.loop-index.invariant.amended key
    ∙ ap (amended_index key) (take_all c.loop-index.index (map code_contents c.args.codes.now)
    (omega (arith, length-map c.args.codes.now code_contents)))
