use Rattle.std.proofs.Common.{◌≡◌, ◌∙◌, map, sym, ap, arith, take}
use Rattle.std.proofs.lemmas.Grind.{common_steps}
use Rattle.std.proofs.lemmas.List.{map-append, take_all, take-map, length-map}
use Rattle.vcd_core.specs.CaptureContents.{signal_contents}
use Rattle.vcd_amend.specs.declared.amendment.AmendedCode.{AmendedCode}
use Rattle.vcd_amend.specs.AmendmentContents.{code_contents}
use Rattle.vcd_amend.specs.inside.coding.Codes.{variables_by_codes}
use Rattle.vcd_amend.proofs.coding.FatesByIndex.{more_variables, variables_all}
use Rattle.vcd_amend.proofs.coding.fates.added_variables.Goals as goal

pub loop-position-preserved : goal.loop-position-preserved
loop-position-preserved c =
    let more = more_variables signal_contents code_contents c.args.derived.now c.args.codes.now
    c.loop-position.position _ _ (omega arith) (omega arith) c.index-derived-position.is c.index-codes-position.is in
    let code : c.as_slice-code.result.now ≡ c.index-codes-position.result.code =
    c.as_slice-code.ensures ∙ ap (λ (x : AmendedCode). x.code) (sym c.index-codes-position.is) in
    grind (arith, common_steps, map-append, more)

pub returns : goal.returns
returns c =
    let ns = c.args.derived.now in
    let cs = c.args.codes.now in
    let i = c.loop-position.position in
    c.loop-position.invariant
    ∙ ap (λ l. variables_by_codes (map signal_contents l) (map code_contents (take i cs)))
    (take_all i ns (omega arith))
    ∙ ap (variables_by_codes (map signal_contents ns)) (sym (take-map code_contents i cs))
    ∙ variables_all (map signal_contents ns) (map code_contents cs) i
    (omega (arith, length-map ns signal_contents))
