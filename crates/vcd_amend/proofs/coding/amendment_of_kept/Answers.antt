use Rattle.std.proofs.Common.{◌≡◌, ◌∙◌, ◌++◌, ◌-◌, map, length, drop, sym, ap, ap₂, arith, length-drop}
use Rattle.std.specs.List.{drop-map}
use Rattle.std.proofs.lemmas.List.{length-map, take_all}
use Rattle.std.proofs.lemmas.Slice.Zip.{AllZip-long}
use Rattle.vcd_core.specs.CaptureContents.{signal_contents}
use Rattle.vcd_amend.specs.AmendmentContents.{code_contents, fate_contents, added_contents}
use Rattle.vcd_amend.specs.GivenCodes.{derived_new_wave}
use Rattle.vcd_amend.specs.inside.coding.KeptSignals.{KeptContents, held_codes, changed_wave}
use Rattle.vcd_amend.specs.inside.coding.ChangedWaves.{kept_contents, new_waves_of, all_contents, as_new_wave}
use Rattle.vcd_amend.specs.inside.coding.ChangedWaves.{changed_contents, IsIndexOf}
use Rattle.vcd_amend.specs.inside.coding.Codes.{codes_from, fates_by_index, variables_by_codes}
use Rattle.vcd_amend.proofs.coding.FatesByIndex.{assembled}
use Rattle.vcd_amend.proofs.coding.amendment_of_kept.Goals as goal

pub fates-requires : goal.fates-requires
fates-requires c =
    let ks = map kept_contents c.args.kept.now in
    let ws = new_waves_of c.in_ok-changed.changed.items in
    let long : length c.in_ok-changed.indices.items ≡ length ks = AllZip-long (λ (k : KeptContents) index. IsIndexOf ws
    (changed_wave k k.left) index) ks c.in_ok-changed.indices.items c.in_ok-changed.ensures.indices in
    sym (ap length c.as_slice-2.ensures.value ∙ long ∙ length-map c.args.kept.now kept_contents)

pub returns : goal.returns
returns c = λ s declared.
    let ks = map kept_contents c.args.kept.now in
    let derived = map signal_contents c.args.derived.now in
    let changed = c.in_ok-changed.changed.items in
    let ws = new_waves_of changed in
    let os = c.in_ok-changed.indices.items in
    let cs = map code_contents c.in_ok-codes.codes.items in
    let codes : cs ≡ codes_from s (held_codes ks) 0 (ws ++ map derived_new_wave derived) =
    c.in_ok-codes.ensures.codes s (held_codes ks) declared c.in_ok-held.ensures
    ∙ ap (λ l. codes_from s (held_codes ks) 0 (new_waves_of l ++ map derived_new_wave derived))
    c.as_slice.ensures.value in
    let fates : map fate_contents c.in_ok-fates.fates.items ≡ fates_by_index cs ks os =
    c.in_ok-fates.ensures ∙ ap₂ (λ l o. fates_by_index (map code_contents l) ks o) c.as_slice-3.ensures.value
    c.as_slice-2.ensures.value in
    let added : map added_contents c.in_ok-added.added.items ≡ variables_by_codes derived (drop c.len.result cs) =
    c.in_ok-added.ensures
    ∙ ap (λ l. variables_by_codes derived (map code_contents l))
    (take_all (length c.deref.result.now - c.len.result) (drop c.len.result c.deref.result.now)
    (omega (arith, length-drop c.len.result c.deref.result.now)) ∙ ap (drop c.len.result) c.deref.ensures.value)
    ∙ ap (variables_by_codes derived) (sym (drop-map code_contents c.len.result c.in_ok-codes.codes.items)) in
    let counted : c.len.result ≡ length ws = omega (
      arith,
      c.len.ensures,
      c.in_ok-changed.changed.ok.0,
      length-map changed changed_contents,
      length-map (all_contents changed) as_new_wave,
    ) in
    assembled s ks derived ws os cs c.in_ok-changed.ensures.waves c.in_ok-changed.ensures.indices codes _ _ c.len.result
    fates added counted
