use Rattle.std.proofs.Common.{◌≡◌, ◌∙◌, ◌+◌, ◌++◌, ◌∷◌, [], map, take, sym, ap, subst, arith}
use Rattle.std.proofs.lemmas.List.{map_more}
use Rattle.indexmap.proofs.SetLemmas.{AllZip-push}
use Rattle.vcd_amend.specs.inside.coding.KeptSignals.{changed_wave, changed_waves, KeptContents}
use Rattle.vcd_amend.specs.inside.coding.ChangedWaves.{kept_contents, new_waves_of, unseen, AreIndices, IsIndexOf}
use Rattle.vcd_amend.specs.inside.coding.ChangedWaves.{AreDistinct}
use Rattle.vcd_amend.proofs.coding.ChangedWaves.{changed_more, changed_distinct, indices_later}
use Rattle.vcd_amend.proofs.coding.changed_waves.changed_waves.Goals as goal

pub loop-signal-preserved : goal.loop-signal-preserved
loop-signal-preserved c =
    let kept = c.args.kept.now in
    let i = c.loop-signal.signal-index in
    let k = kept_contents c.signal-item.result in
    let wave = changed_wave k k.left in
    let ks = map kept_contents (take i kept) in
    let more : map kept_contents (take (i + 1) kept) ≡ ks ++ k ∷ [] = map_more kept_contents kept i c.signal-item.result
    (omega arith) ∙ ap (λ x. ks ++ kept_contents x ∷ []) (sym c.signal-item.is) in
    let old = new_waves_of c.loop-signal.changed.waves.items in
    let new = new_waves_of c.add_changed.new.changed.waves.items in
    let put : new ≡ old ++ unseen old wave = c.in_ok-add_changed.ensures.waves in
    let apart : AreDistinct old = subst AreDistinct (sym c.loop-signal.invariant.waves) (changed_distinct ks) in
    let index = c.in_ok-add_changed.ensures.index apart in
    let os = c.loop-signal.indices.items in
    let before : AreIndices (old ++ unseen old wave) ks os =
    indices_later old (unseen old wave) ks os c.loop-signal.invariant.indices in
    let earlier : AreIndices new ks os = subst (λ l. AreIndices l ks os) (sym put) before in
    record {
      waves = put ∙ ap (λ l. l ++ unseen l wave) c.loop-signal.invariant.waves ∙ sym (changed_more ks k)
          ∙ ap changed_waves (sym more);
      leads = c.in_ok-add_changed.ensures.leads;
      indices = subst (λ l. AreIndices new l c.push.new.self.items) (sym more)
          (subst (λ l. AreIndices new (ks ++ k ∷ []) l) (sym c.in_ok-push.ensures.items)
          (AllZip-push (λ (k : KeptContents) index. IsIndexOf new (changed_wave k k.left) index) ks
          os k c.in_ok-add_changed.field-0 earlier index));
    }
