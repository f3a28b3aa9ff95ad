use Rattle.std.proofs.Common.{◌≡◌, ◌∙◌, ◌<◌, ◌++◌, ◌∷◌, [], ℕ, List, length, get_or, map, sym, ap, ap₂, arith}
use Rattle.std.proofs.lemmas.List.{map_more, map_push, length-replicate}
use Rattle.vcd_core.specs.declared.bit.Bit.{Bit}
use Rattle.vcd_core.specs.declared.bit.Bit.TheVariants.{X}
use Rattle.vcd_core.specs.declared.wave.Change.{Change}
use Rattle.vcd_core.specs.Wave.{IsWave}
use Rattle.vcd_stream.proofs.compact_wave.PartsOfChanges.{value_wide}
use Rattle.vcd_stream.proofs.compact_wave.compact_values.values_of.Goals as goal

wide : (width : ℕ) (cs : List Change) (k : ℕ) (x : Change) → IsWave width cs → k < length cs → x ≡ get_or cs k x
    → length x.value ≡ width
wide width cs k x is within at =
    ap (λ (y : Change). length y.value) at ∙ value_wide 0 _ cs is.rise k x within ∙ length-replicate width X

pub of_value-requires : goal.of_value-requires
of_value-requires g c = omega (
  arith,
  c.requires,
  wide c.args.wave.now.width c.changes-changes.result.now c.loop-change.change-index c.change-item.result
      c.changes-changes.ensures.form c.loop-change-test.true c.change-item.is,
)

pub loop-change-preserved : goal.loop-change-preserved
loop-change-preserved g c =
    let width = c.args.wave.now.width in
    let cs = c.changes-changes.result.now in
    let k = c.loop-change.change-index in
    let x = c.change-item.result in
    let letters = g.V.Letters.letters width in
    let long = wide width cs k x c.changes-changes.ensures.form c.loop-change-test.true c.change-item.is in
    ap (map letters) c.in_ok-push.ensures.items ∙ map_push letters c.loop-change.values.items c.of_value.result
    ∙ ap₂ (λ l (v : List Bit). l ++ v ∷ []) c.loop-change.invariant
    (ap (λ w. g.V.Letters.letters w c.of_value.result) (sym long) ∙ c.of_value.ensures
    ∙ ap (λ (y : Change). y.value) c.change-item.is)
    ∙ sym (map_more (λ (y : Change). y.value) cs k x c.loop-change-test.true)
