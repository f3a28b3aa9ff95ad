use Rattle.std.proofs.Common.{◌∙◌, length, sym, ap, subst, map}
use Rattle.std.proofs.lemmas.List.{length-map}
use Rattle.vcd_core.specs.declared.wave.Change.{Change}
use Rattle.vcd_core.specs.Wave.{IsWave}
use Rattle.vcd_stream.specs.inside.CompactWaves.{letters_of_values, FitsWidth}
use Rattle.vcd_stream.proofs.compact_wave.PartsOfChanges.{made_again}
use Rattle.vcd_stream.proofs.compact_wave.CompactWave.of_wave.Goals as goal

pub returns-clause-changes : goal.returns-clause-changes
returns-clause-changes c =
    made_again _ _ _ (c.in_ok-ticks.ensures ∙ ap (map (λ (x : Change). x.tick)) c.changes.ensures.changes)
    (ap (λ w. letters_of_values w c.in_ok-values.values) c.width-width.ensures.width ∙ c.in_ok-values.ensures.letters)

pub invariant_of-result : goal.invariant_of-result
invariant_of-result c =
    let cs = c.args.wave.now.changes in
    let width = c.width-width.ensures in
    let ticks = c.in_ok-ticks.ensures ∙ ap (map (λ (x : Change). x.tick)) c.changes.ensures.changes in
    let values = ap (λ w. letters_of_values w c.in_ok-values.values) width.width ∙ c.in_ok-values.ensures.letters in (
      width.least,
      width.most,
      subst (λ w. FitsWidth w c.in_ok-values.values) (sym width.width) c.in_ok-values.ensures.fits,
      ap length ticks ∙ length-map cs (λ (x : Change). x.tick) ∙ sym (length-map cs (λ (x : Change). x.value))
          ∙ ap length (sym values),
      subst (IsWave c.width-width.result) (c.changes.ensures.changes ∙ sym (made_again _ _ cs ticks values))
          (subst (λ w. IsWave w c.changes.result.now) (sym width.width) c.changes.ensures.form),
    )
