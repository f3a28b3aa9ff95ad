use Rattle.std.proofs.Common.{◌≡◌, ◌+◌, ◌∷◌, map, drop, ap, subst, arith}
use Rattle.std.proofs.lemmas.List.{drop_all}
use Rattle.vcd_amend.specs.AmendmentContents.{code_contents}
use Rattle.vcd_amend.specs.inside.coding.ChangedWaves.{changed_contents, as_new_wave, new_waves_of}
use Rattle.vcd_amend.specs.inside.coding.Codes.{GetCodes}
use Rattle.vcd_amend.proofs.coding.CodesInTurn.{get_more}
use Rattle.vcd_amend.proofs.shared.Lists.{drop_next}
use Rattle.vcd_amend.proofs.coding.amended_codes.code_changed.Goals as goal

pub loop-wave-preserved : goal.loop-wave-preserved
loop-wave-preserved c = record {
  codes = λ s taken knows has.
      let so_far = c.loop-wave.invariant.codes s taken knows has in
      let one = c.in_ok-code_wave.ensures.codes s so_far.0 knows so_far.1 in
      let ws = c.args.changed.now in
      let i = c.loop-wave.wave-index in
      let w = as_new_wave (changed_contents c.wave-item.result) in
      let next : new_waves_of (drop i ws) ≡ w ∷ new_waves_of (drop (i + 1) ws) = ap (map as_new_wave) (drop_next
      changed_contents ws i c.wave-item.result (omega arith) c.wave-item.is) in
      let before = map code_contents c.args.codes.now.items in
      let middle = map code_contents c.loop-wave.codes.items in
      let some = subst (GetCodes s before taken 0 (new_waves_of ws) middle so_far.0 c.loop-wave.given.position) next
      so_far.2
      in (
        one.0,
        one.1,
        get_more s before middle (map code_contents c.code_wave.new.codes.items) taken so_far.0 one.0 0
            c.loop-wave.given.position c.code_wave.new.given.position (new_waves_of ws) (new_waves_of (drop (i + 1) ws))
            w some
            one.2,
      );
  count = omega (arith, c.loop-wave.invariant.count, c.in_ok-code_wave.ensures.count);
}

pub returns-clause-codes : goal.returns-clause-codes
returns-clause-codes c = λ s taken knows has.
    let so_far = c.loop-wave.invariant.codes s taken knows has in
    let ws = c.args.changed.now in (
      so_far.0,
      subst (λ l. GetCodes s (map code_contents c.args.codes.now.items) taken 0 (new_waves_of ws)
          (map code_contents c.loop-wave.codes.items) so_far.0 c.loop-wave.given.position (new_waves_of l))
          (drop_all c.loop-wave.wave-index ws (omega arith)) so_far.2,
    )
