use Rattle.std.proofs.Common.{◌≡◌, ◌<◌, ◌∙◌, sym, ap, arith, subst}
use Rattle.std.proofs.lemmas.List.{length-map}
use Rattle.std.specs.List.{slice_get}
use Rattle.std.specs.Prelude.{Some, option_map}
use Rattle.std.proofs.lemmas.Option.{slice_get-map}
use Rattle.vcd_amend.specs.inside.coding.ChangedWaves.{all_contents, changed_contents, as_new_wave}
use Rattle.vcd_amend.proofs.coding.ChangedWaves.{IsLeft, is_within, finds, goes_on, nearer, ends, count_left}
use Rattle.vcd_amend.proofs.shared.Lists.{at_item}
use Rattle.vcd_amend.proofs.coding.changed_waves.index_of_wave.Goals as goal

pub index-wave-requires : goal.index-wave-requires
index-wave-requires c =
    let items = c.args.changed.now.waves.items in
    let left = subst (IsLeft (all_contents items) c.args.code.now c.args.new.now.changes) c.in-Some.is
    c.loop-next.invariant in
    omega (
      arith,
      is_within (all_contents items) c.args.code.now c.args.new.now.changes c.in-Some.index left,
      length-map items changed_contents,
      c.args.changed.now.waves.ok.0,
    )

pub returns-then-same_changes : goal.returns-then-same_changes
returns-then-same_changes c =
    let items = c.args.changed.now.waves.items in
    let ws = all_contents items in
    let i = c.in-Some.index in
    let w = changed_contents c.index-wave.result.now in
    let left = subst (IsLeft ws c.args.code.now c.args.new.now.changes) c.in-Some.is c.loop-next.invariant in
    let within = is_within ws c.args.code.now c.args.new.now.changes i left in
    let is : slice_get ws i ≡ Some w = at_item changed_contents items i c.index-wave.result.now
    (omega (arith, within, length-map items changed_contents)) c.index-wave.ensures in (
      as_new_wave w,
      slice_get-map as_new_wave ws i ∙ ap (option_map as_new_wave) is,
      finds ws c.args.code.now c.args.new.now.changes i w left is (sym c.same_changes.ensures ∙ c.if-same_changes.true),
    )

pub loop-next-smaller : goal.loop-next-smaller
loop-next-smaller c =
    let items = c.args.changed.now.waves.items in
    let ws = all_contents items in
    let i = c.in-Some.index in
    let w = changed_contents c.index-wave.result.now in
    let left = subst (IsLeft ws c.args.code.now c.args.new.now.changes) c.in-Some.is c.loop-next.invariant in
    let within = is_within ws c.args.code.now c.args.new.now.changes i left in
    let is : slice_get ws i ≡ Some w = at_item changed_contents items i c.index-wave.result.now
    (omega (arith, within, length-map items changed_contents)) c.index-wave.ensures in
    subst (λ o. count_left w.earlier < count_left o) (sym c.in-Some.is)
    (nearer ws c.args.code.now c.args.new.now.changes c.requires.earlier i w left is)

pub loop-next-preserved : goal.loop-next-preserved
loop-next-preserved c =
    let items = c.args.changed.now.waves.items in
    let ws = all_contents items in
    let i = c.in-Some.index in
    let w = changed_contents c.index-wave.result.now in
    let left = subst (IsLeft ws c.args.code.now c.args.new.now.changes) c.in-Some.is c.loop-next.invariant in
    let within = is_within ws c.args.code.now c.args.new.now.changes i left in
    let is : slice_get ws i ≡ Some w = at_item changed_contents items i c.index-wave.result.now
    (omega (arith, within, length-map items changed_contents)) c.index-wave.ensures in
    goes_on ws c.args.code.now c.args.new.now.changes c.requires.earlier i w left is
    (sym c.same_changes.ensures ∙ c.if-same_changes.false)

pub returns : goal.returns
returns c =
    let ws = all_contents c.args.changed.now.waves.items in
    ends ws c.args.code.now c.args.new.now.changes (subst (IsLeft ws c.args.code.now c.args.new.now.changes)
    c.in_default.is c.loop-next.invariant)
