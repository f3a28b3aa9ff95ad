use Rattle.std.proofs.Common.{rules, w64, List, ◌≡◌, ◌++◌, ◌-◌, length, take, drop, map, ap, ◌∙◌, refl, arith}
use Rattle.std.proofs.Common.{length-drop}
use Rattle.std.proofs.lemmas.List.{take_all}
use Rattle.std.proofs.lemmas.Int.{to_z-of_z}
use Rattle.vcd_core.specs.declared.wave.Change.{Change}
use Rattle.vcd_core.specs.Splice.{moved_change}
use Rattle.vcd_core.proofs.shared.Splices.{whole_list}
use Rattle.vcd_core.proofs.wave.splicing.MovedChanges.{put_into_gap}
use Rattle.vcd_core.proofs.wave.splicing.put_in.Goals as goal

pub returns-clause-changes : goal.returns-clause-changes
returns-clause-changes c =
    let xs = c.args.changes.now.items in
    let given = c.deref.result.now in
    let rest : List Change = take (length given - c.args.from) (drop c.args.from given) in
    let is : rest ≡ drop c.args.from c.args.piece.now.items =
    take_all (length given - c.args.from) (drop c.args.from given) (omega (arith, length-drop c.args.from given))
    ∙ ap (drop c.args.from) c.deref.ensures.value in
    let whole : c.as_mut_slice.result.now ≡ xs ++ rest = search rules in
    put_into_gap _ xs rest c.as_mut_slice.result.now c.move_to_end.new.changes _ c.write_at.new.changes.items c.args.at
    (length rest) refl (omega arith)
    whole c.move_to_end.ensures
    (whole_list _ c.move_to_end.new.changes _ (omega (arith, c.move_to_end.auto.changes, c.as_mut_slice.ensures.len)))
    c.write_at.ensures.items
    ∙ (λ i. take c.args.at xs ++ is i ++ map (moved_change (to_z-of_z w64 c.args.by c.ranges.by i)) (drop c.args.at xs))
