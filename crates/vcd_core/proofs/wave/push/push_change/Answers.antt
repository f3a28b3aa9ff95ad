use Rattle.std.proofs.Common.{◌≡◌, sym, true, false}
use Rattle.std.proofs.lemmas.Bool.Decides.{not_from_Decides}
use Rattle.vcd_core.specs.inside.value.EqualByLetters.{same_letters-Decides}
use Rattle.vcd_core.specs.Value.{all_x, same_letters}
use Rattle.vcd_core.specs.WavePush.{last_value, changes_before}
use Rattle.vcd_core.proofs.shared.Pushes.{pushed_same, pushed_other}
use Rattle.vcd_core.proofs.wave.push.push_change.Goals as goal

pub returns-in_err-make_room-clause-adds_none : goal.returns-in_err-make_room-clause-adds_none
returns-in_err-make_room-clause-adds_none c same =
    let before = last_value (all_x c.args.width) (changes_before c.args.tick c.args.changes.now.items) in
    let other : same_letters c.args.value before ≡ false = cc in
    absurd (not_from_Decides _ (same_letters-Decides _ _) other (sym same))

pub returns-in_ok-make_room-clause-pushed : goal.returns-in_ok-make_room-clause-pushed
returns-in_ok-make_room-clause-pushed c =
    let before = last_value (all_x c.args.width) (changes_before c.args.tick c.args.changes.now.items) in
    let other : same_letters c.args.value before ≡ false = cc in
    cc (pushed_other c.args.width c.args.changes.now.items c.args.tick c.args.value other)

pub returns-else-not-has_last_value-clause-pushed : goal.returns-else-not-has_last_value-clause-pushed
returns-else-not-has_last_value-clause-pushed c =
    let before = last_value (all_x c.args.width) (changes_before c.args.tick c.args.changes.now.items) in
    let same : same_letters c.args.value before ≡ true = cc in
    cc (pushed_same c.args.width c.args.changes.now.items c.args.tick c.args.value same)
