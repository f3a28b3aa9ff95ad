use Rattle.std.proofs.Common.{◌≡◌, ap, sym, ◌∙◌, ◌==◌, ◌-◌, ◌<◌, get_or, length, arith, nat_lt, nat_le}
use Rattle.std.proofs.lemmas.List.{get_or-map}
use Rattle.std.proofs.lemmas.List.Sums.{count_by-le-length}
use Rattle.vcd_core.specs.declared.wave.Change.{Change}
use Rattle.vcd_core.specs.Value.{all_x}
use Rattle.vcd_core.proofs.shared.Pushes.{no_change}
use Rattle.vcd_amend.proofs.amending.LastChange.{early_count, last_at, none_at}
use Rattle.vcd_amend.proofs.amending.moments.has_change_at.Goals as goal

pub returns-then-count-gt0 : goal.returns-then-count-gt0
returns-then-count-gt0 c =
    let cs = c.args.wave.now.changes in
    let t = c.args.tick in
    let last = c.args.count - 1 in
    let some : 0 < early_count cs t = omega (arith, c.requires) in
    let inside : last < length cs =
    omega (arith, c.requires, some, count_by-le-length (λ (x : Change). nat_le x.tick t) cs) in
    ap (λ n. n == t) (ap (λ l. get_or l last 0) c.ticks-ticks.ensures.ticks
    ∙ get_or-map (λ (x : Change). x.tick) cs last no_change 0 inside
    ∙ ap (λ n. (get_or cs (n - 1) no_change).tick) c.requires)
    ∙ last_at 0 (all_x c.args.wave.now.width) cs t no_change c.ticks-ticks.ensures.form.rise some

pub returns-else-count-gt0 : goal.returns-else-count-gt0
returns-else-count-gt0 c =
    let t = c.args.tick in
    let none : early_count c.args.wave.now.changes t ≡ 0 = omega (arith, c.requires) in
    let count : c.args.count ≡ 0 = omega (arith, c.requires) in
    ap (λ n. nat_lt 0 n) count
    ∙ sym (none_at 0 (all_x c.args.wave.now.width) c.args.wave.now.changes t c.ticks-ticks.ensures.form.rise none)
