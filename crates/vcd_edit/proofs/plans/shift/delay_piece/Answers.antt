use Rattle.std.proofs.Common.{◌≡◌, ◌≤◌, ℤ, pos, List, length, take, map, All, ap, subst, refl, sym, ◌∙◌, arith}
use Rattle.std.specs.Int.{w64}
use Rattle.std.proofs.lemmas.Int.{ints, to_z-of_z}
use Rattle.std.proofs.lemmas.List.Elements.{All-take}
use Rattle.vcd_core.specs.declared.wave.Change.{Change}
use Rattle.vcd_core.specs.Splice.{moved_change}
use Rattle.vcd_core.specs.Contents.{SignalContents}
use Rattle.vcd_core.specs.CaptureContents.{signal_contents}
use Rattle.vcd_core.proofs.shared.Pushes.{all_from_upto}
use Rattle.vcd_edit.specs.Effect.{shift_value}
use Rattle.vcd_edit.proofs.plans.shift.ShiftPieces.{leads_same, gives_same, shift_before, later_all_stay}
use Rattle.vcd_edit.proofs.plans.shift.ShiftPieces.{later_some_stay}
use Rattle.vcd_edit.proofs.plans.shift.delay_piece.Goals as goal

pub returns-then-ticks-end : goal.returns-then-ticks-end
returns-then-ticks-end c =
    let s : SignalContents = signal_contents c.args.signal.now in
    let same : pos c.unsigned_abs-ticks.result ≡ c.args.by =
    omega (arith, ints, c.requires.later, c.unsigned_abs-ticks.ensures.value, to_z-of_z w64 c.args.by c.ranges.by) in
    gives_same c.constant_piece.result c.args.position s c.args.end _ c.args.by (shift_value c.args.end c.args.by s)
    (shift_value c.args.end c.args.by s) (to_z-of_z w64 c.args.by c.ranges.by) (λ t. refl)
    (c.constant_piece.ensures c.args.end (shift_value c.args.end c.args.by s)
    (λ t to. ap (λ (by : ℤ). shift_value c.args.end by s t) (sym same)
    ∙ shift_before c.unsigned_abs-ticks.result c.args.end s t (omega (arith, c.if-ticks-end.true))
    ∙ sym c.x_value.ensures))

pub returns-then-inside-changes : goal.returns-then-inside-changes
returns-then-inside-changes c =
    let s : SignalContents = signal_contents c.args.signal.now in
    let same : pos c.unsigned_abs-ticks.result ≡ c.args.by =
    omega (arith, ints, c.requires.later, c.unsigned_abs-ticks.ensures.value, to_z-of_z w64 c.args.by c.ranges.by) in
    record {
      signal = refl;
      offset = to_z-of_z w64 c.args.by c.ranges.by;
      leads = leads_same _ s.changes s.width c.args.end (shift_value c.args.end (pos c.unsigned_abs-ticks.result) s)
          (shift_value c.args.end c.args.by s) (λ t to. ap (λ (by : ℤ). shift_value c.args.end by s t) same)
          (later_all_stay c.unsigned_abs-ticks.result c.args.end s c.requires.sound.wave c.requires.sound.ticks
          c.if-ticks-end.false (omega (arith, c.requires.end)) _ refl c.count_until-inside.result
          c.count_until-inside.ensures
          (c.if-inside-changes.true ∙ ap length c.changes-changes.ensures.changes) refl c.new.ensures.items
          (to_z-of_z w64 c.args.by c.ranges.by ∙ sym same));
    }

pub later_changes-requires : goal.later_changes-requires
later_changes-requires c = λ k d within.
    let tick = All-take (λ (x : Change). x.tick ≤ c.args.end) c.count_until-inside.result c.changes-changes.result.now
    (subst (All (λ (x : Change). x.tick ≤ c.args.end)) (sym c.changes-changes.ensures.changes)
    (all_from_upto c.args.end c.args.signal.now.wave.changes c.requires.sound.ticks)) k d within in
    omega (arith, tick, c.if-ticks-end.false, c.requires.end)

pub returns : goal.returns
returns c =
    let s : SignalContents = signal_contents c.args.signal.now in
    let same : pos c.unsigned_abs-ticks.result ≡ c.args.by =
    omega (arith, ints, c.requires.later, c.unsigned_abs-ticks.ensures.value, to_z-of_z w64 c.args.by c.ranges.by) in
    record {
      signal = refl;
      offset = to_z-of_z w64 c.args.by c.ranges.by;
      leads = leads_same _ s.changes s.width c.args.end (shift_value c.args.end (pos c.unsigned_abs-ticks.result) s)
          (shift_value c.args.end c.args.by s) (λ t to. ap (λ (by : ℤ). shift_value c.args.end by s t) same)
          (later_some_stay c.unsigned_abs-ticks.result c.args.end s c.requires.sound.wave c.requires.sound.ticks
          c.if-ticks-end.false (omega (arith, c.requires.end)) _ refl c.count_until-inside.result
          c.count_until-inside.ensures (ap length c.changes-changes.ensures.changes)
          (c.in_ok-later_changes.ensures
          ∙ ap (λ (cs : List Change). map (moved_change (pos c.unsigned_abs-ticks.result))
          (take c.count_until-inside.result cs)) c.changes-changes.ensures.changes));
    }
