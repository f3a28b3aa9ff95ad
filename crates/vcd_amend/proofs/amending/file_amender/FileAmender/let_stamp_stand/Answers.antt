use Rattle.std.proofs.Common.{◌≡◌, refl, List, [], map, drop, subst}
use Rattle.std.specs.List.{filter}
use Rattle.vcd_amend.specs.declared.amending.code_progress.CodeProgress.{CodeProgress}
use Rattle.vcd_amend.specs.declared.amending.due_changes.DueChange.{DueChange}
use Rattle.vcd_amend.specs.inside.amending.CodeProgress.{is_open_by}
use Rattle.vcd_amend.specs.inside.amending.DueChanges.{due_transition, before_tick, from_tick}
use Rattle.vcd_amend.proofs.amending.Stamps.{none_open, after_stamp}
use Rattle.vcd_amend.proofs.amending.file_amender.FileAmender.let_stamp_stand.Goals as goal

pub returns-clause-stands : goal.returns-clause-stands
returns-clause-stands c = λ stands s none_yet at later.
    let m = c.args.self.now in
    let tick = c.args.tick in
    let next = c.in-Some.next in
    let progress = c.as_slice-progress.ensures.value in
    let due = c.as_slice.ensures.value in
    let none : filter (is_open_by m.progress.items)
    (before_tick tick (map due_transition (drop m.next m.due.items))) ≡ []
    = subst (λ (l : List CodeProgress). filter (is_open_by l) (before_tick tick
    (map due_transition (drop m.next m.due.items))) ≡ []) progress
    (subst (λ (l : List DueChange). filter (is_open_by c.as_slice-progress.result.now) (before_tick tick
    (map due_transition (drop m.next l))) ≡ []) due c.in-Some.ensures.none_open) in
    let left : map due_transition (drop next m.due.items)
    ≡ from_tick tick (map due_transition (drop m.next m.due.items)) =
    subst (λ (l : List DueChange). map due_transition (drop next l)
    ≡ from_tick tick (map due_transition (drop m.next l))) due c.in-Some.ensures.next in
    (none_open m s none_yet at tick later none, after_stamp m s none_yet at tick next m.counts later refl left)
