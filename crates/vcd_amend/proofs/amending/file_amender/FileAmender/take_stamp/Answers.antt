use Rattle.std.proofs.Common.{sym, ap, ◌∙◌, map, drop, List, length, arith}
use Rattle.std.proofs.lemmas.List.{with_items_is}
use Rattle.vcd_amend.specs.declared.amending.moments.ChangeCounts.{ChangeCounts}
use Rattle.vcd_amend.specs.declared.amending.due_changes.DueChange.{DueChange}
use Rattle.vcd_text.proofs.shared.EmittedParts.{writes_as, writes_both}
use Rattle.vcd_amend.specs.inside.amending.DueChanges.{due_transition, from_tick}
use Rattle.vcd_amend.proofs.amending.Stamps.{stamp_text, after_stamp}
use Rattle.vcd_amend.proofs.amending.file_amender.FileAmender.take_stamp.Goals as goal

pub returns-clause-written : goal.returns-clause-written
returns-clause-written g c = λ s none_yet at later.
    writes_both c.write_bytes.ensures.written (writes_both (writes_as (stamp_text c.args.self.now s none_yet at
    c.as_slice.result.now c.as_slice-2.result.now c.as_slice-3.result.now c.last_stamp-last.result c.args.tick
    c.as_slice.ensures.value c.as_slice-2.ensures.value c.as_slice-3.ensures.value c.last_stamp-last.ensures later)
    c.write_due_before-self.ensures.written) c.write_bytes-2.ensures.written)

pub returns-clause-at : goal.returns-clause-at
returns-clause-at g c = λ s none_yet at later.
    let m = c.args.self.now in
    let due = c.as_slice-3.ensures.value in
    after_stamp m s none_yet at c.args.tick c.write_due_before-self.result _ later
    (ap (λ (l : List ChangeCounts). length l) (with_items_is m.counts c.write_due_before-self.new.counts
    (omega (arith, c.write_due_before-self.auto.counts, c.as_mut_slice.ensures.len)))
    ∙ c.write_due_before-self.auto.counts ∙ ap (λ (l : List ChangeCounts). length l) c.as_mut_slice.ensures.value)
    (ap (λ (l : List DueChange). map due_transition (drop c.write_due_before-self.result l)) (sym due)
    ∙ c.write_due_before-self.ensures.next
    ∙ ap (λ (l : List DueChange). from_tick c.args.tick (map due_transition (drop m.next l))) due)
