use Rattle.std.proofs.Common.{◌∙◌, ◌+◌, ◌∷◌, ap, map, drop}
use Rattle.std.specs.List.{filter, flat_map, join_with_byte}
use Rattle.vcd_text.specs.Items.{Item, spelling}
use Rattle.vcd_text.proofs.shared.EmittedParts.{writes_as, writes_both}
use Rattle.vcd_amend.specs.AmendmentContents.{amendment_contents, code_contents}
use Rattle.vcd_amend.specs.inside.amending.CodeProgress.{is_open_by}
use Rattle.vcd_amend.specs.inside.amending.DueChanges.{due_transition, due_item, before_tick}
use Rattle.vcd_amend.proofs.amending.SeenItems.{before_state, before_none}
use Rattle.vcd_amend.proofs.amending.Stamps.{end_items}
use Rattle.vcd_amend.proofs.amending.file_amender.FileAmenderAmender.finish.Goals as goal

pub returns-clause-written : goal.returns-clause-written
returns-clause-written g c = λ pieces seen.
    let m = c.args.self.now in
    let a = amendment_contents m.amendment.now in
    let codes = c.as_slice.ensures.value in
    let progress = c.as_slice-2.ensures.value in
    let due = c.as_slice-3.ensures.value in
    writes_both (writes_as ((λ i. flat_map (λ (x : Item). 10 ∷ join_with_byte 32 (spelling x)) (map (due_item (map
    code_contents (codes i)))
    (filter (is_open_by (progress i)) (before_tick (seen.tick i + 1) (map due_transition (drop m.next (due i)))))))
    ∙ ap (flat_map (λ (x : Item). 10 ∷ join_with_byte 32 (spelling x)))
    (end_items m (before_state pieces) (before_none a pieces) seen))
    c.write_due_at.ensures) c.write_bytes.ensures.written
