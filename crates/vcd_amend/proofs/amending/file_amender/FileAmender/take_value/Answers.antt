use Rattle.std.proofs.Common.{◌≡◌, ◌∙◌, sym, ap, arith, List, length, map, subst, Some, None, ◌&&◌}
use Rattle.std.proofs.Common.{not}
use Rattle.std.proofs.Common.{◌++◌, [], if◌then◌else◌}
use Rattle.std.specs.Prelude.{slice_index_or}
use Rattle.std.specs.Vec.{with_items}
use Rattle.std.proofs.lemmas.List.{length-map}
use Rattle.vcd_text.specs.Grammar.{with_value_change}
use Rattle.vcd_text.specs.inside.reading.CodeTargets.{code_target}
use Rattle.vcd_amend.specs.declared.amending.code_uses.CodeUse.{CodeUse}
use Rattle.vcd_amend.specs.declared.amendment.AmendedCode.{AmendedCode as CodeInMemory}
use Rattle.vcd_amend.specs.AmendedItems.{change_fate, leaves_out}
use Rattle.vcd_amend.specs.AmendmentContents.{amendment_contents, code_contents}
use Rattle.vcd_amend.specs.inside.amending.FileAmender.{IsAt}
use Rattle.vcd_amend.specs.inside.amending.CodeProgress.{no_progress}
use Rattle.vcd_amend.specs.inside.amending.DueChanges.{no_code}
use Rattle.vcd_amend.specs.inside.amending.ValueChanges.{is_written, value_text}
use Rattle.vcd_text.proofs.shared.EmittedParts.{writes_as}
use Rattle.vcd_amend.proofs.amending.Values.{at_other, at_own, index_within}
use Rattle.vcd_amend.proofs.amending.Values.{lent_length, lent_noted, other_leaves, own_leaves, other_text, own_text}
use Rattle.vcd_amend.proofs.amending.file_amender.FileAmender.take_value.Goals as goal

pub returns-in-None-clause-at : goal.returns-in-None-clause-at
returns-in-None-clause-at g c = λ s none letters at.
    let m = c.args.self.now in
    let code = c.args.code.now in
    let now = c.still_none-self-in-None.result in
    let is : (code_target m.uses code).amended ≡ None = ap (λ (u : CodeUse). u.amended) (sym c.get-found.ensures) ∙
    c.in-None.is in
    let same : now ≡ (none && leaves_out (change_fate (amendment_contents m.amendment.now) s code)) =
    c.still_none-self-in-None.ensures ∙ ap (λ (u : CodeUse). m.none_yet && not u.is_used) c.get-found.ensures
    ∙ other_leaves m s none at code is in
    subst (IsAt (record m { none_yet = now }) (with_value_change s code letters)) same
    (at_other m s none at code letters now is)

pub returns-in-None-clause-written : goal.returns-in-None-clause-written
returns-in-None-clause-written g c = λ s none p at space body.
    let m = c.args.self.now in
    let code = c.args.code.now in
    let is : (code_target m.uses code).amended ≡ None = ap (λ (u : CodeUse). u.amended) (sym c.get-found.ensures) ∙
    c.in-None.is in
    let sp = sym space in
    let bo = sym body in
    writes_as ((λ i. if (c.get-found.ensures i).is_used then sp i ++ bo i else []) ∙ other_text m s none at code p is)
    c.write_if.ensures

pub take_amended-is_written-requires-clause-within : goal.take_amended-is_written-requires-clause-within
take_amended-is_written-requires-clause-within g c =
    let (s, none, at) = c.requires in
    let m = c.args.self.now in
    let code = c.args.code.now in
    let i = c.in-Some.index in
    let is : (code_target m.uses code).amended ≡ Some i = ap (λ (u : CodeUse). u.amended) (sym c.get-found.ensures) ∙
    c.in-Some.is in
    omega (
      arith,
      index_within m s none at code i is,
      length-map m.amendment.now.codes.items code_contents,
      ap (λ (l : List CodeInMemory). length l) c.as_slice-codes.ensures.value,
    )

pub returns-in-Some-clause-at : goal.returns-in-Some-clause-at
returns-in-Some-clause-at g c = λ s none letters at.
    let m = c.args.self.now in
    let code = c.args.code.now in
    let now = c.still_none-self.result in
    let i = c.in-Some.index in
    let took = c.take_amended-is_written in
    let is : (code_target m.uses code).amended ≡ Some i = ap (λ (u : CodeUse). u.amended) (sym c.get-found.ensures) ∙
    c.in-Some.is in
    let same : now ≡ (none && leaves_out (change_fate (amendment_contents m.amendment.now) s code)) =
    c.still_none-self.ensures ∙ ap (λ b. m.none_yet && not b) took.ensures.told
    ∙ (λ j. m.none_yet && not (is_written (c.get-found.ensures j).is_used
    (slice_index_or (map code_contents (c.as_slice-codes.ensures.value j)) i no_code)
    (slice_index_or (c.as_mut_slice-progress.ensures.value j) i no_progress) m.tick))
    ∙ own_leaves m s none at code i is in
    subst (IsAt (record m {
      counts = with_items m.counts took.new.counts;
      progress = with_items m.progress took.new.progress;
      none_yet = now;
    }) (with_value_change s code letters)) same (at_own m s none at code letters now i (with_items m.counts
    took.new.counts)
    (with_items m.progress took.new.progress) is
    (lent_length m.counts c.as_mut_slice-counts.result.now took.new.counts c.as_mut_slice-counts.ensures.value
    took.auto.counts)
    (lent_length m.progress c.as_mut_slice-progress.result.now took.new.progress c.as_mut_slice-progress.ensures.value
    took.auto.progress)
    (lent_noted m.progress c.as_mut_slice-progress.result.now took.new.progress i m.tick
    c.as_mut_slice-progress.ensures.value took.auto.progress took.ensures.noted))

pub returns-in-Some-clause-written : goal.returns-in-Some-clause-written
returns-in-Some-clause-written g c = λ s none p at space body.
    let m = c.args.self.now in
    let code = c.args.code.now in
    let i = c.in-Some.index in
    let took = c.take_amended-is_written in
    let is : (code_target m.uses code).amended ≡ Some i = ap (λ (u : CodeUse). u.amended) (sym c.get-found.ensures) ∙
    c.in-Some.is in
    let sp = sym space in
    let bo = sym body in
    writes_as ((λ j. value_text (c.get-found.ensures j).is_used
    (slice_index_or (map code_contents (c.as_slice-codes.ensures.value j)) i no_code)
    (slice_index_or (c.as_mut_slice-progress.ensures.value j) i no_progress) m.tick (sp j) (bo j))
    ∙ own_text m s none at code p i is) took.ensures.written
