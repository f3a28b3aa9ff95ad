use Rattle.std.proofs.Common.{◌≡◌, ◌∙◌, ◌∷◌, ◌==◌, ◌||◌, [], not, nat_lt, sym, ap, List, ℕ, Option}
use Rattle.std.proofs.Common.{if◌then◌else◌}
use Rattle.std.specs.Vec.{with_items}
use Rattle.vcd_core.specs.Decimal.{is_number, number_of}
use Rattle.vcd_core.specs.Word.{is_skipped_kind}
use Rattle.vcd_core.specs.declared.value.TheConstants.{WIDTH_LIMIT}
use Rattle.vcd_text.specs.Items.{variable, spelling}
use Rattle.vcd_text.specs.Grammar.{is_skipped}
use Rattle.vcd_text.specs.inside.reading.CodeTargets.{code_target}
use Rattle.vcd_copy.specs.VariableWords.{IsVariable}
use Rattle.vcd_text.proofs.shared.EmittedParts.{writes_as, writes_more}
use Rattle.vcd_amend.specs.Amendment.{fate_of}
use Rattle.vcd_amend.specs.AmendedItems.{declaration_fate}
use Rattle.vcd_amend.specs.AmendedText.{bytes_in_place}
use Rattle.vcd_amend.specs.AmendmentContents.{amendment_contents}
use Rattle.vcd_amend.specs.declared.amending.code_uses.CodeUse.{CodeUse}
use Rattle.vcd_amend.specs.declared.amending.code_progress.CodeProgress.{CodeProgress}
use Rattle.vcd_amend.specs.inside.amending.CodeProgress.{noted_variable, is_at_index, no_progress}
use Rattle.std.proofs.Common.{length, refl}
use Rattle.std.specs.Prelude.{slice_index_or}
use Rattle.vcd_amend.specs.inside.amending.FileAmender.{declared_in, piece_of_variable, fate_contents_first}
use Rattle.vcd_amend.specs.inside.amending.VariableLeft.{fate_of_left, has_left}
use Rattle.vcd_amend.proofs.amending.Values.{lent_each, lent_length}
use Rattle.vcd_amend.proofs.shared.Variables.{at_variable, fate_first, has_left_is, amended_within}
use Rattle.vcd_amend.proofs.amending.file_amender.FileAmender.take_variable.Goals as goal

pub note_variable-requires : goal.note_variable-requires
note_variable-requires g c =
    let (s, none, kind, size, code, names, at, is, number) = c.requires in
    let m = c.args.self.now in
    amended_within m s none at c.in-Some.declared.code.now c.get-amended.result.amended _
    (ap (λ (u : CodeUse). u.amended) (sym c.get-amended.ensures))
    (ap (λ (l : List CodeProgress). length l) c.as_mut_slice-progress.ensures.value)

pub returns-clause-written : goal.returns-clause-written
returns-clause-written g c = λ s none kind size code names p at is number p_is.
    let m = c.args.self.now in
    let a = amendment_contents m.amendment.now in
    let d = declared_in s kind size code names in
    let (k, z, co, later) = c.in-Some.ensures kind size code names is in
    let kk = sym k in
    let zz = sym z in
    let kept = not c.is_skipped-is_kept.result in
    let same : kept ≡ not (is_skipped d) = ap not (c.is_skipped-is_kept.ensures (ap is_number z ∙ number)
    ∙ (λ i. is_skipped_kind (k i) || ((number_of (z i) == 0) || nat_lt WIDTH_LIMIT (number_of (z i))))) in
    let left : fate_of_left c.next_fate-left.result ≡ fate_of a s.declared d = c.next_fate-left.ensures
    ∙ ap (fate_contents_first kept) at.fates ∙ fate_first m.amendment.now.fates.items a s.declared d kept same refl in
    let moved : IsVariable c.args.body.now c.in-Some.declared.kind.now c.in-Some.declared.size.now code names = record {
      spelled = is.spelled ∙ (λ i. spelling (variable (kk i ∷ zz i ∷ code ∷ names)));
    } in
    writes_as ((λ i. bytes_in_place (declaration_fate (left i) (k i ∷ z i ∷ code ∷ names)) []
    (piece_of_variable c.args.space.now c.args.body.now (k i) (z i) code names))
    ∙ ap (bytes_in_place (declaration_fate (fate_of a s.declared d) (kind ∷ size ∷ code ∷ names)) []) (sym p_is))
    (c.write_left.ensures code names moved)

pub returns-clause-at : goal.returns-clause-at
returns-clause-at g c = λ s none kind size code names at is number.
    let m = c.args.self.now in
    let a = amendment_contents m.amendment.now in
    let d = declared_in s kind size code names in
    let (k, z, co, later) = c.in-Some.ensures kind size code names is in
    let kept = not c.is_skipped-is_kept.result in
    let same : kept ≡ not (is_skipped d) = ap not (c.is_skipped-is_kept.ensures (ap is_number z ∙ number)
    ∙ (λ i. is_skipped_kind (k i) || ((number_of (z i) == 0) || nat_lt WIDTH_LIMIT (number_of (z i))))) in
    let left : fate_of_left c.next_fate-left.result ≡ fate_of a s.declared d = c.next_fate-left.ensures
    ∙ ap (fate_contents_first kept) at.fates ∙ fate_first m.amendment.now.fates.items a s.declared d kept same refl in
    let index : c.get-amended.result.amended ≡ (code_target m.uses d.code).amended =
    ap (λ (u : CodeUse). u.amended) (c.get-amended.ensures ∙ ap (code_target m.uses) co) in
    let new = c.note_variable.new.progress in
    at_variable m s none at d kept same c.use_left.new.uses (with_items m.progress new) c.later_fates-self.result
    (λ key. c.in_ok-use_left.ensures.used key ∙ ap (λ b. (code_target m.uses key).is_used || b)
    ((λ i. has_left key (left i) (co i)) ∙ has_left_is key (fate_of a s.declared d) d))
    c.in_ok-use_left.ensures.amended
    (lent_length m.progress c.as_mut_slice-progress.result.now new c.as_mut_slice-progress.ensures.value
    c.note_variable.auto.progress)
    (lent_each m.progress c.as_mut_slice-progress.result.now new
    (λ n p. if is_at_index (code_target m.uses d.code).amended n then noted_variable kept p else p)
    c.as_mut_slice-progress.ensures.value c.note_variable.auto.progress (λ n within. c.note_variable.ensures n within
    ∙ ap (λ (o : Option ℕ). if is_at_index o n then noted_variable kept
    (slice_index_or c.as_mut_slice-progress.result.now n no_progress)
    else slice_index_or c.as_mut_slice-progress.result.now n no_progress) index))
    c.later_fates-self.ensures

pub returns-clause-more : goal.returns-clause-more
returns-clause-more g c =
    let (s, none, kind, size, code, names, at, is, number) = c.requires in
    let (k, z, co, later) = c.in-Some.ensures kind size code names is in
    let kk = sym k in
    let zz = sym z in
    let moved : IsVariable c.args.body.now c.in-Some.declared.kind.now c.in-Some.declared.size.now code names = record {
      spelled = is.spelled ∙ (λ i. spelling (variable (kk i ∷ zz i ∷ code ∷ names)));
    } in
    writes_more (c.write_left.ensures code names moved)
