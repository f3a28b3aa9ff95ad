-- The copy with a mark is that of the marked pieces, without cuts or after them.
use Rattle.std.proofs.Common.{◌≡◌, ◌∙◌, refl, sym, ap, subst, true, List, [], ◌∷◌, ℕ, length, arith}
use Rattle.std.specs.Prelude.{Option}
use Rattle.std.proofs.lemmas.Bool.Decides.{nat_tests}
use Rattle.std.proofs.lemmas.Option.{IfSome_then}
use Rattle.std.proofs.lemmas.Result.{on_ok_weaker}
use Rattle.vcd_copy.specs.Copied.{IsCopy}
use Rattle.vcd_copy.specs.Marks.{CommentBytes, with_mark, marked_rules}
use Rattle.vcd_copy.specs.MarkText.{comment_of_mark}
use Rattle.vcd_copy.specs.declared.marking.Mark.{Mark}
use Rattle.vcd_copy.proofs.shared.CopyFaults.{begun_as}
use Rattle.vcd_text.specs.Grammar.{initial_state}
use Rattle.vcd_copy.specs.Pieces.{Piece}
use Rattle.vcd_amend.specs.Amendment.{Amendment}
use Rattle.vcd_amend.specs.AmendedText.{amended_text}
use Rattle.vcd_amend.specs.AmendedCopy.{amendment_rules}
use Rattle.vcd_amend.specs.AmendmentContents.{amendment_contents}
use Rattle.vcd_amend.specs.RetimedCopy.{IsAmendedAfterCuts, retimed_rules, is_cut_by}
use Rattle.vcd_amend.specs.declared.amendment.Amendment.{Amendment as HeldAmendment}
use Rattle.vcd_amend.specs.declared.cut_ticks.CutTicks.{CutTicks}
use Rattle.vcd_amend.proofs.amending.AnyLimit.{text_at}
use Rattle.vcd_amend.proofs.amended.CopiedText.{copy_is_amended_text}
use Rattle.vcd_amend.proofs.amending.CutTexts.{copy_is_amended_after_cuts}
use Rattle.vcd_copy.proofs.marks.MarkedCopies.{copy_with_mark_is_copy_of_marked}
use Rattle.vcd_amend.proofs.retimed.NoCut.{pieces_stay}
use Rattle.vcd_amend.proofs.amending.amend_marked.Goals as goal

amended_without_cuts : (limit : ℕ) (mark : Option CommentBytes) (cuts : List CutTicks) (a : Amendment)
    (file text : List ℕ) → length cuts ≡ 0 → IsCopy limit (marked_rules mark (amendment_rules a 0)) file text
    → IsAmendedAfterCuts limit mark (is_cut_by cuts) a file text
unfolding is_cut_by
amended_without_cuts limit mark [] a file text none copy =
    let marked : List Piece = with_mark mark copy.pieces in
    record {
      pieces = copy.pieces;
      tail = copy.tail;
      cut = copy.cut;
      allowed = copy.allowed;
      in_body = copy.in_body;
      is = copy.is ∙ copy_with_mark_is_copy_of_marked mark (amendment_rules a 0) copy.pieces copy.tail
          ∙ copy_is_amended_text a 0 marked copy.tail
          ∙ sym (text_at a true limit (initial_state 0) marked copy.tail)
          ∙ ap (λ (ps : List Piece). amended_text a true (initial_state limit) ps copy.tail)
          (sym (pieces_stay (initial_state limit) marked));
    }
amended_without_cuts limit mark (cut ∷ cuts) a file text none copy = absurd (cc)

module _ (limit : ℕ) (cuts : List CutTicks) (held own : HeldAmendment) (same : held ≡ own) (mark : Option Mark)
    (file text : List ℕ) where
  abbrev a : Amendment
  a = amendment_contents own

  abbrev comment : Option CommentBytes
  comment = comment_of_mark mark

  abbrev IsAmended : Type 0
  IsAmended = IsAmendedAfterCuts limit comment (is_cut_by cuts) a file text

  -- the copy without cuts
  uncut : length cuts ≡ 0
      → IsCopy limit (marked_rules comment (amendment_rules (amendment_contents held) 0)) file text → IsAmended
  uncut none copy = amended_without_cuts limit comment cuts a file text none
      (subst (λ (held : HeldAmendment). IsCopy limit (marked_rules comment
      (amendment_rules (amendment_contents held) 0)) file text) same copy)

  -- and after cuts
  cut : (walk : List CutTicks) → walk ≡ cuts → IsCopy limit (marked_rules comment
      (retimed_rules (is_cut_by walk) (amendment_rules (amendment_contents held) 0))) file text → IsAmended
  cut walk walks copy = copy_is_amended_after_cuts limit comment (is_cut_by cuts) a file text
      (subst (λ (cs : List CutTicks). IsCopy limit (marked_rules comment
      (retimed_rules (is_cut_by cs) (amendment_rules a 0))) file text) walks
      (subst (λ (held : HeldAmendment). IsCopy limit (marked_rules comment
      (retimed_rules (is_cut_by walk) (amendment_rules (amendment_contents held) 0))) file text) same copy))

-- a mark comes before no first piece
pub copy-requires-clause-begins : goal.copy-requires-clause-begins
unfolding with_mark
copy-requires-clause-begins g c = c.in_ok-amender.ensures.0

pub copy-requires-2-clause-begins : goal.copy-requires-2-clause-begins
unfolding with_mark
copy-requires-2-clause-begins g c = c.in_ok-amender-2.ensures.0

pub returns-then-is_empty-clause-amended : goal.returns-then-is_empty-clause-amended
returns-then-is_empty-clause-amended g c = on_ok_weaker c.copy.result
    (λ copied. IfSome_then (g.R.Source.coming c.args.reader.now) (copied refl) (λ file is.
    let (small, text, copy, appends) = is in (
      small,
      text,
      uncut c.args.limit c.args.edits.cuts.now _ _ c.in_ok-amender.ensures.1 c.args.edits.mark file text
          (grind (arith, c.if-is_empty.true, c.is_empty.ensures, nat_tests)) copy,
      appends,
    ))) c.copy.ensures.copied

pub returns-then-is_empty-clause-begun : goal.returns-then-is_empty-clause-begun
returns-then-is_empty-clause-begun g c = begun_as _ _ _ _ _ _ _ c.copy.result (λ file text copy.
    uncut c.args.limit c.args.edits.cuts.now _ _ c.in_ok-amender.ensures.1 c.args.edits.mark file text
    (grind (arith, c.if-is_empty.true, c.is_empty.ensures, nat_tests)) copy) c.copy.ensures.begun

pub returns-clause-amended : goal.returns-clause-amended
returns-clause-amended g c = on_ok_weaker c.copy-2.result
    (λ copied. IfSome_then (g.R.Source.coming c.args.reader.now) (copied refl) (λ file is.
    let (small, text, copy, appends) = is in (
      small,
      text,
      cut c.args.limit c.args.edits.cuts.now _ _ c.in_ok-amender-2.ensures.1 c.args.edits.mark file text
          c.in_ok-amender-2.amender.walk c.in_ok-amender-2.ensures.2 copy,
      appends,
    ))) c.copy-2.ensures.copied

pub returns-clause-begun : goal.returns-clause-begun
returns-clause-begun g c = begun_as _ _ _ _ _ _ _ c.copy-2.result (λ file text copy.
    cut c.args.limit c.args.edits.cuts.now _ _ c.in_ok-amender-2.ensures.1 c.args.edits.mark file text
    c.in_ok-amender-2.amender.walk c.in_ok-amender-2.ensures.2 copy) c.copy-2.ensures.begun

pub returns-clause-ended : goal.returns-clause-ended
returns-clause-ended g c = on_ok_weaker c.copy-2.result (λ ended. ended refl) c.copy-2.ensures.ended
