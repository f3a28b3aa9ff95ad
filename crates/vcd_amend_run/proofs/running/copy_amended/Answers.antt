use Rattle.std.proofs.Common.{◌≡◌, List, ℕ, Option, subst, rules}
use Rattle.vcd_copy.specs.MarkText.{comment_of_mark}
use Rattle.vcd_amend_run.specs.MarkedRun.{mark_with}
use Rattle.std.proofs.lemmas.Option.{IfSome_then}
use Rattle.std.proofs.lemmas.Result.{on_ok_weaker}
use Rattle.vcd_core.specs.declared.capture.TheConstants.{SIGNAL_LIMIT}
use Rattle.vcd_core.specs.CaptureContents.{contents}
use Rattle.vcd_core.specs.Contents.{Contents}
use Rattle.vcd_text.specs.Grammar.{VariableDeclaration}
use Rattle.vcd_copy.specs.Marks.{CommentBytes}
use Rattle.vcd_copy.proofs.shared.CopyFaults.{begun_as}
use Rattle.vcd_amend.specs.Amendment.{Amendment}
use Rattle.vcd_amend.specs.AmendmentContents.{amendment_contents}
use Rattle.vcd_amend.specs.DeclaredVariables.{declarations_of}
use Rattle.vcd_amend.specs.KnownSignals.{IsAmendmentFor}
use Rattle.vcd_amend.specs.RetimedCopy.{IsAmendedAfterCuts, is_cut_by}
use Rattle.vcd_amend.specs.declared.cut_ticks.CutTicks.{CutTicks}
use Rattle.vcd_amend_run.specs.inside.CaptureAfterCuts.{capture_after_cuts}
use Rattle.vcd_amend_run.specs.inside.Running.{IsAmendedFor}
use Rattle.vcd_amend_run.proofs.running.copy_amended.Goals as goal

amended_for : (declared : List VariableDeclaration) (first : Contents) (ks : List ℕ) (cs own_cuts : List CutTicks)
    (last : Contents) (a : Amendment) (own mark : Option CommentBytes) (file text : List ℕ) → own ≡ mark → own_cuts ≡ cs
    → IsAmendmentFor declared (capture_after_cuts first cs).signals ks last.signals a
    → IsAmendedAfterCuts SIGNAL_LIMIT own (is_cut_by own_cuts) a file text
    → IsAmendedFor declared first ks cs last mark file text
amended_for declared first ks cs own_cuts last a own mark file text same cuts_are is_for amended = (
  a,
  is_for,
  subst (λ m. IsAmendedAfterCuts SIGNAL_LIMIT m (is_cut_by cs) a file text) same
      (subst (λ l. IsAmendedAfterCuts SIGNAL_LIMIT own (is_cut_by l) a file text) cuts_are amended),
)

pub returns-clause-amended : goal.returns-clause-amended
returns-clause-amended g c =
    let made : IsAmendmentFor (declarations_of c.args.edited.declared.items)
    (capture_after_cuts (contents c.args.edited.first) c.args.edited.cuts.items).signals
    c.args.edited.origins.items c.args.edited.session.now.signals
    (amendment_contents c.in_ok-amendment.amendment) = search rules in
    let cuts_are : c.as_slice-cuts.result.now ≡ c.args.edited.cuts.items = search rules in
    let mark_is : comment_of_mark c.mark_of-mark.result
    ≡ mark_with c.args.head c.args.edited.edit_lines.items = search rules in
    on_ok_weaker c.amend_marked.result (λ amended. IfSome_then (g.R.Source.coming c.args.reader.now) amended
    (λ file is. let (small, text, with_mark, took) = is in (
      text,
      amended_for (declarations_of c.args.edited.declared.items) (contents c.args.edited.first)
          c.args.edited.origins.items c.args.edited.cuts.items _ c.args.edited.session.now
          (amendment_contents c.in_ok-amendment.amendment) _ _ file text mark_is cuts_are made with_mark,
      took,
    ))) c.amend_marked.ensures.amended

pub returns-clause-begun : goal.returns-clause-begun
returns-clause-begun g c =
    let made : IsAmendmentFor (declarations_of c.args.edited.declared.items)
    (capture_after_cuts (contents c.args.edited.first) c.args.edited.cuts.items).signals
    c.args.edited.origins.items c.args.edited.session.now.signals
    (amendment_contents c.in_ok-amendment.amendment) = search rules in
    let cuts_are : c.as_slice-cuts.result.now ≡ c.args.edited.cuts.items = search rules in
    let mark_is : comment_of_mark c.mark_of-mark.result
    ≡ mark_with c.args.head c.args.edited.edit_lines.items = search rules in
    begun_as _ _ _ _ _ _ _ c.amend_marked.result (λ file text with_mark.
    amended_for (declarations_of c.args.edited.declared.items) (contents c.args.edited.first)
    c.args.edited.origins.items c.args.edited.cuts.items _ c.args.edited.session.now
    (amendment_contents c.in_ok-amendment.amendment) _ _ file text mark_is cuts_are made with_mark)
    c.amend_marked.ensures.begun
