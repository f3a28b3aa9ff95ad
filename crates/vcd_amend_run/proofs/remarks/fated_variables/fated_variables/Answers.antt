-- One more variable, and the fates that are left.
use Rattle.std.proofs.Common.{◌≡◌, ◌∙◌, ◌++◌, ◌∷◌, [], ◌+◌, Bool, not, List, map, take, drop, length, sym, ap, arith}
use Rattle.std.proofs.Common.{if◌then◌else◌, refl}
use Rattle.std.proofs.lemmas.List.{map-append}
use Rattle.vcd_text.specs.Grammar.{VariableDeclaration, is_skipped, kept_variables}
use Rattle.vcd_amend.specs.Amendment.{Amendment}
use Rattle.vcd_amend.specs.AmendmentContents.{amendment_contents}
use Rattle.vcd_amend.specs.DeclaredVariables.{declaration_of_variable, declarations_of}
use Rattle.vcd_amend.specs.declared.amendment.Fate.{Fate as FateInMemory}
use Rattle.vcd_amend_run.specs.inside.OutputRemarks.{fate_in_memory, variable_fates}
use Rattle.vcd_amend.specs.inside.amending.FileAmender.{fate_contents_first}
use Rattle.vcd_amend.proofs.shared.Variables.{fate_first, fates_more}
use Rattle.vcd_amend_run.proofs.remarks.Fates.{map_more, fates_of_more}
use Rattle.vcd_amend_run.proofs.remarks.fated_variables.fated_variables.Goals as goal

pub loop-variable-preserved : goal.loop-variable-preserved
loop-variable-preserved c =
    let l = c.loop-variable in
    let ds : List VariableDeclaration = declarations_of (take l.variable-index c.args.declared.now) in
    let d : VariableDeclaration = declaration_of_variable c.variable-item.result in
    let a : Amendment = amendment_contents c.args.amendment.now in
    let fates : List FateInMemory = c.args.amendment.now.fates.items in
    let kept : Bool = not c.is_skipped-is_kept.result in
    let same : kept ≡ not (is_skipped d) = ap not c.is_skipped-is_kept.ensures in
    let more : declarations_of (take (l.variable-index + 1) c.args.declared.now) ≡ ds ++ d ∷ [] =
    map_more declaration_of_variable c.args.declared.now l.variable-index c.variable-item.result (omega arith)
    c.variable-item.is in
    let fate = c.next_fate-left.ensures ∙ ap (fate_contents_first kept) l.invariant.fates
    ∙ fate_first fates a ds d kept same refl in
    record {
      fated = ap (map fate_in_memory) c.in_ok-push.ensures.items
          ∙ map-append fate_in_memory l.fated.items _
          ∙ (λ i. l.invariant.fated i ++ record { fate = fate i; variable = d } ∷ [])
          ∙ sym (fates_of_more a ds d) ∙ ap (variable_fates a) (sym more);
      fates = c.later_fates-fates.ensures
          ∙ ap (λ (fs : List FateInMemory). if kept then drop 1 fs else fs) l.invariant.fates
          ∙ fates_more fates ds d kept same
          ∙ ap (λ (es : List VariableDeclaration). drop (length (kept_variables es)) fates) (sym more);
    }
