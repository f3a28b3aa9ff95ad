use Rattle.std.proofs.Common.{sym, subst}
use Rattle.vcd_text.specs.Words.{word_on}
use Rattle.vcd_text.specs.HeardChanges.{skipped_variables}
use Rattle.vcd_text.specs.inside.reading.SkippedVariables.{HearsWord, KnowsFirsts}
use Rattle.vcd_text.specs.declared.reading.skipped_variables.SkippedVariables.{SkippedVariables}
use Rattle.vcd_text.proofs.reading.change_listener.HeardWords.{word_heard}
use Rattle.vcd_text.proofs.reading.change_listener.ChangeListener.hear_word.Goals as goal

pub returns-clause-heard : goal.returns-clause-heard
returns-clause-heard c limit start words_so_far h =
    let r = h.taken in
    let m = c.args.parser.now in
    let same = c.in_ok-hear_step.ensures.skipped in
    let (later, step) = c.in_ok-take_word.ensures.step h.asked r.state r.begun r.at in
    word_heard limit later start _ _ m c.take_word.new.parser words_so_far (word_on c.args.text.now c.args.line) h step
    (subst (λ s. HearsWord m.item m c.args.text.now c.args.self.now.skipped s) (sym same) c.in_ok-hear_word.ensures)
    (λ s at listed. c.in_ok-hear_step.ensures.heard later s at (subst (λ (k : SkippedVariables). KnowsFirsts k.firsts
    (skipped_variables s.declared)) same listed.firsts))
    c.in_ok-hear_step.ensures.first
