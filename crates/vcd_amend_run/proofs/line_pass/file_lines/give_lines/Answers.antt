use Rattle.std.proofs.Common.{◌≡◌, ◌∷◌, [], ◌+◌, ◌++◌, drop, sym, ap, ◌∙◌, arith, ℕ, List, length, get_or, Option}
use Rattle.std.proofs.Common.{None, Bool, subst, if◌then◌else◌}
use Rattle.vcd_text.specs.LentChanges.{heard_contents}
use Rattle.vcd_amend_run.specs.inside.FileLines as spec
use Rattle.vcd_amend_run.specs.inside.FileLines.{changes_of_line, changes_of_lines}
use Rattle.vcd_amend_run.specs.inside.PassSteps.{HasGiven}
use Rattle.vcd_decode.specs.declared.edge_maker.LineChange.{LineChange}
use Rattle.vcd_amend_run.proofs.line_pass.GivenChanges.{given_next, next_line, no_line}
use Rattle.vcd_amend_run.proofs.line_pass.file_lines.give_lines.Goals as goal
use Rattle.vcd_amend_run.proofs.line_pass.file_lines.give_lines.Goals.{then-is_of_line+in_ok-give_edge, else-is_of_line}

pub loop-line-preserved : goal.loop-line-preserved
loop-line-preserved g c =
    let text_left = g.F.StreamedReply.text_left in
    let remarks_left = g.F.StreamedReply.remarks_left in
    let cuts = c.args.lines.now.cuts.now in
    let firsts : List (Option ℕ) = c.args.lines.now.firsts in
    let line = c.loop-line.line in
    let h = heard_contents c.args.change.now in
    let due = changes_of_lines cuts firsts 0 h in
    let left = changes_of_lines cuts (drop line firsts) line h in
    let rest = changes_of_lines cuts (drop (line + 1) firsts) (line + 1) h in
    let four : length firsts ≡ 4 = omega arith in
    let parts = next_line cuts firsts line h (omega (arith, four)) in
    elim c.if-is_of_line.branch [
      | then-is_of_line+in_ok-give_edge w ↦
          let own : changes_of_line cuts (get_or firsts line None) line h ≡ w.line_change.result ∷ [] =
          ap (λ (b : Bool). if b then spec.line_change cuts line h ∷ [] else [])
          (sym c.is_of_line.ensures ∙ w.if-is_of_line.true)
          ∙ ap (λ (m : LineChange). m ∷ []) (sym w.line_change.ensures) in
          rw w.maker-is (rw w.reply-is (rw w.text-is
          (given_next text_left remarks_left due left (w.line_change.result ∷ []) rest
          c.args.maker.now c.loop-line.maker w.give_edge.new.maker
          c.args.reply.now c.loop-line.reply w.give_edge.new.reply
          c.args.text.now.items c.loop-line.text.items w.give_edge.new.text.items
          (parts ∙ ap (λ (cs : List LineChange). cs ++ rest) own)
          c.loop-line.invariant w.in_ok-give_edge.ensures)))
      | else-is_of_line w ↦
          let none : changes_of_line cuts (get_or firsts line None) line h ≡ [] =
          ap (λ (b : Bool). if b then spec.line_change cuts line h ∷ [] else [])
          (sym c.is_of_line.ensures ∙ w.if-is_of_line.false) in
          rw w.maker-is (rw w.reply-is (rw w.text-is
          (subst (λ (cs : List LineChange). HasGiven text_left remarks_left due cs
          c.args.maker.now c.loop-line.maker c.args.reply.now c.loop-line.reply
          c.args.text.now.items c.loop-line.text.items)
          (parts ∙ ap (λ (cs : List LineChange). cs ++ rest) none)
          c.loop-line.invariant)))
    ]

pub returns : goal.returns
returns g c =
    let firsts : List (Option ℕ) = c.args.lines.now.firsts in
    let h = heard_contents c.args.change.now in
    let four : length firsts ≡ 4 = omega arith in
    subst (λ (cs : List LineChange). HasGiven g.F.StreamedReply.text_left g.F.StreamedReply.remarks_left
    (changes_of_lines c.args.lines.now.cuts.now firsts 0 h) cs
    c.args.maker.now c.loop-line.maker c.args.reply.now c.loop-line.reply
    c.args.text.now.items c.loop-line.text.items)
    (no_line c.args.lines.now.cuts.now firsts c.loop-line.line c.loop-line.line h (omega (arith, four)))
    c.loop-line.invariant
