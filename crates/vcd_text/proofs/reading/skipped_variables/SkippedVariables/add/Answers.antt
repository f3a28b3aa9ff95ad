use Rattle.std.proofs.Common.{◌≡◌, [], ◌∷◌, ◌++◌, length, sym, ap, ◌∙◌, arith}
use Rattle.vcd_text.specs.HeardChanges.{first_with}
use Rattle.vcd_text.specs.inside.reading.SkippedVariables.{listed_variable}
use Rattle.vcd_text.specs.declared.reading.skipped_variables.SkippedVariable.{SkippedVariable}
use Rattle.vcd_text.proofs.reading.skipped_variables.Listed.{as_long, lists_more}
use Rattle.vcd_text.proofs.reading.skipped_variables.SkippedVariables.add.Goals as goal

pub returns-clause-added : goal.returns-clause-added
returns-clause-added c all d coded kind name sized has =
    let long : length all ≡ c.len-next.result =
    omega (arith, as_long c.args.self.now all has, c.len-next.ensures, c.args.self.now.list.ok.0) in
    let first = c.in_ok-first.ensures.first all d coded long has.firsts
    ∙ ap (λ k. first_with k (all ++ d ∷ [])) (sym coded) in
    let v : SkippedVariable = record {
      kind = c.args.kind;
      size = c.args.self.now.size;
      name = c.args.name;
      first = c.in_ok-first.first;
    } in
    let is : v ≡ listed_variable (all ++ d ∷ []) d = λ i. record {
      kind = sym kind i;
      size = sized i;
      name = sym name i;
      first = first i;
    } in
    lists_more c.args.self.now _ all d v has c.in_ok-push.ensures.items is
    (c.in_ok-first.ensures.known all d coded long has.firsts)
