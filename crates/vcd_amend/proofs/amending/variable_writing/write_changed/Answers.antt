use Rattle.std.proofs.Common.{◌≡◌, ap, ◌∙◌, arith, List, length, ℕ, false}
use Rattle.vcd_text.proofs.shared.EmittedParts.{writes_as}
use Rattle.vcd_amend.specs.AmendedText.{with_words}
use Rattle.vcd_amend.specs.inside.amending.WordsInPlace.{words_in_place}
use Rattle.vcd_amend.proofs.amending.InPlace.{variable_count, variable_in_place, exchanged_same, exchanged_other}
use Rattle.vcd_amend.proofs.amending.variable_writing.write_changed.Goals as goal

pub returns-then-count_words-saturating_add : goal.returns-then-count_words-saturating_add
returns-then-count_words-saturating_add g c = λ old own is.
    let body = c.args.body.now in
    let kind = c.args.declared.kind.now in
    let size = c.args.declared.size.now in
    let names = c.args.names.now in
    let code = c.args.code.now in
    let count = variable_count body kind size old own is in
    let long : length names ≡ length own = omega (arith, count, c.count_words.ensures, c.saturating_add.ensures) in
    writes_as (ap (λ (l : List (List ℕ)). with_words false body (words_in_place 0 l names code)) is.spelled
    ∙ ap (with_words false body) (variable_in_place kind size old code own names long)
    ∙ exchanged_same body kind size old code own names long) c.write_in_words.ensures

pub returns-else-count_words-saturating_add : goal.returns-else-count_words-saturating_add
returns-else-count_words-saturating_add g c = λ old own is.
    let body = c.args.body.now in
    let kind = c.args.declared.kind.now in
    let size = c.args.declared.size.now in
    let names = c.args.names.now in
    let code = c.args.code.now in
    let count = variable_count body kind size old own is in
    writes_as (exchanged_other body kind size old code own names (λ long. omega (
      arith,
      long,
      count,
      c.count_words.ensures,
      c.saturating_add.ensures,
    ))) c.write_declaration.ensures
