use Rattle.std.proofs.Common.{◌≡◌, ◌≤◌, ◌||◌, ◌==◌, nat_lt, true, List, ℕ, length, sym, ap, ◌∙◌, arith, get_or, drop}
use Rattle.std.proofs.Common.{take, ◌-◌}
use Rattle.std.proofs.Math.Seq.{take-length}
use Rattle.std.proofs.lemmas.List.{length-drop}
use Rattle.vcd_core.specs.Names.{name_in}
use Rattle.vcd_core.specs.Word.{is_skipped_kind}
use Rattle.vcd_core.specs.declared.value.TheConstants.{WIDTH_LIMIT}
use Rattle.vcd_text.specs.Grammar.{is_skipped}
use Rattle.vcd_text.specs.HeardChanges.{skipped_variables}
use Rattle.vcd_text.proofs.reading.skipped_variables.Listed.{opened, adds_one, skipped_by_size}
use Rattle.vcd_text.proofs.reading.skipped_variables.SkippedVariables.end_variable.Goals as goal

rest_of : (ws : List (List ℕ)) → take (length ws - 2) (drop 2 ws) ≡ drop 2 ws
rest_of ws = ap (λ n. take n (drop 2 ws)) {y = length (drop 2 ws)} (omega (arith, length-drop 2 ws))
    ∙ take-length (drop 2 ws)

pub returns-clause-added : goal.returns-clause-added
returns-clause-added c size declared sized has =
    let m = c.args.parser.now in
    let words = m.words.items in
    let s = c.args.self.now in
    let came = c.as_slice-words.ensures.value in
    let long : 3 ≤ length words = omega (arith, c.if-words-lt3.false, ap (length {A = List ℕ}) came) in
    let kind = c.index-words-0.result in
    let code = c.index-words-1.result in
    let first : kind ≡ get_or words 0 kind =
    c.index-words-0.is ∙ ap (λ (ws : List (List ℕ)). get_or ws 0 kind) came in
    let second : code ≡ get_or words 1 code =
    c.index-words-1.is ∙ ap (λ (ws : List (List ℕ)). get_or ws 1 code) came in
    let skips : is_skipped (opened m size kind code words) ≡ true =
    skipped_by_size (is_skipped_kind kind) size s.size sized
    ∙ ap (λ name. is_skipped_kind name || (s.size == 0 || nat_lt WIDTH_LIMIT s.size)) (sym c.as_slice-kind.ensures)
    ∙ sym c.is_skipped.ensures ∙ c.if-not-is_skipped.false in
    let name = c.in_ok-name.ensures ∙ c.of_words-name.ensures
    ∙ (λ i. name_in (c.opened.ensures i) ((rest_of c.as_slice-words.result.now ∙ ap (drop 2) came) i)) in
    adds_one c.add.new.self m size kind code words declared long first second skips
    (c.in_ok-add.ensures.added (skipped_variables declared) (opened m size kind code words) (sym c.as_slice.ensures)
    (sym (c.in_ok-copy_word.ensures ∙ c.as_slice-kind.ensures)) (sym name) sized has)
