use Rattle.std.proofs.Common.{◌≡◌, not, ◌&&◌, take, drop, sym, ap, ◌∙◌, arith}
use Rattle.std.specs.List.{list_all}
use Rattle.std.proofs.lemmas.List.{take-append-drop}
use Rattle.std.proofs.lemmas.List.Folds.{list_all-append}
use Rattle.vcd_core.specs.Word.{is_white_space}
use Rattle.vcd_text.proofs.reading.file_reader.complete_words_len.Goals as goal

pub returns-clause-no_space : goal.returns-clause-no_space
returns-clause-no_space c =
    let bytes = c.args.bytes.now in
    let unfinished_len = c.args.unfinished_len in
    let last : c.loop-len.len ≡ unfinished_len = omega (arith, c.loop-len-test.false, c.loop-len.invariant.0) in
    ap (list_all (λ b. not (is_white_space b))) (sym (take-append-drop unfinished_len bytes))
    ∙ list_all-append (λ b. not (is_white_space b)) (take unfinished_len bytes) (drop unfinished_len bytes)
    ∙ ap (λ t. t && list_all (λ b. not (is_white_space b)) (drop unfinished_len bytes)) c.requires.no_space
    ∙ ap (λ k. list_all (λ b. not (is_white_space b)) (drop k bytes)) (sym last) ∙ c.loop-len.invariant.2
