use Rattle.std.proofs.Common.{◌≡◌, ◌≤◌, ◌∙◌, ◌||◌, ◌==◌, nat_lt, true, false, ℕ, List, length, inr, ap, sym, arith}
use Rattle.vcd_core.specs.Tests.{first_fault}
use Rattle.vcd_core.specs.declared.value.TheConstants.{WIDTH_LIMIT}
use Rattle.vcd_core.specs.Decimal.{number_of}
use Rattle.vcd_core.specs.Word.{is_skipped_kind}
use Rattle.vcd_text.specs.Grammar.{is_skipped, variable_tests}
use Rattle.vcd_text.specs.inside.reading.Variables.{declaration_of_parts}
use Rattle.vcd_text.proofs.reading.variables.DeclaredVariable.{declares_parts, too_few, left_out, kept_size}
use Rattle.vcd_text.proofs.reading.variables.Variables.declare.Goals as goal

pub returns-then-len-lt3 : goal.returns-then-len-lt3
returns-then-len-lt3 c = λ state kind word following are read value_changes k.
    inr (ap (λ d. first_fault (variable_tests state d)) (too_few state kind word following
    (omega (arith, c.if-len-lt3.true, c.len.ensures, c.args.words.ok.0, ap (length {A = List ℕ}) are))))

pub returns-then-is_skipped : goal.returns-then-is_skipped
returns-then-is_skipped c = λ state first word following are read value_changes k.
    let size = c.args.size in
    let kind = c.remove-kind.result in
    let code = c.remove-code.result in
    let names = c.remove-code.new.self.items in
    let long : 3 ≤ length c.args.words.items = omega (arith, c.if-len-lt3.false, c.len.ensures, c.args.words.ok.0) in
    let skipped : is_skipped (declaration_of_parts state kind (number_of word) code names) ≡ true = left_out state kind
    word code names size read ∙ ap (λ name. is_skipped_kind name || (size == 0 || nat_lt WIDTH_LIMIT size))
    (sym c.as_slice.ensures) ∙ sym c.is_skipped.ensures ∙ c.if-is_skipped.true in
    declares_parts state c.args.words.items c.remove-kind.new.self.items names following kind code first word
    c.skip.result c.skip.new.self long c.remove-kind.ensures.value c.remove-kind.ensures.items
    c.remove-code.ensures.value c.remove-code.ensures.items are
    (c.skip.ensures state _ k (sym c.as_slice-then-is_skipped.ensures) skipped)

pub returns : goal.returns
returns c = λ state first word following are read value_changes k.
    let size = c.args.size in
    let kind = c.remove-kind.result in
    let code = c.remove-code.result in
    let names = c.remove-code.new.self.items in
    let long : 3 ≤ length c.args.words.items = omega (arith, c.if-len-lt3.false, c.len.ensures, c.args.words.ok.0) in
    let tested = ap (λ name. is_skipped_kind name || (size == 0 || nat_lt WIDTH_LIMIT size)) (sym c.as_slice.ensures)
    ∙ sym c.is_skipped.ensures ∙ c.if-is_skipped.false in
    let keeps : is_skipped (declaration_of_parts state kind (number_of word) code names) ≡ false =
    left_out state kind word code names size read ∙ tested in
    let number = kept_size (is_skipped_kind kind) (number_of word) size read tested in
    let same : declaration_of_parts state kind size c.as_slice-2.result.now names ≡ declaration_of_parts state kind
    (number_of word) code names = λ i. declaration_of_parts state kind (number i) (c.as_slice-2.ensures i) names in
    declares_parts state c.args.words.items c.remove-kind.new.self.items names following kind code first word
    c.keep.result c.keep.new.self long c.remove-kind.ensures.value c.remove-kind.ensures.items
    c.remove-code.ensures.value c.remove-code.ensures.items are
    (rw same at (c.keep.ensures state k value_changes (ap is_skipped same ∙ keeps)))
