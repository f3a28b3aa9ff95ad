-- A letter that is not redundant begins the short form; so does the last.
use Rattle.std.proofs.Common.{◌≡◌, ◌+◌, ◌-◌, ◌*◌, ◌/◌, ◌≤◌, ℕ, ap, ◌∙◌, arith, inl, inr}
use Rattle.std.proofs.lemmas.Bool.{cases_eq}
use Rattle.vcd_text.proofs.writing.values.LetterBits.{is_redundant_in}
use Rattle.vcd_text.proofs.writing.values.ShortForm.{first_needed, more_redundant, short_rest, state_at}
use Rattle.vcd_text.proofs.writing.values.short_form_len.Goals as goal

pub returns-then-len-gt1-clause-rest : goal.returns-then-len-gt1-clause-rest
returns-then-len-gt1-clause-rest c =
    let v = c.args.value.now in
    let below : ℕ = 64 * ((c.loop-left.left - 1) / 64) in
    let kept = c.loop-left.invariant in
    let is = c.short_form_len_of_block-len.ensures in
    short_rest v _ (omega (arith, is.least)) (omega (arith, is.most, kept.within))
    (more_redundant v below _ c.loop-left.left _ _ c.block.ensures (omega arith) (omega arith) is
    (omega arith) kept.redundant) (λ _. first_needed v below _ _ _ _ c.block.ensures (omega arith)
    (omega (arith, kept.within)) is (omega arith) c.if-len-gt1.true)

pub returns-then-not-is_redundant-clause-rest : goal.returns-then-not-is_redundant-clause-rest
returns-then-not-is_redundant-clause-rest c =
    let v = c.args.value.now in
    let below : ℕ = 64 * ((c.loop-left.left - 1) / 64) in
    let kept = c.loop-left.invariant in
    let is = c.short_form_len_of_block-len.ensures in
    let index : below + 1 - 2 ≡ below - 1 = omega arith in
    short_rest v (below + 1) (omega arith) (omega (arith, kept.within))
    (more_redundant v below _ c.loop-left.left _ _ c.block.ensures (omega arith) (omega arith) is
    (omega (arith, is.least, c.if-len-gt1.false)) kept.redundant)
    (λ _. ap (is_redundant_in v) index ∙ state_at v below _ _ _ _ (omega (arith, c.loop-left-test.true)) c.bit.ensures
    c.bit-in-loop-left.ensures c.is_redundant.ensures c.if-not-is_redundant.true)

pub loop-left-preserved : goal.loop-left-preserved
loop-left-preserved c =
    let v = c.args.value.now in
    let below : ℕ = 64 * ((c.loop-left.left - 1) / 64) in
    let kept = c.loop-left.invariant in
    let is = c.short_form_len_of_block-len.ensures in
    let some : 1 ≤ below = omega (arith, c.loop-left-test.true) in
    record {
      redundant = λ i past within. elim (cases_eq (i + 1) below) [
        | inl here ↦
            let index : i ≡ below - 1 = omega (arith, here) in
            ap (is_redundant_in v) index ∙ state_at v below _ _ _ _ some c.bit.ensures c.bit-in-loop-left.ensures
            c.is_redundant.ensures c.if-not-is_redundant.false
        | inr apart ↦ more_redundant v below _ c.loop-left.left _ (below + 1) c.block.ensures (omega arith)
            (omega arith) is (omega (arith, is.least, c.if-len-gt1.false)) kept.redundant i (omega (arith, apart))
            within
      ];
      least = some;
      within = omega (arith, kept.within);
    }

pub returns-clause-rest : goal.returns-clause-rest
returns-clause-rest c =
    let v = c.args.value.now in
    let left = c.loop-left.left in
    let kept = c.loop-left.invariant in
    let len = c.short_form_len_of_block.result in
    let is = c.short_form_len_of_block.ensures in
    let whole : left - 0 ≡ left = omega arith in
    let narrow : left ≤ 64 = omega (arith, c.loop-left-test.false) in
    short_rest v _ is.least (omega (arith, is.most, kept.within)) (more_redundant v 0 _ left len len c.block-2.ensures
    (omega (arith, kept.least)) (omega (arith, narrow)) (rw whole is) (omega arith) kept.redundant) (first_needed v 0 _
    left len len c.block-2.ensures narrow (omega (arith, kept.within)) is (omega arith))
