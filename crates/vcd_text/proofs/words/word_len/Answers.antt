-- The mask of the last sixteen bytes, or a walk byte by byte, shows the end.
use Rattle.std.proofs.Common.{sym, ◌∙◌, arith}
use Rattle.vcd_text.proofs.words.SpaceMasks.{none_found, found_word_len, is_word_len}
use Rattle.vcd_text.proofs.words.word_len.Goals as goal

pub loop-len-preserved : goal.loop-len-preserved
loop-len-preserved c =
    let mask = c.white_space_among-found.ensures in
    let more = none_found c.args.text.now c.loop-len.len 16 (omega arith) (omega (arith, mask)) in
    (omega (arith, more, c.loop-len.invariant.0), omega arith)

pub returns-then-found-ne0-clause-within : goal.returns-then-found-ne0-clause-within
returns-then-found-ne0-clause-within c =
    (found_word_len _ _ _ (omega arith) c.loop-len.invariant.0 c.white_space_among-found.ensures (omega arith)).0

pub returns-then-found-ne0-clause-no_space : goal.returns-then-found-ne0-clause-no_space
returns-then-found-ne0-clause-no_space c =
    (found_word_len _ _ _ (omega arith) c.loop-len.invariant.0 c.white_space_among-found.ensures (omega arith)).1

pub returns-then-found-ne0-clause-ends : goal.returns-then-found-ne0-clause-ends
returns-then-found-ne0-clause-ends c =
    (found_word_len _ _ _ (omega arith) c.loop-len.invariant.0 c.white_space_among-found.ensures (omega arith)).2

pub returns-clause-within : goal.returns-clause-within
returns-clause-within c = (is_word_len _ _ (c.loop-len.invariant.0 ∙ sym c.word_end.ensures)).0

pub returns-clause-no_space : goal.returns-clause-no_space
returns-clause-no_space c = (is_word_len _ _ (c.loop-len.invariant.0 ∙ sym c.word_end.ensures)).1

pub returns-clause-ends : goal.returns-clause-ends
returns-clause-ends c = (is_word_len _ _ (c.loop-len.invariant.0 ∙ sym c.word_end.ensures)).2
