-- One byte after another.
use Rattle.std.proofs.Common.{arith, sym, length}
use Rattle.std.proofs.lemmas.Bool.{eqb-true, eqb-false}
use Rattle.vcd_amend_program.proofs.mark_words.EscapedBytes.{one_more, whole}
use Rattle.vcd_amend_program.proofs.mark_words.unescaped.Goals as goal

pub loop-rest-preserved : goal.loop-rest-preserved
loop-rest-preserved c = rw (c.in_ok-push.ensures.items)
    (one_more c.args.word.now c.loop-rest.bytes.items c.loop-rest.rest.now c.in-Some.following.now c.in-Some.byte
    c.loop-rest.invariant c.in-Some.ensures)

pub returns : goal.returns
returns c = whole c.args.word.now c.loop-rest.bytes.items c.loop-rest.rest.now c.loop-rest.invariant
    (eqb-true (length c.loop-rest.rest.now) 0 (sym c.loop-rest-test.ensures))
    (omega (arith, eqb-false c.loop-rest.bytes.len 0 (sym c.if-is_empty.ensures), c.loop-rest.bytes.ok.0))
