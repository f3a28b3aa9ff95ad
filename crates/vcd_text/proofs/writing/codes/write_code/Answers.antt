-- Each turn writes the lowest digit of the rest.
use Rattle.std.proofs.Common.{refl, [], arith}
use Rattle.vcd_text.proofs.shared.CodesDiffer.{lowest_digit, last_digit}
use Rattle.vcd_text.proofs.shared.EmittedParts.{prefix_begun, prefix_grows, prefix_whole}
use Rattle.vcd_text.proofs.writing.codes.write_code.Goals as goal

pub loop-left-init : goal.loop-left-init
loop-left-init g c = (prefix_begun refl, omega arith)

pub loop-left-preserved : goal.loop-left-preserved
loop-left-preserved g c = (
  prefix_grows _ c.loop-left.invariant.0 c.write_byte.ensures.written (lowest_digit c.loop-left.left (omega arith)),
  omega arith,
)

pub returns : goal.returns
returns g c =
    let last = last_digit c.loop-left.left (omega (arith, c.loop-left.invariant.1)) (omega arith) in
    prefix_whole (prefix_grows [] c.loop-left.invariant.0 c.write_byte-2.ensures.written last) refl
