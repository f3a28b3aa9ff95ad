-- Each turn writes one more block.
use Rattle.std.proofs.Common.{◌-◌, ◌*◌, ◌/◌, ℕ, refl, arith}
use Rattle.std.proofs.lemmas.List.{drop_all}
use Rattle.vcd_text.specs.Letters.{printed_letters}
use Rattle.vcd_text.proofs.writing.values.LetterBits.{lowest, block_and_rest}
use Rattle.vcd_text.proofs.shared.EmittedParts.{prefix_begun, prefix_grows, prefix_whole}
use Rattle.vcd_text.proofs.writing.values.write_lowest.Goals as goal

pub loop-left-init : goal.loop-left-init
loop-left-init g c = record { prefix = prefix_begun refl; within = c.requires }

pub loop-left-preserved : goal.loop-left-preserved
loop-left-preserved g c =
    let v = c.args.value.now in
    let left = c.loop-left.left in
    let below : ℕ = 64 * ((left - 1) / 64) in
    record {
      prefix = prefix_grows (printed_letters (lowest below v)) c.loop-left.invariant.prefix c.write_letters.ensures
          (block_and_rest v left below c.block.result (omega arith) (omega (arith, c.loop-left-test.true))
          c.loop-left.invariant.within c.block.ensures);
      within = omega (arith, c.loop-left.invariant.within);
    }

pub returns : goal.returns
returns g c = prefix_whole c.loop-left.invariant.prefix (grind (arith, drop_all))
