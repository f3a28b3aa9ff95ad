-- Each turn writes one line.
use Rattle.std.proofs.Common.{◌≡◌, ◌-◌, ℕ, replicate, ap, arith}
use Rattle.std.specs.List.{flat_map}
use Rattle.vcd_text.specs.Items.{upscope}
use Rattle.vcd_text.specs.Text.{item_line}
use Rattle.vcd_text.proofs.shared.ScopePaths.{one_closed}
use Rattle.vcd_text.proofs.shared.EmittedParts.{prefix_begun, prefix_grows, prefix_whole}
use Rattle.vcd_text.proofs.writing.declarations.write_upscopes.Goals as goal

pub loop-closed-init : goal.loop-closed-init
loop-closed-init g c = let all : c.args.count - 0 ≡ c.args.count = omega arith in
    prefix_begun (ap (λ (n : ℕ). flat_map item_line (replicate n upscope)) all)

pub loop-closed-preserved : goal.loop-closed-preserved
loop-closed-preserved g c = prefix_grows _ c.loop-closed.invariant c.write_bytes.ensures.written
    (one_closed c.args.count c.loop-closed._closed (omega arith))

pub returns : goal.returns
returns g c = prefix_whole c.loop-closed.invariant (grind arith)
