use Rattle.std.proofs.Common.{w64, ◌+◌, ◌-◌, ◌++◌, slice_range, ap, ◌∙◌, arith}
use Rattle.std.proofs.lemmas.Int.{to_z-of_z}
use Rattle.vcd_core.proofs.shared.Splices.{later_fit, spliced_without_rest, piece_with_rest, spliced_with_rest}
use Rattle.vcd_core.proofs.wave.splicing.splice_changes.Goals as goal

pub take_out-requires-clause-ticks : goal.take_out-requires-clause-ticks
take_out-requires-clause-ticks c =
    later_fit c.args.changes.now.items c.args.piece.now.items c.swap_prefix.new.changes.items c.args.from c.args.to
    c.len-piece_len.result (omega arith) (omega arith) (omega arith)
    c.swap_prefix.ensures.changes c.args.by _ (to_z-of_z w64 c.args.by c.ranges.by) c.requires.ticks

pub returns-then-piece_len-range_len-clause-changes : goal.returns-then-piece_len-range_len-clause-changes
returns-then-piece_len-range_len-clause-changes c =
    spliced_without_rest c.args.changes.now.items c.args.piece.now.items c.swap_prefix.new.changes.items c.args.from
    c.args.to c.len-piece_len.result (omega arith) (omega arith) (omega arith)
    c.swap_prefix.ensures.changes (omega arith) c.args.by _ c.take_out.new.changes.items
    (to_z-of_z w64 c.args.by c.ranges.by) c.take_out.ensures.changes

pub returns-then-piece_len-range_len-clause-piece : goal.returns-then-piece_len-range_len-clause-piece
returns-then-piece_len-range_len-clause-piece c =
    c.take_out.ensures.piece
    ∙ ap (λ l. l ++ slice_range c.swap_prefix.new.changes.items (c.args.from + c.len-piece_len.result) c.args.to)
    c.swap_prefix.ensures.piece
    ∙ piece_with_rest c.args.changes.now.items c.args.piece.now.items c.swap_prefix.new.changes.items c.args.from
    c.args.to c.len-piece_len.result (omega arith) (omega arith) (omega arith)
    c.swap_prefix.ensures.changes (omega arith)

pub returns-else-piece_len-range_len-clause-changes : goal.returns-else-piece_len-range_len-clause-changes
returns-else-piece_len-range_len-clause-changes c =
    spliced_with_rest c.args.changes.now.items c.args.piece.now.items
    c.swap_prefix-else-piece_len-range_len.new.changes.items
    c.args.from c.args.to (c.args.to - c.args.from) (omega arith) (omega arith) (omega arith)
    c.swap_prefix-else-piece_len-range_len.ensures.changes c.args.by _ c.put_in.new.changes.items
    c.swap_prefix-else-piece_len-range_len.new.piece.items (omega arith) (to_z-of_z w64 c.args.by c.ranges.by)
    c.swap_prefix-else-piece_len-range_len.ensures.piece c.put_in.ensures.changes
