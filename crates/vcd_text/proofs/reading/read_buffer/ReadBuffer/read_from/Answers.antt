-- The bytes read follow those in the buffer.
use Rattle.std.proofs.Common.{◌≡◌, ◌+◌, ◌≤◌, ◌++◌, ℕ, List, length, take, arith, append_assoc, length-take-le}
use Rattle.std.proofs.lemmas.List.{take-take, take-append-le}
use Rattle.std.proofs.Math.Seq.{take-append-add}
use Rattle.vcd_text.proofs.reading.read_buffer.ReadBuffer.read_from.Goals as goal

prefix_and_read : (whole len n : ℕ) (room read post tail : List ℕ) → len ≤ length room → n ≤ length read
    → len + n ≤ whole
    → take (len + n) (take whole (take len room ++ (read ++ post) ++ tail)) ≡ take len room ++ take n read
prefix_and_read whole len n room read post tail within fits all =
    grind (arith, length-take-le, take-take, append_assoc, take-append-add, take-append-le)

pub returns-clause-more : goal.returns-clause-more
returns-clause-more g c = grind (arith, prefix_and_read, length-take-le)
