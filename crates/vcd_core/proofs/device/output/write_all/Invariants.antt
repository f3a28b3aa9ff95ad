-- The bytes taken so far are the front of `bytes`, and each turn makes it longer.
use Rattle.std.proofs.Common.{◌≡◌, ◌-◌, ◌≤◌, false, length, take}
use Rattle.std.specs.Io.KnownBytes.{Appends}
use Rattle.vcd_core.proofs.device.output.write_all.Given as goal

abbrev pub invariant-loop-written : goal.invariant-loop-written
invariant-loop-written g l =
    (l.written ≤ length l.bytes) × (g.W.Sink.has_failed l.sink ≡ false)
    × Appends (g.W.Sink.taken l.initial.sink) (g.W.Sink.taken l.sink) (take l.written l.bytes)

abbrev pub decreases-loop-written : goal.decreases-loop-written
decreases-loop-written g l = length l.bytes - l.written
