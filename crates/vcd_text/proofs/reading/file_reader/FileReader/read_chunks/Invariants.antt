use Rattle.std.proofs.Common.{◌≡◌, false}
use Rattle.vcd_text.specs.inside.reading.FileReader.{FileReaderMatches}
use Rattle.vcd_text.proofs.reading.file_reader.FileReader.read_chunks.Given as goal

abbrev pub invariant-loop-progress : goal.invariant-loop-progress
invariant-loop-progress g l =
    FileReaderMatches g.L.Listener l.fn.limit l.fn.most l.fn.listener (g.R.Source.coming l.fn.source)
    (g.R.Source.coming l.source) l.listener l.progress
    × (g.R.Source.has_failed l.source ≡ false)
    × (g.L.Listener.goes_on l.fn.listener l.fn.listener → g.L.Listener.goes_on l.fn.listener l.listener)

abbrev pub decreases-loop-progress : goal.decreases-loop-progress
decreases-loop-progress g l = l.progress.bytes_left
