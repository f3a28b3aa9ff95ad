use Rattle.std.proofs.Common.{◌≡◌, ◌≤◌, length, IfSome}
use Rattle.std.proofs.lemmas.Result.{IfOk-weaker}
use Rattle.vcd_core.specs.CaptureContents.{contents}
use Rattle.vcd_text.specs.declared.reading.Loaded.{Loaded}
use Rattle.vcd_text.specs.declared.reading.TheConstants.{FILE_LIMIT}
use Rattle.vcd_text.specs.Meaning.{FileMeans}
use Rattle.vcd_core.specs.declared.capture.TheConstants.{SIGNAL_LIMIT}
use Rattle.vcd_text.proofs.part.WholeParts.{whole_means_of_read, whole_extent_of_read}
use Rattle.vcd_text.proofs.reading.read.Goals as goal

pub returns-clause-means : goal.returns-clause-means
returns-clause-means g c =
    let coming = g.R.Source.coming c.args.reader.now in
    IfOk-weaker c.read_within.result _ (λ (loaded : Loaded). IfSome coming (λ file. (length file ≤ FILE_LIMIT)
    × FileMeans SIGNAL_LIMIT file (contents loaded.capture) loaded.skipped)) (whole_means_of_read coming)
    c.read_within.ensures.means

pub returns-clause-extent : goal.returns-clause-extent
returns-clause-extent g c =
    let coming = g.R.Source.coming c.args.reader.now in
    IfOk-weaker c.read_within.result _
    (λ (loaded : Loaded). IfSome coming (λ file. (loaded.end ≡ (contents loaded.capture).end)
    × (loaded.signals ≡ length (contents loaded.capture).signals))) (whole_extent_of_read coming)
    c.read_within.ensures.means
