-- What is read of a file, where some names are heard.
use Rattle.std.specs.Prelude.{◌≡◌, ℕ, Bool, List}
use Rattle.vcd_core.specs.Contents.{Contents, SignalContents}
use Rattle.vcd_core.specs.Outline.{outline}
use Rattle.vcd_text.specs.Words.{words_of}
use Rattle.vcd_text.specs.Meaning.{FileMeans}
use Rattle.vcd_text.specs.inside.reading.Parser.{HasTakenWords}
use Rattle.vcd_text.specs.declared.reading.parser.Parser.{Parser}
use Rattle.vcd_amend_run.specs.FileParts.{IsHollow}
use Rattle.vcd_amend_run.specs.declared.heard_names.HeardNames.{HeardNames}
use Rattle.vcd_amend_run.specs.inside.HeardNames.{hears, asked_for, HearsAll}

-- the file means a capture of this outline; where each heard signal is taken, this one is hollow
pub record IsReadBy (takes : SignalContents → Bool) (limit : ℕ) (file : List ℕ) (read : Contents)
    (skipped : ℕ) : Type 0 where
  pub whole : Contents
  pub means : FileMeans limit file whole skipped
  pub same : outline read ≡ outline whole
  pub hollow : (heard : List Bool) → HearsAll takes heard read.signals → IsHollow heard whole read

-- of the file whose words have been taken this capture is read, where these names are heard
abbrev pub MeansHollow : HeardNames → Parser → (read : Contents) → (skipped : ℕ) → Type 0
MeansHollow names m read skipped = (limit : ℕ) (bytes : List ℕ)
    → HasTakenWords limit (asked_for names) m (words_of bytes)
    → IsReadBy (hears names) limit bytes read skipped
