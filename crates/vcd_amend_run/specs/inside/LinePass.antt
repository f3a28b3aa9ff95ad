-- A pass over a file for a line that decodes.
use Rattle.std.specs.Prelude.{◌≡◌, ◌≤◌, ◌++◌, ℕ, Bool, true, false, List, []}
use Rattle.std.specs.Prelude.{length, take, Option, IfSome}
use Rattle.std.specs.List.{AllByRecursion}
use Rattle.std.specs.Io.KnownBytes.{Appends}
use Rattle.vcd_core.specs.declared.capture.TheConstants.{SIGNAL_LIMIT}
use Rattle.vcd_core.specs.declared.bit_edges.BitEdge.{BitEdge}
use Rattle.vcd_core.specs.Contents.{Contents}
use Rattle.vcd_decode.specs.LineEdges.{AreEdgesOf}
use Rattle.vcd_edit.specs.declared.edit.Edit.{Edit}
use Rattle.vcd_hollow.specs.Cuts.{cuts, CutsFit}
use Rattle.vcd_journal.specs.History.{replay}
use Rattle.vcd_remarks.specs.DecoderLines.{bit_lines}
use Rattle.vcd_script.specs.CommandSignals.{IsScalarAt}
use Rattle.vcd_text.specs.Meaning.{FileMeans}
use Rattle.vcd_text.specs.declared.fault.ReadError.{ReadError}
use Rattle.vcd_amend_run.specs.AmendRunEnds.{counted}
use Rattle.vcd_amend_run.specs.declared.line_pass.PassFault.{PassFault}
use Rattle.vcd_amend_run.specs.declared.line_pass.PassFault.TheVariants as faults
use Rattle.vcd_amend_run.specs.declared.streamed_line.StreamedLine.{StreamedLine}
use Rattle.vcd_amend_run.specs.inside.dry_running.OriginHistory.{ticks_of_cuts}

-- these are edges of the lines after the cuts, if they are signals of one bit of what the file
-- means
abbrev pub HasLineEdges : (file : List ℕ) → StreamedLine → List BitEdge → Type 0
HasLineEdges file s edges =
    (c : Contents) (skipped : ℕ) (es : List Edit) → FileMeans SIGNAL_LIMIT file c skipped
    → s.cuts.items ≡ ticks_of_cuts es → CutsFit c es
    → AllByRecursion (λ line. IfSome line (IsScalarAt c)) s.lines
    → AreEdgesOf (bit_lines (replay c (cuts es)) s.lines) (replay c (cuts es)).end edges

-- of a reply by what is left of it for any edges
module _ {F : Type 0} (text_left : F → List BitEdge → List ℕ)
    (remarks_left : F → List BitEdge → List (List ℕ)) (coming : Option (List ℕ)) (s : StreamedLine)
  where
    -- the reply takes the edges of its lines in the file to come; this text of it is written
    pub record FeedsLine (before after : F) (old new : Option (List ℕ)) (written : ℕ) : Type 0 where
      pub edges : List BitEdge
      pub are : IfSome coming (λ file. HasLineEdges file s edges)
      pub text : List ℕ
      pub taken : Appends old new text
      pub count : written ≡ counted (length text)
      pub left : text ++ text_left after [] ≡ text_left before edges
      pub remarks : remarks_left after [] ≡ remarks_left before edges

    -- the pass ended early: if the file is accepted, the first `count` bytes of the text are
    -- written
    pub record StopsInPass (before : F) (old new : Option (List ℕ)) (count : ℕ) : Type 0 where
      pub prefix : IfSome coming (λ file. (c : Contents) (skipped : ℕ)
          → FileMeans SIGNAL_LIMIT file c skipped → (edges : List BitEdge)
          × HasLineEdges file s edges × (count ≤ length (text_left before edges))
          × Appends old new (take count (text_left before edges)))

-- the fault for which a pass ended early, after `count` bytes of its text
abbrev pub StopsFor : (read_fails : ReadError → Type 0) → (replies_failed : Bool) → (count : ℕ)
    → PassFault → Type 0
StopsFor read_fails replies_failed count (faults.Read e) =
    read_fails e × (replies_failed ≡ false)
StopsFor read_fails replies_failed count faults.NoMemory = replies_failed ≡ false
StopsFor read_fails replies_failed count (faults.Reply written) =
    (replies_failed ≡ true) × (written ≡ counted count)
