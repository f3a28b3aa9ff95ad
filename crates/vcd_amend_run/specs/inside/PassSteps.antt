-- A pass over a file for a line, step by step.
use Rattle.std.specs.Prelude.{◌≡◌, ◌≤◌, ◌+◌, ◌++◌, ℕ, List, [], Bool, length, take}
use Rattle.std.specs.Prelude.{Option, IfSome}
use Rattle.std.specs.Io.KnownBytes.{Appends}
use Rattle.vcd_core.specs.declared.capture.TheConstants.{SIGNAL_LIMIT}
use Rattle.vcd_core.specs.declared.bit_edges.BitEdge.{BitEdge}
use Rattle.vcd_decode.specs.LineEdges.{AreEdgesOf}
use Rattle.vcd_text.specs.Grammar.{ParseState, initial_state, kept_variables}
use Rattle.vcd_text.specs.HeardChanges.{HeardChange}
use Rattle.vcd_text.specs.inside.reading.ChangeStream.{HasStreamed}
use Rattle.vcd_text.specs.declared.fault.ReadError.{ReadError}
use Rattle.vcd_text.specs.declared.reading.change_stream.ChangeStream.{ChangeStream}
use Rattle.vcd_decode.specs.LineChanges.{lines_fed, InOrder}
use Rattle.vcd_decode.specs.inside.EdgeMaker.{edges_left}
use Rattle.vcd_amend_run.specs.inside.FileLines.{file_changes, present}
use Rattle.vcd_amend_run.specs.AmendRunEnds.{counted}
use Rattle.vcd_amend_run.specs.inside.LinePass.{HasLineEdges}
use Rattle.vcd_decode.specs.declared.edge_maker.EdgeMaker.{EdgeMaker}
use Rattle.vcd_decode.specs.declared.edge_maker.LineChange.{LineChange}
use Rattle.vcd_amend_run.specs.declared.line_pass.PassFault.{PassFault}
use Rattle.vcd_amend_run.specs.declared.line_pass.PassFault.TheVariants as faults
use Rattle.vcd_amend_run.specs.declared.streamed_line.StreamedLine.{StreamedLine}

-- the maker makes edges of lines of which these are present
abbrev pub MakesEdges : (is_present : List Bool) → EdgeMaker → Type 0
MakesEdges is_present maker = (end : ℕ) (fed : List LineChange) → InOrder 0 end fed
    → AreEdgesOf (lines_fed is_present fed) end (edges_left maker fed)

-- of a reply by what is left of it for any edges
module _ {F : Type 0} (text_left : F → List BitEdge → List ℕ)
    (remarks_left : F → List BitEdge → List (List ℕ))
  where
    -- of the changes that were due these are left; the others were given to a maker of edges, and
    -- its edges to a reply, which added to the text
    pub record HasGiven (due left : List LineChange) (from to : EdgeMaker) (before after : F)
        (old new : List ℕ) : Type 0 where
      pub text : (more : List LineChange) → new ++ text_left after (edges_left to (left ++ more))
          ≡ old ++ text_left before (edges_left from (due ++ more))
      pub remarks : (more : List LineChange) → remarks_left after (edges_left to (left ++ more))
          ≡ remarks_left before (edges_left from (due ++ more))

    -- all of these changes were given
    abbrev pub HasGivenAll : (fed : List LineChange) → (from to : EdgeMaker) → (before after : F)
        → (old new : List ℕ) → Type 0
    HasGivenAll fed from to before after old new = HasGiven fed [] from to before after old new

    -- a reply was given these changes since the pass began; of its text `waiting` is not written
    -- yet
    pub record IsPassAt (s : StreamedLine) (fed : List LineChange) (maker : EdgeMaker)
        (before now : F) (old new : Option (List ℕ)) (waiting : List ℕ) (written : ℕ) : Type 0 where
      pub first : EdgeMaker
      pub makes : MakesEdges (present s.lines) first
      pub sent : List ℕ
      pub given : HasGivenAll fed first maker before now [] (sent ++ waiting)
      pub taken : Appends old new sent
      pub count : written ≡ counted (length sent)

    -- a reply was given all edges of its lines; of its text `waiting` is not written yet
    pub record IsPassOver (coming : Option (List ℕ)) (s : StreamedLine) (before now : F)
        (old new : Option (List ℕ)) (waiting : List ℕ) (written : ℕ) : Type 0 where
      pub edges : List BitEdge
      pub are : IfSome coming (λ file. HasLineEdges file s edges)
      pub sent : List ℕ
      pub text : (sent ++ waiting) ++ text_left now [] ≡ text_left before edges
      pub remarks : remarks_left now [] ≡ remarks_left before edges
      pub taken : Appends old new sent
      pub count : written ≡ counted (length sent)

-- the changes of a line in a file that has come to this state, of which this was heard
abbrev pub changes_so_far : StreamedLine → ParseState → List HeardChange → List LineChange
changes_so_far s state heard =
    file_changes s.cuts.items s.lines (kept_variables state.declared) heard

-- the fault of reading a chunk and giving it to the reply
abbrev pub IsChunkFault : (read_fails : ReadError → Type 0) → PassFault → Type 0
IsChunkFault read_fails (faults.Read e) = read_fails e
IsChunkFault read_fails faults.NoMemory = Unit {0}
IsChunkFault read_fails (faults.Reply written) = ⊥

-- a text was written, and its bytes were counted
pub record SendsText (before after : List ℕ) (old new : ℕ) (shown now : Option (List ℕ)) : Type 0
  where
    pub taken : Appends shown now before
    pub none_left : after ≡ []
    pub counts : (sent : ℕ) → old ≡ counted sent → new ≡ counted (sent + length before)

-- the writer failed after some bytes of the text, with all bytes that it took
abbrev pub FailsToSend : (text : List ℕ) → (written : ℕ) → (shown now : Option (List ℕ))
    → PassFault → Type 0
FailsToSend text written shown now (faults.Reply total) = (count : ℕ) × (count ≤ length text)
    × Appends shown now (take count text)
    × ((sent : ℕ) → written ≡ counted sent → total ≡ counted (sent + count))
FailsToSend text written shown now e = ⊥

-- a pass before the first byte of its file
pub record IsPassStart (coming : Option (List ℕ)) (s : StreamedLine) (stream : ChangeStream)
    (maker : EdgeMaker) (text : List ℕ) (written : ℕ) : Type 0 where
  pub streamed : HasStreamed coming coming (initial_state SIGNAL_LIMIT) [] stream
  pub makes : MakesEdges (present s.lines) maker
  pub none_waits : text ≡ []
  pub none_written : written ≡ 0
