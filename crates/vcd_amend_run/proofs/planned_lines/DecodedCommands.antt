-- The reply to a command that decodes, made of the edges that are heard of its lines.
use Rattle.std.proofs.Common.{◌≡◌, ℕ, Bool, List, length, take, Option, subst, ap, ◌∙◌, inl, inr}
use Rattle.std.proofs.Common.{arith}
use Rattle.std.specs.Prelude.{IfOk}
use Rattle.std.specs.Io.KnownBytes.{Appends}
use Rattle.vcd_core.specs.declared.bit_edges.BitEdge.{BitEdge}
use Rattle.vcd_remarks.specs.Remarks.{remarks_text}
use Rattle.vcd_script.specs.declared.script.command.Command.{Command}
use Rattle.vcd_text.specs.declared.fault.ReadError.{ReadError}
use Rattle.vcd_amend_run.specs.AmendRunEnds.{counted}
use Rattle.vcd_amend_run.specs.declared.line_pass.PassFault.{PassFault}
use Rattle.vcd_amend_run.specs.declared.planned_lines.line_taken.LineTaken.{LineTaken}
use Rattle.vcd_amend_run.specs.declared.streamed_line.StreamedLine.{StreamedLine}
use Rattle.vcd_amend_run.specs.inside.LinePass.{StopsFor}
use Rattle.vcd_amend_run.specs.inside.FedReplies.{IsReplyFor, DecodesCommand, StopsDecoding}
use Rattle.vcd_amend_run.specs.inside.FedReplies.{StreamsReply, StopsStreaming}

module _ {F : Type 0} (text_left : F → List BitEdge → List ℕ) (remarks_left : F → List BitEdge → List (List ℕ))
    (whole : Option (List ℕ)) (s : StreamedLine) (end : ℕ) (command : Command) (reply : F)
    (is_for : IsReplyFor text_left remarks_left reply end command) (old new : Option (List ℕ)) where
  pub decodes : (taken : LineTaken) → StreamsReply text_left remarks_left whole s reply old new taken
      → DecodesCommand whole s end command old new taken
  decodes taken streams file c is from =
      let (edges, heard, took, count, told) = streams file is in
      let same = is_for.gives c edges from.sound from.signals from.ends (from.edges edges heard) in (
        subst (Appends old new) same.0 took,
        count ∙ ap (λ (text : List ℕ). counted (length text)) same.0,
        subst (λ (rs : List (List ℕ)). IfOk taken.remarks (λ text. text.items ≡ remarks_text s.number rs)) same.1 told,
      )

  in_part : (count : ℕ) → StopsStreaming text_left remarks_left whole s reply old new count
      → StopsDecoding whole s end command old new count
  in_part count (inl (none, took)) file c is from = (
    rw none (omega arith),
    rw none took,
  )
  in_part count (inr some) file c is from =
      let (edges, heard, few, took) = some file is from.first from.skipped from.means in
      let same = is_for.gives c edges from.sound from.signals from.ends (from.edges edges heard) in
      (rw same.0 at few, subst (λ (text : List ℕ). Appends old new (take count text)) same.0 took)

  pub stops_decoding : (read_fails : ReadError → Type 0) (replies_failed : Bool) (e : PassFault)
      → ((count : ℕ) × StopsStreaming text_left remarks_left whole s reply old new count
      × StopsFor read_fails replies_failed count e)
      → (count : ℕ) × StopsDecoding whole s end command old new count × StopsFor read_fails replies_failed count e
  stops_decoding read_fails replies_failed e (count, some, stops) = (count, in_part count some, stops)
