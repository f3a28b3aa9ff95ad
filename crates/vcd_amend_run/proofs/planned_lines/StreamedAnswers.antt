-- A streamed line has the reply and the remarks of the line on the whole capture.
use Rattle.std.proofs.Common.{◌≡◌, ◌≤◌, ◌<◌, ℕ, Bool, true, false, List, [], ◌∷◌, ◌++◌, length, take, map, Option}
use Rattle.std.proofs.Common.{Some, None, Result, Ok, is_err, refl, sym, ap, subst, ◌∙◌, arith}
use Rattle.std.specs.Prelude.{IfOk, if◌then◌else◌, ◌==◌}
use Rattle.std.specs.List.{flat_map}
use Rattle.std.specs.Io.KnownBytes.{Appends}
use Rattle.std.proofs.lemmas.Bool.Decides.{nat_tests}
use Rattle.std.proofs.lemmas.Grind.{flat_map-append}
use Rattle.std.proofs.lemmas.Option.{IfSome_then}
use Rattle.vcd_core.specs.Contents.{Contents, signal_at}
use Rattle.vcd_core.specs.Names.{full_names}
use Rattle.vcd_core.specs.Outline.{outline}
use Rattle.vcd_core.proofs.shared.Outlines.{at_outline}
use Rattle.vcd_decode.specs.LineEdges.{AreEdgesOf}
use Rattle.vcd_hollow.specs.Cuts.{cuts}
use Rattle.vcd_hollow.specs.Hollow.{hollow, emptied}
use Rattle.vcd_hollow.specs.Origins.{origins}
use Rattle.vcd_hollow.proofs.shared.Hollow.{hollow_outline, replay_on_hollow}
use Rattle.vcd_hollow.proofs.shared.ReplaysWithOthers.{replay_keeps_outlines}
use Rattle.vcd_hollow.proofs.shared.SameSteps.{same_count}
use Rattle.vcd_journal.specs.History.{History, replay}
use Rattle.vcd_journal.specs.HistoryMachine.{machine_of}
use Rattle.vcd_remarks.specs.DecoderFindings.{decoder_remarks}
use Rattle.vcd_remarks.specs.DecoderLines.{decoder_lines, bit_lines}
use Rattle.vcd_remarks.specs.NamedSignals.{signals_of_command}
use Rattle.vcd_remarks.specs.NameRemarks.{name_remark, name_remarks}
use Rattle.vcd_remarks.specs.Remarks.{remarks, remark_line, remarks_text}
use Rattle.vcd_remarks.specs.RemarksOfRun.{remarks_asked, line_remarks}
use Rattle.vcd_remarks.proofs.shared.RemarksOnHollow.{same_names}
use Rattle.vcd_script.specs.CommandSignals.{HasCommandSignals, IsScalarAt}
use Rattle.vcd_script.specs.Reply.{command_reply, line_reply, reply_text}
use Rattle.vcd_script.specs.ScriptCommands.{command_of_line}
use Rattle.vcd_script.specs.SessionLines.{reply_on, is_refused_on}
use Rattle.vcd_script.specs.WithoutAddress.{command_without_address}
use Rattle.vcd_script.specs.declared.script.command.Command.{Command}
use Rattle.vcd_script.specs.declared.script.command.Command.TheVariants as commands
use Rattle.vcd_script.specs.declared.script.line_error.LineError.{LineError}
use Rattle.vcd_amend_run.specs.AmendRunEnds.{counted}
use Rattle.vcd_amend_run.specs.declared.planned_lines.line_taken.LineTaken.{LineTaken}
use Rattle.vcd_amend_run.specs.declared.planned_lines.line_taken.PlannedLine.{PlannedLine}
use Rattle.vcd_amend_run.specs.declared.streamed_line.StreamedLine.{StreamedLine}
use Rattle.vcd_amend_run.specs.inside.FedReplies.{decoded_text}
use Rattle.vcd_amend_run.specs.inside.PlannedLine.{streamed_here, streamed_at, IsPlannedAt}
use Rattle.vcd_amend_run.specs.inside.FedReplies.{IsDecodedFrom, DecodesCommand, StopsDecoding}
use Rattle.vcd_amend_run.specs.inside.PlannedLine.{AnswersStreamed}
use Rattle.vcd_amend_run.specs.inside.PlannedLine.{StopsAtStreamed, remarks_after}
use Rattle.vcd_amend_run.proofs.planned_lines.PlannedMachines.{asked_on_hollow}
use Rattle.vcd_amend_run.proofs.streamed_lines.Plans.{streamed_lines_are, streamed_are_scalars, streamed_end}

-- ---- the number of the line

same_number : (number : ℕ) (first s : StreamedLine) (is : Bool) → (first.number == number) ≡ is
    → (if is then Some first else None) ≡ Some s → s.number ≡ number
same_number number first s true found here =
    let this : first ≡ s = cc in
    ap (λ (s : StreamedLine). s.number) (sym this) ∙ grind (arith, nat_tests)
same_number number first s false found here = cc

here_number : (number : ℕ) (streamed : List StreamedLine) (s : StreamedLine)
    → streamed_here number streamed ≡ Some s → s.number ≡ number
here_number number [] s here = cc
here_number number (first ∷ streamed) s here = same_number number first s (first.number == number) refl here

-- ---- captures of one outline

scalar_same : (y x : Contents) (k : ℕ) → outline y ≡ outline x → IsScalarAt y k → IsScalarAt x k
scalar_same y x k same (there, wide) = (
  subst (λ n. k < n) (same_count y x same) there,
  sym (ap (λ (o : Contents). (signal_at o k).width) same ∙ ap (λ s. s.width) (at_outline x k))
      ∙ ap (λ s. s.width) (at_outline y k) ∙ wide,
)

signals_same : (y x : Contents) (command : Command) → outline y ≡ outline x → HasCommandSignals y command
    → HasCommandSignals x command
signals_same y x (commands.Value k tick) same has = subst (λ n. k < n) (same_count y x same) has
signals_same y x (commands.Changes k) same has = subst (λ n. k < n) (same_count y x same) has
signals_same y x (commands.Uart k setup) same has = scalar_same y x k same has
signals_same y x (commands.Spi clk mosi miso cs setup) same (clk_has, mosi_has, miso_has, cs_has) = (
  scalar_same y x clk same clk_has,
  IfSome_then mosi mosi_has (λ k. scalar_same y x k same),
  IfSome_then miso miso_has (λ k. scalar_same y x k same),
  IfSome_then cs cs_has (λ k. scalar_same y x k same),
)
signals_same y x (commands.I2c scl sda) same (scl_has, sda_has) =
    (scalar_same y x scl same scl_has, scalar_same y x sda same sda_has)
signals_same y x command same has = tt

-- ---- a command that decodes

same_decoder : (parsed command : Command) → command_without_address parsed ≡ command
    → length (decoder_lines command) ≡ 4 → parsed ≡ command
same_decoder (commands.Step step) command is decodes =
    let none : length (decoder_lines (command_without_address (commands.Step step))) ≡ 4 =
    subst (λ (c : Command). length (decoder_lines c) ≡ 4) (sym is) decodes in
    absurd (omega (arith, none))
same_decoder parsed command is decodes = is

text_of_reply : (number : ℕ) (c : Contents) (skipped undoable redoable : ℕ) (command : Command)
    → length (decoder_lines command) ≡ 4
    → (reply_text number (command_reply (Ok command) c skipped undoable redoable) ≡ decoded_text c command)
    × (is_err (command_reply (Ok command) c skipped undoable redoable) ≡ false)
text_of_reply number c skipped undoable redoable (commands.Uart k setup) decodes = (refl, refl)
text_of_reply number c skipped undoable redoable (commands.Spi clk mosi miso cs setup) decodes = (refl, refl)
text_of_reply number c skipped undoable redoable (commands.I2c scl sda) decodes = (refl, refl)
text_of_reply number c skipped undoable redoable command decodes = absurd (omega (arith, decodes))

remarks_of_decoder : (c : Contents) (command : Command) → length (decoder_lines command) ≡ 4
    → remarks c command ≡ decoder_remarks c command
unfolding remarks
remarks_of_decoder c (commands.Step step) decodes = absurd (omega (arith, decodes))
remarks_of_decoder c command decodes = refl

-- ---- a streamed line

module _ (file : List ℕ) (skipped : ℕ) (c : Contents) (silent : ℕ → Bool) (h : History) (line : List ℕ)
    (s : StreamedLine) (at : IsPlannedAt file skipped c silent h line (Some s)) where
  abbrev now : Contents
  now = replay (hollow silent c) h.edits

  abbrev whole : Contents
  whole = replay c h.edits

  same_outline : outline now ≡ outline whole
  same_outline = replay_keeps_outlines (hollow silent c) c h.edits (hollow_outline silent c)

  command_is : (parsed : Command) → command_of_line now line ≡ Ok (command_without_address parsed)
      → parsed ≡ at.planned.command
  command_is parsed read =
      let asked = asked_on_hollow silent c skipped h line s at.planned in
      let same : command_without_address parsed ≡ at.planned.command = cc (read, asked) in
      same_decoder parsed at.planned.command same at.planned.decodes

  -- what is heard of the file are edges of the lines of the command
  decoded_from : (end : ℕ) (parsed : Command) → end ≡ now.end → parsed ≡ at.planned.command
      → HasCommandSignals now parsed → IsDecodedFrom file s end parsed whole
  decoded_from end parsed end_is is has =
      let ends : whole.end ≡ end = sym (end_is ∙ ap (λ (o : Contents). o.end) same_outline) in
      record {
        first = c;
        skipped = skipped;
        means = at.means;
        sound = at.sound;
        signals = signals_same now whole parsed same_outline has;
        ends = ends;
        decodes = ap (λ (command : Command). length (decoder_lines command)) is ∙ at.planned.decodes;
        edges = λ edges heard.
            let first = heard c skipped h.edits at.means at.planned.cuts at.cuts_fit
            (streamed_are_scalars c h line s at.planned) in
            let lines : bit_lines (replay c (cuts h.edits)) s.lines ≡ bit_lines whole (decoder_lines parsed) =
            sym (streamed_lines_are c h line s at.planned)
            ∙ ap (λ (command : Command). bit_lines whole (decoder_lines command)) (sym is) in
            let same_end : (replay c (cuts h.edits)).end ≡ end = sym (streamed_end c h.edits) ∙ ends in
            subst (λ n. AreEdgesOf (bit_lines whole (decoder_lines parsed)) n edges) same_end
            (subst (λ ls. AreEdgesOf ls (replay c (cuts h.edits)).end edges) lines first);
      }

  -- the reply
  reply_is : (number : ℕ) (parsed : Command) → parsed ≡ at.planned.command
      → (reply_on skipped number line (machine_of c h) ≡ decoded_text whole parsed)
      × (is_refused_on skipped line (machine_of c h) ≡ false)
  unfolding line_reply
  reply_is number parsed is =
      let m = machine_of c h in
      let both = text_of_reply number whole skipped (length m.past) (length m.future) at.planned.command
      at.planned.decodes in (
        ap (λ (asked : Result Command LineError).
            reply_text number (command_reply asked whole skipped (length m.past) (length m.future))) at.planned.asked
            ∙ both.0 ∙ ap (decoded_text whole) (sym is),
        ap (λ (asked : Result Command LineError).
            is_err (command_reply asked whole skipped (length m.past) (length m.future))) at.planned.asked ∙ both.1,
      )

  -- the remarks
  names_same : (command : Command) → name_remarks now line command ≡ name_remarks whole line command
  unfolding name_remarks
  names_same command =
      ap (λ (x : Contents). flat_map (name_remark (full_names x.signals) line) (signals_of_command command))
      (replay_on_hollow silent c h.edits at.own)
      ∙ ap (λ (names : List (List ℕ)). flat_map (name_remark names line) (signals_of_command command))
      (same_names (map (emptied silent) (origins (length c.signals) h.edits)) whole)

  remarks_are : (number : ℕ) (parsed : Command) → parsed ≡ at.planned.command → line_remarks number whole line
      ≡ remarks_text number (name_remarks now line parsed) ++ remarks_text number (decoder_remarks whole parsed)
  remarks_are number parsed is =
      let decodes : length (decoder_lines parsed) ≡ 4 =
      ap (λ (command : Command). length (decoder_lines command)) is ∙ at.planned.decodes in
      ap (λ (asked : Result Command LineError). remarks_text number (remarks_asked whole line asked)) at.planned.asked
      ∙ ap (λ (command : Command). remarks_text number (name_remarks whole line command ++ remarks whole command))
      (sym is)
      ∙ flat_map-append (remark_line number) (name_remarks whole line parsed) (remarks whole parsed)
      ∙ ap (λ (rs : List (List ℕ)). remarks_text number (name_remarks whole line parsed) ++ remarks_text number rs)
      (remarks_of_decoder whole parsed decodes)
      ∙ ap (λ (rs : List (List ℕ)). remarks_text number rs ++ remarks_text number (decoder_remarks whole parsed))
      (sym (names_same parsed))

-- ---- what the function answers

module _ (shown : Option (List ℕ)) (l : PlannedLine) (s : StreamedLine) (here : streamed_at l ≡ Some s)
    (now : Contents) (parsed : Command)
    (read : command_of_line now l.text.now ≡ Ok (command_without_address parsed))
    (has : HasCommandSignals now parsed) (end : ℕ) (end_is : end ≡ now.end) (before after : Option (List ℕ)) where
  is_streamed : (file : List ℕ) (c : Contents) (silent : ℕ → Bool) (h : History)
      → IsPlannedAt file l.skipped c silent h l.text.now (streamed_at l)
      → IsPlannedAt file l.skipped c silent h l.text.now (Some s)
  is_streamed file c silent h at =
      subst (λ (o : Option StreamedLine). IsPlannedAt file l.skipped c silent h l.text.now o) here at

  pub streamed_answers : (taken given : LineTaken)
      → DecodesCommand shown s end parsed before after given → given.written ≡ taken.written
      → taken.is_refused ≡ false
      → ((x y : List ℕ) → x ≡ remarks_text l.number (name_remarks now l.text.now parsed)
      → IfOk given.remarks (λ text. text.items ≡ y) → IfOk taken.remarks (λ text. text.items ≡ x ++ y))
      → AnswersStreamed shown l now before after taken
  streamed_answers taken given decodes as_many accepted joins file c silent h is at now_is =
      let streamed = is_streamed file c silent h at in
      let whole : Contents = replay c h.edits in
      let command = command_is file l.skipped c silent h l.text.now s streamed parsed
      (subst (λ (x : Contents). command_of_line x l.text.now ≡ Ok (command_without_address parsed)) now_is read) in
      let from = decoded_from file l.skipped c silent h l.text.now s streamed end parsed
      (end_is ∙ ap (λ (x : Contents). x.end) now_is) command
      (subst (λ (x : Contents). HasCommandSignals x parsed) now_is has) in
      let reply = reply_is file l.skipped c silent h l.text.now s streamed l.number parsed command in
      let told = remarks_are file l.skipped c silent h l.text.now s streamed l.number parsed command in
      let (took, count, some) = decodes file whole is from in
      let number : s.number ≡ l.number = here_number l.number l.streamed.now s here in
      record {
        text = subst (Appends before after) (sym reply.0) took;
        count = sym as_many ∙ count ∙ ap (λ (t : List ℕ). counted (length t)) (sym reply.0);
        refused = accepted ∙ sym reply.1;
        remarks = subst (λ (o : Option StreamedLine). IfOk taken.remarks (λ text. text.items
            ≡ remarks_after l.number whole l.text.now o)) (sym here)
            (subst (λ (t : List ℕ). IfOk taken.remarks (λ text. text.items ≡ t))
            (ap (λ (x : Contents). remarks_text l.number (name_remarks x l.text.now parsed)
            ++ remarks_text l.number (decoder_remarks whole parsed)) now_is ∙ sym told)
            (joins (remarks_text l.number (name_remarks now l.text.now parsed))
            (remarks_text l.number (decoder_remarks whole parsed)) refl
            (subst (λ n. IfOk given.remarks (λ text. text.items ≡ remarks_text n (decoder_remarks whole parsed))) number
            some)));
      }

  pub streamed_stops : (count : ℕ) → StopsDecoding shown s end parsed before after count
      → StopsAtStreamed shown l now before after count
  streamed_stops count stops file c silent h is at now_is =
      let streamed = is_streamed file c silent h at in
      let whole : Contents = replay c h.edits in
      let command = command_is file l.skipped c silent h l.text.now s streamed parsed
      (subst (λ (x : Contents). command_of_line x l.text.now ≡ Ok (command_without_address parsed)) now_is read) in
      let from = decoded_from file l.skipped c silent h l.text.now s streamed end parsed
      (end_is ∙ ap (λ (x : Contents). x.end) now_is) command
      (subst (λ (x : Contents). HasCommandSignals x parsed) now_is has) in
      subst (λ (t : List ℕ). (count ≤ length t) × Appends before after (take count t))
      (sym (reply_is file l.skipped c silent h l.text.now s streamed l.number parsed command).0)
      (stops file whole is from)
