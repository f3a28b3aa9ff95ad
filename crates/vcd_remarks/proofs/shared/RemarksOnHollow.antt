-- Remarks on captures that lack the waves of silent signals: those on each line are the same.
use Rattle.std.proofs.Common.{◌≡◌, ℕ, List, [], ◌++◌, Result, Ok, Err, length, map, refl, ap}
use Rattle.std.proofs.Common.{◌∙◌, sym, Option, Some, None, if◌then◌else◌}
use Rattle.std.specs.Prelude.{is_some}
use Rattle.std.specs.List.{flat_map}
use Rattle.std.specs.Option.{option_map, option_to_list}
use Rattle.vcd_core.specs.Contents.{Contents, SignalContents, signal_at}
use Rattle.vcd_core.specs.Names.{full_names}
use Rattle.vcd_core.specs.Value.{all_x}
use Rattle.vcd_core.proofs.shared.Outlines.{names_of_outline}
use Rattle.vcd_hollow.specs.OtherWaves.{OtherChanges, with_others, HaveOwn, waves_read}
use Rattle.vcd_edit.specs.declared.edit.Edit.{Edit}
use Rattle.vcd_edit.specs.declared.edit.Edit.TheVariants.{Invert, Shift, Deglitch, Force}
use Rattle.vcd_hollow.proofs.shared.Outlines.{fault_is_of_outline}
use Rattle.vcd_hollow.proofs.shared.EditsWithOthers.{others_keep_outline, same_signal}
use Rattle.vcd_journal.specs.declared.step.Step.TheVariants as steps
use Rattle.vcd_journal.specs.History.{replay}
use Rattle.vcd_hollow.specs.Origins.{origins}
use Rattle.vcd_hollow.specs.Hollow.{emptied}
use Rattle.vcd_hollow.proofs.shared.Hollow.{replay_on_hollow}
use Rattle.vcd_script.specs.declared.script.command.Command.{Command}
use Rattle.vcd_script.specs.declared.script.command.Command.TheVariants as commands
use Rattle.vcd_script.specs.declared.script.line_error.LineError.{LineError}
use Rattle.vcd_script.specs.ScriptCommands.{command_of_line}
use Rattle.vcd_hollow.specs.HollowRun.{waves_asked}
use Rattle.vcd_remarks.specs.NamedSignals.{signals_of_command}
use Rattle.vcd_remarks.specs.NameRemarks.{name_remark, name_remarks}
use Rattle.vcd_remarks.specs.EditFindings.{deglitch_findings, shift_findings, invert_findings, force_findings}
use Rattle.vcd_remarks.specs.EditFindings.{edit_findings}
use Rattle.vcd_remarks.specs.Findings.{finding_text}
use Rattle.vcd_remarks.specs.DecoderFindings.{told, uart_findings, spi_findings, bus_findings}
use Rattle.vcd_remarks.specs.Remarks.{remarks, remarks_text}
use Rattle.vcd_remarks.specs.ValueRuns.{value_runs}
use Rattle.vcd_remarks.specs.RemarksOfRun.{remarks_asked, line_remarks, RemarksWithOthers, RemarksOnHollow}
use Rattle.vcd_hollow.proofs.shared.CommandsOfOutline.{command_is_of_outline}
use Rattle.vcd_hollow.proofs.shared.HollowRuns.{all_split, have_own}

-- ---- the remarks on a command on a capture with other waves, none of which it asks for

module _ (others : List OtherChanges) (c : Contents) where
  abbrev replaced : Contents
  replaced = with_others others c

  -- a signal that may be absent
  same_if_there : (o : Option ℕ) → HaveOwn others (option_to_list o)
      → option_map (signal_at replaced) o ≡ option_map (signal_at c) o
  same_if_there None own = refl
  same_if_there (Some k) own = ap (λ (s : SignalContents). Some s) (same_signal others c k own.0)

  same_edit : (e : Edit) → HaveOwn others (waves_read e) → edit_findings e replaced ≡ edit_findings e c
  same_edit (Deglitch k ticks) own = λ i.
      deglitch_findings ticks c.end (value_runs c.end (same_signal others c k own.0 i))
  same_edit (Shift k by) own = λ i. shift_findings c.end by (same_signal others c k own.0 i).changes
  same_edit (Invert k) own = λ i. invert_findings (same_signal others c k own.0 i).changes
  same_edit (Force k from to value) own = λ i.
      let s = same_signal others c k own.0 i in force_findings from to value (all_x s.width) s.changes
  same_edit e own = refl

pub remarks_with_others : RemarksWithOthers
unfolding remarks
remarks_with_others others c (commands.Step (steps.Edit e)) own = λ i.
    if is_some (fault_is_of_outline e (with_others others c) c (others_keep_outline others c) i) then []
    else flat_map finding_text (same_edit others c e own i)
remarks_with_others others c (commands.Uart k u) own = λ i.
    told (uart_findings u c.end (same_signal others c k own.0 i))
remarks_with_others others c (commands.Spi clk mosi miso cs u) own =
    let last = all_split _ (option_to_list mosi ++ option_to_list miso) (option_to_list cs) own.1 in
    let first = all_split _ (option_to_list mosi) (option_to_list miso) last.0 in
    let clock = same_signal others c clk own.0 in
    let chip = same_if_there others c cs last.1 in
    let out = same_if_there others c mosi first.0 in
    let back = same_if_there others c miso first.1 in
    λ i. told (spi_findings u (clock i) (out i) (back i) (chip i) c.end)
remarks_with_others others c (commands.I2c scl sda) own = λ i.
    told (bus_findings c.end (same_signal others c scl own.0 i) (same_signal others c sda own.1.0 i))
remarks_with_others others c command own = refl

-- ---- the remarks on a line

-- names are those of the outline
pub same_names : (others : List OtherChanges) (c : Contents)
    → full_names (with_others others c).signals ≡ full_names c.signals
same_names others c =
    sym (names_of_outline (with_others others c).signals)
    ∙ ap (λ (o : Contents). full_names o.signals) (others_keep_outline others c) ∙ names_of_outline c.signals

asked_same : (others : List OtherChanges) (c : Contents) (line : List ℕ) (parsed : Result Command LineError)
    → HaveOwn others (waves_asked parsed)
    → remarks_asked (with_others others c) line parsed ≡ remarks_asked c line parsed
unfolding name_remarks
asked_same others c line (Ok command) own = λ i.
    flat_map (name_remark (same_names others c i) line) (signals_of_command command)
    ++ remarks_with_others others c command own i
asked_same others c line (Err found) own = refl

line_same : (others : List OtherChanges) (c : Contents) (number : ℕ) (line : List ℕ)
    → HaveOwn others (waves_asked (command_of_line c line))
    → line_remarks number (with_others others c) line ≡ line_remarks number c line
line_same others c number line own =
    ap (λ (parsed : Result Command LineError). remarks_text number (remarks_asked (with_others others c) line parsed))
    (command_is_of_outline (with_others others c) c line (others_keep_outline others c))
    ∙ ap (remarks_text number) (asked_same others c line (command_of_line c line) own)

-- ---- on a hollow capture

pub remarks_on_hollow : RemarksOnHollow
remarks_on_hollow silent c h number line own heard =
    let ks : List ℕ = origins (length c.signals) h.edits in
    ap (λ (x : Contents). line_remarks number x line) (replay_on_hollow silent c h.edits own)
    ∙ line_same (map (emptied silent) ks) (replay c h.edits) number line
    (have_own silent ks (waves_asked (command_of_line (replay c h.edits) line)) heard)
