-- Lines of a script that decode signals which no edit in force reads: they are decoded while the
-- file is read once more. All other lines ask for the changes of no silent signal.
use Rattle.std.specs.Prelude.{◌≡◌, ◌⊎◌, ◌==◌, ◌||◌, ◌+◌, ℕ, Bool, true, false, nat_eq, List, []}
use Rattle.std.specs.Prelude.{◌∷◌, map, length, Some, IfSome, Ok}
use Rattle.std.specs.List.{AllByRecursion, list_any, slice_get}
use Rattle.std.specs.Option.{option_map}
use Rattle.vcd_core.specs.Contents.{Contents}
use Rattle.vcd_edit.specs.declared.edit.Edit.{Edit}
use Rattle.vcd_journal.specs.History.{History, replay}
use Rattle.vcd_script.specs.declared.script.command.Command.{Command}
use Rattle.vcd_script.specs.ScriptCommands.{command_of_line}
use Rattle.vcd_script.specs.Run.{history_after_line}
use Rattle.vcd_hollow.specs.OtherWaves.{waves_read}
use Rattle.vcd_hollow.specs.Origins.{origins}
use Rattle.vcd_hollow.specs.HollowRun.{origins_at, origins_of_line, AreHeard}
use Rattle.vcd_remarks.specs.DecoderLines.{decoder_lines}
use Rattle.vcd_amend_run.specs.declared.streamed_line.StreamedLine.{StreamedLine}
use Rattle.vcd_amend_run.specs.inside.dry_running.OriginHistory.{ticks_of_cuts}

-- whether one of these edits reads the changes of the signal at a position in the first capture
unfoldable pub is_read_by : (count : ℕ) → List Edit → ℕ → Bool
is_read_by count [] k = false
is_read_by count (e ∷ es) k =
    list_any (nat_eq k) (origins_at (origins count es) (waves_read e)) || is_read_by count es k

-- the line, which is read after this history, decodes signals of the first capture, with no change
-- but by cuts
pub record IsStreamed (c : Contents) (h : History) (line : List ℕ) (s : StreamedLine) : Type 0 where
  pub command : Command
  pub asked : command_of_line (replay c h.edits) line ≡ Ok command
  pub decodes : length (decoder_lines command) ≡ 4
  pub lines : map (option_map (slice_get (origins (length c.signals) h.edits)))
      (decoder_lines command) ≡ map (option_map (λ k. Some k)) s.lines
  pub unread : AllByRecursion
      (λ line. IfSome line (λ k. is_read_by (length c.signals) h.edits k ≡ false)) s.lines
  pub cuts : s.cuts.items ≡ ticks_of_cuts h.edits

-- the line, which is read after this history, asks for the changes of no silent signal
abbrev pub IsHeardLine : (silent : ℕ → Bool) → Contents → History → List ℕ → Type 0
IsHeardLine silent c h line = AreHeard silent (origins_of_line c h line)

-- these are the streamed ones of some lines, of which the first has this number and is read after
-- this history; all others ask for the changes of no silent signal
unfoldable pub ArePlanned : Contents → (skipped : ℕ) → (silent : ℕ → Bool) → (number : ℕ) → History
    → List (List ℕ) → List StreamedLine → Type 0
ArePlanned c skipped silent number h [] streamed = Unit {0}
ArePlanned c skipped silent number h (line ∷ lines) [] = IsHeardLine silent c h line
    × ArePlanned c skipped silent (number + 1) (history_after_line c skipped h line) lines []
ArePlanned c skipped silent number h (line ∷ lines) (s ∷ streamed) =
    (((s.number == number) ≡ true) × IsStreamed c h line s
    × ArePlanned c skipped silent (number + 1) (history_after_line c skipped h line) lines streamed)
    ⊎ (((s.number == number) ≡ false) × IsHeardLine silent c h line
    × ArePlanned c skipped silent (number + 1) (history_after_line c skipped h line) lines
    (s ∷ streamed))
