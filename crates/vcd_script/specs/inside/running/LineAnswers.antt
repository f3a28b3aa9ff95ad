-- The answers to lines, one after another.
use Rattle.std.specs.Prelude.{ℕ, List, [], ◌∷◌}
use Rattle.vcd_core.specs.Contents.{Contents}
use Rattle.vcd_journal.specs.History.{History}
use Rattle.vcd_script.specs.Reply.{LineReply}
use Rattle.vcd_script.specs.Run.{line_answer, history_after_line}

-- what is said to lines, the first of them with this history
unfoldable pub line_answers : Contents → (skipped : ℕ) → History → List (List ℕ) → List LineReply
line_answers c skipped h [] = []
line_answers c skipped h (line ∷ lines) =
    line_answer c skipped h line
    ∷ line_answers c skipped (history_after_line c skipped h line) lines
