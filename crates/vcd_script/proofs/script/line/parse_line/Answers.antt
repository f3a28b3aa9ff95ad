-- What is read of the first word, and of those after it, is what is read of the line.
use Rattle.std.proofs.Common.{◌≡◌, Result, Ok, Err, sym, ap, ◌∙◌}
use Rattle.std.specs.Prelude.{IfOk, IfErr}
use Rattle.vcd_core.specs.CaptureContents.{contents}
use Rattle.vcd_core.specs.Contents.{Contents}
use Rattle.vcd_text.specs.Grammar.{word_texts}
use Rattle.vcd_script.specs.declared.script.command.Command.{Command}
use Rattle.vcd_script.specs.declared.script.line_error.LineError.{LineError}
use Rattle.vcd_script.specs.CommandSignals.{HasCommandSignals}
use Rattle.vcd_script.specs.WithoutAddress.{command_without_address}
use Rattle.vcd_script.specs.ScriptCommands.{command_of_line}
use Rattle.vcd_script.specs.inside.script.Line.{ReadsAs}
use Rattle.vcd_script.proofs.script.line.parse_line.Goals as goal

-- what is read, clause by clause
read_command : (c : Contents) (wanted parsed : Result Command LineError) → ReadsAs c wanted parsed
    → IfOk parsed (λ command. wanted ≡ Ok (command_without_address command))
read_command c wanted (Ok command) reads = reads.0
read_command c wanted (Err fault) reads = tt

read_signals : (c : Contents) (wanted parsed : Result Command LineError) → ReadsAs c wanted parsed
    → IfOk parsed (HasCommandSignals c)
read_signals c wanted (Ok command) reads = reads.1
read_signals c wanted (Err fault) reads = tt

read_fault : (c : Contents) (wanted parsed : Result Command LineError) → ReadsAs c wanted parsed
    → IfErr parsed (λ fault. wanted ≡ Err fault)
read_fault c wanted (Ok command) reads = tt
read_fault c wanted (Err fault) reads = reads

pub returns-in-Some-clause-command : goal.returns-in-Some-clause-command
unfolding command_of_line
returns-in-Some-clause-command c =
    rw (ap word_texts (sym c.new-words.ensures.words) ∙ c.in-Some.ensures)
    (read_command (contents c.args.capture.now) _ c.parse_first_word.result c.parse_first_word.ensures)

pub returns-in-Some-clause-fault : goal.returns-in-Some-clause-fault
unfolding command_of_line
returns-in-Some-clause-fault c =
    rw (ap word_texts (sym c.new-words.ensures.words) ∙ c.in-Some.ensures)
    (read_fault (contents c.args.capture.now) _ c.parse_first_word.result c.parse_first_word.ensures)

pub returns-in-Some-clause-signals : goal.returns-in-Some-clause-signals
returns-in-Some-clause-signals c =
    read_signals (contents c.args.capture.now) _ c.parse_first_word.result c.parse_first_word.ensures
