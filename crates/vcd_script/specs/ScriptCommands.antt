-- What a line asks for, by cases on its words: the project's own.
use Rattle.std.specs.Prelude.{ℕ, Bool, false, ◌==◌, if◌then◌else◌, List, [], ◌∷◌, Option, find}
use Rattle.std.specs.Prelude.{option_map, Result, Ok}
use Rattle.std.specs.Prelude.{Err, codes}
use Rattle.std.specs.Option.{ok_or}
use Rattle.std.specs.Str.{bytes_eq}
use Rattle.vcd_core.specs.Contents.{Contents, signal_at}
use Rattle.vcd_text.specs.Words.{words_of}
use Rattle.vcd_text.specs.Grammar.{word_texts}
use Rattle.vcd_decode.specs.UartSetup.{uart_setup}
use Rattle.vcd_decode.specs.SpiSetup.{spi_setup}
use Rattle.vcd_edit.specs.declared.edit.Edit.{Edit}
use Rattle.vcd_edit.specs.declared.edit.Edit.TheVariants.{Rename, Remove, Invert, Shift, Cut}
use Rattle.vcd_edit.specs.declared.edit.Edit.TheVariants.{Deglitch, Force, Derive}
use Rattle.vcd_edit.specs.declared.edit.Rule.{Rule}
use Rattle.vcd_edit.specs.declared.edit.Rule.TheVariants.{Not, And, Or, Xor, BitOf}
use Rattle.vcd_journal.specs.declared.step.Step.TheVariants as steps
use Rattle.vcd_script.specs.declared.script.command.Command.{Command}
use Rattle.vcd_script.specs.declared.script.command.Command.TheVariants as commands
use Rattle.vcd_script.specs.declared.script.keyword.Keyword.{Keyword}
use Rattle.vcd_script.specs.declared.script.keyword.Keyword.TheVariants as keywords
use Rattle.vcd_script.specs.declared.script.keyword.TheConstants.{KEYWORDS}
use Rattle.vcd_script.specs.declared.script.line_error.LineError.{LineError}
use Rattle.vcd_script.specs.declared.script.line_error.LineError.TheVariants.{UnknownCommand}
use Rattle.vcd_script.specs.declared.script.line_error.LineError.TheVariants.{WrongCount, BadOption}
use Rattle.vcd_script.specs.LentBytes.{lent_bytes}
use Rattle.vcd_script.specs.ScriptWords.{◌>>=◌, signal_of_name, number_of_word, distance_of_word}
use Rattle.vcd_script.specs.ScriptWords.{value_of_word}
use Rattle.vcd_script.specs.DecoderWords.{ratio_of_word, parity_of_word, order_of_word}
use Rattle.vcd_script.specs.DecoderWords.{signal_or_absent, one_bit_signal}
use Rattle.vcd_script.specs.DecoderWords.{one_bit_signal_or_absent, faultless}
use Rattle.vcd_decode.specs.SetupFaults.{uart_fault, spi_fault}

-- ---- the first word

-- the command that a word names
abbrev pub keyword_of : List ℕ → Option Keyword
keyword_of word = option_map (λ row. row.1) (find (λ row. bytes_eq word row.0.now) KEYWORDS)

-- whether a word begins with `#` (35)
abbrev pub is_comment : List ℕ → Bool
is_comment [] = false
is_comment (b ∷ bs) = b == 35

-- ---- the words after it

-- a line asks for this edit
abbrev pub edit_command : Edit → Result Command LineError
edit_command e = Ok (commands.Step (steps.Edit e))

-- the rule `not A`
abbrev pub not_rule : Contents → List (List ℕ) → Result Rule LineError
not_rule c (a ∷ []) = do
  k ← signal_of_name c a
  Ok (Not k)
not_rule c operands = Err WrongCount

-- the operands `A B`, which are signals
abbrev pub pair_of : Contents → List (List ℕ) → Result (ℕ × ℕ) LineError
pair_of c (a ∷ b ∷ []) = do
  j ← signal_of_name c a
  k ← signal_of_name c b
  Ok (j, k)
pair_of c operands = Err WrongCount

-- the rule `RULE A B`
abbrev pub pair_rule : Contents → (ℕ → ℕ → Rule) → List (List ℕ) → Result Rule LineError
pair_rule c rule operands = pair_of c operands >>= λ (j, k). Ok (rule j k)

-- the rule `bit A K`
abbrev pub bit_rule : Contents → List (List ℕ) → Result Rule LineError
bit_rule c (a ∷ bit ∷ []) = do
  j ← signal_of_name c a
  k ← number_of_word bit
  Ok (BitOf j k)
bit_rule c operands = Err WrongCount

-- the rule that a word names, with its operands
abbrev pub rule_of : Contents → (word : List ℕ) → List (List ℕ) → Result Rule LineError
rule_of c word operands =
    if bytes_eq word (codes "not") then not_rule c operands
    else (if bytes_eq word (codes "and") then pair_rule c And operands
    else (if bytes_eq word (codes "or") then pair_rule c Or operands
    else (if bytes_eq word (codes "xor") then pair_rule c Xor operands
    else (if bytes_eq word (codes "bit") then bit_rule c operands
    else Err BadOption))))

-- what the words after a keyword ask for; they are read in this order, and the first fault counts
abbrev pub command_of : Contents → Keyword → List (List ℕ) → Result Command LineError
command_of c keywords.Rename (name ∷ word ∷ []) = do
  k ← signal_of_name c name
  edit_command (Rename k (lent_bytes word))
command_of c keywords.Remove (name ∷ []) = do
  k ← signal_of_name c name
  edit_command (Remove k)
command_of c keywords.Invert (name ∷ []) = do
  k ← signal_of_name c name
  edit_command (Invert k)
command_of c keywords.Shift (name ∷ by ∷ []) = do
  k ← signal_of_name c name
  distance ← distance_of_word by
  edit_command (Shift k distance)
command_of c keywords.Cut (from ∷ to ∷ []) = do
  from_tick ← number_of_word from
  to_tick ← number_of_word to
  edit_command (Cut from_tick to_tick)
command_of c keywords.Deglitch (name ∷ ticks ∷ []) = do
  k ← signal_of_name c name
  count ← number_of_word ticks
  edit_command (Deglitch k count)
command_of c keywords.Force (name ∷ from ∷ to ∷ value ∷ []) = do
  k ← signal_of_name c name
  from_tick ← number_of_word from
  to_tick ← number_of_word to
  letters ← value_of_word (signal_at c k).width value
  edit_command (Force k from_tick to_tick letters)
command_of c keywords.Derive (word ∷ rule ∷ operands) = do
  r ← rule_of c rule operands
  edit_command (Derive (lent_bytes word) r)
command_of c keywords.Undo [] = Ok (commands.Step steps.Undo)
command_of c keywords.Redo [] = Ok (commands.Step steps.Redo)
command_of c keywords.Depth (count ∷ []) = do
  depth ← number_of_word count
  Ok (commands.Step (steps.Depth depth))
command_of c keywords.List [] = Ok commands.List
command_of c keywords.Value (name ∷ tick ∷ []) = do
  k ← signal_of_name c name
  t ← number_of_word tick
  Ok (commands.Value k t)
command_of c keywords.Changes (name ∷ []) = do
  k ← signal_of_name c name
  Ok (commands.Changes k)
command_of c keywords.Uart (name ∷ bit ∷ count ∷ parity ∷ stop ∷ []) = do
  k ← signal_of_name c name
  ratio ← ratio_of_word bit
  data_bits ← number_of_word count
  parity_bit ← parity_of_word parity
  stop_bits ← number_of_word stop
  line ← one_bit_signal c k
  setup ← faultless uart_fault (uart_setup ratio.0 ratio.1 data_bits parity_bit stop_bits)
  Ok (commands.Uart line setup)
command_of c keywords.Spi (clk ∷ mosi ∷ miso ∷ cs ∷ mode ∷ bits ∷ order ∷ []) = do
  clk_named ← signal_of_name c clk
  mosi_named ← signal_or_absent c mosi
  miso_named ← signal_or_absent c miso
  cs_named ← signal_or_absent c cs
  number ← number_of_word mode
  word_bits ← number_of_word bits
  bit_order ← order_of_word order
  clk_line ← one_bit_signal c clk_named
  mosi_line ← one_bit_signal_or_absent c mosi_named
  miso_line ← one_bit_signal_or_absent c miso_named
  cs_line ← one_bit_signal_or_absent c cs_named
  setup ← faultless spi_fault (spi_setup number word_bits bit_order)
  Ok (commands.Spi clk_line mosi_line miso_line cs_line setup)
command_of c keywords.I2c (scl ∷ sda ∷ []) = do
  scl_named ← signal_of_name c scl
  sda_named ← signal_of_name c sda
  scl_line ← one_bit_signal c scl_named
  sda_line ← one_bit_signal c sda_named
  Ok (commands.I2c scl_line sda_line)
command_of c keyword words = Err WrongCount

-- what the words of a line ask for on a capture, or why they are no command
abbrev pub command_of_words : Contents → List (List ℕ) → Result Command LineError
command_of_words c [] = Ok commands.Nothing
command_of_words c (first ∷ words) = if is_comment first then Ok commands.Nothing else (do
  keyword ← ok_or (keyword_of first) UnknownCommand
  command_of c keyword words)

-- what a line asks for on a capture, or why it is no command
unfoldable pub command_of_line : Contents → List ℕ → Result Command LineError
command_of_line c line = command_of_words c (word_texts (words_of line))
