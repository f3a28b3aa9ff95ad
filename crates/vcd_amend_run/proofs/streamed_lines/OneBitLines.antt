-- The lines of a decoder have one bit.
use Rattle.std.proofs.Common.{◌≡◌, ℕ, ◌==◌, Bool, true, false, if◌then◌else◌, List, [], ◌∷◌, Option, Some, None}
use Rattle.std.proofs.Common.{Result, Ok, Err, refl, arith}
use Rattle.std.specs.Prelude.{IfOk, IfSome}
use Rattle.std.specs.List.{AllByRecursion}
use Rattle.std.specs.Option.{ok_or}
use Rattle.std.proofs.lemmas.Bool.Decides.{nat_tests}
use Rattle.vcd_core.specs.Contents.{Contents, signal_at}
use Rattle.vcd_decode.specs.UartSetup.{uart_setup}
use Rattle.vcd_decode.specs.SpiSetup.{spi_setup}
use Rattle.vcd_decode.specs.SetupFaults.{uart_fault, spi_fault}
use Rattle.vcd_text.specs.Words.{words_of}
use Rattle.vcd_text.specs.Grammar.{word_texts}
use Rattle.vcd_script.specs.declared.script.command.Command.{Command}
use Rattle.vcd_script.specs.declared.script.command.Command.TheVariants as commands
use Rattle.vcd_script.specs.declared.script.keyword.Keyword.{Keyword}
use Rattle.vcd_script.specs.declared.script.keyword.Keyword.TheVariants as keywords
use Rattle.vcd_script.specs.declared.script.line_error.LineError.{LineError}
use Rattle.vcd_script.specs.declared.script.line_error.LineError.TheVariants.{UnknownCommand, NotScalar}
use Rattle.vcd_script.specs.ScriptWords.{◌>>=◌, signal_of_name, number_of_word, distance_of_word, value_of_word}
use Rattle.vcd_script.specs.DecoderWords.{ratio_of_word, parity_of_word, order_of_word, signal_or_absent}
use Rattle.vcd_script.specs.DecoderWords.{one_bit_signal, one_bit_signal_or_absent, faultless}
use Rattle.vcd_script.specs.ScriptCommands.{keyword_of, is_comment, rule_of, command_of, command_of_words}
use Rattle.vcd_script.specs.ScriptCommands.{command_of_line}
use Rattle.vcd_remarks.specs.DecoderLines.{decoder_lines}

module _ (c : Contents) where
  abbrev HasOneBit : ℕ → Type 0
  HasOneBit k = (signal_at c k).width ≡ 1

  abbrev HasOneBitIfThere : Option ℕ → Type 0
  HasOneBitIfThere line = IfSome line HasOneBit

  abbrev pub HaveOneBit : List (Option ℕ) → Type 0
  HaveOneBit = AllByRecursion HasOneBitIfThere

  -- the lines of a command
  abbrev LinesHaveOneBit : Command → Type 0
  LinesHaveOneBit command = HaveOneBit (decoder_lines command)

  -- whatever this reading gives, the next one gives such a command
  after_any : {A : Type 0} (r : Result A LineError) (f : A → Result Command LineError)
      → ((a : A) → IfOk (f a) LinesHaveOneBit) → IfOk (r >>= f) LinesHaveOneBit
  after_any (Ok a) f each = each a
  after_any (Err fault) f each = tt

  -- the next one does where this is known of what this reading gives
  after_known : {A : Type 0} (Q : A → Type 0) (r : Result A LineError) (f : A → Result Command LineError)
      → IfOk r Q → ((a : A) → Q a → IfOk (f a) LinesHaveOneBit) → IfOk (r >>= f) LinesHaveOneBit
  after_known Q (Ok a) f known each = each a known
  after_known Q (Err fault) f known each = tt

  if_scalar : (k : ℕ) (b : Bool) → ((signal_at c k).width == 1) ≡ b
      → IfOk (if b then Ok k else Err NotScalar) HasOneBit
  if_scalar k true is = grind (arith, nat_tests)
  if_scalar k false is = tt

  one_bit : (k : ℕ) → IfOk (one_bit_signal c k) HasOneBit
  one_bit k = if_scalar k ((signal_at c k).width == 1) refl

  some_has : (r : Result ℕ LineError) → IfOk r HasOneBit → IfOk (r >>= λ k. Ok (Some k)) HasOneBitIfThere
  some_has (Ok k) has = has
  some_has (Err fault) has = tt

  one_bit_if_there : (o : Option ℕ) → IfOk (one_bit_signal_or_absent c o) HasOneBitIfThere
  one_bit_if_there None = tt
  one_bit_if_there (Some k) = some_has (one_bit_signal c k) (one_bit k)

  of_command : (keyword : Keyword) (words : List (List ℕ)) → IfOk (command_of c keyword words) LinesHaveOneBit
  of_command keywords.Rename (name ∷ word ∷ []) = after_any (signal_of_name c name) _ (λ k. tt)
  of_command keywords.Remove (name ∷ []) = after_any (signal_of_name c name) _ (λ k. tt)
  of_command keywords.Invert (name ∷ []) = after_any (signal_of_name c name) _ (λ k. tt)
  of_command keywords.Shift (name ∷ by ∷ []) =
      after_any (signal_of_name c name) _ (λ k. after_any (distance_of_word by) _ (λ distance. tt))
  of_command keywords.Cut (from ∷ to ∷ []) =
      after_any (number_of_word from) _ (λ from_tick. after_any (number_of_word to) _ (λ to_tick. tt))
  of_command keywords.Deglitch (name ∷ ticks ∷ []) =
      after_any (signal_of_name c name) _ (λ k. after_any (number_of_word ticks) _ (λ count. tt))
  of_command keywords.Force (name ∷ from ∷ to ∷ value ∷ []) =
      after_any (signal_of_name c name) _ (λ k.
      after_any (number_of_word from) _ (λ from_tick. after_any (number_of_word to) _ (λ to_tick.
      after_any (value_of_word (signal_at c k).width value) _ (λ letters. tt))))
  of_command keywords.Derive (word ∷ rule ∷ operands) = after_any (rule_of c rule operands) _ (λ r. tt)
  of_command keywords.Undo [] = tt
  of_command keywords.Redo [] = tt
  of_command keywords.Depth (count ∷ []) = after_any (number_of_word count) _ (λ depth. tt)
  of_command keywords.List [] = tt
  of_command keywords.Value (name ∷ tick ∷ []) =
      after_any (signal_of_name c name) _ (λ k. after_any (number_of_word tick) _ (λ t. tt))
  of_command keywords.Changes (name ∷ []) = after_any (signal_of_name c name) _ (λ k. tt)
  of_command keywords.Uart (name ∷ bit ∷ count ∷ parity ∷ stop ∷ []) =
      after_any (signal_of_name c name) _ (λ k. after_any (ratio_of_word bit) _ (λ ratio.
      after_any (number_of_word count) _ (λ data_bits. after_any (parity_of_word parity) _ (λ parity_bit.
      after_any (number_of_word stop) _ (λ stop_bits.
      after_known HasOneBit (one_bit_signal c k) _ (one_bit k) (λ line has.
      after_any (faultless uart_fault (uart_setup ratio.0 ratio.1 data_bits parity_bit stop_bits))
      (λ setup. Ok (commands.Uart line setup)) (λ setup. (has, (tt, (tt, (tt, tt)))))))))))
  of_command keywords.Spi (clk ∷ mosi ∷ miso ∷ cs ∷ mode ∷ bits ∷ order ∷ []) =
      after_any (signal_of_name c clk) _ (λ clk_named. after_any (signal_or_absent c mosi) _ (λ mosi_named.
      after_any (signal_or_absent c miso) _ (λ miso_named. after_any (signal_or_absent c cs) _ (λ cs_named.
      after_any (number_of_word mode) _ (λ number. after_any (number_of_word bits) _ (λ word_bits.
      after_any (order_of_word order) _ (λ bit_order.
      after_known HasOneBit (one_bit_signal c clk_named) _ (one_bit clk_named) (λ clk_line clk.
      after_known HasOneBitIfThere (one_bit_signal_or_absent c mosi_named) _ (one_bit_if_there mosi_named)
      (λ mosi_line mosi_has.
      after_known HasOneBitIfThere (one_bit_signal_or_absent c miso_named) _ (one_bit_if_there miso_named)
      (λ miso_line miso_has.
      after_known HasOneBitIfThere (one_bit_signal_or_absent c cs_named) _ (one_bit_if_there cs_named)
      (λ cs_line cs_has.
      after_any (faultless spi_fault (spi_setup number word_bits bit_order))
      (λ setup. Ok (commands.Spi clk_line mosi_line miso_line cs_line setup))
      (λ setup. (clk, (mosi_has, (miso_has, (cs_has, tt))))))))))))))))
  of_command keywords.I2c (scl ∷ sda ∷ []) =
      after_any (signal_of_name c scl) _ (λ scl_named. after_any (signal_of_name c sda) _ (λ sda_named.
      after_known HasOneBit (one_bit_signal c scl_named) _ (one_bit scl_named) (λ scl_line scl_has.
      after_known HasOneBit (one_bit_signal c sda_named) (λ sda_line. Ok (commands.I2c scl_line sda_line))
      (one_bit sda_named) (λ sda_line sda_has. (scl_has, (sda_has, (tt, (tt, tt))))))))
  of_command keyword words = tt

  unless_comment : (b : Bool) (r : Result Command LineError) → IfOk r LinesHaveOneBit
      → IfOk (if b then Ok commands.Nothing else r) LinesHaveOneBit
  unless_comment true r reads = tt
  unless_comment false r reads = reads

  of_words : (words : List (List ℕ)) → IfOk (command_of_words c words) LinesHaveOneBit
  of_words [] = tt
  of_words (first ∷ words) =
      unless_comment (is_comment first) _
      (after_any (ok_or (keyword_of first) UnknownCommand) _ (λ keyword. of_command keyword words))

  -- the lines of what a line of the script asks for
  pub lines_have_one_bit : (line : List ℕ)
      → IfOk (command_of_line c line) (λ command. HaveOneBit (decoder_lines command))
  unfolding command_of_line
  lines_have_one_bit line = of_words (word_texts (words_of line))
