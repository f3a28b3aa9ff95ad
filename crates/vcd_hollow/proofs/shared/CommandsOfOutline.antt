-- What a line asks for depends on the outline of the capture alone.
use Rattle.std.proofs.Common.{◌≡◌, ℕ, ◌&&◌, nat_lt, ◌==◌, if◌then◌else◌, List, [], ◌∷◌, Option, Some, None, Ok, Err}
use Rattle.std.proofs.Common.{refl, sym, ap, ◌∙◌}
use Rattle.std.specs.Prelude.{codes}
use Rattle.std.specs.List.{position}
use Rattle.std.specs.Option.{ok_or}
use Rattle.std.specs.Str.{bytes_eq}
use Rattle.vcd_core.specs.Contents.{Contents}
use Rattle.vcd_core.specs.Names.{is_numbered, number_in, lookup}
use Rattle.vcd_core.specs.Outline.{outline}
use Rattle.vcd_core.proofs.shared.Outlines.{count_in_outline, at_outline, names_of_outline}
use Rattle.vcd_decode.specs.UartSetup.{uart_setup}
use Rattle.vcd_decode.specs.SpiSetup.{spi_setup}
use Rattle.vcd_decode.specs.SetupFaults.{uart_fault, spi_fault}
use Rattle.vcd_text.specs.Words.{words_of}
use Rattle.vcd_text.specs.Grammar.{word_texts}
use Rattle.vcd_edit.specs.declared.edit.Edit.TheVariants.{Rename, Remove, Invert, Shift, Deglitch, Force, Derive}
use Rattle.vcd_edit.specs.declared.edit.Rule.TheVariants.{Not, And, Or, Xor, BitOf}
use Rattle.vcd_script.specs.declared.script.command.Command.TheVariants as commands
use Rattle.vcd_script.specs.declared.script.keyword.Keyword.{Keyword}
use Rattle.vcd_script.specs.declared.script.keyword.Keyword.TheVariants as keywords
use Rattle.vcd_script.specs.declared.script.line_error.LineError.TheVariants.{NoSuchName, NotScalar, UnknownCommand}
use Rattle.vcd_script.specs.declared.script.line_error.LineError.TheVariants.{BadOption}
use Rattle.vcd_script.specs.LentBytes.{lent_bytes}
use Rattle.vcd_script.specs.ScriptWords.{◌>>=◌, signal_of_name, number_of_word, distance_of_word, value_of_word}
use Rattle.vcd_script.specs.DecoderWords.{ratio_of_word, parity_of_word, order_of_word, signal_or_absent}
use Rattle.vcd_script.specs.DecoderWords.{one_bit_signal, one_bit_signal_or_absent, faultless}
use Rattle.vcd_script.specs.ScriptCommands.{keyword_of, is_comment, edit_command, not_rule, pair_of, bit_rule, rule_of}
use Rattle.vcd_script.specs.ScriptCommands.{command_of, command_of_words, command_of_line}
use Rattle.vcd_hollow.specs.HollowRun.{CommandIsOfOutline}

module _ (c : Contents) where
  -- ---- words

  same_name : (name : List ℕ) → signal_of_name (outline c) name ≡ signal_of_name c name
  unfolding lookup
  same_name name = λ i. ok_or (
      if is_numbered name && nat_lt (number_in name) (count_in_outline c i) then Some (number_in name)
      else position (bytes_eq name) (names_of_outline c.signals i)) NoSuchName

  same_absent : (word : List ℕ) → signal_or_absent (outline c) word ≡ signal_or_absent c word
  same_absent word = λ i. if bytes_eq word (codes "-") then Ok None else (same_name word i >>= λ k. Ok (Some k))

  same_one_bit : (k : ℕ) → one_bit_signal (outline c) k ≡ one_bit_signal c k
  same_one_bit k = λ i. if (at_outline c k i).width == 1 then Ok k else Err NotScalar

  same_one_bit_or_absent : (o : Option ℕ) → one_bit_signal_or_absent (outline c) o ≡ one_bit_signal_or_absent c o
  same_one_bit_or_absent None = refl
  same_one_bit_or_absent (Some k) = λ i. same_one_bit k i >>= λ there. Ok (Some there)

  -- ---- rules

  same_not : (operands : List (List ℕ)) → not_rule (outline c) operands ≡ not_rule c operands
  same_not (a ∷ []) = λ i. same_name a i >>= λ k. Ok (Not k)
  same_not operands = refl

  same_pair : (operands : List (List ℕ)) → pair_of (outline c) operands ≡ pair_of c operands
  same_pair (a ∷ b ∷ []) = λ i. same_name a i >>= λ j. same_name b i >>= λ k. Ok (j, k)
  same_pair operands = refl

  same_bit : (operands : List (List ℕ)) → bit_rule (outline c) operands ≡ bit_rule c operands
  same_bit (a ∷ bit ∷ []) = λ i. same_name a i >>= λ j. number_of_word bit >>= λ k. Ok (BitOf j k)
  same_bit operands = refl

  same_rule : (word : List ℕ) (operands : List (List ℕ)) → rule_of (outline c) word operands ≡ rule_of c word operands
  same_rule word operands = λ i.
      if bytes_eq word (codes "not") then same_not operands i
      else (if bytes_eq word (codes "and") then (same_pair operands i >>= λ (j, k). Ok (And j k))
      else (if bytes_eq word (codes "or") then (same_pair operands i >>= λ (j, k). Ok (Or j k))
      else (if bytes_eq word (codes "xor") then (same_pair operands i >>= λ (j, k). Ok (Xor j k))
      else (if bytes_eq word (codes "bit") then same_bit operands i
      else Err BadOption))))

  -- ---- commands

  same_command : (keyword : Keyword) (words : List (List ℕ))
      → command_of (outline c) keyword words ≡ command_of c keyword words
  same_command keywords.Rename (name ∷ word ∷ []) = λ i.
      same_name name i >>= λ k. edit_command (Rename k (lent_bytes word))
  same_command keywords.Remove (name ∷ []) = λ i. same_name name i >>= λ k. edit_command (Remove k)
  same_command keywords.Invert (name ∷ []) = λ i. same_name name i >>= λ k. edit_command (Invert k)
  same_command keywords.Shift (name ∷ by ∷ []) = λ i.
      same_name name i >>= λ k. distance_of_word by >>= λ distance. edit_command (Shift k distance)
  same_command keywords.Deglitch (name ∷ ticks ∷ []) = λ i.
      same_name name i >>= λ k. number_of_word ticks >>= λ count. edit_command (Deglitch k count)
  same_command keywords.Force (name ∷ from ∷ to ∷ value ∷ []) = λ i.
      same_name name i >>= λ k. number_of_word from >>= λ from_tick. number_of_word to >>= λ to_tick.
      value_of_word (at_outline c k i).width value >>= λ letters. edit_command (Force k from_tick to_tick letters)
  same_command keywords.Derive (word ∷ rule ∷ operands) = λ i.
      same_rule rule operands i >>= λ r. edit_command (Derive (lent_bytes word) r)
  same_command keywords.Value (name ∷ tick ∷ []) = λ i.
      same_name name i >>= λ k. number_of_word tick >>= λ t. Ok (commands.Value k t)
  same_command keywords.Changes (name ∷ []) = λ i. same_name name i >>= λ k. Ok (commands.Changes k)
  same_command keywords.Uart (name ∷ bit ∷ count ∷ parity ∷ stop ∷ []) = λ i.
      same_name name i >>= λ k. ratio_of_word bit >>= λ ratio. number_of_word count >>= λ data_bits.
      parity_of_word parity >>= λ parity_bit. number_of_word stop >>= λ stop_bits.
      same_one_bit k i >>= λ line.
      faultless uart_fault (uart_setup ratio.0 ratio.1 data_bits parity_bit stop_bits) >>= λ setup.
      Ok (commands.Uart line setup)
  same_command keywords.Spi (clk ∷ mosi ∷ miso ∷ cs ∷ mode ∷ bits ∷ order ∷ []) = λ i.
      same_name clk i >>= λ clk_named. same_absent mosi i >>= λ mosi_named.
      same_absent miso i >>= λ miso_named. same_absent cs i >>= λ cs_named.
      number_of_word mode >>= λ number. number_of_word bits >>= λ word_bits.
      order_of_word order >>= λ bit_order. same_one_bit clk_named i >>= λ clk_line.
      same_one_bit_or_absent mosi_named i >>= λ mosi_line. same_one_bit_or_absent miso_named i >>= λ miso_line.
      same_one_bit_or_absent cs_named i >>= λ cs_line.
      faultless spi_fault (spi_setup number word_bits bit_order) >>= λ setup.
      Ok (commands.Spi clk_line mosi_line miso_line cs_line setup)
  same_command keywords.I2c (scl ∷ sda ∷ []) = λ i.
      same_name scl i >>= λ scl_named. same_name sda i >>= λ sda_named.
      same_one_bit scl_named i >>= λ scl_line. same_one_bit sda_named i >>= λ sda_line.
      Ok (commands.I2c scl_line sda_line)
  same_command keyword words = refl

  -- ---- lines

  same_words : (words : List (List ℕ)) → command_of_words (outline c) words ≡ command_of_words c words
  same_words [] = refl
  same_words (first ∷ words) = λ i.
      if is_comment first then Ok commands.Nothing
      else (ok_or (keyword_of first) UnknownCommand >>= λ keyword. same_command keyword words i)

  pub same_line : (line : List ℕ) → command_of_line (outline c) line ≡ command_of_line c line
  unfolding command_of_line
  same_line line = same_words (word_texts (words_of line))

pub command_is_of_outline : CommandIsOfOutline
command_is_of_outline c d line same =
    sym (same_line c line) ∙ ap (λ (o : Contents). command_of_line o line) same ∙ same_line d line
