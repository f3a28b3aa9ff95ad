-- The line has the name if the words left do.
use Rattle.std.proofs.Common.{◌≡◌}
use Rattle.std.specs.List.{list_any}
use Rattle.std.specs.Str.{bytes_eq}
use Rattle.vcd_core.specs.CaptureContents.{signal_contents}
use Rattle.vcd_core.specs.Names.{full_name}
use Rattle.vcd_text.specs.LentWords.{texts_left}
use Rattle.vcd_remarks.specs.NameRemarks.{has_word}
use Rattle.vcd_remarks.proofs.remarks.names.name_in_line.Given as goal

abbrev pub invariant-loop-word : goal.invariant-loop-word
invariant-loop-word l =
    list_any (bytes_eq (full_name (signal_contents l.signal))) (texts_left l.word-iterator)
    ≡ has_word l.line (full_name (signal_contents l.signal))
