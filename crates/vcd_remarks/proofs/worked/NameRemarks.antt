-- Worked cases: the remarks on names that several signals have.
use Rattle.std.proofs.Common.{◌≡◌, refl}
use Rattle.std.specs.Prelude.{ℕ, List, [], ◌∷◌, codes}
use Rattle.std.specs.Fmt.{digits}
use Rattle.vcd_core.specs.Contents.{Contents}
use Rattle.vcd_core.specs.Names.{name_in, lookup}
use Rattle.vcd_text.specs.Words.{words_of}
use Rattle.vcd_edit.specs.EditFaults.{edit_fault}
use Rattle.vcd_edit.proofs.worked.Records.{wire, capture}
use Rattle.vcd_remarks.specs.NameRemarks.{name_remark, name_remarks}
use Rattle.vcd_remarks.specs.Remarks.{remarks}
use Rattle.vcd_remarks.specs.RemarksOfRun.{remarks_asked}
use Rattle.vcd_script.specs.ScriptCommands.{command_of_line}

-- two names, of which two signals have one
abbrev three_signals : Contents
three_signals = capture 9 (wire (codes "rx") [] ∷ wire (codes "tx") [] ∷ wire (codes "rx") [] ∷ [])

abbrev remarks_on_line : List ℕ → List (List ℕ)
remarks_on_line line = remarks_asked three_signals line (command_of_line three_signals line)

abbrev first_rx : List (List ℕ)
first_rx = codes "2 signals are called top.rx: @0 is meant" ∷ []

by_name : remarks_on_line (codes "changes top.rx") ≡ first_rx
unfolding command_of_line words_of lookup name_in name_remarks remarks digits
by_name = refl

by_position : remarks_on_line (codes "changes @0") ≡ []
unfolding command_of_line words_of lookup name_in name_remarks remarks
by_position = refl

one_alone : remarks_on_line (codes "changes top.tx") ≡ []
unfolding command_of_line words_of lookup name_in name_remarks remarks
one_alone = refl

removed : remarks_on_line (codes "remove top.rx") ≡ first_rx
unfolding command_of_line words_of lookup name_in name_remarks remarks edit_fault digits
removed = refl

-- the second signal of the name is an operand by its position
one_of_two_operands : remarks_on_line (codes "derive n and top.rx @2") ≡ first_rx
unfolding command_of_line words_of lookup name_in name_remarks remarks edit_fault digits
one_of_two_operands = refl

refused_edit : remarks_on_line (codes "deglitch top.rx 0") ≡ first_rx
unfolding command_of_line words_of lookup name_in name_remarks remarks edit_fault digits
refused_edit = refl

no_command : remarks_on_line (codes "changes top.rx 0") ≡ []
unfolding command_of_line words_of lookup name_in name_remarks remarks
no_command = refl

-- a delete (127) and a byte that is no ASCII (200), in a line of this word alone
odd_bytes : name_remark ((65 ∷ 127 ∷ 200 ∷ []) ∷ (65 ∷ 127 ∷ 200 ∷ []) ∷ []) (65 ∷ 127 ∷ 200 ∷ []) 0
    ≡ codes "2 signals are called A??: @0 is meant" ∷ []
unfolding words_of digits
odd_bytes = refl
