-- Worked cases: what edits leave of the signals and the ticks of a file, and the file after cuts.
use Rattle.std.proofs.Common.{◌≡◌, refl, true, false, map}
use Rattle.std.specs.Prelude.{List, [], ◌∷◌, ◌++◌, codes, Some, None}
use Rattle.std.specs.List.{join_with_byte}
use Rattle.std.specs.Fmt.{digits}
use Rattle.vcd_core.specs.Wave.{value_from, changes_from}
use Rattle.vcd_core.specs.declared.bit.Bit.TheVariants.{Zero, One}
use Rattle.vcd_core.specs.Contents.{Contents, SignalContents}
use Rattle.vcd_text.specs.Items.{Item, variable, end_definitions, stamp, scalar, vector, real_or_string, dump_word}
use Rattle.vcd_text.specs.Items.{other, spelling}
use Rattle.vcd_text.specs.Meaning.{meaning, changes_of_code}
use Rattle.vcd_copy.specs.Pieces.{Piece, state_of_pieces}
use Rattle.vcd_edit.proofs.worked.Records.{from, wire, capture}
use Rattle.vcd_edit.specs.declared.edit.Edit.TheVariants.{Invert, Cut}
use Rattle.vcd_hollow.specs.Origins.{origins}
use Rattle.vcd_hollow.proofs.worked.Origins.{four_edits}
use Rattle.vcd_amend.specs.Retimed.{new_tick, retimed_pieces, retimed_contents}
use Rattle.vcd_amend.specs.RetimedLaws.{is_in_cut, is_in_either, tick_before_cut, pieces_after}
use Rattle.vcd_amend_run.specs.AmendedRun.{signals_remaining, signals_derived}
use Rattle.vcd_amend_run.specs.EditedText.{is_cut_out_by}

-- ==== a file after cuts, with its bytes, and its meaning

-- an item on a line of its own, and on the line of the item before it
abbrev line : Item → Piece
line i = record { item = i; space = 10 ∷ []; body = join_with_byte 32 (spelling i) }

abbrev beside : Item → Piece
beside i = record { item = i; space = 32 ∷ []; body = join_with_byte 32 (spelling i) }

-- two wires, a real, an event and a string
abbrev declared : List Piece
declared = line (variable (codes "wire" ∷ codes "1" ∷ codes "!" ∷ codes "clk" ∷ []))
    ∷ line (variable (codes "real" ∷ codes "64" ∷ codes "r" ∷ codes "supply" ∷ []))
    ∷ line (variable (codes "wire" ∷ codes "4" ∷ codes "\"" ∷ codes "bus" ∷ []))
    ∷ line (variable (codes "event" ∷ codes "1" ∷ codes "e" ∷ codes "go" ∷ []))
    ∷ line (variable (codes "string" ∷ codes "1" ∷ codes "s" ∷ codes "state" ∷ [])) ∷ line end_definitions ∷ []

abbrev low : Item
low = scalar 48 (codes "!")

abbrev high : Item
high = scalar 49 (codes "!")

abbrev volts : Item
volts = real_or_string 114 (codes "1.25") (codes "r")

abbrev idle : Item
idle = real_or_string 115 (codes "idle") (codes "s")

abbrev runs : Item
runs = real_or_string 115 (codes "run") (codes "s")

abbrev dumped : List Piece
dumped = line (stamp (codes "0")) ∷ line (dump_word (codes "$dumpvars")) ∷ line low ∷ line volts ∷ line idle
    ∷ line (dump_word (codes "$end")) ∷ []

abbrev remark : Item
remark = other (codes "$comment") (codes "a" ∷ codes "remark" ∷ [])

-- what is at tick 10 and tick 12
abbrev at_ten : List Piece
at_ten = line remark ∷ line low ∷ beside (vector 98 (codes "101") (codes "\"")) ∷ []

abbrev at_twelve : List Piece
at_twelve = line runs ∷ line (vector 98 (codes "0101") (codes "\"")) ∷ []

abbrev file : List Piece
file = declared ++ dumped
    ++ line (stamp (codes "5")) ∷ line high ∷ beside (scalar 49 (codes "e")) ∷ line (stamp (codes "7")) ∷ beside low
    ∷ line (stamp (codes "7")) ∷ beside high ∷ line (stamp (codes "10")) ∷ at_ten
    ++ line (stamp (codes "12")) ∷ at_twelve ++ line (stamp (codes "20")) ∷ []

-- the last change of the clock stands after the cut, and an event does not
abbrev after_first : List Piece
after_first = declared ++ dumped
    ++ line (stamp (codes "3")) ∷ beside high ∷ line (stamp (codes "5")) ∷ at_ten
    ++ line (stamp (codes "7")) ∷ at_twelve ++ line (stamp (codes "15")) ∷ []

first_cut : pieces_after (is_in_cut 3 8) 8 file ≡ after_first
unfolding retimed_pieces new_tick digits
first_cut = refl

first_means : meaning (state_of_pieces 8 after_first)
    ≡ retimed_contents (is_in_cut 3 8) (tick_before_cut 3 8) (meaning (state_of_pieces 8 file))
unfolding changes_of_code value_from changes_from new_tick
first_means = refl

-- the first ticks: the words of the dump stand in their place, the values after them
start_cut : pieces_after (is_in_cut 0 6) 8 file ≡ declared
    ++ line (dump_word (codes "$dumpvars")) ∷ line (dump_word (codes "$end")) ∷ line (stamp (codes "0")) ∷ line volts
    ∷ line idle ∷ line high ∷ line (stamp (codes "1")) ∷ beside low ∷ line (stamp (codes "1")) ∷ beside high
    ∷ line (stamp (codes "4")) ∷ at_ten ++ line (stamp (codes "6")) ∷ at_twelve ++ line (stamp (codes "14")) ∷ []
unfolding retimed_pieces new_tick digits
start_cut = refl

-- the last ticks but one: what is held stands after the stamp of the end
end_cut : pieces_after (is_in_cut 11 20) 8 file ≡ declared ++ dumped
    ++ line (stamp (codes "5")) ∷ line high ∷ beside (scalar 49 (codes "e")) ∷ line (stamp (codes "7")) ∷ beside low
    ∷ line (stamp (codes "7")) ∷ beside high ∷ line (stamp (codes "10")) ∷ at_ten
    ++ line (stamp (codes "11")) ∷ at_twelve
unfolding retimed_pieces new_tick digits
end_cut = refl

-- two cuts, the second of which counts without the first
both_cuts : pieces_after (is_in_either (is_in_cut 3 8) (is_in_cut 2 4)) 8 file ≡ declared ++ dumped
    ++ line (stamp (codes "2")) ∷ beside high ∷ line (stamp (codes "3")) ∷ at_ten
    ++ line (stamp (codes "5")) ∷ at_twelve ++ line (stamp (codes "13")) ∷ []
unfolding retimed_pieces new_tick digits
both_cuts = refl

-- the event alone is left out
event_cut : pieces_after (is_in_cut 4 6) 8 file ≡ declared ++ dumped
    ++ line (stamp (codes "4")) ∷ line high ∷ line (stamp (codes "5")) ∷ beside low
    ∷ line (stamp (codes "5")) ∷ beside high ∷ line (stamp (codes "8")) ∷ at_ten
    ++ line (stamp (codes "10")) ∷ at_twelve ++ line (stamp (codes "18")) ∷ []
unfolding retimed_pieces new_tick digits
event_cut = refl

-- no tick: all stands
no_cut : pieces_after (is_in_cut 3 3) 8 file ≡ file
unfolding retimed_pieces new_tick digits
no_cut = refl

-- two codes: each stands with its last change, in the order of these
abbrev spikes : List Piece
spikes = declared ++ line (stamp (codes "0")) ∷ beside high ∷ beside (vector 98 (codes "0") (codes "\""))
    ∷ line (stamp (codes "10")) ∷ beside low ∷ line (stamp (codes "11")) ∷ beside high
    ∷ line (stamp (codes "12")) ∷ beside (vector 98 (codes "1") (codes "\"")) ∷ line (stamp (codes "20")) ∷ beside low
    ∷ line (stamp (codes "21")) ∷ line high ∷ line (stamp (codes "40")) ∷ []

spikes_cut : pieces_after (is_in_cut 9 22) 8 spikes ≡ declared ++ line (stamp (codes "0")) ∷ beside high
    ∷ beside (vector 98 (codes "0") (codes "\"")) ∷ line (stamp (codes "9"))
    ∷ beside (vector 98 (codes "1") (codes "\"")) ∷ line high ∷ line (stamp (codes "27")) ∷ []
unfolding retimed_pieces new_tick digits
spikes_cut = refl

-- a real change does not take the place of one to digits; a change at the first tick that is left does
abbrev kinds : List Piece
kinds = declared ++ line (stamp (codes "1")) ∷ beside high ∷ beside (real_or_string 114 (codes "2") (codes "!"))
    ∷ beside (vector 98 (codes "11") (codes "\"")) ∷ line (stamp (codes "2")) ∷ beside volts
    ∷ beside (vector 98 (codes "10") (codes "\"")) ∷ line (stamp (codes "3")) ∷ []

kinds_cut : pieces_after (is_in_cut 1 2) 8 kinds ≡ declared ++ line (stamp (codes "1")) ∷ beside volts
    ∷ beside (vector 98 (codes "10") (codes "\"")) ∷ beside high
    ∷ beside (real_or_string 114 (codes "2") (codes "!")) ∷ line (stamp (codes "2")) ∷ []
unfolding retimed_pieces new_tick digits
kinds_cut = refl

-- ==== what edits leave of the signals of a file

abbrev d : SignalContents
d = wire (codes "d") (from 1 One ∷ [])

abbrev c : SignalContents
c = wire (codes "c") (from 1 Zero ∷ [])

abbrev n : SignalContents
n = wire (codes "n") (from 1 One ∷ [])

-- of a, b and c: the first has another name, the second is removed, and `n` is derived
abbrev after : Contents
after = capture 4 (d ∷ c ∷ n ∷ [])

what_is_left : (signals_remaining 3 four_edits after ≡ Some d ∷ None ∷ Some c ∷ [])
    × (signals_derived 3 four_edits after ≡ n ∷ [])
unfolding origins
what_is_left = (refl, refl)

-- ==== which ticks of a file are cut out

-- the first cut takes out ticks 1 and 2, and the other the tick that is then 2, which was 4
which_are_cut_out : map (is_cut_out_by (Cut 2 3 ∷ Invert 0 ∷ Cut 1 3 ∷ [])) (0 ∷ 1 ∷ 2 ∷ 3 ∷ 4 ∷ 5 ∷ [])
    ≡ false ∷ true ∷ true ∷ false ∷ true ∷ false ∷ []
unfolding is_cut_out_by new_tick
which_are_cut_out = refl
