-- Worked cases: texts that no amended file has, each refused by what is said of the items that stand.
use Rattle.std.proofs.Common.{◌≡◌, refl}
use Rattle.std.proofs.lemmas.Bool.{false≢true}
use Rattle.std.specs.Prelude.{ℕ, Bool, true, false, List, [], ◌∷◌, ◌++◌, codes, Option, Some, None, ◌+◌, drop}
use Rattle.std.specs.Fmt.{digits}
use Rattle.vcd_core.specs.declared.bit.Bit.TheVariants.{Zero, One}
use Rattle.vcd_core.specs.Wave.{change, value_from, changes_from}
use Rattle.vcd_core.specs.Contents.{SignalContents}
use Rattle.vcd_text.specs.Items.{variable, end_definitions, stamp, scalar, real_or_string, other}
use Rattle.vcd_text.specs.Grammar.{initial_state}
use Rattle.vcd_text.specs.Meaning.{changes_of_code}
use Rattle.vcd_copy.specs.Pieces.{Piece, state_of_pieces}
use Rattle.vcd_amend.specs.Retimed.{new_tick}
use Rattle.vcd_amend.specs.RetimedLaws.{AreRetimed, is_in_cut, changes_at_ticks, last_ones, ticks_of_others}
use Rattle.vcd_amend.specs.WhatStands.{may_go, may_be_put_in, may_become}
use Rattle.vcd_amend.proofs.worked.AmendedFiles.{piece, signal, wire}

-- two wires with one code, and a real, which is skipped
abbrev declared : List Piece
declared = piece (wire (codes "!") (codes "a")) [] (codes "$var wire 1 ! a $end")
    ∷ piece (wire (codes "!") (codes "b")) (codes " ") (codes "$var wire 1 ! b $end")
    ∷ piece (variable (codes "real" ∷ codes "64" ∷ codes "r" ∷ codes "r" ∷ [])) (codes " ")
    (codes "$var real 64 r r $end")
    ∷ piece end_definitions (codes " ") (codes "$enddefinitions $end") ∷ []

abbrev at : ℕ → List ℕ → Piece
at tick space = piece (stamp ((48 + tick) ∷ [])) space (35 ∷ (48 + tick) ∷ [])

abbrev low : List ℕ → Piece
low space = piece (scalar 48 (codes "!")) space (codes "0!")

abbrev high : List ℕ → Piece
high space = piece (scalar 49 (codes "!")) space (codes "1!")

abbrev real : List ℕ → Piece
real space = piece (real_or_string 114 (codes "1.5") (codes "r")) space (codes "r1.5 r")

abbrev other_real : Piece
other_real = piece (real_or_string 114 (codes "2.5") (codes "r")) (32 ∷ []) (codes "r2.5 r")

abbrev real_of_wires : Piece
real_of_wires = piece (real_or_string 114 (codes "1.5") (codes "!")) (32 ∷ []) (codes "r1.5 !")

abbrev comment : List ℕ → Piece
comment space = piece (other (codes "$comment") (codes "x" ∷ [])) space (codes "$comment x $end")

abbrev gap : List ℕ
gap = 32 ∷ []

abbrev line : List ℕ
line = 10 ∷ []

-- ---- both wires are 1 at 7

abbrev file : List Piece
file = declared ++ at 0 gap ∷ low gap ∷ at 5 gap ∷ real gap ∷ comment gap ∷ at 9 gap ∷ []

abbrev pulse : List ℕ → SignalContents
pulse name = record {
  scopes = [];
  kind = codes "wire";
  words = name ∷ [];
  width = 1;
  changes = change 0 (Zero ∷ []) ∷ change 7 (One ∷ []) ∷ change 8 (Zero ∷ []) ∷ [];
}

abbrev both : List (Option SignalContents)
both = Some (pulse (codes "a")) ∷ Some (pulse (codes "b")) ∷ []

abbrev may_be_of : (file text : List Piece) → Bool
may_be_of file text = may_become (may_go (state_of_pieces 8 file) both) (may_be_put_in (state_of_pieces 8 file) both
    (pulse (codes "a") ∷ pulse (codes "b") ∷ [])) (initial_state 8) 0 file text

abbrev becomes : List Piece → Bool
becomes text = may_be_of file (declared ++ at 0 gap ∷ low gap ∷ at 5 gap ∷ text)

-- the changes of the pulse, and the last stamp
abbrev rest : List Piece
rest = at 7 gap ∷ high line ∷ at 8 line ∷ low line ∷ at 9 line ∷ []

amended : becomes (real gap ∷ comment gap ∷ rest) ≡ true
unfolding may_become changes_of_code value_from changes_from digits
amended = refl

real_moved : becomes (at 7 gap ∷ high line ∷ at 8 line ∷ low line ∷ real line ∷ comment gap ∷ at 9 gap ∷ []) ≡ false
unfolding may_become changes_of_code value_from changes_from digits
real_moved = refl

comment_moved : becomes (real gap ∷ at 7 gap ∷ high line ∷ comment line ∷ at 8 gap ∷ low line ∷ at 9 line ∷ []) ≡ false
unfolding may_become changes_of_code value_from changes_from digits
comment_moved = refl

comment_dropped : becomes (real gap ∷ rest) ≡ false
unfolding may_become changes_of_code value_from changes_from digits
comment_dropped = refl

comment_added : becomes (real gap ∷ comment gap ∷ comment gap ∷ rest) ≡ false
unfolding may_become changes_of_code value_from changes_from digits
comment_added = refl

-- another real, and another white space
real_exchanged : becomes (other_real ∷ comment gap ∷ rest) ≡ false
unfolding may_become changes_of_code value_from changes_from digits
real_exchanged = refl

space_exchanged : becomes (real line ∷ comment gap ∷ rest) ≡ false
unfolding may_become changes_of_code value_from changes_from digits
space_exchanged = refl

-- a change to a real of the code of the wires goes, at 7, where the waves differ
abbrev at_7 : List Piece
at_7 = declared ++ at 0 gap ∷ low gap ∷ at 7 gap ∷ []

real_of_wires_dropped : may_be_of (at_7 ++ real_of_wires ∷ []) at_7 ≡ false
unfolding may_become changes_of_code value_from changes_from digits
real_of_wires_dropped = refl

-- ---- of the wires one is removed: the other one keeps the changes, also one that another follows at its tick

abbrev twice : List Piece
twice = declared ++ at 5 gap ∷ low gap ∷ high gap ∷ []

abbrev alias : List (Option SignalContents)
alias = None ∷ Some (signal (codes "b") (change 5 (One ∷ []) ∷ [])) ∷ []

abbrev becomes_alias : List Piece → Bool
becomes_alias text = may_become (may_go (state_of_pieces 8 twice) alias) (may_be_put_in (state_of_pieces 8 twice) alias
    (signal (codes "b") (change 5 (One ∷ []) ∷ []) ∷ [])) (initial_state 8) 0 twice (drop 1 declared ++ at 5 gap ∷ text)

alias_stands : becomes_alias (low gap ∷ high gap ∷ []) ≡ true
unfolding may_become changes_of_code value_from changes_from digits
alias_stands = refl

change_dropped : becomes_alias (high gap ∷ []) ≡ false
unfolding may_become changes_of_code value_from changes_from digits
change_dropped = refl

-- ---- the ticks from 5 to 7 are cut out

abbrev cut : ℕ → Bool
cut = is_in_cut 5 8

-- the real stands at tick 5, which was 8
real_dropped : AreRetimed cut (state_of_pieces 8 file) file (declared ++ at 0 gap ∷ low gap ∷ comment gap ∷ at 6 gap
    ∷ []) → ⊥
unfolding changes_at_ticks last_ones new_tick digits
real_dropped are = let never : [] ≡ real gap ∷ [] = are.changes 8 refl in absurd (cc)

-- the comment stands before tick 6, which was 9
comment_late : AreRetimed (is_in_cut 1 3) (state_of_pieces 8 file) file (declared ++ at 0 gap ∷ low gap ∷ at 3 gap
    ∷ real gap ∷ at 7 gap ∷ comment gap ∷ []) → ⊥
unfolding ticks_of_others new_tick digits
comment_late are = false≢true are.ticks
