-- Worked cases: an amended file, its bytes, and the codes that are given for another capture.
use Rattle.std.proofs.Common.{◌≡◌, refl}
use Rattle.std.specs.Prelude.{ℕ, true, List, [], ◌∷◌, ◌++◌, codes, drop, Option, Some, None, map, length, false}
use Rattle.std.specs.Fmt.{digits}
use Rattle.vcd_core.specs.declared.bit.Bit.TheVariants.{Zero, One, Z}
use Rattle.vcd_core.specs.declared.capture.ScopeName.{ScopeName}
use Rattle.vcd_core.specs.Wave.{change, value_from, changes_from}
use Rattle.vcd_core.specs.declared.wave.Change.{Change}
use Rattle.vcd_core.specs.Contents.{SignalContents}
use Rattle.vcd_text.specs.Items.{Item, scope, upscope, variable, end_definitions, stamp, scalar, vector, real_or_string}
use Rattle.vcd_text.specs.Letters.{short_form}
use Rattle.vcd_text.specs.Grammar.{ParseState, initial_state, state_after, kept_variables}
use Rattle.vcd_text.specs.Meaning.{meaning, changes_of_code}
use Rattle.vcd_copy.specs.Pieces.{Piece}
use Rattle.vcd_text.specs.Text.{code_digits}
use Rattle.vcd_amend.specs.Amendment.{Amendment, AmendedCode, stays, is_removed, is_changed}
use Rattle.vcd_amend.specs.AmendedItems.{amended_items}
use Rattle.vcd_amend.specs.AmendedMeaning.{amended_meaning}
use Rattle.vcd_amend.specs.AmendedText.{amended_text}
use Rattle.vcd_amend.specs.CodedAmendment.{CodedSignal}
use Rattle.vcd_amend.specs.WhatStands.{may_be_put_in}
use Rattle.vcd_amend.specs.GivenCodes.{coded_signals, coded_derived, coded_waves, changed_waves, amendment_for}

-- ==== an amended file whose codes keep their changes where they can

-- ---- a file: two wires with one code, one with another, and a real, which is skipped

abbrev pub top : ScopeName
top = record { kind = codes "module"; words = codes "top" ∷ [] }

abbrev pub wire : List ℕ → List ℕ → Item
wire code name = variable (codes "wire" ∷ codes "1" ∷ code ∷ name ∷ [])

abbrev real : Item
real = variable (codes "real" ∷ codes "64" ∷ codes "$" ∷ codes "r" ∷ [])

abbrev opened : Item
opened = scope (codes "module") (codes "top" ∷ [])

-- the wire c is 0, at 4 for no time 1, at 5 it is 1 and at 9 it is 0
abbrev file : List Item
file = opened ∷ wire (codes "!") (codes "a") ∷ real ∷ wire (codes "!") (codes "b") ∷ wire (codes "%") (codes "c")
    ∷ upscope ∷ end_definitions ∷ stamp (codes "0") ∷ scalar 48 (codes "!") ∷ vector 66 (codes "0") (codes "%")
    ∷ stamp (codes "4") ∷ scalar 49 (codes "%") ∷ real_or_string 114 (codes "1.5") (codes "$") ∷ scalar 48 (codes "%")
    ∷ stamp (codes "5") ∷ scalar 49 (codes "!") ∷ scalar 49 (codes "%") ∷ stamp (codes "9") ∷ scalar 48 (codes "!")
    ∷ scalar 48 (codes "%") ∷ []

abbrev begin : ParseState
begin = initial_state 8

-- ---- one tick of c is another one: one change goes, one comes, all others stand

abbrev later : AmendedCode
later = record {
  code = codes "%";
  width = 1;
  old = change 0 (Zero ∷ []) ∷ change 5 (One ∷ []) ∷ change 9 (Zero ∷ []) ∷ [];
  new = change 0 (Zero ∷ []) ∷ change 6 (One ∷ []) ∷ change 9 (Zero ∷ []) ∷ [];
}

abbrev one_tick : Amendment
one_tick = record { fates = stays ∷ stays ∷ stays ∷ []; added = []; codes = later ∷ [] }

one_tick_items : amended_items one_tick true begin file ≡ opened ∷ wire (codes "!") (codes "a") ∷ real
    ∷ wire (codes "!") (codes "b") ∷ wire (codes "%") (codes "c") ∷ upscope ∷ end_definitions ∷ stamp (codes "0")
    ∷ scalar 48 (codes "!") ∷ vector 66 (codes "0") (codes "%") ∷ stamp (codes "4") ∷ scalar 49 (codes "%")
    ∷ real_or_string 114 (codes "1.5") (codes "$") ∷ scalar 48 (codes "%") ∷ stamp (codes "5") ∷ scalar 49 (codes "!")
    ∷ stamp (codes "6") ∷ scalar 49 (codes "%") ∷ stamp (codes "9") ∷ scalar 48 (codes "!") ∷ scalar 48 (codes "%")
    ∷ []
unfolding amended_items value_from short_form digits
one_tick_items = refl

-- ---- of two wires with one code one is inverted: it gets a fresh code; the wire c is removed, and d is
-- added, with the code of c and its own wave; a change is written in the place of the first one that
-- is left out

abbrev fresh : AmendedCode
fresh = record {
  code = codes "&";
  width = 1;
  old = [];
  new = change 0 (One ∷ []) ∷ change 5 (Zero ∷ []) ∷ change 9 (One ∷ []) ∷ [];
}

abbrev taken : AmendedCode
taken = record {
  code = codes "%";
  width = 1;
  old = later.old;
  new = change 4 (Z ∷ []) ∷ [];
}

abbrev inverted : Amendment
inverted = record {
  fates = is_changed (codes "n" ∷ []) (codes "&") ∷ stays ∷ is_removed ∷ [];
  added = record { scopes = top ∷ []; kind = codes "reg"; size = 1; code = codes "%"; words = codes "d" ∷ [] } ∷ [];
  codes = fresh ∷ taken ∷ [];
}

abbrev inverted_file : List Item
inverted_file = opened ∷ wire (codes "&") (codes "n") ∷ real ∷ wire (codes "!") (codes "b") ∷ upscope ∷ opened
    ∷ variable (codes "reg" ∷ codes "1" ∷ codes "%" ∷ codes "d" ∷ []) ∷ upscope ∷ end_definitions ∷ stamp (codes "0")
    ∷ scalar 48 (codes "!") ∷ scalar 120 (codes "%") ∷ scalar 49 (codes "&")
    ∷ stamp (codes "4") ∷ scalar 122 (codes "%") ∷ real_or_string 114 (codes "1.5") (codes "$")
    ∷ stamp (codes "5") ∷ scalar 49 (codes "!") ∷ scalar 48 (codes "&") ∷ stamp (codes "9") ∷ scalar 48 (codes "!")
    ∷ scalar 49 (codes "&") ∷ []

inverted_items : amended_items inverted true begin file ≡ inverted_file
unfolding amended_items value_from short_form digits
inverted_items = refl

inverted_meaning : meaning (state_after begin inverted_file) ≡ amended_meaning inverted (state_after begin file)
unfolding changes_of_code value_from changes_from digits
inverted_meaning = refl

-- ---- the wire c is removed: its code is gone, with its changes of any form

abbrev without_c : Amendment
without_c = record { fates = stays ∷ stays ∷ is_removed ∷ []; added = []; codes = [] }

gone_items : amended_items without_c true begin (file ++ real_or_string 114 (codes "2") (codes "%") ∷ [])
    ≡ opened ∷ wire (codes "!") (codes "a") ∷ real ∷ wire (codes "!") (codes "b") ∷ upscope ∷ end_definitions
    ∷ stamp (codes "0") ∷ scalar 48 (codes "!") ∷ stamp (codes "4") ∷ real_or_string 114 (codes "1.5") (codes "$")
    ∷ stamp (codes "5") ∷ scalar 49 (codes "!") ∷ stamp (codes "9") ∷ scalar 48 (codes "!") ∷ []
unfolding amended_items value_from short_form digits
gone_items = refl

-- ---- of two wires with one code one is removed: the other one keeps the changes

abbrev without_a : Amendment
without_a = record { fates = is_removed ∷ stays ∷ stays ∷ []; added = []; codes = [] }

alias_items : amended_items without_a true begin file ≡ opened ∷ drop 2 file
unfolding amended_items value_from short_form digits
alias_items = refl

-- ---- a scope is open where the declarations end: it is closed before a variable is added

abbrev open_file : List Item
open_file = opened ∷ wire (codes "!") (codes "a") ∷ end_definitions ∷ []

abbrev with_derived : Amendment
with_derived = record {
  fates = [];
  added = record { scopes = top ∷ []; kind = codes "wire"; size = 1; code = codes "\""; words = codes "d" ∷ [] } ∷ [];
  codes = record { code = codes "\""; width = 1; old = []; new = [] } ∷ [];
}

open_scope_items : amended_items with_derived true begin open_file ≡ opened ∷ wire (codes "!") (codes "a") ∷ upscope
    ∷ opened ∷ wire (codes "\"") (codes "d") ∷ upscope ∷ end_definitions ∷ []
unfolding amended_items value_from short_form digits
open_scope_items = refl

-- ---- the first stamp is above 0, and a change is due at 0: `#0` comes before it

abbrev late_file : List Item
late_file = wire (codes "!") (codes "a") ∷ end_definitions ∷ stamp (codes "5") ∷ scalar 49 (codes "!") ∷ []

abbrev early : Amendment
early = record {
  fates = [];
  added = [];
  codes = record {
    code = codes "!";
    width = 1;
    old = change 5 (One ∷ []) ∷ [];
    new = change 0 (Zero ∷ []) ∷ change 2 (One ∷ []) ∷ [];
  } ∷ [];
}

early_items : amended_items early true begin late_file ≡ wire (codes "!") (codes "a") ∷ end_definitions
    ∷ stamp (codes "0")
    ∷ scalar 48 (codes "!") ∷ stamp (codes "2") ∷ scalar 49 (codes "!") ∷ stamp (codes "5") ∷ []
unfolding amended_items value_from short_form digits
early_items = refl

early_meaning : meaning (state_after begin (amended_items early true begin late_file))
    ≡ amended_meaning early (state_after begin late_file)
unfolding amended_items changes_of_code value_from changes_from short_form digits
early_meaning = refl

-- ==== the bytes of an amended file

abbrev pub piece : Item → (space body : List ℕ) → Piece
piece item space body = record { item = item; space = space; body = body }

-- a variable with white space of every kind: a line feed is 10, a tab 9
abbrev pieces : List Piece
pieces = piece (variable (codes "wire" ∷ codes "1" ∷ codes "!" ∷ codes "a" ∷ [])) (codes "  ")
    (codes "$var wire 1  !" ++ 9 ∷ codes "a $end")
    ∷ piece end_definitions (codes " ") (codes "$enddefinitions   $end")
    ∷ piece (scalar 48 (codes "!")) (10 ∷ 10 ∷ []) (codes "0!")
    ∷ piece (stamp (codes "07")) (10 ∷ []) (codes "#07")
    ∷ piece (scalar 49 (codes "!")) (codes " ") (codes "1!")
    ∷ piece (scalar 48 (codes "!")) (codes " ") (codes "0!") ∷ []

-- the variable has another name and another wave, and a variable is added: the `$var` keeps its white
-- space, and so does the change that is in the place of another one
abbrev amendment : Amendment
amendment = record {
  fates = is_changed (codes "name" ∷ []) (codes "!") ∷ [];
  added = record { scopes = []; kind = codes "reg"; size = 1; code = codes "\""; words = codes "b" ∷ [] } ∷ [];
  codes = record {
    code = codes "!";
    width = 1;
    old = change 0 (Zero ∷ []) ∷ [];
    new = change 0 (One ∷ []) ∷ change 4 (Zero ∷ []) ∷ change 7 (One ∷ []) ∷ [];
  } ∷ record { code = codes "\""; width = 1; old = []; new = change 7 (One ∷ []) ∷ [] } ∷ [];
}

amended_bytes : amended_text amendment true (initial_state 2) pieces (10 ∷ [])
    ≡ codes "  $var wire 1  !" ++ 9 ∷ codes "name $end" ++ codes " $var reg 1 \" b $end" ++ 10
    ∷ codes "$enddefinitions   $end" ++ 10 ∷ 10 ∷ codes "1!" ++ 10 ∷ codes "#4" ++ 10 ∷ codes "0!" ++ 10
    ∷ codes "#07" ++ codes " 1!" ++ 10 ∷ codes "1\"" ++ 10 ∷ []
unfolding amended_text value_from short_form digits
amended_bytes = refl

-- ==== the codes that are given for another capture, and the amendment for it

-- ---- three wires, two of them with one code, and a real, which is skipped

abbrev state : ParseState
state = state_after (initial_state 8) (wire (codes "!") (codes "a") ∷ variable (codes "real" ∷ codes "64"
    ∷ codes "\"" ∷ codes "r" ∷ []) ∷ wire (codes "!") (codes "b") ∷ wire (codes "%")
    (codes "c") ∷ end_definitions ∷ stamp (codes "0") ∷ scalar 48 (codes "!") ∷ scalar 49 (codes "%")
    ∷ stamp (codes "9")
    ∷ [])

abbrev pub signal : List ℕ → List Change → SignalContents
signal name changes =
    record { scopes = []; kind = codes "wire"; words = name ∷ []; width = 1; changes = changes }

abbrev low : List Change
low = change 0 (Zero ∷ []) ∷ []

abbrev high : List Change
high = change 0 (One ∷ []) ∷ []

abbrev pulse : List Change
pulse = change 0 (Zero ∷ []) ∷ change 3 (One ∷ []) ∷ []

-- the codes of what is left, and of what is derived
abbrev code_of_left : Option CodedSignal → List ℕ
code_of_left None = []
code_of_left (Some t) = t.code

abbrev left_codes : List (Option SignalContents) → List SignalContents → List (List ℕ)
left_codes remaining derived =
    map code_of_left (coded_signals state (coded_waves state remaining derived) (kept_variables state.declared)
    remaining)

abbrev derived_codes : List (Option SignalContents) → List SignalContents → List (List ℕ)
derived_codes remaining derived = map (λ t. t.code) (coded_derived (drop (length (changed_waves state remaining))
    (coded_waves state
    remaining derived)) derived)

-- both wires of one code change to one wave: they keep it
abbrev both_pulse : List (Option SignalContents)
both_pulse = Some (signal (codes "a") pulse) ∷ Some (signal (codes "b") pulse) ∷ Some (signal (codes "c") high) ∷ []

shared : left_codes both_pulse [] ≡ codes "!" ∷ codes "!" ∷ codes "%" ∷ []
unfolding changes_of_code value_from changes_from digits code_digits
shared = refl

-- one of them changes: the other one holds the code, so it gets a fresh one; so do two derived signals. No fresh code
-- is one of the file, not even that of the real
abbrev one_pulse : List (Option SignalContents)
one_pulse = Some (signal (codes "a") low) ∷ Some (signal (codes "b") pulse) ∷ Some (signal (codes "c") low) ∷ []

held : left_codes one_pulse (signal (codes "d") low ∷ signal (codes "e") low ∷ [])
    ≡ codes "!" ∷ codes "#" ∷ codes "%" ∷ []
unfolding changes_of_code value_from changes_from digits code_digits
held = refl

derived : derived_codes one_pulse (signal (codes "d") low ∷ signal (codes "e") low ∷ []) ≡ codes "$" ∷ codes "&" ∷ []
unfolding changes_of_code value_from changes_from digits code_digits
derived = refl

-- of the file's codes changes may be put in of c's alone, whose wave nothing keeps, and of fresh ones
put_in : map (λ code. may_be_put_in state one_pulse [] (scalar 48 code))
    (codes "!" ∷ codes "\"" ∷ codes "%" ∷ codes "#" ∷ []) ≡ false ∷ false ∷ true ∷ true ∷ []
unfolding changes_of_code value_from changes_from
put_in = refl

-- they change to two waves: the first one keeps the code, the other one gets a fresh code; c is removed
abbrev apart : List (Option SignalContents)
apart = Some (signal (codes "a") high) ∷ Some (signal (codes "b") pulse) ∷ None ∷ []

parted : left_codes apart [] ≡ codes "!" ∷ codes "#" ∷ [] ∷ []
unfolding changes_of_code value_from changes_from digits code_digits
parted = refl

-- ---- amendments

unchanged : amendment_for state
    (Some (signal (codes "a") low) ∷ Some (signal (codes "b") low) ∷ Some (signal (codes "c")
    high) ∷ []) [] ≡ record { fates = stays ∷ stays ∷ stays ∷ []; added = []; codes = [] }
unfolding changes_of_code value_from changes_from digits code_digits
unchanged = refl

-- a gets another name, b another wave, c is removed, and d is derived
abbrev edited : Amendment
edited = amendment_for state (Some (signal (codes "x") low) ∷ Some (signal (codes "b") pulse) ∷ None ∷ [])
    (signal (codes "d") high ∷ [])

amended : edited ≡ record {
  fates = is_changed (codes "x" ∷ []) (codes "!") ∷ is_changed (codes "b" ∷ []) (codes "#") ∷ is_removed ∷ [];
  added = record { scopes = []; kind = codes "wire"; size = 1; code = codes "$"; words = codes "d" ∷ [] } ∷ [];
  codes = record { code = codes "#"; width = 1; old = []; new = pulse }
      ∷ record { code = codes "$"; width = 1; old = []; new = high } ∷ [];
}
unfolding changes_of_code value_from changes_from digits code_digits
amended = refl
