-- Worked cases: what is heard of changes of kept and of skipped variables.
use Rattle.std.proofs.Common.{◌≡◌, true, refl}
use Rattle.std.specs.Prelude.{ℕ, List, [], ◌∷◌, codes}
use Rattle.vcd_text.specs.Items.{stamp, scalar, vector, real_or_string}
use Rattle.vcd_text.specs.Grammar.{VariableDeclaration, ParseState, initial_state}
use Rattle.vcd_text.specs.HeardChanges.{HeardChange, first_with, heard_of, heard_all}
use Rattle.vcd_text.specs.declared.reading.heard_changes.ChangeTarget.{ChangeTarget}
use Rattle.vcd_text.specs.declared.reading.heard_changes.ChangeTarget.TheVariants.{Kept, Skipped}

abbrev declared : (kind : List ℕ) → (size : ℕ) → (code : List ℕ) → VariableDeclaration
declared kind size code = record { scopes = []; kind = kind; size = size; code = code; words = code ∷ [] }

-- a wire, and variables that are skipped: two reals of one code, a wide wire, and an event
abbrev begun : ParseState
begun = record (initial_state 9) {
  in_body = true;
  declared = declared (codes "real") 64 (codes "r") ∷ declared (codes "wire") 1 (codes "!")
      ∷ declared (codes "real") 64 (codes "r") ∷ declared (codes "wire") 2000 (codes "w")
      ∷ declared (codes "event") 1 (codes "e") ∷ [];
}

abbrev at_five : ChangeTarget → (text : List ℕ) → HeardChange
at_five target text = record { tick = 5; target = target; text = text }

-- of a real number its whole word is heard, of any digits these alone
all_are_heard : heard_all begun (stamp (codes "5") ∷ scalar 49 (codes "!")
    ∷ real_or_string 114 (codes "2.5") (codes "r") ∷ vector 98 (codes "1x") (codes "w") ∷ scalar 49 (codes "e") ∷ [])
    ≡ at_five (Kept 0) (codes "1") ∷ at_five (Skipped 0) (codes "r2.5") ∷ at_five (Skipped 2) (codes "1x")
    ∷ at_five (Skipped 3) (codes "1") ∷ []
unfolding heard_all first_with
all_are_heard = refl

-- a real number sets no wire
none_of_a_wire : heard_of begun (real_or_string 114 (codes "1") (codes "!")) ≡ []
none_of_a_wire = refl
