-- Worked cases: the remarks on an output.
use Rattle.std.proofs.Common.{◌≡◌, refl}
use Rattle.std.specs.Prelude.{ℕ, true, false, List, [], ◌∷◌, ◌++◌, codes, map}
use Rattle.std.specs.Fmt.{digits}
use Rattle.vcd_core.specs.Names.{name_in}
use Rattle.vcd_text.specs.AsDeclared.{declared_name}
use Rattle.vcd_text.specs.Grammar.{VariableDeclaration}
use Rattle.vcd_amend.specs.Amendment.{Amendment, Fate, stays, is_removed, is_changed}
use Rattle.vcd_amend_run.specs.OutputRemarks.{left_apart, output_remarks, removed_remark}
use Rattle.vcd_amend.proofs.worked.AmendedFiles.{top}

abbrev variable : (kind code name : List ℕ) → VariableDeclaration
variable kind code name = record {
  scopes = top ∷ [];
  kind = kind;
  size = 1;
  code = code;
  words = name ∷ [];
}

abbrev wire : (code name : List ℕ) → VariableDeclaration
wire code name = variable (codes "wire") code name

-- two wires of the code !, two of the code ", whose first has a byte above 126 in its name, one of the code %, and two
-- events, of which one shares its code with a real
abbrev declared : List VariableDeclaration
declared = wire (codes "!") (codes "a") ∷ wire (codes "!") (codes "b") ∷ wire (codes "\"") (181 ∷ [])
    ∷ variable (codes "event") (codes "e") (codes "go") ∷ wire (codes "\"") (codes "d")
    ∷ variable (codes "event") (codes "f") (codes "stop") ∷ variable (codes "real") (codes "f") (codes "level")
    ∷ wire (codes "%") (codes "g") ∷ []

-- of the wires the first gets another code, the second keeps its own with another name, the third is removed, the
-- fourth stays, and so does not the last one
abbrev amendment : Amendment
amendment = record {
  fates = is_changed (codes "a" ∷ []) (codes "#") ∷ is_changed (codes "h" ∷ []) (codes "!") ∷ is_removed ∷ stays
      ∷ is_removed ∷ [];
  added = [];
  codes = [];
}

abbrev apart : List ℕ
apart = codes "output: variables of one code that differ from now on: top.a, top.b" ++ 10 ∷ []
    ++ codes "output: removed, but another variable of the same code stays: top.?" ++ 10 ∷ []

without_cuts : output_remarks amendment declared false ≡ apart
unfolding name_in
without_cuts = refl

with_cuts : output_remarks amendment declared true
    ≡ apart ++ codes "output: events at the ticks that are cut are left out: top.go" ++ 10 ∷ []
unfolding name_in
with_cuts = refl

-- three variables of one code, of which the first two get different codes, and two of another, which get the same
abbrev shared : List VariableDeclaration
shared = wire (codes "!") (codes "a") ∷ wire (codes "%") (codes "c") ∷ wire (codes "!") (codes "b")
    ∷ wire (codes "!") (codes "a_copy") ∷ wire (codes "%") (codes "d") ∷ []

abbrev inverted_and_shifted : Amendment
inverted_and_shifted = record {
  fates = is_changed (codes "a" ∷ []) (codes "#") ∷ is_changed (codes "c" ∷ []) (codes "&")
      ∷ is_changed (codes "b" ∷ []) (codes "$") ∷ stays ∷ is_changed (codes "d" ∷ []) (codes "&") ∷ [];
  added = [];
  codes = [];
}

all_three_differ : output_remarks inverted_and_shifted shared false
    ≡ codes "output: variables of one code that differ from now on: top.a, top.b, top.a_copy" ++ 10 ∷ []
unfolding name_in
all_three_differ = refl

-- if the third is removed, the first two still differ, and if the second is, too, none does
abbrev removed_too : (second : Fate) → Amendment
removed_too second = record {
  fates = is_changed (codes "a" ∷ []) (codes "#") ∷ stays ∷ second ∷ is_removed ∷ [];
  added = [];
  codes = [];
}

two_differ : map declared_name (left_apart (removed_too stays) shared)
    ≡ codes "top.a" ∷ codes "top.b" ∷ []
unfolding name_in
two_differ = refl

none_differs : left_apart (removed_too is_removed) shared ≡ []
none_differs = refl

-- at most five names are shown
seven_names : removed_remark (codes "a" ∷ codes "b" ∷ codes "c" ∷ codes "d" ∷ codes "e" ∷ codes "f" ∷ codes "g" ∷ [])
    ≡ codes "output: removed, but another variable of the same code stays: a, b, c, d, e, and 2 more" ++ 10 ∷ []
unfolding digits
seven_names = refl
