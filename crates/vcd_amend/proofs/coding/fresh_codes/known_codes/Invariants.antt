use Rattle.std.proofs.Common.{◌≡◌, ℕ, List, ◌||◌, map, take}
use Rattle.std.specs.Prelude.{bytes_eq, is_some}
use Rattle.vcd_text.specs.Items.{end_word}
use Rattle.vcd_amend.specs.Amendment.{first_with_code}
use Rattle.vcd_amend.specs.DeclaredVariables.{declaration_of_variable}
use Rattle.vcd_amend.specs.inside.coding.Codes.{has_code}
use Rattle.vcd_amend.proofs.coding.fresh_codes.known_codes.Given as goal

abbrev pub invariant-loop-variable : goal.invariant-loop-variable
invariant-loop-variable l = (code : List ℕ) → has_code l.known code
    ≡ (is_some (first_with_code code (map declaration_of_variable (take l.variable-index l.declared)))
    || bytes_eq code end_word)
