-- The names so far are noted.
use Rattle.std.proofs.Common.{◌≡◌, ◌++◌, ℕ, List, true, map, take}
use Rattle.vcd_part.specs.Requests.{meets_one, texts as patterns_of}
use Rattle.vcd_part.specs.inside.Patterns.{HaveMet}
use Rattle.vcd_compare.specs.inside.Pairing.{texts}
use Rattle.vcd_compare.proofs.matching.note_all.Given as goal

abbrev pub invariant-loop-name : goal.invariant-loop-name
invariant-loop-name l = record {
  meets : l.meets.items
      ≡ map (meets_one true (patterns_of l.initial.patterns.patterns)) (texts (take l.name-index l.names));
  met : (before : List (List ℕ)) → HaveMet l.initial.patterns before
      → HaveMet l.patterns (before ++ texts (take l.name-index l.names));
  same : l.patterns.patterns ≡ l.initial.patterns.patterns;
}
