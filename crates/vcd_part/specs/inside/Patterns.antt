-- Patterns, and which of them names have met.
use Rattle.std.specs.Prelude.{◌≡◌, ℕ, List, [], map}
use Rattle.std.specs.Option.{unwrap_or}
use Rattle.std.specs.List.{list_any}
use Rattle.vcd_part.specs.Pattern.{meets}
use Rattle.vcd_part.specs.Requests.{texts}
use Rattle.vcd_part.specs.declared.patterns.Patterns.{Patterns}

-- of each pattern it is noted whether one of these names has met it
abbrev pub HaveMet : Patterns → (names : List (List ℕ)) → Type 0
HaveMet p names =
    p.met.items ≡ map (λ pattern. list_any (meets pattern) names) (unwrap_or (texts p.patterns) [])
