-- Which variables are kept, as they are declared.
use Rattle.std.specs.Prelude.{◌≡◌, List, map, filter}
use Rattle.vcd_text.specs.Grammar.{VariableDeclaration}
use Rattle.vcd_part.specs.declared.choice.VariableChoice.{VariableChoice}
use Rattle.vcd_part.specs.declared.request.Request.{Request}
use Rattle.vcd_text.specs.AsDeclared.{declared_name}
use Rattle.vcd_part.specs.Requests.{removes}
use Rattle.vcd_part.specs.PartPieces.{kept_count, all_count}
use Rattle.vcd_part.specs.WrittenPart.{named_variable, is_kept_event}
use Rattle.vcd_part.specs.inside.Patterns.{HaveMet}
use Rattle.vcd_part.specs.inside.ScopePaths.{AreScopes}

-- of a request these declarations were noted
pub record HasNoted (c : VariableChoice) (r : Request)
    (declared : List VariableDeclaration) : Type 0
  where
    pub keep_is : c.keep.patterns ≡ r.keep
    pub remove_is : c.remove.patterns ≡ r.remove
    pub keep_met : HaveMet c.keep (map declared_name declared)
    pub remove_met : HaveMet c.remove (map declared_name declared)
    pub kept : c.kept ≡ kept_count r declared
    pub all : c.all ≡ all_count declared
    pub scopes : AreScopes c.scopes r declared
    pub events : c.events.items ≡ map named_variable (filter (is_kept_event r) declared)
    pub removed : c.removed.items ≡ map named_variable (filter (removes r) declared)
