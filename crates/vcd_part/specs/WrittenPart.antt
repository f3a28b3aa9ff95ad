-- What there is to say of a part beside its text: the project's own.
use Rattle.std.specs.Prelude.{ℕ, ◌&&◌, ◌==◌, Bool, not, nat_lt, nat_le, List, [], map, filter}
use Rattle.std.specs.Prelude.{length, bytes_eq, codes}
use Rattle.std.specs.List.{join_with_byte}
use Rattle.vcd_core.specs.Names.{scope_text}
use Rattle.vcd_core.specs.Word.{is_one_of}
use Rattle.vcd_core.specs.declared.capture.ScopeName.{ScopeName}
use Rattle.vcd_core.specs.declared.capture.TheConstants.{END_LIMIT}
use Rattle.vcd_text.specs.AsDeclared.{declared_name}
use Rattle.vcd_copy.specs.Copied.{is_comment_or_other}
use Rattle.vcd_text.specs.Grammar.{ParseState, VariableDeclaration}
use Rattle.vcd_copy.specs.Pieces.{Piece}
use Rattle.vcd_text.specs.declared.reading.choice.TickRange.{TickRange}
use Rattle.vcd_part.specs.declared.written_part.WrittenPart.{WrittenPart}
use Rattle.vcd_part.specs.declared.named_variable.NamedVariable.{NamedVariable}
use Rattle.vcd_part.specs.declared.request.Request.{Request}
use Rattle.vcd_part.specs.Requests.{keeps, removes}
use Rattle.vcd_part.specs.PartPieces.{is_used, each_once, bounded_count, lasting_codes}

-- whether a capture with this end ends before the last tick of a window; one that no capture has
-- asks for all up to the end
abbrev pub ends_early : TickRange → (end : ℕ) → Bool
ends_early w end = nat_lt end w.last && nat_le w.last END_LIMIT

-- the variables to remove whose code a kept one has: under that code the part still shows them
abbrev pub still_shown : Request → List VariableDeclaration → List VariableDeclaration
still_shown r declared = filter (λ d. removes r d && is_used r declared d.code) declared

-- a variable by its full name and its code
abbrev pub named_variable : VariableDeclaration → NamedVariable
named_variable d = record { name = declared_name d; code = d.code }

-- how many of the pieces are comments of the declarations or other commands, which stay as they are
abbrev pub comment_count : List Piece → ℕ
comment_count pieces =
    bounded_count (length (filter (λ p. is_comment_or_other p.item) pieces))

-- the path of scopes, outermost first: their names, joined by `.` (46)
abbrev pub joined_names : List ScopeName → List ℕ
joined_names scopes = join_with_byte 46 (map scope_text scopes)

-- the paths of the scopes of variables; one outside all scopes has none
abbrev pub scope_paths : List VariableDeclaration → List (List ℕ)
scope_paths declared =
    map (λ d. joined_names d.scopes) (filter (λ d. not (length d.scopes == 0)) declared)

-- the scopes of variables that are left out, each once, without those that have a kept one
abbrev pub emptied_scopes : Request → List VariableDeclaration → List (List ℕ)
emptied_scopes r declared =
    filter (λ path. not (is_one_of (scope_paths (filter (keeps r) declared)) path))
    (each_once [] (scope_paths (filter (λ d. not (keeps r d)) declared)))

-- whether a variable is an event that is kept
abbrev pub is_kept_event : Request → VariableDeclaration → Bool
is_kept_event r d = keeps r d && bytes_eq d.kind (codes "event")

-- whether what a code has at the first tick of a window is left out: the window begins after tick
-- 0, and no kept variable but an event has the code, so that nothing of it lasts
abbrev pub is_left_out_at_first : Request → TickRange → List VariableDeclaration
    → (code : List ℕ) → Bool
is_left_out_at_first r w declared code =
    nat_lt 0 w.first && not (is_one_of (lasting_codes r declared) code)

-- the variables of kept events that are left out at the first tick of the window
abbrev pub events_left_out_at_first : Request → TickRange → List VariableDeclaration
    → List VariableDeclaration
events_left_out_at_first r w declared =
    filter (λ d. is_kept_event r d && is_left_out_at_first r w declared d.code) declared

-- what there is to say of the part of a file of these pieces, which ends with this state, for this
-- window
abbrev pub written_part : Request → List Piece → ParseState → TickRange → WrittenPart
written_part r pieces s w = record {
  end = s.tick;
  ends_early = ends_early w s.tick;
  still_shown = map named_variable (still_shown r s.declared);
  comments = comment_count pieces;
  emptied_scopes = emptied_scopes r s.declared;
  events_left_out_at_first = map named_variable (events_left_out_at_first r w s.declared);
}
