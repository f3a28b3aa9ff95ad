-- Worked cases: the comments and the scopes that stay where variables are left out.
use Rattle.std.proofs.Common.{◌≡◌, refl}
use Rattle.std.specs.Prelude.{ℕ, List, [], ◌∷◌, codes}
use Rattle.vcd_core.specs.Names.{name_in}
use Rattle.vcd_core.specs.declared.capture.HeaderKind.TheVariants.{Date, Comment}
use Rattle.vcd_core.specs.declared.capture.ScopeName.{ScopeName}
use Rattle.vcd_text.specs.Grammar.{VariableDeclaration}
use Rattle.vcd_text.specs.Items.{Item, entry, upscope, stamp, other}
use Rattle.vcd_copy.specs.Pieces.{Piece}
use Rattle.vcd_part.specs.Pattern.{meets}
use Rattle.vcd_part.specs.PartPieces.{each_once}
use Rattle.vcd_part.specs.WrittenPart.{comment_count, emptied_scopes}
use Rattle.vcd_part.proofs.worked.StillShown.{without}

-- ---- comments

abbrev piece : Item → Piece
piece item = record { item = item; space = 10 ∷ []; body = [] }

-- a comment of the declarations counts, and one among the changes, but not a date
two_comments : comment_count (piece (entry Date []) ∷ piece (entry Comment []) ∷ piece upscope
    ∷ piece (stamp (codes "0")) ∷ piece (other (codes "$comment") []) ∷ []) ≡ 2
two_comments = refl

-- ---- scopes

abbrev scope : (name : List ℕ) → ScopeName
scope name = record { kind = codes "module"; words = name ∷ [] }

abbrev wire : List ScopeName → (name : List ℕ) → VariableDeclaration
wire scopes name = record { scopes = scopes; kind = codes "wire"; size = 1; code = codes "!"; words = name ∷ [] }

-- `a` keeps `y`, and the scope within it nothing; what is outside all scopes has no path
abbrev wires : List VariableDeclaration
wires = wire [] (codes "x") ∷ wire (scope (codes "a") ∷ []) (codes "x") ∷ wire (scope (codes "a") ∷ []) (codes "y")
    ∷ wire (scope (codes "a") ∷ scope (codes "b") ∷ []) (codes "x")
    ∷ wire (scope (codes "a") ∷ scope (codes "b") ∷ []) (codes "x") ∷ []

inner_is_emptied : emptied_scopes (without (codes "*x")) wires ≡ codes "a.b" ∷ []
unfolding meets name_in each_once
inner_is_emptied = refl
