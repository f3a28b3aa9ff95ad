-- The count of comments and other commands, after a piece more.
use Rattle.std.proofs.Common.{◌≡◌, ◌+◌, ℕ, Bool, true, false, List, [], ◌∷◌, ◌++◌, refl, if◌then◌else◌}
use Rattle.vcd_text.specs.Items.{Item, entry, timescale, scope, upscope, variable, end_definitions, stamp, scalar}
use Rattle.vcd_text.specs.Items.{vector, real_or_string, dump_word, other}
use Rattle.vcd_copy.specs.Pieces.{Piece}
use Rattle.vcd_copy.specs.Copied.{may_be_amended, is_comment_or_other}
use Rattle.vcd_part.specs.PartPieces.{bounded_count}
use Rattle.vcd_part.specs.WrittenPart.{comment_count}
use Rattle.vcd_part.proofs.choice.NotedVariables.{one_counted, not_counted}

-- what may be amended is none
no_comment : (i : Item) → may_be_amended i ≡ true → false ≡ is_comment_or_other i
no_comment (variable words) is = refl
no_comment end_definitions is = refl
no_comment (stamp digits) is = refl
no_comment (scalar digit code) is = refl
no_comment (vector first digits code) is = refl
no_comment (real_or_string first text code) is = refl
no_comment (timescale words) is = refl
no_comment (scope kind words) is = refl
no_comment upscope is = refl
no_comment (dump_word word) is = refl
no_comment (entry kind words) is = absurd (cc)
no_comment (other word words) is = absurd (cc)

-- one that is passed over
pub counted_passed : (n : ℕ) (counts : Bool) (before : List Piece) (p : Piece) → counts ≡ is_comment_or_other p.item
    → n ≡ comment_count before → bounded_count (if counts then n + 1 else n) ≡ comment_count (before ++ p ∷ [])
counted_passed n counts before p is so = one_counted (λ (q : Piece). is_comment_or_other q.item) before p n counts so is

-- one that may be amended
pub counted_amended : (n : ℕ) (before : List Piece) (p : Piece) → may_be_amended p.item ≡ true
    → n ≡ comment_count before → n ≡ comment_count (before ++ p ∷ [])
counted_amended n before p is so = not_counted (λ (q : Piece). is_comment_or_other q.item) before p n so
    (no_comment p.item is)
