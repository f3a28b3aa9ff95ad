-- Worked cases: pieces that no part of a file has, each refused by what is said of those that stand.
use Rattle.std.proofs.Common.{◌≡◌, refl, ap, arith}
use Rattle.std.specs.Prelude.{ℕ, ◌+◌, get_or, List, [], ◌∷◌, ◌++◌, codes}
use Rattle.std.specs.Fmt.{digits}
use Rattle.vcd_core.specs.Names.{name_in}
use Rattle.vcd_text.specs.Items.{variable, end_definitions, stamp, real_or_string, other}
use Rattle.vcd_text.specs.Grammar.{VariableDeclaration}
use Rattle.vcd_copy.specs.Pieces.{Piece}
use Rattle.vcd_part.specs.PartPieces.{each_once, last_such, comment_piece}
use Rattle.vcd_part.specs.StandsInPart.{StandInPart, with_ticks, pieces_up_to}
use Rattle.vcd_part.proofs.worked.LeftOutEvents.{all_from, window_from}

abbrev line : List ℕ
line = 10 ∷ []

abbrev at : ℕ → Piece
at tick = record { item = stamp ((48 + tick) ∷ []); space = line; body = 35 ∷ (48 + tick) ∷ [] }

abbrev real : List ℕ → Piece
real value = record { item = real_or_string 114 value (codes "r"); space = line; body = 114 ∷ value ++ codes " r" }

abbrev remark : Piece
remark = record { item = other (codes "$comment") (codes "x" ∷ []); space = line; body = codes "$comment x $end" }

abbrev declared : List VariableDeclaration
declared = record { scopes = []; kind = codes "real"; size = 64; code = codes "r"; words = codes "r" ∷ [] } ∷ []

abbrev real_variable : Piece
real_variable = record {
  item = variable (codes "real" ∷ codes "64" ∷ codes "r" ∷ codes "r" ∷ []);
  space = [];
  body = codes "$var real 64 r r $end";
}

abbrev ended : Piece
ended = record { item = end_definitions; space = line; body = codes "$enddefinitions $end" }

-- a real at 0, at 5 and at 7, and a comment at 7
abbrev file : List Piece
file = real_variable ∷ ended ∷ at 0 ∷ real (codes "1") ∷ at 5 ∷ real (codes "2") ∷ at 7 ∷ real (codes "3") ∷ remark
    ∷ at 9 ∷ []

-- these pieces are a part from tick 5 on
abbrev IsPartFrom5 : List Piece → Type 0
IsPartFrom5 pieces = StandInPart (all_from 5) (window_from 5) declared file
    (real_variable ∷ comment_piece (window_from 5) 1 1 line ∷ ended ∷ pieces)

stands : IsPartFrom5 (at 0 ∷ real (codes "2") ∷ at 2 ∷ real (codes "3") ∷ remark ∷ at 4 ∷ [])
unfolding with_ticks pieces_up_to each_once last_such name_in digits
stands = record {
  changes = refl;
  first = [];
  later = (2, remark) ∷ [];
  space = line;
  others = refl;
  others_in_part = refl;
}

-- the tick of the second of these pieces, and the second byte of the first
abbrev second_tick : List (ℕ × Piece) → ℕ
second_tick (q ∷ p ∷ ps) = p.0
second_tick ps = 0

abbrev first_digit : List (ℕ × Piece) → ℕ
first_digit [] = 0
first_digit (q ∷ ps) = get_or q.1.body 1 0

not_0_but_2 : ◌≡◌ {A = ℕ} 0 2 → ⊥
not_0_but_2 same = absurd (omega (arith, same))

not_3_but_2 : ◌≡◌ {A = ℕ} 3 2 → ⊥
not_3_but_2 same = absurd (omega (arith, same))

not_1_but_2 : ◌≡◌ {A = ℕ} 49 50 → ⊥
not_1_but_2 same = absurd (omega (arith, same))

-- the real of tick 7 is left out
real_dropped : IsPartFrom5 (at 0 ∷ real (codes "2") ∷ at 2 ∷ remark ∷ at 4 ∷ []) → ⊥
unfolding with_ticks pieces_up_to each_once last_such name_in digits
real_dropped are = not_0_but_2 (ap second_tick are.changes)

-- it stands at tick 3, which was 8
real_moved : IsPartFrom5 (at 0 ∷ real (codes "2") ∷ at 2 ∷ remark ∷ at 3 ∷ real (codes "3") ∷ at 4 ∷ []) → ⊥
unfolding with_ticks pieces_up_to each_once last_such name_in digits
real_moved are = not_3_but_2 (ap second_tick are.changes)

-- the value at tick 5 is that of tick 0
old_value : IsPartFrom5 (at 0 ∷ real (codes "1") ∷ at 2 ∷ real (codes "3") ∷ remark ∷ at 4 ∷ []) → ⊥
unfolding with_ticks pieces_up_to each_once last_such name_in digits
old_value are = not_1_but_2 (ap first_digit are.changes)

-- the comment of tick 7 is left out
comment_dropped : IsPartFrom5 (at 0 ∷ real (codes "2") ∷ at 2 ∷ real (codes "3") ∷ at 4 ∷ []) → ⊥
unfolding with_ticks pieces_up_to each_once last_such name_in digits
comment_dropped are = two_at_least are.first are.later are.others are.others_in_part
  where
    two_at_least : (first later : List (ℕ × Piece)) → (2, remark) ∷ [] ≡ first ++ later
        → (0, comment_piece (window_from 5) 1 1 line) ∷ []
        ≡ first ++ (0, comment_piece (window_from 5) 1 1 are.space) ∷ later → ⊥
    two_at_least [] later others in_part = absurd (cc)
    two_at_least (q ∷ []) later others in_part = absurd (cc)
    two_at_least (q ∷ s ∷ first) later others in_part = absurd (cc)
