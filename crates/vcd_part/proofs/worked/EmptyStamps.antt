-- Worked cases: pieces without the stamps at whose tick nothing is.
use Rattle.std.proofs.Common.{◌≡◌, refl}
use Rattle.std.specs.Prelude.{ℕ, List, [], ◌∷◌, codes}
use Rattle.vcd_text.specs.Items.{stamp, scalar, other}
use Rattle.vcd_copy.specs.Pieces.{Piece}
use Rattle.vcd_part.specs.PartPieces.{without_empty_stamps}

-- a stamp on a line of its own
abbrev at : List ℕ → Piece
at digits = record { item = stamp digits; space = 10 ∷ []; body = 35 ∷ digits }

abbrev rises : Piece
rises = record { item = scalar 49 (codes "!"); space = 10 ∷ []; body = codes "1!" }

abbrev remark : Piece
remark = record {
  item = other (codes "$comment") (codes "x" ∷ []);
  space = 32 ∷ [];
  body = codes "$comment x $end";
}

-- stamps before a change go, but for the one of tick 0; of those after it the last one stays
last_ones_stay : without_empty_stamps (at (codes "0") ∷ at (codes "5") ∷ at (codes "7") ∷ rises ∷ at (codes "9")
    ∷ at (codes "12") ∷ []) ≡ at (codes "0") ∷ at (codes "7") ∷ rises ∷ at (codes "12") ∷ []
unfolding without_empty_stamps
last_ones_stay = refl

-- of two of one tick one goes, and a comment keeps the stamp before it
remark_keeps_its_stamp : without_empty_stamps (at (codes "3") ∷ at (codes "3") ∷ remark ∷ at (codes "4") ∷ rises ∷ [])
    ≡ at (codes "3") ∷ remark ∷ at (codes "4") ∷ rises ∷ []
unfolding without_empty_stamps
remark_keeps_its_stamp = refl
