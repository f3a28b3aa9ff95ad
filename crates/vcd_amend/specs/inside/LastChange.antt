-- The last change up to a tick, by which values after cuts are found.
use Rattle.std.specs.Prelude.{ℕ, Bool, ◌&&◌, nat_le, if◌then◌else◌, List, [], ◌∷◌, Option, Some}
use Rattle.vcd_copy.specs.Pieces.{Piece}
use Rattle.vcd_amend.specs.Retimed.{ChangeKey, change_key, counts_with}
use Rattle.vcd_copy.specs.Ticks.{tick_after_item}

-- the last change up to a tick of those that count together with this key, among pieces that come
-- after a stamp of `now`, or else `before`
unfoldable pub last_change : (is_kept : List ℕ → Bool) → ChangeKey → (t now : ℕ)
    → (before : Option Piece) → List Piece → Option Piece
last_change is_kept key t now before [] = before
last_change is_kept key t now before (p ∷ ps) =
    last_change is_kept key t (tick_after_item now p.item)
    (if counts_with is_kept key (change_key p.item) && nat_le now t then Some p else before) ps
