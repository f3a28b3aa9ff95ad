-- The laws of a file after ticks are cut out. The project's own.
use Rattle.std.specs.Prelude.{◌≡◌, ℕ, ◌+◌, ◌-◌, ◌≤◌, ◌==◌, ◌&&◌, ◌||◌, Bool, false}
use Rattle.std.specs.Prelude.{nat_lt, nat_le, if◌then◌else◌, List, [], ◌∷◌, ◌++◌, map}
use Rattle.std.specs.Prelude.{not, Option, Some, None, is_some, IsTrue, count_by}
use Rattle.std.specs.List.{flat_map, filter, list_any}
use Rattle.std.specs.Cmp.Lexicographic.{pointwise}
use Rattle.vcd_text.specs.Items.{Item, stamp}
use Rattle.vcd_text.specs.Grammar.{ParseState, initial_state}
use Rattle.vcd_text.specs.Grammar.{AllowsAll, is_skipped}
use Rattle.vcd_text.specs.Meaning.{FileMeans, meaning}
use Rattle.vcd_copy.specs.Pieces.{Piece, IsCut, state_of_pieces}
use Rattle.vcd_copy.specs.Ticks.{tick_after_item}
use Rattle.vcd_amend.specs.Retimed.{new_tick, AreOldTicks, ChangeKey, change_key, code_of_key}
use Rattle.vcd_amend.specs.Retimed.{has_kept_variable, counts_with, lasts, retimed_pieces}
use Rattle.vcd_amend.specs.Retimed.{retimed_contents}

-- ---- cuts

-- whether a tick is cut out, if those from `from` to before `to` are
abbrev pub is_in_cut : (from to : ℕ) → ℕ → Bool
is_in_cut from to t = nat_le from t && nat_lt t to

-- the tick before that cut
abbrev pub tick_before_cut : (from to : ℕ) → ℕ → ℕ
tick_before_cut from to t = if nat_lt t from then t else t + (to - from)

-- whether a tick is cut out, if some are, and then others, which are counted without these
abbrev pub is_in_either : (first later : ℕ → Bool) → ℕ → Bool
is_in_either first later t = first t || later (new_tick first t)

-- the ticks that one cut leaves, those that cuts after others leave, and their new ticks
abbrev pub CutsLeaveTicks : Type 0
CutsLeaveTicks =
    ((from to : ℕ) → from ≤ to → AreOldTicks (is_in_cut from to) (tick_before_cut from to))
    × ((from to end : ℕ) → from ≤ to → to ≤ end
    → (is_in_cut from to end ≡ false) × (new_tick (is_in_cut from to) end ≡ end - (to - from)))
    × ((first later : ℕ → Bool) (t : ℕ)
    → new_tick (is_in_either first later) t ≡ new_tick later (new_tick first t))
    × ((first later : ℕ → Bool) (old older : ℕ → ℕ) → AreOldTicks first older
    → AreOldTicks later old → AreOldTicks (is_in_either first later) (λ t. older (old t)))

-- ---- one file

-- an accepted file of these pieces, of which no cut takes out the end
pub record CanBeRetimed (is_cut_out : ℕ → Bool) (old_tick : ℕ → ℕ) (limit : ℕ) (file : List ℕ)
    (pieces : List Piece) (tail : List ℕ) : Type 0 where
  pub ticks : AreOldTicks is_cut_out old_tick
  pub cut : IsCut file pieces tail
  pub allowed : AllowsAll (initial_state limit) (map (λ p. p.item) pieces)
  pub in_body : IsTrue (state_of_pieces limit pieces).in_body
  pub end : is_cut_out (state_of_pieces limit pieces).tick ≡ false

-- the pieces of the file after the cuts
abbrev pub pieces_after : (is_cut_out : ℕ → Bool) → (limit : ℕ) → List Piece → List Piece
pieces_after is_cut_out limit pieces = retimed_pieces is_cut_out (initial_state limit) [] pieces

-- the bytes of pieces, and of white space after them
abbrev pub bytes_of : List Piece → (tail : List ℕ) → List ℕ
bytes_of pieces tail = flat_map (λ p. p.space ++ p.body) pieces ++ tail

-- ---- the meaning

-- these pieces are cut from their bytes and accepted, and mean what a state means at the new ticks,
-- with as many variables skipped
pub record MeansRetimed (is_cut_out : ℕ → Bool) (old_tick : ℕ → ℕ) (limit : ℕ) (s : ParseState)
    (pieces : List Piece) (tail : List ℕ) : Type 0 where
  pub cut : IsCut (bytes_of pieces tail) pieces tail
  pub allowed : AllowsAll (initial_state limit) (map (λ p. p.item) pieces)
  pub in_body : IsTrue (state_of_pieces limit pieces).in_body
  pub means : meaning (state_of_pieces limit pieces)
      ≡ retimed_contents is_cut_out old_tick (meaning s)
  pub left_out : count_by is_skipped (state_of_pieces limit pieces).declared
      ≡ count_by is_skipped s.declared

-- the file after cuts means the capture after them
abbrev pub RetimedFileMeansRetimedCapture : Type 0
RetimedFileMeansRetimedCapture =
    (is_cut_out : ℕ → Bool) (old_tick : ℕ → ℕ) (limit : ℕ) (file : List ℕ) (pieces : List Piece)
    (tail : List ℕ) → CanBeRetimed is_cut_out old_tick limit file pieces tail
    → MeansRetimed is_cut_out old_tick limit (state_of_pieces limit pieces)
    (pieces_after is_cut_out limit pieces) tail

-- and so do its bytes
abbrev pub RetimedTextMeansRetimedCapture : Type 0
RetimedTextMeansRetimedCapture =
    (is_cut_out : ℕ → Bool) (old_tick : ℕ → ℕ) (limit : ℕ) (file : List ℕ) (pieces : List Piece)
    (tail : List ℕ) → CanBeRetimed is_cut_out old_tick limit file pieces tail
    → FileMeans limit (bytes_of (pieces_after is_cut_out limit pieces) tail)
    (retimed_contents is_cut_out old_tick (meaning (state_of_pieces limit pieces)))
    (count_by is_skipped (state_of_pieces limit pieces).declared)

-- ---- the order of changes

-- the changes at the ticks of a test, among pieces that come after a stamp of `now`
unfoldable pub changes_at_ticks : (is_at : ℕ → Bool) → (now : ℕ) → List Piece → List Piece
changes_at_ticks is_at now [] = []
changes_at_ticks is_at now (p ∷ ps) =
    (if is_some (change_key p.item) && is_at now then p ∷ [] else [])
    ++ changes_at_ticks is_at (tick_after_item now p.item) ps

-- whether a change counts together with those of a key
abbrev pub is_key_of : (is_kept : List ℕ → Bool) → Option ChangeKey → Piece → Bool
is_key_of is_kept None p = false
is_key_of is_kept (Some key) p = counts_with is_kept key (change_key p.item)

-- the pieces that count together neither with a later one, nor with one of these
unfoldable pub last_ones : (is_kept : List ℕ → Bool) → List Piece → (later : List Piece)
    → List Piece
last_ones is_kept [] later = []
last_ones is_kept (p ∷ ps) later =
    if list_any (is_key_of is_kept (change_key p.item)) (ps ++ later)
    then last_ones is_kept ps later else p ∷ last_ones is_kept ps later

-- whether a change lasts
abbrev pub lasts_with : ParseState → Option ChangeKey → Bool
lasts_with s None = false
lasts_with s (Some key) = lasts s (code_of_key key)

-- ---- all else

-- whether an item is neither a stamp nor a change
abbrev pub is_neither : Item → Bool
is_neither (stamp digits) = false
is_neither item = not (is_some (change_key item))

-- the ticks of those that are neither, among pieces that come after a stamp of `now`
unfoldable pub ticks_of_others : (now : ℕ) → List Piece → List ℕ
ticks_of_others now [] = []
ticks_of_others now (p ∷ ps) = (if is_neither p.item then now ∷ [] else [])
    ++ ticks_of_others (tick_after_item now p.item) ps

-- ---- what stands, and at which tick

-- what cuts make of pieces of a file with this state
pub record AreRetimed (is_cut_out : ℕ → Bool) (s : ParseState) (pieces after : List Piece) : Type 0
  where
    -- at the new tick of each tick that is left its changes stand, in their order, and after them
    -- those at the ticks before it that are cut out, if they last and count together with no later
    -- one
    pub changes : (t : ℕ) → is_cut_out t ≡ false →
        let here : List Piece = changes_at_ticks (λ u. u == t) 0 pieces in
        changes_at_ticks (λ u. u == new_tick is_cut_out t) 0 after
        ≡ here ++ last_ones (has_kept_variable s)
        (filter (λ p. lasts_with s (change_key p.item)) (changes_at_ticks (λ u. is_cut_out u
        && (new_tick is_cut_out u == new_tick is_cut_out t)) 0 pieces)) here
    -- what is neither a stamp nor a change stands, in order, at its new tick if its tick is left
    pub others : filter (λ p. is_neither p.item) after ≡ filter (λ p. is_neither p.item) pieces
    pub ticks : IsTrue (pointwise (λ t u. is_cut_out t || (u == new_tick is_cut_out t))
        (ticks_of_others 0 pieces) (ticks_of_others 0 after))

-- the pieces after cuts are such
abbrev pub PiecesAfterCutsAreRetimed : Type 0
PiecesAfterCutsAreRetimed =
    (is_cut_out : ℕ → Bool) (old_tick : ℕ → ℕ) (limit : ℕ) (file : List ℕ) (pieces : List Piece)
    (tail : List ℕ) → CanBeRetimed is_cut_out old_tick limit file pieces tail
    → AreRetimed is_cut_out (state_of_pieces limit pieces) pieces
    (pieces_after is_cut_out limit pieces)
