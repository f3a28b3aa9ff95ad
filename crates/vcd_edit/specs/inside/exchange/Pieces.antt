-- How a piece and a range of a wave are exchanged: what must hold before, and what holds after.
use Rattle.std.specs.Prelude.{◌≡◌, ℕ, ◌+◌, ◌-◌, ◌^◌, ◌<◌, ◌≤◌, neg_ℤ, List, [], ◌∷◌, length, take}
use Rattle.std.specs.Prelude.{drop, map, slice_index_or, All, Option, Some, None, false, vec_len}
use Rattle.std.specs.Prelude.{vec_capacity}
use Rattle.vcd_core.specs.declared.wave.Change.{Change}
use Rattle.vcd_core.specs.declared.capture.Signal.{Signal}
use Rattle.vcd_core.specs.declared.capture.TheConstants.{END_LIMIT}
use Rattle.vcd_core.specs.Contents.{Contents, signal_at}
use Rattle.vcd_core.specs.WaveView.{WaveView}
use Rattle.vcd_core.specs.Wave.{IsWave}
use Rattle.vcd_core.specs.Splice.{AllTicksFit}
use Rattle.vcd_edit.specs.declared.record.Piece.{Piece}
use Rattle.vcd_edit.specs.RecordView.{PieceView}
use Rattle.vcd_edit.specs.AppliedRecords.{changes_with_piece, with_piece, with_pieces, RiseFrom}
use Rattle.vcd_edit.specs.Records.{piece_view}
use Rattle.vcd_edit.specs.Touched.{touched_count}

-- ---- one wave

-- what a splice needs: the range lies within the changes, the result is a wave, and ticks are small
pub record PieceReady (width : ℕ) (cs : List Change) (p : PieceView) : Type 0 where
  pub ordered : p.from ≤ p.to
  pub within : p.to ≤ length cs
  pub ticks : AllTicksFit p.by (drop p.to cs)
  pub form : IsWave width (changes_with_piece p cs)
  pub small : All (λ c. c.tick < 2 ^ 64) p.changes
  pub upto : All (λ c. c.tick ≤ END_LIMIT) cs

-- the second piece undoes the first one on a list, and stores touched changes only
pub record IsOppositePiece (cs : List Change) (p q : PieceView) : Type 0 where
  pub signal : q.signal ≡ p.signal
  pub ordered : q.from ≤ q.to
  pub within : q.to ≤ length (changes_with_piece p cs)
  pub ticks : AllTicksFit q.by (drop q.to (changes_with_piece p cs))
  pub back : changes_with_piece q (changes_with_piece p cs) ≡ cs
  pub stored : length q.changes ≤ touched_count (neg_ℤ p.by) cs (changes_with_piece p cs)

-- ---- a capture

-- the same for a piece and its signal
pub record PieceReadyIn (c : Contents) (p : PieceView) : Type 0 where
  pub signal : p.signal < length c.signals
  pub ready : PieceReady (signal_at c p.signal).width (signal_at c p.signal).changes p

-- the pieces of the second list undo those of the first, one after another
abbrev pub AreOppositePieces : Contents → List PieceView → List PieceView → Type 0
AreOppositePieces c [] [] = Unit {0}
AreOppositePieces c [] (q ∷ qs) = ⊥
AreOppositePieces c (p ∷ ps) [] = ⊥
AreOppositePieces c (p ∷ ps) (q ∷ qs) = (p.signal < length c.signals)
    × IsOppositePiece (signal_at c p.signal).changes p q × AreOppositePieces (with_piece c p) ps qs

-- ---- room

-- the wave used if there is none
abbrev pub no_wave : WaveView
no_wave = record { width = 1; changes = []; is_shared = false; capacity = 0 }

-- the wave at a position
abbrev pub wave_at : List Signal → ℕ → WaveView
wave_at ss k = slice_index_or (map (λ s. s.wave) ss) k no_wave

-- the second wave has the width and the changes of the first, and no less room in its own list
pub record HasNoLessRoom (old new : WaveView) : Type 0 where
  pub width : new.width ≡ old.width
  pub changes : new.changes ≡ old.changes
  pub own : old.is_shared ≡ false → (new.is_shared ≡ false) × (old.capacity ≤ new.capacity)

-- the wave's own list has room for what the piece puts in
pub record HasRoomInWave (w : WaveView) (p : Piece) : Type 0 where
  pub own : w.is_shared ≡ false
  pub room : length w.changes + vec_len p.changes ≤ w.capacity + (p.to - p.from)

-- a wave that can come in the place of this one, as the piece makes it
pub record IsComing (w : WaveView) (p : Piece) (coming : WaveView) : Type 0 where
  pub width : coming.width ≡ w.width
  pub changes : coming.changes ≡ changes_with_piece (piece_view p) w.changes

-- a piece can be put into its wave without memory: by the wave that comes, or else in place
abbrev pub CanBePutIn : WaveView → Piece → Option WaveView → Type 0
CanBePutIn w p None = HasRoomInWave w p
CanBePutIn w p (Some coming) = IsComing w p coming

-- the same in a capture, and the piece has room for what it gets
pub record HasRoomForPiece (ss : List Signal) (p : Piece) (coming : Option WaveView) : Type 0 where
  pub wave : CanBePutIn (wave_at ss p.signal) p coming
  pub piece : p.to - p.from ≤ vec_capacity p.changes

-- the same for each piece at indexes `from` to before `to`
abbrev pub HaveRoom : List Signal → List Piece → List (Option WaveView) → ℕ → ℕ → Type 0
HaveRoom ss ps comings from to = (k : ℕ) (d : Piece) → from ≤ k → k < to
    → HasRoomForPiece ss (slice_index_or ps k d) (slice_index_or comings k None)

-- ---- the exchange so far

-- the first i pieces were put in and now undo that; the later ones are unchanged, and ready
pub record ExchangedSoFar (before : Contents) (old : List Piece) (i : ℕ) (new : List Piece)
    (now : Contents)
    (ss : List Signal) (comings : List (Option WaveView)) : Type 0 where
  pub rest : drop i new ≡ drop i old
  pub there : now ≡ with_pieces before (map piece_view (take i old))
  pub back : AreOppositePieces before (map piece_view (take i old)) (map piece_view (take i new))
  pub ready : All (PieceReadyIn now) (map piece_view (drop i old))
  pub rise : (k : ℕ) × RiseFrom k (map piece_view (drop i old))
  pub room : HaveRoom ss old comings i (length old)
