-- Which signals of the first capture edits leave, and where they stand. The project's own.
use Rattle.std.specs.Prelude.{ℕ, suc, ◌≡◌, nat_lt, if◌then◌else◌, List, [], ◌∷◌, length}
use Rattle.std.specs.Prelude.{Option, Some, None}
use Rattle.std.specs.List.{range_with_len, remove, slice_get}
use Rattle.vcd_core.specs.Contents.{Contents}
use Rattle.vcd_edit.specs.declared.edit.Edit.{Edit}
use Rattle.vcd_edit.specs.declared.edit.Edit.TheVariants.{Remove}
use Rattle.vcd_core.specs.SignalOrigins.{RiseWithin, ComeFrom}
use Rattle.vcd_journal.specs.History.{replay}

-- the positions, in a first capture of `count` signals, of those that edits leave, in the order in
-- which they stand; derived signals stand after all of them
unfoldable pub origins : (count : ℕ) → List Edit → List ℕ
origins count [] = range_with_len 0 count
origins count (Remove k ∷ es) = remove (origins count es) k
origins count (e ∷ es) = origins count es

-- the position in the first capture of the signal that edits leave at a position; none for a
-- derived one, or if there is none
unfoldable pub origin : (count : ℕ) → List Edit → ℕ → Option ℕ
origin count [] k = if nat_lt k count then Some k else None
origin count (Remove j ∷ es) k = origin count es (if nat_lt k j then k else suc k)
origin count (e ∷ es) k = origin count es k

-- ---- the laws

-- origins rise within the first capture
abbrev pub OriginsRise : Type 0
OriginsRise = (count : ℕ) (es : List Edit) → RiseWithin 0 count (origins count es)

-- the origin of one position needs no list
abbrev pub OriginIsInList : Type 0
OriginIsInList =
    (count : ℕ) (es : List Edit) (k : ℕ) → origin count es k ≡ slice_get (origins count es) k

-- the first signals after edits come from the origins: their scopes, kinds and widths are the same
abbrev pub SignalsComeFromOrigins : Type 0
SignalsComeFromOrigins =
    (c : Contents) (es : List Edit)
    → ComeFrom c (origins (length c.signals) es) (replay c es).signals
