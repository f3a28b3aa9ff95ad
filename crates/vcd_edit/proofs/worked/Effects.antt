-- Worked cases of effects on small captures: the laws, and how many changes are touched.
use Rattle.std.proofs.Common.{◌≡◌, refl}
use Rattle.std.specs.Prelude.{ℕ, List, [], ◌∷◌, Some, None, codes, pos, negsuc}
use Rattle.std.specs.Borrow.{Bor}
use Rattle.vcd_core.specs.declared.bit.Bit.TheVariants.{Zero, One, X, Z}
use Rattle.vcd_core.specs.Wave.{value_from, changes_from}
use Rattle.vcd_core.specs.Contents.{Contents, SignalContents, signal_at}
use Rattle.vcd_edit.specs.declared.edit.Edit.TheVariants.{Rename, Remove, Invert, Shift, Cut, Force, Derive, Deglitch}
use Rattle.vcd_edit.specs.declared.edit.Rule.TheVariants.{BitOf, Xor, And}
use Rattle.vcd_edit.specs.AppliedRecords.{with_pieces, apply_record}
use Rattle.vcd_edit.specs.Effect.{effect, run_start, run_end, steady_value}
use Rattle.vcd_edit.specs.Touched.{touched_count, touched_from}
use Rattle.vcd_edit.specs.TouchedByEdit.{touched_by_edit}
use Rattle.vcd_edit.proofs.worked.Records.{from, wire, capture, alone}

-- ==== worked cases: the laws of the edits on small captures

-- ---- captures

-- bytes as a borrow of them
abbrev pub lent : List ℕ → Bor (List ℕ)
lent bytes = record { ref_ptr = (0, 0); now = bytes }

abbrev pub three_signals : Contents
three_signals = capture 4 (wire (codes "a") (from 0 Zero ∷ []) ∷ wire (codes "b") (from 0 One ∷ [])
    ∷ wire (codes "c") (from 0 Z ∷ []) ∷ [])

abbrev b : SignalContents
b = wire (codes "b") (from 0 One ∷ from 5 X ∷ [])

abbrev pub two_signals : Contents
two_signals = capture 8 (wire (codes "a") (from 0 Zero ∷ from 3 One ∷ []) ∷ b ∷ [])

-- ---- laws

-- z becomes x, the other values come back
invert_twice : effect (Invert 0) (effect (Invert 0) (alone 8 (from 0 One ∷ from 2 Z ∷ from 4 Zero ∷ [])))
    ≡ alone 8 (from 0 One ∷ from 2 X ∷ from 4 Zero ∷ [])
unfolding effect changes_from value_from
invert_twice = refl

-- 2 to 4 and 6 to 9, in either order
two_cuts : effect (Cut 4 7) (effect (Cut 2 4) (alone 10 (from 0 Zero ∷ from 3 One ∷ from 5 Zero ∷ from 8 One ∷ [])))
    ≡ effect (Cut 2 4) (effect (Cut 6 9) (alone 10 (from 0 Zero ∷ from 3 One ∷ from 5 Zero ∷ from 8 One ∷ [])))
unfolding effect changes_from value_from
two_cuts = refl

-- two ticks to the right and back: the last two values are lost
shift_and_back :
    effect (Shift 0 (negsuc 1)) (effect (Shift 0 (pos 2)) (alone 8 (from 0 Zero ∷ from 3 One ∷ from 7 Z ∷ [])))
    ≡ alone 8 (from 0 Zero ∷ from 3 One ∷ [])
unfolding effect changes_from value_from
shift_and_back = refl

two_forces : effect (Force 0 2 5 (Z ∷ [])) (effect (Force 0 2 5 (One ∷ [])) two_signals)
    ≡ capture 8 (wire (codes "a") (from 0 Zero ∷ from 2 Z ∷ from 5 One ∷ []) ∷ b ∷ [])
unfolding effect changes_from value_from
two_forces = refl

bit_of_one_bit : effect (Derive (lent (codes "c")) (BitOf 0 0)) two_signals
    ≡ capture 8 (wire (codes "a") (from 0 Zero ∷ from 3 One ∷ []) ∷ b
    ∷ wire (codes "c") (from 0 Zero ∷ from 3 One ∷ []) ∷ [])
unfolding effect changes_from value_from
bit_of_one_bit = refl

rename_and_back : effect (Rename 1 (lent (codes "b"))) (effect (Rename 1 (lent (codes "d"))) three_signals)
    ≡ three_signals
unfolding effect
rename_and_back = refl

remove_and_back : apply_record (record {
  pieces = [];
  word = None;
  signal = Some (1, Some (signal_at three_signals 1));
  other_end = None;
}) (effect (Remove 1) three_signals) ≡ three_signals
unfolding effect apply_record with_pieces
remove_and_back = refl

-- ==== worked cases: how many changes each edit touches, which bounds what its record stores

touched_by_invert : touched_by_edit (Invert 0) (alone 8 (from 0 Z ∷ from 4 One ∷ [])) ≡ 2
unfolding effect changes_from value_from touched_count touched_from
touched_by_invert = refl

-- the run that is cut out; then half of it
touched_by_cut : (touched_by_edit (Cut 3 7) (alone 10 (from 0 Zero ∷ from 3 One ∷ from 7 Zero ∷ [])) ≡ 2)
    × (touched_by_edit (Cut 2 5) (alone 10 (from 0 Zero ∷ from 3 One ∷ from 7 Zero ∷ [])) ≡ 1)
unfolding effect changes_from value_from touched_count touched_from
touched_by_cut = (refl, refl)

touched_by_deglitch : touched_by_edit (Deglitch 0 3)
    (alone 30 (from 0 Zero ∷ from 5 One ∷ from 6 Zero ∷ from 7 One ∷ from 20 Zero ∷ [])) ≡ 2
unfolding effect changes_from value_from run_start run_end steady_value touched_count touched_from
touched_by_deglitch = refl

-- a delay alone touches no change; two are pushed out at the front; a force of the other value
-- touches one
touched_by_one_wave : (touched_by_edit (Shift 0 (pos 2)) two_signals ≡ 0)
    × (touched_by_edit (Shift 0 (negsuc 3)) two_signals ≡ 2) × (touched_by_edit (Force 0 2 9 (Z ∷ [])) two_signals ≡ 1)
    × (touched_by_edit (Shift 0 (pos 0)) two_signals ≡ 0)
unfolding effect changes_from value_from touched_count touched_from
touched_by_one_wave = (refl, refl, refl, refl)

-- all changes of a signal that is taken out are touched; a new name and a new signal touch none
touched_by_others : (touched_by_edit (Remove 1) three_signals ≡ 1)
    × (touched_by_edit (Rename 1 (lent (codes "d"))) three_signals ≡ 0)
    × (touched_by_edit (Derive (lent (codes "n")) (Xor 0 1)) two_signals ≡ 0)
unfolding effect changes_from value_from touched_count touched_from
touched_by_others = (refl, refl, refl)
