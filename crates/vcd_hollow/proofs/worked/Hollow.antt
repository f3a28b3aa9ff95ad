-- Worked cases: what edits make of a capture that lacks the waves which they do not read.
use Rattle.std.proofs.Common.{◌≡◌, refl}
use Rattle.std.specs.Prelude.{ℕ, Bool, nat_lt, [], ◌∷◌, Some, None, codes}
use Rattle.vcd_core.specs.declared.bit.Bit.TheVariants.{Zero, One}
use Rattle.vcd_core.specs.Wave.{value_from, changes_from}
use Rattle.vcd_core.specs.Contents.{Contents}
use Rattle.vcd_edit.specs.Effect.{effect}
use Rattle.vcd_edit.proofs.worked.Records.{from, wire, capture}
use Rattle.vcd_journal.specs.History.{replay}
use Rattle.vcd_hollow.specs.Origins.{origins}
use Rattle.vcd_hollow.specs.Cuts.{cuts}
use Rattle.vcd_hollow.specs.Hollow.{emptied, filled, hollow, ReadOwn}
use Rattle.vcd_hollow.proofs.worked.Origins.{four_edits}

-- a and b are silent, c is not
abbrev is_silent : ℕ → Bool
is_silent k = nat_lt k 2

only_c_is_read : ReadOwn (emptied is_silent) 3 four_edits
unfolding ReadOwn origins
only_c_is_read = (tt, (tt, ((refl, tt), (tt, tt))))

abbrev first : Contents
first = capture 6 (wire (codes "a") (from 0 Zero ∷ from 2 One ∷ from 5 Zero ∷ []) ∷ wire (codes "b") (from 0 One ∷ [])
    ∷ wire (codes "c") (from 3 Zero ∷ []) ∷ [])

-- without the changes of a and b
without_a_and_b : hollow is_silent first ≡ capture 6 (wire (codes "a") [] ∷ wire (codes "b") []
    ∷ wire (codes "c") (from 3 Zero ∷ []) ∷ [])
without_a_and_b = refl

what_it_becomes : replay (hollow is_silent first) four_edits
    ≡ capture 4 (wire (codes "d") [] ∷ wire (codes "c") (from 1 Zero ∷ []) ∷ wire (codes "n") (from 1 One ∷ []) ∷ [])
unfolding replay effect value_from changes_from
what_it_becomes = refl

-- a, which is left at the first position, has the changes that the cut leaves
a_again : (filled is_silent (replay first (cuts four_edits)) 0 ≡ Some (from 0 Zero ∷ from 1 One ∷ from 3 Zero ∷ []))
    × (filled is_silent (replay first (cuts four_edits)) 2 ≡ None)
unfolding cuts replay effect value_from changes_from
a_again = (refl, refl)
