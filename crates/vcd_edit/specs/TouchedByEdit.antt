-- How many changes an edit touches: the bound on what its record stores. It is the project's own.
use Rattle.std.specs.Prelude.{ℕ, ℤ, pos, ◌-ℤ◌, neg_ℤ, length}
use Rattle.vcd_core.specs.Contents.{Contents}
use Rattle.vcd_edit.specs.declared.edit.Edit.{Edit}
use Rattle.vcd_edit.specs.declared.edit.Edit.TheVariants.{Rename, Remove, Shift, Cut, Derive}
use Rattle.vcd_edit.specs.Effect.{effect}
use Rattle.vcd_edit.specs.Touched.{Pairing, stays, takes_out, puts_in, partners, touched_from}

-- by how many ticks the edit moves the later changes to an earlier tick
abbrev pub edit_advance : Edit → ℤ
edit_advance (Cut from to) = pos to -ℤ pos from
edit_advance (Shift k by) = neg_ℤ by
edit_advance e = pos 0

-- whether the edit takes a signal out or puts one in
abbrev pub edit_pairing : Edit → Contents → Pairing
edit_pairing (Remove k) c = takes_out k
edit_pairing (Derive word rule) c = puts_in (length c.signals)
edit_pairing e c = stays

-- the sum over all signals
abbrev pub touched_by_edit : Edit → Contents → ℕ
touched_by_edit e c = touched_from (λ k. edit_advance e) 0 c.signals
    (partners (edit_pairing e c) (effect e c).signals)

-- an edit that gives a signal another name
abbrev pub IsRename : Edit → Type 0
IsRename (Rename k word) = Unit {0}
IsRename e = ⊥

-- an edit that takes a signal out
abbrev pub IsRemove : Edit → Type 0
IsRemove (Remove k) = Unit {0}
IsRemove e = ⊥
