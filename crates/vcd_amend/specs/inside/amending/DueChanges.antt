-- The changes that are due, by tick, and at one tick by the index of the amended code.
use Rattle.std.specs.Prelude.{◌≡◌, ℕ, zero, suc, Bool, not, ◌+◌, ◌≤◌, ◌==◌, ◌&&◌, nat_lt}
use Rattle.std.specs.Prelude.{if◌then◌else◌, List}
use Rattle.std.specs.Prelude.{[], ◌∷◌, ◌++◌, map, All, slice_index_or, Option, Some, None, false}
use Rattle.std.specs.Prelude.{decimal}
use Rattle.vcd_text.specs.Items.{Item, stamp}
use Rattle.vcd_text.specs.Grammar.{ParseState}
use Rattle.vcd_text.specs.Text.{value_item}
use Rattle.vcd_text.specs.inside.writing.Transitions.{Transition, transition_of}
use Rattle.vcd_amend.specs.Amendment.{AmendedCode, needs_change, new_value, wave_has_change}
use Rattle.vcd_amend.specs.AmendedItems.{file_has_change}
use Rattle.vcd_amend.specs.declared.amending.due_changes.DueChange.{DueChange}

-- a due change as a transition of the amended code at its index
abbrev pub due_transition : DueChange → Transition
due_transition d = transition_of d.tick d.index

-- the due changes of a code at this index, in any order of ticks
abbrev pub code_transitions : ℕ → AmendedCode → List Transition
code_transitions k c =
    (if needs_change c 0 && not (wave_has_change c.new 0) then transition_of 0 k ∷ [] else [])
    ++ map (λ x. transition_of x.tick k) c.new

-- those of codes, the first at this index
unfoldable pub unsorted_transitions : ℕ → List AmendedCode → List Transition
unsorted_transitions k [] = []
unsorted_transitions k (c ∷ cs) = code_transitions k c ++ unsorted_transitions (k + 1) cs

-- those at one tick of codes, the first at this index
unfoldable pub due_at : ℕ → List AmendedCode → (t : ℕ) → List Transition
due_at k [] t = []
due_at k (c ∷ cs) t =
    (if needs_change c t then transition_of t k ∷ [] else []) ++ due_at (k + 1) cs t

-- those of n ticks, from t on
unfoldable pub due_in : List AmendedCode → (t n : ℕ) → List Transition
due_in cs t zero = []
due_in cs t (suc n) = due_at 0 cs t ++ due_in cs (suc t) n

-- first come the due changes of n ticks, from t on, and then later ones
pub record BeginsWithDue (cs : List AmendedCode) (t n : ℕ) (ms : List Transition) : Type 0 where
  pub rest : List Transition
  pub split : ms ≡ due_in cs t n ++ rest
  pub later : All (λ m. t + n ≤ m.tick) rest

-- these are the due changes from tick t on
abbrev pub AreDueFrom : List AmendedCode → (t : ℕ) → List Transition → Type 0
AreDueFrom cs t ms = (n : ℕ) → BeginsWithDue cs t n ms

-- ---- what is written

-- no amended code
abbrev pub no_code : AmendedCode
no_code = record { code = []; width = 1; old = []; new = [] }

-- the amended code of a due change
abbrev pub code_at : List AmendedCode → Transition → AmendedCode
code_at cs m = slice_index_or cs m.position no_code

-- whether the file has had no change of the code at its tick
abbrev pub is_open : ParseState → List AmendedCode → Transition → Bool
is_open s cs m = not (file_has_change s (code_at cs m).code m.tick)

-- the item of a due change
abbrev pub due_item : List AmendedCode → Transition → Item
due_item cs m = value_item (code_at cs m).code (new_value (code_at cs m) m.tick)

-- whether this tick is the last one, if there is one
abbrev pub is_last : Option ℕ → ℕ → Bool
is_last None t = false
is_last (Some last) t = last == t

-- the items of due changes, each tick after its stamp, unless it is the last one
unfoldable pub stamped_items : List AmendedCode → (last : Option ℕ) → List Transition → List Item
stamped_items cs last [] = []
stamped_items cs last (m ∷ ms) =
    (if is_last last m.tick then [] else stamp (decimal m.tick) ∷ [])
    ++ due_item cs m ∷ stamped_items cs (Some m.tick) ms

-- those before a tick
unfoldable pub before_tick : ℕ → List Transition → List Transition
before_tick t [] = []
before_tick t (m ∷ ms) = if nat_lt m.tick t then m ∷ before_tick t ms else []

-- whether the first of them is before a tick
abbrev pub begins_before : ℕ → List Transition → Bool
begins_before t [] = false
begins_before t (m ∷ ms) = nat_lt m.tick t

-- those from a tick on, which come after them
unfoldable pub from_tick : ℕ → List Transition → List Transition
from_tick t [] = []
from_tick t (m ∷ ms) = if nat_lt m.tick t then from_tick t ms else m ∷ ms
