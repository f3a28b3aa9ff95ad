-- What is written in the place of a change to digits.
use Rattle.std.specs.Prelude.{ℕ, Bool, not, false, ◌&&◌, ◌||◌, if◌then◌else◌, List, [], ◌++◌}
use Rattle.std.specs.List.{join_with_byte}
use Rattle.vcd_text.specs.Items.{spelling}
use Rattle.vcd_text.specs.Text.{value_item}
use Rattle.vcd_amend.specs.Amendment.{AmendedCode, changes_stand, needs_change, new_value}
use Rattle.vcd_amend.specs.inside.amending.DueChanges.{is_last}
use Rattle.vcd_amend.specs.declared.amending.code_progress.CodeProgress.{CodeProgress}

-- the change with its white space, if it stands; else the one that is due, if there is one
abbrev pub text_in_place : (does_stand is_due : Bool) → AmendedCode → (tick : ℕ)
    → (space body : List ℕ) → List ℕ
text_in_place does_stand is_due c tick space body =
    if does_stand then space ++ body else
    (if is_due then space ++ join_with_byte 32 (spelling (value_item c.code (new_value c tick)))
    else [])

-- whether a change of a code with this progress is due at a tick
abbrev pub is_due_now : AmendedCode → CodeProgress → (tick : ℕ) → Bool
is_due_now c p tick = needs_change c tick && not (is_last p.changed_at tick)

-- the same, if the code is used
abbrev pub value_text : (is_used : Bool) → AmendedCode → CodeProgress → (tick : ℕ)
    → (space body : List ℕ) → List ℕ
value_text is_used c p tick space body = if is_used then
    text_in_place (changes_stand c tick) (is_due_now c p tick) c tick space body else []

-- whether a change is written there
abbrev pub is_written : (is_used : Bool) → AmendedCode → CodeProgress → (tick : ℕ) → Bool
is_written is_used c p tick =
    if is_used then changes_stand c tick || is_due_now c p tick else false
