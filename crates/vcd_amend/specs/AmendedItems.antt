-- The items of an amended file: what becomes of each item, and what is put between them. The
-- project's own.
use Rattle.std.specs.Prelude.{ℕ, Bool, true, false, not, ◌&&◌, ◌-◌, ◌==◌, if◌then◌else◌, List, []}
use Rattle.std.specs.Prelude.{◌∷◌, ◌++◌, map, Option, Some, None, bytes_eq, decimal}
use Rattle.std.specs.List.{filter, flat_map, list_any, range_with_len}
use Rattle.vcd_core.specs.Decimal.{number_of}
use Rattle.vcd_core.specs.declared.capture.ScopeName.{ScopeName}
use Rattle.vcd_text.specs.Items.{Item, scope, upscope, variable, end_definitions, stamp, scalar}
use Rattle.vcd_text.specs.Items.{vector, real_or_string}
use Rattle.vcd_text.specs.Grammar.{VariableDeclaration, ParseState, declaration_of}
use Rattle.vcd_text.specs.Grammar.{state_after_item}
use Rattle.vcd_text.specs.Text.{value_item, with_stamp}
use Rattle.vcd_amend.specs.Amendment.{AmendedCode, Fate, Amendment, is_removed, is_changed}
use Rattle.vcd_amend.specs.Amendment.{fate_of, is_used, amended_code, new_value, changes_stand}
use Rattle.vcd_amend.specs.Amendment.{needs_change}

-- ---- what is due

-- whether the file has had a change of a code at a tick
abbrev pub file_has_change : ParseState → (code : List ℕ) → ℕ → Bool
file_has_change s code t =
    list_any (λ v. v.tick == t) (filter (λ v. bytes_eq v.code code) s.value_changes)

-- the change of an amended code that is due at a tick after this state, if there is one: where the
-- file has had a change, that one stands, or what was due is in its place
abbrev pub due_items : ParseState → ℕ → AmendedCode → List Item
due_items s t c = if needs_change c t && not (file_has_change s c.code t)
    then value_item c.code (new_value c t) ∷ [] else []

-- the changes that are due at a tick
abbrev pub items_due_at : Amendment → ParseState → ℕ → List Item
items_due_at a s t = flat_map (due_items s t) a.codes

-- those at the tick of the last stamp, before another stamp; if neither a stamp nor a change has
-- been written yet, `#0` comes first
abbrev pub items_due_now : Amendment → (none_yet : Bool) → ParseState → List Item
items_due_now a none_yet s =
    if none_yet then with_stamp false s.tick (items_due_at a s s.tick) else items_due_at a s s.tick

-- those from the tick of the last stamp on, before another tick; each tick past the first has its
-- stamp
abbrev pub items_due_until : Amendment → (none_yet : Bool) → ParseState → ℕ → List Item
items_due_until a none_yet s until =
    flat_map (λ t. if t == s.tick then items_due_now a none_yet s
    else with_stamp false t (items_due_at a s t)) (range_with_len s.tick (until - s.tick))

-- ---- what becomes of an item

-- what becomes of an item
pub data ItemFate : Type 0 where
  -- it stands
  stands : ItemFate
  -- it is left out
  is_left_out : ItemFate
  -- another item is in its place
  is_exchanged : Item → ItemFate

-- the items in the place of an item with this fate
abbrev pub items_in_place : ItemFate → Item → List Item
items_in_place stands i = i ∷ []
items_in_place is_left_out i = []
items_in_place (is_exchanged j) i = j ∷ []

-- what becomes of the `$var` with these words, if its variable has this fate
abbrev pub declaration_fate : Fate → List (List ℕ) → ItemFate
declaration_fate is_removed words = is_left_out
declaration_fate (is_changed names code) (kind ∷ size ∷ old ∷ words) =
    is_exchanged (variable (kind ∷ size ∷ code ∷ names))
declaration_fate fate words = stands

-- what becomes of the `$var` with these words, if they declare this variable after others, or none
abbrev pub variable_item_fate : Amendment → (before : List VariableDeclaration)
    → Option VariableDeclaration → List (List ℕ) → ItemFate
variable_item_fate a before None words = stands
variable_item_fate a before (Some d) words = declaration_fate (fate_of a before d) words

-- the first of items takes the place of a change; without one it is left out
abbrev pub exchange_for : List Item → ItemFate
exchange_for [] = is_left_out
exchange_for (i ∷ is) = is_exchanged i

-- what becomes of a change to digits, if its code is used, and is this amended code or none
abbrev pub value_fate : ParseState → Option AmendedCode → ItemFate
value_fate s None = stands
value_fate s (Some c) =
    if changes_stand c s.tick then stands else exchange_for (due_items s s.tick c)

-- what becomes of a change to digits
abbrev pub change_fate : Amendment → ParseState → (code : List ℕ) → ItemFate
change_fate a s code =
    if is_used a s code then value_fate s (amended_code code a.codes) else is_left_out

-- what becomes of a change to a real or a string
abbrev pub real_fate : Amendment → ParseState → (code : List ℕ) → ItemFate
real_fate a s code = if is_used a s code then stands else is_left_out

-- what becomes of an item after this state of the file
abbrev pub item_fate : Amendment → ParseState → Item → ItemFate
item_fate a s (variable words) = variable_item_fate a s.declared (declaration_of s words) words
item_fate a s (scalar digit code) = change_fate a s code
item_fate a s (vector first digits code) = change_fate a s code
item_fate a s (real_or_string first text code) = real_fate a s code
item_fate a s item = stands

-- ---- what is put between the items

-- the declaration of an added variable, in its scopes
abbrev pub added_items : VariableDeclaration → List Item
added_items d = map (λ s. scope s.kind s.words) d.scopes
    ++ variable (d.kind ∷ decimal d.size ∷ d.code ∷ d.words)
    ∷ map (λ s. upscope) d.scopes

-- the declarations of added variables, after these open scopes are closed; none, if none is added
abbrev pub added_declarations : (scopes : List ScopeName) → List VariableDeclaration → List Item
added_declarations scopes [] = []
added_declarations scopes (d ∷ ds) = map (λ s. upscope) scopes ++ flat_map added_items (d ∷ ds)

-- the items that are put before an item after this state of the file: before `$enddefinitions`
-- variables are added, before a stamp come the changes that are due
abbrev pub inserted_items : Amendment → (none_yet : Bool) → ParseState → Item → List Item
inserted_items a none_yet s end_definitions = added_declarations s.scopes a.added
inserted_items a none_yet s (stamp digits) = items_due_until a none_yet s (number_of digits)
inserted_items a none_yet s item = []

-- whether an item with this fate is left out
abbrev pub leaves_out : ItemFate → Bool
leaves_out is_left_out = true
leaves_out fate = false

-- whether neither a stamp nor a change has been written yet, after an item with this fate
abbrev pub still_none_yet : (none_yet : Bool) → ItemFate → Item → Bool
still_none_yet none_yet fate (stamp digits) = false
still_none_yet none_yet fate (scalar digit code) = none_yet && leaves_out fate
still_none_yet none_yet fate (vector first digits code) = none_yet && leaves_out fate
still_none_yet none_yet fate (real_or_string first text code) = none_yet && leaves_out fate
still_none_yet none_yet fate item = none_yet

-- ---- all items

-- the items of the amended file, in place of these after this state; at the end come the changes
-- that are due at the last tick
unfoldable pub amended_items : Amendment → (none_yet : Bool) → ParseState → List Item → List Item
amended_items a none_yet s [] = items_due_at a s s.tick
amended_items a none_yet s (i ∷ is) =
    inserted_items a none_yet s i ++ items_in_place (item_fate a s i) i
    ++ amended_items a (still_none_yet none_yet (item_fate a s i) i) (state_after_item s i) is
