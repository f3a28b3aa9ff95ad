-- No value change of an accepted file is past its last tick.
use Rattle.std.proofs.Common.{◌≡◌, ℕ, ◌≤◌, Bool, true, false, if◌then◌else◌, List, [], ◌∷◌, ◌++◌, All, arith, Option}
use Rattle.std.proofs.Common.{Some, None, refl}
use Rattle.std.proofs.lemmas.Bool.{cases_Bool, le-leb}
use Rattle.std.proofs.lemmas.List.{append-nil}
use Rattle.std.proofs.lemmas.List.Elements.{All-head, All-tail, All-push}
use Rattle.vcd_core.specs.declared.bit.Bit.{Bit}
use Rattle.vcd_text.specs.Letters.{extension}
use Rattle.vcd_text.specs.Items.{Item}
use Rattle.vcd_text.specs.Grammar.{VariableDeclaration, ValueChange, ParseState, AllowsAll, state_after}
use Rattle.vcd_text.specs.Grammar.{state_after_item, is_skipped, value_changes_after}
use Rattle.vcd_text.proofs.shared.ItemTests.{has_tick}
use Rattle.vcd_core.specs.Wave.{value_from}
use Rattle.vcd_text.specs.Meaning.{changes_of_code}
use Rattle.vcd_text.specs.inside.reading.Variables.{latest_value}

-- no value change is past the tick
abbrev pub UpToTick : ℕ → List ValueChange → Type 0
UpToTick tick rs = All (λ (r : ValueChange). r.tick ≤ tick) rs

-- ---- items

one_more : (c : ParseState) (code : List ℕ) (letters : List Bit) (o : Option VariableDeclaration)
    → UpToTick c.tick c.value_changes → UpToTick c.tick (c.value_changes ++ value_changes_after c code letters o)
one_more c code letters None late = rw (append-nil c.value_changes) late
one_more c code letters (Some d) late = choose (is_skipped d)
  where
    r : ValueChange
    r = record { tick = c.tick; code = code; letters = letters }

    choose : (b : Bool) → UpToTick c.tick (c.value_changes ++ (if b then [] else r ∷ []))
    choose true = rw (append-nil c.value_changes) late
    choose false = All-push (λ (r : ValueChange). r.tick ≤ c.tick) c.value_changes r late (omega arith)

pub late_after : (c : ParseState) (is : List Item) → AllowsAll c is → UpToTick c.tick c.value_changes
    → UpToTick (state_after c is).tick (state_after c is).value_changes
late_after c [] allows late = late
late_after c (i ∷ is) (allows, rest) late = late_after (state_after_item c i) is rest
    (grind (arith, has_tick, one_more))

-- ---- values

-- past the last tick the value stays
pub latest_past : (width : ℕ) (code : List ℕ) (end t : ℕ) (before : List Bit) (rs : List ValueChange) → end ≤ t
    → UpToTick end rs → latest_value width code t before rs ≡ latest_value width code end before rs
unfolding changes_of_code value_from
latest_past width code end t before [] past late = refl
latest_past width code end t before (r ∷ rs) past late =
    let here : r.tick ≤ end = All-head (λ (r : ValueChange). r.tick ≤ end) r rs late in
    let rest = All-tail (λ (r : ValueChange). r.tick ≤ end) r rs late in
    grind (
      arith,
      cases_Bool,
      le-leb,
      here,
      latest_past width code end t before rs past rest,
      latest_past width code end t (extension width r.letters) rs past rest,
    )
