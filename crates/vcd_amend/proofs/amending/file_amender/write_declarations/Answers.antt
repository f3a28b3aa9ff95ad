use Rattle.std.proofs.Common.{◌≡◌, ◌∙◌, ◌++◌, sym, ap, map, replicate, List, [], ◌∷◌, true, false, refl, length, ◌==◌}
use Rattle.std.proofs.Common.{arith}
use Rattle.std.specs.List.{flat_map}
use Rattle.std.proofs.lemmas.Grind.{flat_map-append}
use Rattle.std.proofs.lemmas.Bool.{eqb-true}
use Rattle.vcd_core.specs.declared.capture.ScopeName.{ScopeName}
use Rattle.vcd_text.specs.Items.{Item, upscope}
use Rattle.vcd_text.specs.Text.{item_line}
use Rattle.vcd_text.proofs.shared.EmittedParts.{writes_as, writes_both, writes_none}
use Rattle.vcd_amend.specs.AmendedItems.{added_items, added_declarations}
use Rattle.vcd_amend.specs.AmendmentContents.{added_contents}
use Rattle.vcd_amend.specs.declared.amendment.AddedVariable.{AddedVariable}
use Rattle.vcd_amend.proofs.amending.SeenItems.{closed_scopes}
use Rattle.vcd_amend.proofs.amending.file_amender.write_declarations.Goals as goal

none_declared : (scopes : List ScopeName) (vs : List AddedVariable) → (length vs == 0) ≡ true
    → [] ≡ flat_map item_line (added_declarations scopes (map added_contents vs))
none_declared scopes [] none = refl
none_declared scopes (v ∷ vs) none = absurd (omega (arith, eqb-true (length (v ∷ vs)) 0 none))

some_declared : (scopes : List ScopeName) (vs : List AddedVariable) → (length vs == 0) ≡ false
    → flat_map item_line (replicate (length scopes) upscope) ++ flat_map item_line (flat_map added_items
    (map added_contents vs)) ≡ flat_map item_line (added_declarations scopes (map added_contents vs))
some_declared scopes [] some = absurd (cc)
some_declared scopes (v ∷ vs) some =
    sym (flat_map-append item_line (replicate (length scopes) upscope)
    (flat_map added_items (map added_contents (v ∷ vs))))
    ∙ ap (λ (l : List Item). flat_map item_line (l ++ flat_map added_items (map added_contents (v ∷ vs))))
    (closed_scopes scopes)

pub returns-then-is_empty : goal.returns-then-is_empty
returns-then-is_empty g c scopes count =
    writes_as (none_declared scopes c.args.added.now (sym c.is_empty.ensures ∙ c.if-is_empty.true)) writes_none

pub returns : goal.returns
returns g c scopes count =
    let vs = c.args.added.now in
    writes_as (ap (λ n. flat_map item_line (replicate n upscope) ++ flat_map item_line (flat_map added_items
    (map added_contents vs))) count ∙ some_declared scopes vs (sym c.is_empty.ensures ∙ c.if-is_empty.false))
    (writes_both c.write_upscopes.ensures c.write_added.ensures)
