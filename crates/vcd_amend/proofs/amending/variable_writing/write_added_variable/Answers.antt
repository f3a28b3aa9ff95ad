-- The scopes are opened, the variable is declared, and the scopes are closed.
use Rattle.std.proofs.Common.{◌≡◌, ◌++◌, ◌∷◌, [], List, map, length, replicate, refl, sym, ap, ◌∙◌}
use Rattle.std.proofs.Common.{append_assoc}
use Rattle.std.specs.Prelude.{decimal}
use Rattle.std.specs.List.{flat_map, join_with_byte}
use Rattle.std.proofs.lemmas.Grind.{flat_map-append}
use Rattle.vcd_core.specs.declared.capture.ScopeName.{ScopeName}
use Rattle.vcd_text.specs.Items.{Item, scope, upscope, variable, spelling}
use Rattle.vcd_text.specs.Grammar.{VariableDeclaration}
use Rattle.vcd_text.specs.Text.{item_line}
use Rattle.vcd_text.proofs.shared.EmittedParts.{writes_as, writes_both}
use Rattle.vcd_amend.specs.AmendedItems.{added_items}
use Rattle.vcd_amend.specs.AmendmentContents.{added_contents}
use Rattle.vcd_amend.proofs.amending.variable_writing.write_added_variable.Goals as goal

closed : (scopes : List ScopeName) → replicate (length scopes) upscope ≡ map (λ s. upscope) scopes
closed [] = refl
closed (s ∷ ss) = ap (λ l. upscope ∷ l) (closed ss)

lines : (d : VariableDeclaration) (scopes : List ScopeName) → scopes ≡ d.scopes
    → flat_map item_line (map (λ s. scope s.kind s.words) scopes)
    ++ (join_with_byte 32 (spelling (variable (d.kind ∷ decimal d.size ∷ d.code ∷ d.words)))
    ++ (10 ∷ [] ++ flat_map item_line (replicate (length scopes) upscope))) ≡ flat_map item_line (added_items d)
lines d scopes same =
    let opening : List Item = map (λ s. scope s.kind s.words) scopes in
    let item : Item = variable (d.kind ∷ decimal d.size ∷ d.code ∷ d.words) in
    ap (λ (l : List Item). flat_map item_line opening ++ (join_with_byte 32 (spelling item) ++ (10 ∷ [] ++ flat_map
    item_line l))) (closed scopes)
    ∙ ap (λ l. flat_map item_line opening ++ l) (sym (append_assoc (join_with_byte 32 (spelling item)) (10 ∷ [])
    (flat_map item_line (map (λ (s : ScopeName). upscope) scopes))))
    ∙ sym (flat_map-append item_line opening (item ∷ map (λ s. upscope) scopes))
    ∙ ap (λ (l : List ScopeName). flat_map item_line (map (λ s. scope s.kind s.words) l ++ item ∷ map (λ s. upscope) l))
    same

pub returns : goal.returns
returns g c =
    let v = added_contents c.args.variable.now in
    let size = c.as_bytes.ensures.value ∙ c.format.ensures.text in
    let words : join_with_byte 32 (spelling (variable (c.as_slice.result.now ∷ c.as_bytes.result.now
    ∷ c.as_slice-2.result.now ∷ c.as_slice-3.result.now)))
    ≡ join_with_byte 32 (spelling (variable (v.kind ∷ decimal v.size ∷ v.code ∷ v.words))) = λ i. join_with_byte 32
    (spelling (variable (c.as_slice.ensures i ∷ size i ∷ c.as_slice-2.ensures i
    ∷ c.as_slice-3.ensures i))) in
    writes_as (lines v c.as_slice-scopes.result.now c.as_slice-scopes.ensures) (writes_both c.write_scopes.ensures
    (writes_both (writes_as words c.write_declaration.ensures)
    (writes_both c.write_byte.ensures.written c.write_upscopes.ensures)))
