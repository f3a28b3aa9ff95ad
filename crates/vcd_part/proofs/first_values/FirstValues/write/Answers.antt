use Rattle.std.proofs.Common.{◌≡◌, ◌<◌, ◌+◌, ℕ, List, [], ◌∷◌, ◌++◌, length, take, get_or, map, sym, ap, ◌∙◌, arith}
use Rattle.std.specs.Global.{Vec}
use Rattle.std.proofs.lemmas.List.{take_more, get_or-map, length-map}
use Rattle.std.proofs.lemmas.Grind.{flat_map-append}
use Rattle.vcd_text.proofs.shared.EmittedParts.{writes_as, writes_both}
use Rattle.vcd_part.specs.inside.FirstValues.{bodies, line_of, lines_of}
use Rattle.vcd_part.proofs.first_values.FirstValues.write.Goals as goal

-- one line more
line_more : (values : List (Vec ℕ)) (k : ℕ) (v : Vec ℕ) → k < length values → v ≡ get_or values k v
    → lines_of (take k (map (λ x. x.items) values)) ++ lines_of (v.items ∷ [])
    ≡ lines_of (take (k + 1) (map (λ x. x.items) values))
line_more values k v within is =
    let all = map (λ (x : Vec ℕ). x.items) values in
    let inside : k < length all = omega (arith, length-map values (λ (x : Vec ℕ). x.items)) in
    let here : get_or all k v.items ≡ v.items =
    get_or-map (λ (x : Vec ℕ). x.items) values k v v.items within ∙ ap (λ (x : Vec ℕ). x.items) (sym is) in
    sym (ap lines_of (take_more all k v.items inside ∙ ap (λ b. take k all ++ b ∷ []) here)
    ∙ flat_map-append line_of (take k all) (v.items ∷ []))

pub loop-value-preserved : goal.loop-value-preserved
loop-value-preserved g c =
    writes_as (ap (λ b. lines_of (take c.loop-value.value-index (bodies c.args.self.now)) ++ lines_of (b ∷ []))
    c.as_slice.ensures.value
    ∙ line_more c.args.self.now.values.items c.loop-value.value-index c.value-item.result (omega arith)
    (rw c.deref-value-items.ensures.value at c.value-item.is))
    (writes_both c.loop-value.invariant c.write_line.ensures)
