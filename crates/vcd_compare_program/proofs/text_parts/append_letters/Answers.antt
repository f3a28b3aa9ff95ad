use Rattle.std.proofs.Common.{◌≡◌, ◌+◌, ◌-◌, ◌<◌, ℕ, List, [], ◌∷◌, ◌++◌, length, take, get_or, ap, sym, ◌∙◌, arith}
use Rattle.std.proofs.lemmas.List.{append_assoc, map-append, take_all, take_more}
use Rattle.vcd_core.specs.declared.bit.Bit.{Bit}
use Rattle.vcd_core.specs.declared.bit.Bit.TheVariants.{X}
use Rattle.vcd_core.specs.Value.{printed_letter}
use Rattle.vcd_text.specs.Letters.{printed_letters}
use Rattle.vcd_compare_program.proofs.text_parts.append_letters.Goals as goal

-- one letter more
one_more : (v : List Bit) (k : ℕ) → k < length v → printed_letters (take (k + 1) v) ≡ printed_letters (take k v)
    ++ printed_letter (get_or v k X) ∷ []
one_more v k within = ap printed_letters (take_more v k X within)
    ∙ map-append printed_letter (take k v) (get_or v k X ∷ [])

pub loop-k-preserved : goal.loop-k-preserved
loop-k-preserved c =
    let v : List Bit = c.args.value.now in
    let k : ℕ = c.loop-k.k in
    let index : length v - 1 - (c.width-width.result - 1 - k) ≡ k = omega arith in
    let letter : c.printed_letter.result ≡ printed_letter (get_or v k X) = c.printed_letter.ensures
    ∙ ap printed_letter (c.bit.ensures ∙ ap (λ i. get_or v i X) index) in
    c.in_ok-push.ensures.items ∙ (λ i. c.loop-k.invariant i ++ letter i ∷ [])
    ∙ append_assoc c.args.text.now.items (printed_letters (take k v)) (printed_letter (get_or v k X) ∷ [])
    ∙ ap (λ l. c.args.text.now.items ++ l) (sym (one_more v k (omega arith)))

pub returns : goal.returns
returns c =
    let all : take c.loop-k.k c.args.value.now ≡ c.args.value.now =
    take_all c.loop-k.k c.args.value.now (omega arith) in
    c.loop-k.invariant ∙ ap (λ l. c.args.text.now.items ++ printed_letters l) all
