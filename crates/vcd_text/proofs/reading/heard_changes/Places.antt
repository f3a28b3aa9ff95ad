-- Texts keep their places while the buffer of them gets longer.
use Rattle.std.proofs.Common.{◌≡◌, ◌+◌, ◌-◌, ◌≤◌, ℕ, List, [], ◌∷◌, ◌++◌, length, map, take, drop, refl, ap, ◌∙◌}
use Rattle.std.proofs.Common.{arith, All}
use Rattle.std.specs.List.{AllByRecursion}
use Rattle.std.proofs.lemmas.List.{drop-append-le, take-append-le, length-drop}
use Rattle.std.proofs.lemmas.List.Elements.{recursion_from_All}
use Rattle.std.proofs.Math.Seq.{drop-append_seam, take-length}
use Rattle.vcd_text.specs.inside.reading.HeardChanges.{placed_change, IsPlacedWithin}
use Rattle.vcd_text.specs.declared.reading.heard_changes.PlacedChange.{PlacedChange}

text_stays : (buffer more : List ℕ) (start end : ℕ) → start ≤ end → end ≤ length buffer
    → take (end - start) (drop start (buffer ++ more)) ≡ take (end - start) (drop start buffer)
text_stays buffer more start end order within =
    ap (take (end - start)) (drop-append-le start buffer more (omega arith))
    ∙ take-append-le (end - start) (drop start buffer) more (omega (arith, length-drop start buffer))

all_stay : (buffer more : List ℕ) (ps : List PlacedChange) → AllByRecursion (IsPlacedWithin (length buffer)) ps
    → map (placed_change (buffer ++ more)) ps ≡ map (placed_change buffer) ps
all_stay buffer more [] within = refl
all_stay buffer more (p ∷ ps) (first, within) = λ i.
    record { tick = p.tick; target = p.target; text = text_stays buffer more p.start p.end first.0 first.1 i }
    ∷ all_stay buffer more ps within i

pub places_stay : (buffer more : List ℕ) (ps : List PlacedChange) → All (IsPlacedWithin (length buffer)) ps
    → map (placed_change (buffer ++ more)) ps ≡ map (placed_change buffer) ps
places_stay buffer more ps within = all_stay buffer more ps (recursion_from_All _ ps within)

pub text_placed : (buffer text : List ℕ) (start end : ℕ) → start ≡ length buffer → end ≡ length buffer + length text
    → take (end - start) (drop start (buffer ++ text)) ≡ text
text_placed buffer text start end from upto =
    (λ i. take (let n : end - start ≡ length text = omega (arith, from, upto) in n i) (drop (from i) (buffer ++ text)))
    ∙ ap (take (length text)) (drop-append_seam buffer text) ∙ take-length text
