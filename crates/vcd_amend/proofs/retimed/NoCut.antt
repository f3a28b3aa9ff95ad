-- Where no tick is cut out, ticks and pieces stay.
use Rattle.std.proofs.Common.{◌≡◌, ℕ, zero, suc, Bool, true, false, if◌then◌else◌, List, [], ◌∷◌, ◌++◌}
use Rattle.std.proofs.Common.{refl, ap, ◌∙◌, arith}
use Rattle.std.specs.Prelude.{◌==◌, decimal}
use Rattle.std.proofs.lemmas.Bool.Decides.{nat_tests}
use Rattle.vcd_core.specs.Decimal.{number_of}
use Rattle.vcd_text.specs.Items.{Item, stamp, scalar, vector, real_or_string}
use Rattle.vcd_text.specs.Grammar.{ParseState, state_after_item}
use Rattle.vcd_copy.specs.Pieces.{Piece}
use Rattle.vcd_amend.specs.Retimed.{new_tick, retimed_pieces, retimed_fate, pieces_in_place, is_past}
use Rattle.vcd_amend.specs.Retimed.{change_key, held_with}
use Rattle.vcd_amend.specs.AmendedItems.{stands, is_exchanged}

-- if none is cut out, ticks stay
pub all_stay : (t : ℕ) → new_tick (λ (u : ℕ). false) t ≡ t
unfolding new_tick
all_stay zero = refl
all_stay (suc t) = omega (arith, all_stay t)

abbrev pub none : ℕ → Bool
none t = false

same_number : (n t : ℕ) → n ≡ t → (n == t) ≡ true
same_number n t same = grind (arith, nat_tests)

either_none : (b : Bool) (ps : List Piece) → ps ≡ [] → (if b then [] else ps) ≡ []
either_none true ps is = refl
either_none false ps is = is

stays : (s : ParseState) (p : Piece) (i : Item) → pieces_in_place (retimed_fate none s i) p ≡ p ∷ []
stays s p (stamp digits) =
    let t : ℕ = number_of digits in
    λ j. pieces_in_place (if same_number (new_tick none t) t (all_stay t) j then stands
    else is_exchanged (stamp (decimal (new_tick none t)))) p
stays s p i = refl

none_held : (s : ParseState) (p : Piece) (i : Item) → held_with none s [] p (change_key i) ≡ []
none_held s p (scalar digit code) = refl
none_held s p (vector first digits code) = refl
none_held s p (real_or_string first text code) = refl
none_held s p i = refl

pub pieces_stay : (s : ParseState) (ps : List Piece) → retimed_pieces none s [] ps ≡ ps
unfolding retimed_pieces
pieces_stay s [] = refl
pieces_stay s (p ∷ ps) =
    (λ j. either_none (is_past none s p.item) [] refl j ++ stays s p p.item j
    ++ retimed_pieces none (state_after_item s p.item)
    (either_none (is_past none s p.item) _ (none_held s p p.item) j) ps)
    ∙ ap (λ (rest : List Piece). p ∷ rest) (pieces_stay (state_after_item s p.item) ps)
