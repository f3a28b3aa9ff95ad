-- Texts and remarks that are appended one after the other.
use Rattle.std.proofs.Common.{◌≡◌, ℕ, List, [], ◌∷◌, ◌++◌, sym, ap, ◌∙◌, append_assoc}
use Rattle.std.proofs.lemmas.Grind.{flat_map-append}
use Rattle.std.proofs.lemmas.List.{append-nil}
use Rattle.vcd_remarks.specs.Remarks.{remark_line, remarks_text}
use Rattle.vcd_remarks.specs.inside.remarks.Parts.{remark_head}

-- three texts
pub three_in_turn : (first second third start one two three : List ℕ) → one ≡ start ++ first → two ≡ one ++ second
    → three ≡ two ++ third → three ≡ start ++ (first ++ second ++ third)
three_in_turn first second third start one two three is then last =
    last ∙ ap (λ t. t ++ third) (then ∙ ap (λ t. t ++ second) is ∙ append_assoc start first second)
    ∙ append_assoc start (first ++ second) third

-- a remark with its number and its line feed
pub remark_in_turn : (number : ℕ) (remark start one two three : List ℕ) → one ≡ start ++ remark_head number
    → two ≡ one ++ remark → three ≡ two ++ 10 ∷ [] → three ≡ start ++ remarks_text number (remark ∷ [])
remark_in_turn number remark start one two three is then last =
    three_in_turn (remark_head number) remark (10 ∷ []) start one two three is then last
    ∙ ap (λ t. start ++ t) (sym (append-nil (remark_line number remark)))

-- remarks
pub in_turn : (number : ℕ) (first second : List (List ℕ)) (start one two : List ℕ)
    → one ≡ start ++ remarks_text number first → two ≡ one ++ remarks_text number second
    → two ≡ start ++ remarks_text number (first ++ second)
in_turn number first second start one two is then =
    then ∙ ap (λ t. t ++ remarks_text number second) is
    ∙ append_assoc start (remarks_text number first) (remarks_text number second)
    ∙ ap (λ t. start ++ t) (sym (flat_map-append (remark_line number) first second))
