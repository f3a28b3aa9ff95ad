-- A word that is what its bytes are written as.
use Rattle.std.proofs.Common.{◌≡◌, ◌++◌, ◌∷◌, [], ◌<◌, ℕ, Bool, true, false, List, length}
use Rattle.std.proofs.Common.{sym, ap, ◌∙◌, append_assoc, append-nil, arith}
use Rattle.std.specs.Prelude.{if◌then◌else◌}
use Rattle.std.specs.List.{flat_map}
use Rattle.std.proofs.lemmas.List.{flat_map_more}
use Rattle.vcd_copy.specs.MarkText.{escaped_byte, escaped_word, hex_of_byte, is_plain}

-- less is left after a byte
pub shorter : (b : ℕ) (rest following : List ℕ) → rest ≡ escaped_byte b ++ following → length following < length rest
shorter b rest following is = by_test (is_plain b) (ap length is)
  where
    by_test : (t : Bool) → length rest ≡ length ((if t then b ∷ [] else 37 ∷ hex_of_byte b) ++ following)
        → length following < length rest
    by_test true long = omega (arith, long)
    by_test false long = omega (arith, long)

-- one byte more
pub one_more : (word done rest following : List ℕ) (b : ℕ) → word ≡ flat_map escaped_byte done ++ rest
    → rest ≡ escaped_byte b ++ following → word ≡ flat_map escaped_byte (done ++ b ∷ []) ++ following
one_more word done rest following b so step =
    so
    ∙ ap (λ l. flat_map escaped_byte done ++ l) step
    ∙ sym (append_assoc (flat_map escaped_byte done) (escaped_byte b) following)
    ∙ ap (λ l. l ++ following) (flat_map_more escaped_byte [] done b)

-- nothing is left
pub whole : (word done rest : List ℕ) → word ≡ flat_map escaped_byte done ++ rest → length rest ≡ 0 → 0 < length done
    → word ≡ escaped_word done
whole word [] rest so none some = absurd (omega (arith, some))
whole word (b ∷ done) [] so none some = so ∙ append-nil (flat_map escaped_byte (b ∷ done))
whole word (b ∷ done) (x ∷ rest) so none some = absurd (omega (arith, none))
