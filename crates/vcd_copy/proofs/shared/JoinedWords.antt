-- Words with a space between them begin and end in a word.
use Rattle.std.proofs.Common.{◌≡◌, ◌∙◌, ◌<◌, ℕ, true, List, [], ◌∷◌, length, sym, ap, arith}
use Rattle.std.specs.List.{list_all, join_with_byte, prefix_len, suffix_len}
use Rattle.std.proofs.lemmas.Bool.{and_parts}
use Rattle.std.proofs.lemmas.List.{append-nil}
use Rattle.vcd_core.specs.Word.{is_white_space}
use Rattle.vcd_text.proofs.read_back.Words.{is_unbroken}
use Rattle.vcd_copy.proofs.pieces.Cuts.{EndsInWord, ends_after, word_ends, begins_in_word}

joined_end : (w : List ℕ) (ws : List (List ℕ)) → list_all is_unbroken (w ∷ ws) ≡ true
    → EndsInWord (join_with_byte 32 (w ∷ ws))
joined_end w [] unbroken = word_ends w (and_parts (is_unbroken w) true unbroken).0
joined_end w (v ∷ ws) unbroken = ends_after w (32 ∷ join_with_byte 32 (v ∷ ws)) (ends_after (32 ∷ [])
    (join_with_byte 32 (v ∷ ws)) (joined_end v ws (and_parts (is_unbroken w) (list_all is_unbroken (v ∷ ws))
    unbroken).1))

joined_begin : (w : List ℕ) (ws : List (List ℕ)) → is_unbroken w ≡ true
    → prefix_len is_white_space (join_with_byte 32 (w ∷ ws)) ≡ 0
joined_begin w [] unbroken = ap (prefix_len is_white_space) (sym (append-nil w)) ∙ begins_in_word w [] unbroken
joined_begin w (v ∷ ws) unbroken = begins_in_word w (32 ∷ join_with_byte 32 (v ∷ ws)) unbroken

pub joined_tight : (ws : List (List ℕ)) → 0 < length ws → list_all is_unbroken ws ≡ true
    → (prefix_len is_white_space (join_with_byte 32 ws) ≡ 0) × (suffix_len is_white_space (join_with_byte 32 ws) ≡ 0)
joined_tight [] some unbroken = absurd (omega (arith, some))
joined_tight (w ∷ ws) some unbroken = (
  joined_begin w ws (and_parts (is_unbroken w) (list_all is_unbroken ws) unbroken).0,
  (joined_end w ws unbroken).ends,
)
