-- The bytes of a mark are those of its lines, in turn.
use Rattle.std.proofs.Common.{◌≡◌, ◌∙◌, ℕ, List, [], ◌∷◌, ◌++◌, map, refl, sym, ap, append_assoc, codes}
use Rattle.std.specs.List.{flat_map, join_with_byte}
use Rattle.std.proofs.lemmas.Grind.{flat_map-append}
use Rattle.vcd_text.specs.Items.{end_word}
use Rattle.vcd_copy.specs.MarkText.{title_words, read_words, line_words, later_lines, mark_with_edits}
use Rattle.vcd_copy.specs.declared.marking.head.MarkHead.{MarkHead}

abbrev line_of : List (List ℕ) → List ℕ
line_of words = 10 ∷ join_with_byte 32 words

abbrev lines_after : (first : List ℕ) → (lines : List (List ℕ)) → List ℕ
lines_after first lines = flat_map (λ line. line_of (line_words first line)) lines

over_map : (first : List ℕ) (lines : List (List ℕ))
    → flat_map (λ words. line_of words) (map (line_words first) lines) ≡ lines_after first lines
over_map first [] = refl
over_map first (line ∷ lines) = ap (λ (l : List ℕ). line_of (line_words first line) ++ l) (over_map first lines)

pub parts_of_mark : (head : MarkHead) (edits : List (List ℕ)) →
    (join_with_byte 32 (title_words head) ++ line_of (read_words head))
    ++ (lines_after (codes "part") head.part.now ++ (lines_after (codes "edit") edits ++ codes "\n$end"))
    ≡ (mark_with_edits head edits).bytes
parts_of_mark head edits =
    let parts : List (List (List ℕ)) = map (line_words (codes "part")) head.part.now in
    let all : flat_map (λ words. line_of words) (later_lines head edits)
    ≡ lines_after (codes "part") head.part.now ++ lines_after (codes "edit") edits =
    flat_map-append (λ words. line_of words) parts (map (line_words (codes "edit")) edits)
    ∙ (λ i. over_map (codes "part") head.part.now i ++ over_map (codes "edit") edits i) in
    append_assoc (join_with_byte 32 (title_words head)) (line_of (read_words head)) _
    ∙ ap (λ (l : List ℕ). join_with_byte 32 (title_words head) ++ (line_of (read_words head) ++ l))
    (sym (append_assoc (lines_after (codes "part") head.part.now) (lines_after (codes "edit") edits) (codes "\n$end"))
    ∙ ap (λ (l : List ℕ). l ++ codes "\n$end") (sym all)
    ∙ sym (flat_map-append (λ words. line_of words) (later_lines head edits) ((end_word ∷ []) ∷ [])))
