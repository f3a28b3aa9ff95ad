-- The lines of annotations in the reply of a decoder. The project's own.
use Rattle.std.specs.Prelude.{ℕ, List, [], ◌∷◌, ◌++◌, map}
use Rattle.std.specs.List.{flat_map}
use Rattle.vcd_decode.specs.declared.annotation.Annotation.{Annotation}
use Rattle.vcd_script.specs.DecoderReply.{annotation_line}

-- the text of the lines of annotations, each with a line feed (10) at its end
abbrev pub annotations_text : List ℕ → ℕ → List Annotation → List ℕ
annotations_text decoder digits annotations =
    flat_map (λ line. line ++ 10 ∷ []) (map (annotation_line decoder digits) annotations)
