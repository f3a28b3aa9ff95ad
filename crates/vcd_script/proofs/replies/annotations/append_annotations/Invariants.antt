-- The text so far and the annotations left make the whole text.
use Rattle.std.proofs.Common.{◌≡◌, ◌++◌, drop}
use Rattle.vcd_script.specs.AnnotationLines.{annotations_text}
use Rattle.vcd_script.proofs.replies.annotations.append_annotations.Given as goal

abbrev pub invariant-loop-annotation : goal.invariant-loop-annotation
invariant-loop-annotation l =
    l.text.items ++ annotations_text l.decoder l.digits (drop l.annotation-index l.annotations)
    ≡ l.initial.text.items ++ annotations_text l.decoder l.digits l.annotations
