use Rattle.std.proofs.Common.{◌++◌, codes, ap, ◌∙◌, arith}
use Rattle.vcd_core.specs.Contents.{signal_at}
use Rattle.vcd_decode.specs.inside.i2c_bus.BusWalk.{i2c_annotations_left}
use Rattle.vcd_edit.specs.Effect.{signal_bit}
use Rattle.vcd_script.specs.AnnotationLines.{annotations_text}
use Rattle.vcd_remarks.specs.DecoderFindings.{told}
use Rattle.vcd_remarks.proofs.decoder_reply.i2c_reply.Goals as goal

pub returns-clause-text : goal.returns-clause-text
returns-clause-text c = λ here scl sda edges are. ap (annotations_text (codes "i2c") 2)
    (ap (λ xs. xs ++ i2c_annotations_left c.new-decoder.result edges) c.new-found.ensures.items
    ∙ c.new-decoder.ensures (signal_bit here scl 0) (signal_bit here sda 0) here.end edges are.shown)

pub returns-clause-remarks : goal.returns-clause-remarks
returns-clause-remarks c = λ here scl sda edges are. ap told
    (c.new-finder.ensures (signal_at here scl) (signal_at here sda) here.end edges
    (omega (arith, are.sound.end)) are.shown)
