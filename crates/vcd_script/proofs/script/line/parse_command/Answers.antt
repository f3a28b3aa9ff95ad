-- `cut` and `depth` name no signal, so their parsers take no capture.
use Rattle.std.proofs.Common.{sym, subst}
use Rattle.vcd_core.specs.CaptureContents.{contents}
use Rattle.vcd_text.specs.LentWords.{texts_left}
use Rattle.vcd_script.specs.declared.script.keyword.Keyword.{Keyword}
use Rattle.vcd_script.specs.inside.script.Line.{ReadsCommand}
use Rattle.vcd_script.proofs.script.line.parse_command.Goals as goal

pub returns-in-Cut : goal.returns-in-Cut
returns-in-Cut c =
    subst (λ (k : Keyword). ReadsCommand (contents c.args.capture.now) k (texts_left c.args.words.now)
    c.parse_cut.result) (sym c.in-Cut.is) (c.parse_cut.ensures (contents c.args.capture.now))

pub returns-in-Depth : goal.returns-in-Depth
returns-in-Depth c =
    subst (λ (k : Keyword). ReadsCommand (contents c.args.capture.now) k (texts_left c.args.words.now)
    c.parse_depth.result) (sym c.in-Depth.is) (c.parse_depth.ensures (contents c.args.capture.now))
