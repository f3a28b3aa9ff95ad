use Rattle.std.proofs.Common.{length, ap, ◌∙◌, sym}
use Rattle.std.proofs.lemmas.List.{length-map}
use Rattle.vcd_core.specs.CaptureContents.{contents, signal_contents}
use Rattle.vcd_edit.specs.declared.edit.Edit.TheVariants.{Derive}
use Rattle.vcd_edit.proofs.checking.Faults.{no_fault}
use Rattle.vcd_edit.proofs.plans.derive.DerivedSignal.{derive_plan}
use Rattle.vcd_edit.proofs.plans.derive.plan.Goals as goal

pub new_signal-requires-clause-operands_exist : goal.new_signal-requires-clause-operands_exist
new_signal-requires-clause-operands_exist c =
    (no_fault (Derive c.args.word c.args.rule) (contents c.args.capture.now) c.requires.allowed).0

pub new_signal-requires-clause-operand_widths : goal.new_signal-requires-clause-operand_widths
new_signal-requires-clause-operand_widths c =
    (no_fault (Derive c.args.word c.args.rule) (contents c.args.capture.now) c.requires.allowed).1.0

pub returns : goal.returns
returns c =
    derive_plan (contents c.args.capture.now) c.args.word c.args.rule (length c.signals.result.now)
    (signal_contents c.in_ok-signal.signal) c.new.result.items c.requires.sound c.requires.allowed
    (ap length c.signals.ensures ∙ sym (length-map c.args.capture.now.signals signal_contents)) c.in_ok-signal.ensures
    c.new.ensures.items
