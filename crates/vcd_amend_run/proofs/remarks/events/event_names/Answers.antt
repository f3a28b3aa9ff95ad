use Rattle.std.proofs.Common.{map, ap, ◌∙◌}
use Rattle.std.proofs.lemmas.Result.{IfOk-weaker}
use Rattle.vcd_text.specs.AsDeclared.{declared_name}
use Rattle.vcd_amend.specs.DeclaredVariables.{declarations_of}
use Rattle.vcd_amend.specs.inside.coding.Codes.{has_code}
use Rattle.vcd_amend_run.proofs.remarks.EventsLeftOut.{left_out_are}
use Rattle.vcd_amend_run.proofs.remarks.events.event_names.Goals as goal

pub returns : goal.returns
returns c = IfOk-weaker c.names_without.result _ _
    (λ names is. is ∙ ap (map declared_name) (left_out_are (has_code c.in_ok-lasting.lasting)
    (declarations_of c.args.declared.now) c.in_ok-lasting.ensures))
    c.names_without.ensures
