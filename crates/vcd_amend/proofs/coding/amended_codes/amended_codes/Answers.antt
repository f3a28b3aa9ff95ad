use Rattle.std.proofs.Common.{◌≡◌, ◌++◌, ◌∙◌, [], map, sym, ap}
use Rattle.vcd_core.specs.CaptureContents.{signal_contents}
use Rattle.vcd_amend.specs.AmendmentContents.{code_contents}
use Rattle.vcd_amend.specs.GivenCodes.{derived_new_wave}
use Rattle.vcd_amend.specs.inside.coding.ChangedWaves.{new_waves_of}
use Rattle.vcd_amend.specs.inside.coding.Codes.{codes_from}
use Rattle.vcd_amend.proofs.coding.amended_codes.amended_codes.Goals as goal

pub returns-clause-codes : goal.returns-clause-codes
returns-clause-codes c = λ s taken declared has.
    let knows = c.in_ok-known.ensures s declared in
    let some = c.in_ok-position.ensures.codes s taken knows has in
    let tail = map derived_new_wave (map signal_contents c.args.derived.now) in
    let none : map code_contents c.new-codes.result.items ≡ [] = ap (map code_contents) c.new-codes.ensures.items in
    c.in_ok-code_derived.ensures.codes s some.0 knows ∙ sym (some.1 tail)
    ∙ ap (λ l. l ++ codes_from s taken 0 (new_waves_of c.args.changed.now ++ tail)) none
