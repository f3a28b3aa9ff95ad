use Rattle.std.proofs.Common.{◌≡◌, ◌∙◌, inr, refl, ap}
use Rattle.vcd_text.specs.Grammar.{is_skipped}
use Rattle.vcd_text.specs.inside.reading.Variables.{declaration_of_parts, declaration_in}
use Rattle.vcd_text.specs.declared.reading.log.TheConstants.{NOTHING_EXPECTED}
use Rattle.vcd_text.specs.declared.reading.variables.Variable.{Variable}
use Rattle.vcd_text.proofs.reading.variables.VariablesMatch.{scopes_moved}
use Rattle.vcd_text.proofs.reading.variables.Variables.keep.Goals as goal
use Rattle.vcd_text.proofs.shared.FailedResults.{err_is}

pub returns-in_err-first : goal.returns-in_err-first
returns-in_err-first c = λ state k value_changes keeps.
    let d = declaration_of_parts state c.args.kind c.args.width c.args.code.now c.args.name.items in
    rw (err_is _ c.from_residual.ensures.1) (inr (c.in_err-first.ensures.mixed state d k refl refl keeps))

pub returns : goal.returns
returns c = λ state k value_changes keeps.
    let d = declaration_of_parts state c.args.kind c.args.width c.args.code.now c.args.name.items in
    let v : Variable = record {
      place = c.place.result;
      kind = c.args.kind;
      words = c.new.result;
      wave = c.new-2.result;
      first = c.in_ok-first.first;
      expected_room = NOTHING_EXPECTED;
    } in
    let same : declaration_in state.scopes c.args.code.now v ≡ d = λ i. declaration_of_parts state c.args.kind
    (c.new-2.ensures.width i) c.args.code.now ((c.new.ensures ∙ c.from_vec.ensures) i) in
    rw same at (c.add.ensures state (scopes_moved c.args.self.now c.place.new.self state state.scopes
    (c.place.ensures.opened ∙ k.opened) c.place.ensures.places k) value_changes (ap is_skipped same ∙ keeps))
