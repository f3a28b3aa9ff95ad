use Rattle.std.proofs.Common.{◌≡◌, List, Option, Some, None, refl, sym, ap, ◌∙◌}
use Rattle.std.specs.Prelude.{slice_get}
use Rattle.std.proofs.lemmas.Option.{slice_get_past, slice_get_read}
use Rattle.vcd_text.specs.inside.reading.Part.{seen_state}
use Rattle.vcd_text.specs.declared.reading.variables.Variable.{Variable}
use Rattle.vcd_text.proofs.reading.change_listener.HeardCodes.{first_of_variable, variable_at}
use Rattle.vcd_text.proofs.reading.change_stream.ChangeStream.first_of.Goals as goal

pub returns-in-Some : goal.returns-in-Some
returns-in-Some c state d (asked, at, listed) there =
    let m = c.args.self.now.reader.parser in
    let found = c.in-Some.ensures.lookup in
    first_of_variable m.variables (seen_state m.part state at.seen) at.variables c.args.position
    c.in-Some.variable.now d (ap (λ (vs : List Variable). slice_get vs c.args.position) (sym c.deref.ensures.value)
    ∙ slice_get_read c.deref.result.now _ c.args.position c.in-Some.variable.now refl found.3.0 found.1) there

pub returns-in-None : goal.returns-in-None
returns-in-None c state d (asked, at, listed) there =
    let m = c.args.self.now.reader.parser in
    let (v, is) = variable_at m.variables (seen_state m.part state at.seen) at.variables c.args.position d there in
    let none : ◌≡◌ {A = Option Variable} None (Some v) =
    sym (slice_get_past c.deref.result.now c.args.position c.in-None.ensures.lookup.3)
    ∙ ap (λ (vs : List Variable). slice_get vs c.args.position) c.deref.ensures.value ∙ is in
    absurd (cc none)
