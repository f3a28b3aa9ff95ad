-- The words are not taken, or the request that they make is carried out.
use Rattle.std.proofs.Common.{[], List, subst, sym}
use Rattle.std.specs.Option.{unwrap_or}
use Rattle.vcd_compare.specs.declared.request.NameMap.{NameMap}
use Rattle.vcd_compare_program.specs.CommandLine.{options_in}
use Rattle.vcd_compare_program.specs.declared.compare_fault.CompareFault.TheVariants.{Words}
use Rattle.vcd_compare_program.specs.inside.Words.{AreMaps}
use Rattle.vcd_compare_program.proofs.program.Outcomes.{both_standard, carried_out, ends_with, maps_refused}
use Rattle.vcd_compare_program.proofs.program.Outcomes.{word_refused}
use Rattle.vcd_compare_program.proofs.program.run_options.Goals as goal

pub returns-in_err-maps : goal.returns-in_err-maps
returns-in_err-maps g c = ends_with (options_in c.args.options.now) c.from_residual.result c.in_err-maps.field-0.0
    c.from_residual.ensures.1 (maps_refused (options_in c.args.options.now) _ c.in_err-maps.ensures.fault)

pub returns-in_err-asked : goal.returns-in_err-asked
returns-in_err-asked g c =
    let o = options_in c.args.options.now in
    ends_with o c.from_residual-in_err-asked.result (Words c.in_err-asked.field-0.0)
    c.from_residual-in_err-asked.ensures.1 (word_refused o c.in_err-asked.field-0.0 c.in_err-asked.ensures.fault)

pub returns-in_err-refuse_two_standard : goal.returns-in_err-refuse_two_standard
returns-in_err-refuse_two_standard g c =
    let o = options_in c.args.options.now in
    let fault = c.in_err-refuse_two_standard.field-0.0 in
    let maps = subst (λ (ms : List NameMap). AreMaps (unwrap_or o.maps []) ms) (sym c.as_slice.ensures.value)
    c.in_ok-maps.ensures.maps in
    ends_with o c.from_residual-in_err-refuse_two_standard.result (Words fault)
    c.from_residual-in_err-refuse_two_standard.ensures.1
    (word_refused o fault (both_standard o c.in_ok-asked.asked (c.in_ok-asked.ensures.asked maps) fault
    c.in_err-refuse_two_standard.ensures))

pub returns : goal.returns
returns g c =
    let o = options_in c.args.options.now in
    let maps = subst (λ (ms : List NameMap). AreMaps (unwrap_or o.maps []) ms) (sym c.as_slice.ensures.value)
    c.in_ok-maps.ensures.maps in
    carried_out o c.in_ok-asked.asked c.run_request.result (c.in_ok-asked.ensures.asked maps) c.run_request.ensures
