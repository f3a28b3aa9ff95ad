use Rattle.std.proofs.Common.{◌≡◌, ◌∙◌, map, length, drop, refl, sym, subst, ap, ap₂, arith}
use Rattle.std.specs.List.{range_with_len, drop-map}
use Rattle.std.proofs.lemmas.List.{length-map}
use Rattle.vcd_core.specs.CaptureContents.{contents, signal_contents}
use Rattle.vcd_text.specs.Grammar.{ParseState, initial_state, kept_variables}
use Rattle.vcd_amend.specs.Amendment.{Amendment}
use Rattle.vcd_amend.specs.AmendedMeaning.{AreApart}
use Rattle.vcd_amend.specs.DeclaredVariables.{declaration_of_variable}
use Rattle.vcd_amend.proofs.coding.AmendmentForCapture.{codes_apart, same_amendment}
use Rattle.vcd_core.specs.SignalOrigins.{signal_from}
use Rattle.vcd_amend.specs.FreshCodes.{fresh_code}
use Rattle.vcd_amend.specs.inside.coding.KeptSignals.{kept_signals, amendment_of_kept}
use Rattle.vcd_amend.specs.inside.coding.ChangedWaves.{kept_contents}
use Rattle.vcd_amend.proofs.coding.KeptSignals.{come_long}
use Rattle.vcd_amend.proofs.coding.amendment_for.Goals as goal

pub derived_signals-derived-requires : goal.derived_signals-derived-requires
derived_signals-derived-requires c =
    let xs = c.args.last.now.signals in
    let long = come_long (contents c.args.first.now) c.args.origins.now (map signal_contents xs) c.requires.come in
    omega (arith, long, length-map xs signal_contents, ap length c.signals.ensures)

pub returns-clause-made : goal.returns-clause-made
returns-clause-made c = λ s whole declared knows.
    let fs = (contents c.args.first.now).signals in
    let xs = c.args.last.now.signals in
    let n = length c.args.origins.now in
    let ls = map (λ k. signal_from k c.args.origins.now (map signal_contents xs)) (range_with_len 0 (length fs)) in
    let derived = drop n (map signal_contents xs) in
    let rows : map kept_contents c.as_slice.result.now ≡ kept_signals (kept_variables s.declared) fs ls =
    ap (map kept_contents) c.as_slice.ensures.value ∙ c.in_ok-kept.ensures
    ∙ ap (λ ds. kept_signals (kept_variables ds) fs ls) declared in
    let rest : map signal_contents c.derived_signals-derived.result.now ≡ derived =
    ap (map signal_contents) (c.derived_signals-derived.ensures ∙ ap (drop n) c.signals.ensures)
    ∙ sym (drop-map signal_contents n xs) in
    c.in_ok-amendment.ensures s declared ∙ ap₂ (amendment_of_kept (fresh_code s)) rows rest
    ∙ sym (same_amendment s fs ls whole derived knows)

pub returns-clause-apart : goal.returns-clause-apart
returns-clause-apart c =
    let s : ParseState = record (initial_state 0) { declared = map declaration_of_variable c.args.declared.now } in
    let fs = (contents c.args.first.now).signals in
    let xs = c.args.last.now.signals in
    let ls = map (λ k. signal_from k c.args.origins.now (map signal_contents xs)) (range_with_len 0 (length fs)) in
    let rows : map kept_contents c.as_slice.result.now ≡ kept_signals (kept_variables s.declared) fs ls =
    ap (map kept_contents) c.as_slice.ensures.value ∙ c.in_ok-kept.ensures in
    subst (λ (a : Amendment). AreApart a.codes)
    (sym (c.in_ok-amendment.ensures s refl
    ∙ ap (λ ks. amendment_of_kept (fresh_code s) ks (map signal_contents c.derived_signals-derived.result.now)) rows))
    (codes_apart s fs ls (map signal_contents c.derived_signals-derived.result.now))
