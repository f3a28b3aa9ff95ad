-- One signal more is added.
use Rattle.std.proofs.Common.{◌≡◌, ◌∙◌, ◌+◌, ◌++◌, ◌∷◌, [], ℕ, List, Some, map, take, sym, ap, subst, arith}
use Rattle.std.specs.Prelude.{slice_get}
use Rattle.std.proofs.lemmas.List.{append_assoc, map-append, take_more}
use Rattle.std.proofs.lemmas.Option.{get_or_from_slice_get, slice_get_within}
use Rattle.vcd_core.specs.Contents.{SignalContents}
use Rattle.vcd_text.specs.AsDeclared.{signal_declared}
use Rattle.vcd_text.specs.inside.reading.DeclaredSignals.{declared_contents}
use Rattle.vcd_compare_program.specs.CaptureFacts.{VariableFacts, facts_declared}
use Rattle.vcd_compare_program.specs.inside.Facts.{AreReported}
use Rattle.vcd_compare_program.proofs.variable_facts.ReportedVariables.push_signals.Goals as goal

more_declared : (vs : List VariableFacts) (signals : List SignalContents) (k : ℕ) (s : SignalContents)
    → slice_get signals k ≡ Some s → vs ++ map facts_declared (take (k + 1) signals)
    ≡ (vs ++ map facts_declared (take k signals)) ++ facts_declared s ∷ []
more_declared vs signals k s there =
    let within = slice_get_within signals k s there in
    let more : take (k + 1) signals ≡ take k signals ++ s ∷ [] =
    take_more signals k s (omega (arith, within))
    ∙ ap (λ (x : SignalContents). take k signals ++ x ∷ []) (get_or_from_slice_get signals k s s there) in
    ap (λ (l : List SignalContents). vs ++ map facts_declared l) more
    ∙ ap (λ (l : List VariableFacts). vs ++ l) (map-append facts_declared (take k signals) (s ∷ []))
    ∙ sym (append_assoc vs (map facts_declared (take k signals)) (facts_declared s ∷ []))

pub loop-position-preserved : goal.loop-position-preserved
loop-position-preserved c = λ vs are.
    let signals = declared_contents c.args.signals.now in
    let s = signal_declared c.get-signal.result in
    let before = vs ++ map facts_declared (take c.loop-position.position signals) in
    let added = c.in_ok-push.ensures before (c.loop-position.invariant vs are) in
    subst (λ (ws : List VariableFacts). AreReported ws c.push.new.self)
    ((λ i. before ++ record { name = c.in_ok-name_of.ensures i; kind = s.kind; width = s.width } ∷ [])
    ∙ sym (more_declared vs signals c.loop-position.position s c.get-signal.ensures)) added
