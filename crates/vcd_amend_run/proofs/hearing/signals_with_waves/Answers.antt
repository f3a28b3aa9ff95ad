use Rattle.std.proofs.Common.{◌≡◌, ◌++◌, Bool, List, [], ◌∷◌, if◌then◌else◌, drop, map, refl, sym, ap, ◌∙◌}
use Rattle.std.specs.Prelude.{Option, Some, None, option_map}
use Rattle.std.specs.Vec.Iter.{into_iter_items}
use Rattle.std.proofs.lemmas.List.{append_assoc, map-append}
use Rattle.vcd_core.specs.declared.capture.Signal.{Signal}
use Rattle.vcd_core.specs.CaptureContents.{signal_contents}
use Rattle.vcd_core.specs.Contents.{SignalContents}
use Rattle.vcd_amend_run.specs.inside.HeardNames.{hears}
use Rattle.vcd_amend_run.specs.inside.WithWaves.{with_next_wave, and_others, with_waves}
use Rattle.vcd_amend_run.proofs.hearing.signals_with_waves.Goals as goal

-- one more is done
one_done : (done : List SignalContents) (s : SignalContents) (rest : Option (List SignalContents))
    → option_map (λ ss. done ++ ss) (option_map (λ ss. s ∷ ss) rest) ≡ option_map (λ ss. (done ++ s ∷ []) ++ ss) rest
one_done done s None = refl
one_done done s (Some ss) = ap Some (sym (append_assoc done (s ∷ []) ss))

one_more : (takes : SignalContents → Bool) (all : Option (List SignalContents)) (signals rest : List Signal)
    (signal heard : Signal) (taken left done new : List Signal) → signals ≡ signal ∷ rest
    → Some (signal_contents heard)
    ≡ with_next_wave (takes (signal_contents signal)) (signal_contents signal) (map signal_contents taken)
    → map signal_contents left
    ≡ drop (if takes (signal_contents signal) then 1 else 0) (map signal_contents taken)
    → new ≡ done ++ heard ∷ []
    → all ≡ option_map (λ ss. map signal_contents done ++ ss)
    (with_waves takes (map signal_contents signals) (map signal_contents taken))
    → all ≡ option_map (λ ss. map signal_contents new ++ ss)
    (with_waves takes (map signal_contents rest) (map signal_contents left))
one_more takes all signals rest signal heard taken left done new first next others pushed is =
    let more : map signal_contents done ++ signal_contents heard ∷ [] ≡ map signal_contents new =
    sym (ap (map signal_contents) pushed ∙ map-append signal_contents done (heard ∷ [])) in
    is
    ∙ (λ i. option_map (λ ss. map signal_contents done ++ ss)
    (with_waves takes (map signal_contents (first i)) (map signal_contents taken)))
    ∙ (λ i. option_map (λ ss. map signal_contents done ++ ss)
    (and_others (sym next i) (with_waves takes (map signal_contents rest) (sym others i))))
    ∙ one_done (map signal_contents done) (signal_contents heard)
    (with_waves takes (map signal_contents rest) (map signal_contents left))
    ∙ λ i. option_map (λ ss. more i ++ ss)
    (with_waves takes (map signal_contents rest) (map signal_contents left))

pub loop-signal-preserved : goal.loop-signal-preserved
loop-signal-preserved c =
    one_more (hears c.args.names.now) _ c.loop-signal.signal-iterator.rest.items _ c.in-Some.signal
    c.in-Some-taken_signal.heard (into_iter_items c.loop-signal.taken) _ c.loop-signal.all.items _
    c.in-Some.ensures.steps.0 c.in-Some-taken_signal.ensures.signal c.in-Some-taken_signal.ensures.left
    c.in_ok-push-in-Some-taken_signal.ensures.items c.loop-signal.invariant
