use Rattle.std.proofs.Common.{◌≡◌, List, drop}
use Rattle.vcd_core.specs.declared.wave.Change.{Change}
use Rattle.vcd_core.specs.Contents.{Contents}
use Rattle.vcd_core.specs.Sound.{IsSound}
use Rattle.vcd_stream.specs.Pipelines.{FitsSignal, GivesSignal}
use Rattle.vcd_stream.specs.SignalEdits.{position_after_all, effect_of_all, HaveNoFault}
use Rattle.vcd_stream.specs.inside.SignalEdits.{HoldsBetween}
use Rattle.vcd_stream.proofs.pipeline.Pipeline.follow_all.Given as goal

-- where the edits so far left the signal, and what is then given
abbrev pub invariant-loop-edit : goal.invariant-loop-edit
invariant-loop-edit g l =
    let letters = g.V.Letters.letters in
    let left = drop l.edit-index l.edits in
    record {
      position : position_after_all left l.now ≡ position_after_all l.edits l.fn.position;
      width : l.self.width ≡ l.fn.self.width;
      fits : (c : Contents) → HaveNoFault l.edits c → FitsSignal l.fn.self c l.fn.position
          → HoldsBetween left (effect_of_all l.edits c) (λ d. FitsSignal l.self d l.now);
      gives : (fed : List Change) (c : Contents) → IsSound c → HaveNoFault l.edits c
          → GivesSignal letters l.fn.self fed c l.fn.position
          → HoldsBetween left (effect_of_all l.edits c) (λ d. IsSound d × GivesSignal letters l.self fed d l.now);
    }
