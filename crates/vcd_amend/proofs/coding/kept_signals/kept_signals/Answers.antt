use Rattle.std.proofs.Common.{◌≡◌, ◌∙◌, ◌++◌, ◌∷◌, [], ◌+◌, ℕ, true, false, Option, List, length, map, sym, ap, ap₂}
use Rattle.std.proofs.Common.{arith, get_or, take}
use Rattle.std.specs.Global.{Vec}
use Rattle.std.proofs.lemmas.List.{length-append, map-append}
use Rattle.std.proofs.lemmas.Option.{slice_get_within, get_or_from_slice_get}
use Rattle.std.specs.List.{range_with_len}
use Rattle.vcd_core.specs.CaptureContents.{contents}
use Rattle.vcd_core.specs.Contents.{SignalContents, no_signal}
use Rattle.vcd_text.specs.Grammar.{is_skipped, kept_variables, VariableDeclaration}
use Rattle.vcd_amend.specs.declared.coding.kept_signal.KeptSignal.{KeptSignal}
use Rattle.vcd_core.specs.SignalOrigins.{signal_from}
use Rattle.vcd_amend.specs.DeclaredVariables.{declaration_of_variable}
use Rattle.vcd_amend.specs.inside.coding.KeptSignals.{kept_signals, kept_signal}
use Rattle.vcd_amend.specs.inside.coding.ChangedWaves.{kept_contents}
use Rattle.vcd_amend.proofs.coding.KeptSignals.{place_of, kept_next, skipped_next, next_row, kept_before}
use Rattle.vcd_amend.proofs.coding.kept_signals.kept_signals.Goals as goal
use Rattle.vcd_amend.proofs.coding.kept_signals.kept_signals.Goals.{then-not-is_skipped+in_ok-push, else-not-is_skipped}

pub kept_at-requires-clause-within : goal.kept_at-requires-clause-within
kept_at-requires-clause-within c =
    let ds = c.args.declared.now in
    let i = c.loop-variable.variable-index in
    let fs = (contents c.args.first.now).signals in
    let place = place_of declaration_of_variable ds i c.variable-item.result (omega arith) c.variable-item.is fs
    c.requires.sizes (sym c.is_skipped.ensures ∙ c.if-not-is_skipped.true) in
    let within = slice_get_within fs _ place.0 place.1 in
    omega (arith, within, c.len.ensures, c.loop-variable.invariant.count, c.loop-variable.kept.ok.0)

pub kept_at-requires-clause-size : goal.kept_at-requires-clause-size
kept_at-requires-clause-size c =
    let ds = c.args.declared.now in
    let i = c.loop-variable.variable-index in
    let fs = (contents c.args.first.now).signals in
    let place = place_of declaration_of_variable ds i c.variable-item.result (omega arith) c.variable-item.is fs
    c.requires.sizes (sym c.is_skipped.ensures ∙ c.if-not-is_skipped.true) in
    let position : c.len.result ≡ length (kept_before declaration_of_variable ds i c.variable-item.result (omega arith)
    c.variable-item.is) = omega (
      arith,
      c.len.ensures,
      c.loop-variable.invariant.count,
      c.loop-variable.kept.ok.0,
    ) in
    ap (λ n. (get_or fs n no_signal).width) position
    ∙ ap (λ (f : SignalContents). f.width) (get_or_from_slice_get fs _ place.0 no_signal place.1) ∙ place.2

pub loop-variable-preserved : goal.loop-variable-preserved
loop-variable-preserved c = elim c.if-not-is_skipped.branch [
  | then-not-is_skipped+in_ok-push w ↦
      let ds = c.args.declared.now in
      let i = c.loop-variable.variable-index in
      let x = c.variable-item.result in
      let fs = (contents c.args.first.now).signals in
      let lasts = (contents c.args.last.now).signals in
      let g : ℕ → Option SignalContents = λ k. signal_from k c.args.origins.now lasts in
      let kept : is_skipped (declaration_of_variable x) ≡ false = sym c.is_skipped.ensures ∙ w.if-not-is_skipped.true in
      let before : List VariableDeclaration = kept_variables (map declaration_of_variable (take i ds)) in
      let place = place_of declaration_of_variable ds i x (omega arith) c.variable-item.is fs c.requires.sizes kept in
      let within = slice_get_within fs _ place.0 place.1 in
      let position : w.len.result ≡ length before = omega (
        arith,
        w.len.ensures,
        c.loop-variable.invariant.count,
        c.loop-variable.kept.ok.0,
      ) in
      let next = next_row declaration_of_variable ds i x (omega arith) c.variable-item.is fs g kept within in
      let items : c.if-not-is_skipped.kept.items ≡ c.loop-variable.kept.items ++ w.kept_at.result ∷ [] = ap (λ (v : Vec
      KeptSignal). v.items) w.kept-is ∙ w.in_ok-push.ensures.items in
      let row : kept_contents w.kept_at.result ≡ kept_signal (declaration_of_variable x)
      (get_or fs (length before) no_signal).changes (g (length before)) =
      w.kept_at.ensures ∙ ap (λ n. kept_signal (declaration_of_variable x) (get_or fs n no_signal).changes (g n))
      position in
      record {
        rows = ap (map kept_contents) items ∙ map-append kept_contents c.loop-variable.kept.items _
            ∙ ap₂ (λ rows r. rows ++ r ∷ []) c.loop-variable.invariant.rows row ∙ sym next;
        count = ap length items ∙ length-append c.loop-variable.kept.items _
            ∙ ap (λ n. n + 1) c.loop-variable.invariant.count
            ∙ sym (ap length (kept_next declaration_of_variable ds i x (omega arith) c.variable-item.is kept)
            ∙ length-append before _);
      }
  | else-not-is_skipped w ↦
      let ds = c.args.declared.now in
      let i = c.loop-variable.variable-index in
      let x = c.variable-item.result in
      let fs = (contents c.args.first.now).signals in
      let skips : is_skipped (declaration_of_variable x) ≡ true = sym c.is_skipped.ensures
      ∙ w.if-not-is_skipped.false in
      let same = skipped_next declaration_of_variable ds i x (omega arith) c.variable-item.is skips in
      record {
        rows = ap (λ (v : Vec KeptSignal). map kept_contents v.items) w.kept-is ∙ c.loop-variable.invariant.rows
            ∙ ap (λ l. kept_signals l fs (map (λ k. signal_from k c.args.origins.now (contents c.args.last.now).signals)
            (range_with_len 0 (length fs)))) (sym same);
        count = ap (λ (v : Vec KeptSignal). length v.items) w.kept-is ∙ c.loop-variable.invariant.count
            ∙ ap length (sym same);
      }
]
