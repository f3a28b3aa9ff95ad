-- Each turn adds the first change of one signal.
use Rattle.std.proofs.Common.{◌≡◌, ◌<◌, ◌+◌, inl, inr, ℕ, List, [], ◌∷◌, ◌++◌, length, get_or, ap, ◌∙◌, arith}
use Rattle.std.proofs.lemmas.Bool.{cases_eq}
use Rattle.std.proofs.lemmas.List.{get_or_append_left, get_or_default, get_or_push, length_push}
use Rattle.vcd_core.specs.declared.capture.Signal.{Signal}
use Rattle.vcd_text.specs.declared.writing.cursors.Cursor.{Cursor}
use Rattle.vcd_text.specs.inside.writing.Cursors.{IsNext}
use Rattle.vcd_text.proofs.writing.cursors.first_changes.Goals as goal

one_more : (p : ℕ) (signals : List Signal) (cursors : List Cursor) (there : Signal) (next : Cursor) → p < length signals
    → length cursors ≡ p → there ≡ get_or signals p there → IsNext 1 1 there.wave.changes next
    → ((k : ℕ) (s : Signal) (n : Cursor) → k < p → IsNext 1 1 (get_or signals k s).wave.changes (get_or cursors k n))
    → (k : ℕ) (s : Signal) (n : Cursor) → k < p + 1
    → IsNext 1 1 (get_or signals k s).wave.changes (get_or (cursors ++ next ∷ []) k n)
one_more p signals cursors there next inside all is holds before k s n less =
    elim (cases_eq k p) [
      | inl at ↦ (grind (arith, get_or_default, get_or_push))
      | inr apart ↦
          rw (get_or_append_left cursors (next ∷ []) n k (omega (arith, all))) (before k s n (omega arith))
    ]

pub loop-signal-preserved : goal.loop-signal-preserved
loop-signal-preserved c =
    let kept = c.loop-signal.invariant in
    let p = c.loop-signal.signal-index in
    let cursors = c.loop-signal.cursors.items in
    let grown = c.in_ok-push.ensures.items in
    record {
      all = ap (length {A = Cursor}) grown ∙ length_push cursors c.first_change.result ∙ ap (λ n. n + 1) kept.all;
      each = λ k s n less. rw grown (one_more p c.args.signals.now cursors c.signal-item.result c.first_change.result
          (omega arith) kept.all
          c.signal-item.is c.first_change.ensures kept.each k s n less);
    }

pub returns : goal.returns
returns c = record {
  all = omega (arith, c.loop-signal.invariant.all);
  each = λ k s n inside. c.loop-signal.invariant.each k s n (omega arith);
}
