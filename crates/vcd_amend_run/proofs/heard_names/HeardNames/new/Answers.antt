use Rattle.std.proofs.Common.{◌≡◌, ℕ, Bool, true, false, length, map, nat_eq, get_or, cond, inl, inr, refl, sym, ap}
use Rattle.std.proofs.Common.{◌∙◌, subst, arith}
use Rattle.std.proofs.lemmas.Bool.{cases_eq}
use Rattle.std.proofs.lemmas.List.{get_or-map, length_push}
use Rattle.std.proofs.lemmas.Slice.Zip.{zip_turn}
use Rattle.std.specs.HashSet.{contains}
use Rattle.vcd_core.specs.CaptureContents.{signal_contents}
use Rattle.vcd_core.specs.Contents.{SignalContents, no_signal}
use Rattle.vcd_core.specs.Names.{full_name}
use Rattle.vcd_amend_run.specs.inside.NameHash.{name_hash}
use Rattle.vcd_amend_run.proofs.heard_names.HeardNames.new.Goals as goal

still_true : (b found : Bool) → found ≡ true → cond b true found ≡ true
still_true true found is = refl
still_true false found is = is

pub loop-signal-preserved-in_ok-insert : goal.loop-signal-preserved-in_ok-insert
loop-signal-preserved-in_ok-insert c =
    let yielded = c.loop-signal.yielded in
    let first : c.into_iter-signal-iterator.result.a.rest.now ≡ c.args.signals.now = cc in
    let second : c.into_iter-signal-iterator.result.b.rest.now ≡ c.args.heard.now = cc in
    let turn = zip_turn c.args.signals.now c.args.heard.now yielded c.into_iter-signal-iterator.result
    c.loop-signal.signal-iterator c.next.new.self c.next.result first second c.loop-signal.yielded_by
    (c.in-Some.signal, c.in-Some.is_heard) c.in-Some.is c.next.ensures.steps in
    let here : signal_contents c.in-Some.signal.now ≡ get_or (map signal_contents c.args.signals.now) (length yielded)
    no_signal =
    ap signal_contents (turn.2 c.in-Some.signal.now)
    ∙ sym (get_or-map signal_contents c.args.signals.now (length yielded) c.in-Some.signal.now no_signal turn.0) in
    let updates = c.in_ok-insert.ensures.updates in
    let added : contains nat_eq c.insert.new.self (name_hash (full_name (get_or (map signal_contents
    c.args.signals.now) (length yielded) no_signal))) ≡ true =
    ap (λ (s : SignalContents). contains nat_eq c.insert.new.self (name_hash (full_name s))) (sym here)
    ∙ ap (contains nat_eq c.insert.new.self) (sym (c.name_hash.ensures ∙ ap name_hash c.of.ensures))
    ∙ updates.1 in
    λ k below heard. elim (cases_eq k (length yielded)) [
      | inl same ↦ subst (λ (n : ℕ). contains nat_eq c.insert.new.self (name_hash (full_name (get_or (map
          signal_contents
          c.args.signals.now) n no_signal))) ≡ true) (sym same) added
      | inr other ↦ updates.0 _ ∙ still_true _ _ (c.loop-signal.invariant k (omega (
        arith,
        other,
        below,
        length_push
            yielded (c.in-Some.signal, c.in-Some.is_heard),
      )) heard)
    ]
