use Rattle.std.proofs.Common.{◌≡◌, ◌∙◌, ◌++◌, ◌∷◌, [], Bool, true, false, List, refl, sym, ap, ap₂, reverse, arith}
use Rattle.std.proofs.Common.{append_assoc, length, if◌then◌else◌}
use Rattle.std.proofs.lemmas.List.{append-nil, reverse-append, length-append}
use Rattle.vcd_amend.specs.declared.amending.held_changes.HeldChange.{HeldChange}
use Rattle.vcd_amend.specs.inside.amending.HeldChanges.{last_held, held_before, is_replaced}
use Rattle.vcd_amend.proofs.amending.held_changes.last_held.Goals as goal

-- at most one is the same in either order
one_reversed : (h : HeldChange) (a b : Bool)
    → reverse (if a then [] else (if b then h ∷ [] else [])) ≡ (if a then [] else (if b then h ∷ [] else []))
one_reversed h true b = refl
one_reversed h false true = refl
one_reversed h false false = refl

one_more : (h : HeldChange) (later old new : List HeldChange) → new ≡ old ++ held_before h later
    → reverse old ≡ last_held later → reverse new ≡ last_held (h ∷ later)
unfolding last_held
one_more h later old new is so_far =
    ap reverse is ∙ reverse-append old (held_before h later)
    ∙ ap₂ (λ x y. x ++ y) (one_reversed h (is_replaced h later) h.is_held) so_far

pub loop-change-init : goal.loop-change-init
unfolding last_held
loop-change-init c = record {
  later = [];
  whole = sym (append-nil c.args.changes.items);
  held = ap reverse c.new-held.ensures.items;
  seen = c.new-seen.ensures;
}

pub loop-change-smaller : goal.loop-change-smaller
loop-change-smaller c = omega (
  arith,
  ap (λ (l : List HeldChange). length l) c.in-Some.ensures.items,
  length-append c.pop.new.self.items (c.in-Some.change ∷ []),
)

pub loop-change-preserved : goal.loop-change-preserved
loop-change-preserved c =
    let kept = c.loop-change.invariant in
    let taken = c.in_ok-take_last.ensures in
    record {
      later = c.in-Some.change ∷ kept.later;
      whole = kept.whole ∙ ap (λ l. l ++ kept.later) c.in-Some.ensures.items
          ∙ append_assoc c.pop.new.self.items (c.in-Some.change ∷ []) kept.later;
      held = one_more c.in-Some.change kept.later c.loop-change.held.items _ (taken.held kept.later kept.seen)
          kept.held;
      seen = taken.seen kept.later kept.seen;
    }

no_items : (hs : List HeldChange) → length hs ≡ 0 → hs ≡ []
no_items [] none = refl
no_items (h ∷ hs) none = absurd (omega (arith, none))

pub returns : goal.returns
returns c =
    let kept = c.loop-change.invariant in
    let left = c.loop-change.left in
    let none : left.items ≡ [] =
    no_items left.items (omega (arith, left.ok.0, c.in_default.ensures.cases.0)) in
    c.reverse.ensures.items ∙ kept.held
    ∙ ap last_held (sym (kept.whole ∙ ap (λ l. l ++ kept.later) none))
