-- What is counted, if one more change is heard, and at the end of a file.
use Rattle.std.proofs.Common.{◌≡◌, ℕ, ◌+◌, ◌-◌, ◌^◌, ◌<◌, ◌≤◌, ◌==◌, min, Bool, ◌||◌, List, [], ◌∷◌, ◌++◌, length}
use Rattle.std.proofs.Common.{sym, ap, subst, ◌∙◌, arith, inr, if◌then◌else◌, Some, append-nil}
use Rattle.std.specs.List.{list_any}
use Rattle.std.proofs.lemmas.Bool.{ne_eqb}
use Rattle.std.proofs.lemmas.List.Sums.{fold-append}
use Rattle.vcd_core.specs.declared.capture.TheConstants.{END_LIMIT}
use Rattle.vcd_text.specs.Grammar.{ParseState}
use Rattle.vcd_text.specs.HeardChanges.{HeardChange}
use Rattle.vcd_text.specs.declared.reading.heard_changes.ChangeTarget.{ChangeTarget}
use Rattle.vcd_compare.specs.LeftOut.{same_target, is_change_at, replaced_of, left_out_of}
use Rattle.vcd_compare.specs.inside.LastTicks.{tick_kept, tick_after}
use Rattle.vcd_compare.specs.inside.LeftOut.{AreInOrder, HasCounted}
use Rattle.vcd_compare.specs.inside.Side.{IsHeardWhole}
use Rattle.vcd_compare.specs.declared.last_ticks.TheConstants.{NO_TICK}
use Rattle.vcd_compare.specs.declared.last_ticks.LastTicks.{LastTicks}
use Rattle.vcd_compare.specs.declared.left_out.LeftOut.{LeftOut}
use Rattle.vcd_compare.proofs.left_out.HeardOrder.{order_before, heard_are_few}
use Rattle.vcd_compare.proofs.left_out.Replaced.{one_more, few_replaced, last_is_same}

-- the last tick of the variable of a change is that of the change, if one before it is at this tick
same_as_before : (hs : List HeardChange) (h : HeardChange) (rest : List HeardChange) → AreInOrder (hs ++ h ∷ rest)
    → (tick_after NO_TICK h.target hs == h.tick) ≡ list_any (is_change_at h.target h.tick) hs
same_as_before hs h rest order =
    let (rise, upto) = order_before 0 END_LIMIT hs h rest order in
    let late : h.tick < NO_TICK = omega (arith, upto) in
    last_is_same h.target h.tick NO_TICK 0 hs rise (inr late)
    ∙ ap (λ b. b || list_any (is_change_at h.target h.tick) hs)
    (ne_eqb NO_TICK h.tick (λ same. omega (arith, late, same)))

-- what is left out, if so many more changes are replaced
abbrev pub with_more : LeftOut → (more : ℕ) → LeftOut
with_more left_out more = record { replaced = min (left_out.replaced + more) (2 ^ 64 - 1) }

-- so far none of more changes was counted
pub counted_no_more : (hs : List HeardChange) (left_out : LeftOut) (last_ticks : LastTicks)
    → HasCounted hs left_out last_ticks → HasCounted (hs ++ []) (with_more left_out 0) last_ticks
counted_no_more hs left_out last_ticks has =
    subst (λ all. HasCounted all (with_more left_out 0) last_ticks) (sym (append-nil hs))
    (record { replaced = omega (arith, has.replaced); ticks = has.ticks })

-- nothing was heard
pub counted_none : (left_out : LeftOut) (last_ticks : LastTicks) → left_out ≡ left_out_of []
    → ((target : ChangeTarget) → tick_kept last_ticks target ≡ NO_TICK) → HasCounted [] left_out last_ticks
unfolding replaced_of
counted_none left_out last_ticks is none =
    record { replaced = ap (λ (l : LeftOut). l.replaced) is; ticks = none }

-- one more change was counted
pub counted_one : (hs : List HeardChange) (h : HeardChange) (rest : List HeardChange) (was now : LeftOut)
    (old new : LastTicks) (same : Bool) (added : ℕ) → AreInOrder (hs ++ h ∷ rest) → HasCounted hs was old
    → same ≡ (tick_kept old h.target == h.tick)
    → ((other : ChangeTarget) → tick_kept new other
    ≡ (if same_target h.target other then h.tick else tick_kept old other))
    → added ≡ (if same then 1 else 0) → now.replaced ≡ min (was.replaced + added) (2 ^ 64 - 1)
    → HasCounted (hs ++ h ∷ []) now new
counted_one hs h rest was now old new same added order has is sets adds counts =
    let found : same ≡ list_any (is_change_at h.target h.tick) hs =
    is ∙ ap (λ t. t == h.tick) (has.ticks h.target) ∙ same_as_before hs h rest order in
    let one : added ≡ (if list_any (is_change_at h.target h.tick) hs then 1 else 0) =
    adds ∙ ap (λ b. if b then 1 else 0) found in
    let more : replaced_of (hs ++ h ∷ []) ≡ replaced_of hs + added =
    one_more hs h ∙ ap (λ n. replaced_of hs + n) (sym one) in
    record {
      replaced = omega (arith, counts, has.replaced, more);
      ticks = λ target. sets target
          ∙ ap (λ t. if same_target h.target target then h.tick else t) (has.ticks target)
          ∙ sym (fold-append (λ (tick : ℕ) (g : HeardChange). if same_target g.target target then g.tick else tick)
          NO_TICK hs (h ∷ []));
    }

-- what was counted of a whole file
pub counted_whole : (file : List ℕ) (state : ParseState) (heard : List HeardChange) (left_out : LeftOut)
    (last_ticks : LastTicks) → IsHeardWhole (Some file) state heard → HasCounted heard left_out last_ticks
    → left_out ≡ left_out_of heard
counted_whole file state heard left_out last_ticks (short, is) has =
    let few : length heard ≤ length file = heard_are_few file state heard is in
    let count : left_out.replaced ≡ replaced_of heard =
    omega (arith, has.replaced, few, short, few_replaced heard) in
    λ i. record { replaced = count i }
