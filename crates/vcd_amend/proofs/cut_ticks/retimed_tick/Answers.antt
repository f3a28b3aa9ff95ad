use Rattle.std.proofs.Common.{◌≡◌, ◌∙◌, ◌+◌, ◌||◌, ◌<◌, ◌≤◌, ℕ, zero, suc, Bool, true, false, List, [], refl, sym, ap}
use Rattle.std.proofs.Common.{ap₂, drop}
use Rattle.std.proofs.Common.{length, arith, get_or}
use Rattle.std.proofs.lemmas.List.{drop_all, drop_more}
use Rattle.vcd_amend.specs.Retimed.{new_tick}
use Rattle.vcd_amend.specs.RetimedLaws.{is_in_cut}
use Rattle.vcd_amend.specs.RetimedCopy.{is_cut_by}
use Rattle.vcd_amend.specs.declared.cut_ticks.CutTicks.{CutTicks}
use Rattle.vcd_amend.specs.inside.CutTicks.{later}
use Rattle.vcd_amend.proofs.retimed.Ticks.{of_either}
use Rattle.vcd_amend.proofs.cut_ticks.retimed_tick.Goals as goal

either_of : (a b c : Bool) → ((a || b) || c) ≡ (a || (b || c))
either_of true b c = refl
either_of false b c = refl

-- whether a tick is cut out by the cuts that are left, after one more
one_more : (cuts : List CutTicks) (k : ℕ) (d : CutTicks) (was now : Bool) (t u : ℕ) → k < length cuts →
    let cut : CutTicks = get_or cuts k d in
    now ≡ (was || is_in_cut cut.from cut.to t) → u ≡ new_tick (is_in_cut cut.from cut.to) t
    → (now || is_cut_by (drop (k + 1) cuts) u) ≡ (was || is_cut_by (drop k cuts) t)
unfolding is_cut_by
one_more cuts k d was now t u within cut tick =
    let item = get_or cuts k d in
    ap₂ (λ b v. b || is_cut_by (drop (k + 1) cuts) v) cut tick
    ∙ either_of was (is_in_cut item.from item.to t) _
    ∙ ap (λ (l : List CutTicks). was || is_cut_by l t) (sym (drop_more cuts k d within))

same_tick : (cuts : List CutTicks) (k : ℕ) (d : CutTicks) (t u : ℕ) → k < length cuts →
    let cut : CutTicks = get_or cuts k d in
    u ≡ new_tick (is_in_cut cut.from cut.to) t
    → new_tick (is_cut_by (drop (k + 1) cuts)) u ≡ new_tick (is_cut_by (drop k cuts)) t
unfolding is_cut_by
same_tick cuts k d t u within tick =
    let item = get_or cuts k d in
    ap (new_tick (is_cut_by (drop (k + 1) cuts))) tick
    ∙ sym (of_either (is_in_cut item.from item.to) (is_cut_by (drop (k + 1) cuts)) t)
    ∙ ap (λ (l : List CutTicks). new_tick (is_cut_by l) t) (sym (drop_more cuts k d within))

none_left : (b : Bool) (cuts : List CutTicks) (k t : ℕ) → length cuts ≤ k → b ≡ (b || is_cut_by (drop k cuts) t)
unfolding is_cut_by
none_left true cuts k t past = refl
none_left false cuts k t past = sym (ap (λ (l : List CutTicks). is_cut_by l t) (drop_all k cuts past))

own_tick : (t : ℕ) → t ≡ new_tick (is_cut_by []) t
unfolding new_tick is_cut_by
own_tick zero = refl
own_tick (suc t) = omega (arith, own_tick t)

pub loop-cut-preserved : goal.loop-cut-preserved
loop-cut-preserved c =
    let cuts = c.args.cuts.now in
    let k = c.loop-cut.cut-index in
    let was = c.loop-cut.found in
    let now = c.after_cut-found.result in
    let kept = c.loop-cut.invariant in
    let made = c.after_cut-found.ensures in
    let through = c.ticks_through-ticks.ensures in
    let d : CutTicks = record { from = 0; to = 0 } in
    record {
      cut = one_more cuts k d was.is_cut _ was.tick _ (omega arith) made.cut made.tick ∙ kept.cut;
      tick = same_tick cuts k d was.tick _ (omega arith) made.tick ∙ kept.tick;
      cut_later = λ more few.
          let both = through.goes_on more few now made.cut made.tick in
          one_more cuts k d was.is_cut _ (later was more) _ (omega arith) both.0 both.1
          ∙ kept.cut_later more (omega (arith, through.fewer, few));
      tick_later = λ more few.
          let both = through.goes_on more few now made.cut made.tick in
          same_tick cuts k d (later was more) _ (omega arith) both.1
          ∙ kept.tick_later more (omega (arith, through.fewer, few));
    }

pub returns-clause-cut : goal.returns-clause-cut
returns-clause-cut c = none_left c.loop-cut.found.is_cut c.args.cuts.now c.loop-cut.cut-index c.loop-cut.found.tick
    (omega arith) ∙ c.loop-cut.invariant.cut

pub returns-clause-tick : goal.returns-clause-tick
returns-clause-tick c = own_tick c.loop-cut.found.tick
    ∙ ap (λ (l : List CutTicks). new_tick (is_cut_by l) c.loop-cut.found.tick)
    (sym (drop_all c.loop-cut.cut-index c.args.cuts.now (omega arith))) ∙ c.loop-cut.invariant.tick

pub returns-clause-goes_on : goal.returns-clause-goes_on
returns-clause-goes_on c = λ more few.
    let found = c.loop-cut.found in
    let k = c.loop-cut.cut-index in
    let cuts = c.args.cuts.now in (
      sym (none_left found.is_cut cuts k (later found more) (omega arith) ∙ c.loop-cut.invariant.cut_later more few),
      sym (own_tick (later found more)
          ∙ ap (λ (l : List CutTicks). new_tick (is_cut_by l) (later found more)) (sym (drop_all k cuts (omega arith)))
          ∙ c.loop-cut.invariant.tick_later more few),
    )
