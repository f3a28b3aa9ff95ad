use Rattle.std.proofs.Common.{◌≡◌, ◌++◌, ◌∷◌, [], List, length, append_assoc, sym, subst, ◌∙◌, arith}
use Rattle.std.proofs.lemmas.List.{append-nil}
use Rattle.indexmap.proofs.SetLemmas.{AllZip-push}
use Rattle.vcd_compare.specs.inside.Pairs.{AreTold, IsToldOf}
use Rattle.vcd_compare.specs.declared.pairs.SignalPair.{SignalPair}
use Rattle.vcd_compare.proofs.pairs.Pairs.finish.Goals as goal

-- none is left
all_taken : (all taken rest : List SignalPair) → all ≡ taken ++ rest → length rest ≡ 0 → taken ≡ all
all_taken all taken [] split none = sym (split ∙ append-nil taken)
all_taken all taken (p ∷ rest) split none = absurd (omega arith)

pub loop-pair-preserved : goal.loop-pair-preserved
loop-pair-preserved c =
    let ys = c.loop-pair.yielded in
    let x = c.in-Some.pair in
    let rest = c.next.new.self.rest.items in
    let all : c.args.self.all.items ≡ ys ++ x ∷ rest = grind arith in
    record {
      all = all ∙ sym (append_assoc ys (x ∷ []) rest);
      told = λ small.
          subst (AreTold c.args.self.bounds c.args.last (ys ++ x ∷ [])) (sym c.in_ok-push.ensures.items)
          (AllZip-push (IsToldOf c.args.self.bounds c.args.last) ys c.loop-pair.told.items x _
          (c.loop-pair.invariant.told small) (c.in_ok-one.ensures small));
    }

pub returns : goal.returns
returns c small =
    subst (λ l. AreTold c.args.self.bounds c.args.last l c.loop-pair.told.items)
    (all_taken c.args.self.all.items c.loop-pair.yielded c.loop-pair.pair-iterator.rest.items c.loop-pair.invariant.all
    (omega (arith, c.in-None.ensures.steps.0, c.loop-pair.pair-iterator.rest.ok.0)))
    (c.loop-pair.invariant.told small)
