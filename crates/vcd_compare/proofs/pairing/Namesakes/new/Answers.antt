use Rattle.std.proofs.Common.{◌≡◌, ◌∙◌, ◌++◌, ◌∷◌, [], ℕ, suc, List, length, refl, sym, ap, subst, arith}
use Rattle.std.proofs.Common.{append_assoc, if◌then◌else◌, Some}
use Rattle.std.specs.Prelude.{bytes_eq}
use Rattle.std.specs.Map.{lookup}
use Rattle.std.proofs.lemmas.List.{append-nil, length-append}
use Rattle.std.specs.Global.{Vec}
use Rattle.vcd_compare.specs.inside.Pairing.{texts, index_in, HasNamesakesFrom}
use Rattle.vcd_compare.proofs.pairing.Maps.{index_put}
use Rattle.vcd_compare.proofs.pairing.Walks.{listed_more}
use Rattle.vcd_compare.proofs.pairing.Namesakes.new.Goals as goal

pub loop-name-init : goal.loop-name-init
loop-name-init c = record {
  later = [];
  whole = sym (append-nil c.args.names.items);
  listed = record {
    first_is = λ name. ap (λ es. lookup (λ (key : Vec ℕ). bytes_eq name key.items) es) c.new-first.ensures.empty;
    next_is = c.new-next.ensures.items;
  };
}

pub loop-name-smaller : goal.loop-name-smaller
loop-name-smaller c = omega (
  arith,
  ap (λ (l : List (Vec ℕ)). length l) c.in-Some.ensures.items,
  length-append c.pop.new.self.items (c.in-Some.name ∷ []),
)

pub loop-name-preserved : goal.loop-name-preserved
loop-name-preserved c =
    let kept = c.loop-name.invariant in
    let rest = c.pop.new.self.items in
    let name = c.in-Some.name in
    let all : c.loop-name.left.items ≡ rest ++ name ∷ [] = c.in-Some.ensures.items in
    let size : length c.loop-name.left.items ≡ suc (length rest) =
    ap (λ (l : List (Vec ℕ)). length l) all ∙ omega (arith, length-append rest (name ∷ [])) in
    let at : c.len.result ≡ length rest = omega (arith, c.len.ensures, c.pop.new.self.ok.0) in
    record {
      later = name ∷ kept.later;
      whole = kept.whole ∙ ap (λ l. l ++ kept.later) all ∙ append_assoc rest (name ∷ []) kept.later;
      listed = listed_more (length rest) (texts kept.later) name.items c.loop-name.first c.insert.new.self
          c.loop-name.next.items c.push.new.self.items c.in_ok-later.later
          (subst (λ n. HasNamesakesFrom n (texts kept.later) c.loop-name.first c.loop-name.next.items) size kept.listed)
          (λ key. index_put c.loop-name.first c.insert.new.self name c.len.result c.in_ok-later.ensures.updates key
          ∙ ap (λ n. if bytes_eq key name.items then Some n else index_in c.loop-name.first key) at)
          c.in_ok-later.ensures.old c.in_ok-push.ensures.items;
    }

no_items : (vs : List (Vec ℕ)) → length vs ≡ 0 → vs ≡ []
no_items [] none = refl
no_items (v ∷ vs) none = absurd (omega (arith, none))

pub returns : goal.returns
returns c =
    let kept = c.loop-name.invariant in
    let left = c.loop-name.left in
    let none : left.items ≡ [] = no_items left.items (omega (arith, left.ok.0, c.in_default.ensures.cases.0)) in
    subst (λ (vs : List (Vec ℕ)). HasNamesakesFrom 0 (texts vs) c.loop-name.first c.loop-name.next.items)
    (sym (kept.whole ∙ ap (λ l. l ++ kept.later) none))
    (subst (λ n. HasNamesakesFrom n (texts kept.later) c.loop-name.first c.loop-name.next.items)
    (ap (λ (l : List (Vec ℕ)). length l) none) kept.listed)
