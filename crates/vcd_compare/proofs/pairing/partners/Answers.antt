use Rattle.std.proofs.Common.{◌≡◌, ◌∙◌, ◌+◌, ◌++◌, ◌∷◌, [], ℕ, List, Option, Some, length, map, refl, sym, ap, subst}
use Rattle.std.proofs.Common.{arith, append_assoc, if◌then◌else◌, length-append}
use Rattle.std.proofs.Common.{◌<◌, None}
use Rattle.std.specs.Prelude.{bytes_eq, IfSome, slice_index_or}
use Rattle.std.specs.List.{range_with_len, slice_get}
use Rattle.std.specs.Map.{lookup}
use Rattle.std.proofs.lemmas.List.{length-map}
use Rattle.std.proofs.lemmas.List.FromFn.{map-range_with_len_more, length-map-range_with_len}
use Rattle.std.specs.Global.{Vec}
use Rattle.vcd_compare.specs.Pairs.{name_at, partner_of}
use Rattle.vcd_compare.specs.inside.Pairing.{texts, index_in, positions_from, partner_after, IsLast}
use Rattle.vcd_compare.proofs.pairing.Maps.{index_put}
use Rattle.vcd_compare.proofs.pairing.Walks.{next_by, last_more, each_partner, before_within, before_listed}
use Rattle.vcd_compare.proofs.pairing.Walks.{name_at_seam}
use Rattle.vcd_compare.proofs.pairing.partners.Goals as goal

pub loop-name-init : goal.loop-name-init
loop-name-init c = record {
  all = sym c.into_iter-name-iterator.ensures.into_iter_gives.0;
  paired = c.in_ok-partners.ensures.items;
  last_is = λ name. subst (IsLast (texts c.args.names.items) 0 name)
      (sym (ap (λ es. lookup (λ (key : Vec ℕ). bytes_eq name key.items) es) c.new-last.ensures.empty)) refl;
}

pub partner_after-partner-requires-clause-within : goal.partner_after-partner-requires-clause-within
partner_after-partner-requires-clause-within c =
    let ns = texts c.args.names.items in
    let os = texts c.args.others.items in
    let x = c.in-Some.name.items in
    let i = length c.loop-name.yielded in
    let last : IsLast ns i x c.in_ok-before.before =
    subst (IsLast ns i x) (sym c.in_ok-before.ensures.old) (c.loop-name.invariant.last_is x) in
    subst (λ (l : List (Option ℕ)). IfSome c.in_ok-before.before (λ k. k < length l)) (sym c.deref.ensures.value)
    (before_within ns os i x c.in_ok-before.before c.loop-name.partners.items c.loop-name.invariant.paired last)

pub partner_after-partner-requires-clause-listed : goal.partner_after-partner-requires-clause-listed
partner_after-partner-requires-clause-listed c =
    let ns = texts c.args.names.items in
    let os = texts c.args.others.items in
    let x = c.in-Some.name.items in
    let i = length c.loop-name.yielded in
    let next = c.in_ok-others.others.next.items in
    let last : IsLast ns i x c.in_ok-before.before =
    subst (IsLast ns i x) (sym c.in_ok-before.ensures.old) (c.loop-name.invariant.last_is x) in
    subst (λ (l : List (Option ℕ)). IfSome c.in_ok-before.before (λ k. IfSome (slice_index_or l k None)
    (λ j. j < length next))) (sym c.deref.ensures.value)
    (before_listed ns os i x c.in_ok-before.before c.loop-name.partners.items next c.loop-name.invariant.paired
    c.in_ok-others.ensures.next_is last)

pub loop-name-preserved : goal.loop-name-preserved
loop-name-preserved c =
    let ns = texts c.args.names.items in
    let os = texts c.args.others.items in
    let ys = c.loop-name.yielded in
    let x = c.in-Some.name in
    let rest = c.next.new.self.rest.items in
    let i = length ys in
    let kept = c.loop-name.invariant in
    let before = c.in_ok-before.before in
    let first = c.first-first.result in
    let next = c.in_ok-others.others.next.items in
    let all : c.args.names.items ≡ ys ++ x ∷ rest = grind arith in
    let (named, within) = name_at_seam c.args.names.items ys x rest all in
    let last : IsLast ns i (name_at ns i) before =
    subst (λ n. IsLast ns i n before) (sym named)
    (subst (IsLast ns i x.items) (sym c.in_ok-before.ensures.old) (kept.last_is x.items)) in
    let first_is : first ≡ slice_get (positions_from (name_at ns i) 0 os) 0 =
    c.first-first.ensures ∙ c.in_ok-others.ensures.first_is x.items
    ∙ ap (λ n. slice_get (positions_from n 0 os) 0) (sym named) in
    let partner_is : c.partner_after-partner.result ≡ partner_of ns os i =
    c.partner_after-partner.ensures
    ∙ ap (λ l. partner_after next l before first) c.deref.ensures.value
    ∙ next_by ns os i before first next c.loop-name.partners.items last c.in_ok-others.ensures.next_is first_is
    (each_partner ns os i c.loop-name.partners.items kept.paired) in
    let size : length (ys ++ x ∷ []) ≡ i + 1 = length-append ys (x ∷ []) in
    let so_far : length c.loop-name.partners.items ≡ i =
    ap (λ (l : List (Option ℕ)). length l) kept.paired ∙ length-map-range_with_len (partner_of ns os) 0 i in
    let at : c.len-in-loop-name.result ≡ i =
    omega (arith, c.len-in-loop-name.ensures, c.loop-name.partners.ok.0, so_far) in
    record {
      all = all ∙ sym (append_assoc ys (x ∷ []) rest);
      paired = c.in_ok-push.ensures.items
          ∙ (λ j. kept.paired j ++ partner_is j ∷ [])
          ∙ sym (map-range_with_len_more (partner_of ns os) 0 i i (omega arith))
          ∙ ap (λ n. map (partner_of ns os) (range_with_len 0 n)) (sym size);
      last_is = λ name.
          let old = index_in c.loop-name.last name in
          let put : index_in c.insert.new.self name ≡ (if bytes_eq name (name_at ns i) then Some i else old) =
          index_put c.loop-name.last c.insert.new.self x c.len-in-loop-name.result c.in_ok-before.ensures.updates name
          ∙ ap (λ n. if bytes_eq name x.items then Some n else old) at
          ∙ ap (λ n. if bytes_eq name n then Some i else old) (sym named) in
          subst (λ n. IsLast ns n name (index_in c.insert.new.self name)) (sym size)
          (subst (IsLast ns (i + 1) name) (sym put) (last_more ns os i name old within (kept.last_is name)));
    }

pub returns : goal.returns
returns c =
    let ns = texts c.args.names.items in
    let os = texts c.args.others.items in
    let ys = c.loop-name.yielded in
    let rest = c.loop-name.name-iterator.rest.items in
    let none : length rest ≡ 0 =
    omega (arith, c.in-None.ensures.steps.0, c.loop-name.name-iterator.rest.ok.0) in
    let all : length c.args.names.items ≡ length (ys ++ rest) =
    ap (λ (l : List (Vec ℕ)). length l) c.loop-name.invariant.all in
    let size : length ys ≡ length ns =
    omega (arith, none, all, length-append ys rest, length-map c.args.names.items (λ (v : Vec ℕ). v.items)) in
    c.loop-name.invariant.paired ∙ ap (λ n. map (partner_of ns os) (range_with_len 0 n)) size
