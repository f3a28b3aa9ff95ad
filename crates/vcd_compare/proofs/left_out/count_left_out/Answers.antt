use mir.Val.{bool_byte}
use Rattle.std.proofs.Common.{◌≡◌, ◌≤◌, Bool, true, false, if◌then◌else◌, ℕ, suc, ◌+◌, List, [], ◌∷◌, ◌++◌, take, drop}
use Rattle.std.proofs.Common.{refl, sym, ap, subst, ◌∙◌, Some, append_assoc, add-one, arith}
use Rattle.std.specs.Prelude.{slice_get}
use Rattle.std.proofs.Math.Seq.{take-suc}
use Rattle.std.proofs.lemmas.List.{take-append-drop}
use Rattle.std.proofs.lemmas.Option.{slice_get_within, get_or_from_slice_get}
use Rattle.vcd_text.specs.HeardChanges.{HeardChange}
use Rattle.vcd_text.specs.LentChanges.{heard_contents}
use Rattle.vcd_compare.specs.inside.LeftOut.{AreInOrder, HasCounted}
use Rattle.vcd_compare.specs.declared.left_out.LeftOut.{LeftOut}
use Rattle.vcd_compare.proofs.left_out.Counted.{with_more, counted_no_more, counted_one}
use Rattle.vcd_compare.proofs.side.Chunks.{first_at}
use Rattle.vcd_compare.proofs.left_out.count_left_out.Goals as goal

one_taken : (hs : List HeardChange) (k : ℕ) (h : HeardChange) → slice_get hs k ≡ Some h
    → take (k + 1) hs ≡ take k hs ++ h ∷ []
one_taken hs k h at =
    ap (λ n. take n hs) (add-one k) ∙ take-suc hs k h (slice_get_within hs k h at)
    ∙ ap (λ x. take k hs ++ x ∷ []) (get_or_from_slice_get hs k h h at)

all_of : (hs : List HeardChange) (k : ℕ) (h : HeardChange) → slice_get hs k ≡ Some h
    → take k hs ++ h ∷ drop (suc k) hs ≡ hs
all_of hs k h at = ap (λ rest. take k hs ++ rest) (sym (first_at k hs h at)) ∙ take-append-drop k hs

number_is : (b : Bool) → bool_byte b ≡ (if b then 1 else 0)
number_is true = refl
number_is false = refl

one_at_most : (b : Bool) → (if b then 1 else 0) ≤ 1
one_at_most true = omega arith
one_at_most false = omega arith

pub loop-position-init : goal.loop-position-init
loop-position-init c = record {
  counted = λ before order counted. counted_no_more before c.args.left_out.now c.args.last_ticks.now counted;
  few = omega arith;
}

pub loop-position-preserved : goal.loop-position-preserved
loop-position-preserved c =
    let hs : List HeardChange = c.args.more.now in
    let k = c.loop-position.position in
    let h : HeardChange = heard_contents c.get-change.result in
    let was : LeftOut = with_more c.args.left_out.now c.loop-position.replaced in
    let now : LeftOut = with_more c.args.left_out.now (c.loop-position.replaced + c.from-replaced.result) in
    let added = c.from-replaced.ensures ∙ number_is c.in_ok-replaces.replaces in
    let few = c.loop-position.invariant.few in
    record {
      counted = λ before order counted.
          let one : HasCounted ((before ++ take k hs) ++ h ∷ []) now c.set.new.self =
          counted_one (before ++ take k hs) h (drop (suc k) hs) was now c.loop-position.last_ticks
          c.set.new.self c.in_ok-replaces.replaces c.from-replaced.result
          (subst AreInOrder (sym (append_assoc before (take k hs) (h ∷ drop (suc k) hs)
          ∙ ap (λ all. before ++ all) (all_of hs k h c.get-change.ensures))) order)
          (c.loop-position.invariant.counted before order counted) c.in_ok-replaces.ensures.same
          c.in_ok-replaces.ensures.set added (omega arith) in
          subst (λ all. HasCounted all now c.set.new.self) (append_assoc before (take k hs) (h ∷ [])
          ∙ ap (λ more. before ++ more) (sym (one_taken hs k h c.get-change.ensures))) one;
      few = omega (arith, few, added, one_at_most c.in_ok-replaces.replaces);
    }
