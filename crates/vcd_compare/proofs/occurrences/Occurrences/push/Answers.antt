use Rattle.std.proofs.Common.{◌≡◌, ℕ, ◌+◌, ◌<◌, ◌∷◌, [], ◌++◌, List, Option, Some, None, length, get_or, sym, ap}
use Rattle.std.proofs.Common.{◌∙◌, arith}
use Rattle.std.proofs.Common.{subst, inl, inr, length-append, set}
use Rattle.std.proofs.Math.ListN.{get_or-append}
use Rattle.std.proofs.Math.Seq.{get_or-append_seam}
use Rattle.std.proofs.lemmas.List.{with_items_is, length-set, get_or-set_same, get_or-set_other}
use Rattle.std.proofs.lemmas.Bool.{cases_eq}
use Rattle.vcd_compare.specs.inside.Occurrences.{IsLastPlace, HasOccurrences}
use Rattle.vcd_compare.specs.declared.occurrences.Occurrences.{Occurrences}
use Rattle.vcd_compare.proofs.occurrences.LastPlaces.{last_kept, last_other, last_same}
use Rattle.vcd_compare.proofs.occurrences.Occurrences.push.Goals as goal

-- a number is appended
pushed : (limit number place : ℕ) (numbers : List ℕ) (before : Option ℕ) (old new : Occurrences)
    → number < limit → HasOccurrences limit numbers old → IsLastPlace numbers (length numbers) number before
    → place ≡ length old.before.items
    → new.last.items ≡ set old.last.items number (Some place)
    → new.before.items ≡ old.before.items ++ before ∷ []
    → HasOccurrences limit (numbers ++ number ∷ []) new
pushed limit number place numbers before old new below is last_before place_is last_is before_is =
    let size = is.size in
    let count = is.count in
    let more : length (numbers ++ number ∷ []) ≡ length numbers + 1 = simp length-append (omega arith) in
    let longer : length new.before.items ≡ length old.before.items + 1 =
    ap length before_is ∙ simp length-append (omega arith) in
    let at : place ≡ length numbers = place_is ∙ count in
    record {
      size = ap length last_is ∙ length-set old.last.items number (Some place) ∙ size;
      count = omega (arith, longer, count, more);
      last_is = λ m below_m. elim (cases_eq m number) [
        | inl same ↦
            let found : get_or new.last.items m None ≡ Some (length numbers) =
            ap (λ l. get_or l m None) last_is ∙ ap (λ k. get_or (set old.last.items number (Some place)) k None) same
            ∙ get_or-set_same old.last.items number (Some place) None (omega (arith, size)) ∙ ap Some at in
            subst (λ k. IsLastPlace (numbers ++ number ∷ []) (length (numbers ++ number ∷ [])) k
            (get_or new.last.items m None)) (sym same)
            (subst (IsLastPlace (numbers ++ number ∷ []) (length (numbers ++ number ∷ [])) number) (sym found)
            (last_same numbers (length (numbers ++ number ∷ [])) number more))
        | inr other ↦
            let found : get_or new.last.items m None ≡ get_or old.last.items m None =
            ap (λ l. get_or l m None) last_is ∙ get_or-set_other old.last.items number m (Some place) None other in
            subst (IsLastPlace (numbers ++ number ∷ []) (length (numbers ++ number ∷ [])) m) (sym found)
            (last_other numbers (length (numbers ++ number ∷ [])) m number _ more (λ e. other (sym e))
            (is.last_is m below_m))
      ];
      before_is = λ k below_k. elim (cases_eq k (length numbers)) [
        | inl last ↦
            let stands : get_or (numbers ++ number ∷ []) k 0 ≡ number =
            ap (λ i. get_or (numbers ++ number ∷ []) i 0) last ∙ get_or-append_seam numbers number [] 0 in
            let found : get_or new.before.items k None ≡ before =
            ap (λ l. get_or l k None) before_is
            ∙ ap (λ i. get_or (old.before.items ++ before ∷ []) i None) (last ∙ sym count)
            ∙ get_or-append_seam old.before.items before [] None in
            subst (λ m. IsLastPlace (numbers ++ number ∷ []) k m (get_or new.before.items k None)) (sym stands)
            (subst (IsLastPlace (numbers ++ number ∷ []) k number) (sym found)
            (last_kept numbers k number number before (omega (arith, last))
            (subst (λ n. IsLastPlace numbers n number before) (sym last) last_before)))
        | inr earlier ↦
            let inside : k < length numbers = omega (arith, earlier, more) in
            let stands : get_or (numbers ++ number ∷ []) k 0 ≡ get_or numbers k 0 =
            get_or-append numbers (number ∷ []) 0 k inside in
            let found : get_or new.before.items k None ≡ get_or old.before.items k None =
            ap (λ l. get_or l k None) before_is
            ∙ get_or-append old.before.items (before ∷ []) None k (omega (arith, inside, count)) in
            subst (λ m. IsLastPlace (numbers ++ number ∷ []) k m (get_or new.before.items k None)) (sym stands)
            (subst (IsLastPlace (numbers ++ number ∷ []) k (get_or numbers k 0)) (sym found)
            (last_kept numbers k (get_or numbers k 0) number _ (omega (arith, inside)) (is.before_is k inside)))
      ];
    }

pub returns : goal.returns
returns c limit numbers below is =
    pushed limit c.args.number _ numbers _ c.args.self.now _ below is (c.last-before.ensures limit numbers below is)
    (c.len-place.ensures ∙ c.args.self.now.before.ok.0)
    (with_items_is c.args.self.now.last c.set_last.new.last (c.set_last.auto.last ∙ c.deref_mut.ensures.len)
    ∙ c.set_last.ensures ∙ ap (λ l. set l c.args.number (Some c.len-place.result)) c.deref_mut.ensures.value)
    c.in_ok-push.ensures.items
