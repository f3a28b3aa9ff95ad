-- What is heard of a file in several parts, one after another, and the order of its ticks.
use Rattle.std.proofs.Common.{◌≡◌, ℕ, ◌≤◌, ◌*◌, List, [], ◌∷◌, ◌++◌, map, refl, sym, ap, subst, ◌∙◌, arith}
use Rattle.std.proofs.Common.{inl, inr, append_assoc}
use Rattle.std.specs.Prelude.{IsTrue, IsFalse, IsSomeAnd, Option, Some, None, length, ◌<◌, slice_get}
use Rattle.std.proofs.lemmas.Option.{slice_get_within}
use Rattle.std.proofs.Math.Nat.{mul-le-mul_right}
use Rattle.std.proofs.lemmas.Bool.{cases_Bool, and_parts, both_ways}
use Rattle.vcd_text.specs.Items.{Item, entry, timescale, scope, upscope, variable, end_definitions, stamp, scalar}
use Rattle.vcd_text.specs.Items.{vector, real_or_string, dump_word, other}
use Rattle.vcd_text.specs.Grammar.{ParseState, VariableDeclaration, AllowsAll, fits, state_after, state_after_item}
use Rattle.vcd_text.specs.Grammar.{kept_variables}
use Rattle.vcd_text.specs.HeardChanges.{HeardChange, AreHeard, heard_all, heard_of}
use Rattle.vcd_text.specs.HeardLaws.{TicksRise, FitsTarget}
use Rattle.vcd_text.specs.declared.reading.heard_changes.ChangeTarget.TheVariants.{Kept}
use Rattle.vcd_text.proofs.shared.HeardMeaning.{declarations_stay}

-- ---- parts

state_after_both : (s : ParseState) (is js : List Item) → state_after s (is ++ js) ≡ state_after (state_after s is) js
state_after_both s [] js = refl
state_after_both s (i ∷ is) js = state_after_both (state_after_item s i) is js

allowed_both : (s : ParseState) (is js : List Item) → AllowsAll s is → AllowsAll (state_after s is) js
    → AllowsAll s (is ++ js)
allowed_both s [] js first second = second
allowed_both s (i ∷ is) js (one, others) second = (one, allowed_both (state_after_item s i) is js others second)

heard_both : (s : ParseState) (is js : List Item)
    → heard_all s (is ++ js) ≡ heard_all s is ++ heard_all (state_after s is) js
unfolding heard_all
heard_both s [] js = refl
heard_both s (i ∷ is) js =
    ap (λ hs. heard_of s i ++ hs) (heard_both (state_after_item s i) is js)
    ∙ sym (append_assoc (heard_of s i) (heard_all (state_after_item s i) is) _)

-- nothing was read
pub heard_none : (s : ParseState) → AreHeard s s []
unfolding heard_all
heard_none s = record { items = []; allowed = tt; state_is = refl; heard_is = refl }

-- one part after another
pub heard_then : (from via to : ParseState) (hs ks : List HeardChange) → AreHeard from via hs → AreHeard via to ks
    → AreHeard from to (hs ++ ks)
heard_then from via to hs ks first second = record {
  items = first.items ++ second.items;
  allowed = allowed_both from first.items second.items first.allowed
      (subst (λ s. AllowsAll s second.items) (sym first.state_is) second.allowed);
  state_is = state_after_both from first.items second.items ∙ ap (λ s. state_after s second.items) first.state_is
      ∙ second.state_is;
  heard_is = (λ i. first.heard_is i ++ second.heard_is i)
      ∙ (λ i. heard_all from first.items ++ heard_all (sym first.state_is i) second.items)
      ∙ sym (heard_both from first.items second.items);
}

-- ---- the end of the declarations

none_of_declarations : (s : ParseState) (i : Item) → IsTrue (fits s i) → IsFalse s.in_body → heard_of s i ≡ []
none_of_declarations s (scalar digit code) fit early = absurd (both_ways _ early (and_parts _ _ fit).0)
none_of_declarations s (vector first digits code) fit early = absurd (both_ways _ early (and_parts _ _ fit).0)
none_of_declarations s (real_or_string first text code) fit early = absurd (both_ways _ early (and_parts _ _ fit).0)
none_of_declarations s (entry kind words) fit early = refl
none_of_declarations s (timescale words) fit early = refl
none_of_declarations s (scope kind words) fit early = refl
none_of_declarations s upscope fit early = refl
none_of_declarations s (variable words) fit early = refl
none_of_declarations s end_definitions fit early = refl
none_of_declarations s (stamp digits) fit early = refl
none_of_declarations s (dump_word word) fit early = refl
none_of_declarations s (other word words) fit early = refl

body_has_begun : (s : ParseState) (is : List Item) (h : HeardChange) (hs : List HeardChange) → AllowsAll s is
    → heard_all s is ≡ h ∷ hs → IsTrue (state_after s is).in_body
unfolding heard_all
body_has_begun s [] h hs allowed heard = absurd (cc heard)
body_has_begun s (i ∷ is) h hs (one, others) heard =
    elim (cases_Bool s.in_body) [
      | inl in_body ↦ (declarations_stay s (state_after s (i ∷ is)) (heard_all s (i ∷ is))
          (record { items = i ∷ is; allowed = (one, others); state_is = refl; heard_is = refl }) in_body).0
      | inr early ↦ body_has_begun (state_after_item s i) is h hs others
          (ap (λ ks. ks ++ heard_all (state_after_item s i) is) (sym (none_of_declarations s i one.0 early)) ∙ heard)
    ]

-- where a change was heard, the declarations have ended
pub declared_where_heard : (from to : ParseState) (h : HeardChange) (hs : List HeardChange) → AreHeard from to (h ∷ hs)
    → IsTrue to.in_body
declared_where_heard from to h hs are =
    subst (λ s. IsTrue s.in_body) are.state_is (body_has_begun from are.items h hs are.allowed (sym are.heard_is))

-- ---- the variable of a change

some_within : (kept : List VariableDeclaration) (k : ℕ) (o : Option VariableDeclaration)
    (P : VariableDeclaration → Type 0) → slice_get kept k ≡ o → IsSomeAnd o P → k < length kept
some_within kept k None P is some = absurd some
some_within kept k (Some d) P is some = slice_get_within kept k d is

-- a kept variable that changes is one of the file's
pub kept_within : (declared : List VariableDeclaration) (k : ℕ) (text : List ℕ) → FitsTarget declared (Kept k) text
    → k < length (kept_variables declared)
kept_within declared k text fits =
    some_within (kept_variables declared) k (slice_get (kept_variables declared) k) _ refl fits

-- ---- the order of ticks

pub rise_bounds : (from to : ℕ) (ts : List ℕ) → TicksRise from to ts → from ≤ to
rise_bounds from to [] rise = rise
rise_bounds from to (t ∷ ts) (first, rise) = let later = rise_bounds t to ts rise in omega (arith, first, later)

pub rise_earlier : (early from to : ℕ) (ts : List ℕ) → early ≤ from → TicksRise from to ts → TicksRise early to ts
rise_earlier early from to [] before rise = omega (arith, before, rise)
rise_earlier early from to (t ∷ ts) before (first, rise) = (omega (arith, before, first), rise)

-- the ticks of one part after those of another
pub rise_then : (factor from via to : ℕ) (hs ks : List HeardChange)
    → TicksRise from via (map (λ (h : HeardChange). h.tick * factor) hs)
    → TicksRise via to (map (λ (h : HeardChange). h.tick * factor) ks)
    → TicksRise from to (map (λ (h : HeardChange). h.tick * factor) (hs ++ ks))
rise_then factor from via to [] ks first second =
    rise_earlier from via to (map (λ (h : HeardChange). h.tick * factor) ks) first second
rise_then factor from via to (h ∷ hs) ks (early, first) second =
    (early, rise_then factor (h.tick * factor) via to hs ks first second)

-- in ticks of the comparison they rise as well
pub rise_scaled : (factor from to : ℕ) (hs : List HeardChange)
    → TicksRise from to (map (λ (h : HeardChange). h.tick) hs)
    → TicksRise (from * factor) (to * factor) (map (λ (h : HeardChange). h.tick * factor) hs)
rise_scaled factor from to [] rise = mul-le-mul_right factor rise
rise_scaled factor from to (h ∷ hs) (first, rise) =
    (mul-le-mul_right factor first, rise_scaled factor h.tick to hs rise)
