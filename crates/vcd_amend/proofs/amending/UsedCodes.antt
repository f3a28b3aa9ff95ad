-- The uses of codes, one code more.
use Rattle.std.proofs.Common.{◌≡◌, ◌<◌, ◌+◌, ◌||◌, ℕ, Bool, true, false, List, [], ◌∷◌, ◌++◌, length, take, get_or}
use Rattle.std.proofs.Common.{map, Some, None, refl, sym, ap, ◌∙◌, arith, cond, if◌then◌else◌}
use Rattle.std.specs.Prelude.{bytes_eq}
use Rattle.std.specs.Option.{option_or}
use Rattle.std.specs.List.{position_from, list_any}
use Rattle.std.proofs.Math.Bool.{or-false, or-true}
use Rattle.std.proofs.lemmas.List.{take_more, length-take-le, get_or-map, length-map}
use Rattle.std.proofs.lemmas.List.Folds.{list_any-append}
use Rattle.vcd_text.specs.inside.reading.CodeTargets.{code_target}
use Rattle.vcd_text.specs.declared.reading.code_targets.CodeTargets.{CodeTargets}
use Rattle.vcd_amend.specs.declared.amending.code_uses.CodeUse.{CodeUse}
use Rattle.vcd_amend.specs.declared.amendment.AddedVariable.{AddedVariable}
use Rattle.vcd_amend.specs.declared.amendment.AmendedCode.{AmendedCode as CodeInMemory}
use Rattle.vcd_amend.specs.Amendment.{AmendedCode}
use Rattle.vcd_amend.specs.AmendmentContents.{code_contents}
use Rattle.vcd_amend.specs.inside.amending.CodeUses.{amended_index}

-- a code that is put in as used is used, and all that were
pub used_put : (old new : CodeTargets CodeUse) (code : List ℕ) (target : CodeUse) → target.is_used ≡ true
    → ((key : List ℕ) → code_target new key ≡ (if bytes_eq key code then target else code_target old key))
    → (key : List ℕ) → (code_target new key).is_used ≡ ((code_target old key).is_used || bytes_eq key code)
used_put old new code target used puts key =
    ap (λ (u : CodeUse). u.is_used) (puts key) ∙ by_test (bytes_eq key code)
  where
    by_test : (b : Bool) → (if b then target else code_target old key).is_used ≡ ((code_target old key).is_used || b)
    by_test true = used ∙ sym (or-true (code_target old key).is_used)
    by_test false = sym (or-false (code_target old key).is_used)

-- ---- the index of an amended code

index_from : {X : Type 0} (p : X → Bool) (i : ℕ) (xs : List X) (y : X) → position_from p i (xs ++ y ∷ [])
    ≡ option_or (position_from p i xs) (if p y then Some (i + length xs) else None)
index_from p i [] y = ap (λ (n : ℕ). if p y then Some n else None) (let e : i ≡ i + 0 = omega arith in e)
index_from p i (x ∷ xs) y =
    let e : i + 1 + length xs ≡ i + length (x ∷ xs) = omega arith in
    by_test (p x) (index_from p (i + 1) xs y
    ∙ ap (λ (n : ℕ). option_or (position_from p (i + 1) xs) (if p y then Some n else None)) e)
  where
    by_test : (b : Bool) → position_from p (i + 1) (xs ++ y ∷ [])
        ≡ option_or (position_from p (i + 1) xs) (if p y then Some (i + length (x ∷ xs)) else None)
        → cond b (Some i) (position_from p (i + 1) (xs ++ y ∷ []))
        ≡ option_or (cond b (Some i) (position_from p (i + 1) xs)) (if p y then Some (i + length (x ∷ xs)) else None)
    by_test true rest = refl
    by_test false rest = rest

pub index_more : (codes : List CodeInMemory) (k : ℕ) (c : CodeInMemory) (key : List ℕ) → k < length codes
    → c ≡ get_or codes k c → amended_index key (take (k + 1) (map code_contents codes))
    ≡ option_or (amended_index key (take k (map code_contents codes))) (if bytes_eq key c.code then Some k else None)
index_more codes k c key within is =
    let cs = map code_contents codes in
    let inside : k < length cs = omega (arith, length-map codes code_contents) in
    let here : get_or cs k (code_contents c) ≡ code_contents c =
    get_or-map code_contents codes k c (code_contents c) within ∙ ap code_contents (sym is) in
    ap (amended_index key) (take_more cs k (code_contents c) inside)
    ∙ index_from (λ (x : AmendedCode). bytes_eq key x.code) 0 (take k cs) (get_or cs k (code_contents c))
    ∙ ap (λ (n : ℕ). option_or (amended_index key (take k cs))
    (if bytes_eq key (get_or cs k (code_contents c)).code then Some n else None))
    (let e : 0 + length (take k cs) ≡ k = omega (arith, length-take-le k cs (omega arith)) in e)
    ∙ ap (λ (x : AmendedCode). option_or (amended_index key (take k cs)) (if bytes_eq key x.code then Some k else None))
    here

-- ---- the codes of added variables

pub one_used : (added : List AddedVariable) (k : ℕ) (v : AddedVariable) (key code : List ℕ) (before now : Bool)
    → k < length added → v ≡ get_or added k v → code ≡ v.code
    → now ≡ (before || list_any (λ (x : AddedVariable). bytes_eq key x.code) (take k added))
    → (now || bytes_eq key code) ≡ (before || list_any (λ (x : AddedVariable). bytes_eq key x.code) (take (k + 1)
    added))
one_used added k v key code before now within is same so_far =
    let test : AddedVariable → Bool = λ x. bytes_eq key x.code in
    let more : list_any test (take (k + 1) added) ≡ (list_any test (take k added) || bytes_eq key code) =
    ap (list_any test) (take_more added k v within) ∙ list_any-append test (take k added) (get_or added k v ∷ [])
    ∙ or_last (list_any test (take k added)) (test (get_or added k v)) (bytes_eq key code)
    (ap test (sym is) ∙ ap (bytes_eq key) (sym same)) in
    ap (λ b. b || bytes_eq key code) so_far ∙ or_moved before (list_any test (take k added)) (bytes_eq key code)
    ∙ ap (λ b. before || b) (sym more)
  where
    or_last : (a b d : Bool) → b ≡ d → (a || (b || false)) ≡ (a || d)
    or_last a b d same = ap (λ x. a || x) (or-false b ∙ same)

    or_moved : (a b d : Bool) → ((a || b) || d) ≡ (a || (b || d))
    or_moved true b d = refl
    or_moved false b d = refl
