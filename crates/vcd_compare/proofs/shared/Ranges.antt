-- The first numbers, one after another, and what functions give of them.
use Rattle.std.proofs.Common.{◌≡◌, ℕ, zero, suc, ◌+◌, ◌<◌, ◌≤◌, Bool, true, false, List, [], ◌∷◌, ◌++◌, map, refl}
use Rattle.std.proofs.Common.{sym, ap, ap₂, ◌∙◌, inl, inr, arith, if◌then◌else◌}
use Rattle.std.specs.List.{range_with_len, filter, flat_map, list_any}
use Rattle.std.proofs.lemmas.Bool.{cases_Bool}
use Rattle.std.proofs.lemmas.Grind.{flat_map-append}
use Rattle.std.proofs.lemmas.List.{append-nil}
use Rattle.std.proofs.lemmas.List.Elements.{filter-append}
use Rattle.vcd_compare.proofs.pairing.Positions.{later}
use Rattle.vcd_compare.proofs.shared.ShortestRuns.{range_split}

-- ---- one more

one_more : (n : ℕ) → range_with_len 0 (n + 1) ≡ range_with_len 0 n ++ n ∷ []
one_more n = range_split 0 n 1 n (n + 1) (omega arith) refl

pub filter_more : (p : ℕ → Bool) (n : ℕ)
    → filter p (range_with_len 0 (n + 1)) ≡ filter p (range_with_len 0 n) ++ (if p n then n ∷ [] else [])
filter_more p n = ap (filter p) (one_more n) ∙ filter-append p (range_with_len 0 n) (n ∷ [])

-- the next number passes
pub filter_kept : (p : ℕ → Bool) (n : ℕ) (found new : List ℕ) → found ≡ filter p (range_with_len 0 n) → p n ≡ true
    → new ≡ found ++ n ∷ [] → new ≡ filter p (range_with_len 0 (n + 1))
filter_kept p n found new before on more =
    more
    ∙ (λ i. before i ++ (if sym on i then n ∷ [] else []))
    ∙ sym (filter_more p n)

-- the next number fails
pub filter_left : (p : ℕ → Bool) (n : ℕ) (found : List ℕ) → found ≡ filter p (range_with_len 0 n) → p n ≡ false
    → found ≡ filter p (range_with_len 0 (n + 1))
filter_left p n found before off =
    sym (append-nil found)
    ∙ (λ i. before i ++ (if sym off i then n ∷ [] else []))
    ∙ sym (filter_more p n)

pub flat_more : {X : Type 0} (f : ℕ → List X) (n : ℕ)
    → flat_map f (range_with_len 0 (n + 1)) ≡ flat_map f (range_with_len 0 n) ++ f n
flat_more f n =
    ap (flat_map f) (one_more n) ∙ flat_map-append f (range_with_len 0 n) (n ∷ [])
    ∙ ap (λ l. flat_map f (range_with_len 0 n) ++ l) (append-nil (f n))

-- ---- functions that agree on them

abbrev pub AgreeFrom : {X : Type 0} (f g : ℕ → X) (a n : ℕ) → Type 0
AgreeFrom f g a n = (k : ℕ) → a ≤ k → k < a + n → f k ≡ g k

pub same_map : {X : Type 0} (f g : ℕ → X) (a n : ℕ) → AgreeFrom f g a n
    → map f (range_with_len a n) ≡ map g (range_with_len a n)
same_map f g a zero same = refl
same_map f g a (suc n) same =
    ap₂ (λ x xs. x ∷ xs) (same a (omega arith) (omega arith))
    (same_map f g (a + 1) n (λ k from to. same k (omega arith) (omega arith)))

pub same_flat : {X : Type 0} (f g : ℕ → List X) (a n : ℕ) → AgreeFrom f g a n
    → flat_map f (range_with_len a n) ≡ flat_map g (range_with_len a n)
same_flat f g a zero same = refl
same_flat f g a (suc n) same =
    ap₂ (λ x xs. x ++ xs) (same a (omega arith) (omega arith))
    (same_flat f g (a + 1) n (λ k from to. same k (omega arith) (omega arith)))

pub same_filter : (p q : ℕ → Bool) (a n : ℕ) → AgreeFrom p q a n
    → filter p (range_with_len a n) ≡ filter q (range_with_len a n)
same_filter p q a zero same = refl
same_filter p q a (suc n) same =
    ap₂ (λ (b : Bool) xs. if b then a ∷ xs else xs) (same a (omega arith) (omega arith))
    (same_filter p q (a + 1) n (λ k from to. same k (omega arith) (omega arith)))

-- ---- one of them

pub one_of : {X : Type 0} (p : X → Bool) (f : ℕ → X) (a n : ℕ) → list_any p (map f (range_with_len a n)) ≡ true
    → (k : ℕ) × (k < a + n) × (p (f k) ≡ true)
one_of p f a zero is = absurd (let no : false ≡ true = is in cc)
one_of p f a (suc n) is =
    elim (cases_Bool (p (f a))) [
      | inl on ↦ (a, omega arith, on)
      | inr off ↦
          let (k, to, on) = one_of p f (a + 1) n (rw off at is) in
          (k, omega arith, on)
    ]

pub is_one : {X : Type 0} (p : X → Bool) (f : ℕ → X) (a n k : ℕ) → a ≤ k → k < a + n → p (f k) ≡ true
    → list_any p (map f (range_with_len a n)) ≡ true
is_one p f a zero k from to on = absurd (omega arith)
is_one p f a (suc n) k from to on =
    elim (cases_Bool (p (f a))) [
      | inl here ↦ rw here refl
      | inr off ↦ rw off (is_one p f (a + 1) n k (later (λ i. p (f i)) a k from off on) (omega arith) on)
    ]
