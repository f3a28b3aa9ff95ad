-- Waves to which variables change: each once, with its index, which is searched among those of its code.
use Rattle.std.proofs.Common.{◌≡◌, ℕ, zero, suc, Bool, true, false, ◌||◌, if◌then◌else◌, List, [], ◌∷◌, ◌++◌, length}
use Rattle.std.proofs.Common.{Option, None, Some, refl, sym, ap, ◌∙◌, All, inl, inr, ◌+◌, ◌<◌, ◌≤◌, ◌&&◌, take, map}
use Rattle.std.proofs.Common.{ap₂, subst, arith}
use Rattle.std.specs.List.{slice_get, list_any, flat_map}
use Rattle.std.proofs.lemmas.Bool.{cases_Bool, false≢true, or_left}
use Rattle.std.proofs.lemmas.Option.{same_Some}
use Rattle.std.proofs.lemmas.Grind.{flat_map-append}
use Rattle.std.proofs.lemmas.List.{append-nil, take-append-le, map-append, length-take-le}
use Rattle.std.proofs.lemmas.List.Elements.{All-nil, All-cons, All-head, All-tail}
use Rattle.std.specs.Prelude.{bytes_eq}
use Rattle.std.specs.Option.{option_or}
use Rattle.std.proofs.lemmas.List.Folds.{list_any-append}
use Rattle.std.proofs.Math.Seq.{take-length}
use Rattle.std.specs.Global.{Vec}
use Rattle.std.specs.Map.{KeepsOthers}
use Rattle.std.proofs.lemmas.Cmp.{nat_list_eq_equiv}
use Rattle.std.proofs.Math.Bool.{or-false}
use Rattle.indexmap.specs.IndexMap.{IndexMap, Updates}
use Rattle.vcd_core.specs.Contents.{SignalContents}
use Rattle.vcd_core.specs.declared.wave.Change.{Change}
use Rattle.vcd_amend.specs.GivenCodes.{NewWave, same_new_wave, distinct_waves, same_changes, same_own_code}
use Rattle.vcd_amend.specs.inside.coding.KeptSignals.{KeptContents, changed_wave, changed_waves, wave_of_kept}
use Rattle.vcd_amend.specs.inside.coding.ChangedWaves.{AreDistinct, unseen, IsFirst, IsIndexOf, AreIndices}
use Rattle.vcd_amend.specs.inside.coding.ChangedWaves.{ChangedContents, newest_from, AreChained, as_new_wave, index_in}
use Rattle.vcd_amend.proofs.given_codes.NewWaves.{HasOwn, WavesApart, firsts_apart, alike_new_waves}
use Rattle.vcd_amend.proofs.shared.Lists.{none_at, at_seam, take_next}
use Rattle.vcd_amend.proofs.amended.OneCode.{same_bytes}

-- ==== each wave once

-- ---- the first that is the same

module _ (w : NewWave) where
  -- of distinct waves
  pub first_at : (ws : List NewWave) (i : ℕ) (v : NewWave) → AreDistinct ws → slice_get ws i ≡ Some v
      → same_new_wave w v ≡ true → IsFirst (same_new_wave w) ws i
  first_at [] i v apart is same = let never : None ≡ Some v = is in absurd (cc)
  first_at (x ∷ ws) zero v apart is same = ap (same_new_wave w) (same_Some x v is) ∙ same
  first_at (x ∷ ws) (suc i) v (first, apart) is same = elim (cases_Bool (same_new_wave w x)) [
    | inl here ↦ absurd (none_at (same_new_wave x) ws i v is (sym (alike_new_waves w x v here) ∙ same) first)
    | inr other ↦ (other, first_at ws i v apart is same)
  ]

  -- one that is appended
  pub first_last : (ws : List NewWave) → list_any (same_new_wave w) ws ≡ false → same_new_wave w w ≡ true
      → IsFirst (same_new_wave w) (ws ++ w ∷ []) (length ws)
  first_last [] none itself = itself
  first_last (x ∷ ws) none itself = elim (cases_Bool (same_new_wave w x)) [
    | inl here ↦ absurd (false≢true (sym none ∙ or_left _ _ here))
    | inr other ↦ (other, first_last ws (rw other at none) itself)
  ]

-- with more waves
pub first_later : (p : NewWave → Bool) (ws more : List NewWave) (i : ℕ) → IsFirst p ws i → IsFirst p (ws ++ more) i
first_later p [] more i first = absurd first
first_later p (x ∷ ws) more zero first = first
first_later p (x ∷ ws) more (suc i) (other, first) = (other, first_later p ws more i first)

index_later : (ws more wave : List NewWave) (o : Option ℕ) → IsIndexOf ws wave o → IsIndexOf (ws ++ more) wave o
index_later ws more [] o is = is
index_later ws more (w ∷ others) o (i, is, first) = (i, is, first_later (same_new_wave w) ws more i first)

pub indices_later : (ws more : List NewWave) (ks : List KeptContents) (os : List (Option ℕ)) → AreIndices ws ks os
    → AreIndices (ws ++ more) ks os
indices_later ws more [] [] all = tt
indices_later ws more [] (o ∷ os) all = absurd all
indices_later ws more (k ∷ ks) [] all = absurd all
indices_later ws more (k ∷ ks) (o ∷ os) (one, all) = (
  index_later ws more (changed_wave k k.left) o one,
  indices_later ws more ks os all,
)

-- ---- one more

or_three : (a b c : Bool) → (a || (b || c)) ≡ ((b || a) || c)
or_three true true c = refl
or_three true false c = refl
or_three false true c = refl
or_three false false c = refl

distinct_more : (before ws : List NewWave) (w : NewWave) → distinct_waves before (ws ++ w ∷ [])
    ≡ distinct_waves before ws ++ (if list_any (same_new_wave w) before
    || list_any (same_new_wave w) (distinct_waves before ws) then [] else w ∷ [])
distinct_more before [] w = elim (cases_Bool (list_any (same_new_wave w) before)) [
  | inl there ↦ rw there refl
  | inr none ↦ rw none refl
]
distinct_more before (v ∷ ws) w = elim (cases_Bool (list_any (same_new_wave v) before)) [
  | inl there ↦ rw there (distinct_more before ws w)
  | inr none ↦ rw none (ap (λ l. v ∷ l) (distinct_more (v ∷ before) ws w
      ∙ ap (λ (b : Bool). distinct_waves (v ∷ before) ws ++ (if b then [] else w ∷ []))
      (sym (or_three (list_any (same_new_wave w) before) (same_new_wave w v)
      (list_any (same_new_wave w) (distinct_waves (v ∷ before) ws))))))
]

-- the waves with those of one more variable
pub changed_more : (ks : List KeptContents) (k : KeptContents) → changed_waves (ks ++ k ∷ [])
    ≡ changed_waves ks ++ unseen (changed_waves ks) (changed_wave k k.left)
changed_more ks k = ap (distinct_waves []) (flat_map-append (λ (k : KeptContents). changed_wave k k.left) ks (k ∷ [])
    ∙ ap (λ l. flat_map (λ (k : KeptContents). changed_wave k k.left) ks ++ l) (append-nil (changed_wave k k.left)))
    ∙ by_wave (changed_wave k k.left) (few k k.left)
  where
    Few : List NewWave → Type 0
    Few [] = Unit {0}
    Few (w ∷ []) = Unit {0}
    Few (w ∷ v ∷ ws) = ⊥

    few : (k : KeptContents) (left : Option SignalContents) → Few (changed_wave k left)
    few k None = tt
    few k (Some n) = elim (cases_Bool k.is_unchanged) [
      | inl same ↦ rw same tt
      | inr other ↦ rw other tt
    ]

    by_wave : (wave : List NewWave) → Few wave
        → distinct_waves [] (flat_map (λ (k : KeptContents). changed_wave k k.left) ks ++ wave)
        ≡ changed_waves ks ++ unseen (changed_waves ks) wave
    by_wave [] one = ap (distinct_waves []) (append-nil (flat_map (λ (k : KeptContents). changed_wave k k.left) ks))
        ∙ sym (append-nil (changed_waves ks))
    by_wave (w ∷ []) one = distinct_more [] (flat_map (λ (k : KeptContents). changed_wave k k.left) ks) w
    by_wave (w ∷ v ∷ ws) one = absurd one

-- ---- they are distinct

same_test : (ws : List NewWave) → WavesApart ws → AreDistinct ws
same_test [] apart = tt
same_test (w ∷ ws) (first, apart) = (first, same_test ws apart)

own_more : (one ws : List NewWave) → All HasOwn one → All HasOwn ws → All HasOwn (one ++ ws)
own_more [] ws first all = all
own_more (w ∷ one) ws first all = All-cons HasOwn w (one ++ ws) (All-head HasOwn w one first) (own_more one ws
    (All-tail HasOwn w one first) all)

own_one : (k : KeptContents) (left : Option SignalContents) → All HasOwn (changed_wave k left)
own_one k None = All-nil HasOwn
own_one k (Some n) = elim (cases_Bool k.is_unchanged) [
  | inl same ↦ rw same (All-nil HasOwn)
  | inr other ↦ rw other (All-cons HasOwn (wave_of_kept k n) [] (k.variable.code, refl) (All-nil HasOwn))
]

own_all : (ks : List KeptContents) → All HasOwn (flat_map (λ (k : KeptContents). changed_wave k k.left) ks)
own_all [] = All-nil HasOwn
own_all (k ∷ ks) = own_more (changed_wave k k.left) _ (own_one k k.left) (own_all ks)

pub changed_distinct : (ks : List KeptContents) → AreDistinct (changed_waves ks)
changed_distinct ks = same_test _ (firsts_apart [] _ (own_all ks))

-- ==== the search for a wave among those of one code, from the last one on back

-- ---- the last wave of a code

-- with one more wave
pub newest_more : (first : ℕ) (code : List ℕ) (ws : List ChangedContents) (x : ChangedContents)
    → newest_from first code (ws ++ x ∷ [])
    ≡ (if bytes_eq code x.code then Some (first + length ws) else newest_from first code ws)
newest_more first code [] x = elim (cases_Bool (bytes_eq code x.code)) [
  | inl same ↦ rw same (ap Some (omega arith))
  | inr other ↦ rw other refl
]
newest_more first code (w ∷ ws) x = elim (cases_Bool (bytes_eq code x.code)) [
  | inl same ↦
      let here : newest_from (first + 1) code (ws ++ x ∷ []) ≡ Some (first + 1 + length ws) =
      newest_more (first + 1) code ws x ∙ rw same refl in
      rw same (ap (λ o. option_or o (if bytes_eq code w.code then Some first else None)) here ∙ ap Some (omega arith))
  | inr other ↦
      let here : newest_from (first + 1) code (ws ++ x ∷ []) ≡ newest_from (first + 1) code ws =
      newest_more (first + 1) code ws x ∙ rw other refl in
      rw other (ap (λ o. option_or o (if bytes_eq code w.code then Some first else None)) here)
]

-- a chain with one more wave
pub chained_more : (ws : List ChangedContents) (x : ChangedContents) → AreChained ws
    → x.earlier ≡ newest_from 0 x.code ws → AreChained (ws ++ x ∷ [])
chained_more ws x chained leads = λ i w is. elim (at_seam ws x w i is) [
  | inl (early, there) ↦ chained i w there
      ∙ ap (newest_from 0 w.code) (sym (take-append-le i ws (x ∷ []) (omega arith)))
  | inr (last, same) ↦
      let front : take i (ws ++ x ∷ []) ≡ ws = ap (λ n. take n (ws ++ x ∷ [])) last
      ∙ take-append-le (length ws) ws (x ∷ []) (omega arith) ∙ take-length ws in
      ap (λ (v : ChangedContents). v.earlier) (sym same) ∙ leads
      ∙ ap₂ (newest_from 0) (ap (λ (v : ChangedContents). v.code) same) (sym front)
]

-- ---- the search

-- how many waves are left to search
abbrev pub count_left : Option ℕ → ℕ
count_left None = 0
count_left (Some i) = suc i

module _ (ws : List ChangedContents) (code : List ℕ) (new : List Change) where
  -- whether a wave of the code has the new changes
  abbrev pub is_same : NewWave → Bool
  is_same v = same_own_code (Some code) v.own && same_changes new v.new

  -- whether one of the first waves has them
  abbrev pub among : ℕ → Bool
  among m = list_any is_same (map as_new_wave (take m ws))

  -- what is found among the first waves
  abbrev Found : ℕ → Option ℕ → Type 0
  Found m None = among m ≡ false
  Found m (Some i) = (w : ChangedContents) × (i < m) × (slice_get ws i ≡ Some w) × (bytes_eq code w.code ≡ true)
      × (among m ≡ (among i || is_same (as_new_wave w)))

  among_next : (m : ℕ) (w : ChangedContents) → take (suc m) ws ≡ take m ws ++ w ∷ []
      → among (suc m) ≡ (among m || is_same (as_new_wave w))
  among_next m w next =
      ap (λ l. list_any is_same (map as_new_wave l)) next
      ∙ ap (list_any is_same) (map-append as_new_wave (take m ws) (w ∷ []))
      ∙ list_any-append is_same (map as_new_wave (take m ws)) (as_new_wave w ∷ [])
      ∙ ap (λ b. among m || b) (or-false (is_same (as_new_wave w)))

  newest_next : (m : ℕ) (w : ChangedContents) → m ≤ length ws → take (suc m) ws ≡ take m ws ++ w ∷ []
      → newest_from 0 code (take (suc m) ws) ≡ (if bytes_eq code w.code then Some m else newest_from 0 code (take m ws))
  newest_next m w within next =
      ap (newest_from 0 code) next ∙ newest_more 0 code (take m ws) w
      ∙ ap (λ n. if bytes_eq code w.code then Some n else newest_from 0 code (take m ws))
      (omega (arith, length-take-le m ws within))

  later : (m : ℕ) (o : Option ℕ) → among (suc m) ≡ among m → Found m o → Found (suc m) o
  later m None same found = same ∙ found
  later m (Some i) same (w, early, there, own, found) = (w, omega arith, there, own, same ∙ found)

  -- the last wave of the code among the first ones
  found : (m : ℕ) → m ≤ length ws → Found m (newest_from 0 code (take m ws))
  found zero within = refl
  found (suc m) within =
      let at = take_next ws m (omega arith) in
      let w = at.0 in
      elim (cases_Bool (bytes_eq code w.code)) [
        | inl own ↦
            let is : newest_from 0 code (take (suc m) ws) ≡ Some m =
            newest_next m w (omega arith) at.2 ∙ ap (λ (b : Bool). if b then Some m else newest_from 0 code (take m
            ws)) own in
            subst (Found (suc m)) (sym is) (w, omega arith, at.1, own, among_next m w at.2)
        | inr other ↦
            let is : newest_from 0 code (take (suc m) ws) ≡ newest_from 0 code (take m ws) =
            newest_next m w (omega arith) at.2 ∙ ap (λ (b : Bool). if b then Some m else newest_from 0 code (take m
            ws)) other in
            let same : among (suc m) ≡ among m =
            among_next m w at.2 ∙ ap (λ b. among m || (b && same_changes new w.new)) other ∙ or-false (among m) in
            subst (Found (suc m)) (sym is) (later m (newest_from 0 code (take m ws)) same (found m (omega arith)))
      ]

  -- waves up to this one are left to search, and none after it has the changes
  abbrev pub IsLeft : Option ℕ → Type 0
  IsLeft next = (m : ℕ) × (m ≤ length ws) × (next ≡ newest_from 0 code (take m ws)) × (among m ≡ among (length ws))

  -- without one the search ends
  pub ends : IsLeft None → list_any is_same (map as_new_wave ws) ≡ false
  ends (m, within, next, all) =
      let none : Found m None = subst (Found m) (sym next) (found m within) in
      ap (λ l. list_any is_same (map as_new_wave l)) (sym (take-length ws)) ∙ sym all ∙ none

  -- the wave at the index is of the code
  record IsAt (i : ℕ) : Type 0 where
    wave : ChangedContents
    within : i < length ws
    there : slice_get ws i ≡ Some wave
    own : bytes_eq code wave.code ≡ true
    rest : among (length ws) ≡ (among i || is_same (as_new_wave wave))

  at_index : (i : ℕ) → IsLeft (Some i) → IsAt i
  at_index i (m, within, next, all) =
      let here : Found m (Some i) = subst (Found m) (sym next) (found m within) in
      record {
        wave = here.0;
        within = let early : i < m = here.1 in omega arith;
        there = here.2;
        own = here.3;
        rest = sym all ∙ here.4;
      }

  pub is_within : (i : ℕ) → IsLeft (Some i) → i < length ws
  is_within i left = (at_index i left).within

  -- if it has the changes, it is found
  pub finds : (i : ℕ) (w : ChangedContents) → IsLeft (Some i) → slice_get ws i ≡ Some w → same_changes new w.new ≡ true
      → is_same (as_new_wave w) ≡ true
  finds i w left is same =
      let at = at_index i left in
      let one : at.wave ≡ w = same_Some at.wave w (sym at.there ∙ is) in
      ap₂ (λ a b. a && b) (ap (λ (v : ChangedContents). bytes_eq code v.code) (sym one) ∙ at.own) same

  module _ (chained : AreChained ws) (i : ℕ) (w : ChangedContents) (left : IsLeft (Some i))
      (is : slice_get ws i ≡ Some w) where
    leads : w.earlier ≡ newest_from 0 code (take i ws)
    leads =
        let at = at_index i left in
        let one : at.wave ≡ w = same_Some at.wave w (sym at.there ∙ is) in
        let own : code ≡ w.code = same_bytes code w.code (ap (λ (v : ChangedContents). bytes_eq code v.code) (sym one)
        ∙ at.own) in
        chained i w is ∙ ap (λ c. newest_from 0 c (take i ws)) (sym own)

    -- else the search goes on before it
    pub goes_on : same_changes new w.new ≡ false → IsLeft w.earlier
    goes_on other =
        let at = at_index i left in
        let one : at.wave ≡ w = same_Some at.wave w (sym at.there ∙ is) in
        let none : (b : Bool) → (b && false) ≡ false = λ b. elim b as (λ v. (v && false) ≡ false) [
          | true ↦ refl
          | false ↦
              refl
        ] in
        let fails : is_same (as_new_wave at.wave) ≡ false = ap (λ (v : ChangedContents). is_same (as_new_wave v)) one
        ∙ ap (λ b. bytes_eq code w.code && b) other ∙ none (bytes_eq code w.code) in (
          i,
          let within = at.within in omega arith,
          leads,
          sym (at.rest ∙ ap (λ b. among i || b) fails ∙ or-false (among i)),
        )

    -- and comes nearer to its end
    before : (o : Option ℕ) → w.earlier ≡ o → count_left o < suc i
    before None next = omega arith
    before (Some j) next =
        let at = at_index i left in
        let here : Found i (Some j) = subst (Found i) (sym leads ∙ next) (found i (let within = at.within in omega
        arith)) in
        let early : j < i = here.1 in omega arith

    pub nearer : count_left w.earlier < suc i
    nearer = before w.earlier refl

-- ==== the map to the last wave of each code

by_code : (P : Bool → Type 0) (a b : List ℕ) → (a ≡ b → P true) → (bytes_eq a b ≡ false → P false)
    → P (bytes_eq a b)
by_code P a b same other = grind (arith, same_bytes)

module _ {S : Type 0} (old new : IndexMap (Vec ℕ) ℕ S) (k : Vec ℕ) (w : ℕ)
    (puts : Updates (λ (x : Vec ℕ) (y : Vec ℕ). bytes_eq x.items y.items) old new k (Some w)) where
  put_elsewhere : (key : List ℕ) → bytes_eq key k.items ≡ false → index_in new key ≡ index_in old key
  unfolding KeepsOthers
  put_elsewhere key apart = grind (arith, nat_list_eq_equiv)

  -- a code has its new index, and the others keep theirs
  pub index_put : (key : List ℕ) → index_in new key ≡ (if bytes_eq key k.items then Some w else index_in old key)
  index_put key = by_code (λ b. index_in new key ≡ (if b then Some w else index_in old key)) key k.items
      (λ same. ap (index_in new) same ∙ puts.1) (put_elsewhere key)
