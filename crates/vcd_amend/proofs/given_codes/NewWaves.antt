-- Each new wave of a changed variable is met by one coded wave.
use Rattle.std.proofs.Common.{◌≡◌, ℕ, ◌==◌, Bool, true, false, ◌∙◌, All, ◌&&◌, ◌||◌, List, [], ◌∷◌, map, Option, Some}
use Rattle.std.proofs.Common.{None, if◌then◌else◌, refl, sym, ap, ap₂, inl, inr}
use Rattle.std.specs.Prelude.{find, is_some}
use Rattle.std.specs.List.{list_any}
use Rattle.std.proofs.lemmas.Bool.{cases_Bool, false≢true, or_left, or_right, or_from, and_parts, and_from, eqb-true}
use Rattle.std.proofs.lemmas.Bool.{eq-eqb}
use Rattle.std.proofs.lemmas.List.Elements.{All-nil, All-cons, All-head, All-tail, All-weaker}
use Rattle.vcd_core.specs.declared.wave.Change.{Change}
use Rattle.vcd_core.specs.Value.{same_letters}
use Rattle.vcd_core.specs.inside.value.EqualByLetters.{same_letters-Decides}
use Rattle.vcd_amend.specs.GivenCodes.{NewWave, CodedWave, same_changes, same_own_code, same_new_wave, distinct_waves}
use Rattle.vcd_amend.proofs.amended.OneCode.{itself, same_bytes}

-- ---- equal new waves

abbrev same_change : Change → Change → Bool
same_change c d = (c.tick == d.tick) && same_letters c.value d.value

change_from : (c d : Change) → same_change c d ≡ true → c ≡ d
change_from c d same =
    let parts = and_parts (c.tick == d.tick) (same_letters c.value d.value) same in
    ap₂ (λ t v. record { tick = t; value = v }) (eqb-true c.tick d.tick parts.0) ((same_letters-Decides c.value
    d.value).0 parts.1)

change_itself : (c : Change) → same_change c c ≡ true
change_itself c = and_from _ _ (eq-eqb c.tick c.tick refl) ((same_letters-Decides c.value c.value).1 refl)

pub changes_from_test : (xs ys : List Change) → same_changes xs ys ≡ true → xs ≡ ys
changes_from_test [] [] same = refl
changes_from_test [] (y ∷ ys) same = absurd (false≢true same)
changes_from_test (x ∷ xs) [] same = absurd (false≢true same)
changes_from_test (x ∷ xs) (y ∷ ys) same =
    let parts = and_parts (same_change x y) (same_changes xs ys) same in
    ap₂ (λ c cs. c ∷ cs) (change_from x y parts.0) (changes_from_test xs ys parts.1)

pub changes_itself : (xs : List Change) → same_changes xs xs ≡ true
changes_itself [] = refl
changes_itself (x ∷ xs) = and_from _ _ (change_itself x) (changes_itself xs)

own_from : (a b : Option (List ℕ)) → same_own_code a b ≡ true → a ≡ b
own_from None None same = refl
own_from None (Some b) same = absurd (false≢true same)
own_from (Some a) None same = absurd (false≢true same)
own_from (Some a) (Some b) same = ap Some (same_bytes a b same)

-- a new wave of a variable
abbrev pub HasOwn : NewWave → Type 0
HasOwn w = (code : List ℕ) × (w.own ≡ Some code)

pub new_wave_parts : (w v : NewWave) → same_new_wave w v ≡ true → (w.own ≡ v.own) × (w.new ≡ v.new)
new_wave_parts w v same =
    let parts = and_parts (same_own_code w.own v.own) (same_changes w.new v.new) same in
    (own_from w.own v.own parts.0, changes_from_test w.new v.new parts.1)

pub new_wave_itself : (w : NewWave) → HasOwn w → same_new_wave w w ≡ true
new_wave_itself w (code, own) = and_from _ _ (ap (λ o. same_own_code o o) own ∙ itself code) (changes_itself w.new)

-- equal new waves equal the same ones
pub alike_new_waves : (w v u : NewWave) → same_new_wave w v ≡ true → same_new_wave w u ≡ same_new_wave v u
alike_new_waves w v u same =
    let parts = new_wave_parts w v same in
    ap₂ (λ o l. same_own_code o u.own && same_changes l u.new) parts.0 parts.1

any_alike : (w v : NewWave) (seen : List NewWave) → same_new_wave w v ≡ true
    → list_any (same_new_wave w) seen ≡ list_any (same_new_wave v) seen
any_alike w v [] same = refl
any_alike w v (u ∷ seen) same = ap₂ (λ b c. b || c) (alike_new_waves w v u same) (any_alike w v seen same)

found_alike : (w v : NewWave) (gs : List CodedWave) → same_new_wave w v ≡ true
    → find (λ g. same_new_wave w g.wave) gs ≡ find (λ g. same_new_wave v g.wave) gs
found_alike w v [] same = refl
found_alike w v (g ∷ gs) same = ap₂ (λ (b : Bool) o. if b then Some g else o) (alike_new_waves w v g.wave same)
    (found_alike w v gs same)

-- ---- first new waves

-- each new wave that was not seen is among the first ones
pub is_first : (seen ws : List NewWave) → All HasOwn ws → All (λ w. list_any (same_new_wave w) seen ≡ false
    → is_some (find (same_new_wave w) (distinct_waves seen ws)) ≡ true) ws
is_first seen [] own = All-nil (λ w. list_any (same_new_wave w) seen ≡ false → is_some (find (same_new_wave w)
    (distinct_waves seen [])) ≡ true)
is_first seen (v ∷ ws) own = elim (cases_Bool (list_any (same_new_wave v) seen)) [
  | inl there ↦ All-cons P v ws (λ none. absurd (false≢true (sym none ∙ there))) (All-weaker (Q seen) P (λ w h none. rw
      there (h none)) ws (is_first seen ws (All-tail HasOwn v ws own)))
  | inr new ↦ All-cons P v ws (λ none. rw new (rw (new_wave_itself v (All-head HasOwn v ws own)) refl))
      (All-weaker (Q (v
      ∷ seen)) P (λ w h none. rw new (beside w h none)) ws (is_first (v ∷ seen) ws (All-tail HasOwn v ws own)))
]
  where
    P : NewWave → Type 0
    P w = list_any (same_new_wave w) seen ≡ false → is_some (find (same_new_wave w) (distinct_waves seen (v ∷ ws)))
        ≡ true

    Q : List NewWave → NewWave → Type 0
    Q seen w = list_any (same_new_wave w) seen ≡ false → is_some (find (same_new_wave w) (distinct_waves seen ws))
        ≡ true

    beside : (w : NewWave) → Q (v ∷ seen) w → list_any (same_new_wave w) seen ≡ false
        → is_some (find (same_new_wave w) (v ∷ distinct_waves (v ∷ seen) ws)) ≡ true
    beside w h none = elim (cases_Bool (same_new_wave w v)) [
      | inl same ↦ rw same refl
      | inr other ↦ rw other (h (or_from _ _ other none))
    ]

-- what was seen is not among them
seen_not_first : (w : NewWave) (seen ws : List NewWave) → list_any (same_new_wave w) seen ≡ true
    → find (same_new_wave w) (distinct_waves seen ws) ≡ None
seen_not_first w seen [] there = refl
seen_not_first w seen (v ∷ ws) there = elim (cases_Bool (list_any (same_new_wave v) seen)) [
  | inl known ↦ rw known (seen_not_first w seen ws there)
  | inr new ↦ elim (cases_Bool (same_new_wave w v)) [
    | inl same ↦ absurd (false≢true (sym new ∙ sym (any_alike w v seen same) ∙ there))
    | inr other ↦ rw new (rw other (seen_not_first w (v ∷ seen) ws (or_right _ _ there)))
  ]
]

-- no new wave is a later one
abbrev pub WavesApart : List NewWave → Type 0
WavesApart [] = Unit {0}
WavesApart (w ∷ ws) = (find (same_new_wave w) ws ≡ None) × WavesApart ws

pub firsts_apart : (seen ws : List NewWave) → All HasOwn ws → WavesApart (distinct_waves seen ws)
firsts_apart seen [] own = tt
firsts_apart seen (v ∷ ws) own = elim (cases_Bool (list_any (same_new_wave v) seen)) [
  | inl known ↦ rw known (firsts_apart seen ws (All-tail HasOwn v ws own))
  | inr new ↦ rw new (
    seen_not_first v (v ∷ seen) ws (or_left _ _ (new_wave_itself v (All-head HasOwn v ws own))),
    firsts_apart (v ∷ seen) ws (All-tail HasOwn v ws own),
  )
]

pub firsts_have : (P : NewWave → Type 0) (seen ws : List NewWave) → All P ws → All P (distinct_waves seen ws)
firsts_have P seen [] all = All-nil P
firsts_have P seen (v ∷ ws) all = elim (cases_Bool (list_any (same_new_wave v) seen)) [
  | inl known ↦ rw known (firsts_have P seen ws (All-tail P v ws all))
  | inr new ↦ rw new (All-cons P v _ (All-head P v ws all) (firsts_have P (v ∷ seen) ws (All-tail P v ws all)))
]

-- ---- coded waves

-- what is found by its new wave
pub found_by_wave : (p : NewWave → Bool) (gs : List CodedWave) → is_some (find p (map (λ g. g.wave) gs))
    ≡ is_some (find (λ g. p g.wave) gs)
found_by_wave p [] = refl
found_by_wave p (g ∷ gs) = elim (cases_Bool (p g.wave)) [
  | inl here ↦ rw here refl
  | inr there ↦ rw there (found_by_wave p gs)
]

none_by_wave : (p : NewWave → Bool) (gs : List CodedWave) → find p (map (λ g. g.wave) gs) ≡ None
    → find (λ g. p g.wave) gs ≡ None
none_by_wave p [] none = refl
none_by_wave p (g ∷ gs) none = elim (cases_Bool (p g.wave)) [
  | inl here ↦ let never : Some g.wave ≡ None = rw here at none in absurd (cc)
  | inr there ↦ rw there (none_by_wave p gs (rw there at none))
]

-- each coded wave is found by its new wave
pub found_itself : (gs : List CodedWave) → WavesApart (map (λ g. g.wave) gs) → All (λ g. HasOwn g.wave) gs
    → All (λ g. find (λ x. same_new_wave g.wave x.wave) gs ≡ Some g) gs
found_itself [] apart own = All-nil (λ (g : CodedWave). find (λ (x : CodedWave). same_new_wave g.wave x.wave) []
    ≡ Some g)
found_itself (g ∷ gs) (first, apart) own = All-cons (λ (h : CodedWave). find (λ (x : CodedWave). same_new_wave h.wave
    x.wave) (g ∷ gs)
    ≡ Some h) g gs (rw (new_wave_itself g.wave (All-head (λ (g : CodedWave). HasOwn g.wave) g gs own)) refl)
    (All-weaker (λ (h : CodedWave). find (λ (x : CodedWave). same_new_wave h.wave x.wave) gs ≡ Some h) (λ (h :
    CodedWave). find (λ (x : CodedWave). same_new_wave h.wave x.wave) (g ∷ gs) ≡ Some h) later gs (found_itself gs apart
    (All-tail (λ (g : CodedWave). HasOwn g.wave) g gs own)))
  where
    later : (h : CodedWave) → find (λ (x : CodedWave). same_new_wave h.wave x.wave) gs ≡ Some h
        → find (λ (x : CodedWave). same_new_wave h.wave x.wave) (g ∷ gs) ≡ Some h
    later h found = elim (cases_Bool (same_new_wave h.wave g.wave)) [
      | inl same ↦
          let never : None ≡ Some h = sym (none_by_wave (same_new_wave g.wave) gs first) ∙ sym
          (found_alike h.wave g.wave gs same) ∙ found in absurd (cc)
      | inr other ↦ rw other found
    ]
