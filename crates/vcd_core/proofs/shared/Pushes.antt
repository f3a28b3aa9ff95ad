-- The changes before a tick, and the list after a push at its end.
use Rattle.std.proofs.Common.{◌≡◌, ◌≢◌, ℕ, zero, suc, ◌+◌, ◌<◌, ◌≤◌, Bool, true, false, if◌then◌else◌, cond, nat_le}
use Rattle.std.proofs.Common.{nat_lt, List, [], ◌∷◌, ◌++◌, length, take, get_or, All, Any, refl, sym, ap, subst, ◌∙◌}
use Rattle.std.proofs.Common.{◌⊎◌, None, inl, inr, arith}
use Rattle.std.specs.List.{count_by, prefix_len}
use Rattle.std.proofs.lemmas.Bool.{cases_lt, cases_eq, lt-leb, le-leb, lt-ltb, le-ltb, ltb-true, cond_both, cond-true}
use Rattle.std.proofs.lemmas.Bool.{cond-false}
use Rattle.std.proofs.lemmas.Bool.Decides.{not_from_Decides}
use Rattle.std.proofs.lemmas.List.{length-replicate, length-take, get_or-take, take_all, get_or_push, length_push}
use Rattle.std.proofs.lemmas.List.Sums.{take_while-cons, prefix_len_is, prefix_len_passes, sum_by-cons}
use Rattle.std.proofs.lemmas.List.Elements.{All-cons, All-head, All-tail, All-push}
use Rattle.vcd_core.specs.declared.bit.Bit.{Bit}
use Rattle.vcd_core.specs.declared.wave.Change.{Change}
use Rattle.vcd_core.specs.declared.wave.list.WaveList.{WaveList}
use Rattle.vcd_core.specs.inside.wave.List.{changes_of_list}
use Rattle.vcd_core.specs.Value.{all_x, same_letters}
use Rattle.vcd_core.specs.inside.value.EqualByLetters.{same_letters-Decides}
use Rattle.vcd_core.specs.Wave.{change, value_from, value_at, AreChangesFrom, IsWave, AllUpTo}
use Rattle.vcd_core.specs.WaveView.{WaveView}
use Rattle.vcd_core.specs.WavePush.{last_value, changes_before, changes_after_push}
use Rattle.vcd_core.proofs.shared.Waves.{value_from-append, value_past, value_skip, value_early, value_last}

-- ---- ticks by position

floor_below : (floor : ℕ) (before : List Bit) (cs : List Change) → AreChangesFrom floor before cs → (k : ℕ) (d : Change)
    → k < length cs → floor ≤ (get_or cs k d).tick
floor_below floor before [] rise k d within = absurd (omega arith)
floor_below floor before (c ∷ cs) rise zero d within = rise.0
floor_below floor before (c ∷ cs) rise (suc k) d within =
    omega (arith, rise.0, floor_below (c.tick + 1) c.value cs rise.3 k d (omega arith))

pub ticks_rise : (floor : ℕ) (before : List Bit) (cs : List Change) → AreChangesFrom floor before cs
    → (i j : ℕ) (d : Change) → i < j → j < length cs → (get_or cs i d).tick < (get_or cs j d).tick
ticks_rise floor before [] rise i j d less within = absurd (omega arith)
ticks_rise floor before (c ∷ cs) rise i zero d less within = absurd (omega arith)
ticks_rise floor before (c ∷ cs) rise zero (suc j) d less within =
    omega (arith, floor_below (c.tick + 1) c.value cs rise.3 j d (omega arith))
ticks_rise floor before (c ∷ cs) rise (suc i) (suc j) d less within =
    ticks_rise (c.tick + 1) c.value cs rise.3 i j d (omega arith) (omega arith)

-- so they do not fall, as `partition_point` needs
pub ticks_do_not_fall : (floor : ℕ) (before : List Bit) (cs : List Change) → AreChangesFrom floor before cs
    → (i j : ℕ) (d : Change) → i ≤ j → j < length cs → (get_or cs i d).tick ≤ (get_or cs j d).tick
ticks_do_not_fall floor before cs rise i j d le within =
    elim (cases_eq i j) [
      | inl same ↦ omega (arith, ap (λ k. (get_or cs k d).tick) same)
      | inr apart ↦ omega (arith, ticks_rise floor before cs rise i j d (omega arith) within)
    ]

pub all_from_upto : (end : ℕ) (cs : List Change) → AllUpTo end cs → All (λ c. c.tick ≤ end) cs
all_from_upto end [] upto = λ k d within. absurd (omega arith)
all_from_upto end (c ∷ cs) (first, rest) = All-cons (λ c. c.tick ≤ end) c cs first (all_from_upto end cs rest)

pub upto_from_all : (end : ℕ) (cs : List Change) → All (λ c. c.tick ≤ end) cs → AllUpTo end cs
upto_from_all end [] all = tt
upto_from_all end (c ∷ cs) all =
    (All-head (λ c. c.tick ≤ end) c cs all, upto_from_all end cs (All-tail (λ c. c.tick ≤ end) c cs all))

-- ---- the changes before a tick

before_in : (tick : ℕ) (c : Change) (cs : List Change) → c.tick < tick
    → changes_before tick (c ∷ cs) ≡ c ∷ changes_before tick cs
before_in tick c cs early = take_while-cons (λ c. nat_lt c.tick tick) c cs
    ∙ ap (λ b. cond b (c ∷ changes_before tick cs) []) (lt-ltb c.tick tick early)

before_out : (tick : ℕ) (c : Change) (cs : List Change) → tick ≤ c.tick → changes_before tick (c ∷ cs) ≡ []
before_out tick c cs late = take_while-cons (λ c. nat_lt c.tick tick) c cs
    ∙ ap (λ b. cond b (c ∷ changes_before tick cs) []) (le-ltb c.tick tick late)

-- the changes before the tick are the first n, where n parts the list
pub before_is_take : (tick : ℕ) (cs : List Change) (n : ℕ) (d : Change) → n ≤ length cs
    → ((k : ℕ) → k < n → (get_or cs k d).tick < tick)
    → (n < length cs → tick ≤ (get_or cs n d).tick) → changes_before tick cs ≡ take n cs
before_is_take tick cs n d within early late =
    ap (λ k. take k cs) (prefix_len_is (λ c. nat_lt c.tick tick) cs n d within (λ k l. lt-ltb _ tick (early k l))
    (λ l. le-ltb _ tick (late l)))

-- a change to read past the end of a list
pub no_change : Change
no_change = change 0 []

-- a count by a test that parts the list
pub count_is : (p : Change → Bool) (cs : List Change) (n : ℕ) (d : Change) → n ≤ length cs
    → ((k : ℕ) → k < n → p (get_or cs k d) ≡ true)
    → ((k : ℕ) → n ≤ k → k < length cs → p (get_or cs k d) ≡ false) → count_by p cs ≡ n
count_is p [] zero d within passes fails = refl
count_is p [] (suc n) d within passes fails = absurd (omega arith)
count_is p (c ∷ cs) zero d within passes fails =
    sum_by-cons (λ x. cond (p x) 1 0) c cs
    ∙ (λ i. cond (fails 0 (omega arith) (omega arith) i) 1 0 + count_is p cs zero d (omega arith)
    (λ k l. absurd (omega arith)) (λ k from l. fails (suc k) (omega arith) (omega arith)) i)
    ∙ omega arith
count_is p (c ∷ cs) (suc n) d within passes fails =
    sum_by-cons (λ x. cond (p x) 1 0) c cs
    ∙ (λ i. cond (passes 0 (omega arith) i) 1 0 + count_is p cs n d (omega arith) (λ k l. passes (suc k) (omega arith))
    (λ k from l. fails (suc k) (omega arith) (omega arith)) i)
    ∙ omega arith

-- ---- values before and after a tick

-- the value at a tick is the last of the changes that are at or before it
pub value_counted : (cs : List Change) (t floor : ℕ) (before kept : List Bit) → AreChangesFrom floor kept cs
    → value_from before cs t ≡ last_value before (take (count_by (λ c. nat_le c.tick t) cs) cs)
unfolding value_from last_value
value_counted [] t floor before kept rise = refl
value_counted (c ∷ cs) t floor before kept rise =
    let p : Change → Bool = λ d. nat_le d.tick t in
    elim (cases_lt t c.tick) [
      | inl early ↦
          let none = count_is p (c ∷ cs) 0 c (omega arith) (λ k less. absurd (omega arith)) (λ k from within. lt-leb _ t
          (omega (arith, floor_below c.tick kept (c ∷ cs) (omega arith, rise.1, rise.2, rise.3) k c within))) in
          value_skip before c cs t early ∙ value_early before c.value cs (c.tick + 1) t rise.3 (omega arith)
          ∙ ap (λ n. last_value before (take n (c ∷ cs))) (sym none)
      | inr past ↦
          let one : count_by p (c ∷ cs) ≡ suc (count_by p cs) = sum_by-cons (λ d. cond (p d) 1 0) c cs
          ∙ (λ i. cond (le-leb c.tick t past i) 1 0 + count_by p cs) ∙ omega arith in
          value_past before c cs t past ∙ value_counted cs t (c.tick + 1) c.value c.value rise.3
          ∙ ap (λ n. last_value before (take n (c ∷ cs))) (sym one)
    ]

-- before the tick, the changes before it give the value
pub kept_value : (floor tick t : ℕ) (kept before : List Bit) (cs : List Change) → AreChangesFrom floor kept cs
    → t < tick
    → value_from before cs t ≡ value_from before (changes_before tick cs) t
unfolding value_from
kept_value floor tick t kept before [] rise early = refl
kept_value floor tick t kept before (c ∷ cs) (from, other, wide, rest) early =
    elim (cases_lt c.tick tick) [
      | inl inside ↦ rw before_in
          (kept_value (c.tick + 1) tick t c.value (if nat_le c.tick t then c.value else before) cs rest early)
      | inr outside ↦ rw before_out (value_skip before c cs t (omega arith)
          ∙ value_early before c.value cs (c.tick + 1) t rest (omega arith))
    ]

-- they are before it
below_tick : (tick : ℕ) (cs : List Change) → All (λ c. c.tick < tick) (changes_before tick cs)
below_tick tick cs k d within =
    let n = prefix_len (λ (c : Change). nat_lt c.tick tick) cs in
    let inside : k < n = omega (arith, length-take n cs) in
    rw get_or-take (ltb-true _ tick (prefix_len_passes (λ c. nat_lt c.tick tick) cs k d inside))

kept_upto : (tick : ℕ) (cs : List Change) → AllUpTo tick (changes_before tick cs)
kept_upto tick cs = upto_from_all tick _ (λ k d within. omega (arith, below_tick tick cs k d within))

take_rises : (floor n : ℕ) (before : List Bit) (cs : List Change) → AreChangesFrom floor before cs
    → AreChangesFrom floor before (take n cs)
take_rises floor zero before cs rise = tt
take_rises floor (suc n) before [] rise = tt
take_rises floor (suc n) before (c ∷ cs) (from, other, wide, rest) =
    (from, other, wide, take_rises (c.tick + 1) n c.value cs rest)

-- a value that differs from the last one can be appended
added_rise : (floor tick : ℕ) (before value : List Bit) (cs : List Change) → AreChangesFrom floor before cs
    → All (λ c. c.tick < tick) cs → floor ≤ tick → length value ≡ length before → value ≢ last_value before cs
    → AreChangesFrom floor before (cs ++ change tick value ∷ [])
unfolding last_value
added_rise floor tick before value [] rise below at wide differs = (at, differs, wide, tt)
added_rise floor tick before value (c ∷ cs) (from, other, same, rest) below at wide differs = (
  from,
  other,
  same,
  added_rise (c.tick + 1) tick c.value value cs rest (All-tail (λ c. c.tick < tick) c cs below)
      (omega (arith, below 0 c (omega arith))) (wide ∙ sym same) differs,
)

pub kept_wave : (width tick : ℕ) (cs kept : List Change) → kept ≡ changes_before tick cs → IsWave width cs
    → IsWave width kept
kept_wave width tick cs kept is wave =
    subst (IsWave width) (sym is) (record { rise = take_rises 0 _ (all_x width) cs wave.rise })

-- ---- the list after a push

-- either nothing is added, or a change with a value other than the last
pushed_cases : (P : List Change → Type 0) (width : ℕ) (cs : List Change) (tick : ℕ) (value : List Bit)
    → (value ≡ last_value (all_x width) (changes_before tick cs) → P (changes_before tick cs))
    → (value ≢ last_value (all_x width) (changes_before tick cs) → P (changes_before tick cs ++ change tick value ∷ []))
    → P (changes_after_push width cs tick value)
unfolding changes_after_push
pushed_cases P width cs tick value same other =
    cond_both (same_letters value (last_value (all_x width) (changes_before tick cs))) _ _ P
    (λ e. same ((same_letters-Decides value _).0 e))
    (λ e. other (not_from_Decides _ (same_letters-Decides value _) e))

pub pushed_wave : (width : ℕ) (cs : List Change) (tick : ℕ) (value : List Bit) → IsWave width cs
    → length value ≡ length (all_x width) → IsWave width (changes_after_push width cs tick value)
pushed_wave width cs tick value is wide =
    pushed_cases (IsWave width) width cs tick value
    (λ _. kept_wave width tick cs _ refl is)
    (λ other. record {
      rise = added_rise 0 tick (all_x width) value _ (take_rises 0 _ (all_x width) cs is.rise)
          (below_tick tick cs) (omega arith) wide other;
    })

pub pushed_last : (width : ℕ) (cs : List Change) (tick : ℕ) (value : List Bit)
    → All (λ c. c.tick ≤ tick) (changes_after_push width cs tick value)
pushed_last width cs tick value =
    let early = all_from_upto tick _ (kept_upto tick cs) in
    pushed_cases (All (λ c. c.tick ≤ tick)) width cs tick value (λ _. early)
    (λ _. All-push (λ c. c.tick ≤ tick) _ _ early (omega arith))

-- the value at every tick after a push
pub value_at-pushed : (width : ℕ) (cs : List Change) (tick : ℕ) (value : List Bit) (t : ℕ) → IsWave width cs
    → value_at width (changes_after_push width cs tick value) t ≡ (if nat_le tick t then value else value_at width cs t)
unfolding value_from
value_at-pushed width cs tick value t is =
    elim (cases_lt t tick) [
      | inl early ↦ rw lt-leb (pushed_cases (λ l. value_at width l t ≡ value_at width cs t) width cs tick value
          (λ _. sym (kept_value 0 tick t (all_x width) (all_x width) cs is.rise early))
          (λ _. value_from-append (all_x width) (changes_before tick cs) (change tick value ∷ []) t
          ∙ value_skip _ (change tick value) [] t early
          ∙ sym (kept_value 0 tick t (all_x width) (all_x width) cs is.rise early)))
      | inr late ↦ rw le-leb (pushed_cases (λ l. value_at width l t ≡ value) width cs tick value
          (λ same. value_last (all_x width) _ tick t (kept_upto tick cs) late ∙ sym same)
          (λ _. value_from-append (all_x width) (changes_before tick cs) (change tick value ∷ []) t
          ∙ value_past _ (change tick value) [] t late))
    ]

-- at the tick, either the value is the last one, or there is a change
pub last_before : (tick : ℕ) (before : List Bit) (cs : List Change) → AllUpTo tick cs
    → (value_from before cs tick ≡ last_value before (changes_before tick cs)) ⊎ (changes_before tick cs ≢ cs)
last_before tick before cs upto =
    let n = prefix_len (λ (c : Change). nat_lt c.tick tick) cs in
    elim (cases_lt n (length cs)) [
      | inl some ↦ inr (λ equal. omega (arith, ap length equal, length-take n cs))
      | inr all ↦ inl (value_last before cs tick tick upto (omega arith)
          ∙ ap (last_value before) (sym (take_all n cs all)))
    ]

-- where a change is at the tick, not all are before it
pub one_at_tick : (tick : ℕ) (cs : List Change) → Any (λ c. c.tick ≡ tick) cs → changes_before tick cs ≢ cs
one_at_tick tick cs (k, x, within, is, at) same =
    let below : (get_or cs k x).tick < tick =
    subst (All (λ (c : Change). c.tick < tick)) same (below_tick tick cs) k x within in
    omega (arith, ap (λ (c : Change). c.tick) is)

last_value-added : (before : List Bit) (cs : List Change) (c : Change) → last_value before (cs ++ c ∷ []) ≡ c.value
unfolding last_value
last_value-added before [] c = refl
last_value-added before (x ∷ cs) c = last_value-added x.value cs c

-- the last value, where the list is split at its last change
pub last_value-split : (before : List Bit) (cs rest : List Change) (c : Change) → cs ≡ rest ++ c ∷ []
    → c.value ≡ last_value before cs
last_value-split before cs rest c split = sym (ap (last_value before) split ∙ last_value-added before rest c)

-- the last value has the width of the others
pub last_value-long : (floor : ℕ) (before : List Bit) (cs : List Change) → AreChangesFrom floor before cs
    → length (last_value before cs) ≡ length before
unfolding last_value
last_value-long floor before [] rise = refl
last_value-long floor before (c ∷ cs) (from, other, wide, rest) = last_value-long (c.tick + 1) c.value cs rest ∙ wide

-- the last change is at the tick, and is removed
pub taken_off : (width tick : ℕ) (cs : List Change) (n : ℕ) (last : Change) → IsWave width cs → n + 1 ≡ length cs
    → last ≡ get_or cs n last → last.tick ≡ tick
    → changes_before tick cs ≡ take n cs
taken_off width tick cs n last is all at here =
    let stands : (get_or cs n last).tick ≡ tick = ap (λ (c : Change). c.tick) (sym at) ∙ here in
    before_is_take tick cs n last (omega arith)
    (λ k early. omega (arith, ticks_rise 0 (all_x width) cs is.rise k n last early (omega arith)))
    (λ _. omega arith)

-- no change is at the tick
pub all_before : (tick : ℕ) (cs : List Change) (d : Change) → ((k : ℕ) → k < length cs → (get_or cs k d).tick < tick)
    → cs ≡ changes_before tick cs
all_before tick cs d early = sym (before_is_take tick cs (length cs) d (omega arith) early (λ l. absurd (omega arith))
    ∙ take_all (length cs) cs (omega arith))

pub last_value-none : (before : List Bit) (cs : List Change) → length cs ≡ 0 → before ≡ last_value before cs
unfolding last_value
last_value-none before [] none = refl
last_value-none before (c ∷ cs) none = absurd (omega arith)

-- the last change is before the tick
pub other_tick : (width tick : ℕ) (cs : List Change) (n : ℕ) (last : Change) → IsWave width cs → n + 1 ≡ length cs
    → last ≡ get_or cs n last
    → All (λ c. c.tick ≤ tick) cs → last.tick ≢ tick → cs ≡ changes_before tick cs
other_tick width tick cs n last is all at late apart =
    let stands : (get_or cs n last).tick ≡ last.tick = ap (λ (c : Change). c.tick) (sym at) in
    let before : last.tick < tick = omega (arith, late n last (omega arith)) in
    all_before tick cs last (λ k within.
    omega (arith, ticks_do_not_fall 0 (all_x width) cs is.rise k n last (omega arith) (omega arith)))

-- a push after the changes before the tick
pub pushed_same : (width : ℕ) (cs : List Change) (tick : ℕ) (value : List Bit)
    → same_letters value (last_value (all_x width) (changes_before tick cs)) ≡ true
    → changes_after_push width cs tick value ≡ changes_before tick cs
unfolding changes_after_push
pushed_same width cs tick value same = cond-true _ _ _ same

pub pushed_other : (width : ℕ) (cs : List Change) (tick : ℕ) (value : List Bit)
    → same_letters value (last_value (all_x width) (changes_before tick cs)) ≡ false
    → changes_after_push width cs tick value ≡ changes_before tick cs ++ change tick value ∷ []
unfolding changes_after_push
pushed_other width cs tick value other = cond-false _ _ _ other

-- the last change of a list that is split there
split_last : (cs rest : List Change) (last d : Change) → cs ≡ rest ++ last ∷ []
    → (get_or cs (length rest) d ≡ last) × (length cs ≡ length rest + 1)
split_last cs rest last d split = (
  ap (λ l. get_or l (length rest) d) split ∙ get_or_push rest last d (length rest) refl,
  ap length split ∙ length_push rest last,
)

-- so the last tick shows whether all changes are up to the end
pub upto_from_last : (floor : ℕ) (before : List Bit) (end : ℕ) (cs rest : List Change) (last : Change)
    → AreChangesFrom floor before cs → cs ≡ rest ++ last ∷ [] → last.tick ≤ end → AllUpTo end cs
upto_from_last floor before end cs rest last rise split le = upto_from_all end cs (λ k d within.
    let (at, long) = split_last cs rest last d split in
    omega (
      arith,
      ap (λ (c : Change). c.tick) at,
      ticks_do_not_fall floor before cs rise k (length rest) d (omega (arith, long)) (omega (arith, long)),
    ))

pub last_upto : (end : ℕ) (cs rest : List Change) (last : Change) → cs ≡ rest ++ last ∷ [] → AllUpTo end cs
    → last.tick ≤ end
last_upto end cs rest last split upto =
    let (at, long) = split_last cs rest last last split in
    omega (
      arith,
      ap (λ (c : Change). c.tick) at,
      all_from_upto end cs upto (length rest) last (omega (arith, long)),
    )

-- the changes of a wave that shares no list are those of its own
own_changes : (l : WaveList) → l.shared ≡ None → l.own.items ≡ changes_of_list l
own_changes l own = ap (λ shared. changes_of_list (record l { shared = shared })) (sym own)

-- a wave that is seen as w, and a push on its own list, made first; the value may go by the width
module _ (v w : WaveView) (is : v ≡ w) (wave : IsWave v.width v.changes) (tick : ℕ) (value : ℕ → List Bit)
    (made : WaveList) (own : made.shared ≡ None) (same : changes_of_list made ≡ v.changes) where
  here : made.own.items ≡ v.changes
  here = own_changes made own ∙ same

  module _ (list : WaveList) (still : list.shared ≡ None)
      (pushed : list.own.items ≡ changes_after_push v.width made.own.items tick (value v.width)) where
    pushed_here : changes_of_list list ≡ changes_after_push v.width v.changes tick (value v.width)
    pushed_here = sym (own_changes list still) ∙ pushed
        ∙ ap (λ cs. changes_after_push v.width cs tick (value v.width)) here

    pub wave_pushed : length (value v.width) ≡ v.width → IsWave v.width (changes_of_list list)
    wave_pushed wide = subst (IsWave v.width) (sym pushed_here)
        (pushed_wave v.width v.changes tick _ wave (wide ∙ sym (length-replicate v.width _)))

    pub values_pushed : (t : ℕ) → value_at v.width (changes_of_list list) t
        ≡ (if nat_le tick t then value w.width else value_at w.width w.changes t)
    values_pushed t = ap (λ cs. value_at v.width cs t) pushed_here
        ∙ value_at-pushed v.width v.changes tick _ t wave
        ∙ ap (λ (x : WaveView). if nat_le tick t then value x.width else value_at x.width x.changes t) is

    pub last_pushed : All (λ c. c.tick ≤ tick) (changes_of_list list)
    last_pushed = subst (All (λ (c : Change). c.tick ≤ tick)) (sym pushed_here) (pushed_last v.width v.changes tick _)

  -- where a push succeeds if it takes a change away, it does if one is at the tick
  pub replaces_there : {R : Type 0} → (changes_before tick made.own.items ≢ made.own.items → R)
      → Any (λ c. c.tick ≡ tick) w.changes → R
  replaces_there succeeds some =
      let stands = subst (λ (x : WaveView). Any (λ (c : Change). c.tick ≡ tick) x.changes) (sym is) some in
      succeeds (subst (λ cs. changes_before tick cs ≢ cs) (sym here) (one_at_tick tick v.changes stands))

  -- if it also does where the last value is the new one, it does where the wave has that at the tick
  pub adds_none_there : {R : Type 0} → (changes_before tick made.own.items ≢ made.own.items → R)
      → (last_value (all_x v.width) (changes_before tick made.own.items) ≡ value v.width → R)
      → All (λ c. c.tick ≤ tick) w.changes → value_at w.width w.changes tick ≡ value w.width → R
  adds_none_there takes adds early stays =
      elim (last_before tick (all_x v.width) v.changes
      (upto_from_all tick _ (subst (λ (x : WaveView). All (λ (c : Change). c.tick ≤ tick) x.changes) (sym is) early))) [
        | inl last ↦ adds (ap (λ cs. last_value (all_x v.width) (changes_before tick cs)) here ∙ sym last
            ∙ ap (λ (x : WaveView). value_at x.width x.changes tick) is ∙ stays
            ∙ ap (λ (x : WaveView). value x.width) (sym is))
        | inr stands ↦ takes (subst (λ cs. changes_before tick cs ≢ cs) (sym here) stands)
      ]
