-- The shortest run of a wave, turn by turn.
use Rattle.std.proofs.Common.{◌≡◌, ℕ, zero, suc, ◌+◌, ◌-◌, ◌<◌, ◌≤◌, Bool, true, false, not, List, [], ◌∷◌, ◌++◌}
use Rattle.std.proofs.Common.{refl, sym, ap, subst, ◌∙◌, arith, Option, Some, None, if◌then◌else◌}
use Rattle.std.specs.Prelude.{IfSome, IsTrue}
use Rattle.std.specs.List.{filter, range_with_len, last_or}
use Rattle.std.proofs.lemmas.List.{append-nil}
use Rattle.std.proofs.lemmas.List.Elements.{filter-append}
use Rattle.std.proofs.lemmas.Bool.{not_from_true}
use Rattle.vcd_compare.specs.Differences.{WaveByTicks, ticks_between}
use Rattle.vcd_compare.specs.ShortestRun.{turns_at, turns, lesser, least_distance}
use Rattle.vcd_compare.specs.inside.WaveComparison.{KeepsUntil}
use Rattle.vcd_compare.specs.inside.ShortestRun.{HasSeenRuns, shortest_after}
use Rattle.vcd_compare.specs.declared.shortest_run.ShortestRun.{ShortestRun}

-- ==== ticks

pub range_split : (a m n later all : ℕ) → a + m ≡ later → m + n ≡ all
    → range_with_len a all ≡ range_with_len a m ++ range_with_len later n
range_split a zero n later all at size =
    let start : a ≡ later = omega arith in
    let rest : all ≡ n = omega arith in
    λ i. range_with_len (start i) (rest i)
range_split a (suc m) n later all at size =
    ap (range_with_len a) {x = all} {y = suc (m + n)} (omega arith)
    ∙ ap (λ l. a ∷ l) (range_split (a + 1) m n later (m + n) (omega arith) refl)

none_passes : (p : ℕ → Bool) (t n : ℕ) → ((s : ℕ) → t ≤ s → s < t + n → p s ≡ false)
    → filter p (range_with_len t n) ≡ []
none_passes p t zero fails = refl
none_passes p t (suc n) fails =
    ap (λ b. if b then t ∷ filter p (range_with_len (t + 1) n) else filter p (range_with_len (t + 1) n))
    (fails t (omega arith) (omega arith))
    ∙ none_passes p (t + 1) n (λ s from to. fails s (omega arith) (omega arith))

-- ==== distances

lesser_swap : (k n : ℕ) (o : Option ℕ) → lesser k (Some (lesser n o)) ≡ lesser n (Some (lesser k o))
lesser_swap k n None = omega arith
lesser_swap k n (Some m) = omega arith

lesser_after : (k tick : ℕ) (turned o : Option ℕ)
    → Some (lesser k (shortest_after turned tick o)) ≡ shortest_after turned tick (Some (lesser k o))
lesser_after k tick None o = refl
lesser_after k tick (Some turned) o = ap Some (lesser_swap k (tick - turned) o)

-- a tick more
least_after : (ts : List ℕ) (tick : ℕ)
    → least_distance (ts ++ tick ∷ []) ≡ shortest_after (last_or None ts) tick (least_distance ts)
unfolding least_distance
least_after [] tick = refl
least_after (t ∷ []) tick = refl
least_after (t ∷ u ∷ us) tick =
    ap (λ o. Some (lesser (u - t) o)) (least_after (u ∷ us) tick)
    ∙ lesser_after (u - t) tick (last_or None (u ∷ us)) (least_distance (u ∷ us))

pub last_after : {X : Type 0} (o : Option X) (ts : List X) (tick : X) → last_or o (ts ++ tick ∷ []) ≡ Some tick
last_after o [] tick = refl
last_after o (t ∷ ts) tick = last_after (Some t) ts tick

-- ==== a wave from the tick `first` on
-- the first tick
pub begin : {V : Type 0} (same : V → V → Bool) (a : WaveByTicks V) (first : ℕ) (r : ShortestRun V)
    → r.value ≡ a first → r.turned ≡ None → r.shortest ≡ None
    → HasSeenRuns same a first first r
unfolding least_distance
begin same a first r value turned shortest =
    let none : turns same a (ticks_between first first) ≡ [] =
    ap (λ n. filter (turns_at same a) (range_with_len (suc first) n))
    {x = first - first} {y = 0} (omega arith) in
    record {
      from = omega arith;
      value = value;
      turned = turned ∙ ap (last_or None) (sym none);
      within = subst (λ o. IfSome o (λ t. t ≤ first)) (sym turned) tt;
      shortest = shortest ∙ ap least_distance (sym none);
    }

module _ {V : Type 0} (same : V → V → Bool) (is_same : (v : V) → IsTrue (same v v)) (a : WaveByTicks V) (first : ℕ)
  where
    -- the turns up to a tick
    abbrev upto : ℕ → List ℕ
    upto t = turns same a (ticks_between first t)

    -- while the wave keeps its value it does not turn
    kept : (t tick s : ℕ) → KeepsUntil a t tick → suc t ≤ s → s < tick → turns_at same a s ≡ false
    kept t tick s keeps from to =
        not_from_true _ (subst (λ v. IsTrue (same (a (s - 1)) v))
        (keeps (s - 1) (omega arith) (omega arith) ∙ sym (keeps s (omega arith) to)) (is_same (a (s - 1))))

    pub turns_kept : (t last : ℕ) → first ≤ t → t ≤ last → KeepsUntil a t (last + 1) → upto last ≡ upto t
    turns_kept t last from later keeps =
        ap (filter (turns_at same a))
        (range_split (suc first) (t - first) (last - t) (suc t) (last - first) (omega arith) (omega arith))
        ∙ filter-append (turns_at same a) (range_with_len (suc first) (t - first)) (range_with_len (suc t) (last - t))
        ∙ ap (λ l. upto t ++ l)
        (none_passes (turns_at same a) (suc t) (last - t)
        (λ s since before. kept t (last + 1) s keeps since (omega arith)))
        ∙ append-nil (upto t)

    -- the ticks up to a later one, and this
    turns_at_tick : (t tick : ℕ) → first ≤ t → t < tick → KeepsUntil a t tick
        → upto tick ≡ upto t ++ (if turns_at same a tick then tick ∷ [] else [])
    turns_at_tick t tick from later keeps =
        ap (filter (turns_at same a))
        (range_split (suc first) (tick - 1 - first) 1 tick (tick - first) (omega arith) (omega arith))
        ∙ filter-append (turns_at same a) (range_with_len (suc first) (tick - 1 - first)) (tick ∷ [])
        ∙ ap (λ l. l ++ (if turns_at same a tick then tick ∷ [] else []))
        (turns_kept t (tick - 1) from (omega arith) (λ s since before. keeps s since (omega arith)))

    stays_within : (o : Option ℕ) (t tick : ℕ) → t < tick → IfSome o (λ turned. turned ≤ t)
        → IfSome o (λ turned. turned ≤ tick)
    stays_within None t tick later is = tt
    stays_within (Some turned) t tick later is = omega arith

    -- the wave has the same value at a later tick
    pub goes_on : (t tick : ℕ) (old new : ShortestRun V) → t < tick → HasSeenRuns same a first t old
        → KeepsUntil a t tick → new.value ≡ a tick → new.turned ≡ old.turned → new.shortest ≡ old.shortest
        → same old.value (a tick) ≡ true
        → HasSeenRuns same a first tick new
    goes_on t tick old new later is keeps value turned shortest alike =
        let from = is.from in
        let before : a (tick - 1) ≡ old.value = keeps (tick - 1) (omega arith) (omega arith) ∙ sym is.value in
        let turns_not : turns_at same a tick ≡ false =
        not_from_true _ (ap (λ v. same v (a tick)) before ∙ alike) in
        let all : upto tick ≡ upto t =
        turns_at_tick t tick from later keeps
        ∙ ap (λ b. upto t ++ (if b then tick ∷ [] else [])) turns_not ∙ append-nil (upto t) in
        record {
          from = omega arith;
          value = value;
          turned = turned ∙ is.turned ∙ ap (last_or None) (sym all);
          within = subst (λ o. IfSome o (λ turned. turned ≤ tick)) (sym turned)
              (stays_within old.turned t tick later is.within);
          shortest = shortest ∙ is.shortest ∙ ap least_distance (sym all);
        }

    -- it has another one
    pub turned_to : (t tick : ℕ) (old new : ShortestRun V) → t < tick → HasSeenRuns same a first t old
        → KeepsUntil a t tick → new.value ≡ a tick → new.turned ≡ Some tick
        → new.shortest ≡ shortest_after old.turned tick old.shortest
        → same old.value (a tick) ≡ false
        → HasSeenRuns same a first tick new
    turned_to t tick old new later is keeps value turned shortest other =
        let from = is.from in
        let before : a (tick - 1) ≡ old.value = keeps (tick - 1) (omega arith) (omega arith) ∙ sym is.value in
        let turns_so : turns_at same a tick ≡ true = ap not (ap (λ v. same v (a tick)) before ∙ other) in
        let all : upto tick ≡ upto t ++ tick ∷ [] =
        turns_at_tick t tick from later keeps ∙ ap (λ b. upto t ++ (if b then tick ∷ [] else [])) turns_so in
        record {
          from = omega arith;
          value = value;
          turned = turned ∙ sym (ap (last_or None) all ∙ last_after None (upto t) tick);
          within = subst (λ o. IfSome o (λ turned. turned ≤ tick)) (sym turned) (omega arith);
          shortest = shortest
              ∙ (λ i. shortest_after (is.turned i) tick (is.shortest i))
              ∙ sym (ap least_distance all ∙ least_after (upto t) tick);
        }
