-- A comparison of two waves, step by step: what was found, and what is to come, stay all that stands.
use Rattle.std.proofs.Common.{◌≡◌, ℕ, suc, ◌+◌, ◌-◌, ◌<◌, ◌≤◌, Bool, true, false, not, List, [], ◌∷◌, ◌++◌, length, map}
use Rattle.std.proofs.Common.{refl, sym, ap, subst, ◌∙◌, inl, inr, arith, nat_le, Option, Some, None, append_assoc}
use Rattle.std.proofs.Common.{if◌then◌else◌, length-append}
use Rattle.std.specs.Prelude.{nat_lt, ◌&&◌, option_to_list}
use Rattle.std.proofs.lemmas.List.{map-append, append-nil}
use Rattle.std.proofs.lemmas.List.Elements.{filter-append}
use Rattle.std.proofs.lemmas.Bool.{cases_Bool, cond_both, lt-ltb, le-ltb, and_left, and_right}
use Rattle.std.proofs.lemmas.Bool.{not_from_true, not_from_false}
use Rattle.vcd_text.specs.declared.reading.choice.TickRange.{TickRange}
use Rattle.vcd_compare.specs.Differences.{WaveByTicks, differ_at, differences_from, begun_at, ended_before}
use Rattle.vcd_compare.specs.Differences.{ticks_between, is_forgiven, difference_at, summary, compared}
use Rattle.vcd_compare.specs.inside.WaveComparison.{KeepsUntil, IsOpen, IsOpenIf, begun, told_of, is_edge}
use Rattle.vcd_compare.specs.inside.WaveComparison.{is_forgiven_at, ended_by, standing_end, begun_with}
use Rattle.vcd_compare.specs.inside.WaveComparison.{HasCompared}
use Rattle.vcd_compare.specs.declared.differences.Difference.{Difference}
use Rattle.vcd_compare.specs.declared.differences.Differences.{Differences}
use Rattle.vcd_compare.specs.declared.wave_comparison.OpenDifference.{OpenDifference}
use Rattle.vcd_compare.specs.declared.wave_comparison.WaveComparison.{WaveComparison}
use Rattle.vcd_compare.proofs.shared.FoundDifferences.{difference_goes_on, none_begins}

-- ==== two waves, compared from the tick `first` to t
module _ {V : Type 0} (same : V → V → Bool) (tolerance : ℕ) (a b : WaveByTicks V) (first : ℕ) where
  abbrev differ : ℕ → Bool
  differ = differ_at same a b

  -- what stands of some differences, in a window up to this tick
  abbrev told : (last : ℕ) → List TickRange → List (Difference V)
  told last ds = told_of same tolerance a b (ticks_between first last) ds

  told-append : (last : ℕ) (xs ys : List TickRange) → told last (xs ++ ys) ≡ told last xs ++ told last ys
  told-append last xs ys =
      ap (map (difference_at a b))
      (filter-append (λ ticks. not (is_forgiven same tolerance (ticks_between first last) a ticks)) xs ys)
      ∙ map-append (difference_at a b) _ _

  -- ---- between two steps

  differ_alike : (t tick s : ℕ) → KeepsUntil a t tick → KeepsUntil b t tick → t ≤ s → s < tick → differ s ≡ differ t
  differ_alike t tick s keep_a keep_b from to = λ i. not (same (keep_a s from to i) (keep_b s from to i))

  -- nothing begins or ends
  quiet : (t tick last : ℕ) (value : Option V) (o : Option (OpenDifference V)) → t < tick → tick ≤ suc last
      → IsOpenIf same a b first t value o → KeepsUntil a t tick → KeepsUntil b t tick
      → differences_from differ (begun o) (suc t) (last - t)
      ≡ differences_from differ (begun o) tick (suc last - tick)
  quiet t tick last value None later upto is keep_a keep_b =
      none_begins differ (suc t) (tick - suc t) (last - t) tick (suc last - tick) (omega arith) (omega arith)
      (λ s from to. differ_alike t tick s keep_a keep_b (omega arith) to ∙ is.0)
  quiet t tick last value (Some o) later upto is keep_a keep_b =
      difference_goes_on differ o.first (suc t) (tick - suc t) (last - t) tick (suc last - tick)
      (omega arith) (omega arith)
      (λ s from to. differ_alike t tick s keep_a keep_b (omega arith) to ∙ is.apart)

  -- ---- what ends at a step

  forgiven_alike : (last t tick : ℕ) (o : OpenDifference V) → t < tick → tick ≤ last → IsOpen same a b first t o
      → is_forgiven same tolerance (ticks_between first last) a (ticks_between o.first (tick - 1))
      ≡ is_forgiven_at same tolerance o tick (a tick)
  forgiven_alike last t tick o later upto is =
      let e : tick - 1 + 1 ≡ tick = omega arith in
      let l : nat_lt (tick - 1) last ≡ true = lt-ltb _ _ (omega arith) in
      let short = nat_le (tick - o.first) tolerance in
      elim (cases_Bool (nat_lt first o.first)) [
        | inl amid ↦
            let v : o.before ≡ Some (a (o.first - 1)) =
            is.before ∙ ap (λ c. if c then Some (a (o.first - 1)) else None) amid in
            (λ i. nat_le (e i - o.first) tolerance
            && (amid i && (l i && not (same (a (o.first - 1)) (a (e i))))))
            ∙ ap (λ x. short && is_edge same x (a tick)) (sym v)
        | inr begins ↦
            let v : o.before ≡ None = is.before ∙ ap (λ c. if c then Some (a (o.first - 1)) else None) begins in
            (λ i. nat_le (e i - o.first) tolerance
            && (begins i && (nat_lt (tick - 1) last && not (same (a (o.first - 1)) (a (tick - 1 + 1))))))
            ∙ ap (λ x. short && is_edge same x (a tick)) (sym v)
      ]

  -- what ends there and stands is told as it was kept
  told_ended : (last t tick : ℕ) (o : OpenDifference V) → t < tick → tick ≤ last → IsOpen same a b first t o
      → told last (ticks_between o.first (tick - 1) ∷ []) ≡ standing_end same tolerance (Some o) tick (a tick)
  told_ended last t tick o later upto is =
      let alike = forgiven_alike last t tick o later upto is in
      let ticks = ticks_between o.first (tick - 1) in
      let it : difference_at a b ticks ≡ ended_by o (tick - 1) =
      λ i. record {
        ticks = ticks;
        value_in_a = sym is.value_in_a i;
        value_in_b = sym is.value_in_b i;
      } in
      elim (cases_Bool (is_forgiven_at same tolerance o tick (a tick))) [
        | inl gone ↦
            ap (λ x. map (difference_at a b) (if not x then ticks ∷ [] else [])) (alike ∙ gone)
            ∙ sym (ap (λ x. if x then [] else ended_by o (tick - 1) ∷ []) gone)
        | inr stands ↦
            ap (λ x. map (difference_at a b) (if not x then ticks ∷ [] else [])) (alike ∙ stands)
            ∙ ap (λ x. x ∷ []) it
            ∙ sym (ap (λ x. if x then [] else ended_by o (tick - 1) ∷ []) stands)
      ]

  -- the same, if one has begun
  told_ended_if : (last t tick : ℕ) (value : Option V) (o : Option (OpenDifference V)) → t < tick → tick ≤ last
      → IsOpenIf same a b first t value o
      → told last (ended_before false (begun o) tick) ≡ standing_end same tolerance o tick (a tick)
  told_ended_if last t tick value None later upto is = refl
  told_ended_if last t tick value (Some o) later upto is = told_ended last t tick o later upto is

  end_length : (o : Option (OpenDifference V)) (tick : ℕ) (after : V)
      → length (standing_end same tolerance o tick after) ≤ 1
  end_length None tick after = omega arith
  end_length (Some o) tick after =
      cond_both (is_forgiven_at same tolerance o tick after) [] (ended_by o (tick - 1) ∷ []) (λ ds. length ds ≤ 1)
      (λ _. omega arith) (λ _. omega arith)

  -- ---- the steps

  -- what is to come, from a later tick on, at which the waves differ or not
  to_come : (t tick last : ℕ) (value : Option V) (o : Option (OpenDifference V)) (apart : Bool) → t < tick
      → tick ≤ last → IsOpenIf same a b first t value o → KeepsUntil a t tick → KeepsUntil b t tick
      → differ tick ≡ apart
      → told last (differences_from differ (begun o) (suc t) (last - t))
      ≡ told last (ended_before apart (begun o) tick)
      ++ told last (differences_from differ (begun_at apart (begun o) tick) (suc tick) (last - tick))
  unfolding differences_from
  to_come t tick last value o apart later upto is keep_a keep_b at =
      ap (told last) (quiet t tick last value o later (omega arith) is keep_a keep_b
      ∙ ap (differences_from differ (begun o) tick) {x = suc last - tick} {y = suc (last - tick)} (omega arith)
      ∙ ap (λ x. ended_before x (begun o) tick
      ++ differences_from differ (begun_at x (begun o) tick) (suc tick) (last - tick)) at)
      ∙ told-append last (ended_before apart (begun o) tick) _

  -- the waves are the same at the tick
  pub step_same : (t tick : ℕ) (c new : WaveComparison V) → t < tick → HasCompared same tolerance a b first t c
      → KeepsUntil a t tick → KeepsUntil b t tick → same (a tick) (b tick) ≡ true
      → new.tolerance ≡ c.tolerance → new.open_difference ≡ None → new.value ≡ Some (a tick)
      → ((before : List (Difference V)) → length before ≤ t → c.found ≡ summary before
      → new.found ≡ summary (before ++ standing_end same c.tolerance c.open_difference tick (a tick)))
      → HasCompared same tolerance a b first tick new
  step_same t tick c new later is keep_a keep_b alike tolerance_is open_is value_is found_is =
      let from = is.from in
      let few = is.few in
      let more = standing_end same tolerance c.open_difference tick (a tick) in
      let short = end_length c.open_difference tick (a tick) in
      record {
        from = omega arith;
        tolerance_is = tolerance_is ∙ is.tolerance_is;
        open_is = subst (IsOpenIf same a b first tick new.value) (sym open_is) (not_from_true _ alike, value_is);
        found = is.found ++ more;
        found_is = found_is is.found is.few is.found_is
            ∙ ap (λ x. summary (is.found ++ standing_end same x c.open_difference tick (a tick))) is.tolerance_is;
        few = simp length-append (omega (arith, few, short));
        all = λ last upto.
            let rest = told last (differences_from differ None (suc tick) (last - tick)) in
            is.all last (omega arith)
            ∙ ap (λ x. is.found ++ x)
            (to_come t tick last c.value c.open_difference false later upto is.open_is keep_a keep_b
            (not_from_true _ alike)
            ∙ ap (λ x. x ++ rest) (told_ended_if last t tick c.value c.open_difference later upto is.open_is))
            ∙ sym (append_assoc is.found more rest)
            ∙ ap (λ o. (is.found ++ more) ++ told last (differences_from differ (begun o) (suc tick) (last - tick)))
            (sym open_is);
      }

  -- what holds at the tick, if the waves differ there
  abbrev pub opened : Option (OpenDifference V) → (before : Option V) → (tick : ℕ) → Option (OpenDifference V)
  opened (Some o) before tick = Some o
  opened None before tick = Some (begun_with before tick (a tick) (b tick))

  begun_alike : (o : Option (OpenDifference V)) (before : Option V) (tick : ℕ)
      → begun_at true (begun o) tick ≡ begun (opened o before tick)
  begun_alike None before tick = refl
  begun_alike (Some o) before tick = refl

  none_ended : (o : Option ℕ) (tick : ℕ) → ended_before true o tick ≡ []
  none_ended o tick = refl

  open_after : (t tick : ℕ) (value value_now : Option V) (o : Option (OpenDifference V)) → first ≤ t → t < tick
      → IsOpenIf same a b first t value o → KeepsUntil a t tick → differ tick ≡ true
      → IsOpenIf same a b first tick value_now (opened o value tick)
  open_after t tick value value_now None from later is keep_a apart = record {
    apart = apart;
    from = omega arith;
    upto = omega arith;
    before = is.1
        ∙ ap Some (sym (keep_a (tick - 1) (omega arith) (omega arith)))
        ∙ sym (ap (λ x. if x then Some (a (tick - 1)) else None) (lt-ltb first tick (omega arith)));
    value_in_a = refl;
    value_in_b = refl;
  }
  open_after t tick value value_now (Some o) from later is keep_a apart =
      let upto = is.upto in
      record {
        apart = apart;
        from = is.from;
        upto = omega arith;
        before = is.before;
        value_in_a = is.value_in_a;
        value_in_b = is.value_in_b;
      }

  -- the waves differ at the tick
  pub step_apart : (t tick : ℕ) (c new : WaveComparison V) → t < tick → HasCompared same tolerance a b first t c
      → KeepsUntil a t tick → KeepsUntil b t tick → same (a tick) (b tick) ≡ false
      → new.tolerance ≡ c.tolerance → new.open_difference ≡ opened c.open_difference c.value tick
      → new.found ≡ c.found
      → HasCompared same tolerance a b first tick new
  step_apart t tick c new later is keep_a keep_b other tolerance_is open_is found_is =
      let from = is.from in
      let few = is.few in
      record {
        from = omega arith;
        tolerance_is = tolerance_is ∙ is.tolerance_is;
        open_is = subst (IsOpenIf same a b first tick new.value) (sym open_is)
            (open_after t tick c.value new.value c.open_difference from later is.open_is keep_a
            (not_from_false _ other));
        found = is.found;
        found_is = found_is ∙ is.found_is;
        few = omega arith;
        all = λ last upto.
            is.all last (omega arith)
            ∙ ap (λ x. is.found ++ x)
            (to_come t tick last c.value c.open_difference true later upto is.open_is keep_a keep_b
            (not_from_false _ other)
            ∙ ap (λ x. told last x ++ told last
            (differences_from differ (begun_at true (begun c.open_difference) tick) (suc tick) (last - tick)))
            (none_ended (begun c.open_difference) tick)
            ∙ ap (λ x. told last (differences_from differ x (suc tick) (last - tick)))
            (begun_alike c.open_difference c.value tick
            ∙ ap begun (sym open_is)));
      }

  -- ---- the first tick

  none_before : (apart : Bool) (t : ℕ) → ended_before apart None t ≡ []
  none_before true t = refl
  none_before false t = refl

  begin : (c : WaveComparison V) → c.tolerance ≡ tolerance → c.found ≡ summary [] → (apart : Bool)
      → differ first ≡ apart → begun_at apart None first ≡ begun c.open_difference
      → IsOpenIf same a b first first c.value c.open_difference
      → HasCompared same tolerance a b first first c
  unfolding differences_from
  begin c tolerance_is found_is apart at begun_is open_is = record {
    from = omega arith;
    tolerance_is = tolerance_is;
    open_is = open_is;
    found = [];
    found_is = found_is;
    few = omega arith;
    all = λ last upto. ap (told last)
        (ap (differences_from differ None first) {x = suc last - first} {y = suc (last - first)} (omega arith)
        ∙ ap (λ x. ended_before x None first
        ++ differences_from differ (begun_at x None first) (suc first) (last - first)) at
        ∙ ap (λ x. x ++ differences_from differ (begun_at apart None first) (suc first) (last - first))
        (none_before apart first)
        ∙ ap (λ x. differences_from differ x (suc first) (last - first)) begun_is);
  }

  pub begin_same : (c : WaveComparison V) → c.tolerance ≡ tolerance → c.found ≡ summary []
      → same (a first) (b first) ≡ true → c.open_difference ≡ None → c.value ≡ Some (a first)
      → HasCompared same tolerance a b first first c
  begin_same c tolerance_is found_is alike open_is value_is =
      begin c tolerance_is found_is false (not_from_true _ alike) (ap begun (sym open_is))
      (subst (IsOpenIf same a b first first c.value) (sym open_is) (not_from_true _ alike, value_is))

  pub begin_apart : (c : WaveComparison V) → c.tolerance ≡ tolerance → c.found ≡ summary []
      → same (a first) (b first) ≡ false
      → c.open_difference ≡ Some (begun_with None first (a first) (b first))
      → HasCompared same tolerance a b first first c
  begin_apart c tolerance_is found_is other open_is =
      begin c tolerance_is found_is true (not_from_false _ other) (ap begun (sym open_is))
      (subst (IsOpenIf same a b first first c.value) (sym open_is) (record {
        apart = not_from_false _ other;
        from = omega arith;
        upto = omega arith;
        before = sym (ap (λ x. if x then Some (a (first - 1)) else None) (le-ltb first first (omega arith)));
        value_in_a = refl;
        value_in_b = refl;
      }))

  -- ---- the last tick

  -- what holds at the last tick of the window stands
  told_at_end : (t last : ℕ) (value : Option V) (o : Option (OpenDifference V)) → IsOpenIf same a b first t value o
      → told last (ended_before false (begun o) (suc last)) ≡ map (λ x. ended_by x last) (option_to_list o)
  told_at_end t last value None is = refl
  told_at_end t last value (Some o) is =
      let window = ticks_between first last in
      let e : suc last - 1 ≡ last = omega arith in
      let ticks = ticks_between o.first last in
      let out : nat_lt last last ≡ false = le-ltb last last (omega arith) in
      let stands : is_forgiven same tolerance window a ticks ≡ false =
      and_right _ _ (and_right _ _ (and_left _ _ out)) in
      ap (λ x. told last (ticks_between o.first x ∷ [])) e
      ∙ ap (λ x. map (difference_at a b) (if not x then ticks ∷ [] else [])) stands
      ∙ λ i. record {
        ticks = ticks;
        value_in_a = sym is.value_in_a i;
        value_in_b = sym is.value_in_b i;
      } ∷ []

  finish : (t last : ℕ) (c : WaveComparison V) (found : Differences V) → t ≤ last
      → (is : HasCompared same tolerance a b first t c) → KeepsUntil a t (last + 1) → KeepsUntil b t (last + 1)
      → found ≡ summary (is.found ++ map (λ x. ended_by x last) (option_to_list c.open_difference))
      → found ≡ compared same tolerance a b (ticks_between first last)
  unfolding differences_from
  finish t last c found upto is keep_a keep_b found_is =
      found_is
      ∙ ap summary (sym (is.all last upto
      ∙ ap (λ x. is.found ++ x)
      (ap (told last) (quiet t (suc last) last c.value c.open_difference (omega arith) (omega arith) is.open_is
      (λ s from to. keep_a s from (omega arith)) (λ s from to. keep_b s from (omega arith))
      ∙ ap (differences_from differ (begun c.open_difference) (suc last)) {x = suc last - suc last} {y = 0}
      (omega arith))
      ∙ told_at_end t last c.value c.open_difference is.open_is)))

  pub finish_one : (t last : ℕ) (c : WaveComparison V) (o : OpenDifference V) (found : Differences V)
      → c.open_difference ≡ Some o → t ≤ last → HasCompared same tolerance a b first t c
      → KeepsUntil a t (last + 1) → KeepsUntil b t (last + 1)
      → ((before : List (Difference V)) → length before ≤ t → c.found ≡ summary before
      → found ≡ summary (before ++ ended_by o last ∷ []))
      → found ≡ compared same tolerance a b (ticks_between first last)
  finish_one t last c o found is_open upto is keep_a keep_b found_is =
      finish t last c found upto is keep_a keep_b
      (found_is is.found is.few is.found_is
      ∙ ap (λ x. summary (is.found ++ map (λ x. ended_by x last) (option_to_list x))) (sym is_open))

  pub finish_none : (t last : ℕ) (c : WaveComparison V) → c.open_difference ≡ None
      → t ≤ last → HasCompared same tolerance a b first t c
      → KeepsUntil a t (last + 1) → KeepsUntil b t (last + 1)
      → c.found ≡ compared same tolerance a b (ticks_between first last)
  finish_none t last c is_open upto is keep_a keep_b =
      finish t last c c.found upto is keep_a keep_b
      (is.found_is ∙ ap summary (sym (append-nil is.found))
      ∙ ap (λ x. summary (is.found ++ map (λ x. ended_by x last) (option_to_list x))) (sym is_open))
