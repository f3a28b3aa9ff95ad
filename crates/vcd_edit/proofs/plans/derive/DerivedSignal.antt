-- A derived signal: its wave, from the edges of its operands, and the record that puts it in.
use Rattle.std.proofs.Common.{◌≡◌, ℕ, zero, suc, ◌+◌, ◌-◌, ◌<◌, ◌≤◌, not, Bool, true, false, cond, nat_le}
use Rattle.std.proofs.Common.{if◌then◌else◌, List, [], ◌∷◌, length, map, replicate, get_or, drop, All, Some, None, inl}
use Rattle.std.proofs.Common.{inr, refl, sym, ap, subst, ◌∙◌, arith}
use Rattle.std.specs.List.{filter, range_with_len, list_any, insert, push}
use Rattle.std.proofs.lemmas.Bool.{cases_eq, cond_both, not-false, or_parts}
use Rattle.std.proofs.lemmas.Option.{same_Some}
use Rattle.std.proofs.lemmas.List.{drop_all, length-replicate}
use Rattle.std.proofs.lemmas.Simd.{map-map}
use Rattle.std.proofs.lemmas.List.Elements.{All-nil, All-map, All-filter}
use Rattle.std.proofs.lemmas.List.FromFn.{length-range_with_len, get_or-range_with_len}
use Rattle.std.specs.Prelude.{codes}
use Rattle.std.specs.Borrow.{Bor}
use Rattle.std.proofs.lemmas.List.Edits.{insert_end}
use Rattle.vcd_core.specs.declared.bit.Bit.{Bit}
use Rattle.vcd_core.specs.declared.bit.Bit.TheVariants.{X}
use Rattle.vcd_core.specs.declared.bit_edges.BitEdge.{BitEdge}
use Rattle.vcd_core.specs.BitEdges.{bit_edge, bit_edges_of}
use Rattle.vcd_core.specs.declared.wave.Change.{Change}
use Rattle.vcd_core.specs.Value.{all_x, letter_at, same_letters}
use Rattle.vcd_core.specs.inside.value.EqualByLetters.{same_letters-Decides}
use Rattle.vcd_core.specs.Wave.{change, value_from, value_at, changes_of, IsWave, AllUpTo}
use Rattle.vcd_core.specs.WaveView.{WaveView}
use Rattle.vcd_core.specs.Edges.{Trace, trace_of, changes_at, edge_on, edges_on}
use Rattle.vcd_core.proofs.shared.Waves.{value_past, wave_is}
use Rattle.vcd_core.proofs.shared.Pushes.{upto_from_all}
use Rattle.vcd_core.specs.declared.capture.ScopeName.{ScopeName}
use Rattle.vcd_core.specs.Contents.{Contents, SignalContents, signal_at}
use Rattle.vcd_core.specs.Sound.{IsSound}
use Rattle.vcd_edit.specs.declared.edit.Operator.{Operator}
use Rattle.vcd_edit.specs.declared.edit.Operator.TheVariants.{And}
use Rattle.vcd_edit.specs.Operators.{not_bit, operator_bit}
use Rattle.vcd_edit.specs.inside.plans.RemainingChanges.{TicksRise}
use Rattle.vcd_edit.specs.inside.plans.Ranges.{value_just_before}
use Rattle.vcd_edit.specs.inside.plans.Derive.{edge_bit, edge_change, HasBits, selected_bit, selected_change}
use Rattle.vcd_edit.specs.declared.plans.derive.Polarity.{Polarity}
use Rattle.vcd_edit.specs.declared.plans.derive.Polarity.TheVariants.{AsIs, Negated}
use Rattle.vcd_edit.specs.inside.plans.Derive.{DerivedSoFar, HasBitsUpTo}
use Rattle.vcd_edit.specs.declared.edit.Edit.TheVariants.{Derive}
use Rattle.vcd_edit.specs.declared.edit.Rule.{Rule}
use Rattle.vcd_edit.specs.declared.edit.Formula.{Formula}
use Rattle.vcd_edit.specs.declared.record.Piece.{Piece}
use Rattle.vcd_edit.specs.Effect.{formula, first_operand, formula_bit, derived_signal, effect}
use Rattle.vcd_edit.specs.EditFaults.{edit_fault}
use Rattle.vcd_edit.specs.AppliedRecords.{with_pieces, apply_record}
use Rattle.vcd_edit.specs.Touched.{puts_in}
use Rattle.vcd_edit.specs.Records.{piece_view}
use Rattle.vcd_edit.specs.inside.plans.Plan.{IsPlan}
use Rattle.vcd_edit.proofs.shared.Lists.{drop_here}
use Rattle.vcd_edit.proofs.shared.WithoutRepeats.{rise_lower, early_value, wave_rises, mapped_upto, mapped_value}
use Rattle.vcd_edit.proofs.exchange.ExchangedRecords.{parts}
use Rattle.vcd_edit.proofs.plans.EffectOfRecord.{plan_without_pieces}

-- ==== the wave of a derived signal, from the edges of its operands

-- ---- one change after another

-- nothing is made yet
pub none_made : (all : List Change) (w : WaveView) → w.width ≡ 1 → w.changes ≡ [] → TicksRise 1 0 all
    → DerivedSoFar all all w
unfolding value_from
none_made all w width none rise = record {
  width = width;
  values = λ t. ap (λ (cs : List Change). value_from (value_from (all_x 1) cs t) all t) none;
  rise = (0, rise, subst (All (λ (c : Change). c.tick ≤ 0)) (sym none) (All-nil (λ (c : Change). c.tick ≤ 0)));
  upto = λ end upto. (subst (AllUpTo end) (sym none) tt, upto);
}

-- one more change is pushed
pub one_made : (all left rest : List Change) (c : Change) (old new : WaveView) → left ≡ c ∷ rest
    → DerivedSoFar all left old → new.width ≡ old.width → ((t : ℕ) → value_at new.width new.changes t
    ≡ (if nat_le c.tick t then c.value else value_at old.width old.changes t))
    → All (λ d. d.tick ≤ c.tick) new.changes → DerivedSoFar all rest new
unfolding value_from
one_made all left rest c old new is made_left width values last =
    let made : DerivedSoFar all (c ∷ rest) old = subst (λ (cs : List Change). DerivedSoFar all cs old) is made_left in
    let (floor, (from, wide, rise), before) = made.rise in
    record {
      width = width ∙ made.width;
      values = λ t.
          ap (λ v. value_from v rest t) (ap (λ w. value_at w new.changes t) (sym (width ∙ made.width)) ∙ values t
          ∙ ap (λ w. if nat_le c.tick t then c.value else value_at w old.changes t) made.width) ∙ made.values t;
      rise = (c.tick + 1, rise, (λ k d less. omega (arith, last k d less)));
      upto = λ end upto. (
        upto_from_all end new.changes (λ k d less. omega (arith, last k d less, (made.upto end upto).1.0)),
        (made.upto end upto).1.1,
      );
    }

-- the next change is not before the last
pub late_enough : (all left rest : List Change) (c : Change) (w : WaveView) → left ≡ c ∷ rest
    → DerivedSoFar all left w → All (λ d. d.tick ≤ c.tick) w.changes
late_enough all left rest c w is made =
    let (floor, (from, wide, rise), before) = (subst (λ (cs : List Change). DerivedSoFar all cs w) is made).rise in
    λ k d less. omega (arith, from, before k d less)

-- all is made
pub made_is : (all : List Change) (w : WaveView) (end : ℕ) (f : ℕ → List Bit) → DerivedSoFar all [] w
    → IsWave w.width w.changes → AllUpTo end all
    → ((t : ℕ) → t ≤ end → value_from (all_x 1) all t ≡ f t) → w.changes ≡ changes_of 1 end f
unfolding value_from
made_is all w end f made is upto same =
    wave_is 1 end w.changes f (subst (λ n. IsWave n w.changes) made.width is) (made.upto end upto).0
    (λ t to. made.values t ∙ same t to)

-- ---- a function at the ticks at which it may change

module _ (p : ℕ → Bool) (r : ℕ → List Bit) where
  abbrev at_ticks : List ℕ → List Change
  at_ticks us = map (λ u. change u (r u)) us

  pub sampled_rise : (a n : ℕ) → ((u : ℕ) → length (r u) ≡ 1) → TicksRise 1 a (at_ticks (filter p (range_with_len a n)))
  sampled_rise a zero wide = tt
  sampled_rise a (suc n) wide =
      let later = sampled_rise (a + 1) n wide in
      elim (p a) as (λ b. TicksRise 1 a
      (at_ticks (cond b (a ∷ filter p (range_with_len (a + 1) n)) (filter p (range_with_len (a + 1) n))))) [
        | true ↦ (omega arith, wide a, later)
        | false ↦ rise_lower 1 a (a + 1) (at_ticks (filter p (range_with_len (a + 1) n))) (omega arith) later
      ]

  pub sampled_upto : (a n end : ℕ) → a + n ≤ suc end → AllUpTo end (at_ticks (filter p (range_with_len a n)))
  sampled_upto a n end within =
      upto_from_all end (at_ticks (filter p (range_with_len a n))) (All-map (λ (c : Change). c.tick ≤ end)
      (λ u. change u (r u)) (filter p (range_with_len a n)) (All-filter p (λ u. u ≤ end) (range_with_len a n)
      (λ k d less. let long = length-range_with_len a n in
      omega (arith, within, less, long, get_or-range_with_len a n k d (omega (arith, less, long))))))

  pub sampled : (a n : ℕ) (v : List Bit) → v ≡ value_just_before 1 r a → ((u : ℕ) → length (r u) ≡ 1)
      → ((u : ℕ) → p u ≡ false → r u ≡ value_just_before 1 r u)
      → (t : ℕ) → a ≤ t → t < a + n → value_from v (at_ticks (filter p (range_with_len a n))) t ≡ r t
  sampled a zero v is wide still t from to = absurd (omega arith)
  sampled a (suc n) v is wide still t from to =
      let later : value_from (r a) (at_ticks (filter p (range_with_len (a + 1) n))) t ≡ r t =
      elim (cases_eq a t) [
        | inl at ↦ early_value 1 (r a) (at_ticks (filter p (range_with_len (a + 1) n))) (a + 1) t
            (sampled_rise (a + 1) n wide) (omega arith) ∙ ap r at
        | inr apart ↦ sampled (a + 1) n (r a) (sym (ap (value_just_before 1 r) {x = a + 1} {y = suc a} (omega arith)))
            wide still t (omega arith) (omega arith)
      ] in
      let rest = filter p (range_with_len (a + 1) n) in
      cond_both (p a) (a ∷ rest) rest (λ us. value_from v (at_ticks us) t ≡ r t)
      (λ _. value_past v (change a (r a)) (at_ticks rest) t from ∙ later)
      (λ fails. ap (λ w. value_from w (at_ticks rest) t) (is ∙ sym (still a fails)) ∙ later)

-- ---- the edges of two waves

same_where : (v w : List Bit) → not (same_letters v w) ≡ false → v ≡ w
same_where v w none = (same_letters-Decides v w).0 (not-false (same_letters v w) none)

-- a wave that does not change at a tick has the value before it
unchanged : (w : WaveView) (u : ℕ) → changes_at u (trace_of (Some w)) ≡ false
    → value_at w.width w.changes u ≡ value_just_before w.width (value_at w.width w.changes) u
unchanged w zero none = same_where (value_at w.width w.changes 0) (all_x w.width) none
unchanged w (suc u) none = same_where (value_at w.width w.changes (suc u)) (value_at w.width w.changes u) none

x_letter : (n i : ℕ) → get_or (replicate n X) i X ≡ X
x_letter zero i = refl
x_letter (suc n) zero = refl
x_letter (suc n) (suc i) = x_letter n i

x_letter_at : (m k : ℕ) → letter_at (all_x m) k ≡ X
x_letter_at m k = x_letter m (length (all_x m) - 1 - k)

-- x gives x
two_x_give_x : (operator : Operator) → operator_bit operator X X ≡ X
two_x_give_x And = refl
two_x_give_x operator = refl

-- the operator's bit at an edge, from the bits of both
pub edge_bit_is : (operator : Operator) (e : BitEdge) (u v : Bit) → HasBits e → get_or e.at 0 None ≡ Some u
    → get_or e.at 1 None ≡ Some v → edge_bit operator e.at ≡ operator_bit operator u v
edge_bit_is operator e u v (x, y, at) first last =
    ap (edge_bit operator) at
    ∙ (λ i. operator_bit operator (same_Some x u (sym (ap (λ bits. get_or bits 0 None) at) ∙ first) i)
    (same_Some y v (sym (ap (λ bits. get_or bits 1 None) at) ∙ last) i))

module _ (operator : Operator) (a b : WaveView) where
  abbrev pub pair_value : ℕ → List Bit
  pair_value t =
      operator_bit operator (letter_at (value_at a.width a.changes t) 0) (letter_at (value_at b.width b.changes t) 0)
      ∷ []

  abbrev lines : List Trace
  lines = trace_of (Some a) ∷ trace_of (Some b) ∷ trace_of None ∷ trace_of None ∷ []

  still : (u : ℕ) → list_any (changes_at u) lines ≡ false → pair_value u ≡ value_just_before 1 pair_value u
  still u none =
      let first = or_parts (changes_at u (trace_of (Some a)))
      (list_any (changes_at u) (trace_of (Some b) ∷ trace_of None ∷ trace_of None ∷ [])) none in
      let second = or_parts (changes_at u (trace_of (Some b)))
      (list_any (changes_at u) (trace_of None ∷ trace_of None ∷ [])) first.1 in
      from_both u (unchanged a u first.0) (unchanged b u second.0)
    where
      from_both : (u : ℕ) → value_at a.width a.changes u ≡ value_just_before a.width (value_at a.width a.changes) u
          → value_at b.width b.changes u ≡ value_just_before b.width (value_at b.width b.changes) u
          → pair_value u ≡ value_just_before 1 pair_value u
      from_both zero one two = (λ i. operator_bit operator ((ap (λ v. letter_at v 0) one ∙ x_letter_at a.width 0) i)
          ((ap (λ v. letter_at v 0) two ∙ x_letter_at b.width 0) i) ∷ [])
          ∙ ap (λ (x : Bit). x ∷ []) (two_x_give_x operator)
      from_both (suc u) one two = λ i. operator_bit operator (letter_at (one i) 0) (letter_at (two i) 0) ∷ []

  abbrev pub pair_edges : ℕ → List BitEdge
  pair_edges end = bit_edges_of (Some a ∷ Some b ∷ None ∷ None ∷ []) end

  edge_changes : (end : ℕ) → map (edge_change operator) (pair_edges end)
      ≡ map (λ u. change u (pair_value u)) (filter (λ t. list_any (changes_at t) lines) (range_with_len 0 (suc end)))
  unfolding edges_on
  edge_changes end =
      let ticks = filter (λ t. list_any (changes_at t) lines) (range_with_len 0 (suc end)) in
      map-map (edge_change operator) bit_edge (map (edge_on lines) ticks)
      ∙ map-map (λ e. edge_change operator (bit_edge e)) (edge_on lines) ticks

  -- nothing is made of the edges
  pub no_edge_made : (end : ℕ) (w : WaveView) → w.width ≡ 1 → w.changes ≡ []
      → DerivedSoFar (map (edge_change operator) (pair_edges end)) (map (edge_change operator) (pair_edges end)) w
  no_edge_made end w width none = none_made (map (edge_change operator) (pair_edges end)) w width none
      (subst (TicksRise 1 0) (sym (edge_changes end))
      (sampled_rise (λ t. list_any (changes_at t) lines) pair_value 0 (suc end) (λ u. refl)))

  -- each edge has a bit of both
  pub each_has_bits : (end : ℕ) → All HasBits (pair_edges end)
  unfolding edges_on
  each_has_bits end =
      let ticks = filter (λ t. list_any (changes_at t) lines) (range_with_len 0 (suc end)) in
      All-map HasBits bit_edge (map (edge_on lines) ticks)
      (All-map (λ e. HasBits (bit_edge e)) (edge_on lines) ticks (λ k d less. has_bits (get_or ticks k d)))
    where
      has_bits : (t : ℕ) → HasBits (bit_edge (edge_on lines t))
      has_bits zero = (_, _, refl)
      has_bits (suc t) = (_, _, refl)

  -- the wave from the edges has the operator's bit at each tick
  pub pair_is : (end : ℕ) (w : WaveView) → DerivedSoFar (map (edge_change operator) (pair_edges end)) [] w
      → IsWave w.width w.changes → w.changes ≡ changes_of 1 end pair_value
  pair_is end w made form =
      let all = edge_changes end in
      made_is (map (edge_change operator) (pair_edges end)) w end pair_value made form
      (subst (AllUpTo end) (sym all)
      (sampled_upto (λ t. list_any (changes_at t) lines) pair_value 0 (suc end) end (omega arith)))
      (λ t to. ap (λ (cs : List Change). value_from (all_x 1) cs t) all
      ∙ sampled (λ t. list_any (changes_at t) lines) pair_value 0 (suc end) (all_x 1) refl (λ u. refl) still t
      (omega arith) (omega arith))

-- ---- the changes of one wave

selected_x : (k : ℕ) (polarity : Polarity) (width : ℕ) → selected_bit k polarity (all_x width) ≡ X
selected_x k Negated width = ap not_bit (x_letter_at width k)
selected_x k AsIs width = x_letter_at width k

selected_rise : (k : ℕ) (polarity : Polarity) (width floor : ℕ) (cs : List Change) → TicksRise width floor cs
    → TicksRise 1 floor (map (selected_change k polarity) cs)
selected_rise k polarity width floor [] rise = tt
selected_rise k polarity width floor (c ∷ cs) (from, wide, rest) =
    (from, refl, selected_rise k polarity width (c.tick + 1) cs rest)

-- each value of a wave has its width
pub width_at : (width floor : ℕ) (cs : List Change) (i : ℕ) (c : Change) → TicksRise width floor cs → i < length cs
    → c ≡ get_or cs i c → length c.value ≡ width
width_at width floor [] i c rise within at = absurd (omega (arith, within))
width_at width floor (d ∷ cs) zero c (from, wide, rest) within at = ap (λ (e : Change). length e.value) at ∙ wide
width_at width floor (d ∷ cs) (suc i) c (from, wide, rest) within at =
    width_at width (d.tick + 1) cs i c rest (omega (arith, within)) at

-- nothing is made of the changes
pub no_change_made : (k : ℕ) (polarity : Polarity) (a w : WaveView) → IsWave a.width a.changes → w.width ≡ 1
    → w.changes ≡ []
    → DerivedSoFar (map (selected_change k polarity) a.changes) (map (selected_change k polarity) a.changes) w
no_change_made k polarity a w is width none = none_made (map (selected_change k polarity) a.changes) w width none
    (selected_rise k polarity a.width 0 a.changes
    (wave_rises a.width 0 (all_x a.width) a.changes (length-replicate a.width X) is.rise))

-- the next change of the wave
pub change_next : (k : ℕ) (polarity : Polarity) (cs : List Change) (i : ℕ) (c : Change) (value : List Bit)
    → i < length cs → c ≡ get_or cs i c → value ≡ selected_bit k polarity c.value ∷ []
    → map (selected_change k polarity) (drop i cs)
    ≡ change c.tick value ∷ map (selected_change k polarity) (drop (i + 1) cs)
change_next k polarity cs i c value within at is =
    ap (map (selected_change k polarity)) (drop_here cs i c within at)
    ∙ ap (λ v. change c.tick v ∷ map (selected_change k polarity) (drop (i + 1) cs)) (sym is)

-- the wave from the changes of one wave has its bit at each tick
pub selected_is : (k : ℕ) (polarity : Polarity) (a : WaveView) (end i : ℕ) (w : WaveView) → AllUpTo end a.changes
    → length a.changes ≤ i
    → DerivedSoFar (map (selected_change k polarity) a.changes) (map (selected_change k polarity) (drop i a.changes)) w
    → IsWave w.width w.changes
    → w.changes ≡ changes_of 1 end (λ t. selected_bit k polarity (value_at a.width a.changes t) ∷ [])
selected_is k polarity a end i w upto done made form =
    let h : List Bit → List Bit = λ v. selected_bit k polarity v ∷ [] in
    made_is (map (selected_change k polarity) a.changes) w end (λ t. h (value_at a.width a.changes t))
    (subst (λ (l : List Change). DerivedSoFar (map (selected_change k polarity) a.changes)
    (map (selected_change k polarity) l) w)
    (drop_all i a.changes done) made)
    form (mapped_upto end h a.changes upto)
    (λ t to. ap (λ (x : Bit). value_from (x ∷ []) (map (selected_change k polarity) a.changes) t)
    (sym (selected_x k polarity a.width)) ∙ mapped_value h (all_x a.width) a.changes t)

-- ==== a derived signal from its parts, and the record that puts it in

pub derived_parts : (c : Contents) (word : List ℕ) (rule : Rule) (f : Formula) (scopes : List ScopeName)
    (kind : List ℕ) (words : List (List ℕ)) (wave : WaveView) → f ≡ formula rule
    → scopes ≡ (signal_at c (first_operand f)).scopes → kind ≡ codes "wire" → words ≡ word ∷ []
    → HasBitsUpTo c.end (formula_bit f c) wave
    → record { scopes = scopes; kind = kind; words = words; width = wave.width; changes = wave.changes }
    ≡ derived_signal word rule c
derived_parts c word rule f scopes kind words wave is same_scopes same_kind same_words (width, changes) =
    let scoped = same_scopes ∙ ap (λ g. (signal_at c (first_operand g)).scopes) is in
    let all = changes ∙ ap (λ g. changes_of 1 c.end (λ t. formula_bit g c t ∷ [])) is in
    λ i. record { scopes = scoped i; kind = same_kind i; words = same_words i; width = width i; changes = all i }

pub derive_plan : (c : Contents) (word : Bor (List ℕ)) (rule : Rule) (k : ℕ) (s : SignalContents) (pieces : List Piece)
    → IsSound c → edit_fault (Derive word rule) c ≡ None
    → k ≡ length c.signals → s ≡ derived_signal word.now rule c → pieces ≡ []
    → IsPlan (Derive word rule) c (parts (map piece_view pieces) None (Some (k, Some s)) None)
unfolding apply_record with_pieces effect
derive_plan c word rule k s pieces sound none last is empty =
    plan_without_pieces (Derive word rule) c None (Some (k, Some s)) pieces sound none empty
    (ap (λ (ss : List SignalContents). record c { signals = ss }) (ap (λ (n : ℕ). insert c.signals n s) last
    ∙ insert_end c.signals s ∙ ap (push c.signals) is))
    tt (omega (arith, last)) (ap (λ (n : ℕ). puts_in n) last)
