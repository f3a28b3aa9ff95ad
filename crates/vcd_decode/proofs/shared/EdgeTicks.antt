-- A list that is empty where no line changes: over all ticks it is the list over the edges.
use Rattle.std.proofs.Common.{◌≡◌, ℕ, zero, suc, Bool, false, not, Option, Some, None, List, [], ◌∷◌, ◌++◌, map}
use Rattle.std.proofs.Common.{replicate, get_or, All, refl, sym, ap, subst, ◌∙◌}
use Rattle.std.specs.List.{cons_option, filter, flat_map, list_any, range_with_len, AllByRecursion}
use Rattle.std.specs.Option.{option_map, option_to_list}
use Rattle.vcd_core.specs.declared.bit.Bit.{Bit}
use Rattle.vcd_core.specs.declared.bit.Bit.TheVariants.{Zero, X}
use Rattle.vcd_core.specs.declared.bit_edges.BitEdge.{BitEdge}
use Rattle.vcd_core.specs.Value.{same_letters}
use Rattle.vcd_core.specs.inside.value.EqualByLetters.{same_letters-Decides}
use Rattle.vcd_core.specs.WaveView.{WaveView}
use Rattle.vcd_core.specs.Edges.{Trace, trace_of, value_on, value_before, same_value, changes_at, edge_on, edges_on}
use Rattle.std.proofs.lemmas.Bool.{cond_both, not-false, or_parts}
use Rattle.std.proofs.lemmas.Simd.{map-map}
use Rattle.std.proofs.lemmas.List.Elements.{All-map, recursion_from_All}
use Rattle.vcd_core.specs.BitEdges.{lowest_bit, bit_edge, bit_edges_of}
use Rattle.vcd_decode.specs.Lines.{letter_before}
use Rattle.vcd_decode.specs.WaveLines.{line_of}
use Rattle.vcd_decode.specs.inside.i2c_bus.Events.{bus_event}
use Rattle.vcd_decode.specs.LineEdges.{lines_of, line_edge, AreEdgesOf}

-- ---- the bits at an edge are the letters of the lines

-- a row of one letter, which is also read past its end
pub same_everywhere : (n i : ℕ) (b : Bit) → get_or (replicate n b) i b ≡ b
same_everywhere zero i b = refl
same_everywhere (suc n) zero b = refl
same_everywhere (suc n) (suc i) b = same_everywhere n i b

bit_before : (wave : Option WaveView) (t : ℕ)
    → lowest_bit (value_before (trace_of wave) t) ≡ option_map (λ f. letter_before f t) (option_map line_of wave)
bit_before None zero = refl
bit_before None (suc t) = refl
bit_before (Some w) zero = ap (λ (b : Bit). Some b) (same_everywhere w.width _ X)
bit_before (Some w) (suc t) = refl

bit_here : (wave : Option WaveView) (t : ℕ)
    → lowest_bit (value_on (trace_of wave) t) ≡ option_map (λ f. f t) (option_map line_of wave)
bit_here None t = refl
bit_here (Some w) t = refl

bits_before : (waves : List (Option WaveView)) (t : ℕ)
    → map lowest_bit (map (λ l. value_before l t) (map trace_of waves))
    ≡ map (option_map (λ f. letter_before f t)) (lines_of waves)
bits_before [] t = refl
bits_before (wave ∷ waves) t = λ i. bit_before wave t i ∷ bits_before waves t i

bits_here : (waves : List (Option WaveView)) (t : ℕ) → map lowest_bit (map (λ l. value_on l t) (map trace_of waves))
    ≡ map (option_map (λ f. f t)) (lines_of waves)
bits_here [] t = refl
bits_here (wave ∷ waves) t = λ i. bit_here wave t i ∷ bits_here waves t i

edge_is : (waves : List (Option WaveView)) (t : ℕ)
    → bit_edge (edge_on (map trace_of waves) t) ≡ line_edge (lines_of waves) t
edge_is waves t =
    let before = bits_before waves t in
    let here = bits_here waves t in
    λ i. record { tick = t; before = before i; at = here i }

-- ---- where no wave changes

same_where : (v w : Option (List Bit)) → not (same_value v w) ≡ false → v ≡ w
same_where None None none = refl
same_where None (Some w) none = absurd (cc)
same_where (Some v) None none = absurd (cc)
same_where (Some v) (Some w) none =
    ap (λ (u : List Bit). Some u) ((same_letters-Decides v w).0 (not-false (same_letters v w) none))

still_values : (ls : List Trace) (t : ℕ) → list_any (changes_at t) ls ≡ false
    → map (λ l. value_on l t) ls ≡ map (λ l. value_before l t) ls
still_values [] t none = refl
still_values (l ∷ ls) t none =
    let fail = or_parts (changes_at t l) (list_any (changes_at t) ls) none in
    let here = same_where (value_on l t) (value_before l t) fail.0 in
    λ i. here i ∷ still_values ls t fail.1 i

-- where no line changes, each has its letter of the tick before
still_bits : (waves : List (Option WaveView)) (t : ℕ) → list_any (changes_at t) (map trace_of waves) ≡ false
    → (line_edge (lines_of waves) t).at ≡ (line_edge (lines_of waves) t).before
still_bits waves t none =
    sym (bits_here waves t) ∙ ap (map lowest_bit) (still_values (map trace_of waves) t none) ∙ bits_before waves t

-- where no level changes, there is no event
pub nothing_happens : (t : ℕ) (scl sda : Bit)
    → bus_event t (record { scl = scl; sda = sda }) (record { scl = scl; sda = sda }) ≡ None
nothing_happens t Zero Zero = refl
nothing_happens t scl Zero = refl
nothing_happens t scl sda = refl

pub cons_is : {A : Type 0} (o : Option A) (xs : List A) → cons_option o xs ≡ option_to_list o ++ xs
cons_is None xs = refl
cons_is (Some x) xs = refl

-- ---- over the edges and over all ticks

map_same : {A B : Type 0} (f g : A → B) (xs : List A) → ((x : A) → f x ≡ g x) → map f xs ≡ map g xs
map_same f g [] same = refl
map_same f g (x ∷ xs) same = λ i. same x i ∷ map_same f g xs same i

module _ (waves : List (Option WaveView)) where
  abbrev changes : ℕ → Bool
  changes t = list_any (changes_at t) (map trace_of waves)

  -- the edges of waves are those of their lines
  pub bit_edges_are : (end : ℕ) → AreEdgesOf (lines_of waves) end (bit_edges_of waves end)
  unfolding edges_on
  bit_edges_are end = record {
    shown = changes;
    at_shown = map-map bit_edge (edge_on (map trace_of waves)) (filter changes (range_with_len 0 (suc end)))
        ∙ map_same (λ t. bit_edge (edge_on (map trace_of waves) t)) (line_edge (lines_of waves))
        (filter changes (range_with_len 0 (suc end))) (edge_is waves);
    still = still_bits waves;
  }

module _ (lines : List (Option (ℕ → Bit))) (end : ℕ) (edges : List BitEdge) (are : AreEdgesOf lines end edges) where
  -- each edge is that of the lines at its tick
  pub each_edge : AllByRecursion (λ e. e ≡ line_edge lines e.tick) edges
  each_edge =
      let P : BitEdge → Type 0 = λ e. e ≡ line_edge lines e.tick in
      recursion_from_All P edges (subst (All P) (sym are.at_shown)
      (All-map P (line_edge lines) (filter are.shown (range_with_len 0 (suc end))) (λ k d less. refl)))

  -- a list that is empty where no line changes
  pub over_edges : {A : Type 0} (g : BitEdge → List A)
      → ((t : ℕ) → (line_edge lines t).at ≡ (line_edge lines t).before → g (line_edge lines t) ≡ [])
      → flat_map g edges ≡ flat_map (λ t. g (line_edge lines t)) (range_with_len 0 (suc end))
  over_edges {A} g still = ap (flat_map g) are.at_shown ∙ over_shown (range_with_len 0 (suc end))
    where
      over_shown : (ticks : List ℕ)
          → flat_map g (map (line_edge lines) (filter are.shown ticks)) ≡ flat_map (λ t. g (line_edge lines t)) ticks
      over_shown [] = refl
      over_shown (t ∷ ticks) =
          let all = flat_map (λ u. g (line_edge lines u)) ticks in
          cond_both (are.shown t) (t ∷ filter are.shown ticks) (filter are.shown ticks)
          (λ shown. flat_map g (map (line_edge lines) shown) ≡ g (line_edge lines t) ++ all)
          (λ _. ap (λ xs. g (line_edge lines t) ++ xs) (over_shown ticks))
          (λ none. over_shown ticks ∙ ap (λ xs. xs ++ all) (sym (still t (are.still t none))))
