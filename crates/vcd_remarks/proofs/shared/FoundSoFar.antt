-- The ticks that are found at edges that pass a test.
use Rattle.std.proofs.Common.{◌≡◌, ℕ, suc, ◌^◌, ◌<◌, ◌==◌, Bool, true, false, if◌then◌else◌}
use Rattle.std.proofs.Common.{Option, List, [], ◌∷◌, ◌++◌, length, refl, ap, ◌∙◌, arith}
use Rattle.std.proofs.lemmas.List.FromFn.{length-range_with_len}
use Rattle.std.proofs.lemmas.List.Sums.{count_by-le-length, length-filter}
use Rattle.std.specs.List.{filter, flat_map, range_with_len}
use Rattle.vcd_core.specs.declared.bit_edges.BitEdge.{BitEdge}
use Rattle.vcd_core.specs.declared.bit.Bit.{Bit}
use Rattle.vcd_decode.specs.LineEdges.{line_edge, AreEdgesOf}
use Rattle.vcd_decode.proofs.shared.EdgeTicks.{over_edges}
use Rattle.vcd_remarks.specs.declared.findings.found_ticks.FoundTicks.{FoundTicks}
use Rattle.vcd_remarks.specs.FoundTicks.{found_ticks, ticks_where}
use Rattle.vcd_remarks.specs.inside.FoundTicks.{with_tick, with_ticks, edge_ticks, with_edge_tick, found_left}
use Rattle.vcd_remarks.proofs.findings.TicksInTurn.{found_so_far}

-- the ticks that were found, unless any others were
pub unless_any_found : (others ticks : List ℕ) → (if (found_ticks others).count == 0 then found_ticks ticks
    else found_ticks []) ≡ found_ticks (if length others == 0 then ticks else [])
unless_any_found others ticks = by_test (length others == 0)
  where
    by_test : (b : Bool) → (if b then found_ticks ticks else found_ticks []) ≡ found_ticks (if b then ticks else [])
    by_test true = refl
    by_test false = refl

-- ---- the ticks of edges that pass a test

kept : (p : ℕ → Bool) (ts : List ℕ) → flat_map (λ t. if p t then t ∷ [] else []) ts ≡ filter p ts
kept p [] = refl
kept p (t ∷ ts) = by_test (p t) ∙ ap (λ us. if p t then t ∷ us else us) (kept p ts)
  where
    by_test : (b : Bool) → (if b then t ∷ [] else []) ++ flat_map (λ u. if p u then u ∷ [] else []) ts
        ≡ (if b then t ∷ flat_map (λ u. if p u then u ∷ [] else []) ts
        else flat_map (λ u. if p u then u ∷ [] else []) ts)
    by_test true = refl
    by_test false = refl

pub same_at_ticks : {A : Type 0} (f g : ℕ → List A) (ts : List ℕ) → ((t : ℕ) → f t ≡ g t)
    → flat_map f ts ≡ flat_map g ts
same_at_ticks f g [] same = refl
same_at_ticks f g (t ∷ ts) same = λ i. same t i ++ same_at_ticks f g ts same i

-- no more ticks than the end pass a test that fails at tick 0
pub few_ticks : (p : ℕ → Bool) (end : ℕ) → p 0 ≡ false → end < 2 ^ 64 → length (ticks_where p end) < 2 ^ 64
few_ticks p end first fits =
    let later : ticks_where p end ≡ filter p (range_with_len 1 end) =
    ap (λ (b : Bool). if b then 0 ∷ filter p (range_with_len 1 end) else filter p (range_with_len 1 end)) first in
    omega (
      arith,
      fits,
      ap length later ∙ length-filter p (range_with_len 1 end),
      count_by-le-length p (range_with_len 1 end),
      length-range_with_len 1 end,
    )

module _ (lines : List (Option (ℕ → Bit))) (end : ℕ) (edges : List BitEdge) (are : AreEdgesOf lines end edges)
    (test : BitEdge → Bool) (p : ℕ → Bool) (same : (t : ℕ) → test (line_edge lines t) ≡ p t)
    (fails : (e : BitEdge) → e.at ≡ e.before → test e ≡ false) where
  -- a test that fails where no line changes, and is one of ticks
  pub edges_as_ticks : edge_ticks test edges ≡ ticks_where p end
  edges_as_ticks =
      over_edges lines end edges are (λ e. if test e then e.tick ∷ [] else [])
      (λ t none. ap (λ (b : Bool). if b then t ∷ [] else []) (fails (line_edge lines t) none))
      ∙ same_at_ticks _ _ (range_with_len 0 (suc end)) (λ t. ap (λ (b : Bool). if b then t ∷ [] else []) (same t))
      ∙ kept p (range_with_len 0 (suc end))

  -- from the first edge on these ticks are found
  pub found_at_ticks : p 0 ≡ false → end < 2 ^ 64
      → found_left test (found_ticks []) edges ≡ found_ticks (ticks_where p end)
  found_at_ticks first fits =
      ap (with_ticks (found_ticks [])) edges_as_ticks
      ∙ found_so_far [] (ticks_where p end) (omega (arith, few_ticks p end first fits))

-- ---- one more edge

module _ (test : BitEdge → Bool) (found : FoundTicks) (e : BitEdge) (more : List BitEdge) where
  pub edge_found : found_left test (with_edge_tick test found e) more ≡ found_left test found (e ∷ more)
  unfolding with_ticks
  edge_found = by_test (test e)
    where
      by_test : (b : Bool) → with_ticks (if b then with_tick found e.tick else found) (edge_ticks test more)
          ≡ with_ticks found ((if b then e.tick ∷ [] else []) ++ edge_ticks test more)
      by_test true = refl
      by_test false = refl

  pub tick_taken : (next : FoundTicks) (passes : Bool) → passes ≡ test e
      → next ≡ (if passes then with_tick found e.tick else found)
      → found_left test next more ≡ found_left test found (e ∷ more)
  tick_taken next passes asked is =
      ap (λ (f : FoundTicks). found_left test f more)
      (is ∙ ap (λ (b : Bool). if b then with_tick found e.tick else found) asked) ∙ edge_found
