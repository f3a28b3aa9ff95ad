-- Ticks that are found one after another.
use Rattle.std.proofs.Common.{◌≡◌, ℕ, zero, suc, ◌+◌, ◌-◌, ◌^◌, ◌<◌, min, nat_lt, if◌then◌else◌}
use Rattle.std.proofs.Common.{List, [], ◌∷◌, ◌++◌}
use Rattle.std.proofs.Common.{length, map, max, slice_set, ap, sym, ◌∙◌, arith, rules, tests}
use Rattle.std.proofs.lemmas.List.{length-append, append-nil, append_assoc}
use Rattle.vcd_remarks.specs.declared.findings.found_ticks.FoundTicks.{FoundTicks}
use Rattle.vcd_remarks.specs.declared.findings.found_ticks.TheConstants.{SHOWN_TICKS}
use Rattle.vcd_remarks.specs.declared.findings.found_spans.Span.{Span}
use Rattle.vcd_remarks.specs.FoundTicks.{first_ticks, found_ticks, found_spans, greatest}
use Rattle.vcd_remarks.specs.inside.FoundTicks.{with_tick, with_ticks, with_spans}

-- one tick more among the first n
first_with : (n : ℕ) (ts : List ℕ) (t : ℕ) → first_ticks n (ts ++ t ∷ [])
    ≡ (if nat_lt (length ts) n then slice_set (first_ticks n ts) (length ts) t else first_ticks n ts)
unfolding first_ticks
first_with zero ts t = search (rules, tests, arith)
first_with (suc n) [] t = search (rules, tests, arith)
first_with (suc n) (s ∷ ts) t = search (rules, tests, arith, first_with n ts t)

-- one tick more, which is counted
pub found_with : (ts : List ℕ) (t : ℕ) → length ts + 1 < 2 ^ 64
    → with_tick (found_ticks ts) t ≡ found_ticks (ts ++ t ∷ [])
found_with ts t few =
    let count : min (length ts + 1) (2 ^ 64 - 1) ≡ length (ts ++ t ∷ []) =
    omega (arith, few, length-append ts (t ∷ [])) in
    λ i. record { count = count i; first = sym (first_with SHOWN_TICKS ts t) i }

-- several more
pub found_so_far : (ts later : List ℕ) → length ts + length later < 2 ^ 64
    → with_ticks (found_ticks ts) later ≡ found_ticks (ts ++ later)
unfolding with_ticks
found_so_far ts [] few = ap found_ticks (sym (append-nil ts))
found_so_far ts (t ∷ later) few =
    ap (λ (found : FoundTicks). with_ticks found later) (found_with ts t (omega (arith, few)))
    ∙ found_so_far (ts ++ t ∷ []) later (omega (arith, few, length-append ts (t ∷ [])))
    ∙ ap found_ticks (append_assoc ts (t ∷ []) later)

-- ---- spans

spans_more : (ts : List ℕ) (n : ℕ) (ss : List Span) → length ts + length ss < 2 ^ 64
    → with_spans (record { ticks = found_ticks ts; most = n }) ss
    ≡ record { ticks = found_ticks (ts ++ map (λ s. s.tick) ss); most = max n (greatest (map (λ s. s.ticks) ss)) }
unfolding with_spans greatest
spans_more ts n [] few =
    let same : n ≡ max n 0 = omega arith in
    λ i. record { ticks = found_ticks (sym (append-nil ts) i); most = same i }
spans_more ts n (s ∷ ss) few =
    let most : max (max n s.ticks) (greatest (map (λ q. q.ticks) ss))
    ≡ max n (max s.ticks (greatest (map (λ q. q.ticks) ss))) = omega arith in
    (λ i. with_spans (record { ticks = found_with ts s.tick (omega (arith, few)) i; most = max n s.ticks }) ss)
    ∙ spans_more (ts ++ s.tick ∷ []) (max n s.ticks) ss (omega (arith, few, length-append ts (s.tick ∷ [])))
    ∙ (λ i. record { ticks = found_ticks (append_assoc ts (s.tick ∷ []) (map (λ q. q.tick) ss) i); most = most i })

-- all spans, one after another
pub spans_in_turn : (ss : List Span) → length ss < 2 ^ 64 → with_spans (found_spans []) ss ≡ found_spans ss
unfolding greatest
spans_in_turn ss few =
    let most : max 0 (greatest (map (λ s. s.ticks) ss)) ≡ greatest (map (λ s. s.ticks) ss) = omega arith in
    spans_more [] 0 ss (omega (arith, few))
    ∙ (λ i. record { ticks = found_ticks (map (λ s. s.tick) ss); most = most i })
