-- The changes of a UART line at its edges are those of its signal, and their ticks those at which it changes.
use Rattle.std.proofs.Common.{◌≡◌, ℕ, suc, ◌≤◌, not, Bool, true, false, if◌then◌else◌, Option, Some, None, List, []}
use Rattle.std.proofs.Common.{◌∷◌, map, length, refl, sym, ap, ◌∙◌, inl, inr, arith}
use Rattle.std.specs.Prelude.{unwrap_or}
use Rattle.std.specs.List.{cons_option, filter, range_with_len}
use Rattle.std.specs.Option.{option_map}
use Rattle.std.proofs.lemmas.Bool.{cases_Bool}
use Rattle.std.proofs.lemmas.List.FromFn.{length-range_with_len}
use Rattle.std.proofs.lemmas.List.Sums.{count_by-le-length, length-filter}
use Rattle.vcd_core.specs.declared.bit.Bit.{Bit}
use Rattle.vcd_core.specs.declared.bit.Bit.TheVariants.{Zero, One, X, Z}
use Rattle.vcd_core.specs.declared.bit_edges.BitEdge.{BitEdge}
use Rattle.vcd_core.specs.declared.wave.Change.{Change}
use Rattle.vcd_core.specs.Contents.{SignalContents}
use Rattle.vcd_core.specs.Sound.{IsSoundSignal}
use Rattle.vcd_core.specs.Value.{same_letter}
use Rattle.vcd_core.specs.Wave.{change}
use Rattle.vcd_decode.specs.LineEdges.{line_edge, AreEdgesOf}
use Rattle.vcd_decode.specs.Lines.{letter_before}
use Rattle.vcd_decode.specs.inside.PartialWord.{line_bit}
use Rattle.vcd_remarks.specs.DecoderFindings.{bit_line}
use Rattle.vcd_remarks.specs.inside.ClockRuns.{changes_of_place}
use Rattle.vcd_remarks.proofs.clock_runs.EdgeChanges.{place_changes}

-- whether a line changes at a tick
abbrev pub is_change : (ℕ → Bit) → ℕ → Bool
is_change f t = not (same_letter (f t) (letter_before f t))

pub same_always : (b : Bit) → same_letter b b ≡ true
same_always Zero = refl
same_always One = refl
same_always X = refl
same_always Z = refl

-- the tick of a change, if there is one
tick_if : (t : ℕ) (b : Bit) (cs : List Change) (same : Bool)
    → map (λ (c : Change). c.tick)
    (cons_option (option_map (λ l. change t (l ∷ [])) (if same then None else Some b)) cs)
    ≡ (if not same then t ∷ map (λ (c : Change). c.tick) cs else map (λ (c : Change). c.tick) cs)
tick_if t b cs true = refl
tick_if t b cs false = refl

module _ (f : ℕ → Bit) (shown : ℕ → Bool) (still : (t : ℕ) → shown t ≡ false → f t ≡ letter_before f t) where
  abbrev edges_at : List ℕ → List BitEdge
  edges_at ts = map (line_edge (Some f ∷ None ∷ None ∷ None ∷ [])) (filter shown ts)

  ticks_shown : (ts : List ℕ) → map (λ (c : Change). c.tick) (changes_of_place 0 (edges_at ts))
      ≡ filter (is_change f) ts
  ticks_shown [] = refl
  ticks_shown (t ∷ ts) = elim (cases_Bool (shown t)) [
    | inl at ↦ rw at (
        tick_if t (f t) (changes_of_place 0 (edges_at ts)) (same_letter (f t) (letter_before f t))
        ∙ ap (λ us. if is_change f t then t ∷ us else us) (ticks_shown ts)
        )
    | inr none ↦
        let keeps : is_change f t ≡ false = ap (λ (a : Bit). not (same_letter a (letter_before f t))) (still t none)
        ∙ ap not (same_always (letter_before f t)) in
        rw (none, keeps) (ticks_shown ts)
  ]

module _ (end : ℕ) (s : SignalContents) (edges : List BitEdge) (sound : IsSoundSignal end s) (one : s.width ≡ 1)
    (are : AreEdgesOf (Some (bit_line s) ∷ None ∷ None ∷ None ∷ []) end edges) where
  pub changes_are : changes_of_place 0 edges ≡ s.changes
  changes_are = place_changes (Some (bit_line s) ∷ None ∷ None ∷ None ∷ []) end edges are 0 s (sound, one) (λ t. refl)

  pub ticks_are : map (λ c. c.tick) s.changes ≡ filter (is_change (bit_line s)) (range_with_len 0 (suc end))
  ticks_are =
      let letter_in : List (Option Bit) → Bit = λ bits. unwrap_or (line_bit bits 0) X in
      ap (map (λ (c : Change). c.tick)) (sym changes_are ∙ ap (changes_of_place 0) are.at_shown)
      ∙ ticks_shown (bit_line s) are.shown (λ t none. ap letter_in (are.still t none)) (range_with_len 0 (suc end))

  -- there are no more of them than ticks
  pub few_changes : length (map (λ c. c.tick) s.changes) ≤ suc end
  few_changes = omega (
    arith,
    ap length ticks_are ∙ length-filter (is_change (bit_line s)) (range_with_len 0 (suc end)),
    count_by-le-length (is_change (bit_line s)) (range_with_len 0 (suc end)),
    length-range_with_len 0 (suc end),
  )
