-- The changes of a line at edges are those of its signal.
use Rattle.std.proofs.Common.{◌≡◌, ℕ, zero, suc, ◌&&◌, Bool, true, false, if◌then◌else◌, Option, Some, None}
use Rattle.std.proofs.Common.{option_to_list, List, [], ◌∷◌, ◌++◌, length, refl, sym, ap, ◌∙◌, add-one, arith}
use Rattle.std.specs.List.{filter_map, flat_map, range_with_len}
use Rattle.std.specs.Option.{option_map}
use Rattle.vcd_core.specs.declared.bit.Bit.{Bit}
use Rattle.vcd_core.specs.declared.bit.Bit.TheVariants.{Zero, One, X, Z}
use Rattle.vcd_core.specs.declared.bit_edges.BitEdge.{BitEdge}
use Rattle.vcd_core.specs.declared.wave.Change.{Change}
use Rattle.vcd_core.specs.Contents.{SignalContents, signal_value}
use Rattle.vcd_core.specs.Value.{letter_at, same_letter, same_letters}
use Rattle.vcd_core.specs.Wave.{change, unless_same, changes_from, changes_of}
use Rattle.vcd_core.proofs.shared.Waves.{changes_of-value_at}
use Rattle.vcd_decode.specs.LineEdges.{line_edge, AreEdgesOf}
use Rattle.vcd_decode.specs.Lines.{letter_before}
use Rattle.vcd_decode.specs.inside.PartialWord.{line_bit}
use Rattle.vcd_decode.proofs.shared.EdgeTicks.{over_edges, cons_is}
use Rattle.vcd_edit.proofs.shared.SoundEffects.{value_at_width}
use Rattle.vcd_remarks.specs.declared.line_bits.LineBits.{LineBits}
use Rattle.vcd_remarks.specs.DecoderFindings.{bit_line, IsSoundLine}
use Rattle.vcd_remarks.specs.inside.ClockRuns.{letter_after, line_change, changes_of_place}
use Rattle.vcd_remarks.specs.inside.LineBits.{line_bits}
use Rattle.vcd_remarks.proofs.shared.FoundSoFar.{same_at_ticks}

-- ---- the changes of a function are those at its ticks

-- the bits of a line around a tick
abbrev pub bits_around : (ℕ → Bit) → ℕ → LineBits
bits_around f t = record { before = Some (letter_before f t); at = Some (f t) }

abbrev changes_around : (ℕ → Bit) → ℕ → List Change
changes_around f t = option_to_list (line_change t (bits_around f t))

changes_by_ticks : (f : ℕ → Bit) (g : ℕ → List Bit) → ((t : ℕ) → g t ≡ f t ∷ []) → (t n : ℕ)
    → changes_from (letter_before f t ∷ []) t n g ≡ flat_map (changes_around f) (range_with_len t n)
unfolding changes_from
changes_by_ticks f g one t zero = refl
changes_by_ticks f g one t (suc n) =
    (λ i. unless_same (same_letters (one t i) (letter_before f t ∷ [])) (change t (one t i))
    (changes_from (one t i) (suc t) n g))
    ∙ by_test (same_letter (f t) (letter_before f t)) (changes_from (f t ∷ []) (suc t) n g)
    ∙ ap (λ cs. changes_around f t ++ cs) (changes_by_ticks f g one (suc t) n
    ∙ ap (λ u. flat_map (changes_around f) (range_with_len u n)) (sym (add-one t)))
  where
    by_test : (b : Bool) (rest : List Change) → unless_same (b && true) (change t (f t ∷ [])) rest
        ≡ option_to_list (option_map (λ l. change t (l ∷ [])) (if b then None else Some (f t))) ++ rest
    by_test true rest = refl
    by_test false rest = refl

-- a value of one bit
one_bit : (v : List Bit) → length v ≡ 1 → v ≡ letter_at v 0 ∷ []
one_bit [] is = absurd (omega (arith, is))
one_bit (b ∷ []) is = refl
one_bit (b ∷ c ∷ bs) is = absurd (omega (arith, is))

-- ---- at edges

as_lists : {A B : Type 0} (f : A → Option B) (xs : List A) → filter_map f xs ≡ flat_map (λ x. option_to_list (f x)) xs
as_lists f [] = refl
as_lists f (x ∷ xs) = cons_is (f x) (filter_map f xs) ∙ ap (λ ys. option_to_list (f x) ++ ys) (as_lists f xs)

-- a letter that stays is no new one
never_new : (b : Option Bit) → letter_after b b ≡ None
never_new None = refl
never_new (Some Zero) = refl
never_new (Some One) = refl
never_new (Some X) = refl
never_new (Some Z) = refl

module _ (lines : List (Option (ℕ → Bit))) (end : ℕ) (edges : List BitEdge) (are : AreEdgesOf lines end edges)
    (place : ℕ) (s : SignalContents) (sound : IsSoundLine end s)
    (shown : (t : ℕ) → line_bits place (line_edge lines t) ≡ bits_around (bit_line s) t) where
  abbrev changes_here : BitEdge → List Change
  changes_here e = option_to_list (line_change e.tick (line_bits place e))

  quiet : (e : BitEdge) → e.at ≡ e.before → changes_here e ≡ []
  quiet e same =
      ap (λ bits. option_to_list
      (line_change e.tick (record { before = line_bit e.before place; at = line_bit bits place }))) same
      ∙ ap (λ o. option_to_list (option_map (λ b. change e.tick (b ∷ [])) o)) (never_new (line_bit e.before place))

  pub place_changes : changes_of_place place edges ≡ s.changes
  place_changes =
      as_lists (λ e. line_change e.tick (line_bits place e)) edges
      ∙ over_edges lines end edges are changes_here (λ t none. quiet (line_edge lines t) none)
      ∙ same_at_ticks _ _ (range_with_len 0 (suc end)) (λ t. ap (λ l. option_to_list (line_change t l)) (shown t))
      ∙ sym (changes_by_ticks (bit_line s) (signal_value s)
      (λ t. one_bit (signal_value s t) (value_at_width s.width s.changes t sound.0.wave ∙ sound.1)) 0 (suc end))
      ∙ ap (λ width. changes_of width end (signal_value s)) (sym sound.1)
      ∙ changes_of-value_at s.width end s.changes sound.0.wave sound.0.ticks
