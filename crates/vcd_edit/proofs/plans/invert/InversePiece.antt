-- The inverse of a value, block by block, and the piece of a signal with each bit negated.
use Rattle.std.proofs.Common.{◌≡◌, ℕ, suc, ◌<◌, ◌≤◌, ◌+◌, ◌-◌, ◌*◌, ◌/◌, ◌%◌, max, List, length, map, get_or, refl, sym}
use Rattle.std.proofs.Common.{ap, ◌∙◌, arith, inl, inr, if◌then◌else◌, zero, Bool, true, false, [], ◌∷◌, ◌++◌, drop}
use Rattle.std.proofs.Common.{append_assoc}
use Rattle.std.proofs.Math.ListN.{set}
use Rattle.std.proofs.lemmas.List.{length-map, get_or-map, get_or-set_same, get_or-set_other, length-replicate}
use Rattle.std.proofs.lemmas.List.{append-nil, drop_all}
use Rattle.std.proofs.lemmas.Bool.{cases_eq, lt-ltb}
use Rattle.vcd_core.specs.declared.bit.Bit.{Bit}
use Rattle.vcd_core.specs.declared.bit.Bit.TheVariants.{Zero, X}
use Rattle.vcd_core.specs.declared.letter_block.LetterBlock.{LetterBlock}
use Rattle.vcd_core.specs.Value.{letter_at, all_x, same_letters}
use Rattle.vcd_core.specs.BlockRows.{letter_of, letter_in, letter_or, block_at, letters_of, HoldsLetters}
use Rattle.vcd_core.proofs.shared.LettersOfPlanes.{same_letter_at, length-letters_of, letter_at-letters_of}
use Rattle.vcd_core.proofs.shared.LettersOfPlanes.{one_block}
use Rattle.vcd_core.specs.declared.wave.Change.{Change}
use Rattle.vcd_core.specs.Wave.{change, unless_same, value_from, changes_of, IsWave, AllUpTo}
use Rattle.vcd_core.specs.Contents.{SignalContents}
use Rattle.vcd_edit.specs.Operators.{not_bit}
use Rattle.vcd_edit.specs.inside.plans.Invert.{ShowsInverse}
use Rattle.vcd_edit.specs.Effect.{inverse_value}
use Rattle.vcd_edit.specs.inside.plans.RemainingChanges.{without_repeats, mapped_change}
use Rattle.vcd_edit.proofs.shared.Lists.{drop_here}
use Rattle.vcd_edit.proofs.shared.WithoutRepeats.{without_repeats_is, wave_rises, mapped_rise, mapped_upto}
use Rattle.vcd_edit.proofs.shared.WithoutRepeats.{mapped_value}

-- ==== the blocks of the inverse of a value, and the letters that they show

pub shows_none : (value : List Bit) (blocks : List LetterBlock) → ShowsInverse 0 value blocks
unfolding ShowsInverse
shows_none value blocks = λ k below within. absurd (omega arith)

-- one block more
pub shows_more : (value : List Bit) (blocks : List LetterBlock) (j : ℕ) (block inverse : LetterBlock)
    → j < length blocks
    → HoldsLetters Zero value (64 * j) block → ((i : ℕ) → i < 64 → letter_in inverse i ≡ not_bit (letter_in block i))
    → ShowsInverse (64 * j) value blocks → ShowsInverse (64 * (j + 1)) value (set blocks j inverse)
unfolding ShowsInverse
shows_more value blocks j block inverse there holds negated shown = λ k below within.
    elim (cases_eq (k / 64) j) [
      | inl here ↦
          let index : 64 * j + k % 64 ≡ k = omega arith in
          ap (λ i. letter_in (block_at (set blocks j inverse) i) (k % 64)) here
          ∙ ap (λ (w : LetterBlock). letter_in w (k % 64))
          (get_or-set_same blocks j inverse (record { low = 0; high = 0 }) there) ∙ negated (k % 64) (omega arith)
          ∙ ap not_bit (holds.each (k % 64) (omega arith) ∙ ap (letter_or Zero value) index
          ∙ ap (λ b. if b then letter_at value k else Zero) (lt-ltb k (length value) within))
      | inr elsewhere ↦
          ap (λ (w : LetterBlock). letter_in w (k % 64))
          (get_or-set_other blocks j (k / 64) inverse (record { low = 0; high = 0 }) elsewhere)
          ∙ shown k (omega arith) within
    ]

-- all blocks
pub shows_all : (value : List Bit) (blocks : List LetterBlock) (limit : ℕ) → length value ≤ limit
    → ShowsInverse limit value blocks → ShowsInverse (length value) value blocks
unfolding ShowsInverse
shows_all value blocks limit most shown = λ k below within. shown k (omega arith) within

-- ---- the letters

-- the letter of the inverse of two bits
pub not_letter : (low high : ℕ) → low < 2 → high < 2
    → letter_of (max high (1 - low)) high ≡ not_bit (letter_of low high)
not_letter (suc (suc low)) high small _ = absurd (omega arith)
not_letter low (suc (suc high)) _ small = absurd (omega arith)
not_letter low high _ _ = refl

letter_at-map : (value : List Bit) (k : ℕ) → k < length value
    → letter_at (map not_bit value) k ≡ not_bit (letter_at value k)
letter_at-map value k within =
    ap (λ n. get_or (map not_bit value) (n - 1 - k) X) (length-map value not_bit)
    ∙ get_or-map not_bit value (length value - 1 - k) X X (omega arith)

-- a row of blocks that shows the inverse has its letters
pub inverse_letters : (value : List Bit) (blocks : List LetterBlock) → ShowsInverse (length value) value blocks
    → letters_of (length value) blocks ≡ map not_bit value
unfolding ShowsInverse
inverse_letters value blocks shows =
    same_letter_at _ _ (length-letters_of (length value) blocks ∙ sym (length-map value not_bit)) (λ k below.
    let within : k < length value = omega (arith, length-letters_of (length value) blocks) in
    letter_at-letters_of (length value) blocks k within ∙ shows k within within ∙ sym (letter_at-map value k within))

-- and so has one block
one_block_shows : (width : ℕ) (block inverse : LetterBlock) → width ≤ 64
    → ((i : ℕ) → i < 64 → letter_in inverse i ≡ not_bit (letter_in block i))
    → ShowsInverse (length (letters_of width (block ∷ []))) (letters_of width (block ∷ [])) (inverse ∷ [])
unfolding ShowsInverse
one_block_shows width block inverse most negated = λ k below within.
    let inside : k < width = omega (arith, length-letters_of width (block ∷ []), below) in
    one_block inverse k (omega arith) ∙ negated k (omega arith)
    ∙ ap not_bit (sym (letter_at-letters_of width (block ∷ []) k inside ∙ one_block block k (omega arith)))

pub inverse_block_letters : (width : ℕ) (block inverse : LetterBlock) → width ≤ 64
    → ((i : ℕ) → i < 64 → letter_in inverse i ≡ not_bit (letter_in block i))
    → letters_of width (inverse ∷ []) ≡ map not_bit (letters_of width (block ∷ []))
inverse_block_letters width block inverse most negated =
    ap (λ n. letters_of n (inverse ∷ [])) (sym (length-letters_of width (block ∷ [])))
    ∙ inverse_letters (letters_of width (block ∷ [])) (inverse ∷ []) (one_block_shows width block inverse most negated)

-- ==== the piece of a signal with each bit negated

-- ---- the changes of a wave, one after another

-- the last change added, while the rest remains
pub inverse_more : (before last value : List Bit) (cs : List Change) (i : ℕ) (c : Change) (out more : List Change)
    → i < length cs → c ≡ get_or cs i c → value ≡ map not_bit c.value
    → out ++ without_repeats last (map (mapped_change (map not_bit)) (drop i cs))
    ≡ without_repeats before (map (mapped_change (map not_bit)) cs)
    → more ≡ out ++ unless_same (same_letters value last) (change c.tick value) []
    → more ++ without_repeats value (map (mapped_change (map not_bit)) (drop (i + 1) cs))
    ≡ without_repeats before (map (mapped_change (map not_bit)) cs)
unfolding without_repeats
inverse_more before last value cs i c out more within at is was put =
    ap (λ (l : List Change). l ++ without_repeats value rest) put
    ∙ append_assoc out (unless_same (same_letters value last) (change c.tick value) []) (without_repeats value rest)
    ∙ ap (λ (l : List Change). out ++ l) (joined (same_letters value last))
    ∙ ap (λ v. out ++ unless_same (same_letters v last) (change c.tick v) (without_repeats v rest)) is
    ∙ ap (λ (l : List Change). out ++ without_repeats last (map (mapped_change (map not_bit)) l))
    (sym (drop_here cs i c within at)) ∙ was
  where
    rest : List Change
    rest = map (mapped_change (map not_bit)) (drop (i + 1) cs)

    joined : (b : Bool) → unless_same b (change c.tick value) [] ++ without_repeats value rest
        ≡ unless_same b (change c.tick value) (without_repeats value rest)
    joined true = refl
    joined false = refl

-- none remains
pub inverse_done : (before last : List Bit) (cs : List Change) (i : ℕ) (out : List Change) → length cs ≤ i
    → out ++ without_repeats last (map (mapped_change (map not_bit)) (drop i cs))
    ≡ without_repeats before (map (mapped_change (map not_bit)) cs)
    → out ≡ without_repeats before (map (mapped_change (map not_bit)) cs)
unfolding without_repeats
inverse_done before last cs i out past all =
    sym (append-nil out) ∙ ap
    (λ (rest : List Change). out ++ without_repeats last (map (mapped_change (map not_bit)) rest))
    (sym (drop_all i cs past)) ∙ all

pub inverse_none : (before : List Bit) (cs out : List Change) → out ≡ []
    → out ++ without_repeats before (map (mapped_change (map not_bit)) (drop 0 cs))
    ≡ without_repeats before (map (mapped_change (map not_bit)) cs)
inverse_none before cs out empty =
    ap (λ (l : List Change). l ++ without_repeats before (map (mapped_change (map not_bit)) cs)) empty

-- ---- the whole signal

inverse_of_x : (width : ℕ) → map not_bit (all_x width) ≡ all_x width
inverse_of_x zero = refl
inverse_of_x (suc width) = ap (λ (v : List Bit). X ∷ v) (inverse_of_x width)

-- the changes to inverse values, without those that change nothing
pub inverse_changes : (end : ℕ) (s : SignalContents) → IsWave s.width s.changes → AllUpTo end s.changes
    → without_repeats (all_x s.width) (map (mapped_change (map not_bit)) s.changes)
    ≡ changes_of s.width end (inverse_value s)
inverse_changes end s is upto =
    without_repeats_is s.width end (map (mapped_change (map not_bit)) s.changes) (inverse_value s)
    (mapped_rise s.width 0 (map not_bit) s.changes (λ v. length-map v not_bit)
    (wave_rises s.width 0 (all_x s.width) s.changes (length-replicate s.width X) is.rise))
    (mapped_upto end (map not_bit) s.changes upto)
    (λ t to. ap (λ v. value_from v (map (mapped_change (map not_bit)) s.changes) t) (sym (inverse_of_x s.width))
    ∙ mapped_value (map not_bit) (all_x s.width) s.changes t)
