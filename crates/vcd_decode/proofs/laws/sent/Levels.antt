-- The bits of a number as levels.
use Rattle.std.proofs.Common.{◌≡◌, ℕ, zero, suc, ◌+◌, ◌*◌, ◌/◌, ◌%◌, ◌^◌, ◌<◌, false, if◌then◌else◌, length, refl, sym}
use Rattle.std.proofs.Common.{ap, ◌∙◌, arith, ◌==◌, List, map, get_or}
use Rattle.std.specs.List.{list_any, range_with_len}
use Rattle.std.proofs.lemmas.Bool.{cond_both, eqb-true, eqb-false}
use Rattle.std.proofs.lemmas.List.{ext_get_or}
use Rattle.std.proofs.lemmas.List.FromFn.{get_or-map-range_with_len, length-map-range_with_len}
use Rattle.vcd_core.specs.declared.bit.Bit.{Bit}
use Rattle.vcd_core.specs.declared.bit.Bit.TheVariants.{Zero, One}
use Rattle.vcd_decode.specs.Lines.{is_one, is_unclear, number_from_letters}
use Rattle.vcd_decode.specs.SentLevels.{level, data_levels}

-- what holds of both levels
pub at_level : (P : Bit → Type 0) (n : ℕ) → (n % 2 ≡ 1 → P One) → (n % 2 ≡ 0 → P Zero) → P (level n)
at_level P n odd even = cond_both (n % 2 == 1) One Zero P (λ e. odd (eqb-true (n % 2) 1 e))
    (λ e. let apart = eqb-false (n % 2) 1 e in even (omega arith))

-- how many ones a level is
pub one_count : (n : ℕ) → (if is_one (level n) then 1 else 0) ≡ n % 2
one_count n = at_level (λ b. (if is_one b then 1 else 0) ≡ n % 2) n (λ odd. sym odd) (λ even. sym even)

pub level_clear : (n : ℕ) → is_unclear (level n) ≡ false
level_clear n = at_level (λ b. is_unclear b ≡ false) n (λ _. refl) (λ _. refl)

pub data_clear : (count word : ℕ) → list_any is_unclear (data_levels count word) ≡ false
unfolding data_levels
data_clear zero word = refl
data_clear (suc count) word = rw (level_clear word) (data_clear count (word / 2))

pub data_length : (count word : ℕ) → length (data_levels count word) ≡ count
unfolding data_levels
data_length zero word = refl
data_length (suc count) word = ap suc (data_length count (word / 2))

-- the number of the data bits is the word
pub number_of_data : (count word : ℕ) → word < 2 ^ count → number_from_letters (data_levels count word) ≡ word
unfolding data_levels
number_of_data zero word within = omega arith
number_of_data (suc count) word within =
    (λ i. one_count word i + 2 * number_of_data count (word / 2) (omega arith) i) ∙ omega arith

-- a function that has these bits from an argument on
pub map_range : (g : ℕ → Bit) (bs : List Bit) (a : ℕ) (d : Bit) → ((i : ℕ) → i < length bs → g (a + i) ≡ get_or bs i d)
    → map g (range_with_len a (length bs)) ≡ bs
map_range g bs a d at =
    let long = length-map-range_with_len g a (length bs) in
    ext_get_or d _ bs long (λ i below.
    let inside : i < length bs = omega (arith, long) in
    get_or-map-range_with_len g a (length bs) i (a + i) d inside refl ∙ at i inside)
