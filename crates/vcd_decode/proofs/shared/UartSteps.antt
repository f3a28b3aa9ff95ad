-- The steps of the walk over the edges of a UART line: its falls one at a time, and the letters of a frame.
use Rattle.std.proofs.Common.{◌≡◌, ℕ, ◌+◌, ◌-◌, ◌<◌, ◌≤◌, true, false, Some, None, List, [], ◌∷◌, ◌++◌}
use Rattle.std.proofs.Common.{length, get_or, drop, refl, sym, ap, subst, ◌∙◌, arith, suc, zero}
use Rattle.vcd_core.specs.declared.bit.Bit.{Bit}
use Rattle.vcd_decode.specs.UartSetup.{UartSetup}
use Rattle.vcd_decode.specs.Lines.{is_zero}
use Rattle.vcd_decode.specs.inside.UartFrames.{is_sampled, zero_start, open_falls, more_letters}

module _ (u : UartSetup) (b : Bit) (through : ℕ) where
  -- the start bit of the first fall is not sampled
  pub fall_open : (falls : List ℕ) (s : ℕ) → 0 < length falls → s ≡ get_or falls 0 s → is_sampled u s 0 through ≡ false
      → (zero_start u b through falls ≡ None) × (open_falls u b through falls ≡ falls)
  unfolding zero_start open_falls
  fall_open [] s some first later = absurd (omega (arith, some))
  fall_open (x ∷ xs) s some first later =
      let here : is_sampled u x 0 through ≡ false = subst (λ y. is_sampled u y 0 through ≡ false) first later in
      (rw here refl, rw here refl)

  -- it is 0
  pub fall_begins : (falls : List ℕ) (s : ℕ) → 0 < length falls → s ≡ get_or falls 0 s
      → is_sampled u s 0 through ≡ true → is_zero b ≡ true
      → (zero_start u b through falls ≡ Some s) × (open_falls u b through falls ≡ [])
  unfolding zero_start open_falls
  fall_begins [] s some first sampled low = absurd (omega (arith, some))
  fall_begins (x ∷ xs) s some first sampled low =
      let here : is_sampled u x 0 through ≡ true = subst (λ y. is_sampled u y 0 through ≡ true) first sampled in
      (rw (here, low) (ap (λ (y : ℕ). Some y) (sym first)), rw (here, low) refl)

  -- it is not 0
  pub fall_ends : (falls : List ℕ) (s : ℕ) (rest : List ℕ) → 0 < length falls → s ≡ get_or falls 0 s
      → is_sampled u s 0 through ≡ true → is_zero b ≡ false → rest ≡ drop 1 falls
      → (zero_start u b through rest ≡ zero_start u b through falls)
      × (open_falls u b through rest ≡ open_falls u b through falls)
  unfolding zero_start open_falls
  fall_ends [] s rest some first sampled high others = absurd (omega (arith, some))
  fall_ends (x ∷ xs) s rest some first sampled high others =
      let here : is_sampled u x 0 through ≡ true = subst (λ y. is_sampled u y 0 through ≡ true) first sampled in
      rw (here, high) (ap (zero_start u b through) others, ap (open_falls u b through) others)

  -- no fall is left
  pub no_fall : (falls : List ℕ) → length falls ≡ 0
      → (zero_start u b through falls ≡ None) × (open_falls u b through falls ≡ falls)
  unfolding zero_start open_falls
  no_fall [] none = (refl, refl)
  no_fall (x ∷ xs) none = absurd (omega (arith, none))

-- ---- the letters of a frame

module _ (u : UartSetup) (b : Bit) (start through last : ℕ) (letters : List Bit) (bit : ℕ)
    (count : length letters ≡ bit) where
  -- one more bit is sampled
  pub letter_pushed : bit < last → is_sampled u start (bit + 1) through ≡ true
      → more_letters u b start through (last - (bit + 1)) (letters ++ b ∷ [])
      ≡ more_letters u b start through (last - bit) letters
  unfolding more_letters
  letter_pushed within sampled =
      let one : last - bit ≡ suc (last - (bit + 1)) = omega (arith, within) in
      let here : is_sampled u start (length letters + 1) through ≡ true =
      ap (λ n. is_sampled u start (n + 1) through) count ∙ sampled in
      rw one (rw here refl)

  -- the next one is not
  pub letters_open : (bits : ℕ) → is_sampled u start (bit + 1) through ≡ false
      → letters ≡ more_letters u b start through bits letters
  unfolding more_letters
  letters_open zero later = refl
  letters_open (suc bits) later =
      let here : is_sampled u start (length letters + 1) through ≡ false =
      ap (λ n. is_sampled u start (n + 1) through) count ∙ later in
      rw here refl

  -- there is none
  pub letters_full : last ≤ bit → letters ≡ more_letters u b start through (last - bit) letters
  unfolding more_letters
  letters_full full =
      let none : last - bit ≡ 0 = omega (arith, full) in
      rw none refl
