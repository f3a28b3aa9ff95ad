-- Pieces that are put one after another, and what one stamp of the part is.
use Rattle.std.proofs.Common.{◌≡◌, ◌∙◌, ◌<◌, ◌-◌, ◌^◌, ◌==◌, ◌&&◌, ℕ, Bool, true, false, List, [], ◌∷◌, ◌++◌}
use Rattle.std.proofs.Common.{refl, sym, ap, arith, nat_lt, nat_le, if◌then◌else◌, decimal, max}
use Rattle.std.proofs.lemmas.Bool.{lt-ltb, ltb-true, eqb-false}
use Rattle.std.proofs.lemmas.Grind.{flat_map-append}
use Rattle.vcd_core.specs.Decimal.{number_of}
use Rattle.vcd_core.specs.declared.device.Sink as sinks
use Rattle.vcd_text.specs.Items.{stamp}
use Rattle.vcd_copy.specs.Pieces.{Piece, piece_bytes, stamp_line}
use Rattle.vcd_text.specs.declared.writing.output.Output.{Output}
use Rattle.vcd_text.specs.declared.reading.choice.TickRange.{TickRange}
use Rattle.vcd_text.proofs.shared.EmittedParts.{writes_as, writes_both, writes_none}
use Rattle.vcd_text.proofs.read_back.Decimals.{number_of-decimal}
use Rattle.vcd_part.specs.PartPieces.{is_stamp, is_later_stamp, is_within, stamp_in_part, last_stamp}
use Rattle.vcd_part.specs.inside.PartCopy.{settled_after, waiting_after, IsPut}
use Rattle.vcd_part.proofs.laws.states.Windows.{within_is}
use Rattle.vcd_part.proofs.shared.SettledPieces.{settled_both, waiting_both, none_settle, stamp_waits}

-- the bytes of two lists of pieces
pub bytes_of_both : (xs ys : List Piece) → piece_bytes (xs ++ ys) ≡ piece_bytes xs ++ piece_bytes ys
bytes_of_both xs ys = flat_map-append (λ p. p.space ++ p.body) xs ys

module _ {W : Type 0} (sink : sinks.Ghosts W) where
  -- none
  pub none_put : (o : Output W) (held : List ℕ) → IsPut sink o o held held []
  none_put o held = λ w is. (
    writes_as (ap piece_bytes (sym (none_settle w).0)) writes_none,
    is ∙ ap piece_bytes (sym (none_settle w).1),
  )

  -- the same pieces by another name
  pub put_as : (o0 o1 : Output W) (held0 held1 : List ℕ) (xs ys : List Piece) → xs ≡ ys
      → IsPut sink o0 o1 held0 held1 xs → IsPut sink o0 o1 held0 held1 ys
  put_as o0 o1 held0 held1 xs ys same put = λ w is.
      let (writes, holds) = put w is in (
        writes_as (ap (λ (l : List Piece). piece_bytes (settled_after w l)) same) writes,
        holds ∙ ap (λ (l : List Piece). piece_bytes (waiting_after w l)) same,
      )

  -- two lists
  pub both_put : (o0 o1 o2 : Output W) (held0 held1 held2 : List ℕ) (xs ys : List Piece)
      → IsPut sink o0 o1 held0 held1 xs → IsPut sink o1 o2 held1 held2 ys → IsPut sink o0 o2 held0 held2 (xs ++ ys)
  both_put o0 o1 o2 held0 held1 held2 xs ys first next = λ w is.
      let one = first w is in
      let two = next (waiting_after w xs) one.1 in (
        writes_as (sym (ap piece_bytes (settled_both w xs ys)
            ∙ bytes_of_both (settled_after w xs) (settled_after (waiting_after w xs) ys)))
            (writes_both one.0 two.0),
        two.1 ∙ ap piece_bytes (sym (waiting_both w xs ys)),
      )

-- ---- a stamp of the part

-- a tick past the first of a window
above : (first t : ℕ) → (first ≡ 0 → ⊥) → (nat_lt 0 first && nat_le t first) ≡ false → first < t
above first t some past = grind arith

-- one on a line of its own
pub later_line : (n : ℕ) → n < 2 ^ 64 → 0 < n → is_later_stamp (stamp_line n).item ≡ true
later_line n few some = ap (λ (m : ℕ). nat_lt 0 m) (number_of-decimal n few) ∙ lt-ltb 0 n some

module _ (w : TickRange) (p : Piece) (digits : List ℕ) (t : ℕ) (is : p.item ≡ stamp digits)
    (number : number_of digits ≡ t) (within : is_within w t ≡ true) where
  -- of a tick above 0
  pub later_in_part : t < 2 ^ 64 → 0 < t → is_later_stamp (stamp_in_part w p t).item ≡ true
  later_in_part few some = by_test (w.first == 0) refl
    where
      by_test : (b : Bool) → (w.first == 0) ≡ b → is_later_stamp (if b then p else record {
        item = stamp (decimal (t - w.first));
        space = p.space;
        body = 35 ∷ decimal (t - w.first);
      }).item ≡ true
      by_test true zero = ap is_later_stamp is ∙ ap (λ (m : ℕ). nat_lt 0 m) number ∙ lt-ltb 0 t some
      by_test false later =
          let past = above w.first t (eqb-false w.first 0 later) (within_is w t within).0 in
          let some : 0 < t - w.first = omega (arith, past) in
          later_line (t - w.first) (omega arith) some

  -- of tick 0: the window begins there, and it stands
  pub first_in_part : t ≡ 0 → (stamp_in_part w p t ≡ p) × (is_stamp p.item ≡ true) × (is_later_stamp p.item ≡ false)
  first_in_part zero = (
    by_test (w.first == 0) refl,
    ap is_stamp is,
    ap is_later_stamp is ∙ ap (λ (m : ℕ). nat_lt 0 m) (number ∙ zero),
  )
    where
      by_test : (b : Bool) → (w.first == 0) ≡ b → (if b then p else record {
        item = stamp (decimal (t - w.first));
        space = p.space;
        body = 35 ∷ decimal (t - w.first);
      }) ≡ p
      by_test true first = refl
      by_test false later =
          let past = above w.first t (eqb-false w.first 0 later) (within_is w t within).0 in
          absurd (omega (arith, past))

-- the one of the last tick, if there is one, is of a tick above 0
pub last_waits : (w : TickRange) (tick : ℕ) (v : List Piece) → w.last < 2 ^ 64
    → settled_after v (last_stamp w tick) ≡ []
last_waits w tick v few = by_test (nat_lt (max tick w.first) w.last) refl
  where
    by_test : (b : Bool) → nat_lt (max tick w.first) w.last ≡ b
        → settled_after v (if b then stamp_line (w.last - w.first) ∷ [] else []) ≡ []
    by_test true early =
        let order = ltb-true (max tick w.first) w.last early in
        let some : 0 < w.last - w.first = omega (arith, order) in
        (stamp_waits v (stamp_line (w.last - w.first)) (later_line (w.last - w.first) (omega (arith, few)) some)).0
    by_test false late = (none_settle v).0
