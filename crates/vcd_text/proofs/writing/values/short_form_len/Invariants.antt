-- The letters passed so far are redundant.
use Rattle.std.proofs.Common.{◌≡◌, ◌<◌, ◌≤◌, ◌+◌, ℕ, length, true}
use Rattle.vcd_text.proofs.writing.values.LetterBits.{is_redundant_in}
use Rattle.vcd_text.proofs.writing.values.short_form_len.Given as goal

abbrev pub invariant-loop-left : goal.invariant-loop-left
invariant-loop-left l = record {
  redundant : (i : ℕ) → l.left ≤ i + 1 → i + 1 < length l.value → is_redundant_in l.value i ≡ true;
  least : 1 ≤ l.left;
  within : l.left ≤ length l.value;
}

abbrev pub decreases-loop-left : goal.decreases-loop-left
decreases-loop-left l = l.left
