-- What an accepted edit makes of a capture, as values at each tick. The rules are the project's
-- own.
use Rattle.std.specs.Prelude.{ℕ, zero, suc, ◌+◌, ◌-◌, ◌==◌, ◌&&◌, ◌||◌, nat_lt, nat_le, ℤ, pos}
use Rattle.std.specs.Prelude.{negsuc, ◌-ℤ◌, Bool, if◌then◌else◌, List, [], ◌∷◌, map, drop, codes}
use Rattle.std.specs.List.{push, remove}
use Rattle.vcd_core.specs.declared.bit.Bit.{Bit}
use Rattle.vcd_core.specs.Value.{all_x, letter_at, same_letters}
use Rattle.vcd_core.specs.Wave.{changes_of}
use Rattle.vcd_core.specs.Contents.{Contents, SignalContents, signal_at, with_signal, signal_value}
use Rattle.vcd_edit.specs.declared.edit.Edit.{Edit}
use Rattle.vcd_edit.specs.declared.edit.Edit.TheVariants.{Rename, Remove, Invert, Shift, Cut}
use Rattle.vcd_edit.specs.declared.edit.Edit.TheVariants.{Deglitch, Force, Derive}
use Rattle.vcd_edit.specs.declared.edit.Rule.{Rule}
use Rattle.vcd_edit.specs.declared.edit.Rule.TheVariants.{Not, And, Or, Xor, BitOf}
use Rattle.vcd_edit.specs.declared.edit.Operator.TheVariants as operators
use Rattle.vcd_edit.specs.declared.edit.Formula.{Formula}
use Rattle.vcd_edit.specs.declared.edit.Formula.TheVariants.{Negation, Pair, BitSelect}
use Rattle.vcd_edit.specs.Operators.{not_bit, operator_bit}

-- a signal with the values of a function at all ticks up to the end
abbrev pub with_values : ℕ → (ℕ → List Bit) → SignalContents → SignalContents
with_values end f s = record s { changes = changes_of s.width end f }

-- the capture with other values of the signal at a position
abbrev pub with_wave : Contents → ℕ → (ℕ → List Bit) → Contents
with_wave c k f = with_signal c k (with_values c.end f (signal_at c k))

-- ---- one signal

-- a signal with another first word in its name
abbrev pub renamed_signal : List ℕ → SignalContents → SignalContents
renamed_signal word s = record s { words = word ∷ drop 1 s.words }

-- the value of a signal at a tick, with `~` applied to each bit
abbrev pub inverse_value : SignalContents → ℕ → List Bit
inverse_value s t = map not_bit (signal_value s t)

-- the value at a tick that may be outside: all x before tick 0, the last value past the end
abbrev pub value_at_any_tick : ℕ → SignalContents → ℤ → List Bit
value_at_any_tick end s (negsuc n) = all_x s.width
value_at_any_tick end s (pos u) = if nat_lt end u then signal_value s end else signal_value s u

-- the value of a signal `by` ticks before a tick
abbrev pub shift_value : ℕ → ℤ → SignalContents → ℕ → List Bit
shift_value end by s t = value_at_any_tick end s (pos t -ℤ by)

-- the value at a tick if the ticks from `from` to before `to` are cut out: later values come
-- earlier
abbrev pub cut_value : ℕ → ℕ → SignalContents → ℕ → List Bit
cut_value from to s t = if nat_lt t from then signal_value s t else signal_value s (t + (to - from))

-- the value at a tick if `value` is forced at the ticks from `from` to before `to`
abbrev pub force_value : ℕ → ℕ → List Bit → SignalContents → ℕ → List Bit
force_value from to value s t = if nat_le from t && nat_lt t to then value else signal_value s t

-- ---- runs of one value

-- the first tick of the run of one value that contains a tick
unfoldable pub run_start : (ℕ → List Bit) → ℕ → ℕ
run_start f zero = 0
run_start f (suc t) = if same_letters (f (suc t)) (f t) then run_start f t else suc t

-- the last tick of that run, in a capture with n more ticks
unfoldable pub run_end : (ℕ → List Bit) → ℕ → ℕ → ℕ
run_end f t zero = t
run_end f t (suc n) = if same_letters (f (suc t)) (f t) then run_end f (suc t) n else t

-- whether the run that contains a tick contains tick 0 or the end, or has at least `ticks` ticks
abbrev pub is_steady : ℕ → ℕ → (ℕ → List Bit) → ℕ → Bool
is_steady ticks end f t =
    let first = run_start f t in
    let last = run_end f t (end - t) in
    first == 0 || last == end || nat_le ticks (last - first + 1)

-- the value at the greatest steady tick up to a tick
unfoldable pub steady_value : ℕ → ℕ → (ℕ → List Bit) → ℕ → List Bit
steady_value ticks end f zero = f 0
steady_value ticks end f (suc t) =
    if is_steady ticks end f (suc t) then f (suc t) else steady_value ticks end f t

-- ---- derived signals

-- what a rule computes: `~` of a signal, an operator on two signals, or one bit of a signal
abbrev pub formula : Rule → Formula
formula (Not a) = Negation a
formula (And a b) = Pair operators.And a b
formula (Or a b) = Pair operators.Or a b
formula (Xor a b) = Pair operators.Xor a b
formula (BitOf a k) = BitSelect a k

-- the position of the first operand
abbrev pub first_operand : Formula → ℕ
first_operand (Negation a) = a
first_operand (Pair operator a b) = a
first_operand (BitSelect a k) = a

-- bit k of the signal at a position, at a tick
abbrev pub signal_bit : Contents → ℕ → ℕ → ℕ → Bit
signal_bit c a k t = letter_at (signal_value (signal_at c a) t) k

-- the bit that a formula gives at a tick
abbrev pub formula_bit : Formula → Contents → ℕ → Bit
formula_bit (Negation a) c t = not_bit (signal_bit c a 0 t)
formula_bit (Pair operator a b) c t =
    operator_bit operator (signal_bit c a 0 t) (signal_bit c b 0 t)
formula_bit (BitSelect a k) c t = signal_bit c a k t

-- a signal of one bit in the scopes of the first operand, with one word as its name
abbrev pub derived_signal : List ℕ → Rule → Contents → SignalContents
derived_signal word rule c = record {
  scopes = (signal_at c (first_operand (formula rule))).scopes;
  kind = codes "wire";
  words = word ∷ [];
  width = 1;
  changes = changes_of 1 c.end (λ t. formula_bit (formula rule) c t ∷ []);
}

-- ---- all edits

-- a signal after a range of ticks is cut out, up to the end that is left
abbrev pub signal_after_cut : ℕ → ℕ → ℕ → SignalContents → SignalContents
signal_after_cut new_end from to s = with_values new_end (cut_value from to s) s

-- the capture after a range of ticks is cut out of every signal
abbrev pub cut_contents : ℕ → ℕ → Contents → Contents
cut_contents from to c =
    let new_end = c.end - (to - from) in
    record c { end = new_end; signals = map (signal_after_cut new_end from to) c.signals }

-- the capture after an edit
unfoldable pub effect : Edit → Contents → Contents
effect (Rename k word) c = with_signal c k (renamed_signal word.now (signal_at c k))
effect (Remove k) c = record c { signals = remove c.signals k }
effect (Invert k) c = with_wave c k (inverse_value (signal_at c k))
effect (Shift k by) c = with_wave c k (shift_value c.end by (signal_at c k))
effect (Cut from to) c = cut_contents from to c
effect (Deglitch k ticks) c =
    with_wave c k (steady_value ticks c.end (signal_value (signal_at c k)))
effect (Force k from to value) c = with_wave c k (force_value from to value (signal_at c k))
effect (Derive word rule) c = record c { signals = push c.signals (derived_signal word.now rule c) }
