-- The text of a capture: its items in a fixed order, each on its own line (the format: IEEE
-- 1364-2005, 18.2; the order and the codes: the project's own).
use Rattle.std.specs.Prelude.{ℕ, zero, suc, Bool, ◌+◌, ◌-◌, ◌/◌, ◌%◌, ◌==◌, ◌&&◌, not}
use Rattle.std.specs.Prelude.{false, List}
use Rattle.std.specs.Prelude.{◌∷◌, ◌++◌, length, map, drop, replicate, Option, Some, None, codes}
use Rattle.std.specs.Prelude.{[]}
use Rattle.std.specs.List.{filter, flat_map, enumerate_from, join_with_byte, common_prefix_len}
use Rattle.std.specs.List.{range_with_len}
use Rattle.std.specs.Str.{bytes_eq}
use Rattle.std.specs.Cmp.Lexicographic.{pointwise}
use Rattle.std.specs.Fmt.{decimal}
use Rattle.vcd_core.specs.declared.bit.Bit.{Bit}
use Rattle.vcd_core.specs.declared.capture.Timescale.{Timescale}
use Rattle.vcd_core.specs.declared.capture.ScopeName.{ScopeName}
use Rattle.vcd_core.specs.Value.{same_letters, printed_letter}
use Rattle.vcd_core.specs.Contents.{Contents, SignalContents, signal_value}
use Rattle.vcd_text.specs.Letters.{printed_letters, short_form}
use Rattle.vcd_text.specs.Items.{Item, entry, timescale, scope, upscope, variable, end_definitions}
use Rattle.vcd_text.specs.Items.{stamp, scalar}
use Rattle.vcd_text.specs.Items.{vector, dump_word, spelling, end_word}
use Rattle.vcd_core.specs.TimeUnits.{unit_text}

-- the line of an item: its words with one space (32) between them, and a line feed (10)
abbrev pub item_line : Item → List ℕ
item_line item = join_with_byte 32 (spelling item) ++ 10 ∷ []

-- ---- declarations

-- the timescale, if there is one: its number and its unit are two words (18.2)
abbrev pub timescale_items : Option Timescale → List Item
timescale_items None = []
timescale_items (Some t) = timescale (decimal t.count ∷ unit_text t.unit ∷ []) ∷ []

-- whether two scopes have the same kind and the same words
abbrev pub same_scope : ScopeName → ScopeName → Bool
same_scope a b = bytes_eq a.kind b.kind && pointwise bytes_eq a.words b.words

-- from the open scopes to those of a signal: the open ones past the shared prefix are closed, then
-- the others are opened (18.2)
abbrev pub scope_items : List ScopeName → List ScopeName → List Item
scope_items opened path =
    let shared : ℕ = common_prefix_len same_scope opened path in
    replicate (length opened - shared) upscope ++ map (λ s. scope s.kind s.words) (drop shared path)

-- n in bijective base 94, lowest digit first; the digits 1 to 94 are the bytes 33 to 126. `most`
-- bounds their count, so that this ends: n has at most n digits
unfoldable pub code_digits : (most n : ℕ) → List ℕ
code_digits most zero = []
code_digits zero (suc below) = []
code_digits (suc most) (suc below) = (33 + below % 94) ∷ code_digits most (below / 94)

-- the code of the signal at a position: the position counted from 1 (the project's own)
abbrev pub code_of : ℕ → List ℕ
code_of position = code_digits (position + 1) (position + 1)

-- the declaration of the signal at a position (18.2)
abbrev pub variable_item : ℕ → SignalContents → Item
variable_item position s = variable (s.kind ∷ decimal s.width ∷ code_of position ∷ s.words)

-- the declarations of signals, the first at this position, while these scopes are open; at the end
-- all open ones are closed
unfoldable pub signal_items : List ScopeName → ℕ → List SignalContents → List Item
signal_items opened position [] = map (λ s. upscope) opened
signal_items opened position (s ∷ ss) = scope_items opened s.scopes
    ++ variable_item position s ∷ signal_items s.scopes (suc position) ss

-- ---- values

-- a value for a code: one bit as its letter, more bits after `b` (98) in the short form (18.2)
abbrev pub value_item : List ℕ → List Bit → Item
value_item code (b ∷ []) = scalar (printed_letter b) code
value_item code value = vector 98 (printed_letters (short_form value)) code

-- whether the value of a signal at a tick past 0 differs from that at the tick before
abbrev pub differs_at : ℕ → SignalContents → Bool
differs_at t s = not (same_letters (signal_value s t) (signal_value s (t - 1)))

-- the values at a tick of signals, each with its position
abbrev pub value_items : ℕ → List (ℕ × SignalContents) → List Item
value_items t positioned = map (λ p. value_item (code_of p.0) (signal_value p.1 t)) positioned

-- the signals that differ at a tick, in order, each with its position
abbrev pub differing : List SignalContents → ℕ → List (ℕ × SignalContents)
differing signals t = filter (λ p. differs_at t p.1) (enumerate_from 0 signals)

-- the stamp of a tick before its values; without values the end alone has a stamp
abbrev pub with_stamp : (is_end : Bool) → ℕ → List Item → List Item
with_stamp false t [] = []
with_stamp is_end t values = stamp (decimal t) ∷ values

-- the values at tick 0, between `$dumpvars` and `$end` (18.2)
abbrev pub first_items : List SignalContents → List Item
first_items signals = stamp (decimal 0) ∷ dump_word (codes "$dumpvars")
    ∷ (value_items 0 (enumerate_from 0 signals) ++ dump_word end_word ∷ [])

-- the values that differ at a tick past 0, after its stamp (18.2)
abbrev pub tick_items : List SignalContents → (end : ℕ) → ℕ → List Item
tick_items signals end t = with_stamp (t == end) t (value_items t (differing signals t))

-- ---- files

-- the items of a capture: header, timescale, declarations, the values at tick 0, and later ones
unfoldable pub items_of : Contents → List Item
items_of c = map (λ h. entry h.kind h.words) c.header ++ timescale_items c.timescale
    ++ signal_items [] 0 c.signals ++ end_definitions ∷ first_items c.signals
    ++ flat_map (tick_items c.signals c.end) (range_with_len 1 c.end)

-- the text of a capture, byte for byte
unfoldable pub text : Contents → List ℕ
text c = flat_map item_line (items_of c)
