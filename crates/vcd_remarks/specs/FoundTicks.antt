-- The ticks at which something is found, as remarks show them. The project's own.
use Rattle.std.specs.Prelude.{ℕ, zero, suc, max, Bool, List, [], ◌∷◌, length, map, take}
use Rattle.std.specs.List.{filter, range_with_len}
use Rattle.vcd_remarks.specs.declared.findings.found_spans.FoundSpans.{FoundSpans}
use Rattle.vcd_remarks.specs.declared.findings.found_spans.Span.{Span}
use Rattle.vcd_remarks.specs.declared.findings.found_ticks.FoundTicks.{FoundTicks}
use Rattle.vcd_remarks.specs.declared.findings.found_ticks.TheConstants.{SHOWN_TICKS}

-- the first n of some ticks, with 0 for each that is missing
unfoldable pub first_ticks : (n : ℕ) → List ℕ → List ℕ
first_ticks zero ts = []
first_ticks (suc n) [] = 0 ∷ first_ticks n []
first_ticks (suc n) (t ∷ ts) = t ∷ first_ticks n ts

-- the ticks at which something is found: how many there are, and the first ones
abbrev pub found_ticks : List ℕ → FoundTicks
found_ticks ts = record { count = length ts; first = first_ticks SHOWN_TICKS ts }

-- those that a remark shows
abbrev pub shown_ticks : FoundTicks → List ℕ
shown_ticks found = take found.count found.first

-- the greatest of some numbers, 0 if there is none
unfoldable pub greatest : List ℕ → ℕ
greatest [] = 0
greatest (n ∷ ns) = max n (greatest ns)

-- something at a tick that lasts so many ticks
abbrev pub span : (tick ticks : ℕ) → Span
span tick ticks = record { tick = tick; ticks = ticks }

-- where such things are found, and how many ticks the longest lasts
abbrev pub found_spans : List Span → FoundSpans
found_spans ss = record {
  ticks = found_ticks (map (λ s. s.tick) ss);
  most = greatest (map (λ s. s.ticks) ss);
}

-- the ticks 0 to `end` that pass a test
abbrev pub ticks_where : (passes : ℕ → Bool) → (end : ℕ) → List ℕ
ticks_where passes end = filter passes (range_with_len 0 (suc end))
