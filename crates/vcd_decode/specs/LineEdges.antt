-- The edges of several lines. A line is a function of the tick and may be absent.
use Rattle.std.specs.Prelude.{ℕ, suc, ◌≡◌, Bool, false, Option, List, map, filter}
use Rattle.std.specs.List.{range_with_len}
use Rattle.std.specs.Option.{option_map}
use Rattle.vcd_core.specs.declared.bit.Bit.{Bit}
use Rattle.vcd_core.specs.declared.bit_edges.BitEdge.{BitEdge}
use Rattle.vcd_core.specs.WaveView.{WaveView}
use Rattle.vcd_decode.specs.Lines.{letter_before}
use Rattle.vcd_decode.specs.WaveLines.{line_of}

-- waves of one bit as lines
abbrev pub lines_of : List (Option WaveView) → List (Option (ℕ → Bit))
lines_of waves = map (option_map line_of) waves

-- the letters of lines just before a tick and at it
abbrev pub line_edge : List (Option (ℕ → Bit)) → ℕ → BitEdge
line_edge lines t = record {
  tick = t;
  before = map (option_map (λ f. letter_before f t)) lines;
  at = map (option_map (λ f. f t)) lines;
}

-- edges of lines up to the tick `end`, rising: those at which a line changes, and perhaps others
pub record AreEdgesOf (lines : List (Option (ℕ → Bit))) (end : ℕ) (edges : List BitEdge)
    : Type 0 where
  pub shown : ℕ → Bool
  pub at_shown : edges ≡ map (line_edge lines) (filter shown (range_with_len 0 (suc end)))
  pub still : (t : ℕ) → shown t ≡ false → (line_edge lines t).at ≡ (line_edge lines t).before
