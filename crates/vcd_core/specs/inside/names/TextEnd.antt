-- The ends of texts: equal texts have equal ends, and so have a text and its own end.
use Rattle.std.specs.Prelude.{ℕ, ◌+◌, ◌*◌, ◌%◌, ◌^◌, List, [], ◌∷◌}
use Rattle.vcd_core.specs.declared.names.text_end.TextEnd.{TextEnd}

-- the end of a text with one more byte
abbrev pub longer_end : TextEnd → ℕ → TextEnd
longer_end end byte = record {
  bytes = (end.bytes * 256 % 2 ^ 128 + byte) % 2 ^ 128;
  mask = (end.mask * 256 % 2 ^ 128 + 255) % 2 ^ 128;
}

-- the end after these bytes, from that before them
unfoldable pub end_after : TextEnd → List ℕ → TextEnd
end_after end [] = end
end_after end (byte ∷ text) = end_after (longer_end end byte) text

-- the end of a text
abbrev pub text_end : List ℕ → TextEnd
text_end text = end_after (record { bytes = 0; mask = 0 }) text
