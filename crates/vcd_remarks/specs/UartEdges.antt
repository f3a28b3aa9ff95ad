-- The edges of an asynchronous serial line that come amid the bits of its frames, as they do if the
-- setup's bits are too long or too short. The project's own.
use Rattle.std.specs.Prelude.{ℕ, ◌-◌, ◌&&◌, nat_lt, Bool, if◌then◌else◌, List, [], ◌∷◌}
use Rattle.std.specs.List.{flat_map, list_any}
use Rattle.vcd_core.specs.declared.wave.Change.{Change}
use Rattle.vcd_decode.specs.declared.annotation.Annotation.{Annotation}
use Rattle.vcd_decode.specs.UartSetup.{UartSetup}
use Rattle.vcd_decode.specs.AmidBit.{is_amid_bit}

-- whether a tick is within a frame, after its first and before its last tick, and amid a bit of it
abbrev pub is_amid_bit_of : UartSetup → (tick : ℕ) → (frame : Annotation) → Bool
is_amid_bit_of u tick frame =
    nat_lt frame.start tick && nat_lt tick frame.end && is_amid_bit u (tick - frame.start)

-- the ticks of the changes of a line that come amid a bit of one of these frames
unfoldable pub edges_amid_bits : UartSetup → List Change → (frames : List Annotation) → List ℕ
edges_amid_bits u changes frames = flat_map
    (λ c. if list_any (is_amid_bit_of u c.tick) frames then c.tick ∷ [] else []) changes
