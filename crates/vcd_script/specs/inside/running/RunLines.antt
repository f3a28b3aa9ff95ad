-- What a fault leaves that ends the writing of one reply.
use Rattle.std.specs.Prelude.{◌≡◌, ◌≤◌, ℕ, ◌+◌, List, length, take, Option}
use Rattle.std.specs.Io.KnownBytes.{Appends, Keeps}
use Rattle.vcd_script.specs.declared.running.run_error.RunError.{RunError}
use Rattle.vcd_script.specs.declared.running.run_error.RunError.TheVariants as run_errors

-- writing this text, the reply to the line of this number, ended at this fault. `written_before`
-- bytes preceded it; a writer's fault counts those taken. If memory ran out, none of the text was
-- taken
abbrev pub StopsAtReply : (number : ℕ) → (text : List ℕ) → (written_before : ℕ)
    → (before after : Option (List ℕ))
    → RunError → Type 0
StopsAtReply number text written_before before after (run_errors.NoMemory line) = (line ≡ number)
    × Keeps before after
StopsAtReply number text written_before before after (run_errors.ReplyFault written) =
    (count : ℕ) × (written ≡ written_before + count) × (count ≤ length text)
    × Appends before after (take count text)
StopsAtReply number text written_before before after _ = ⊥
