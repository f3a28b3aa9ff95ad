use Rattle.std.proofs.Common.{◌≡◌, ℕ, None, get_or, vec_len}
use Rattle.vcd_edit.proofs.exchange.reservations.put_coming.Given as goal

-- the list grew by items without a wave
abbrev pub invariant-loop-index : goal.invariant-loop-index
invariant-loop-index l = (vec_len l.comings ≡ l._index)
    × ((k : ℕ) → get_or l.comings.items k None ≡ get_or l.fn.comings.items k None)
