-- The text so far and the name in the remaining scopes make the whole text.
use Rattle.std.proofs.Common.{◌≡◌, ◌++◌, drop}
use Rattle.vcd_core.specs.Names.{name_in}
use Rattle.vcd_script.proofs.replies.listing.append_full_name.Given as goal

abbrev pub invariant-loop-scope : goal.invariant-loop-scope
invariant-loop-scope l = l.text.items ++ name_in (drop l.scope-index l.scopes) l.signal.words ≡ l.initial.text.items
    ++ name_in l.scopes l.signal.words
