-- The rows are those that `clap` gives the words.
use Rattle.std.proofs.Common.{◌≡◌, ◌&&◌, ◌∙◌, Bool, true, false, ap, map, sym, refl}
use Rattle.std.specs.String.{string_bytes}
use Rattle.clap.specs.Words.{App, fault_of, is_simple, is_simple_and_free, matches_of}
use Rattle.vcd_shell.proofs.program.parse_words.Goals as goal

first_holds : (a b : Bool) → (a && b) ≡ true → a ≡ true
first_holds true b both = refl
first_holds false b both = both

pub returns-clause-asked : goal.returns-clause-asked
returns-clause-asked g c =
    let simple = first_holds _ _ g.met.P.Program.is_free in
    let read = c.in_ok-matches.ensures.matches (ap is_simple c.in_ok-command.ensures ∙ simple) in
    read.0 ∙ ap (λ (a : App). matches_of a (map string_bytes c.args.words.now)) c.in_ok-command.ensures

pub returns-clause-faults : goal.returns-clause-faults
returns-clause-faults g c =
    sym (ap (λ (a : App). fault_of a (map string_bytes c.args.words.now)) c.in_ok-command.ensures)
    ∙ c.in_ok-matches.ensures.kinds (ap is_simple_and_free c.in_ok-command.ensures ∙ g.met.P.Program.is_free)
