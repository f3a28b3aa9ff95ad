-- The first of the patterns to keep, or else of those to remove.
use Rattle.std.proofs.Common.{◌∙◌, ap, map, not, [], Bool, List, ℕ}
use Rattle.std.specs.Prelude.{find}
use Rattle.std.specs.Option.{unwrap_or}
use Rattle.vcd_part.specs.Requests.{is_met, texts}
use Rattle.vcd_text.specs.AsDeclared.{declared_name}
use Rattle.vcd_part.proofs.choice.NotedVariables.{found_first, found_later, missed_is}
use Rattle.vcd_part.proofs.choice.VariableChoice.unmet.Goals as goal

pub returns-in-Some : goal.returns-in-Some
returns-in-Some c = λ r declared noted.
    let p : List ℕ → Bool = λ p. not (is_met declared p) in
    found_first p (unwrap_or (texts r.keep) []) (unwrap_or (texts r.remove) []) c.in-Some.pattern.now
    (c.in-Some.ensures (map declared_name declared) noted.keep_met ∙ missed_is declared _
    ∙ ap (λ given. find p (unwrap_or (texts given) [])) noted.keep_is)

pub returns-in-None : goal.returns-in-None
returns-in-None c = λ r declared noted.
    let p : List ℕ → Bool = λ p. not (is_met declared p) in
    c.unmet-in-None.ensures (map declared_name declared) noted.remove_met ∙ missed_is declared _
    ∙ ap (λ given. find p (unwrap_or (texts given) [])) noted.remove_is
    ∙ found_later p (unwrap_or (texts r.keep) []) (unwrap_or (texts r.remove) [])
    (c.in-None.ensures (map declared_name declared) noted.keep_met ∙ missed_is declared _
    ∙ ap (λ given. find p (unwrap_or (texts given) [])) noted.keep_is)
