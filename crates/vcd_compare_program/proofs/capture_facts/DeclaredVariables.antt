-- What is shown of variables is what a file declares of them.
use Rattle.std.proofs.Common.{◌≡◌, ◌∙◌, ◌++◌, ◌∷◌, [], ℕ, List, map, refl, sym, ap, ap₂}
use Rattle.std.proofs.lemmas.List.{map-append}
use Rattle.vcd_text.specs.Grammar.{ParseState, VariableDeclaration, ValueChange, kept_variables}
use Rattle.vcd_text.specs.HeardChanges.{skipped_variables}
use Rattle.vcd_text.specs.Meaning.{declared_signal}
use Rattle.vcd_text.specs.inside.reading.Part.{undriven}
use Rattle.vcd_text.specs.inside.reading.SkippedVariables.{listed_variable, listed_variables}
use Rattle.vcd_compare.specs.Variables.{word_declared}
use Rattle.vcd_compare_program.specs.CaptureFacts.{facts_declared}
use Rattle.vcd_compare_program.specs.inside.Facts.{facts_listed, meaning_with_all}

signals_declared : (changes : List ValueChange) (end : ℕ) (ds : List VariableDeclaration)
    → map facts_declared (map undriven ds) ≡ map facts_declared (map (declared_signal changes end) ds)
signals_declared changes end [] = refl
signals_declared changes end (d ∷ ds) =
    ap (λ vs. facts_declared (undriven d) ∷ vs) (signals_declared changes end ds)

others_declared : (all ds : List VariableDeclaration)
    → map facts_listed (map (listed_variable all) ds) ≡ map facts_declared (map word_declared ds)
others_declared all [] = refl
others_declared all (d ∷ ds) = ap (λ vs. facts_declared (word_declared d) ∷ vs) (others_declared all ds)

-- all variables of a file with this state
pub all_declared : (s : ParseState)
    → map facts_declared (map undriven (kept_variables s.declared))
    ++ map facts_listed (listed_variables (skipped_variables s.declared))
    ≡ map facts_declared (meaning_with_all s).signals
all_declared s =
    let signals = map (declared_signal s.value_changes s.tick) (kept_variables s.declared) in
    ap₂ (λ vs ws. vs ++ ws) (signals_declared s.value_changes s.tick (kept_variables s.declared))
    (others_declared (skipped_variables s.declared) (skipped_variables s.declared))
    ∙ sym (map-append facts_declared signals (map word_declared (skipped_variables s.declared)))
