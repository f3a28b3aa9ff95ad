-- The events of no lasting code.
use Rattle.std.proofs.Common.{◌≡◌, ◌∙◌, ◌||◌, ◌&&◌, ◌++◌, not, ℕ, Bool, true, false, List, [], ◌∷◌, refl, sym, ap, cond}
use Rattle.std.proofs.Math.Bool.{and-true, and-false}
use Rattle.std.specs.Prelude.{bytes_eq}
use Rattle.std.specs.List.{list_any}
use Rattle.vcd_core.specs.Word.{is_one_of}
use Rattle.vcd_text.specs.Grammar.{VariableDeclaration}
use Rattle.vcd_amend_run.specs.OutputRemarks.{is_event, events_left_out}
use Rattle.vcd_amend_run.specs.inside.OutputRemarks.{lasting_codes, events_without}

-- whether a code lasts, by the lasting codes
lasts_by_codes : (code : List ℕ) (ds : List VariableDeclaration)
    → is_one_of (lasting_codes ds) code ≡ list_any (λ e. bytes_eq code e.code && not (is_event e)) ds
lasts_by_codes code [] = refl
lasts_by_codes code (d ∷ ds) =
    by_kind (is_event d) ∙ ap (λ b. (bytes_eq code d.code && not (is_event d)) || b) (lasts_by_codes code ds)
  where
    by_kind : (event : Bool) → is_one_of (cond event [] (d.code ∷ []) ++ lasting_codes ds) code
        ≡ ((bytes_eq code d.code && not event) || is_one_of (lasting_codes ds) code)
    by_kind true = ap (λ b. b || is_one_of (lasting_codes ds) code) (sym (and-false (bytes_eq code d.code)))
    by_kind false = ap (λ b. b || is_one_of (lasting_codes ds) code) (sym (and-true (bytes_eq code d.code)))

pub left_out_are : (lasts : List ℕ → Bool) (ds : List VariableDeclaration)
    → ((code : List ℕ) → lasts code ≡ is_one_of (lasting_codes ds) code)
    → events_without lasts ds ≡ events_left_out ds
left_out_are lasts ds same =
    ap (λ (f : List ℕ → Bool). events_without f ds) (λ i code. (same code ∙ lasts_by_codes code ds) i)
