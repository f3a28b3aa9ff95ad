-- What a file means that was heard to its end, and what its declarations say of that.
use Rattle.std.proofs.Common.{◌≡◌, ℕ, List, [], ◌∷◌, ◌++◌, map, refl, sym, ap, ◌∙◌}
use Rattle.std.specs.Prelude.{count_by}
use Rattle.std.proofs.lemmas.List.{map-append}
use Rattle.vcd_core.specs.declared.capture.TheConstants.{SIGNAL_LIMIT}
use Rattle.vcd_core.specs.Contents.{SignalContents}
use Rattle.vcd_core.specs.Names.{full_name, full_names}
use Rattle.vcd_core.specs.Sound.{IsSound}
use Rattle.vcd_text.specs.AsDeclared.{declared_name}
use Rattle.vcd_text.specs.Grammar.{VariableDeclaration, ValueChange, ParseState, is_skipped, kept_variables}
use Rattle.vcd_text.specs.HeardChanges.{HeardChange, FileIsHeard, skipped_variables}
use Rattle.vcd_text.specs.Meaning.{FileMeans, declared_signal, meaning}
use Rattle.vcd_text.proofs.shared.SoundMeaning.{meaning_is_sound}
use Rattle.vcd_compare.specs.Comparisons.{IsMeant}
use Rattle.vcd_compare.specs.Variables.{ComparedContents, WordVariable, with_all, word_variable, word_variables}
use Rattle.vcd_compare.specs.inside.Outcomes.{planned_width, signal_width}
use Rattle.vcd_compare.specs.inside.Planning.{HasDeclared, declared_names, planned_signal, planned_skipped}
use Rattle.vcd_compare.specs.inside.Planning.{planned_variables}
use Rattle.vcd_compare.specs.inside.Walk.{WholeFile}

-- what a file means, with its variables that are no signals
abbrev pub contents_of : WholeFile → ComparedContents
contents_of f = record { meant = meaning f.state; words = word_variables f.state f.heard }

abbrev file_means : (file : List ℕ) (f : WholeFile) → FileIsHeard SIGNAL_LIMIT file f.state f.heard
    → FileMeans SIGNAL_LIMIT file (meaning f.state) (count_by is_skipped f.state.declared)
file_means file f is = record { state = f.state; accepted = is.accepted; means = refl; left_out = refl }

abbrev pub is_meant : (file : List ℕ) (f : WholeFile) → FileIsHeard SIGNAL_LIMIT file f.state f.heard
    → IsMeant file (contents_of f)
is_meant file f is = record {
  skipped = _;
  means = file_means file f is;
  words = ap (word_variables f.state) is.heard_is;
}

pub means_sound : (file : List ℕ) (state : ParseState) (heard : List HeardChange)
    → FileIsHeard SIGNAL_LIMIT file state heard → IsSound (meaning state)
means_sound file state heard is = meaning_is_sound file state is.accepted

-- ---- what is declared

module _ {X : Type 0} (of_signal : SignalContents → X) where
  abbrev word_declarations : List WordVariable → List SignalContents
  word_declarations words = map (λ (v : WordVariable). v.declared) words

  signals_same : (of_variable : VariableDeclaration → X) (changes : List ValueChange) (end : ℕ)
      → ((d : VariableDeclaration) → of_variable d ≡ of_signal (declared_signal changes end d))
      → (ds : List VariableDeclaration) → map of_variable ds ≡ map of_signal (map (declared_signal changes end) ds)
  signals_same of_variable changes end same [] = refl
  signals_same of_variable changes end same (d ∷ ds) =
      λ i. same d i ∷ signals_same of_variable changes end same ds i

  words_same : (of_variable : VariableDeclaration → X) (all : List VariableDeclaration) (heard : List HeardChange)
      → ((d : VariableDeclaration) → of_variable d ≡ of_signal (word_variable all heard d).declared)
      → (ds : List VariableDeclaration)
      → map of_variable ds ≡ map of_signal (word_declarations (map (word_variable all heard) ds))
  words_same of_variable all heard same [] = refl
  words_same of_variable all heard same (d ∷ ds) = λ i. same d i ∷ words_same of_variable all heard same ds i

module _ (f : WholeFile) where
  abbrev kept : List VariableDeclaration
  kept = kept_variables f.state.declared

  abbrev skipped : List VariableDeclaration
  skipped = skipped_variables f.state.declared

  abbrev signals : List SignalContents
  signals = (meaning f.state).signals

  abbrev others : List SignalContents
  others = map (λ (v : WordVariable). v.declared) (word_variables f.state f.heard)

  names_same : declared_names f.state.declared ≡ full_names (signals ++ others)
  names_same =
      map-append declared_name kept skipped
      ∙ (λ i. signals_same full_name declared_name f.state.value_changes f.state.tick (λ d. refl) kept i
      ++ words_same full_name declared_name skipped f.heard (λ d. refl) skipped i)
      ∙ sym (map-append full_name signals others)

  widths_same : map planned_width (planned_variables f.state.declared) ≡ map signal_width (signals ++ others)
  widths_same =
      map-append planned_width (map (planned_signal f.state.declared) kept)
      (map (planned_skipped f.state.declared) skipped)
      ∙ (λ i. (planned_signals kept
      ∙ signals_same signal_width (λ d. d.size) f.state.value_changes f.state.tick (λ d. refl) kept) i
      ++ (planned_others skipped
      ∙ words_same signal_width (λ d. planned_width (planned_skipped f.state.declared d)) skipped f.heard (λ d. refl)
      skipped) i)
      ∙ sym (map-append signal_width signals others)
    where
      planned_signals : (ds : List VariableDeclaration)
          → map planned_width (map (planned_signal f.state.declared) ds) ≡ map (λ (d : VariableDeclaration). d.size) ds
      planned_signals [] = refl
      planned_signals (d ∷ ds) = ap (λ l. d.size ∷ l) (planned_signals ds)

      planned_others : (ds : List VariableDeclaration)
          → map planned_width (map (planned_skipped f.state.declared) ds)
          ≡ map (λ (d : VariableDeclaration). planned_width (planned_skipped f.state.declared d)) ds
      planned_others [] = refl
      planned_others (d ∷ ds) =
          ap (λ l. planned_width (planned_skipped f.state.declared d) ∷ l) (planned_others ds)

  pub has_declared : (s : ParseState) → f.state.declared ≡ s.declared → HasDeclared s (with_all (contents_of f))
  has_declared s same = record {
    names = ap declared_names (sym same) ∙ names_same;
    widths = ap (λ ds. map planned_width (planned_variables ds)) (sym same) ∙ widths_same;
  }
