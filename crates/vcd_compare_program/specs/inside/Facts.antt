-- What is seen of the facts that the code holds, and how often names were counted.
use Rattle.std.specs.Prelude.{◌≡◌, ℕ, List, [], map, ◌++◌, bytes_eq, count_by}
use Rattle.std.specs.Global.{Vec}
use Rattle.std.specs.Option.{unwrap_or}
use Rattle.indexmap.specs.IndexMap.{IndexMap, get_by}
use Rattle.vcd_core.specs.Contents.{Contents}
use Rattle.vcd_text.specs.Grammar.{ParseState}
use Rattle.vcd_text.specs.HeardChanges.{skipped_variables}
use Rattle.vcd_text.specs.Meaning.{meaning}
use Rattle.vcd_text.specs.declared.reading.skipped_variables.SkippedVariable.{SkippedVariable}
use Rattle.vcd_compare.specs.Variables.{listed_width, word_declared}
use Rattle.vcd_compare_program.specs.CaptureFacts.{VariableFacts, CaptureFacts, all_shown}
use Rattle.vcd_compare_program.specs.declared.capture_facts.ReportedCapture.{ReportedCapture}
use Rattle.vcd_compare_program.specs.declared.variable_facts.ReportedVariable.{ReportedVariable}
use Rattle.vcd_compare_program.specs.declared.variable_facts.ReportedVariables.{ReportedVariables}

-- a variable
abbrev pub facts_of_variable : ReportedVariable → VariableFacts
facts_of_variable v = record { name = v.name.items; kind = v.kind.items; width = v.width }

-- a capture
abbrev pub facts_of : ReportedCapture → CaptureFacts
facts_of c = record {
  path = c.path.items;
  variables = map facts_of_variable c.variables.items;
  timescale = c.timescale;
  end = c.end;
  left_out = c.left_out;
}

-- what is known of a skipped variable with its full name, by the list of a stream
abbrev pub facts_listed : SkippedVariable → VariableFacts
facts_listed v = record {
  name = v.name;
  kind = v.kind;
  width = listed_width v;
}

-- how often a name was counted
abbrev pub count_in : {S : Type 0} → IndexMap (Vec ℕ) ℕ S → (name : List ℕ) → ℕ
count_in counts name = unwrap_or (get_by (λ key. bytes_eq name key.items) counts) 0

-- these names were counted
abbrev pub HaveCounted : {S : Type 0} → List (List ℕ) → IndexMap (Vec ℕ) ℕ S → Type 0
HaveCounted names counts = (name : List ℕ) → count_in counts name ≡ count_by (bytes_eq name) names

-- these variables are there as they are shown, and their names were counted
pub record AreReported (vs : List VariableFacts) (reported : ReportedVariables) : Type 0 where
  pub shown : map facts_of_variable reported.list.items ≡ all_shown vs
  pub counted : HaveCounted (map (λ v. v.name) vs) reported.counts

-- what a file with this state means, with all variables
abbrev pub meaning_with_all : ParseState → Contents
meaning_with_all s = record (meaning s) {
  signals = (meaning s).signals ++ map word_declared (skipped_variables s.declared);
}
