-- What a file declares of its variables and signals: all but their changes.
use Rattle.std.specs.Prelude.{ℕ, List, []}
use Rattle.vcd_core.specs.Contents.{SignalContents}
use Rattle.vcd_core.specs.Names.{name_in}
use Rattle.vcd_text.specs.Grammar.{VariableDeclaration}
use Rattle.vcd_text.specs.declared.reading.declared_signals.DeclaredSignal.{DeclaredSignal}

-- the full name of a variable
abbrev pub declared_name : VariableDeclaration → List ℕ
declared_name d = name_in d.scopes d.words

-- a signal as it is declared
abbrev pub signal_declared : DeclaredSignal → SignalContents
signal_declared d = record {
  scopes = d.scopes.now;
  kind = d.kind.now;
  words = d.words.now;
  width = d.width;
  changes = [];
}
