-- The signals that a file declares, as the parser has them.
use Rattle.std.specs.Prelude.{List, [], map, take}
use Rattle.vcd_core.specs.Contents.{SignalContents}
use Rattle.vcd_text.specs.declared.reading.declared_signals.Declarations.{Declarations}
use Rattle.vcd_text.specs.declared.reading.variables.Variable.{Variable}
use Rattle.vcd_text.specs.inside.reading.Chains.{chain_at, chains_of}

-- the signals that are declared, in their order
abbrev pub declared_contents : Declarations → List SignalContents
declared_contents d =
    map (λ (v : Variable). record {
      scopes = take v.place.count (chain_at (chains_of d.scopes.now) v.place.chain);
      kind = v.kind;
      words = v.words;
      width = v.wave.width;
      changes = [];
    }) d.kept.now
