-- Which signals are taken for the full names of heard signals.
use Rattle.std.specs.Prelude.{◌≡◌, ◌<◌, ℕ, Bool, true, false, List, length, slice_index_or, nat_eq}
use Rattle.std.specs.Prelude.{if◌then◌else◌}
use Rattle.std.specs.HashSet.{contains}
use Rattle.vcd_core.specs.Contents.{SignalContents, no_signal}
use Rattle.vcd_core.specs.Names.{full_name}
use Rattle.vcd_core.specs.Outline.{without_changes}
use Rattle.vcd_text.specs.inside.reading.Part.{Asked, all_ticks}
use Rattle.vcd_amend_run.specs.declared.heard_names.HeardNames.{HeardNames}
use Rattle.vcd_amend_run.specs.inside.NameHash.{name_hash}

-- whether a signal is taken, by the hash of its full name
abbrev pub hears : HeardNames → SignalContents → Bool
hears names s = contains nat_eq names.hashes (name_hash (full_name s))

-- each heard signal is taken
abbrev pub HearsAll : (takes : SignalContents → Bool) → (heard : List Bool) → List SignalContents
    → Type 0
HearsAll takes heard signals = (k : ℕ) → k < length signals → slice_index_or heard k false ≡ true
    → takes (slice_index_or signals k no_signal) ≡ true

-- what is asked for: the signals that are taken, at all ticks
abbrev pub asked_for : HeardNames → Asked
asked_for names = record { takes = hears names; ticks = all_ticks }

-- the signal, without its changes if a test does not take it
abbrev pub hollow_by : (takes : SignalContents → Bool) → SignalContents → SignalContents
hollow_by takes s = if takes s then s else without_changes s
