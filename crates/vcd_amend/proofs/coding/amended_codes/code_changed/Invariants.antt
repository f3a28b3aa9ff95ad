use Rattle.std.proofs.Common.{◌≡◌, ◌+◌, ℕ, List, length, map, drop}
use Rattle.vcd_text.specs.Grammar.{ParseState}
use Rattle.vcd_amend.specs.AmendmentContents.{code_contents}
use Rattle.vcd_amend.specs.inside.coding.ChangedWaves.{new_waves_of}
use Rattle.vcd_amend.specs.inside.coding.Codes.{HasCodes, KnowsCodes, GetCodes}
use Rattle.vcd_amend.proofs.coding.amended_codes.code_changed.Given as goal

abbrev pub invariant-loop-wave : goal.invariant-loop-wave
invariant-loop-wave l = record {
  codes : (s : ParseState) (taken : List (List ℕ)) → KnowsCodes l.known s → HasCodes l.fn.held taken
      → (after : List (List ℕ)) × HasCodes l.given.taken after
      × GetCodes s (map code_contents l.initial.codes.items) taken 0 (new_waves_of l.changed)
      (map code_contents l.codes.items) after l.given.position (new_waves_of (drop l.wave-index l.changed));
  count : length l.codes.items ≡ length l.initial.codes.items + l.wave-index;
}
