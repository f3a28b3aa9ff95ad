use Rattle.std.proofs.Common.{◌≡◌, ◌+◌, ◌++◌, ℕ, List, length, map, drop}
use Rattle.vcd_core.specs.CaptureContents.{signal_contents}
use Rattle.vcd_text.specs.Grammar.{ParseState}
use Rattle.vcd_amend.specs.AmendmentContents.{code_contents}
use Rattle.vcd_amend.specs.GivenCodes.{derived_new_wave}
use Rattle.vcd_amend.specs.inside.coding.Codes.{KnowsCodes, codes_from}
use Rattle.vcd_amend.proofs.coding.amended_codes.code_derived.Given as goal

abbrev pub invariant-loop-signal : goal.invariant-loop-signal
invariant-loop-signal l = record {
  codes : (s : ParseState) (taken : List (List ℕ)) → KnowsCodes l.known s
      → map code_contents l.initial.codes.items ++ codes_from s taken l.fn.first
      (map derived_new_wave (map signal_contents l.derived))
      ≡ map code_contents l.codes.items ++ codes_from s taken l.position
      (map derived_new_wave (map signal_contents (drop l.signal-index l.derived)));
  count : length l.codes.items ≡ length l.initial.codes.items + l.signal-index;
}
