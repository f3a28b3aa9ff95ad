-- What the words of the command line ask for, and how a run ends that they ask for. The rules are
-- the project's own.
use Rattle.std.specs.Prelude.{◌≡◌, ◌⊎◌, ℕ, ◌^◌, ◌-◌, ◌==◌, ◌||◌, not, true, List, [], ◌∷◌}
use Rattle.std.specs.Prelude.{length, map, take, drop, codes, Option, Some, None, is_some}
use Rattle.std.specs.Prelude.{Result, Err, if◌then◌else◌}
use Rattle.std.specs.List.{prefix_len, list_any}
use Rattle.std.specs.Option.{unwrap_or}
use Rattle.vcd_core.specs.Devices.{DeviceEnd}
use Rattle.vcd_text.specs.declared.fault.Fault.TheVariants as read_faults
use Rattle.vcd_text.specs.declared.fault.ReadError.{ReadError}
use Rattle.vcd_part.specs.Requests.{texts}
use Rattle.vcd_part.specs.Times.{time_asked}
use Rattle.vcd_compare.specs.declared.comparison.CompareError.TheVariants as errors
use Rattle.vcd_compare_program.specs.declared.reporting.Verdict.{Verdict}
use Rattle.vcd_compare_program.specs.declared.reporting.ReportRequest.{ReportRequest}
use Rattle.vcd_compare_program.specs.declared.compare_fault.CompareFault.{CompareFault}
use Rattle.vcd_compare_program.specs.declared.compare_fault.CompareFault.TheVariants as faults
use Rattle.vcd_compare_program.specs.declared.compare_fault.WordFault.{WordFault}
use Rattle.vcd_compare_program.specs.declared.compare_fault.WordFault.TheVariants as words
use Rattle.vcd_compare_program.specs.CommandLine.{AskedOptions}
use Rattle.vcd_compare_program.specs.Reports.{ReportEnds}

-- ---- what the words ask for

-- a map of the text before an equals sign and of what follows: neither name is empty
abbrev pub map_between : (old rest : List ℕ) → Option (List ℕ × List ℕ)
map_between old [] = None
map_between old (c ∷ new) =
    if length old == 0 || length new == 0 then None else Some (old, new)

-- a map as a word writes it: OLD, the first equals sign (61) and NEW
abbrev pub map_of : List ℕ → Option (List ℕ × List ℕ)
map_of word =
    let end : ℕ = prefix_len (λ b. not (b == 61)) word in
    map_between (take end word) (drop end word)

-- the path of a capture
abbrev pub path_asked : Option (List ℕ) → List ℕ
path_asked path = unwrap_or path (codes "-")

-- the request of these options
pub record IsRequest (o : AskedOptions) (r : ReportRequest) : Type 0 where
  pub first : r.first.now ≡ path_asked o.first
  pub second : r.second.now ≡ path_asked o.second
  pub keep : texts r.compared.keep ≡ o.keep
  pub maps : map (λ m. Some (m.old.now, m.new.now)) r.compared.maps.now
      ≡ map map_of (unwrap_or o.maps [])
  pub tolerance : time_asked o.within 0 ≡ Some r.compared.tolerance
  pub from : time_asked o.from 0 ≡ Some r.compared.from
  pub to : time_asked o.to (2 ^ 64 - 1) ≡ Some r.compared.to
  pub is_strict : r.is_strict ≡ o.is_strict
  pub is_json : r.is_json ≡ o.is_json

-- these words are not taken: both captures are standard input; or one is no map, or no time
abbrev pub IsWordFault : AskedOptions → WordFault → Type 0
IsWordFault o words.BothStandard =
    (path_asked o.first ≡ codes "-") × (path_asked o.second ≡ codes "-")
IsWordFault o words.BadMap =
    list_any (λ word. not (is_some (map_of word))) (unwrap_or o.maps []) ≡ true
IsWordFault o words.BadWithin = time_asked o.within 0 ≡ None
IsWordFault o words.BadFrom = time_asked o.from 0 ≡ None
IsWordFault o words.BadTo = time_asked o.to (2 ^ 64 - 1) ≡ None

-- ---- how a run ends

-- a capture could not be opened: a read fault before its first line ends
abbrev pub not_opened : ReadError
not_opened = record { line = 1; fault = read_faults.ReadFault }

-- the outcome of a request: a capture can't be opened; or the report of a run on some devices
abbrev pub IsOutcomeOfRequest : ReportRequest → Result Verdict CompareFault → Type 0
IsOutcomeOfRequest r outcome =
    (outcome ≡ Err (faults.Compare (errors.First not_opened)))
    ⊎ (outcome ≡ Err (faults.Compare (errors.Second not_opened)))
    ⊎ ((first second out : DeviceEnd) × ReportEnds r first second out outcome)

-- the outcome of options: words that are not taken; or no memory; or what they ask for
abbrev pub IsOutcomeOfOptions : AskedOptions → Result Verdict CompareFault → Type 0
IsOutcomeOfOptions o outcome =
    ((fault : WordFault) × IsWordFault o fault × (outcome ≡ Err (faults.Words fault)))
    ⊎ (outcome ≡ Err (faults.Compare errors.NoMemory))
    ⊎ ((r : ReportRequest) × IsRequest o r × IsOutcomeOfRequest r outcome)
