-- The maps that words of the command line write.
use Rattle.std.specs.Prelude.{◌≡◌, ◌⊎◌, ℕ, not, true, List, map, Some, is_some, codes}
use Rattle.std.specs.List.{list_any}
use Rattle.vcd_compare.specs.declared.comparison.CompareError.TheVariants as errors
use Rattle.vcd_compare.specs.declared.request.NameMap.{NameMap}
use Rattle.vcd_compare_program.specs.declared.compare_fault.CompareFault.{CompareFault}
use Rattle.vcd_compare_program.specs.declared.compare_fault.CompareFault.TheVariants as faults
use Rattle.vcd_compare_program.specs.declared.compare_fault.WordFault.{WordFault}
use Rattle.vcd_compare_program.specs.declared.compare_fault.WordFault.TheVariants as words
use Rattle.vcd_compare_program.specs.declared.reporting.ReportRequest.{ReportRequest}
use Rattle.vcd_compare_program.specs.ProgramEnds.{map_of}

-- these are the maps of words
abbrev pub AreMaps : List (List ℕ) → List NameMap → Type 0
AreMaps written maps = map (λ m. Some (m.old.now, m.new.now)) maps ≡ map map_of written

-- one of the words is no map, or memory ran out
abbrev pub IsFaultOfMaps : List (List ℕ) → CompareFault → Type 0
IsFaultOfMaps written fault =
    ((list_any (λ word. not (is_some (map_of word))) written ≡ true)
    × (fault ≡ faults.Words words.BadMap))
    ⊎ (fault ≡ faults.Compare errors.NoMemory)

-- both captures of a request are standard input
abbrev pub IsBothStandard : ReportRequest → WordFault → Type 0
IsBothStandard r fault = (fault ≡ words.BothStandard) × (r.first.now ≡ codes "-")
    × (r.second.now ≡ codes "-")
