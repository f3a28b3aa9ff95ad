use Rattle.std.proofs.Common.{◌≡◌, ◌++◌, map, take}
use Rattle.std.specs.Prelude.{codes}
use Rattle.std.specs.List.{flat_map}
use Rattle.vcd_remarks.specs.NameRemarks.{shown_byte}
use Rattle.vcd_amend_run.proofs.remarks.names.append_others.Given as goal

abbrev pub invariant-loop-name : goal.invariant-loop-name
invariant-loop-name l = l.text.items
    ≡ l.initial.text.items ++ flat_map (λ name. codes ", " ++ map shown_byte name) (take l.name-index l.names)
