use Rattle.std.proofs.Common.{map}
use Rattle.std.specs.Prelude.{codes}
use Rattle.std.specs.Fmt.{decimal}
use Rattle.vcd_remarks.specs.NameRemarks.{shown_byte}
use Rattle.vcd_remarks.proofs.remarks.NamesOfSeveral.{six_in_turn}
use Rattle.vcd_remarks.proofs.remarks.names.append_several.Goals as goal

pub returns : goal.returns
returns c =
    six_in_turn c.args.text.now.items c.append_decimal.new.text.items c.extend_from_slice.new.self.items
    c.append_name.new.text.items c.append_meant.new.text.items (decimal c.args.count) (codes " signals are called ")
    (map shown_byte c.args.name.now) (codes ": @") (decimal c.args.position) (codes " is meant")
    c.in_ok-append_decimal.ensures c.in_ok-extend_from_slice.ensures.items c.in_ok-append_name.ensures
    c.in_ok-append_meant.ensures
