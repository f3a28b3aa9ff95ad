use Rattle.std.proofs.Common.{◌++◌, ◌∙◌, ap, ℕ}
use Rattle.std.specs.Global.{Vec}
use Rattle.std.proofs.lemmas.List.{map-set}
use Rattle.std.proofs.Math.ListN.{set}
use Rattle.vcd_part.specs.inside.FirstValues.{bodies}
use Rattle.vcd_part.proofs.first_values.FirstValues.put.Goals as goal

pub returns : goal.returns
returns c =
    map-set (λ (v : Vec ℕ). v.items) c.args.self.now.values.items c.args.index c.extend_from_slice.new.self
    ∙ ap (set (bodies c.args.self.now) c.args.index) (c.in_ok-extend_from_slice.ensures.items
    ∙ ap (λ l. l ++ c.args.body.now) c.clear.ensures.items)
