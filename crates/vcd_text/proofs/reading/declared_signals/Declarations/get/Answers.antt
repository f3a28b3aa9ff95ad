use Rattle.std.proofs.Common.{arith}
use Rattle.std.proofs.lemmas.Option.{slice_get-get_or, slice_get-map}
use Rattle.std.proofs.lemmas.List.{length-map}
use Rattle.vcd_text.proofs.reading.declared_signals.Declarations.get.Goals as goal

pub at-requires : goal.at-requires
at-requires c =
    let d = c.args.self.now in
    d.placed c.args.position _ (slice_get-get_or d.kept.now c.args.position c.index-self-position.result
    (grind (arith, length-map)))

pub returns : goal.returns
returns c = grind (arith, slice_get-get_or, slice_get-map, length-map)
