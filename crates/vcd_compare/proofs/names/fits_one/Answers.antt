use Rattle.std.proofs.Common.{◌∙◌, rules, tests}
use Rattle.std.proofs.lemmas.Iterator.{YieldsList-from_slice}
use Rattle.std.proofs.lemmas.Iterator.Search.{any_from_yields_List}
use Rattle.vcd_compare.specs.Captures as spec
use Rattle.vcd_compare.proofs.names.Texts.{any_of_texts}
use Rattle.vcd_compare.proofs.names.fits_one.Goals as goal

pub returns : goal.returns
returns c =
    any_from_yields_List (λ v. spec.fits_map c.args.map.now v.items) _ _ _ c.any.ensures.ran
    (YieldsList-from_slice c.args.names.now cc) (λ s b q k. search (rules, tests))
    ∙ any_of_texts (spec.fits_map c.args.map.now) c.args.names.now
