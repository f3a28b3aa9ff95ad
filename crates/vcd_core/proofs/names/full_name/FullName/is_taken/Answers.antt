use Rattle.std.proofs.Common.{sym, ◌∙◌, rules, tests}
use Rattle.std.specs.Str.{bytes_eq}
use Rattle.std.proofs.lemmas.Iterator.{YieldsList-from_slice}
use Rattle.std.proofs.lemmas.Iterator.Search.{any_from_yields_List}
use Rattle.vcd_core.specs.CaptureContents.{signal_contents}
use Rattle.vcd_core.specs.Names.{full_name}
use Rattle.vcd_core.specs.FullName.{name_bytes}
use Rattle.vcd_core.proofs.shared.FullNames.{is_one_of_names}
use Rattle.vcd_core.proofs.names.full_name.FullName.is_taken.Goals as goal

pub returns : goal.returns
returns c =
    let name = name_bytes c.args.self.now in
    any_from_yields_List (λ s. bytes_eq name (full_name (signal_contents s))) _ _ _ c.any.ensures.ran
    (YieldsList-from_slice c.args.signals.now cc) (λ s b q k. search (rules, tests))
    ∙ sym (is_one_of_names name c.args.signals.now)
