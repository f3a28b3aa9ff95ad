use Rattle.std.proofs.Common.{◌∙◌}
use Rattle.std.specs.Str.{bytes_eq}
use Rattle.vcd_core.proofs.capture.Lookups.{full_name_is}
use Rattle.vcd_core.proofs.capture.Capture.name_is.Goals as goal

pub returns : goal.returns
returns c =
    let here = rw c.as_slice.ensures at c.index-as_slice-k.is in
    full_name_is c.args.self.now.signals c.args.k c.index-as_slice-k.result c.args.name.now
    c.has_same_bytes.result c.requires here
    (c.has_same_bytes.ensures ∙ (λ i. bytes_eq (c.of_text.ensures i) (c.of.ensures i)))
