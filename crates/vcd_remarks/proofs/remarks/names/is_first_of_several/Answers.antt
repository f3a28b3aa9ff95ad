use Rattle.std.proofs.Common.{Bool, ◌+◌, ◌&&◌, not, take, sym, ap, ◌∙◌}
use Rattle.std.specs.List.{list_any}
use Rattle.std.specs.Str.{bytes_eq}
use Rattle.vcd_core.specs.CaptureContents.{contents}
use Rattle.vcd_core.specs.Names.{full_names}
use Rattle.vcd_remarks.proofs.remarks.NamesOfSeveral.{names_before, names_after}
use Rattle.vcd_remarks.proofs.remarks.names.is_first_of_several.Goals as goal

pub returns-then-is_taken : goal.returns-then-is_taken
returns-then-is_taken c =
    let signals = c.args.capture.now.signals in
    let later = sym c.if-is_taken.true ∙ c.is_taken.ensures
    ∙ names_after c.args.name.now _ signals _ (c.args.position + 1) c.signals-signals.ensures c.of_text-name.ensures in
    let earlier = c.is_taken-then-is_taken.ensures
    ∙ names_before c.args.name.now _ signals _ c.args.position c.signals-signals.ensures c.of_text-name.ensures in
    λ i. later i && not (earlier i)

pub returns-else-is_taken : goal.returns-else-is_taken
returns-else-is_taken c =
    let signals = c.args.capture.now.signals in
    let later = sym c.if-is_taken.false ∙ c.is_taken.ensures
    ∙ names_after c.args.name.now _ signals _ (c.args.position + 1) c.signals-signals.ensures c.of_text-name.ensures in
    let names = full_names (contents c.args.capture.now).signals in
    c.if-is_taken.false
    ∙ ap (λ (b : Bool). b && not (list_any (bytes_eq c.args.name.now) (take c.args.position names))) later
