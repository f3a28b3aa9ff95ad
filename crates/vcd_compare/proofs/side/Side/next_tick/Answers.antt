use Rattle.std.proofs.Common.{◌*◌, Some, ap, ◌∙◌, sym}
use Rattle.std.specs.Prelude.{slice_get}
use Rattle.vcd_text.specs.HeardChanges.{HeardChange}
use Rattle.vcd_compare.proofs.side.Chunks.{first_tick_at}
use Rattle.vcd_compare.proofs.side.Side.next_tick.Goals as goal

pub returns : goal.returns
returns c =
    let s = c.args.self.now in
    (λ i. Some (c.from.ensures i * c.from-2.ensures i))
    ∙ sym (first_tick_at s.factor s.taken _ _
    (ap (λ hs. slice_get {X = HeardChange} hs s.taken) (sym c.heard-heard.ensures) ∙ c.get.ensures))
