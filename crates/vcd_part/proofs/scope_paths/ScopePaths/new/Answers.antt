use Rattle.std.proofs.Common.{◌∙◌, ap, sym}
use Rattle.std.specs.Prelude.{bytes_eq}
use Rattle.std.specs.List.{list_any}
use Rattle.vcd_part.specs.PartPieces.{each_once}
use Rattle.vcd_part.proofs.scope_paths.ScopePaths.new.Goals as goal

pub returns : goal.returns
unfolding each_once
returns c = λ r. record {
  kept = λ path. ap (list_any (λ key. bytes_eq path key.items)) c.new.ensures.empty;
  left_out = λ path. ap (list_any (λ key. bytes_eq path key.items)) c.new-2.ensures.empty
      ∙ sym (ap (list_any (bytes_eq path)) c.new-3.ensures.items);
  names = c.new-3.ensures.items;
}
