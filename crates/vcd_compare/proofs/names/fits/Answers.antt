use Rattle.std.proofs.Common.{◌≡◌, ◌∙◌, ◌-◌, ◌&&◌, ap, sym, arith, true, length, take, drop, length-drop, Bool}
use Rattle.std.specs.Prelude.{bytes_eq}
use Rattle.std.proofs.lemmas.List.{take_all}
use Rattle.std.proofs.lemmas.Slice.Eq.{bytes_eq-Decides}
use Rattle.vcd_compare.specs.Captures as spec
use Rattle.vcd_compare.proofs.names.fits.Goals as goal

pub returns-then-eq-clause-fits : goal.returns-then-eq-clause-fits
returns-then-eq-clause-fits c =
    let old = c.args.map.now.old.now in
    let name = c.args.name.now in
    let n = length old in
    let same : bytes_eq old (take n name) ≡ true =
    (bytes_eq-Decides old (take n name)).1 (sym ((bytes_eq-Decides (take n name) old).0 (sym c.if-eq.ensures))) in
    c.is_name_end.ensures
    ∙ ap spec.is_name_end (take_all (length name - n) (drop n name) (omega (arith, length-drop n name)))
    ∙ ap (λ (b : Bool). b && spec.is_name_end (drop n name)) (sym same)
