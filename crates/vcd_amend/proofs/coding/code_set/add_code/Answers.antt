use Rattle.std.proofs.Common.{◌||◌, ◌∙◌, ap}
use Rattle.std.specs.Prelude.{bytes_eq}
use Rattle.std.specs.List.{list_any}
use Rattle.vcd_amend.proofs.coding.CodesInTurn.{added}
use Rattle.vcd_amend.specs.inside.coding.Codes.{has_code}
use Rattle.vcd_amend.proofs.coding.code_set.add_code.Goals as goal

pub returns : goal.returns
returns c = λ key.
    let more = added c.args.codes.now.keys c.into_vec-copy.result key in
    ap (λ ks. list_any (λ k. bytes_eq key k.items) ks) c.in_ok-insert.ensures.keys ∙ more
    ∙ ap (λ w. bytes_eq key w || has_code c.args.codes.now key)
    (c.into_vec-copy.ensures ∙ c.in_ok-copy_word.ensures)
