use Rattle.std.proofs.Common.{◌∷◌, refl}
use Rattle.vcd_core.proofs.shared.FullNames.{bytes_in_none, bytes_in_scope}
use Rattle.vcd_core.proofs.names.full_name.FullName.new.Goals as goal

pub returns-in-empty : goal.returns-in-empty
returns-in-empty c = bytes_in_none c.args.scopes.now c.args.first.now c.args.others.now c.in-empty.len_below

pub returns-in-len1-up : goal.returns-in-len1-up
returns-in-len1-up c =
    bytes_in_scope c.args.scopes.now c.scope-item.result (c.args.first.now ∷ c.args.others.now) _ _ _
    c.in-len1-up.len_at_least c.scope-item.is c.as_slice.ensures c.as_slice-in-len1-up.ensures refl
