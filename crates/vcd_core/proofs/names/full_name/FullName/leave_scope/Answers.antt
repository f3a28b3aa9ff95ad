use Rattle.std.proofs.Common.{◌∷◌, List, ℕ, sym, ap, ◌∙◌}
use Rattle.vcd_core.proofs.shared.FullNames.{bytes_in_none, bytes_in_scope, bytes_drained}
use Rattle.vcd_core.proofs.names.full_name.FullName.leave_scope.Goals as goal

pub returns-in-empty-clause-next : goal.returns-in-empty-clause-next
returns-in-empty-clause-next c =
    let name = c.args.self.now in
    bytes_drained name c.requires c.if-not-self.false
    ∙ ap (λ (bytes : List ℕ). 46 ∷ bytes)
    (sym (bytes_in_none name.scopes.now name.first.now name.others.now c.in-empty.len_below))

pub returns-in-len1-up-clause-next : goal.returns-in-len1-up-clause-next
returns-in-len1-up-clause-next c =
    let name = c.args.self.now in
    bytes_drained name c.requires c.if-not-self.false
    ∙ ap (λ (bytes : List ℕ). 46 ∷ bytes)
    (sym (bytes_in_scope name.scopes.now c.scope-item.result (name.first.now ∷ name.others.now) _ _ _
    c.in-len1-up.len_at_least c.scope-item.is c.requires.text c.as_slice-self.ensures c.if-not-self.false))
