use Rattle.std.proofs.Common.{◌∙◌, ◌+◌, ◌-◌, ap, sym, refl, neg_ℤ, w64, FitsSigned, take, rules}
use Rattle.std.proofs.lemmas.Int.{to_z-of_z}
use Rattle.vcd_edit.proofs.exchange.trimming.TrimmedPieces.{found, is_trimmed}
use Rattle.vcd_edit.proofs.exchange.trimming.trim.Goals as goal

pub returns-clause-trimmed : goal.returns-clause-trimmed
returns-clause-trimmed c =
    let p = c.args.piece.now in
    let cs = c.args.changes.now in
    let ns = p.changes.items in
    let range : FitsSigned w64 p.by = search rules in
    let parts = found cs ns p.from p.to p.by (neg_ℤ p.by) refl c.requires.small c.requires.ordered c.requires.within
    c.requires.ticks
    c.common_prefix-prefix.result c.common_suffix-suffix.result _ c.as_slice.result.now c.as_slice-2.result.now
    c.remove_prefix.new.list.items c.truncate.new.self.items
    (to_z-of_z w64 p.by range) c.as_slice.ensures.value c.remove_prefix.ensures.items c.as_slice-2.ensures.value
    c.common_prefix-prefix.ensures.count c.common_suffix-suffix.ensures.count
    (c.truncate.ensures.items
    ∙ ap (λ n. take (n - c.common_suffix-suffix.result) c.remove_prefix.new.list.items) (c.len.ensures
    ∙ sym c.as_slice-2.ensures.len)) in
    is_trimmed cs ns p.from p.to p.by (neg_ℤ p.by) refl c.requires.small c.requires.ordered c.requires.within
    c.requires.ticks
    _ _ refl refl refl refl refl refl (ap (λ n. p.from + n) parts.0) (ap (λ n. p.to - n) parts.1) parts.2
