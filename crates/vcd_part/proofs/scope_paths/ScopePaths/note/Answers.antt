use Rattle.std.proofs.Common.{◌∙◌, refl, sym}
use Rattle.std.proofs.lemmas.Result.{on_ok_weaker}
use Rattle.vcd_part.proofs.scope_paths.NotedPaths.{noted_outside, noted_kept, noted_left, no_scopes}
use Rattle.vcd_part.proofs.scope_paths.NotedPaths.{some_scopes, path_read, both_ok}
use Rattle.vcd_part.proofs.scope_paths.ScopePaths.note.Goals as goal

pub returns-then-is_empty : goal.returns-then-is_empty
returns-then-is_empty c = λ r declared d at same kept.
    noted_outside c.args.self.now c.args.self.now r declared d at
    (no_scopes c.args.scopes.now d same (sym c.if-is_empty.ensures))
    (λ key. refl) (λ key. refl) refl

pub returns-then-is_kept : goal.returns-then-is_kept
returns-then-is_kept c = on_ok_weaker c.add_path.result (λ added r declared d at same kept.
    noted_kept c.args.self.now _ r declared d at c.as_slice-path.result.now (sym kept ∙ c.if-is_kept.true)
    (some_scopes c.args.scopes.now d same (sym c.if-is_empty.ensures))
    (path_read c.as_slice-path.result.now c.args.scopes.now d
    (c.as_slice-path.ensures.value ∙ c.in_ok-read_path.ensures) same)
    added (λ key. refl) refl) c.add_path.ensures

pub returns : goal.returns
returns c = both_ok c.add_name.result c.add_name.ensures.paths c.add_name.ensures.names
    (λ added named r declared d at same kept.
    noted_left c.args.self.now _ r declared d at c.as_slice-path.result.now (sym kept ∙ c.if-is_kept.false)
    (some_scopes c.args.scopes.now d same (sym c.if-is_empty.ensures))
    (path_read c.as_slice-path.result.now c.args.scopes.now d
    (c.as_slice-path.ensures.value ∙ c.in_ok-read_path.ensures) same)
    (λ key. refl) added named)
