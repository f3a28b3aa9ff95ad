use Rattle.std.proofs.Common.{◌||◌, ◌∙◌, ap}
use Rattle.std.specs.Prelude.{bytes_eq}
use Rattle.std.specs.List.{list_any}
use Rattle.vcd_part.specs.inside.ScopePaths.{has_path}
use Rattle.vcd_part.proofs.scope_paths.NotedPaths.{put_among}
use Rattle.vcd_part.proofs.scope_paths.put_path.Goals as goal

pub returns : goal.returns
returns c = λ key.
    ap (λ ks. list_any (λ k. bytes_eq key k.items) ks) c.in_ok-insert.ensures.keys
    ∙ put_among c.args.paths.now.keys c.into_vec-copy.result key
    ∙ ap (λ w. bytes_eq key w || has_path c.args.paths.now key)
    (c.into_vec-copy.ensures ∙ c.in_ok-copy_word.ensures)
