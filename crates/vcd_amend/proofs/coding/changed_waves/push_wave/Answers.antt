use Rattle.std.proofs.Common.{◌≡◌, ◌∙◌, ◌++◌, ◌∷◌, [], if◌then◌else◌, length, sym, ap, arith, subst}
use Rattle.std.specs.Prelude.{Some, bytes_eq}
use Rattle.std.proofs.lemmas.List.{length-map, map-append}
use Rattle.vcd_amend.specs.inside.coding.ChangedWaves.{all_contents, changed_contents, ChangedContents, AreChained}
use Rattle.vcd_amend.specs.inside.coding.ChangedWaves.{newest_from, index_in}
use Rattle.vcd_amend.proofs.coding.ChangedWaves.{chained_more, newest_more, index_put}
use Rattle.vcd_amend.proofs.coding.changed_waves.push_wave.Goals as goal

pub returns-clause-leads : goal.returns-clause-leads
returns-clause-leads c =
    let items = c.args.changed.now.waves.items in
    let ws = all_contents items in
    let x : ChangedContents = record {
      code = c.args.code.now;
      width = c.args.new.now.width;
      old = c.args.old.now.changes;
      new = c.args.new.now.changes;
      earlier = c.copied-earlier.result;
    } in
    let all : all_contents c.push.new.self.items ≡ ws ++ x ∷ [] = ap all_contents c.in_ok-push.ensures.items
    ∙ map-append changed_contents items _ in
    let leads : x.earlier ≡ newest_from 0 x.code ws = c.copied-earlier.ensures ∙ c.get.ensures.value
    ∙ c.requires.leads.newest c.args.code.now in
    let key_is : c.into_vec-key.result.items ≡ c.args.code.now = c.into_vec-key.ensures ∙ c.in_ok-copy_word.ensures in
    let last : c.len-index.result ≡ length ws = omega (
      arith,
      length-map items changed_contents,
      c.args.changed.now.waves.ok.0,
      c.len-index.ensures,
    ) in
    record {
      earlier = subst AreChained (sym all) (chained_more ws x c.requires.leads.earlier leads);
      newest = λ key.
          index_put c.args.changed.now.newest c.insert.new.self c.into_vec-key.result c.len-index.result
          c.in_ok-insert.ensures.updates key
          ∙ ap (λ k. if bytes_eq key k then Some c.len-index.result else index_in c.args.changed.now.newest key) key_is
          ∙ ap (λ o. if bytes_eq key c.args.code.now then Some c.len-index.result else o) (c.requires.leads.newest key)
          ∙ ap (λ n. if bytes_eq key c.args.code.now then Some n else newest_from 0 key ws) (omega (arith, last))
          ∙ sym (newest_more 0 key ws x) ∙ ap (newest_from 0 key) (sym all);
    }
