use Rattle.std.proofs.Common.{◌∷◌, ◌++◌, [], refl, ap, ◌∙◌}
use Rattle.vcd_text.specs.declared.reading.parser.OpenItem.TheVariants as items
use Rattle.vcd_text.proofs.reading.declarations.DeclarationWords.{closes_entry}
use Rattle.vcd_text.proofs.reading.parser.Parser.close_entry.Goals as goal

pub returns : goal.returns
returns c =
    let m = c.args.self.now in
    closes_entry m (record m { header = c.push.new.self; entry = c.replace-words.new.dest; item = items.Nothing })
    c.args.kind c.requires (c.in_ok-push.ensures.items ∙ ap (λ ws. m.header.items
    ++ record { kind = c.args.kind; words = ws } ∷ []) (c.in_ok-words.ensures ∙ c.replace-words.ensures.value)) refl
