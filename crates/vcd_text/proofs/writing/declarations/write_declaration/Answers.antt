-- The keyword, the words and the end are the item.
use Rattle.std.proofs.Common.{[], ◌∷◌, codes}
use Rattle.vcd_text.proofs.shared.EmittedParts.{writes_item, writes_words}
use Rattle.vcd_text.proofs.writing.declarations.write_declaration.Goals as goal

pub returns : goal.returns
returns g c =
    let kind = c.args.kind.now in
    let size = c.args.size.now in
    let code = c.args.code.now in
    writes_item (codes "$var") (kind ∷ size ∷ code ∷ c.args.words.now) c.write_bytes.ensures.written
    (writes_words (kind ∷ size ∷ code ∷ []) c.args.words.now (writes_words (kind ∷ size ∷ []) (code ∷ [])
    (writes_words (kind ∷ []) (size ∷ []) c.write_word.ensures c.write_word-2.ensures) c.write_word-3.ensures)
    c.write_words.ensures) c.write_bytes-2.ensures.written
