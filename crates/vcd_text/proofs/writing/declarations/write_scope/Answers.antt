-- The keyword, the words and the end are the line.
use Rattle.std.proofs.Common.{[], ◌∷◌, ap, codes}
use Rattle.vcd_text.specs.inside.writing.Lines.{spaced_words}
use Rattle.vcd_text.proofs.shared.EmittedParts.{writes_line, writes_words, writes_as}
use Rattle.vcd_text.proofs.writing.declarations.write_scope.Goals as goal

pub returns : goal.returns
returns g c =
    let name = c.args.name.now in
    writes_line (codes "$scope") (name.kind ∷ name.words) c.write_bytes.ensures.written (writes_words (name.kind
    ∷ []) name.words (writes_as (ap (λ l. spaced_words (l ∷ [])) c.as_slice.ensures) c.write_word.ensures) (writes_as
    (ap spaced_words c.as_slice-2.ensures) c.write_words.ensures)) c.write_end.ensures
