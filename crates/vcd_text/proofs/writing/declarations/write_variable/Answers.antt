-- The keyword, the words and the end are the line.
use Rattle.std.proofs.Common.{[], ◌∷◌, ap, sym, ◌∙◌, codes}
use Rattle.std.specs.Prelude.{decimal}
use Rattle.std.proofs.lemmas.List.{append-nil}
use Rattle.vcd_text.specs.Text.{code_of}
use Rattle.vcd_text.specs.inside.writing.Lines.{spaced_words}
use Rattle.vcd_text.proofs.shared.EmittedParts.{writes_line, writes_words, writes_as, writes_both}
use Rattle.vcd_text.proofs.writing.declarations.write_variable.Goals as goal

pub returns : goal.returns
returns g c =
    let signal = c.args.signal.now in
    let width = decimal signal.wave.width in
    let code = code_of c.args.position in
    let kind = writes_as (ap (λ l. spaced_words (l ∷ [])) c.as_slice.ensures) c.write_word.ensures in
    let size = writes_as (ap (λ l. spaced_words (l ∷ [])) (c.as_bytes.ensures.value ∙ c.format.ensures.text
    ∙ ap decimal c.width.ensures.width)) c.write_word-2.ensures in
    let index = writes_as (ap (λ l. 32 ∷ l) (sym (append-nil code)))
    (writes_both c.write_byte.ensures.written c.write_code.ensures) in
    let words = writes_as (ap spaced_words c.as_slice-2.ensures) c.write_words.ensures in
    writes_line (codes "$var") (signal.kind ∷ width ∷ code ∷ signal.words) c.write_bytes.ensures.written (writes_words
    (signal.kind ∷ width ∷ code ∷ []) signal.words (writes_words (signal.kind ∷ width ∷ []) (code ∷ []) (writes_words
    (signal.kind ∷ []) (width ∷ []) kind size) index) words) c.write_end.ensures
