-- The keyword, the words and the end are the line.
use Rattle.std.proofs.Common.{[], ◌∷◌, sym, ap, ◌∙◌, codes}
use Rattle.std.specs.Prelude.{decimal}
use Rattle.std.specs.List.{flat_map}
use Rattle.std.proofs.lemmas.List.{append-nil}
use Rattle.vcd_core.specs.TimeUnits.{unit_text}
use Rattle.vcd_text.specs.Text.{item_line, timescale_items}
use Rattle.vcd_text.specs.inside.writing.Lines.{spaced_words}
use Rattle.vcd_text.proofs.shared.EmittedParts.{writes_line, writes_words, writes_as}
use Rattle.vcd_text.proofs.writing.declarations.write_timescale.Goals as goal

pub returns-in-Some : goal.returns-in-Some
returns-in-Some g c =
    let count = decimal c.in-Some.timescale.count in
    let unit = unit_text c.in-Some.timescale.unit in
    let first = writes_as (ap (λ l. spaced_words (l ∷ [])) (c.as_bytes.ensures.value ∙ c.format.ensures.text))
    c.write_word.ensures in
    let second = writes_as (ap (λ l. spaced_words (l ∷ [])) (c.as_bytes-in-Some.ensures.value ∙ c.symbol.ensures))
    c.write_word-in-Some.ensures in
    writes_as (sym (append-nil _) ∙ ap (λ o. flat_map item_line (timescale_items o)) (sym c.in-Some.is))
    (writes_line (codes "$timescale") (count ∷ unit ∷ []) c.write_bytes.ensures.written
    (writes_words (count ∷ []) (unit ∷ []) first second) c.write_end.ensures)
