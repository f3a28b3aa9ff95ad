use Rattle.std.proofs.Common.{◌≡◌, ◌⊎◌, ℕ, ◌+◌, List, [], ◌++◌, length, true}
use Rattle.vcd_text.specs.Words.{WordOnLine}
use Rattle.vcd_text.specs.inside.Words.{has_complete_words, ends_before}
use Rattle.vcd_copy.specs.inside.Copying.{HasCopied, HasCopiedUpTo}
use Rattle.vcd_text.specs.inside.reading.Part.{unheard}
use Rattle.vcd_text.specs.inside.reading.Parser.{HasTakenWords}
use Rattle.vcd_text.specs.EmittedText.{Emits, EmitsMore}
use Rattle.vcd_text.specs.declared.writing.output.Output.{Output}
use Rattle.vcd_text.specs.LentWords.{words_left}
use Rattle.vcd_text.specs.LineFeeds.{line_feeds_in}
use Rattle.vcd_copy.proofs.copying.copier.copy_words.Given as goal

abbrev pub invariant-loop-word : goal.invariant-loop-word
invariant-loop-word g l =
    ((came : List WordOnLine) × (words_left l.fn.words ≡ came ++ words_left l.left)
    × ((limit : ℕ) (words_so_far : List WordOnLine) → HasTakenWords limit unheard l.fn.parser words_so_far
    → HasTakenWords limit unheard l.parser (words_so_far ++ came)))
    × (l.left.line_feeds + line_feeds_in l.left.rest.now
    ≡ l.fn.words.line_feeds + line_feeds_in l.fn.words.rest.now)
    × ((done : List ℕ) × (l.fn.words.rest.now ≡ done ++ l.left.rest.now)
    × ((done ≡ []) ⊎ (ends_before true l.left.rest.now ≡ true))
    × ((limit : ℕ) (start : Output g.row.W.Denot) (before : List ℕ)
    → HasCopied limit (g.A.Amender.rules (g.A.Amender.given l.fn.copier.amender.now)) (g.A.Amender.has_seen
    l.fn.copier.amender.now)
    (Emits g.W.Sink start l.fn.copier.output) l.fn.parser l.fn.copier.held.bytes.items l.fn.copier.held.space_len before
    → has_complete_words before ≡ true
    → HasCopiedUpTo g.W.Sink limit (g.A.Amender.rules (g.A.Amender.given l.fn.copier.amender.now))
    (g.A.Amender.has_seen l.copier.amender.now) start l.copier.output
    l.parser l.copier.held l.unwritten.all.now l.unwritten.item.now l.left.rest.now (before ++ done)))
    × (g.A.Amender.given l.copier.amender.now ≡ g.A.Amender.given l.fn.copier.amender.now)
    × EmitsMore g.W.Sink l.fn.copier.output l.copier.output
    × (l.copier.amender.ghost_name ≡ l.fn.copier.amender.ghost_name)

abbrev pub decreases-loop-word : goal.decreases-loop-word
decreases-loop-word g l = length {A = WordOnLine} (words_left l.left)
