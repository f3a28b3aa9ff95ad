use Rattle.std.proofs.Common.{sym, subst}
use Rattle.std.proofs.lemmas.Result.{IfOk-weaker}
use Rattle.vcd_text.specs.LentWords.{words_left}
use Rattle.vcd_text.specs.inside.reading.Part.{asked_by}
use Rattle.vcd_text.specs.inside.reading.Parser.{HasTakenWords, CanTake, AllWordsResult}
use Rattle.vcd_text.proofs.reading.part_listener.PartListenerListener.take_words.Goals as goal

pub read_words-requires : goal.read_words-requires
read_words-requires g c =
    let (limit, start, before, same, ends, can) = c.requires in (
      limit,
      subst (λ choice. CanTake limit (asked_by g.C.Choice.takes g.C.Choice.ticks choice) c.args.parser.now
          (words_left c.args.words)) (sym same) can,
    )

pub returns-clause-words : goal.returns-clause-words
returns-clause-words g c = λ limit start before words_so_far same reads.
    subst (λ choice. AllWordsResult limit (asked_by g.C.Choice.takes g.C.Choice.ticks choice) words_so_far
    (words_left c.args.words) c.read_words.result c.read_words.new.parser) same
    (c.read_words.ensures.words limit words_so_far (subst (λ choice. HasTakenWords limit
    (asked_by g.C.Choice.takes g.C.Choice.ticks choice) c.args.parser.now words_so_far) (sym same) reads))

pub returns-clause-heard : goal.returns-clause-heard
returns-clause-heard g c = IfOk-weaker c.read_words.result _ _ (λ line_feeds is limit start before same ends. same)
    c.read_words.ensures.line_feeds
