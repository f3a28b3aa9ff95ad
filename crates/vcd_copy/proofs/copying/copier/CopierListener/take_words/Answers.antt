use Rattle.std.proofs.Common.{◌∙◌}
use Rattle.vcd_text.proofs.shared.EmittedParts.{more_both}
use Rattle.vcd_copy.proofs.copying.ended_items.Shown.{both_ok}
use Rattle.vcd_copy.proofs.copying.copier.CopierListener.take_words.Goals as goal

pub copy_words-requires-clause-reading : goal.copy_words-requires-clause-reading
copy_words-requires-clause-reading g c =
    let (limit, start, before, h, ends, can) = c.requires in
    (limit, can)

pub copy_words-requires-clause-copying : goal.copy_words-requires-clause-copying
copy_words-requires-clause-copying g c =
    let (limit, start, before, h, ends, can) = c.requires in
    (limit, start.output, before, rw h.same h.copied, ends.0)

pub returns-clause-words : goal.returns-clause-words
returns-clause-words g c = λ limit start before words_so_far h reads.
    c.copy_words.ensures.words limit words_so_far reads

pub returns-clause-heard : goal.returns-clause-heard
returns-clause-heard g c = both_ok c.copy_words.result c.copy_words.ensures.copied c.copy_words.ensures.same
    (λ copies same limit start before h ends. record {
      same = same ∙ h.same;
      copied = rw h.same at (copies limit start.output before (rw h.same h.copied) ends.0);
    })

pub returns-clause-goes_on : goal.returns-clause-goes_on
returns-clause-goes_on g c = λ start goes. record {
  same_amender = c.copy_words.ensures.same_amender ∙ goes.same_amender;
  more = more_both goes.more c.copy_words.ensures.more;
}
