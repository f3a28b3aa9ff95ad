use Rattle.std.proofs.Common.{◌≡◌, ◌++◌, refl, sym, subst}
use Rattle.std.proofs.lemmas.Bool.{not-true}
use Rattle.vcd_core.specs.declared.capture.TheConstants.{SIGNAL_LIMIT}
use Rattle.vcd_text.specs.Grammar.{initial_state}
use Rattle.vcd_text.specs.inside.reading.ChangeStream.{heard_by}
use Rattle.vcd_compare.specs.inside.LeftOut.{AreInOrder, HasCounted}
use Rattle.vcd_compare.specs.inside.Side.{at_hand}
use Rattle.vcd_compare.proofs.left_out.HeardOrder.{heard_in_order}
use Rattle.vcd_compare.proofs.shared.HeardParts.{heard_then}
use Rattle.vcd_compare.proofs.side.Chunks.{not-false}
use Rattle.vcd_compare.proofs.side.Side.read_chunk.Goals as goal

pub returns-clause-reads : goal.returns-clause-reads
returns-clause-reads g c coming state given at =
    let heard = given ++ at_hand c.args.self.now in
    let streams = c.in_ok-self.ensures.streamed coming state heard (at.goes_on c.requires.goes_on) in
    let came : c.heard-heard.result.now ≡ heard_by c.read_more.new.self = c.heard-heard.ensures in
    let all = heard_then (initial_state SIGNAL_LIMIT) state streams.later heard (heard_by c.read_more.new.self) at.heard
    streams.heard_now in
    record {
      later = streams.later;
      more = heard_by c.read_more.new.self;
      heard_more = streams.heard_now;
      at = record {
        at = streams.at;
        heard = all;
        goes_on = λ more. streams.goes_on (not-false _ more);
        ended = λ none. streams.ended (not-true _ none);
        counted = subst
            (λ hs. HasCounted (heard ++ hs) c.count_left_out.new.left_out c.count_left_out.new.last_ticks) came
            (c.in_ok-count_left_out.ensures heard (subst (λ hs. AreInOrder (heard ++ hs)) (sym came)
            (heard_in_order streams.later (heard ++ heard_by c.read_more.new.self) all)) at.counted);
      };
      all = refl;
    }
