use Rattle.std.proofs.Common.{refl}
use Rattle.std.proofs.lemmas.List.Elements.{All-nil}
use Rattle.vcd_part.specs.inside.PartCopy.{waiting_from}
use Rattle.vcd_part.proofs.amender.PartAmender.new.Goals as goal

pub returns-clause-seen : goal.returns-clause-seen
unfolding waiting_from
returns-clause-seen c = record {
  known = record {
    noted = c.in_ok-new.ensures;
    uses = c.new-2.ensures.uses c.args.request;
    window = refl;
    refusal = refl;
    tick = refl;
    some = All-nil _;
    holds_none = λ out. c.new-2.ensures.none c.args.request;
    holds = λ w never up. absurd (cc);
  };
  waiting = c.new-3.ensures.items;
  comments = refl;
}
