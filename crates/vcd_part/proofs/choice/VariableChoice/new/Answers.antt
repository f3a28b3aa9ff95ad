use Rattle.std.proofs.Common.{refl}
use Rattle.vcd_part.proofs.choice.VariableChoice.new.Goals as goal

pub returns : goal.returns
returns c = record {
  keep_is = c.in_ok-new.ensures.patterns;
  remove_is = c.in_ok-new-2.ensures.patterns;
  keep_met = c.in_ok-new.ensures.met;
  remove_met = c.in_ok-new-2.ensures.met;
  kept = refl;
  all = refl;
  scopes = c.new-5.ensures c.args.request;
  removed = c.new-3.ensures.items;
  events = c.new-4.ensures.items;
}
