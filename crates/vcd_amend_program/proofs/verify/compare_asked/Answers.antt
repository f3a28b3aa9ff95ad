-- The run is the one that the options ask for, with this head of its mark.
use Rattle.std.proofs.Common.{◌∙◌}
use Rattle.vcd_amend_program.specs.CommandLine.{options_in}
use Rattle.vcd_amend_program.proofs.verify.compare_asked.Goals as goal

pub returns-clause-same : goal.returns-clause-same
returns-clause-same g c = λ found. record {
  head = _;
  says =
      found (options_in c.args.options.now) _ (record {
        version = c.head_again-mark.ensures.version;
        name = c.head_again-mark.ensures.name;
        size = c.head_again-mark.ensures.size;
        digest = c.head_again-mark.ensures.digest;
      }) (c.head_again-mark.ensures.part ∙ c.as_slice.ensures.value ∙ c.in_ok-part.ensures.lines);
  run = c.run_of.result;
  asked = c.run_of.ensures.ready.asked;
  headed = c.run_of.ensures.mark;
  part = c.in_ok-compare_job.ensures.part;
  same = c.in_ok-compare_job.ensures.same;
}
