use Rattle.std.proofs.Common.{[], None, false, refl, arith}
use Rattle.vcd_text.proofs.reading.variables.VariablesMatch.{knows_further}
use Rattle.vcd_text.proofs.reading.declarations.DeclarationWords.{tells_nothing}
use Rattle.vcd_core.specs.declared.capture.TheConstants.{END_LIMIT}
use Rattle.std.proofs.lemmas.Bool.{false≢true}
use Rattle.vcd_text.specs.Grammar.{initial_state}
use Rattle.vcd_text.proofs.reading.parser.Parser.new.Goals as goal

pub returns : goal.returns
returns c = λ asked. record {
  items = [];
  whole = [];
  begun = [];
  state = (initial_state c.args.limit);
  parts = refl;
  spelled = refl;
  allowed = tt;
  state_is = refl;
  at = (
    record {
      header = c.new.ensures.items;
      timescale = refl;
      in_body = refl;
      tick = refl;
      seen = [];
      variables = knows_further c.new-2.result (initial_state c.args.limit) [] None false _ (omega arith)
          c.new-2.ensures;
      no_early_tick = λ _. refl;
      no_early_change = λ _. refl;
      none_seen = λ _. refl;
      tells = tells_nothing (record { left_out = c.new-6.result; first = 0; last = END_LIMIT })
          (initial_state c.args.limit) [] refl refl;
      hears = λ late. absurd (false≢true late);
      is_asked = λ late. absurd (false≢true late);
    },
    refl,
  );
}
