use Rattle.std.proofs.Common.{sym, ap, ◌∙◌, inr}
use Rattle.vcd_text.specs.Items.{timescale_of}
use Rattle.vcd_text.proofs.reading.declarations.DeclarationWords.{closes_timescale, shows_no_timescale}
use Rattle.vcd_text.proofs.reading.parser.Parser.close_timescale.Goals as goal

pub returns-in-Some : goal.returns-in-Some
returns-in-Some c = closes_timescale c.args.self.now c.in-Some.timescale c.requires
    (ap timescale_of (sym c.deref.ensures.value) ∙ c.in_ok-timescale.ensures ∙ c.in-Some.is)

pub returns-in-None : goal.returns-in-None
returns-in-None c = λ line part d begun at. inr (shows_no_timescale c.args.self.now c.requires
    (ap timescale_of (sym c.deref.ensures.value) ∙ c.in_ok-timescale.ensures ∙ c.in-None.is) part d begun at)
