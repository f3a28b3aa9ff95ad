use Rattle.std.proofs.Common.{sym, ◌∙◌}
use Rattle.vcd_stream.proofs.shared.Giving.{left_out, put_out}
use Rattle.vcd_stream.proofs.stage.give.Goals as goal

pub returns-then-has_letters_of : goal.returns-then-has_letters_of
returns-then-has_letters_of g c =
    left_out (g.V.Letters.letters c.args.last.width) c.args.out.now.items c.args.last.value c.args.change
    (sym c.has_letters_of.ensures ∙ c.if-has_letters_of.true)

pub returns : goal.returns
returns g c =
    put_out (g.V.Letters.letters c.args.last.width) c.args.out.now.items c.args.last.value c.args.change _
    (sym c.has_letters_of.ensures ∙ c.if-has_letters_of.false) c.in_ok-push.ensures.items
