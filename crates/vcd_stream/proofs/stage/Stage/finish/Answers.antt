use Rattle.std.proofs.Common.{refl}
use Rattle.vcd_stream.specs.Stages.{seen, made_changes, later_changes, last_at_ticks}
use Rattle.vcd_stream.proofs.shared.GoingOn.{all_given, nothing_left}
use Rattle.vcd_stream.proofs.shared.TakenChanges.{last_run}
use Rattle.vcd_stream.proofs.stage.Stage.finish.Goals as goal

pub returns-in-Deglitch : goal.returns-in-Deglitch
unfolding made_changes
returns-in-Deglitch g c =
    let letters = g.V.Letters.letters c.args.width in
    all_given letters _ c.args.self _ c.in-Deglitch.is _ _ _
    (last_run c.in-Deglitch.ticks (seen letters c.in-Deglitch.held)) c.finish_with.ensures

pub returns-in-Replace : goal.returns-in-Replace
unfolding made_changes
returns-in-Replace g c =
    all_given (g.V.Letters.letters c.args.width) _ c.args.self _ c.in-Replace.is _ _ _ refl c.finish_replaced.ensures

pub returns-in-Hide : goal.returns-in-Hide
unfolding made_changes
returns-in-Hide g c =
    all_given (g.V.Letters.letters c.args.width) _ c.args.self _ c.in-Hide.is _ _ _ refl c.finish_hidden.ensures

pub returns-in-OfFile : goal.returns-in-OfFile
unfolding made_changes last_at_ticks
returns-in-OfFile g c =
    all_given (g.V.Letters.letters c.args.width) _ c.args.self _ c.in-OfFile.is _ _ _ refl
    c.finish_with-in-OfFile.ensures

pub returns-in-Invert : goal.returns-in-Invert
unfolding made_changes
returns-in-Invert g c = nothing_left (g.V.Letters.letters c.args.width) _ c.args.self _ c.in-Invert.is refl

pub returns-in-Later : goal.returns-in-Later
unfolding made_changes later_changes
returns-in-Later g c = nothing_left (g.V.Letters.letters c.args.width) _ c.args.self _ c.in-Later.is refl

pub returns-in-Earlier : goal.returns-in-Earlier
unfolding made_changes
returns-in-Earlier g c = nothing_left (g.V.Letters.letters c.args.width) _ c.args.self _ c.in-Earlier.is refl
