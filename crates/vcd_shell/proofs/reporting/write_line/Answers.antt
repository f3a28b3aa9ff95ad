-- The five pieces, one after another, are the line.
use Rattle.std.proofs.Common.{◌++◌, append_assoc, subst, codes}
use Rattle.std.specs.Io.KnownBytes.{Appends}
use Rattle.std.proofs.KnownBytes.{Appends-trans}
use Rattle.vcd_shell.proofs.reporting.write_line.Goals as goal

pub returns-clause-line : goal.returns-clause-line
returns-clause-line g c =
    let to_colon = Appends-trans _ _ _ _ _ c.in_ok-write_all.ensures.all c.in_ok-write_all-2.ensures.all in
    let to_text = Appends-trans _ _ _ _ _ to_colon c.in_ok-write_all-3.ensures.all in
    let to_more = Appends-trans _ _ _ _ _ to_text c.in_ok-write_all-4.ensures.all in
    let joined = subst (Appends _ _) (append_assoc (c.args.program.now ++ codes ": ") c.args.text.now c.args.more.now)
    to_more in
    Appends-trans _ _ _ _ _ joined c.in_ok-write_and_flush.ensures.all
