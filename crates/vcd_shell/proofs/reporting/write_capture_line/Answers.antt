-- The six pieces, one after another, are the line.
use Rattle.std.proofs.Common.{◌∙◌, subst}
use Rattle.std.specs.Io.KnownBytes.{Appends}
use Rattle.std.proofs.KnownBytes.{Appends-trans}
use Rattle.vcd_shell.proofs.reporting.write_capture_line.Goals as goal

pub returns-clause-line : goal.returns-clause-line
returns-clause-line g c =
    let number = subst (Appends _ _) (c.as_bytes.ensures.value ∙ c.format.ensures.text)
    c.in_ok-write_all-3.ensures.all in
    let name = subst (Appends _ _) (c.as_bytes-2.ensures.value ∙ c.name.ensures) c.in_ok-write_all-5.ensures.all in
    let to_words = Appends-trans _ _ _ _ _ c.in_ok-write_all.ensures.all c.in_ok-write_all-2.ensures.all in
    let to_number = Appends-trans _ _ _ _ _ to_words number in
    let to_colon = Appends-trans _ _ _ _ _ to_number c.in_ok-write_all-4.ensures.all in
    let to_name = Appends-trans _ _ _ _ _ to_colon name in
    Appends-trans _ _ _ _ _ to_name c.in_ok-write_and_flush.ensures.all
