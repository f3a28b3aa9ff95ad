use Rattle.std.proofs.Common.{◌≡◌, Option, Some, List, map, sym, ap, subst, ◌∙◌}
use Rattle.std.specs.Prelude.{option_map}
use Rattle.std.proofs.lemmas.Result.{err_from_is_err_and}
use Rattle.vcd_core.specs.declared.capture.Signal.{Signal}
use Rattle.vcd_core.specs.declared.capture.Capture.{Capture}
use Rattle.vcd_core.specs.declared.capture.TheConstants.{SIGNAL_LIMIT}
use Rattle.vcd_core.specs.Contents.{Contents}
use Rattle.vcd_core.specs.CaptureContents.{contents, signal_contents}
use Rattle.vcd_text.specs.declared.reading.TheConstants.{LONG_FILE_LIMIT}
use Rattle.vcd_amend_run.specs.inside.HeardNames.{hears, HearsAll}
use Rattle.vcd_amend_run.proofs.hearing.HollowParts.{has_hollow, has_other_signals, has_other_end}
use Rattle.vcd_amend_run.proofs.hearing.PartWaves.{outline_stays, hollow_is_sound}
use Rattle.vcd_amend_run.proofs.hearing.read_heard.Goals as goal

pub returns-in_err-loaded-clause-fails : goal.returns-in_err-loaded-clause-fails
returns-in_err-loaded-clause-fails g c =
    let p = err_from_is_err_and c.from_residual-in_err-loaded.result c.from_residual-in_err-loaded.ensures.1 in
    let read = c.in_err-loaded.ensures in
    rw (p.1, p.2)
    (record { refused = read.refused; failed_reader = read.failed; other = read.unfailed })

pub returns-then-end-clause-fails : goal.returns-then-end-clause-fails
returns-then-end-clause-fails g c =
    has_other_end SIGNAL_LIMIT LONG_FILE_LIMIT c.in_ok-names.names
    (g.R.Source.coming c.args.reader.now) c.in_ok-loaded.loaded (contents c.args.outline)
    (λ same. c.if-end.true (c.end.ensures ∙ same ∙ sym c.end-2.ensures)) c.in_ok-loaded.ensures.means

-- the contents of what is read
read_is : (read : Option Capture) (capture : Capture) (all : Option Contents) → option_map contents read ≡ all
    → read ≡ Some capture → all ≡ Some (contents capture)
read_is read capture all is some = sym is ∙ ap (option_map contents) some

pub returns-in-Some-clause-means : goal.returns-in-Some-clause-means
returns-in-Some-clause-means g c =
    has_hollow SIGNAL_LIMIT LONG_FILE_LIMIT c.in_ok-names.names
    (g.R.Source.coming c.args.reader.now) c.in_ok-loaded.loaded (contents c.args.outline)
    (contents c.in-Some.capture) c.args.heard.now
    (subst (λ (ss : List Signal). HearsAll (hears c.in_ok-names.names) c.args.heard.now (map signal_contents ss))
    c.signals.ensures c.in_ok-names.ensures)
    (read_is c.in_ok-capture.field-0 c.in-Some.capture _ c.in_ok-capture.ensures c.in-Some.is)
    c.in_ok-loaded.ensures.means

pub returns-in-Some-clause-outline : goal.returns-in-Some-clause-outline
returns-in-Some-clause-outline g c =
    outline_stays (hears c.in_ok-names.names) (contents c.args.outline) (contents c.in_ok-loaded.loaded.capture)
    (contents c.in-Some.capture)
    (read_is c.in_ok-capture.field-0 c.in-Some.capture _ c.in_ok-capture.ensures c.in-Some.is)

pub returns-in-Some-clause-sound : goal.returns-in-Some-clause-sound
returns-in-Some-clause-sound g c = λ sound.
    hollow_is_sound (hears c.in_ok-names.names) (contents c.args.outline) (contents c.in_ok-loaded.loaded.capture)
    (contents c.in-Some.capture)
    (read_is c.in_ok-capture.field-0 c.in-Some.capture _ c.in_ok-capture.ensures c.in-Some.is)
    (sym c.end.ensures ∙ c.if-end.false ∙ c.end-2.ensures) c.in_ok-loaded.ensures.sound sound

pub returns-clause-fails : goal.returns-clause-fails
returns-clause-fails g c =
    has_other_signals SIGNAL_LIMIT LONG_FILE_LIMIT c.in_ok-names.names
    (g.R.Source.coming c.args.reader.now) c.in_ok-loaded.loaded (contents c.args.outline)
    (sym c.in_ok-capture.ensures ∙ ap (option_map contents) c.in-None.is) c.in_ok-loaded.ensures.means
