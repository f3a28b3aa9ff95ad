use Rattle.std.proofs.Common.{◌≡◌, inl, inr, refl, sym, ap, subst, ◌∙◌, map}
use Rattle.std.specs.Prelude.{◌≤◌, ℕ, IfSome, length}
use Rattle.std.specs.Global.{Vec}
use Rattle.std.proofs.lemmas.Result.{IfOk-at_ok, IfErr-at_err}
use Rattle.vcd_core.specs.Contents.{Contents}
use Rattle.vcd_core.specs.CaptureContents.{contents}
use Rattle.vcd_core.specs.Outline.{without_changes, outline}
use Rattle.vcd_core.proofs.shared.Outlines.{twice, outline_of_outline}
use Rattle.vcd_script.specs.declared.running.script_input.TheConstants.{SCRIPT_LIMIT}
use Rattle.vcd_script.specs.Script.{script_lines}
use Rattle.vcd_script.specs.declared.running.run_error.RunError.TheVariants as run_errors
use Rattle.vcd_amend.specs.DeclaredVariables.{declarations_of}
use Rattle.vcd_core.specs.declared.capture.TheConstants.{SIGNAL_LIMIT}
use Rattle.vcd_text.specs.declared.reading.TheConstants.{LONG_FILE_LIMIT}
use Rattle.vcd_amend_run.specs.FileParts.{HasHollow}
use Rattle.vcd_amend_run.specs.inside.HeardNames.{hears, HearsAll}
use Rattle.vcd_amend_run.specs.inside.Running.{error_of_hearing}
use Rattle.vcd_amend_run.specs.declared.running.AmendRunError.TheVariants as errors
use Rattle.vcd_amend_run.proofs.hollow_reading.HollowSignals.{outline_is_read, hollow_is_read, short_is_read}
use Rattle.vcd_amend_run.proofs.running.PlannedRun.{is_planned, ordered_cuts, sizes_stay, origins_stay, planned_whole}
use Rattle.vcd_amend_run.proofs.running.PlannedRun.{names_by_outlines}
use Rattle.vcd_amend_run.proofs.running.EndsOfRun.{declarations_end, outline_ends, script_ends, memory_ends}
use Rattle.vcd_amend_run.proofs.running.EndsOfRun.{hearing_ends, sizes_end, at_error}
use Rattle.vcd_amend_run.proofs.running.MarkedRun.{lines_of_plan}
use Rattle.vcd_amend_run.proofs.running.make_plan.Goals as goal

pub try_lines-requires-clause-short : goal.try_lines-requires-clause-short
try_lines-requires-clause-short g c =
    rw (c.as_slice-2.ensures.value)
    (IfOk-at_ok (λ (s : Vec ℕ). length s.items ≤ SCRIPT_LIMIT) c.in_ok-script.ensures.script
    c.read_script-found.ensures.short)

pub returns-clause-short : goal.returns-clause-short
returns-clause-short g c =
    IfOk-at_ok (λ (s : Vec ℕ). length s.items ≤ SCRIPT_LIMIT) c.in_ok-script.ensures.script
    c.read_script-found.ensures.short

pub returns-clause-file_short : goal.returns-clause-file_short
returns-clause-file_short g c = short_is_read _ _ _ _ _ _ c.in_ok-read.ensures.means

pub returns-in_err-declared-clause-fails : goal.returns-in_err-declared-clause-fails
returns-in_err-declared-clause-fails g c =
    at_error c.from_residual.result (errors.Run (run_errors.Capture c.in_err-declared.field-0.0)) _
    c.from_residual.ensures.1 (declarations_end _ _ c.in_err-declared.field-0.0 c.in_err-declared.ensures.fails)

pub returns-in_err-expected-clause-fails : goal.returns-in_err-expected-clause-fails
returns-in_err-expected-clause-fails g c =
    at_error c.from_residual-in_err-expected.result (errors.Run (run_errors.NoMemory 0)) _
    c.from_residual-in_err-expected.ensures.1 (memory_ends _ _)

pub returns-in_err-read-clause-fails : goal.returns-in_err-read-clause-fails
returns-in_err-read-clause-fails g c =
    at_error c.from_residual-in_err-read.result (errors.Run (run_errors.Capture c.in_err-read.field-0.0)) _
    c.from_residual-in_err-read.ensures.1
    (outline_ends _ _ c.in_err-read.field-0.0 c.in_err-read.ensures.fails)

pub returns-in_err-script-clause-fails : goal.returns-in_err-script-clause-fails
returns-in_err-script-clause-fails g c =
    at_error c.from_residual-in_err-script.result (errors.Run c.in_err-script.field-0.0) _
    c.from_residual-in_err-script.ensures.1
    (script_ends _ _ c.in_err-script.field-0.0
    (IfErr-at_err _ c.in_err-script.ensures.fault c.read_script-found.ensures.fails))

pub returns-in_err-check_sizes-clause-fails : goal.returns-in_err-check_sizes-clause-fails
returns-in_err-check_sizes-clause-fails g c =
    let read : Contents = contents c.in_ok-read.read.capture in
    let declared = declarations_of c.in_ok-declared.declared.items in
    let differs = rw (c.as_slice.ensures.value) at c.in_err-check_sizes.ensures.changed in
    at_error c.from_residual-in_err-check_sizes.result c.in_err-check_sizes.field-0.0 _
    c.from_residual-in_err-check_sizes.ensures.1
    (sizes_end _ _ declared (outline read) c.in_ok-read.read.skipped c.in_err-check_sizes.field-0.0 (
      differs.0,
      λ sizes. differs.1 (sizes_stay declared (outline read) (outline read) read sizes refl
          (sym (outline_of_outline read))),
    )
    c.in_ok-declared.ensures.declared (outline_is_read _ _ _ _ _ _ c.in_ok-read.ensures.means))

pub returns-in_err-hollow-clause-fails : goal.returns-in_err-hollow-clause-fails
returns-in_err-hollow-clause-fails g c =
    at_error c.from_residual-in_err-hollow.result (errors.Run (run_errors.NoMemory 0)) _
    c.from_residual-in_err-hollow.ensures.1 (memory_ends _ _)

pub returns-in_err-takes-clause-fails : goal.returns-in_err-takes-clause-fails
returns-in_err-takes-clause-fails g c =
    at_error c.from_residual-in_err-takes.result (errors.Run (run_errors.NoMemory 0)) _
    c.from_residual-in_err-takes.ensures.1 (memory_ends _ _)

pub returns-in_err-first-clause-fails : goal.returns-in_err-first-clause-fails
returns-in_err-first-clause-fails g c =
    at_error c.from_residual-in_err-first.result (error_of_hearing c.in_err-first.field-0.0) _
    c.from_residual-in_err-first.ensures.1
    (hearing_ends _ _ (outline (contents c.in_ok-read.read.capture)) (outline (contents c.in_ok-hollow.hollow))
    c.in_ok-read.read.skipped c.in_err-first.field-0.0 (ap outline c.in_ok-hollow.ensures.kept)
    (outline_is_read _ _ _ _ _ _ c.in_ok-read.ensures.means) c.in_err-first.ensures.fails)

pub returns-clause-planned : goal.returns-clause-planned
returns-clause-planned g c file lines shows script_shows =
    let read : Contents = contents c.in_ok-read.read.capture in
    let kept : Contents = contents c.in_ok-hollow.hollow in
    let first : Contents = contents c.in_ok-first.first in
    let declared = declarations_of c.in_ok-declared.declared.items in
    let dry = c.in_ok-hollow.dry in
    let names = rw (c.as_slice-3.ensures.value, c.as_slice-origins.ensures.value) at c.in_ok-takes.ensures
    ∙ names_by_outlines declared dry.origins.items kept.signals (outline read).signals (contents dry.last).signals
    (contents dry.last).signals
    (ap (λ (d : Contents). map without_changes d.signals) c.in_ok-hollow.ensures.kept ∙ sym (twice read.signals)) refl
    in
    let planned = is_planned file lines c.in_ok-script.script.items c.args.depth declared c.in_ok-read.read.skipped
    (outline read) (outline read) first dry c.in_ok-takes.takes in
    let tried = rw (c.as_slice-2.ensures.value) at c.in_ok-hollow.ensures.tried in
    let script = IfOk-at_ok
    (λ (s : Vec ℕ). IfSome (g.S.Source.coming c.args.script_reader.now) (λ bytes. s.items ≡ bytes))
    c.in_ok-script.ensures.script c.read_script-found.ensures.all in
    elim (rw (c.as_slice-heard.ensures.value) at c.in_ok-first.ensures.means) [
      | inl (same, all) ↦ planned _ _ _ _ c.in_ok-declared.ensures.declared
          (outline_is_read _ _ _ _ _ _ c.in_ok-read.ensures.means)
          script tried refl names
          (hollow_is_read _ _ _ _ _ _ first dry.heard.items (same ∙ c.in_ok-hollow.ensures.kept)
          (subst (λ (d : Contents). HearsAll (hears c.in_ok-expected.expected) dry.heard.items d.signals)
          c.in_ok-hollow.ensures.kept all) c.in_ok-read.ensures.means) (shows.0, shows.1, shows.1) script_shows
      | inr hollowed ↦ planned _ _ _ _ c.in_ok-declared.ensures.declared
          (outline_is_read _ _ _ _ _ _ c.in_ok-read.ensures.means)
          script tried refl names
          (subst (λ (d : Contents). IfSome (g.R.Source.coming c.args.passes.now.changes)
          (λ f. (length f ≤ LONG_FILE_LIMIT) × HasHollow SIGNAL_LIMIT f (outline d) dry.heard.items first))
          c.in_ok-hollow.ensures.kept hollowed) (shows.0, shows.1, shows.2) script_shows
    ]

pub returns-clause-lines : goal.returns-clause-lines
returns-clause-lines g c file lines shows script_shows =
    lines_of_plan file lines c.in_ok-script.script.items c.args.depth c.in_ok-read.read.skipped
    (outline (contents c.in_ok-read.read.capture)) c.in_ok-hollow.dry.edit_lines.items _ _
    (outline_is_read _ _ _ _ _ _ c.in_ok-read.ensures.means)
    (IfOk-at_ok (λ (s : Vec ℕ). IfSome (g.S.Source.coming c.args.script_reader.now) (λ bytes. s.items ≡ bytes))
    c.in_ok-script.ensures.script c.read_script-found.ensures.all)
    (rw (c.as_slice-2.ensures.value) at c.in_ok-hollow.ensures.lines) shows.1 script_shows

pub returns-clause-sizes : goal.returns-clause-sizes
returns-clause-sizes g c =
    sizes_stay (declarations_of c.in_ok-declared.declared.items) (contents c.in_ok-read.read.capture)
    (contents c.in_ok-hollow.hollow) (contents c.in_ok-first.first)
    (rw (c.as_slice.ensures.value) at c.in_ok-check_sizes.ensures.sizes) c.in_ok-hollow.ensures.kept
    c.in_ok-first.ensures.outline

pub returns-clause-ordered : goal.returns-clause-ordered
returns-clause-ordered g c =
    ordered_cuts (outline (contents c.in_ok-read.read.capture)) c.in_ok-read.read.skipped c.args.depth
    (script_lines c.in_ok-script.script.items) c.in_ok-hollow.dry
    (rw (c.as_slice-2.ensures.value) at c.in_ok-hollow.ensures.tried)

pub returns-clause-lines_planned : goal.returns-clause-lines_planned
returns-clause-lines_planned g c =
    let read : Contents = contents c.in_ok-read.read.capture in
    planned_whole (outline read) (contents c.in_ok-first.first) c.in_ok-read.read.skipped c.args.depth
    (script_lines c.in_ok-script.script.items) c.in_ok-hollow.dry
    (rw (c.as_slice-2.ensures.value) at c.in_ok-hollow.ensures.tried)
    (outline_of_outline read ∙ sym (ap outline c.in_ok-hollow.ensures.kept) ∙ sym c.in_ok-first.ensures.outline)

pub returns-clause-placed : goal.returns-clause-placed
returns-clause-placed g c =
    let read : Contents = contents c.in_ok-read.read.capture in
    origins_stay (outline read) (outline read) (contents c.in_ok-first.first) c.in_ok-read.read.skipped c.args.depth
    (script_lines c.in_ok-script.script.items) c.in_ok-hollow.dry
    (rw (c.as_slice-2.ensures.value) at c.in_ok-hollow.ensures.tried) refl
    (c.in_ok-first.ensures.outline ∙ ap outline c.in_ok-hollow.ensures.kept ∙ sym (outline_of_outline read))
