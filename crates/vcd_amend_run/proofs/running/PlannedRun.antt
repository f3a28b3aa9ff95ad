-- What is known of a run before its first reply.
use Rattle.std.proofs.Common.{◌≡◌, ℕ, List, [], ◌∷◌, Option, Some}
use Rattle.std.proofs.Common.{refl, sym, subst, ap, ap₂, ◌∙◌, Bool, false, map, length}
use Rattle.std.specs.Prelude.{All, IfSome, count_by, ◌≤◌}
use Rattle.std.proofs.lemmas.List.{length-map}
use Rattle.vcd_core.specs.declared.capture.TheConstants.{SIGNAL_LIMIT}
use Rattle.vcd_core.specs.Contents.{Contents, SignalContents}
use Rattle.vcd_core.specs.Outline.{without_changes, outline}
use Rattle.vcd_text.specs.Words.{words_of}
use Rattle.vcd_text.specs.Grammar.{ParseState, VariableDeclaration, ValueChange, Accepts, kept_variables, is_skipped}
use Rattle.vcd_text.specs.Meaning.{declared_signal, meaning, FileMeans}
use Rattle.vcd_core.specs.CaptureContents.{contents}
use Rattle.vcd_hollow.proofs.shared.ReplaysWithOthers.{replay_keeps_outlines}
use Rattle.vcd_amend_run.specs.NewNames.{takes_skipped_name}
use Rattle.vcd_amend_run.proofs.new_names.Outlines.{takes_skipped_name_in_outlines}
use Rattle.vcd_amend.specs.DeclaredVariables.{HaveSizesOf}
use Rattle.vcd_edit.specs.declared.edit.Edit.{Edit}
use Rattle.vcd_journal.specs.History.{History, initial_history, replay}
use Rattle.vcd_hollow.specs.Origins.{origins}
use Rattle.vcd_text.proofs.shared.ResultIsUnique.{one_meaning}
use Rattle.vcd_script.specs.Script.{script_lines}
use Rattle.vcd_hollow.specs.HollowRun.{last_edits, last_capture}
use Rattle.vcd_hollow.proofs.shared.HollowRuns.{history_is_of_outline}
use Rattle.vcd_amend_run.specs.inside.StreamedLines.{ArePlanned}
use Rattle.vcd_amend_run.proofs.streamed_lines.Plans.{planned_is_of_outline}
use Rattle.vcd_amend_run.specs.declared.dry_running.DryRun.{DryRun}
use Rattle.vcd_text.specs.declared.reading.TheConstants.{LONG_FILE_LIMIT}
use Rattle.vcd_amend_run.specs.inside.dry_running.OriginHistory.{ticks_of_cuts}
use Rattle.vcd_amend_run.specs.FileParts.{HasOutline, IsHollow, HasHollow}
use Rattle.vcd_amend_run.specs.inside.Running.{IsDryRun, IsPlanned}
use Rattle.vcd_amend_run.proofs.running.CutsInForce.{IsOrdered, fitting_are_ordered}
use Rattle.vcd_hollow.proofs.shared.FittingCuts.{cuts_of_run_fit}

-- ---- before the first reply

pub outline_twice : (c : Contents) → outline (outline c) ≡ outline c
outline_twice c = ap (λ (ss : List SignalContents). record c { signals = ss }) (twice c.signals)
  where
    twice : (ss : List SignalContents) → map without_changes (map without_changes ss) ≡ map without_changes ss
    twice [] = refl
    twice (s ∷ ss) = ap (λ (rest : List SignalContents). without_changes s ∷ rest) (twice ss)

-- what a dry run on the outline finds holds of the whole capture
dry_run_of_whole : (c o : Contents) (skipped depth : ℕ) (lines : List (List ℕ)) (dry : DryRun) → o ≡ outline c
    → IsDryRun o skipped depth lines dry → IsDryRun c skipped depth lines dry
dry_run_of_whole c o skipped depth lines dry is found =
    let same : outline o ≡ outline c = ap outline is ∙ outline_twice c in
    let edits : last_edits o skipped depth lines ≡ last_edits c skipped depth lines =
    ap (λ (h : History). h.edits) (history_is_of_outline o c skipped depth lines (length lines) same) in
    let count : length o.signals ≡ length c.signals =
    ap (λ (d : Contents). length d.signals) is ∙ length-map c.signals without_changes in
    record {
      planned = λ silent takes.
          planned_is_of_outline o c skipped silent 1 (initial_history depth) lines dry.streamed.items same
          (found.planned silent takes);
      origins_are = found.origins_are ∙ ap₂ origins count edits;
      cuts_are = found.cuts_are ∙ ap ticks_of_cuts edits;
      last_is = found.last_is
          ∙ ap (λ (es : List Edit). outline (replay o es)) edits
          ∙ replay_keeps_outlines o c (last_edits c skipped depth lines) same;
    }

-- the lines that it finds are planned for a capture of that outline, of which all is heard
pub planned_whole : (o first : Contents) (skipped depth : ℕ) (lines : List (List ℕ)) (dry : DryRun)
    → IsDryRun o skipped depth lines dry → outline o ≡ outline first
    → ArePlanned first skipped (λ k. false) 1 (initial_history depth) lines dry.streamed.items
planned_whole o first skipped depth lines dry found same =
    planned_is_of_outline o first skipped (λ k. false) 1 (initial_history depth) lines dry.streamed.items same
    (found.planned (λ k. false) (λ k heard. refl))

-- the cuts that it finds take ticks out in their order
pub ordered_cuts : (o : Contents) (skipped depth : ℕ) (lines : List (List ℕ)) (dry : DryRun)
    → IsDryRun o skipped depth lines dry → All IsOrdered dry.cuts.items
ordered_cuts o skipped depth lines dry found =
    subst (All IsOrdered) (sym found.cuts_are)
    (fitting_are_ordered o (last_edits o skipped depth lines) (cuts_of_run_fit o skipped depth lines (length lines)))

-- ---- the sizes of the variables

widths_are : (values : List ValueChange) (end : ℕ) (ds : List VariableDeclaration)
    → map (λ (n : SignalContents). n.width) (map without_changes (map (declared_signal values end) ds))
    ≡ map (λ (d : VariableDeclaration). d.size) ds
widths_are values end [] = refl
widths_are values end (d ∷ ds) = ap (λ (sizes : List ℕ). d.size ∷ sizes) (widths_are values end ds)

-- the outline of what a file means has the sizes of its variables
pub sizes_agree : (file : List ℕ) (declared : List VariableDeclaration) (o : Contents) (skipped : ℕ)
    → ((s : ParseState) → Accepts SIGNAL_LIMIT (words_of file) s → declared ≡ s.declared)
    → HasOutline SIGNAL_LIMIT file o skipped → HaveSizesOf o.signals declared
sizes_agree file declared o skipped variables outlined =
    let s : ParseState = outlined.means.state in
    ap (λ (c : Contents). map (λ (n : SignalContents). n.width) c.signals)
    (outlined.is ∙ ap outline outlined.means.means)
    ∙ widths_are s.value_changes s.tick (kept_variables s.declared)
    ∙ ap (λ (ds : List VariableDeclaration). map (λ (d : VariableDeclaration). d.size) (kept_variables ds))
    (sym (variables s outlined.means.accepted))

-- captures of one outline have the same widths
same_widths : (ss ts : List SignalContents) → map without_changes ss ≡ map without_changes ts
    → map (λ (n : SignalContents). n.width) ss ≡ map (λ (n : SignalContents). n.width) ts
same_widths ss ts same =
    widths_stay ss ∙ ap (λ (us : List SignalContents). map (λ (n : SignalContents). n.width) us) same
    ∙ sym (widths_stay ts)
  where
    widths_stay : (us : List SignalContents) → map (λ (n : SignalContents). n.width) us
        ≡ map (λ (n : SignalContents). n.width) (map without_changes us)
    widths_stay [] = refl
    widths_stay (u ∷ us) = ap (λ (sizes : List ℕ). u.width ∷ sizes) (widths_stay us)

-- the sizes and the origins that were found on the outline hold on what has its changes
pub sizes_stay : (declared : List VariableDeclaration) (o kept first : Contents) → HaveSizesOf o.signals declared
    → kept ≡ o → outline first ≡ outline kept → HaveSizesOf first.signals declared
sizes_stay declared o kept first sizes same again =
    same_widths first.signals o.signals
    (ap (λ (c : Contents). c.signals) (again ∙ ap outline same)) ∙ sizes

pub origins_stay : (o kept first : Contents) (skipped depth : ℕ) (lines : List (List ℕ)) (dry : DryRun)
    → IsDryRun o skipped depth lines dry → kept ≡ o → outline first ≡ outline kept
    → dry.origins.items ≡ origins (length first.signals) (last_edits first skipped depth lines)
origins_stay o kept first skipped depth lines dry found same again =
    let outlines : outline o ≡ outline first = sym (again ∙ ap outline same) in
    found.origins_are
    ∙ ap₂ origins (sym (length-map o.signals without_changes)
    ∙ ap (λ (c : Contents). length c.signals) outlines ∙ length-map first.signals without_changes)
    (ap (λ (h : History). h.edits) (history_is_of_outline o first skipped depth lines (length lines) outlines))

-- names are known from outlines
pub names_by_outlines : (ds : List VariableDeclaration) (os : List ℕ) (ss ts us vs : List SignalContents)
    → map without_changes ss ≡ map without_changes ts → map without_changes us ≡ map without_changes vs
    → takes_skipped_name ds ss os us ≡ takes_skipped_name ds ts os vs
names_by_outlines ds os ss ts us vs firsts lasts =
    sym (takes_skipped_name_in_outlines ds ss os us)
    ∙ (λ i. takes_skipped_name ds (firsts i) os (lasts i)) ∙ takes_skipped_name_in_outlines ds ts os vs

-- whether a name is taken is known of the file, if it is known of the variables that were found
pub names_of_file : (file : List ℕ) (lines : List (List ℕ)) (depth : ℕ) (declared : List VariableDeclaration)
    (skipped : ℕ) (whole : Contents) (ks : List ℕ) (b : Bool) (means : FileMeans SIGNAL_LIMIT file whole skipped)
    → ks ≡ origins (length whole.signals) (last_edits whole skipped depth lines)
    → declared ≡ means.state.declared
    → takes_skipped_name declared whole.signals ks (last_capture whole skipped depth lines).signals ≡ b
    → takes_skipped_name means.state.declared (meaning means.state).signals
    (origins (length (meaning means.state).signals) (last_edits (meaning means.state)
    (count_by is_skipped means.state.declared) depth lines))
    (last_capture (meaning means.state) (count_by is_skipped means.state.declared) depth lines).signals ≡ b
names_of_file file lines depth declared skipped whole ks b means placed variables names =
    let s : ParseState = means.state in
    let Taken : List VariableDeclaration → List ℕ → Contents → ℕ → Type 0 = λ ds os c n.
    takes_skipped_name ds c.signals os (last_capture c n depth lines).signals ≡ b in
    let Placed : Contents → ℕ → Type 0 = λ c n. Taken s.declared
    (origins (length c.signals) (last_edits c n depth lines)) c n in
    subst (Placed (meaning s)) means.left_out
    (subst (λ (c : Contents). Placed c skipped) means.means
    (subst (λ (os : List ℕ). Taken s.declared os whole skipped) placed
    (subst (λ (ds : List VariableDeclaration). Taken ds ks whole skipped) variables names)))

-- the plan of a run
module _ (file lines script : List ℕ) (depth : ℕ) (declared : List VariableDeclaration) (skipped : ℕ)
    (o kept first : Contents) (dry : DryRun) (takes : Bool) where
  -- what the passes found of the file
  known : ((s : ParseState) → Accepts SIGNAL_LIMIT (words_of file) s → declared ≡ s.declared)
      → HasOutline SIGNAL_LIMIT file o skipped → kept ≡ o
      → HasHollow SIGNAL_LIMIT file kept dry.heard.items first
      → IsDryRun o skipped depth (script_lines lines) dry
      → takes ≡ takes_skipped_name declared kept.signals dry.origins.items (contents dry.last).signals
      → IsPlanned file lines depth declared skipped first dry.streamed.items dry.origins.items dry.cuts.items takes
  known variables outlined same hollowed found names =
      let c : Contents = outlined.whole in
      let one : hollowed.whole ≡ c = (one_meaning SIGNAL_LIMIT file hollowed.whole c hollowed.skipped skipped
      hollowed.means outlined.means).0 in
      let heard : IsHollow dry.heard.items c first =
      subst (λ (d : Contents). IsHollow dry.heard.items d first) one
      (hollowed.is (ap outline one ∙ sym outlined.is ∙ sym same)) in
      let dried : IsDryRun c skipped depth (script_lines lines) dry =
      dry_run_of_whole c o skipped depth (script_lines lines) dry outlined.is found in
      record {
        whole = c;
        silent = heard.0;
        means = outlined.means;
        planned = dried.planned heard.0 heard.1;
        hollow_is = heard.2;
        origins_are = dried.origins_are;
        cuts_are = dried.cuts_are;
        variables = variables;
        names = names ∙ names_by_outlines declared dry.origins.items kept.signals c.signals (contents dry.last).signals
            (last_capture c skipped depth (script_lines lines)).signals
            (ap (λ (d : Contents). map without_changes d.signals) (same ∙ outlined.is)
            ∙ ap (λ (d : Contents). d.signals) (outline_twice c))
            (ap (λ (d : Contents). d.signals) dried.last_is);
      }

  pub is_planned : (coming0 coming1 coming2 script_coming : Option (List ℕ))
      → IfSome coming0 (λ f. (s : ParseState) → Accepts SIGNAL_LIMIT (words_of f) s → declared ≡ s.declared)
      → IfSome coming1 (λ f. (length f ≤ LONG_FILE_LIMIT) × HasOutline SIGNAL_LIMIT f o skipped)
      → IfSome script_coming (λ s. script ≡ s) → IsDryRun o skipped depth (script_lines script) dry → kept ≡ o
      → takes ≡ takes_skipped_name declared kept.signals dry.origins.items (contents dry.last).signals
      → IfSome coming2 (λ f. (length f ≤ LONG_FILE_LIMIT) × HasHollow SIGNAL_LIMIT f kept dry.heard.items first)
      → (coming0 ≡ Some file) × (coming1 ≡ Some file) × (coming2 ≡ Some file) → script_coming ≡ Some lines
      → IsPlanned file lines depth declared skipped first dry.streamed.items dry.origins.items dry.cuts.items takes
      × (script ≡ lines)
  is_planned coming0 coming1 coming2 script_coming variables outlined read found same names hollowed shows script_shows
      =
      let is : script ≡ lines = subst (λ coming. IfSome coming (λ s. script ≡ s)) script_shows read in (
        known
            (subst (λ coming. IfSome coming (λ f. (s : ParseState) → Accepts SIGNAL_LIMIT (words_of f) s
            → declared ≡ s.declared)) shows.0 variables)
            (subst (λ coming. IfSome coming (λ f. (length f ≤ LONG_FILE_LIMIT) × HasOutline SIGNAL_LIMIT f o skipped))
            shows.1 outlined).1
            same
            (subst (λ coming. IfSome coming (λ f. (length f ≤ LONG_FILE_LIMIT)
            × HasHollow SIGNAL_LIMIT f kept dry.heard.items first)) shows.2 hollowed).1
            (subst (λ s. IsDryRun o skipped depth (script_lines s) dry) is found)
            names,
        is,
      )
