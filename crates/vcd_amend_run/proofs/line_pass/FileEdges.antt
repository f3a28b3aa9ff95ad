-- The changes of lines that are heard of a whole file give the edges of its lines after cuts.
use Rattle.std.proofs.Common.{◌≡◌, ◌≤◌, ◌<◌, ℕ, zero, suc, ◌+◌, Bool, if◌then◌else◌, List, [], ◌∷◌, ◌++◌}
use Rattle.std.proofs.Common.{length, get_or, map, refl, sym, ap, subst, ◌∙◌, arith, inl, inr, Option, Some, None}
use Rattle.std.specs.Prelude.{slice_get, count_by, IfSome}
use Rattle.std.specs.List.{AllByRecursion, enumerate_from}
use Rattle.std.specs.Option.{option_map}
use Rattle.std.proofs.lemmas.Bool.{cases_Bool, cases_lt}
use Rattle.std.proofs.lemmas.List.{get_or-map, length-map}
use Rattle.std.proofs.lemmas.Option.{slice_get-map, slice_get_within, slice_get-get_or, get_or_from_slice_get}
use Rattle.vcd_core.specs.declared.capture.TheConstants.{SIGNAL_LIMIT}
use Rattle.vcd_core.specs.declared.bit.Bit.{Bit}
use Rattle.vcd_core.specs.Contents.{Contents, SignalContents, signal_at, signal_value, no_signal}
use Rattle.vcd_core.specs.Sound.{IsSound}
use Rattle.vcd_core.specs.Value.{letter_at, all_x}
use Rattle.vcd_core.specs.Wave.{AllUpTo, value_at, changes_of}
use Rattle.vcd_core.proofs.shared.Waves.{value_last, value_at-changes_of, changes_end}
use Rattle.vcd_decode.specs.LineEdges.{AreEdgesOf}
use Rattle.vcd_edit.specs.declared.edit.Edit.{Edit}
use Rattle.vcd_edit.specs.Effect.{with_values, signal_bit}
use Rattle.vcd_journal.specs.History.{replay}
use Rattle.vcd_hollow.specs.Cuts.{cuts, tick_before_cuts, CutsFit}
use Rattle.vcd_hollow.proofs.shared.Cuts.{cuts_are_one, cuts_keep_order}
use Rattle.vcd_remarks.specs.DecoderLines.{bit_lines}
use Rattle.vcd_script.specs.CommandSignals.{IsScalarAt}
use Rattle.vcd_text.specs.Grammar.{VariableDeclaration, ParseState, initial_state, kept_variables, is_skipped}
use Rattle.vcd_text.specs.HeardChanges.{HeardChange, AreHeard, FileIsHeard, heard_changes, first_with, is_of_kept}
use Rattle.vcd_text.specs.HeardLaws.{TicksRise}
use Rattle.vcd_text.specs.Meaning.{declared_signal, changes_of_code, meaning}
use Rattle.vcd_text.proofs.shared.HeardMeaning.{heard_give_values, heard_rise}
use Rattle.vcd_text.proofs.shared.ResultIsUnique.{one_meaning}
use Rattle.vcd_text.proofs.shared.SoundMeaning.{meaning_is_sound}
use Rattle.vcd_amend.specs.declared.cut_ticks.CutTicks.{CutTicks}
use Rattle.vcd_decode.specs.LineChanges.{letter_of_line, lines_fed, InOrder}
use Rattle.vcd_decode.specs.inside.EdgeMaker.{edges_left}
use Rattle.vcd_amend_run.specs.inside.dry_running.OriginHistory.{ticks_of_cuts}
use Rattle.vcd_amend_run.specs.inside.FileLines.{tick_moved_by_cuts, is_of_line, changes_of_lines}
use Rattle.vcd_amend_run.specs.inside.FileLines.{changes_of_heard, firsts_of, first_of_line, present}
use Rattle.vcd_amend_run.specs.inside.LinePass.{HasLineEdges}
use Rattle.vcd_amend_run.specs.inside.PassSteps.{MakesEdges, changes_so_far}
use Rattle.vcd_decode.specs.declared.edge_maker.EdgeMaker.{EdgeMaker}
use Rattle.vcd_decode.specs.declared.edge_maker.LineChange.{LineChange}
use Rattle.vcd_amend_run.specs.declared.streamed_line.StreamedLine.{StreamedLine}
use Rattle.vcd_amend_run.proofs.line_pass.CutTicks.{moved_by_cuts, cuts_keep_changes_in_order, within_after_cuts}
use Rattle.vcd_amend_run.proofs.line_pass.CutTicks.{end_before_cuts}
use Rattle.vcd_amend_run.proofs.line_pass.LineLetters.{letters_heard}

-- ---- the order of ticks

in_order_earlier : (early from end : ℕ) (cs : List LineChange) → early ≤ from → InOrder from end cs
    → InOrder early end cs
in_order_earlier early from end [] before order = tt
in_order_earlier early from end (c ∷ cs) before (first, within, rest) = (omega (arith, before, first), within, rest)

-- the changes of lines at a heard change
order_at : (cs : List CutTicks) (h : HeardChange) (from end line : ℕ) (firsts : List (Option ℕ))
    (rest : List LineChange) → from ≤ tick_moved_by_cuts cs h.tick → tick_moved_by_cuts cs h.tick ≤ end
    → InOrder (tick_moved_by_cuts cs h.tick) end rest
    → InOrder from end (changes_of_lines cs firsts line h ++ rest)
unfolding changes_of_lines
order_at cs h from end line [] rest early within order =
    in_order_earlier from (tick_moved_by_cuts cs h.tick) end rest early order
order_at cs h from end line (first ∷ firsts) rest early within order =
    elim (cases_Bool (is_of_line first h.target)) [
      | inl own ↦ rw own (
        early,
        within,
        order_at cs h (tick_moved_by_cuts cs h.tick) end (line + 1) firsts rest (omega arith) within order,
      )
      | inr other ↦ rw other (order_at cs h from end (line + 1) firsts rest early within order)
    ]

rise_bounds : (from to : ℕ) (ts : List ℕ) → TicksRise from to ts → from ≤ to
rise_bounds from to [] rise = rise
rise_bounds from to (t ∷ ts) (first, rise) = let later = rise_bounds t to ts rise in omega (arith, first, later)

order_heard : (cs : List CutTicks) (firsts : List (Option ℕ)) (from to end : ℕ) (hs : List HeardChange)
    → tick_moved_by_cuts cs to ≤ end → TicksRise from to (map (λ (h : HeardChange). h.tick) hs)
    → InOrder (tick_moved_by_cuts cs from) end (changes_of_heard cs firsts hs)
unfolding changes_of_heard
order_heard cs firsts from to end [] within rise = tt
order_heard cs firsts from to end (h ∷ hs) within (first, rise) =
    let last = rise_bounds h.tick to (map (λ (h : HeardChange). h.tick) hs) rise in
    let upto = cuts_keep_changes_in_order cs h.tick to last in
    order_at cs h (tick_moved_by_cuts cs from) end 0 firsts (changes_of_heard cs firsts hs)
    (cuts_keep_changes_in_order cs from h.tick first) (omega (arith, upto, within))
    (order_heard cs firsts h.tick to end hs within rise)

-- ---- signals after cuts

-- the signal at a position after cuts has the values of the ticks before them
module _ (c : Contents) (es : List Edit) (sound : IsSound c) (fit : CutsFit c es) (k : ℕ)
    (within : k < length c.signals) (upto : AllUpTo c.end (signal_at c k).changes) where
  abbrev s : SignalContents
  s = signal_at c k

  abbrev end : ℕ
  end = (replay c es).end

  abbrev before : ℕ → List Bit
  before t = signal_value s (tick_before_cuts es t)

  signal_is : signal_at (replay c (cuts es)) k ≡ with_values end before s
  signal_is =
      ap (λ (d : Contents). signal_at d k) (cuts_are_one c es sound fit)
      ∙ get_or-map (λ (r : SignalContents). with_values end (λ t. signal_value r (tick_before_cuts es t)) r) c.signals k
      no_signal no_signal within

  -- past the end it has its last value
  past_end : (u : ℕ) → end < u → signal_value (with_values end before s) u ≡ before u
  past_end u past =
      let changes = changes_of s.width end before in
      let ends = changes_end s.width end before in
      let one : c.end ≤ tick_before_cuts es end = end_before_cuts c es fit in
      let two : tick_before_cuts es end < tick_before_cuts es u = cuts_keep_order es end u past in
      value_last (all_x s.width) changes end u ends (omega (arith, past))
      ∙ sym (value_last (all_x s.width) changes end end ends (omega arith))
      ∙ value_at-changes_of s.width end end before (omega arith)
      ∙ value_last (all_x s.width) s.changes c.end (tick_before_cuts es end) upto one
      ∙ sym (value_last (all_x s.width) s.changes c.end (tick_before_cuts es u) upto (omega (arith, one, two)))

  pub value_after_cuts : (u : ℕ) → signal_value (signal_at (replay c (cuts es)) k) u ≡ before u
  value_after_cuts u =
      ap (λ (r : SignalContents). signal_value r u) signal_is
      ∙ elim (cases_lt end u) [
        | inl past ↦ past_end u past
        | inr within ↦ value_at-changes_of s.width end u before within
      ]

-- ---- the signals of a file

heard_upto : (size position from to : ℕ) (hs : List HeardChange)
    → TicksRise from to (map (λ (h : HeardChange). h.tick) hs) → AllUpTo to (heard_changes size position hs)
heard_upto size position from to [] rise = tt
heard_upto size position from to (h ∷ hs) (first, rise) =
    elim (cases_Bool (is_of_kept position h.target)) [
      | inl own ↦ rw own (rise_bounds h.tick to _ rise, heard_upto size position h.tick to hs rise)
      | inr other ↦ rw other (heard_upto size position h.tick to hs rise)
    ]

-- also past the end a signal has the value that its heard changes give
value_heard : (state : ParseState) (heard : List HeardChange) → AreHeard (initial_state SIGNAL_LIMIT) state heard
    → (k : ℕ) (d : VariableDeclaration) → slice_get (kept_variables state.declared) k ≡ Some d → (t : ℕ)
    → signal_value (declared_signal state.value_changes state.tick d) t
    ≡ value_at d.size (heard_changes d.size (first_with d.code (kept_variables state.declared)) heard) t
value_heard state heard are k d at t =
    let p = first_with d.code (kept_variables state.declared) in
    let own = value_at d.size (changes_of_code d.size d.code state.value_changes) in
    let listed = (declared_signal state.value_changes state.tick d).changes in
    let upto = heard_upto d.size p 0 state.tick heard (heard_rise (initial_state SIGNAL_LIMIT) state heard are) in
    elim (cases_lt state.tick t) [
      | inl past ↦
          value_last (all_x d.size) listed state.tick t (changes_end d.size state.tick own) (omega (arith, past))
          ∙ sym (value_last (all_x d.size) listed state.tick state.tick (changes_end d.size state.tick own)
          (omega arith))
          ∙ heard_give_values SIGNAL_LIMIT state heard are k state.tick d at (omega arith)
          ∙ value_last (all_x d.size) (heard_changes d.size p heard) state.tick state.tick upto (omega arith)
          ∙ sym (value_last (all_x d.size) (heard_changes d.size p heard) state.tick t upto (omega (arith, past)))
      | inr within ↦ heard_give_values SIGNAL_LIMIT state heard are k t d at within
    ]

-- ---- lines

one_of : {A : Type 0} (P : A → Type 0) (xs : List A) (i : ℕ) (x : A) → AllByRecursion P xs → slice_get xs i ≡ Some x
    → P x
one_of P [] i x all at = absurd (cc at)
one_of P (y ∷ ys) zero x (first, rest) at = let same : y ≡ x = cc at in subst P same first
one_of P (y ∷ ys) (suc i) x (first, rest) at = one_of P ys i x rest at

-- lines whose letters are those of signals of a capture are its lines
line_functions : (d : Contents) (fed : List LineChange) (from : ℕ) (lines : List (Option ℕ))
    → ((i k : ℕ) → slice_get lines i ≡ Some (Some k) → (line : ℕ) → line ≡ from + i → (u : ℕ)
    → letter_of_line line fed u ≡ signal_bit d k 0 u)
    → map (λ (p : ℕ × Bool). if p.1 then Some (letter_of_line p.0 fed) else None) (enumerate_from from (present lines))
    ≡ bit_lines d lines
line_functions d fed from [] own = refl
line_functions d fed from (None ∷ lines) own =
    let rest = line_functions d fed (from + 1) lines (λ i k at line is. own (suc i) k at line (omega (arith, is))) in
    λ j. None ∷ rest j
line_functions d fed from (Some k ∷ lines) own =
    let rest = line_functions d fed (from + 1) lines (λ i k at line is. own (suc i) k at line (omega (arith, is))) in
    λ j. Some (λ u. own 0 k refl from (omega arith) u j) ∷ rest j

module _ (state : ParseState) (heard : List HeardChange) (are : AreHeard (initial_state SIGNAL_LIMIT) state heard)
    (es : List Edit) (sound : IsSound (meaning state)) (fit : CutsFit (meaning state) es) where
  abbrev c : Contents
  c = meaning state

  abbrev kept : List VariableDeclaration
  kept = kept_variables state.declared

  none_declared : VariableDeclaration
  none_declared = record { scopes = []; kind = []; size = 0; code = []; words = [] }

  -- the letter of a line is that of its signal after cuts
  letter_of_signal : (firsts : List (Option ℕ)) (line k : ℕ) (d : VariableDeclaration) → slice_get kept k ≡ Some d
      → d.size ≡ 1 → slice_get firsts line ≡ Some (Some (first_with d.code kept)) → (u : ℕ)
      → letter_of_line line (changes_of_heard (ticks_of_cuts es) firsts heard) u ≡ signal_bit (replay c (cuts es)) k 0 u
  letter_of_signal firsts line k d at one first u =
      let p = first_with d.code kept in
      let w = tick_before_cuts es u in
      let own : signal_at c k ≡ declared_signal state.value_changes state.tick d =
      get_or-map (declared_signal state.value_changes state.tick) kept k d no_signal (slice_get_within kept k d at)
      ∙ ap (declared_signal state.value_changes state.tick) (get_or_from_slice_get kept k d d at) in
      let below : k < length c.signals = omega (
        arith,
        slice_get_within kept k d at,
        length-map kept (declared_signal state.value_changes state.tick),
      ) in
      letters_heard (ticks_of_cuts es) firsts line p u w first (λ t. moved_by_cuts c es t u fit) heard (all_x 1)
      ∙ ap (λ n. letter_at (value_at n (heard_changes n p heard) w) 0) (sym one)
      ∙ ap (λ (v : List Bit). letter_at v 0)
      (sym (value_heard state heard are k d at w)
      ∙ ap (λ (r : SignalContents). signal_value r w) (sym own)
      ∙ sym (value_after_cuts c es sound fit k below
      (subst (λ (r : SignalContents). AllUpTo c.end r.changes) (sym own) (changes_end d.size state.tick _)) u))

  -- the same of a line of the script
  scalar_line : (firsts : List (Option ℕ)) (line k : ℕ) → IsScalarAt c k
      → slice_get firsts line ≡ Some (first_of_line kept (Some k))
      → (u : ℕ) → letter_of_line line (changes_of_heard (ticks_of_cuts es) firsts heard) u
      ≡ signal_bit (replay c (cuts es)) k 0 u
  scalar_line firsts line k (below, one) first =
      let within : k < length kept =
      omega (arith, below, length-map kept (declared_signal state.value_changes state.tick)) in
      let d = get_or kept k none_declared in
      let at : slice_get kept k ≡ Some d = slice_get-get_or kept k none_declared within in
      letter_of_signal firsts line k d at
      (ap (λ (r : SignalContents). r.width) (sym (get_or-map (declared_signal state.value_changes state.tick) kept k
      none_declared no_signal within)) ∙ one)
      (first ∙ ap (λ o. Some (option_map (λ (e : VariableDeclaration). first_with e.code kept) o)) at)

  -- the lines that the changes feed are the signals after cuts
  lines_are : (lines : List (Option ℕ)) → AllByRecursion (λ line. IfSome line (IsScalarAt c)) lines
      → lines_fed (present lines) (changes_of_heard (ticks_of_cuts es) (firsts_of kept lines) heard)
      ≡ bit_lines (replay c (cuts es)) lines
  lines_are lines scalars =
      let firsts = firsts_of kept lines in
      line_functions (replay c (cuts es)) (changes_of_heard (ticks_of_cuts es) firsts heard) 0 lines
      (λ i k at line is.
      let same : line ≡ i = omega (arith, is) in
      let there : slice_get lines line ≡ Some (Some k) = ap (λ (n : ℕ). slice_get lines n) same ∙ at in
      scalar_line firsts line k (one_of (λ o. IfSome o (IsScalarAt c)) lines i (Some k) scalars at)
      (slice_get-map (first_of_line kept) lines line ∙ ap (option_map (first_of_line kept)) there))

  edges_are : (lines : List (Option ℕ)) (first : EdgeMaker) → MakesEdges (present lines) first
      → AllByRecursion (λ line. IfSome line (IsScalarAt c)) lines
      → AreEdgesOf (bit_lines (replay c (cuts es)) lines) (replay c (cuts es)).end
      (edges_left first (changes_of_heard (ticks_of_cuts es) (firsts_of kept lines) heard))
  edges_are lines first makes scalars =
      let cs = ticks_of_cuts es in
      let firsts = firsts_of kept lines in
      let end : ℕ = (replay c (cuts es)).end in
      let end_is : (replay c es).end ≡ end = sym (ap (λ (d : Contents). d.end) (cuts_are_one c es sound fit)) in
      let order = order_heard cs firsts 0 state.tick (replay c es).end heard
      (within_after_cuts c es state.tick fit (omega arith)) (heard_rise (initial_state SIGNAL_LIMIT) state heard are) in
      subst (λ fs. AreEdgesOf fs end (edges_left first (changes_of_heard cs firsts heard))) (lines_are lines scalars)
      (makes end (changes_of_heard cs firsts heard)
      (subst (λ n. InOrder 0 n (changes_of_heard cs firsts heard)) end_is
      (in_order_earlier 0 (tick_moved_by_cuts cs 0) (replay c es).end (changes_of_heard cs firsts heard) (omega arith)
      order)))

-- the changes of the lines in a whole file give the edges of a line of the script
pub file_edges : (file : List ℕ) (state : ParseState) (heard : List HeardChange)
    → FileIsHeard SIGNAL_LIMIT file state heard → (s : StreamedLine) (first : EdgeMaker)
    → MakesEdges (present s.lines) first → HasLineEdges file s (edges_left first (changes_so_far s state heard))
file_edges file state heard f s first makes c skipped es means cuts_are fit scalars =
    let firsts = firsts_of (kept_variables state.declared) s.lines in
    let is : c ≡ meaning state =
    (one_meaning SIGNAL_LIMIT file c (meaning state) skipped (count_by is_skipped state.declared) means
    (record { state = state; accepted = f.accepted; means = refl; left_out = refl })).0 in
    let are : AreHeard (initial_state SIGNAL_LIMIT) state heard = record {
      items = f.accepted.items;
      allowed = f.accepted.allowed;
      state_is = f.accepted.state_is;
      heard_is = f.heard_is;
    } in
    subst (λ (d : Contents). CutsFit d es → AllByRecursion (λ line. IfSome line (IsScalarAt d)) s.lines
    → AreEdgesOf (bit_lines (replay d (cuts es)) s.lines) (replay d (cuts es)).end
    (edges_left first (changes_so_far s state heard))) (sym is)
    (λ fits ones. subst (λ (cs : List CutTicks). AreEdgesOf (bit_lines (replay (meaning state) (cuts es)) s.lines)
    (replay (meaning state) (cuts es)).end (edges_left first (changes_of_heard cs firsts heard))) (sym cuts_are)
    (edges_are state heard are es (meaning_is_sound file state f.accepted) fits s.lines first makes ones))
    fit scalars
