-- The cuts in force: the ticks that they take out of a file, and a capture after them.
use Rattle.std.proofs.Common.{◌≡◌, ◌≤◌, ◌||◌, ◌∙◌, ℕ, zero, suc, Bool, true, false, List, [], ◌∷◌, ◌++◌}
use Rattle.std.proofs.Common.{length, map, get_or, refl, sym, ap, subst, arith}
use Rattle.std.specs.Prelude.{All}
use Rattle.std.specs.List.{range_with_len}
use Rattle.std.proofs.Math.Bool.{or-false}
use Rattle.std.proofs.lemmas.List.{length-map}
use Rattle.std.proofs.lemmas.List.Elements.{All-nil, All-cons, All-append}
use Rattle.vcd_core.specs.Contents.{Contents, SignalContents, no_signal}
use Rattle.vcd_text.specs.Grammar.{VariableDeclaration}
use Rattle.vcd_edit.specs.declared.edit.Edit.{Edit}
use Rattle.vcd_edit.specs.declared.edit.Edit.TheVariants.{Cut}
use Rattle.vcd_edit.specs.Effect.{signal_after_cut, cut_contents, effect}
use Rattle.vcd_hollow.specs.OtherWaves.{OtherChanges, with_others}
use Rattle.vcd_journal.specs.History.{replay}
use Rattle.vcd_hollow.specs.Origins.{origins}
use Rattle.vcd_core.specs.SignalOrigins.{RiseWithin, HaveSamePlace}
use Rattle.vcd_hollow.specs.Cuts.{cuts, CutsFit}
use Rattle.vcd_hollow.specs.Hollow.{emptied, hollow, ReadOwn}
use Rattle.vcd_hollow.proofs.shared.Origins.{come_again}
use Rattle.vcd_hollow.proofs.shared.Cuts.{count_after_cuts}
use Rattle.vcd_hollow.proofs.shared.Hollow.{replay_on_hollow}
use Rattle.vcd_amend.specs.DeclaredVariables.{HaveSizesOf}
use Rattle.vcd_amend.specs.Retimed.{new_tick}
use Rattle.vcd_amend.specs.RetimedLaws.{is_in_cut, is_in_either}
use Rattle.vcd_amend.specs.RetimedCopy.{is_cut_by}
use Rattle.vcd_amend_run.specs.EditedText.{is_cut_out_by}
use Rattle.vcd_amend_run.specs.inside.CaptureAfterCuts.{capture_after_cuts}
use Rattle.vcd_amend_run.specs.inside.Running.{IsLaterCapture}
use Rattle.vcd_amend_run.specs.inside.dry_running.OriginHistory.{ticks_of_cuts}
use Rattle.vcd_amend.specs.declared.cut_ticks.CutTicks.{CutTicks}
use Rattle.vcd_amend.proofs.retimed.Ticks.{of_either}
use Rattle.vcd_amend.proofs.retimed.NoCut.{all_stay}

-- ---- the ticks that are cut out

either_of : (a b c : Bool) → (a || (b || c)) ≡ ((a || b) || c)
either_of true b c = refl
either_of false b c = refl

-- with one cut more, which is made last
one_cut_more : (cs : List CutTicks) (cut : CutTicks) (t : ℕ)
    → is_cut_by (cs ++ cut ∷ []) t ≡ is_in_either (is_cut_by cs) (is_in_cut cut.from cut.to) t
unfolding is_cut_by
one_cut_more [] cut t =
    or-false (is_in_cut cut.from cut.to t) ∙ ap (is_in_cut cut.from cut.to) (sym (all_stay t))
one_cut_more (c ∷ cs) cut t =
    let a : Bool = is_in_cut c.from c.to t in
    let u : ℕ = new_tick (is_in_cut c.from c.to) t in
    let b : Bool = is_cut_by cs u in
    ap (λ (rest : Bool). a || rest) (one_cut_more cs cut u)
    ∙ either_of a b (is_in_cut cut.from cut.to (new_tick (is_cut_by cs) u))
    ∙ ap (λ (v : ℕ). (a || b) || is_in_cut cut.from cut.to v)
    (sym (of_either (is_in_cut c.from c.to) (is_cut_by cs) t))

-- they are those of the cuts among edits
pub cut_by_is_cut_out : (es : List Edit) → is_cut_by (ticks_of_cuts es) ≡ is_cut_out_by es
unfolding is_cut_by is_cut_out_by ticks_of_cuts
cut_by_is_cut_out [] = refl
cut_by_is_cut_out (Cut from to ∷ es) = λ i t.
    (one_cut_more (ticks_of_cuts es) (record { from = from; to = to }) t
    ∙ ap (λ (f : ℕ → Bool). is_in_either f (is_in_cut from to) t) (cut_by_is_cut_out es)) i
cut_by_is_cut_out (e ∷ es) = cut_by_is_cut_out es

-- each cut takes ticks out in their order
abbrev pub IsOrdered : CutTicks → Type 0
IsOrdered cut = cut.from ≤ cut.to

pub fitting_are_ordered : (c : Contents) (es : List Edit) → CutsFit c es → All IsOrdered (ticks_of_cuts es)
unfolding CutsFit ticks_of_cuts
fitting_are_ordered c [] fit = All-nil IsOrdered
fitting_are_ordered c (Cut from to ∷ es) fit =
    All-append IsOrdered (ticks_of_cuts es) (record { from = from; to = to } ∷ []) (fitting_are_ordered c es fit.2)
    (All-cons IsOrdered (record { from = from; to = to }) [] (omega (arith, fit.0)) (All-nil IsOrdered))
fitting_are_ordered c (e ∷ es) fit = fitting_are_ordered c es fit

-- ---- a capture after cuts

after_one_more : (c : Contents) (cs : List CutTicks) (cut : CutTicks)
    → capture_after_cuts c (cs ++ cut ∷ []) ≡ cut_contents cut.from cut.to (capture_after_cuts c cs)
unfolding capture_after_cuts
after_one_more c [] cut = refl
after_one_more c (k ∷ cs) cut = after_one_more (cut_contents k.from k.to c) cs cut

pub cuts_are_replayed : (c : Contents) (es : List Edit)
    → capture_after_cuts c (ticks_of_cuts es) ≡ replay c (cuts es)
unfolding capture_after_cuts ticks_of_cuts cuts replay effect
cuts_are_replayed c [] = refl
cuts_are_replayed c (Cut from to ∷ es) =
    after_one_more c (ticks_of_cuts es) (record { from = from; to = to })
    ∙ ap (cut_contents from to) (cuts_are_replayed c es)
cuts_are_replayed c (e ∷ es) = cuts_are_replayed c es

-- the sizes of signals stay
widths_after_cut : (end from to : ℕ) (ss : List SignalContents)
    → map (λ (n : SignalContents). n.width) (map (signal_after_cut end from to) ss)
    ≡ map (λ (n : SignalContents). n.width) ss
widths_after_cut end from to [] = refl
widths_after_cut end from to (s ∷ ss) = ap (λ (sizes : List ℕ). s.width ∷ sizes) (widths_after_cut end from to ss)

pub sizes_after_cuts : (declared : List VariableDeclaration) (c : Contents) (cs : List CutTicks)
    → HaveSizesOf c.signals declared → HaveSizesOf (capture_after_cuts c cs).signals declared
unfolding capture_after_cuts
sizes_after_cuts declared c [] sizes = sizes
sizes_after_cuts declared c (cut ∷ cs) sizes =
    sizes_after_cuts declared (cut_contents cut.from cut.to c) cs
    (widths_after_cut _ cut.from cut.to c.signals ∙ sizes)

-- and their places
place_after_cut : (end from to k : ℕ) (ss : List SignalContents)
    → HaveSamePlace (get_or ss k no_signal) (get_or (map (signal_after_cut end from to) ss) k no_signal)
place_after_cut end from to k [] = (refl, refl, refl)
place_after_cut end from to zero (s ∷ ss) = (refl, refl, refl)
place_after_cut end from to (suc k) (s ∷ ss) = place_after_cut end from to k ss

pub later_after_cuts : (c : Contents) (cs : List CutTicks) (ks : List ℕ) (last : Contents)
    → IsLaterCapture c ks last → IsLaterCapture (capture_after_cuts c cs) ks last
unfolding capture_after_cuts
later_after_cuts c [] ks last later = later
later_after_cuts c (cut ∷ cs) ks last later =
    let d : Contents = cut_contents cut.from cut.to c in
    later_after_cuts d cs ks last (record {
      rising = subst (λ n. RiseWithin 0 n ks) (sym (length-map c.signals (signal_after_cut _ cut.from cut.to)))
          later.rising;
      come = come_again c d (λ k. place_after_cut _ cut.from cut.to k c.signals) ks last.signals later.come;
    })

-- ---- the hollow capture after cuts

cuts_leave_origins : (count : ℕ) (es : List Edit) → origins count (cuts es) ≡ range_with_len 0 count
unfolding origins cuts
cuts_leave_origins count [] = refl
cuts_leave_origins count (Cut from to ∷ es) = cuts_leave_origins count es
cuts_leave_origins count (e ∷ es) = cuts_leave_origins count es

cuts_read_none : (other : ℕ → OtherChanges) (count : ℕ) (es : List Edit) → ReadOwn other count (cuts es)
unfolding ReadOwn cuts
cuts_read_none other count [] = tt
cuts_read_none other count (Cut from to ∷ es) = (tt, cuts_read_none other count es)
cuts_read_none other count (e ∷ es) = cuts_read_none other count es

pub hollow_after_cuts : (silent : ℕ → Bool) (c : Contents) (es : List Edit)
    → replay (hollow silent c) (cuts es) ≡ hollow silent (replay c (cuts es))
hollow_after_cuts silent c es =
    replay_on_hollow silent c (cuts es) (cuts_read_none (emptied silent) (length c.signals) es)
    ∙ ap (λ (ks : List ℕ). with_others (map (emptied silent) ks) (replay c (cuts es)))
    (cuts_leave_origins (length c.signals) es
    ∙ ap (range_with_len 0) (sym (count_after_cuts c es)))
