-- Where a change is after cuts, and where a tick was before them.
use Rattle.std.proofs.Common.{◌≡◌, ◌≤◌, ℕ, ◌+◌, ◌-◌, min, if◌then◌else◌, nat_lt, nat_le, List, []}
use Rattle.std.proofs.Common.{◌∷◌, ◌++◌, refl, sym, ap, ◌∙◌, arith, inl, inr}
use Rattle.std.proofs.lemmas.Bool.{cases_Bool, le-leb, leb-true, both_ways}
use Rattle.std.proofs.lemmas.Bool.Decides.{nat_tests}
use Rattle.vcd_core.specs.Contents.{Contents}
use Rattle.vcd_edit.specs.declared.edit.Edit.{Edit}
use Rattle.vcd_edit.specs.declared.edit.Edit.TheVariants.{Cut}
use Rattle.vcd_edit.specs.Effect.{effect}
use Rattle.vcd_journal.specs.History.{replay}
use Rattle.vcd_hollow.specs.Cuts.{tick_before_cuts, CutsFit}
use Rattle.vcd_amend.specs.declared.cut_ticks.CutTicks.{CutTicks}
use Rattle.vcd_amend_run.specs.inside.dry_running.OriginHistory.{ticks_of_cuts}
use Rattle.vcd_amend_run.specs.inside.FileLines.{tick_moved_by_cut, tick_moved_by_cuts}

-- ---- one cut

abbrev before_cut : (from to u : ℕ) → ℕ
before_cut from to u = if nat_lt u from then u else u + (to - from)

comes_before : (from to t u : ℕ) → from ≤ to → min t (from + (t - to)) ≤ u → t ≤ before_cut from to u
comes_before from to t u rises moved = grind (arith, nat_tests)

comes_after : (from to t u : ℕ) → from ≤ to → t ≤ before_cut from to u → min t (from + (t - to)) ≤ u
comes_after from to t u rises before = grind (arith, nat_tests)

-- a change has come after a cut exactly if it had come at the tick before it
moved_test : (from to t u : ℕ) → from ≤ to
    → nat_le (tick_moved_by_cut (record { from = from; to = to }) t) u ≡ nat_le t (before_cut from to u)
moved_test from to t u rises =
    elim (cases_Bool (nat_le t (before_cut from to u))) [
      | inl come ↦ le-leb _ _ (comes_after from to t u rises (leb-true _ _ come)) ∙ sym come
      | inr due ↦ elim (cases_Bool (nat_le (tick_moved_by_cut (record { from = from; to = to }) t) u)) [
        | inl moved ↦
            absurd (both_ways _ due (le-leb _ _ (comes_before from to t u rises (leb-true _ _ moved))))
        | inr also ↦ also ∙ sym due
      ]
    ]

-- ---- all cuts

one_cut_more : (cs : List CutTicks) (c : CutTicks) (t : ℕ)
    → tick_moved_by_cuts (cs ++ c ∷ []) t ≡ tick_moved_by_cut c (tick_moved_by_cuts cs t)
unfolding tick_moved_by_cuts
one_cut_more [] c t = refl
one_cut_more (b ∷ cs) c t = one_cut_more cs c (tick_moved_by_cut b t)

-- the same of all cuts among edits
pub moved_by_cuts : (c : Contents) (es : List Edit) (t u : ℕ) → CutsFit c es
    → nat_le (tick_moved_by_cuts (ticks_of_cuts es) t) u ≡ nat_le t (tick_before_cuts es u)
unfolding ticks_of_cuts tick_before_cuts CutsFit tick_moved_by_cuts
moved_by_cuts c [] t u fit = refl
moved_by_cuts c (Cut from to ∷ es) t u fit =
    ap (λ n. nat_le n u) (one_cut_more (ticks_of_cuts es) (record { from = from; to = to }) t)
    ∙ moved_test from to (tick_moved_by_cuts (ticks_of_cuts es) t) u (omega (arith, fit.0))
    ∙ moved_by_cuts c es t (before_cut from to u) fit.2
moved_by_cuts c (e ∷ es) t u fit = moved_by_cuts c es t u fit

-- cuts keep the order of changes
pub cuts_keep_changes_in_order : (cs : List CutTicks) (t u : ℕ) → t ≤ u
    → tick_moved_by_cuts cs t ≤ tick_moved_by_cuts cs u
unfolding tick_moved_by_cuts
cuts_keep_changes_in_order [] t u before = before
cuts_keep_changes_in_order (c ∷ cs) t u before =
    cuts_keep_changes_in_order cs (tick_moved_by_cut c t) (tick_moved_by_cut c u) (omega (arith, before))

-- no change is past the end after cuts
pub within_after_cuts : (c : Contents) (es : List Edit) (t : ℕ) → CutsFit c es → t ≤ c.end
    → tick_moved_by_cuts (ticks_of_cuts es) t ≤ (replay c es).end
unfolding ticks_of_cuts CutsFit tick_moved_by_cuts replay effect
within_after_cuts c [] t fit within = within
within_after_cuts c (Cut from to ∷ es) t fit within =
    let before = within_after_cuts c es t fit.2 within in
    rw (one_cut_more (ticks_of_cuts es) (record { from = from; to = to }) t)
    (omega (arith, before, fit.0, fit.1))
within_after_cuts c (e ∷ es) t fit within = within_after_cuts c es t fit within

-- the end was before the cuts at or past their end
pub end_before_cuts : (c : Contents) (es : List Edit) → CutsFit c es
    → c.end ≤ tick_before_cuts es (replay c es).end
end_before_cuts c es fit =
    leb-true _ _ (sym (moved_by_cuts c es c.end (replay c es).end fit)
    ∙ le-leb _ _ (within_after_cuts c es c.end fit (omega arith)))
