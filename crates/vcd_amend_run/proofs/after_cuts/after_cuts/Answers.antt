use Rattle.std.proofs.Common.{◌≡◌, ◌∙◌, ◌+◌, ◌<◌, ◌≤◌, ℕ, List, refl, sym, ap, drop, length, arith, get_or}
use Rattle.std.proofs.lemmas.List.{drop_all, drop_more}
use Rattle.vcd_core.specs.CaptureContents.{contents}
use Rattle.vcd_core.specs.Contents.{Contents}
use Rattle.vcd_edit.specs.Effect.{cut_contents}
use Rattle.vcd_amend_run.specs.inside.CaptureAfterCuts.{capture_after_cuts}
use Rattle.vcd_amend.specs.declared.cut_ticks.CutTicks.{CutTicks}
use Rattle.vcd_amend_run.proofs.after_cuts.after_cuts.Goals as goal

-- one cut more is made
one_more : (cuts : List CutTicks) (k : ℕ) (d : CutTicks) (before after : Contents) → k < length cuts →
    let cut : CutTicks = get_or cuts k d in
    after ≡ cut_contents cut.from cut.to before
    → capture_after_cuts after (drop (k + 1) cuts) ≡ capture_after_cuts before (drop k cuts)
unfolding capture_after_cuts
one_more cuts k d before after within made =
    ap (λ (c : Contents). capture_after_cuts c (drop (k + 1) cuts)) made
    ∙ ap (capture_after_cuts before) (sym (drop_more cuts k d within))

none_left : (cuts : List CutTicks) (k : ℕ) (c : Contents) → length cuts ≤ k
    → c ≡ capture_after_cuts c (drop k cuts)
unfolding capture_after_cuts
none_left cuts k c past = sym (ap (capture_after_cuts c) (drop_all k cuts past))

pub loop-cut-init : goal.loop-cut-init
loop-cut-init c = record { made = refl; sound = c.requires }

pub make_cut-requires : goal.make_cut-requires
make_cut-requires c = c.loop-cut.invariant.sound

pub loop-cut-preserved : goal.loop-cut-preserved
loop-cut-preserved c = record {
  made = one_more c.args.cuts.now c.loop-cut.cut-index (record { from = 0; to = 0 }) (contents c.loop-cut.after)
      (contents c.make_cut.new.capture) (omega arith) c.in_ok-make_cut.ensures.made ∙ c.loop-cut.invariant.made;
  sound = c.in_ok-make_cut.ensures.sound;
}

pub returns : goal.returns
returns c =
    none_left c.args.cuts.now c.loop-cut.cut-index (contents c.loop-cut.after) (omega arith)
    ∙ c.loop-cut.invariant.made
