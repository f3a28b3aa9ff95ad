-- One pattern after another.
use Rattle.std.proofs.Common.{◌∙◌, ◌++◌, ◌∷◌, [], ap, sym, set, true}
use Rattle.std.specs.List.{list_any}
use Rattle.vcd_core.specs.FullName.{name_bytes}
use Rattle.vcd_part.specs.Pattern.{meets}
use Rattle.vcd_part.proofs.patterns.MetInTurn.{met_up_to, last_passes, last_fails, next_passes, next_fails}
use Rattle.vcd_part.proofs.patterns.MetInTurn.{one_set, one_same, one_more}
use Rattle.vcd_part.proofs.patterns.note_met.Goals as goal
use Rattle.vcd_part.proofs.patterns.note_met.Goals.{then-meets, else-meets}

pub loop-index-preserved : goal.loop-index-preserved
loop-index-preserved c =
    let name = name_bytes c.args.name in
    let k = c.loop-index.index in
    let ps = c.args.patterns.now in
    let more = one_more k in
    elim c.if-meets.branch [
      | then-meets w ↦
          let is = ap (λ p. meets p name) (sym c.as_bytes.ensures.value) ∙ sym w.if-meets.ensures in
          record {
            is_met = w.is_met-is ∙ next_passes (λ p. p.now) (λ p. meets p name) ps k _ c.loop-index-test.true is;
            met = λ names before. w.met-is ∙ w.mark.ensures
                ∙ ap (λ met. set met k true) (c.loop-index.invariant.met names before)
                ∙ one_set (λ p. p.now) (λ p. list_any (meets p) (names ++ name ∷ [])) (λ p. list_any (meets p) names)
                ps k _ c.loop-index-test.true (last_passes (meets _) names name is)
                ∙ ap (met_up_to (λ p. p.now) (λ p. list_any (meets p) (names ++ name ∷ []))
                (λ p. list_any (meets p) names) ps) more;
          }
      | else-meets w ↦
          let is = ap (λ p. meets p name) (sym c.as_bytes.ensures.value) ∙ sym w.if-meets.ensures in
          record {
            is_met = w.is_met-is ∙ c.loop-index.invariant.is_met
                ∙ next_fails (λ p. p.now) (λ p. meets p name) ps k _ c.loop-index-test.true is;
            met = λ names before. w.met-is ∙ c.loop-index.invariant.met names before
                ∙ one_same (λ p. p.now) (λ p. list_any (meets p) (names ++ name ∷ [])) (λ p. list_any (meets p) names)
                ps k _ c.loop-index-test.true (last_fails (meets _) names name is)
                ∙ ap (met_up_to (λ p. p.now) (λ p. list_any (meets p) (names ++ name ∷ []))
                (λ p. list_any (meets p) names) ps) more;
          }
    ]
