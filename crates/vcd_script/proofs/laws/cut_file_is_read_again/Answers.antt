-- A capture of which only the first ticks are cut out, written and read again.
use Rattle.std.proofs.Common.{◌≡◌, ◌<◌, ◌≤◌, ℕ, ◌-◌, None, refl, sym, ap, subst, ◌∙◌, arith}
use Rattle.std.proofs.lemmas.Bool.{lt-ltb, le-leb}
use Rattle.vcd_core.specs.Contents.{Contents}
use Rattle.vcd_core.specs.Sound.{IsSound}
use Rattle.vcd_core.specs.declared.capture.TheConstants.{SIGNAL_LIMIT}
use Rattle.vcd_text.specs.Text.{text}
use Rattle.vcd_text.proofs.shared.ResultIsUnique.{one_meaning}
use Rattle.vcd_text.proofs.read_back.WholeText.{read_back}
use Rattle.vcd_text.proofs.shared.SoundMeaning.{meaning_is_sound}
use Rattle.vcd_edit.specs.declared.edit.Edit.TheVariants.{Cut}
use Rattle.vcd_edit.specs.Effect.{effect}
use Rattle.vcd_edit.specs.EditFaults.{edit_fault}
use Rattle.vcd_edit.specs.EffectLaws.{value_of}
use Rattle.vcd_edit.proofs.shared.SoundEffects.{effect_is_sound}
use Rattle.vcd_edit.proofs.shared.EffectLaws.{cut_keeps_other_ticks}
use Rattle.vcd_script.specs.FileLaws.{CutFileIsReadAgain}
use Rattle.vcd_script.proofs.laws.cut_file_is_read_again.Goals as goal

-- the first ticks may be cut out
may_cut : (from : ℕ) (c : Contents) → 0 < from → from ≤ c.end → edit_fault (Cut 0 from) c ≡ None
unfolding edit_fault
may_cut from c some ends = rw (lt-ltb 0 from some, le-leb from c.end ends) refl

cut_file_is_read_again : CutFileIsReadAgain
cut_file_is_read_again file c d skipped left_out from k t means some ends again within late upto =
    let sound : IsSound c = subst IsSound (sym means.means) (meaning_is_sound file means.state means.accepted) in
    let written : Contents = effect (Cut 0 from) c in
    let is : d ≡ written = (one_meaning SIGNAL_LIMIT (text written) d written left_out 0 again
    (read_back written (effect_is_sound (Cut 0 from) c sound (may_cut from c some ends)))).0 in
    ap (λ (e : Contents). value_of e k (t - from)) is
    ∙ ap (value_of written k) {x = t - from} {y = t - (from - 0)} (omega arith)
    ∙ (cut_keeps_other_ticks c 0 from k t (omega arith) ends within).1 late upto

pub returns : goal.returns
returns c = cut_file_is_read_again
