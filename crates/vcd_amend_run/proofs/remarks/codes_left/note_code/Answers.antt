-- The code of one key has one more code.
use Rattle.std.proofs.Common.{◌≡◌, ◌∙◌, ◌||◌, not, ℕ, Bool, false, List, inl, inr, sym, ap, if◌then◌else◌}
use Rattle.std.specs.Prelude.{bytes_eq}
use Rattle.std.proofs.Math.Bool.{or-false}
use Rattle.std.proofs.lemmas.Bool.{cases_Bool}
use Rattle.std.proofs.lemmas.Result.{on_ok_weaker}
use Rattle.vcd_text.specs.inside.reading.CodeTargets.{code_target}
use Rattle.vcd_text.specs.declared.reading.code_targets.CodeTargets.{CodeTargets}
use Rattle.vcd_amend_run.specs.declared.remarks.codes_left.CodesLeft.{CodesLeft}
use Rattle.vcd_amend_run.specs.inside.OutputRemarks.{other_is_left}
use Rattle.vcd_amend.proofs.amended.OneCode.{same_bytes}
use Rattle.vcd_amend_run.proofs.remarks.codes_left.note_code.Goals as goal

-- the target that a key gets has one more code, if it is the key
one_more : (codes : CodeTargets CodesLeft) (new : CodesLeft) (key own code other : List ℕ)
    → other_is_left new other ≡ (other_is_left (code_target codes own) other || not (bytes_eq code other))
    → other_is_left (if bytes_eq key own then new else code_target codes key) other
    ≡ (other_is_left (code_target codes key) other
    || (if bytes_eq key own then not (bytes_eq code other) else false))
one_more codes new key own code other is = elim (cases_Bool (bytes_eq key own)) [
  | inl same ↦
      ap (λ (b : Bool). other_is_left (if b then new else code_target codes key) other) same ∙ is
      ∙ ap (λ k. other_is_left (code_target codes k) other || not (bytes_eq code other))
      (sym (same_bytes key own same))
      ∙ ap (λ (b : Bool). other_is_left (code_target codes key) other
      || (if b then not (bytes_eq code other) else false)) (sym same)
  | inr apart ↦
      ap (λ (b : Bool). other_is_left (if b then new else code_target codes key) other) apart
      ∙ sym (or-false (other_is_left (code_target codes key) other))
      ∙ ap (λ (b : Bool). other_is_left (code_target codes key) other
      || (if b then not (bytes_eq code other) else false)) (sym apart)
]

pub returns : goal.returns
returns c = on_ok_weaker c.insert.result
    (λ put key other. ap (λ (t : CodesLeft). other_is_left t other) (put key)
    ∙ one_more c.args.codes.now c.with_code-left.result key c.args.own.now c.args.code.now other
    (c.with_code-left.ensures other
    ∙ ap (λ (t : CodesLeft). other_is_left t other || not (bytes_eq c.args.code.now other)) c.get.ensures))
    c.insert.ensures
