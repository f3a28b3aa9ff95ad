use Rattle.std.proofs.Common.{◌∙◌, ◌+◌, ap, sym, refl, inl, inr, if◌then◌else◌, Ok, List, ℕ}
use Rattle.std.specs.Prelude.{bytes_eq}
use Rattle.vcd_text.specs.inside.reading.Variables.{target_of, DeclaresAs}
use Rattle.vcd_text.specs.declared.reading.code_targets.CodeTarget.TheVariants.{Skipped}
use Rattle.vcd_text.specs.declared.reading.variables.Variables.{Variables}
use Rattle.vcd_text.proofs.reading.variables.DeclaredVariable.{puts_same, skip_declares, with_skipped}
use Rattle.vcd_text.proofs.reading.variables.Variables.skip.Goals.{in-Undeclared+in_ok-insert-in-Undeclared, in-Skipped}
use Rattle.vcd_text.proofs.reading.variables.Variables.skip.Goals as goal

pub returns : goal.returns
returns c = λ state d k coded skipped.
    let old = c.args.self.now in
    let stood = ap (target_of old) coded ∙ sym c.get.ensures in
    let result = λ (vs : Variables). DeclaresAs state d (Ok tt) (record vs { skipped = vs.skipped + 1 }) in
    elim c.match-get.branch [
      | in-Undeclared+in_ok-insert-in-Undeclared w ↦
          rw w.self-is (skip_declares old w.insert.new.self state d k skipped (inl (stood ∙ w.in-Undeclared.is))
          (λ key. w.in_ok-insert-in-Undeclared.ensures key
          ∙ ap (λ (code : List ℕ). if bytes_eq key code then Skipped else target_of old key) (sym coded)) tt)
      | in-Skipped w ↦
          let had = stood ∙ w.in-Skipped.is in
          rw w.self-is (skip_declares old old.code_targets state d k skipped (inr had)
          (puts_same old (with_skipped old old.code_targets) d.code Skipped refl had) tt)
    ]
