use Rattle.std.proofs.Common.{◌≡◌, ◌<◌, ◌++◌, ◌∷◌, [], length, Ok, inl, inr, refl, arith}
use Rattle.vcd_text.specs.inside.reading.Variables.{declaration_in, DeclaresAs}
use Rattle.vcd_text.specs.declared.reading.code_targets.CodeTarget.TheVariants.{Kept}
use Rattle.vcd_text.specs.declared.reading.variables.Variables.{Variables}
use Rattle.vcd_text.proofs.reading.variables.DeclaredVariable.{Puts, puts_same, with_kept, keep_declares}
use Rattle.vcd_text.proofs.reading.variables.Variables.add.Goals.{then-variable-position+in_ok-insert}
use Rattle.vcd_text.proofs.reading.variables.Variables.add.Goals.{else-variable-position}
use Rattle.vcd_text.proofs.reading.variables.Variables.add.Goals as goal

pub returns : goal.returns
returns c = λ state k value_changes keeps.
    let old = c.args.self.now in
    let code = c.args.code.now in
    let v = c.args.variable in
    let list = c.push.new.self in
    let room : length old.kept.items < state.limit =
    omega (arith, c.if-position-self.false, c.len-position.ensures, old.kept.ok.0, k.limit) in
    let declared : Variables → Type 0 = λ vs. list.items ≡ vs.kept.items ++ v ∷ []
    → DeclaresAs state (declaration_in state.scopes code v) (Ok tt) (record vs { kept = list }) in
    let declares : declared c.if-variable-position.self = elim c.if-variable-position.branch [
      | then-variable-position+in_ok-insert w ↦
          let puts : Puts old (with_kept old list w.insert.new.self) code (Kept v.wave.width v.first) =
          λ key. grind arith in
          rw w.self-is (λ items.
          keep_declares old state code v k keeps c.requires.free list w.insert.new.self value_changes
          c.requires.no_changes c.requires.placed items puts room tt)
      | else-variable-position w ↦ elim c.requires.free [
        | inl (none, end) ↦
            absurd (omega (arith, end, w.if-variable-position.false, c.len-position.ensures, old.kept.ok.0))
        | inr had ↦ rw w.self-is (λ items. keep_declares old state code v k keeps
            (inr had) list old.code_targets value_changes c.requires.no_changes c.requires.placed items
            (puts_same old (with_kept old list old.code_targets) code (Kept v.wave.width v.first) refl had) room tt)
      ]
    ] in
    declares c.in_ok-push.ensures.items
