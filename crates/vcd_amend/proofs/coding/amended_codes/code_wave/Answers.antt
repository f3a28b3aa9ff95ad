use Rattle.std.proofs.Common.{◌≡◌, ◌∷◌, ◌∙◌, ◌||◌, true, false, map, refl, sym, ap}
use Rattle.std.specs.Prelude.{bytes_eq}
use Rattle.vcd_core.specs.Word.{is_one_of}
use Rattle.vcd_amend.specs.AmendmentContents.{code_contents}
use Rattle.vcd_amend.specs.inside.coding.ChangedWaves.{changed_contents, as_new_wave}
use Rattle.vcd_amend.proofs.coding.CodesInTurn.{get_own, get_fresh}
use Rattle.vcd_amend.proofs.coding.amended_codes.code_wave.Goals as goal

pub returns-then-has_code-clause-codes : goal.returns-then-has_code-clause-codes
returns-then-has_code-clause-codes c = λ s before knows has.
    let code = c.args.wave.now.code.now in
    let there : is_one_of before code ≡ true = sym (has code) ∙ sym c.has_code.ensures ∙ c.if-has_code.true in (
      before,
      has,
      get_fresh s (map code_contents c.args.codes.now.items) (map code_contents c.code_fresh.new.codes.items) before
          c.args.given.now.position (as_new_wave (changed_contents c.args.wave.now)) code refl c.in_ok-next.next there
          (c.in_ok-next.ensures.codes s knows) (c.in_ok-next.ensures.next s knows),
    )

pub returns-clause-codes : goal.returns-clause-codes
returns-clause-codes c = λ s before knows has.
    let code = c.args.wave.now.code.now in
    let free : is_one_of before code ≡ false = sym (has code) ∙ sym c.has_code.ensures ∙ c.if-has_code.false in (
      code ∷ before,
      λ key. c.in_ok-add_code.ensures key ∙ ap (λ b. bytes_eq key code || b) (has key),
      get_own s (map code_contents c.args.codes.now.items) (map code_contents c.push_own.new.codes.items) before
          c.args.given.now.position (as_new_wave (changed_contents c.args.wave.now)) code refl free
          c.in_ok-push_own.ensures,
    )
