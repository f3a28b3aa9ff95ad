use Rattle.std.proofs.Common.{◌≡◌, ◌∙◌, ◌||◌, ◌&&◌, Bool, true, false, refl, sym, ap, List, ℕ, if◌then◌else◌}
use Rattle.std.specs.Prelude.{bytes_eq}
use Rattle.vcd_amend.proofs.amended.OneCode.{same_bytes}
use Rattle.vcd_text.specs.inside.reading.CodeTargets.{code_target}
use Rattle.vcd_amend.specs.declared.amending.cut_amender.CodeVariables.{CodeVariables}
use Rattle.vcd_amend.proofs.amending.cut_amender.note_code.Goals as goal

or_none : (a : Bool) → a ≡ (a || false)
or_none true = refl
or_none false = refl

-- a code that is put in
put_in : (field : CodeVariables → Bool) (old new target : CodeVariables) (b one : Bool)
    → new ≡ (if b then target else old) → (b ≡ true → field target ≡ (field old || one))
    → field new ≡ (field old || (b && one))
put_in field old new target true one is here = ap field is ∙ here refl
put_in field old new target false one is here = ap field is ∙ or_none (field old)

pub returns-clause-lasts : goal.returns-clause-lasts
returns-clause-lasts c = λ key.
    let old = c.args.variables.now in
    let code = c.args.code.now in
    put_in (λ (v : CodeVariables). v.lasts) (code_target old key) (code_target c.insert.new.self key) _
    (bytes_eq key code) c.args.lasts (c.in_ok-insert.ensures key)
    (λ same. c.either.ensures ∙ ap (λ (v : CodeVariables). v.lasts || c.args.lasts) c.get-found.ensures
    ∙ ap (λ (k : List ℕ). (code_target old k).lasts || c.args.lasts) (sym (same_bytes key code same)))

pub returns-clause-kept : goal.returns-clause-kept
returns-clause-kept c = λ key.
    let old = c.args.variables.now in
    let code = c.args.code.now in
    put_in (λ (v : CodeVariables). v.is_kept) (code_target old key) (code_target c.insert.new.self key) _
    (bytes_eq key code) c.args.is_kept (c.in_ok-insert.ensures key)
    (λ same. c.either-2.ensures ∙ ap (λ (v : CodeVariables). v.is_kept || c.args.is_kept) c.get-found.ensures
    ∙ ap (λ (k : List ℕ). (code_target old k).is_kept || c.args.is_kept) (sym (same_bytes key code same)))
