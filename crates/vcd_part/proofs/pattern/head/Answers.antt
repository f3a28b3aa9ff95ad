-- Each byte of the pattern takes one of the name.
use Rattle.std.proofs.Common.{◌≡◌, ℕ, ◌==◌, Bool, true, false, Option, Some, None, List, [], ◌∷◌, length}
use Rattle.std.proofs.Common.{sym, ap, ◌∙◌, eq-eqb, arith, rules, refl, not, is_some, suc}
use Rattle.std.proofs.lemmas.Bool.{ne_eqb}
use Rattle.vcd_part.specs.inside.Heads.{ended}
use Rattle.vcd_part.proofs.pattern.Stars.{Begins, head_at_end, head_at_star}
use Rattle.vcd_part.proofs.pattern.Stars.{head_fails, head_goes_on, name_shrinks}
use Rattle.vcd_part.proofs.pattern.head.Goals as goal

pub returns-then-wanted-eq42-clause-head : goal.returns-then-wanted-eq42-clause-head
returns-then-wanted-eq42-clause-head c =
    sym (head_at_star _ _ _ _ c.in-Some.ensures.cases.0 (eq-eqb _ _ c.if-wanted-eq42.true))
    ∙ c.loop-wanted.invariant.same

pub returns-then-not-is_wanted-clause-head : goal.returns-then-not-is_wanted-clause-head
returns-then-not-is_wanted-clause-head c =
    head_fails _ _ _ _ _ _ _ c.in-Some.ensures.cases.0 (ne_eqb _ _ c.if-wanted-eq42.false) c.next_byte.ensures.next
    c.is_wanted.ensures (search rules)
    ∙ c.loop-wanted.invariant.same

pub loop-wanted-preserved : goal.loop-wanted-preserved
loop-wanted-preserved c =
    let is_wanted : c.is_wanted.result ≡ true = search rules in
    let shrinks = name_shrinks _ _ _ c.next_byte.ensures.next _ _ c.is_wanted.ensures is_wanted in
    record {
      same = head_goes_on _ _ _ _ _ _ _ c.in-Some.ensures.cases.0
          (ne_eqb _ _ c.if-wanted-eq42.false) c.next_byte.ensures.next
          c.is_wanted.ensures is_wanted
          ∙ c.loop-wanted.invariant.same;
      shorter = omega (arith, shrinks, c.in-Some.ensures.cases.1, c.loop-wanted.invariant.shorter);
    }

-- no byte is left exactly if the name is empty
at_end : (name after : List ℕ) (byte : Option ℕ) (none : Bool) → Begins name byte after → is_some byte ≡ not none
    → none ≡ (length name == 0)
at_end name after None true begins is = rw begins refl
at_end name after None false begins is = cc
at_end name after (Some b) true begins is = cc
at_end name after (Some b) false begins is =
    let longer : length name ≡ suc (length after) = ap length begins in
    sym (ne_eqb (length name) 0 (λ none. absurd (omega (arith, longer, none))))

empty_list : (xs : List ℕ) → length xs ≡ 0 → xs ≡ []
empty_list [] is = refl
empty_list (x ∷ xs) is = absurd (omega arith)

pub returns-clause-head : goal.returns-clause-head
returns-clause-head c =
    ap ended (at_end _ _ _ _ c.next_byte-2.ensures.next c.is_none.ensures)
    ∙ sym (head_at_end _ _ (empty_list _ c.in_default.ensures.cases))
    ∙ c.loop-wanted.invariant.same
