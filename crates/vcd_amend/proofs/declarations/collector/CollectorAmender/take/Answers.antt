use Rattle.std.proofs.Common.{◌≡◌, ◌∙◌, ◌++◌, [], ◌∷◌, map, sym, ap, ap₂, subst}
use Rattle.std.specs.Prelude.{IfSome}
use Rattle.std.proofs.lemmas.List.{map-append}
use Rattle.vcd_amend.specs.DeclaredVariables.{declaration_of_variable}
use Rattle.vcd_amend.proofs.declarations.collector.Collected.{next_variable}
use Rattle.vcd_amend.proofs.declarations.collector.CollectorAmender.take.Goals as goal

pub collect-requires-clause-variable : goal.collect-requires-clause-variable
collect-requires-clause-variable g c =
    let (limit, before, p, seen, taken) = c.requires in
    let v = next_variable limit before p _ _ _ _ _ taken c.in-Variable.is in
    (v.kind, v.size, v.code, v.names, v.is_variable, v.number)

pub collect-requires-clause-path : goal.collect-requires-clause-path
collect-requires-clause-path g c =
    let (limit, before, p, seen, taken) = c.requires in
    let v = next_variable limit before p _ _ _ _ _ taken c.in-Variable.is in
    subst (λ s. IfSome c.args.self.now.path (λ known. known ≡ s)) v.known seen.path

pub returns-in_ok-collect-in-Variable-clause-seen : goal.returns-in_ok-collect-in-Variable-clause-seen
returns-in_ok-collect-in-Variable-clause-seen g c = λ limit before p seen taken.
    let v = next_variable limit before p _ _ _ _ _ taken c.in-Variable.is in
    let (variable, more, declared) = c.in_ok-collect-in-Variable.ensures.declared v.kind v.size v.code v.names
    v.is_variable in
    record {
      declared = ap (map declaration_of_variable) more
          ∙ map-append declaration_of_variable c.args.self.now.declared.items (variable ∷ [])
          ∙ ap₂ (λ xs ys. xs ++ ys) seen.declared (ap (λ d. d ∷ []) declared) ∙ sym v.declared;
      path = subst (λ s. IfSome c.collect.new.path (λ known. known ≡ s)) v.opened
          c.in_ok-collect-in-Variable.ensures.path;
      done = seen.done ∙ v.in_body;
    }
