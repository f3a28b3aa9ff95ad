use Rattle.std.proofs.Common.{◌≡◌, ◌∙◌, ap, sym, ◌==◌, ◌&&◌, rules}
use Rattle.std.specs.Bool.{Decides}
use Rattle.std.proofs.lemmas.Bool.Decides.{Decides-and, Decides-eqb, Decides-like}
use Rattle.std.proofs.lemmas.Slice.Eq.{slice_eq-Decides}
use Rattle.vcd_core.specs.declared.wave.Change.{Change}
use Rattle.vcd_core.specs.Value.{same_letters}
use Rattle.vcd_core.specs.inside.value.EqualByLetters.{same_letters-Decides}
use Rattle.vcd_core.specs.WaveView.{WaveView}
use Rattle.vcd_core.specs.inside.wave.List.{changes_of_list}
use Rattle.vcd_core.proofs.wave.Wave.shares_list_with.Goals as goal

-- changes that compare as the same are one
same_change-Decides : (a b : Change) → Decides ((a.tick == b.tick) && same_letters a.value b.value) (a ≡ b)
same_change-Decides a b =
    Decides-like _ (λ parts i. record { tick = parts.0 i; value = parts.1 i })
    (λ same. ((λ i. (same i).tick), (λ i. (same i).value)))
    (Decides-and _ _ (Decides-eqb a.tick b.tick) (same_letters-Decides a.value b.value))

pub returns-then-ptr_eq : goal.returns-then-ptr_eq
returns-then-ptr_eq c = record {
  width = λ same. search rules;
  changes = λ same.
      let lists = (slice_eq-Decides same_change-Decides _ _ _ c.eq.ensures).0 same in
      let here : changes_of_list c.self.inside.list ≡ c.as_slice.result.now = search rules in
      let there : changes_of_list c.other.inside.list ≡ c.as_slice-then-ptr_eq.result.now = search rules in
      sym (ap (λ (w : WaveView). w.changes) c.self.view_is) ∙ here ∙ lists ∙ sym there
      ∙ ap (λ (w : WaveView). w.changes) c.other.view_is;
}
