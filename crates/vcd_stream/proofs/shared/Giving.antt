-- A change that is given, or left out as it repeats the value before it.
use Rattle.std.proofs.Common.{◌≡◌, true, false, List, [], ◌∷◌, ◌++◌, sym, ap, ◌∙◌, append_assoc}
use Rattle.std.proofs.lemmas.List.{map-append}
use Rattle.vcd_core.specs.declared.bit.Bit.{Bit}
use Rattle.vcd_core.specs.declared.wave.Change.{Change}
use Rattle.vcd_core.specs.Value.{same_letters}
use Rattle.vcd_core.specs.inside.value.EqualByLetters.{same_letters-Decides}
use Rattle.vcd_core.specs.Wave.{unless_same}
use Rattle.vcd_edit.specs.inside.plans.RemainingChanges.{without_repeats}
use Rattle.vcd_stream.specs.declared.stage.ChangeTo.{ChangeTo}
use Rattle.vcd_stream.specs.Stages.{seen, all_seen}

module _ {V : Type 0} (letters : V → List Bit) (out : List (ChangeTo V)) (last : V) (c : ChangeTo V) where
  pub left_out : same_letters (letters c.value) (letters last) ≡ true → (more : List Change)
      → all_seen letters out ++ without_repeats (letters last) more
      ≡ all_seen letters out ++ without_repeats (letters last) (seen letters c ∷ more)
  unfolding without_repeats
  left_out same more =
      ap (λ v. all_seen letters out ++ without_repeats v more)
      (sym ((same_letters-Decides (letters c.value) (letters last)).0 same))
      ∙ ap (λ b. all_seen letters out ++ unless_same b (seen letters c) (without_repeats (letters c.value) more))
      (sym same)

  pub put_out : (new : List (ChangeTo V)) → same_letters (letters c.value) (letters last) ≡ false
      → new ≡ out ++ c ∷ [] → (more : List Change)
      → all_seen letters new ++ without_repeats (letters c.value) more
      ≡ all_seen letters out ++ without_repeats (letters last) (seen letters c ∷ more)
  unfolding without_repeats
  put_out new other put more =
      ap (λ l. all_seen letters l ++ without_repeats (letters c.value) more) put
      ∙ ap (λ l. l ++ without_repeats (letters c.value) more) (map-append (seen letters) out (c ∷ []))
      ∙ append_assoc (all_seen letters out) (seen letters c ∷ []) (without_repeats (letters c.value) more)
      ∙ ap (λ b. all_seen letters out ++ unless_same b (seen letters c) (without_repeats (letters c.value) more))
      (sym other)
