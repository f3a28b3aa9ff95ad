-- New names, one signal after another.
use Rattle.std.proofs.Common.{◌≡◌, ◌∙◌, ℕ, ◌+◌, ◌<◌, ◌≤◌, Bool, true, false, not, ◌&&◌, ◌||◌, cond, List, [], ◌∷◌, map}
use Rattle.std.proofs.Common.{refl, length, get_or, drop, sym, ap, ap₂}
use Rattle.std.specs.List.{list_any, slice_get}
use Rattle.std.proofs.lemmas.List.{drop_more, drop-drop, drop_all}
use Rattle.std.specs.Prelude.{bytes_eq}
use Rattle.vcd_core.specs.declared.capture.Signal.{Signal}
use Rattle.vcd_core.specs.CaptureContents.{signal_contents}
use Rattle.vcd_core.specs.Contents.{SignalContents}
use Rattle.vcd_core.specs.Names.{full_name}
use Rattle.vcd_amend_run.specs.NewNames.{has_words_of, new_names, skipped_names}
use Rattle.vcd_amend_run.specs.inside.NewNames.{has_new_name}
use Rattle.vcd_amend.specs.DeclaredVariables.{declaration_of_variable}
use Rattle.vcd_amend_run.proofs.new_names.contains_new_name.Goals.{else-is_new-via-then-is_new+else-contains}
use Rattle.vcd_amend_run.proofs.new_names.contains_new_name.Goals.{else-is_new-via-else-is_new}
use Rattle.vcd_amend_run.proofs.new_names.contains_new_name.Goals as goal

-- a test finds a new name at the first signal or in the rest
found_first_or_later : (p : List ℕ → Bool) (firsts : List SignalContents) (origins : List ℕ) (s : SignalContents)
    (lasts : List SignalContents)
    → list_any p (new_names firsts origins (s ∷ lasts))
    ≡ ((has_new_name firsts origins s && p (full_name s)) || list_any p (new_names firsts (drop 1 origins) lasts))
found_first_or_later p firsts [] s lasts = refl
found_first_or_later p firsts (k ∷ origins) s lasts =
    by_words (has_words_of (slice_get firsts k) s) (new_names firsts origins lasts)
  where
    by_words : (same : Bool) (names : List (List ℕ)) → list_any p (cond same names (full_name s ∷ names))
        ≡ ((not same && p (full_name s)) || list_any p names)
    by_words true names = refl
    by_words false names = refl

-- a test that does not find the new name of the signal at a position finds one in the rest
found_in_rest : (p : List ℕ → Bool) (firsts : List SignalContents) (origins : List ℕ) (lasts : List Signal) (i : ℕ)
    (s : Signal) → i < length lasts → s ≡ get_or lasts i s
    → (has_new_name firsts (drop i origins) (signal_contents s) && p (full_name (signal_contents s))) ≡ false
    → list_any p (new_names firsts (drop (i + 1) origins) (map signal_contents (drop (i + 1) lasts)))
    ≡ list_any p (new_names firsts (drop i origins) (map signal_contents (drop i lasts)))
found_in_rest p firsts origins lasts i s below is fails =
    let rest = drop (i + 1) lasts in
    let here : drop i lasts ≡ s ∷ rest = drop_more lasts i s below ∙ ap (λ t. t ∷ rest) (sym is) in
    let found = list_any p (new_names firsts (drop 1 (drop i origins)) (map signal_contents rest)) in
    ap (λ os. list_any p (new_names firsts os (map signal_contents rest))) (sym (drop-drop 1 i origins))
    ∙ ap (λ first. first || found) (sym fails)
    ∙ sym (found_first_or_later p firsts (drop i origins) (signal_contents s) (map signal_contents rest))
    ∙ ap (λ ls. list_any p (new_names firsts (drop i origins) (map signal_contents ls))) (sym here)

-- a test finds nothing past the last signal
none_in_rest : (p : List ℕ → Bool) (firsts : List SignalContents) (origins : List ℕ) (lasts : List Signal) (i : ℕ)
    → length lasts ≤ i
    → false ≡ list_any p (new_names firsts (drop i origins) (map signal_contents (drop i lasts)))
none_in_rest p firsts origins lasts i past =
    no_names (drop i origins)
    ∙ ap (λ ls. list_any p (new_names firsts (drop i origins) (map signal_contents ls))) (sym (drop_all i lasts past))
  where
    no_names : (os : List ℕ) → false ≡ list_any p (new_names firsts os [])
    no_names [] = refl
    no_names (k ∷ os) = refl

pub loop-position-preserved : goal.loop-position-preserved
loop-position-preserved c =
    let firsts = map signal_contents c.args.firsts.now in
    let signal = c.index-lasts-position.result in
    let skipped : List ℕ → Bool = λ name. list_any (bytes_eq name) (skipped_names (map declaration_of_variable
    c.args.skipped.now.declared.now)) in
    let is_new = sym c.has_new_name-is_new.ensures in
    let fails : (has_new_name firsts (drop c.loop-position.position c.args.origins.now) (signal_contents signal)
    && skipped (full_name (signal_contents signal))) ≡ false =
    elim c.else-is_new.branch [
      | else-is_new-via-then-is_new+else-contains w ↦ ap₂ ◌&&◌ (is_new ∙ w.if-is_new.true)
          (ap skipped (sym w.of.ensures) ∙ sym w.contains.ensures ∙ w.if-contains.false)
      | else-is_new-via-else-is_new w ↦ ap (λ b. b && skipped (full_name (signal_contents signal)))
          (is_new ∙ w.if-is_new.false)
    ] in
    found_in_rest skipped firsts c.args.origins.now c.args.lasts.now c.loop-position.position signal
    c.loop-position-test.true c.index-lasts-position.is fails ∙ c.loop-position.invariant

pub returns : goal.returns
returns c =
    none_in_rest _ (map signal_contents c.args.firsts.now) c.args.origins.now c.args.lasts.now c.loop-position.position
    c.loop-position-test.false ∙ c.loop-position.invariant
