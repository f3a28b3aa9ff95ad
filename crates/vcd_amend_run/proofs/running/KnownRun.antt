-- What the run on a hollow capture knows of the run on the whole one.
use Rattle.std.proofs.Common.{◌≡◌, ℕ, Bool, true, false, if◌then◌else◌, List, [], ◌∷◌, ◌++◌}
use Rattle.std.proofs.Common.{Option, Some, None, refl, sym, ap, subst, ◌∙◌, inl, inr, map, length, get_or}
use Rattle.std.specs.Prelude.{option_map}
use Rattle.std.specs.List.{range_with_len}
use Rattle.std.proofs.lemmas.Option.{same_Some}
use Rattle.std.proofs.lemmas.List.{append_assoc, length-append}
use Rattle.vcd_core.specs.declared.wave.Change.{Change}
use Rattle.vcd_core.specs.Contents.{SignalContents, no_signal, signal_at}
use Rattle.vcd_text.specs.Grammar.{VariableDeclaration, ParseState, kept_variables}
use Rattle.vcd_text.specs.Meaning.{declared_signal, meaning}
use Rattle.vcd_hollow.specs.OtherWaves.{with_other, signals_with_others}
use Rattle.vcd_hollow.specs.Hollow.{emptied, filled}
use Rattle.vcd_core.specs.SignalOrigins.{signal_from}
use Rattle.vcd_amend.specs.KnownSignals.{KnowsSignal, KnowsSignals}
use Rattle.vcd_amend_run.proofs.laws.AmendedRuns.{from_others, at_variable}

-- of one signal, which is silent or not; `m` is what is left of it in the whole capture
known_by : (own : List Change) (first : SignalContents) (b : Bool) (l m : Option SignalContents) → first.changes ≡ own
    → l ≡ option_map (with_other (if b then Some [] else None)) m
    → KnowsSignal own (with_other (if b then Some [] else None) first) l
    (option_map (with_other (if b then Some own else None)) l)
known_by own first true None m same is = tt
known_by own first true (Some n) None same is = absurd (cc)
known_by own first true (Some n) (Some m) same is =
    (refl, inr (ap (λ (s : SignalContents). s.changes) (sym (same_Some n (record m { changes = [] }) is)), refl))
known_by own first false None m same is = tt
known_by own first false (Some n) m same is = (refl, inl (same, refl))

module _ (s : ParseState) (silent : ℕ → Bool) (ks : List ℕ) (ss ts : List SignalContents)
    (is_hollow : ss ≡ signals_with_others (map (emptied silent) ks) ts) where
  -- of the variable at a position
  known_at : (k : ℕ) (d : VariableDeclaration)
      → signal_at (meaning s) k ≡ declared_signal s.value_changes s.tick d
      → KnowsSignal (declared_signal s.value_changes s.tick d).changes
      (with_other (emptied silent k) (declared_signal s.value_changes s.tick d)) (signal_from k ks ss)
      (option_map (with_other (filled silent (meaning s) k)) (signal_from k ks ss))
  known_at k d here =
      let own : List Change = (declared_signal s.value_changes s.tick d).changes in
      subst (λ (changes : List Change). KnowsSignal own
      (with_other (emptied silent k) (declared_signal s.value_changes s.tick d)) (signal_from k ks ss)
      (option_map (with_other (if silent k then Some changes else None)) (signal_from k ks ss)))
      (sym (ap (λ (n : SignalContents). n.changes) here))
      (known_by own (declared_signal s.value_changes s.tick d) (silent k) (signal_from k ks ss) (signal_from k ks ts)
      refl (ap (signal_from k ks) is_hollow ∙ from_others (emptied silent) k ks ts))

  -- of all variables after others
  pub all_known : (before ds : List VariableDeclaration) → kept_variables s.declared ≡ before ++ ds
      → KnowsSignals s ds
      (signals_with_others (map (emptied silent) (range_with_len (length before) (length ds)))
      (map (declared_signal s.value_changes s.tick) ds))
      (map (λ k. signal_from k ks ss) (range_with_len (length before) (length ds)))
      (map (λ k. option_map (with_other (filled silent (meaning s) k)) (signal_from k ks ss))
      (range_with_len (length before) (length ds)))
  all_known before [] is = tt
  all_known before (d ∷ ds) is = (
    known_at (length before) d
        (ap (λ (all : List VariableDeclaration). get_or (map (declared_signal s.value_changes s.tick) all)
        (length before) no_signal) is ∙ at_variable s before d ds),
    subst (λ n. KnowsSignals s ds
        (signals_with_others (map (emptied silent) (range_with_len n (length ds)))
        (map (declared_signal s.value_changes s.tick) ds))
        (map (λ k. signal_from k ks ss) (range_with_len n (length ds)))
        (map (λ k. option_map (with_other (filled silent (meaning s) k)) (signal_from k ks ss))
        (range_with_len n (length ds))))
        (length-append before (d ∷ []))
        (all_known (before ++ d ∷ []) ds (is ∙ sym (append_assoc before (d ∷ []) ds))),
  )
