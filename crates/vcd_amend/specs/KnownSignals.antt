-- What hollow captures know of the signals that are left of a file's variables. The project's own.
use Rattle.std.specs.Prelude.{◌≡◌, ◌⊎◌, ℕ, List, [], ◌∷◌, Option, Some, None, map, length, drop}
use Rattle.std.specs.List.{range_with_len}
use Rattle.vcd_core.specs.declared.wave.Change.{Change}
use Rattle.vcd_core.specs.Contents.{SignalContents}
use Rattle.vcd_text.specs.Grammar.{VariableDeclaration, ParseState, kept_variables}
use Rattle.vcd_text.specs.Meaning.{declared_signal}
use Rattle.vcd_amend.specs.Amendment.{Amendment}
use Rattle.vcd_core.specs.SignalOrigins.{signal_from}
use Rattle.vcd_amend.specs.GivenCodes.{amendment_for}

-- what is known of a variable with these changes in the file, by its first signal and by the one
-- that is left of it, or none, of what is left of it in the whole capture: they have its changes,
-- or it is silent, and stays as it is in the file
abbrev pub KnowsSignal : (own : List Change) → (first : SignalContents)
    → (left whole : Option SignalContents) → Type 0
KnowsSignal own first None None = Unit {0}
KnowsSignal own first (Some n) (Some w) = (w ≡ record n { changes = w.changes })
    × (((first.changes ≡ own) × (w.changes ≡ n.changes))
    ⊎ ((first.changes ≡ n.changes) × (w.changes ≡ own)))
KnowsSignal own first left whole = ⊥

-- the same of variables, one after another
abbrev pub KnowsSignals : ParseState → List VariableDeclaration → (firsts : List SignalContents)
    → (left whole : List (Option SignalContents)) → Type 0
KnowsSignals s [] [] [] [] = Unit {0}
KnowsSignals s (d ∷ ds) (f ∷ fs) (n ∷ ns) (w ∷ ws) =
    KnowsSignal (declared_signal s.value_changes s.tick d).changes f n w × KnowsSignals s ds fs ns
    ws
KnowsSignals s ds firsts left whole = ⊥

-- the amendment of a file with these variables is that for whatever is known of the whole signals
-- by the first signals, and the last ones with their origins
abbrev pub IsAmendmentFor : List VariableDeclaration → (firsts : List SignalContents)
    → (origins : List ℕ) → (lasts : List SignalContents) → Amendment → Type 0
IsAmendmentFor declared firsts origins lasts a =
    (s : ParseState) (whole : List (Option SignalContents)) → declared ≡ s.declared
    → KnowsSignals s (kept_variables s.declared) firsts
    (map (λ k. signal_from k origins lasts) (range_with_len 0 (length firsts))) whole
    → a ≡ amendment_for s whole (drop (length origins) lasts)
