-- The signals of the variables: those that a choice sees, and those of the capture.
use Rattle.std.proofs.Common.{◌≡◌, ℕ, suc, List, [], ◌∷◌, map, length, Some, refl, ap, ◌∙◌, arith, take, Bool, false}
use Rattle.std.proofs.Common.{not, ◌+◌, ◌<◌, ◌≤◌, ◌++◌, All, zero, drop, Option, None, sym}
use Rattle.std.specs.Prelude.{slice_get, slice_index_or}
use Rattle.std.proofs.lemmas.Bool.{cases_lt}
use Rattle.std.proofs.lemmas.Option.{same_Some, slice_get_within, get_or_from_slice_get, slice_get_cases}
use Rattle.std.proofs.Math.ListN.{get_or-append}
use Rattle.std.proofs.Math.Seq.{get_or-append_seam}
use Rattle.std.proofs.lemmas.List.Elements.{All-head, All-tail}
use Rattle.std.proofs.lemmas.List.{append-nil, nil_from_length, length-map, map-append, length_push, take_more}
use Rattle.std.proofs.lemmas.List.{take_all, length-take}
use Rattle.vcd_core.specs.Contents.{SignalContents}
use Rattle.vcd_core.specs.declared.wave.Change.{Change}
use Rattle.vcd_core.specs.Wave.{AllUpTo, changes_of, IsWave}
use Rattle.vcd_core.specs.declared.capture.Signal.{Signal}
use Rattle.vcd_core.specs.Value.{all_x}
use Rattle.vcd_core.specs.CaptureContents.{signal_contents}
use Rattle.vcd_core.proofs.shared.Waves.{wave_is}
use Rattle.vcd_text.specs.Grammar.{VariableDeclaration, ParseState, kept_variables}
use Rattle.vcd_text.specs.inside.reading.Chains.{chains_of, chain_at}
use Rattle.vcd_text.specs.inside.reading.Scopes.{IsWithin, IsPlaced}
use Rattle.vcd_text.specs.inside.reading.Part.{undriven}
use Rattle.vcd_text.specs.inside.reading.Variables.{VariablesMatch, declaration, without_code, target_of, latest_value}
use Rattle.vcd_text.specs.inside.reading.Variables.{Finishes}
use Rattle.vcd_text.specs.declared.reading.variables.Variable.{Variable}
use Rattle.vcd_text.specs.declared.reading.variables.Variables.{Variables}
use Rattle.vcd_text.specs.Meaning.{declared_signal}
use Rattle.vcd_text.specs.declared.reading.code_targets.CodeTarget.TheVariants.{Kept}
use Rattle.vcd_text.proofs.reading.variables.VariablesMatch.{declared_at, kept_long, gives_late}
use Rattle.vcd_text.proofs.reading.code_targets.Targets.{stands_kept}
use Rattle.vcd_text.proofs.reading.variables.DeclaredVariable.{middle_of}

-- ==== the signals that a choice sees are the kept variables of the state

-- two lists of one length give one list, if what they have at each position gives the same
same_lists : {A B S : Type 0} (f : A → S) (g : B → S) (xs : List A) (ys : List B) → length xs ≡ length ys
    → ((position : ℕ) (x : A) (y : B) → slice_get xs position ≡ Some x → slice_get ys position ≡ Some y → f x ≡ g y)
    → map f xs ≡ map g ys
same_lists f g [] [] long same = refl
same_lists f g [] (y ∷ ys) long same = absurd (omega (arith, long))
same_lists f g (x ∷ xs) [] long same = absurd (omega (arith, long))
same_lists f g (x ∷ xs) (y ∷ ys) long same =
    let head = same 0 x y refl refl in
    let tail = same_lists f g xs ys (omega (arith, long)) (λ position a b at here. same (suc position) a b at here) in
    λ i. head i ∷ tail i

-- ---- the tests of a choice

module _ (takes : SignalContents → Bool) (signals : List SignalContents) where
  -- one more test is right
  pub pushed_test : (out : List Bool) (b : Bool) (n : ℕ) (x : SignalContents) → length out ≡ n
      → slice_get signals n ≡ Some x → b ≡ not (takes x)
      → ((k : ℕ) (s : SignalContents) → k < n → slice_get signals k ≡ Some s
      → slice_index_or out k false ≡ not (takes s))
      → (k : ℕ) (s : SignalContents) → k < n + 1 → slice_get signals k ≡ Some s
      → slice_index_or (out ++ b ∷ []) k false ≡ not (takes s)
  pushed_test out b n x long at is before k s within here =
      grind (arith, cases_lt k n, get_or-append, same_Some, get_or-append_seam)

-- ---- the kept variables

-- each variable has its place in one of the chains
pub placed_variables : (vs : Variables) (c : ParseState) → VariablesMatch vs c → (position : ℕ) (v : Variable)
    → slice_get vs.kept.items position ≡ Some v → IsWithin (chains_of vs.scopes) v.place
placed_variables vs c k position v at = grind (arith, declared_at)

-- a variable of the parser as a signal
abbrev pub listed_signal : Variables → Variable → SignalContents
listed_signal vs v = record {
  scopes = take v.place.count (chain_at (chains_of vs.scopes) v.place.chain);
  kind = v.kind;
  words = v.words;
  width = v.wave.width;
  changes = [];
}

pub declared_as_undriven : (vs : Variables) (c : ParseState) → VariablesMatch vs c
    → map (listed_signal vs) vs.kept.items ≡ map undriven (kept_variables c.declared)
declared_as_undriven vs c k = grind (arith, same_lists, kept_long, declared_at, same_Some)

-- ==== ticks and widths of a list of changes

-- no change is past the tick
abbrev Ended : ℕ → List Change → Type 0
Ended tick cs = All (λ (c : Change). c.tick ≤ tick) cs

ended_upto : (end : ℕ) (cs : List Change) → Ended end cs → AllUpTo end cs
ended_upto end [] ended = tt
ended_upto end (c ∷ cs) ended =
    grind (arith, All-head, All-tail, ended_upto end cs (All-tail (λ (c : Change). c.tick ≤ end) c cs ended))

-- ==== the signals of the variables

-- the signals of the first declarations
abbrev pub declared_signals : ParseState → ℕ → List SignalContents
declared_signals c n = map (declared_signal c.value_changes c.tick) (take n (kept_variables c.declared))

-- the declaration of a signal
declaration_after : (f : VariableDeclaration → SignalContents) (ds : List VariableDeclaration) (n : ℕ)
    (signals : List Signal) (position : ℕ) (s : Signal) → map signal_contents signals ≡ map f (take n ds)
    → slice_get signals position ≡ Some s
    → (d : VariableDeclaration) × (slice_get ds position ≡ Some d) × (signal_contents s ≡ f d)
declaration_after f ds n [] position s same at = let never : None ≡ Some s = at in absurd (cc)
declaration_after f ds zero (x ∷ signals) position s same at = grind arith
declaration_after f [] (suc n) (x ∷ signals) position s same at = grind arith
declaration_after f (d ∷ ds) (suc n) (x ∷ signals) zero s same at = grind (arith, same_Some)
declaration_after f (d ∷ ds) (suc n) (x ∷ signals) (suc k) s same at =
    declaration_after f ds n signals k s (ap (drop 1) same) at

module _ (vs : Variables) (c : ParseState) (yielded rest : List Variable) (v : Variable)
    (k : VariablesMatch vs c) (all : vs.kept.items ≡ yielded ++ v ∷ rest) where
  stands_at : slice_get vs.kept.items (length yielded) ≡ Some v
  stands_at = ap (λ l. slice_get l (length yielded)) all ∙ middle_of yielded rest v

  pub own_declaration : (d : VariableDeclaration) × (slice_get (kept_variables c.declared) (length yielded) ≡ Some d)
      × (without_code d ≡ declaration v)
  own_declaration = declared_at vs c k (length yielded) v stands_at

  -- it is in the scopes of its declaration
  pub own_position : IsPlaced vs.scopes v.place own_declaration.0.scopes
  own_position = (k.firsts (length yielded) v stands_at).placed own_declaration.0 own_declaration.1

  owned : target_of vs own_declaration.0.code ≡ Kept v.wave.width v.first
  owned = (k.firsts (length yielded) v stands_at).owned own_declaration.0 own_declaration.1

  -- the changes of a variable of this size and code
  changes_by : ℕ → List ℕ → List Change
  changes_by width code = changes_of width c.tick (λ t. latest_value width code t (all_x width) c.value_changes)

  -- a signal with the wave that its variable means is the declared one
  as_declared : (shared : Option Signal) (signal : Signal) → Finishes (chains_of vs.scopes) v shared signal
      → signal.wave.width ≡ v.wave.width → signal.wave.changes ≡ changes_by v.wave.width own_declaration.0.code
      → signal_contents signal ≡ declared_signal c.value_changes c.tick own_declaration.0
  unfolding changes_by
  as_declared shared signal f width changes =
      let own = own_declaration in
      let size : v.wave.width ≡ own.0.size = sym (ap (λ (x : VariableDeclaration). x.size) own.2) in
      λ i. record {
        scopes = (f.scopes ∙ own_position.scopes_are) i;
        kind = (f.kind ∙ sym (ap (λ (x : VariableDeclaration). x.kind) own.2)) i;
        words = (f.words ∙ sym (ap (λ (x : VariableDeclaration). x.words) own.2)) i;
        width = (width ∙ size) i;
        changes = (changes ∙ ap (λ n. changes_by n own.0.code) size) i;
      }

  module _ (signals : List Signal) (empty : vs.log.items ≡ [])
      (equal : map signal_contents signals ≡ declared_signals c (length yielded)) where
    -- the first variable of its code has its own wave
    first_wave : v.first ≡ length yielded → IsWave v.wave.width v.wave.changes
        → v.wave.changes ≡ changes_by v.wave.width own_declaration.0.code
    unfolding changes_by
    first_wave end is = grind (arith, stands_kept, owned, same_Some, stands_at, gives_late, wave_is, ended_upto)

    -- a later variable has the wave of the first
    later_wave : (s : Signal) → slice_get signals v.first ≡ Some s
        → (s.wave.width ≡ v.wave.width) × (s.wave.changes ≡ changes_by v.wave.width own_declaration.0.code)
    unfolding changes_by
    later_wave s at = grind (arith, declaration_after, owned, same_Some, declared_at, changes_by)

    -- with it the signals are those of one more declaration
    pub next_finishes : (signal : Signal) → Finishes (chains_of vs.scopes) v (slice_get signals v.first) signal
        → map signal_contents signals ++ signal_contents signal ∷ [] ≡ declared_signals c (length (yielded ++ v ∷ []))
    next_finishes signal finishes =
        let d = own_declaration in
        let ds = kept_variables c.declared in
        let within = slice_get_within ds (length yielded) d.0 d.1 in
        let more : take (length (yielded ++ v ∷ [])) ds ≡ take (length yielded) ds ++ d.0 ∷ [] =
        ap (λ n. take n ds) (length_push yielded v) ∙ take_more ds (length yielded) d.0 within
        ∙ ap (λ e. take (length yielded) ds ++ e ∷ []) (get_or_from_slice_get ds (length yielded) d.0 d.0 d.1) in
        let long : length signals ≡ length yielded = grind (arith, within, length-map, length-take) in
        grind (arith, long, map-append, slice_get_cases, later_wave, as_declared, stands_at, first_wave)

-- so they are all of them once no variable is left
pub finished : (vs : Variables) (c : ParseState) (yielded rest : List Variable) (signals : List Signal)
    → VariablesMatch vs c → vs.kept.items ≡ yielded ++ rest → length rest ≡ 0
    → map signal_contents signals ≡ declared_signals c (length yielded)
    → map signal_contents signals ≡ map (declared_signal c.value_changes c.tick) (kept_variables c.declared)
finished vs c yielded rest signals k all empty equal = grind (arith, nil_from_length, append-nil, kept_long, take_all)
