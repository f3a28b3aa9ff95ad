-- The capture of a part: what the value changes that were kept mean.
use Rattle.std.proofs.Common.{◌≡◌, ℕ, suc, ◌-◌, ◌≤◌, Bool, true, false, not, cond, if◌then◌else◌, min, List, []}
use Rattle.std.proofs.Common.{◌∷◌, map, Some, refl, ap, sym, subst, arith}
use Rattle.std.specs.Prelude.{IsFalse, nat_le, slice_get, slice_index_or, filter}
use Rattle.std.proofs.lemmas.Bool.{cases_lt, le-leb}
use Rattle.vcd_core.specs.declared.bit.Bit.{Bit}
use Rattle.vcd_core.specs.declared.wave.Change.{Change}
use Rattle.vcd_core.specs.Wave.{value_from, AllUpTo}
use Rattle.vcd_core.proofs.shared.Waves.{changes_same, value_at-changes_of, changes_end}
use Rattle.vcd_text.specs.Grammar.{VariableDeclaration, ValueChange, ParseState, kept_variables}
use Rattle.vcd_text.specs.Meaning.{declared_signal, meaning}
use Rattle.vcd_core.specs.Contents.{SignalContents}
use Rattle.vcd_core.specs.Outline.{without_changes}
use Rattle.vcd_text.specs.Parts.{part_of_signal, part_of}
use Rattle.vcd_text.specs.declared.reading.part.Part.{Part}
use Rattle.vcd_text.specs.inside.reading.Part.{seen_tick, TellsPart, remaining, listed_part, undriven}
use Rattle.vcd_text.specs.inside.reading.Part.{Asked, IsAskedPart, LeavesOut}
use Rattle.vcd_text.proofs.part.LateChanges.{UpToTick, latest_past}

-- ---- the items that remain

-- of no item none remains
pub none_remains : {A : Type 0} (out : List Bool) → remaining {A = A} out [] ≡ []
none_remains [] = refl
none_remains (b ∷ out) = refl

-- the items that remain of two lists agree, if those at each position that remains do
same_remaining : {D S : Type 0} (f g : D → S) (h : S → S) (out : List Bool) (ds : List D)
    → ((position : ℕ) (d : D) → slice_get ds position ≡ Some d → IsFalse (slice_index_or out position false)
    → f d ≡ h (g d)) → remaining out (map f ds) ≡ map h (remaining out (map g ds))
same_remaining f g h [] [] same = refl
same_remaining f g h [] (d ∷ ds) same =
    let head = same 0 d refl refl in
    let tail = same_remaining f g h [] ds (λ position e at stays. same (suc position) e at refl) in
    λ i. head i ∷ tail i
same_remaining f g h (b ∷ out) [] same = refl
same_remaining f g h (true ∷ out) (d ∷ ds) same =
    same_remaining f g h out ds (λ position e at stays. same (suc position) e at stays)
same_remaining f g h (false ∷ out) (d ∷ ds) same =
    let head = same 0 d refl refl in
    let tail = same_remaining f g h out ds (λ position e at stays. same (suc position) e at stays) in
    λ i. head i ∷ tail i

-- ---- the values of a signal

-- past the last change the value of a wave stays
pub value_stays : (end t : ℕ) (before : List Bit) (cs : List Change) → end ≤ t → AllUpTo end cs
    → value_from before cs t ≡ value_from before cs end
unfolding value_from
value_stays end t before [] past upto = refl
value_stays end t before (c ∷ cs) past (here, rest) =
    grind (arith, le-leb, value_stays end t (if nat_le c.tick end then c.value else before) cs past rest)

module _ (part : Part) (c : ParseState) (seen : List ValueChange) (tells : TellsPart part c seen)
    (late : UpToTick c.tick c.value_changes) where
  -- the signal of a variable that remains
  signal_of_part : (position : ℕ) (d : VariableDeclaration)
      → slice_get (kept_variables c.declared) position ≡ Some d
      → IsFalse (slice_index_or part.left_out.items position false)
      → declared_signal seen (seen_tick part c.tick) d
      ≡ part_of_signal part.first (seen_tick part c.tick) (declared_signal c.value_changes c.tick d)
  signal_of_part position d at remains =
      grind (arith, changes_same, cases_lt, latest_past, value_at-changes_of, value_stays, changes_end)

  -- the signals of a part
  pub signals_of_part : remaining part.left_out.items
      (map (declared_signal seen (seen_tick part c.tick)) (kept_variables c.declared))
      ≡ (listed_part part (meaning c)).signals
  signals_of_part = grind (arith, same_remaining, signal_of_part)

-- ---- the part that is asked for

one_test : (s : SignalContents) (t b : Bool) (xs ys : List SignalContents) → b ≡ not t → xs ≡ ys
    → (if b then xs else s ∷ xs) ≡ cond t (s ∷ ys) ys
one_test s t b xs ys is same = grind arith

-- the part by a list of tests is the part by the test that they are of
filtered : (takes : SignalContents → Bool) (out : List Bool) (ss : List SignalContents)
    → LeavesOut takes (map without_changes ss) out → remaining out ss ≡ filter (λ s. takes (without_changes s)) ss
filtered takes [] [] leaves = refl
filtered takes [] (s ∷ ss) leaves = one_test s (takes (without_changes s)) false ss _
    (leaves 0 (without_changes s) refl) (filtered takes [] ss (λ position t at. leaves (suc position) t at))
filtered takes (b ∷ out) [] leaves = refl
filtered takes (b ∷ out) (s ∷ ss) leaves = one_test s (takes (without_changes s)) b (remaining out ss) _
    (leaves 0 (without_changes s) refl) (filtered takes out ss (λ position t at. leaves (suc position) t at))

-- the signals of variables as they are declared
undriven_signals : (changes : List ValueChange) (end : ℕ) (ds : List VariableDeclaration)
    → map without_changes (map (declared_signal changes end) ds) ≡ map undriven ds
undriven_signals changes end [] = refl
undriven_signals changes end (d ∷ ds) = ap (λ ss. undriven d ∷ ss) (undriven_signals changes end ds)

-- the part of a meaning by a list of tests is the one that is asked for
pub asked_part_is : (asked : Asked) (part : Part) (c : ParseState)
    → IsAskedPart asked (map undriven (kept_variables c.declared)) part
    → listed_part part (meaning c) ≡ part_of asked.takes asked.ticks (meaning c)
asked_part_is asked part c is =
    let leaves = subst (λ ss. LeavesOut asked.takes ss part.left_out.items)
    (sym (undriven_signals c.value_changes c.tick (kept_variables c.declared))) is.leaves in
    let taken = filtered asked.takes part.left_out.items (meaning c).signals leaves in
    λ i. record (meaning c) {
      end = min (is.last i) c.tick - is.first i;
      signals = map (part_of_signal (is.first i) (min (is.last i) c.tick - is.first i)) (taken i);
    }
