-- The signal of a name is one of the capture's.
use Rattle.std.proofs.Common.{◌≡◌, ◌<◌, ℕ, Bool, true, false, ◌&&◌, cond, ltb, List, Option, Some, None, Result, length}
use Rattle.std.proofs.Common.{map, refl, sym, subst, arith, ◌∙◌, ap}
use Rattle.std.specs.Prelude.{IfOk}
use Rattle.std.specs.List.{position}
use Rattle.std.specs.Option.{ok_or}
use Rattle.std.specs.Str.{bytes_eq}
use Rattle.std.proofs.lemmas.Bool.Decides.{nat_tests}
use Rattle.std.proofs.lemmas.List.{length-map}
use Rattle.std.proofs.lemmas.List.Quantifiers.{position-Some}
use Rattle.vcd_core.specs.declared.capture.Capture.{Capture}
use Rattle.vcd_core.specs.Contents.{SignalContents}
use Rattle.vcd_core.specs.CaptureContents.{contents, signal_contents}
use Rattle.vcd_core.specs.Names.{full_name, full_names, is_numbered, number_in, lookup}
use Rattle.vcd_script.specs.declared.script.line_error.LineError.{LineError}
use Rattle.vcd_script.specs.declared.script.line_error.LineError.TheVariants.{NoSuchName}
use Rattle.vcd_script.specs.ScriptWords.{signal_of_name}
use Rattle.vcd_script.proofs.script.edits.signal_of_name.Goals as goal

-- whether the name is the number of a signal
by_number : (b : Bool) (signals : List SignalContents) (name : List ℕ) (k : ℕ)
    → (is_numbered name && ltb (number_in name) (length signals)) ≡ b →
    cond b (Some (number_in name)) (position (bytes_eq name) (full_names signals)) ≡ Some k → k < length signals
by_number true signals name k test found =
    let number : number_in name ≡ k = cc in
    let within : number_in name < length signals = grind (arith, nat_tests) in
    omega arith
by_number false signals name k test found =
    let within : k < length (full_names signals) =
    (position-Some (bytes_eq name) (full_names signals) k name found).0 in
    omega (arith, length-map signals full_name)

lookup_within : (signals : List SignalContents) (name : List ℕ) (k : ℕ) → lookup signals name ≡ Some k
    → k < length signals
unfolding lookup
lookup_within signals name k found =
    by_number (is_numbered name && ltb (number_in name) (length signals)) signals name k refl found

by_lookup : (o : Option ℕ) (c : Capture) (name : List ℕ) → lookup (contents c).signals name ≡ o
    → IfOk (ok_or o NoSuchName) (λ k. k < length c.signals)
by_lookup None c name found = tt
by_lookup (Some k) c name found =
    subst (λ (n : ℕ). k < n) (length-map c.signals signal_contents)
    (lookup_within (map signal_contents c.signals) name k found)

-- the signal that a word names is below the number of signals
named_within : (c : Capture) (name : List ℕ) (answer : Result ℕ LineError)
    → answer ≡ signal_of_name (contents c) name → IfOk answer (λ k. k < length c.signals)
named_within c name answer is =
    subst (λ (r : Result ℕ LineError). IfOk r (λ k. k < length c.signals)) (sym is)
    (by_lookup (lookup (contents c).signals name) c name refl)

pub returns-clause-within : goal.returns-clause-within
returns-clause-within c =
    named_within c.args.capture.now c.args.name.now c.ok_or.result (c.ok_or.ensures.value
    ∙ ap (λ (o : Option ℕ). ok_or o NoSuchName) c.find.ensures)
