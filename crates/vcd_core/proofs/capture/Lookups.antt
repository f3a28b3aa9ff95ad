-- Looking a name up: the numbers of positions, and the list of full names.
use Rattle.std.proofs.Common.{◌≡◌, ℕ, ◌+◌, ◌<◌, ◌&&◌, ◌↔◌, nat_lt, Bool, true, false, cond, not, if◌then◌else◌, Option}
use Rattle.std.proofs.Common.{Some, None, List, [], ◌∷◌, length, get_or, map, refl, sym, ◌∙◌, ap}
use Rattle.std.specs.List.{position, position_or_len, slice_get}
use Rattle.std.specs.Bool.{IsTrue}
use Rattle.std.specs.Str.{bytes_eq}
use Rattle.std.proofs.lemmas.Slice.Eq.{bytes_eq-Decides}
use Rattle.std.proofs.lemmas.List.{length-map}
use Rattle.std.proofs.lemmas.Option.{slice_get_read, slice_get-map, same_Some}
use Rattle.vcd_core.specs.declared.capture.Signal.{Signal}
use Rattle.vcd_core.specs.Contents.{SignalContents}
use Rattle.vcd_core.specs.CaptureContents.{signal_contents}
use Rattle.vcd_core.specs.Names.{full_name, full_names, is_numbered, number_in, lookup}

-- a result by position
pub numbered : (test : Bool) (n k : ℕ) (other : Option ℕ) → Some k ≡ (if test then Some n else None)
    → Some k ≡ (if test then Some n else other)
numbered true n k other given = given
numbered false n k other given = cc

-- a result by full name
pub not_numbered : (test : Bool) (n : ℕ) (other : Option ℕ) → None ≡ (if test then Some n else None)
    → other ≡ (if test then Some n else other)
not_numbered true n other given = cc
not_numbered false n other given = refl

-- the index of the first item that passes, by a test of its image
pub position_or_len-map : {X Y : Type 0} (p : Y → Bool) (f : X → Y) (xs : List X)
    → position_or_len p (map f xs) ≡ position_or_len (λ x. p (f x)) xs
position_or_len-map p f [] = refl
position_or_len-map p f (x ∷ xs) = ap (λ (n : ℕ). cond (not (p (f x))) (1 + n) 0) (position_or_len-map p f xs)

pub position-map : {X Y : Type 0} (p : Y → Bool) (f : X → Y) (xs : List X)
    → position p (map f xs) ≡ position (λ x. p (f x)) xs
position-map p f xs = cc (position_or_len-map p f xs, length-map xs f)

-- the full name at a position
pub full_name_at : (signals : List Signal) (k : ℕ) (s : Signal) → k < length signals → s ≡ get_or signals k s
    → slice_get (full_names (map signal_contents signals)) k ≡ Some (full_name (signal_contents s))
full_name_at signals k s within here =
    rw (slice_get-map, slice_get-map, slice_get_read signals (length signals) k s refl within here) refl

-- a text is the full name at a position exactly where it is the full name of that signal
pub full_name_is : (signals : List Signal) (k : ℕ) (s : Signal) (name : List ℕ) (answer : Bool) → k < length signals
    → s ≡ get_or signals k s → answer ≡ bytes_eq name (full_name (signal_contents s))
    → IsTrue answer ↔ (slice_get (full_names (map signal_contents signals)) k ≡ Some name)
full_name_is signals k s name answer within here is =
    let at = full_name_at signals k s within here in
    let decides = bytes_eq-Decides name (full_name (signal_contents s)) in (
      (λ yes. at ∙ ap (λ (n : List ℕ). Some n) (sym (decides.0 (sym is ∙ yes)))),
      (λ same. is ∙ decides.1 (same_Some _ _ (sym same ∙ at))),
    )

-- the signal that a name names: a position in digits, or the first signal with that full name
pub lookup_numbered : (signals : List Signal) (name : List ℕ) (k : ℕ)
    → Some k ≡ (if is_numbered name && nat_lt (number_in name) (length signals) then Some (number_in name) else None)
    → Some k ≡ lookup (map signal_contents signals) name
unfolding lookup
lookup_numbered signals name k given =
    rw (length-map signals signal_contents)
    (numbered (is_numbered name && nat_lt (number_in name) (length signals)) (number_in name) k _ given)

pub lookup_named : (signals : List Signal) (name : List ℕ) (answer : Option ℕ)
    → None ≡ (if is_numbered name && nat_lt (number_in name) (length signals) then Some (number_in name) else None)
    → answer ≡ position (λ s. bytes_eq name (full_name (signal_contents s))) signals
    → answer ≡ lookup (map signal_contents signals) name
unfolding lookup
lookup_named signals name answer given first =
    let of_contents = position-map (λ (s : SignalContents). bytes_eq name (full_name s)) signal_contents signals in
    let of_names = position-map (bytes_eq name) full_name (map signal_contents signals) in
    first ∙ sym of_contents ∙ sym of_names
    ∙ rw (length-map signals signal_contents)
    (not_numbered (is_numbered name && nat_lt (number_in name) (length signals)) (number_in name) _ given)
