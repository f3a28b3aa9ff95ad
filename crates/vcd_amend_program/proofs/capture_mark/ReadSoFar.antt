-- A source that is read to its end: what was read so far, and at the end.
use Rattle.std.proofs.Common.{◌≡◌, ◌∙◌, ◌+◌, ◌-◌, ◌≤◌, ◌^◌, ◌++◌, ℕ, List, [], Option, Some, None, length, take}
use Rattle.std.proofs.Common.{refl, sym, ap, subst, arith, append_assoc, min}
use Rattle.std.specs.Prelude.{IfSome}
use Rattle.std.specs.Io.KnownBytes.{Consumes, IsAtEnd}
use Rattle.std.proofs.lemmas.List.{append-nil, length-append, length-take-le}

-- the bytes that were read of a source, by which these are left, and their count as far as a `u64` goes
pub record IsReadSoFar (holds : List ℕ → Type 0) (before now : Option (List ℕ)) (size : ℕ) : Type 0 where
  pub bytes : List ℕ
  pub held : holds bytes
  pub consumed : Consumes before now bytes
  pub counted : size ≡ min (length bytes) (2 ^ 64 - 1)

both_consumed : (a b c : Option (List ℕ)) (xs ys : List ℕ) → Consumes a b xs → Consumes b c ys
    → Consumes a c (xs ++ ys)
both_consumed None b c xs ys first second = tt
both_consumed (Some l) None c xs ys first second = absurd first
both_consumed (Some l) (Some m) None xs ys first second = absurd second
both_consumed (Some l) (Some m) (Some n) xs ys first second =
    first ∙ ap (λ (rest : List ℕ). xs ++ rest) second ∙ sym (append_assoc xs ys n)

none_consumed : (a : Option (List ℕ)) → Consumes a a []
none_consumed None = tt
none_consumed (Some l) = refl

pub read_none : (holds : List ℕ → Type 0) (a : Option (List ℕ)) → holds [] → IsReadSoFar holds a a 0
read_none holds a held = record { bytes = []; held = held; consumed = none_consumed a; counted = omega arith }

pub read_more : (holds next : List ℕ → Type 0) (a b c : Option (List ℕ)) (size count more : ℕ) (buffer : List ℕ)
    → IsReadSoFar holds a b size → Consumes b c (take count buffer) → count ≤ length buffer
    → ((m : List ℕ) → holds m → next (m ++ take count buffer)) → more ≡ min (size + count) (2 ^ 64 - 1)
    → IsReadSoFar next a c more
read_more holds next a b c size count more buffer so consumes within holds_more sum = record {
  bytes = so.bytes ++ take count buffer;
  held = holds_more so.bytes so.held;
  consumed = both_consumed a b c so.bytes (take count buffer) so.consumed consumes;
  counted =
      let taken : length (take count buffer) ≡ count = length-take-le count buffer within in
      let joined = length-append so.bytes (take count buffer) in
      omega (arith, so.counted, sum, taken, joined);
}

-- at the end all of the file was read
pub read_all : (holds : List ℕ → Type 0) (a b c : Option (List ℕ)) (size count : ℕ) (buffer : List ℕ)
    → IsReadSoFar holds a b size → Consumes b c (take count buffer) → count ≡ 0 → IsAtEnd c
    → IfSome a (λ file. holds file × (size ≡ min (length file) (2 ^ 64 - 1)))
read_all holds None b c size count buffer so consumes none at_end = tt
read_all holds (Some l) None c size count buffer so consumes none at_end = absurd so.consumed
read_all holds (Some l) (Some m) None size count buffer so consumes none at_end = absurd consumes
read_all holds (Some l) (Some m) (Some n) size count buffer so consumes none at_end =
    let left : m ≡ [] = consumes ∙ ap (λ (k : ℕ). take k buffer ++ n) none ∙ at_end in
    let all : so.bytes ≡ l =
    sym (so.consumed ∙ ap (λ (rest : List ℕ). so.bytes ++ rest) left ∙ append-nil so.bytes) in (
      subst holds all so.held,
      so.counted ∙ ap (λ (f : List ℕ). min (length f) (2 ^ 64 - 1)) all,
    )
