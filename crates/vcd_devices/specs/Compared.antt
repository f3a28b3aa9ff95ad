-- What a sink that compares shows, and why it fails: the project's own.
use Rattle.std.specs.Prelude.{◌≡◌, ℕ, ◌+◌, ◌-◌, ◌^◌, ◌==◌, ◌<◌, min, if◌then◌else◌, Bool, true}
use Rattle.std.specs.Prelude.{List, [], ◌∷◌, ◌++◌, length, take, drop, bytes_eq}
use Rattle.std.specs.Prelude.{Option, Some, None, IfSome}
use Rattle.std.specs.Option.{option_map}
use Rattle.std.specs.List.{common_prefix_len}
use Rattle.std.specs.Io.KnownBytes.{Consumes, IsAtEnd}
use Rattle.vcd_devices.specs.declared.verify_fault.VerifyFault.{VerifyFault}
use Rattle.vcd_devices.specs.declared.verify_fault.VerifyFault.TheVariants as faults

-- the bytes of a file before these, if it ends with these
abbrev pub bytes_before : (file last : List ℕ) → Option (List ℕ)
bytes_before file last = if bytes_eq (drop (length file - length last) file) last
    then Some (take (length file - length last) file) else None

-- what a sink shows that compares with a file, of which these bytes are left: the length of the
-- file, the file, and then what it took of it; so whatever it takes is appended, and it shows with
-- which file it compares
unfoldable pub shown : (file left : Option (List ℕ)) → Option (List ℕ)
shown (Some file) (Some left) =
    option_map (λ took. length file ∷ file ++ took) (bytes_before file left)
shown file left = None

-- what it shows of a file that it took whole
abbrev pub shown_whole : (file : List ℕ) → List ℕ
shown_whole file = length file ∷ file ++ file

-- with how many bytes both begin
abbrev pub same_len : (bytes found : List ℕ) → ℕ
same_len = common_prefix_len (λ a b. a == b)

-- of these bytes another one was found, after so many that were the same
abbrev pub IsOtherByte : (same : ℕ) → (bytes found : List ℕ) → VerifyFault → Type 0
IsOtherByte same bytes found fault = (same_len bytes found < length found)
    × (fault ≡ faults.Differs (min (same + same_len bytes found) (2 ^ 64 - 1)))

-- why a sink does not take bytes after so many that were the same, by what comes of its source: one
-- of the bytes that come is another, or none comes, or the source has failed
abbrev pub IsOther : (same : ℕ) → (bytes : List ℕ) → (old new : Option (List ℕ))
    → (has_failed : Bool) → VerifyFault → Type 0
IsOther same bytes old new has_failed (faults.Differs n) =
    (found : List ℕ) × Consumes old new found × IsOtherByte same bytes found (faults.Differs n)
IsOther same bytes old new has_failed (faults.EndsEarly n) =
    (n ≡ same) × IsAtEnd old × (0 < length bytes)
IsOther same bytes old new has_failed faults.NotRead = has_failed ≡ true
IsOther same bytes old new has_failed fault = ⊥

-- a sink took the whole file with which it compares
abbrev pub ShowsWhole : (taken : Option (List ℕ)) → Type 0
ShowsWhole taken = IfSome taken (λ bytes. (file : List ℕ) × (bytes ≡ shown_whole file))

-- why a file that is the same so far is not the same, by what comes of its source: one byte more,
-- or the source has failed
abbrev pub IsRest : (same : ℕ) → (old new : Option (List ℕ)) → (has_failed : Bool) → VerifyFault
    → Type 0
IsRest same old new has_failed (faults.GoesOn n) =
    (n ≡ same) × (byte : ℕ) × Consumes old new (byte ∷ [])
IsRest same old new has_failed faults.NotRead = has_failed ≡ true
IsRest same old new has_failed fault = ⊥
