-- What a device shows: by the result of a call whether it has failed, and its bytes before a run
-- and after it. The rules are the project's own.
use Rattle.std.specs.Prelude.{◌≡◌, ◌≤◌, ℕ, Bool, true, false, List, length, take, Option, IfSome}
use Rattle.std.specs.Prelude.{Result, OnOk, OnErr, IsErr}
use Rattle.std.specs.Io.KnownBytes.{Appends, IsAtEnd}

-- how the result of a call shows whether the device has failed
pub record FailureMatches {T E : Type 0} (before after : Bool) (answer : Result T E) : Type 0 where
  -- after an Ok it has not failed
  pub not_failed : OnOk answer (after ≡ false)
  -- an Err means that it has failed
  pub fault : OnErr answer (after ≡ true)
  -- after a failure every call is an Err
  pub stays : before ≡ true → IsErr answer

-- a device before and after: the bytes to come from a source, or taken by a writer, if shown;
-- whether it failed
pub record DeviceEnd : Type 0 where
  pub before : Option (List ℕ)
  pub after : Option (List ℕ)
  pub has_failed : Bool

-- a device is unchanged: it shows the same bytes as before, and has not failed
abbrev pub IsUntouched : DeviceEnd → Type 0
IsUntouched d = (d.after ≡ d.before) × (d.has_failed ≡ false)

-- a source did not fail: it was read to its end, and had at most `byte_limit` bytes
abbrev pub IsRead : (byte_limit : ℕ) → DeviceEnd → Type 0
IsRead byte_limit r = (r.has_failed ≡ false) × IsAtEnd r.after
    × IfSome r.before (λ bytes. length bytes ≤ byte_limit)

-- a writer took this text
abbrev pub HasText : DeviceEnd → List ℕ → Type 0
HasText w text = Appends w.before w.after text

-- a writer took the first `count` bytes of a text
abbrev pub HasPrefix : DeviceEnd → (count : ℕ) → List ℕ → Type 0
HasPrefix w count text = (count ≤ length text) × HasText w (take count text)

-- the end of a device, by what it shows, and whether it has failed
abbrev pub device_end : {D : Type 0} → (shown : D → Option (List ℕ)) → (has_failed : D → Bool)
    → (old new : D) → DeviceEnd
device_end shown has_failed old new =
    record { before = shown old; after = shown new; has_failed = has_failed new }
