-- The faults of reading a file from a source, for all bytes of the file: the project's own.
use Rattle.std.specs.Prelude.{◌≡◌, ◌⊎◌, ℕ, ◌<◌, ◌≤◌, List, ◌++◌, take, length, Option, Some}
use Rattle.std.specs.Prelude.{IsTrue, IsFalse, Bool}
use Rattle.vcd_text.specs.declared.fault.Fault.TheVariants as faults
use Rattle.vcd_text.specs.declared.fault.ReadError.{ReadError}
use Rattle.vcd_text.specs.Faults.{IsFileFault, IsPrefixAnswer}

-- the fault of reading a file with these limits, of kept variables and of bytes, from a reader that
-- has failed or not, with these bytes left if it shows them
pub data IsRefusal (limit byte_limit : ℕ) (file : List ℕ) (failed : Bool) (left : Option (List ℕ))
    (e : ReadError) : Type 0 where
  -- the whole file was read, and has this fault
  has_fault : IsFalse failed → length file ≤ byte_limit → IsFileFault limit file e.line e.fault
      → IsRefusal limit byte_limit file failed left e
  -- the file has more bytes than the limit
  too_large : IsFalse failed → byte_limit < length file
      → IsPrefixAnswer limit (take byte_limit file) faults.TooLarge e
      → IsRefusal limit byte_limit file failed left e
  -- the reader failed after this prefix
  reader_failed : (prefix rest : List ℕ) → IsTrue failed → left ≡ Some rest → file ≡ prefix ++ rest
      → length prefix ≤ byte_limit → IsPrefixAnswer limit prefix faults.ReadFault e
      → IsRefusal limit byte_limit file failed left e
  -- memory ran out: no line
  no_memory : e ≡ record { line = 0; fault = faults.NoMemory }
      → IsRefusal limit byte_limit file failed left e

-- the file is refused for this alone: no other fault is possible, except that memory ran out
abbrev pub IsOnlyRefusal : (limit byte_limit : ℕ) → (file : List ℕ) → (failed : Bool)
    → (left : Option (List ℕ)) → ReadError → Type 0
IsOnlyRefusal limit byte_limit file failed left e =
    (other : ReadError) → IsRefusal limit byte_limit file failed left other
    → (other ≡ e) ⊎ (e.fault ≡ faults.NoMemory) ⊎ (other.fault ≡ faults.NoMemory)
