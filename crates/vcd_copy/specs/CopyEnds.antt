-- How copying a file ends before it is copied: the project's own.
use Rattle.std.specs.Prelude.{◌≡◌, ℕ, Bool, List, Option, IfSome, IsTrue, IsFalse}
use Rattle.vcd_copy.specs.declared.copying.copy_error.CopyError.{CopyError}
use Rattle.vcd_copy.specs.declared.copying.copy_error.CopyError.TheVariants as copy_errors
use Rattle.vcd_text.specs.declared.fault.Fault.TheVariants as faults
use Rattle.vcd_text.specs.declared.fault.ReadError.{ReadError}
use Rattle.vcd_text.specs.Words.{words_of}
use Rattle.vcd_text.specs.Grammar.{ParseState, Accepts}
use Rattle.vcd_text.specs.Refusals.{IsRefusal}
use Rattle.vcd_text.specs.WriteEnds.{TookBefore}

-- the fault of reading a file with these limits from a reader, of which `coming` was to come and
-- `left` is left; the reader has failed if the fault says so, and else not
pub record ReadFails (limit byte_limit : ℕ) (coming left : Option (List ℕ)) (failed : Bool)
    (e : ReadError) : Type 0 where
  pub refused : IfSome coming (λ file. IsRefusal limit byte_limit file failed left e)
  pub failed_reader : e.fault ≡ faults.ReadFault → IsTrue failed
  pub other : (e.fault ≡ faults.ReadFault → ⊥) → IsFalse failed

-- why a file was not copied: the fault of reading it, or that of the writer, which took a counted
-- prefix of some text; the reader has then not failed
abbrev pub CopyFails : (limit byte_limit : ℕ) → (coming left : Option (List ℕ)) → (failed : Bool)
    → (before after : Option (List ℕ)) → (writer_failed : Bool) → CopyError → Type 0
CopyFails limit byte_limit coming left failed before after writer_failed (copy_errors.Read e) =
    ReadFails limit byte_limit coming left failed e
CopyFails limit byte_limit coming left failed before after writer_failed (copy_errors.Write e) =
    IsFalse failed × (text : List ℕ) × TookBefore text before after writer_failed e

-- what a writer took that has failed: of an accepted file a counted prefix of the copy
abbrev pub TookFirst : (limit : ℕ) → (is_copy : (file text : List ℕ) → Type 0)
    → (coming : Option (List ℕ)) → (before after : Option (List ℕ)) → (writer_failed : Bool)
    → CopyError → Type 0
TookFirst limit is_copy coming before after writer_failed (copy_errors.Read e) = Unit {0}
TookFirst limit is_copy coming before after writer_failed (copy_errors.Write e) =
    IsTrue writer_failed → IfSome coming (λ file. (s : ParseState)
    → Accepts limit (words_of file) s → (text : List ℕ) × is_copy file text
    × TookBefore text before after writer_failed e)
