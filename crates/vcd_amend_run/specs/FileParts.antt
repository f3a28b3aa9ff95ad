-- What is read of a file in two passes: the outline of its capture, and the changes of some of its
-- signals. The project's own.
use Rattle.std.specs.Prelude.{◌≡◌, ◌≢◌, ℕ, Bool, true, false, List, Option, IfSome, slice_index_or}
use Rattle.vcd_core.specs.Contents.{Contents}
use Rattle.vcd_core.specs.Outline.{outline}
use Rattle.vcd_text.specs.Meaning.{FileMeans}
use Rattle.vcd_copy.specs.CopyEnds.{ReadFails}
use Rattle.vcd_hollow.specs.Hollow.{hollow}
use Rattle.vcd_amend_run.specs.declared.hearing.HearError.{HearError}
use Rattle.vcd_amend_run.specs.declared.hearing.HearError.TheVariants as hear_errors

-- the file means a capture with this outline, with this number of skipped variables
pub record HasOutline (limit : ℕ) (file : List ℕ) (declared : Contents) (skipped : ℕ) : Type 0 where
  pub whole : Contents
  pub means : FileMeans limit file whole skipped
  pub is : declared ≡ outline whole

-- a capture without the changes of some signals, none of which is heard
abbrev pub IsHollow : (heard : List Bool) → (whole read : Contents) → Type 0
IsHollow heard whole read = (silent : ℕ → Bool)
    × ((k : ℕ) → slice_index_or heard k false ≡ true → silent k ≡ false)
    × (read ≡ hollow silent whole)

-- the file means a capture; if it has the outline that was read before, this is what was read of it
-- now, in which the heard signals have their changes
pub record HasHollow (limit : ℕ) (file : List ℕ) (declared : Contents) (heard : List Bool)
    (read : Contents) : Type 0 where
  pub whole : Contents
  pub skipped : ℕ
  pub means : FileMeans limit file whole skipped
  pub is : outline whole ≡ declared → IsHollow heard whole read

-- the file means a capture of another outline than was read before
pub record HasOtherOutline (limit : ℕ) (file : List ℕ) (declared : Contents) : Type 0 where
  pub whole : Contents
  pub skipped : ℕ
  pub means : FileMeans limit file whole skipped
  pub other : outline whole ≢ declared

-- why the changes of a file's signals were not read: the fault of reading it, or it is not the file
-- whose outline was read
abbrev pub HearFails : (limit byte_limit : ℕ) → (declared : Contents)
    → (coming left : Option (List ℕ)) → (failed : Bool) → HearError → Type 0
HearFails limit byte_limit declared coming left failed (hear_errors.Read e) =
    ReadFails limit byte_limit coming left failed e
HearFails limit byte_limit declared coming left failed hear_errors.Changed =
    IfSome coming (λ file. HasOtherOutline limit file declared)
