-- How a copy ends early: what a writer took that has failed, and an error of memory.
use Rattle.std.proofs.Common.{◌≡◌, ◌∙◌, ℕ, Bool, false, List, sym, refl}
use Rattle.std.specs.Prelude.{Option, Some, None, IfSome, Result, Ok, Err, IfErr}
use Rattle.std.proofs.lemmas.Bool.{false≢true}
use Rattle.std.proofs.lemmas.Option.{IfSome_then}
use Rattle.vcd_text.specs.MemoryErrors.{memory_error}
use Rattle.vcd_text.specs.Refusals.{IsRefusal, no_memory}
use Rattle.vcd_copy.specs.CopyEnds.{TookFirst, ReadFails}
use Rattle.vcd_copy.specs.declared.copying.copy_error.CopyError.{CopyError}
use Rattle.vcd_copy.specs.declared.copying.copy_error.CopyError.TheVariants as copy_errors

pub begun_as : {T : Type 0} (P Q : (file text : List ℕ) → Type 0) (limit : ℕ) (coming before after : Option (List ℕ))
    (writer_failed : Bool) (r : Result T CopyError)
    → ((file text : List ℕ) → P file text → Q file text)
    → IfErr r (TookFirst limit P coming before after writer_failed)
    → IfErr r (TookFirst limit Q coming before after writer_failed)
begun_as P Q limit coming before after writer_failed (Ok x) then begun = tt
begun_as P Q limit coming before after writer_failed (Err (copy_errors.Read e)) then begun = tt
begun_as P Q limit coming before after writer_failed (Err (copy_errors.Write e)) then begun =
    λ has_failed. IfSome_then coming (begun has_failed) (λ file of s accepted.
    let (text, copy, took) = of s accepted in (text, then file text copy, took))

-- the writer has not failed
pub none_begun : (is_copy : (file text : List ℕ) → Type 0) (limit : ℕ) (coming before after : Option (List ℕ))
    (writer_failed : Bool) (e : CopyError) → writer_failed ≡ false
    → TookFirst limit is_copy coming before after writer_failed e
none_begun is_copy limit coming before after writer_failed (copy_errors.Read e) ready = tt
none_begun is_copy limit coming before after writer_failed (copy_errors.Write e) ready =
    λ has_failed. absurd (false≢true (sym ready ∙ has_failed))

-- memory ran out, while the reader has not failed
pub memory_fails : (limit most : ℕ) (coming left : Option (List ℕ)) (failed : Bool) → failed ≡ false
    → ReadFails limit most coming left failed memory_error
memory_fails limit most coming left failed ready = record {
  refused = refused coming;
  failed_reader = λ is. absurd (cc is);
  other = λ isnt. ready;
}
  where
    refused : (coming : Option (List ℕ)) → IfSome coming (λ file. IsRefusal limit most file failed left memory_error)
    refused None = tt
    refused (Some file) = no_memory refl
