-- The fault of a file is the one that is found in it, and no other, unless memory ran out.
use Rattle.std.proofs.Common.{arith, ◌≡◌, ◌⊎◌, inl, inr, ℕ, List, ◌++◌, take, Bool, Option, Some, sym, ◌∙◌, ap, ap₂}
use Rattle.std.proofs.lemmas.List.{append_cancel_right}
use Rattle.vcd_core.specs.Contents.{Contents}
use Rattle.vcd_text.specs.declared.fault.Fault.{Fault}
use Rattle.vcd_text.specs.declared.fault.Fault.TheVariants.{Truncated}
use Rattle.vcd_text.specs.declared.fault.Fault.TheVariants as faults
use Rattle.vcd_text.specs.Words.{words_of, last_line, WordOnLine}
use Rattle.vcd_text.specs.Faults.{ShowsFault, IsFileFault, shown, none_shown, HasFault, IsPrefixAnswer}
use Rattle.vcd_text.specs.FoundFaults.{IsFoundFault, word_shows, too_early}
use Rattle.vcd_text.specs.Meaning.{FileMeans}
use Rattle.vcd_text.specs.Laws.{EveryFileHasAtMostOneFault, NoFileHasMeaningAndFault, EveryFileHasMeaningOrFault}
use Rattle.vcd_text.specs.Laws.{EveryFaultIsFound, PrefixFaultIsFileFault}
use Rattle.vcd_text.specs.declared.fault.ReadError.{ReadError}
use Rattle.vcd_text.specs.Refusals.{IsRefusal, IsOnlyRefusal, has_fault, too_large, reader_failed, no_memory}
use Rattle.vcd_text.proofs.shared.ResultIsUnique.{one_found_fault, meaning-no_found_fault, stopped-not_refused}
use Rattle.vcd_text.proofs.shared.ResultIsUnique.{one_fault}
use Rattle.vcd_text.proofs.shared.ResultExists.{a_found_answer}
use Rattle.vcd_text.proofs.shared.FaultOfPrefix.{prefix_fault_found}

-- ==== the fault of a file is the one that is found in it

pub file_fault : (limit : ℕ) (bytes : List ℕ) (line : ℕ) (fault : Fault) → IsFoundFault limit bytes line fault
    → IsFileFault limit bytes line fault
file_fault limit bytes line fault (word_shows s) =
    (λ c n means. meaning-no_found_fault limit bytes c n line fault means (word_shows s), shown s)
file_fault limit bytes line fault (too_early stops l f) = (
  λ c n means. meaning-no_found_fault limit bytes c n line fault means (too_early stops l f),
  none_shown (λ at other s. stopped-not_refused limit (words_of bytes) at other stops s) l f,
)

-- if no word shows a fault and there is no meaning, the words end too early
ends_early : (limit : ℕ) (bytes : List ℕ) (line : ℕ) (fault : Fault) →
    ((c : Contents) (n : ℕ) → FileMeans limit bytes c n → ⊥)
    → ((at : ℕ) (other : Fault) → ShowsFault limit (words_of bytes) at other → ⊥) → line ≡ last_line bytes
    → fault ≡ Truncated → ((c : Contents) × (n : ℕ) × FileMeans limit bytes c n)
    ⊎ ((at : ℕ) × (other : Fault) × IsFoundFault limit bytes at other) → IsFoundFault limit bytes line fault
ends_early limit bytes line fault none silent l f (inl (c, n, means)) = absurd (none c n means)
ends_early limit bytes line fault none silent l f (inr (at, other, word_shows s)) = absurd (silent at other s)
ends_early limit bytes line fault none silent l f (inr (at, other, too_early stops last early)) = too_early stops l f

pub found_fault : EveryFaultIsFound
found_fault limit bytes line fault (none, shown s) = word_shows s
found_fault limit bytes line fault (none, none_shown silent l f) = search (arith, ends_early, a_found_answer)

-- ---- the laws

pub one_file_fault : EveryFileHasAtMostOneFault
one_file_fault limit bytes line other_line fault other_fault has also = one_found_fault limit bytes line other_line
    fault other_fault (found_fault limit bytes line fault has) (found_fault limit bytes other_line other_fault also)

pub meaning-no_fault : NoFileHasMeaningAndFault
meaning-no_fault limit bytes c n line fault means has = has.0 c n means

pub an_answer : EveryFileHasMeaningOrFault
an_answer limit bytes =
    elim (a_found_answer limit bytes) [
      | inl means ↦ inl means
      | inr found ↦ inr (found.0, found.1, file_fault limit bytes found.0 found.1 found.2)
    ]

pub prefix_fault_stays : PrefixFaultIsFileFault
prefix_fault_stays limit prefix rest line fault s = search (arith, file_fault, prefix_fault_found)

-- ==== a file is refused for one fault, unless memory ran out

error_on : ℕ → Fault → ReadError
error_on line fault = record { line = line; fault = fault }

-- errors with the same fault at the same line
same_error : (d e : ReadError) → (d.line ≡ e.line) × (d.fault ≡ e.fault) → d ≡ e
unfolding error_on
same_error d e same = ap₂ error_on same.0 same.1

-- a file has one fault
pub one_error : (limit : ℕ) (file : List ℕ) (d e : ReadError) → IsFileFault limit file d.line d.fault
    → IsFileFault limit file e.line e.fault → d ≡ e
one_error limit file d e has also = same_error d e (one_file_fault limit file d.line e.line d.fault e.fault has also)

-- and so have words of which none may show one
one_of_words : (limit : ℕ) (words : List WordOnLine) (last : ℕ) (otherwise : Fault) (d e : ReadError)
    → HasFault limit words last otherwise d.line d.fault → HasFault limit words last otherwise e.line e.fault → d ≡ e
one_of_words limit words last otherwise d e (shown s) (shown t) =
    same_error d e (one_fault limit words d.line e.line d.fault e.fault s t)
one_of_words limit words last otherwise d e (shown s) (none_shown silent line is) = absurd (silent d.line d.fault s)
one_of_words limit words last otherwise d e (none_shown silent line is) (shown t) = absurd (silent e.line e.fault t)
one_of_words limit words last otherwise d e (none_shown silent line is) (none_shown also other_line other_is) =
    same_error d e (line ∙ sym other_line, is ∙ sym other_is)

-- a prefix of a file has one answer
pub one_prefix_answer : (limit : ℕ) (prefix : List ℕ) (reason : Fault) (d e : ReadError)
    → IsPrefixAnswer limit prefix reason d → IsPrefixAnswer limit prefix reason e → d ≡ e
one_prefix_answer limit prefix reason d e answer also = one_of_words limit _ _ reason d e answer also

-- the bytes left say where the reader failed
one_broken_prefix : (limit : ℕ) (file : List ℕ) (left : Option (List ℕ)) (prefix other rest others : List ℕ)
    (d e : ReadError) → left ≡ Some rest → left ≡ Some others → file ≡ prefix ++ rest → file ≡ other ++ others
    → IsPrefixAnswer limit prefix faults.ReadFault d → IsPrefixAnswer limit other faults.ReadFault e → d ≡ e
one_broken_prefix limit file left prefix other rest others d e left_is left_too is too answer also =
    let rests : rest ≡ others = cc in
    let prefixes : prefix ≡ other = grind (arith, append_cancel_right) in
    one_prefix_answer limit other faults.ReadFault d e (rw prefixes at answer) also

module _ (limit most : ℕ) (file : List ℕ) (failed : Bool) (left : Option (List ℕ)) where
  pub one_refusal : (e : ReadError) → IsRefusal limit most file failed left e
      → IsOnlyRefusal limit most file failed left e
  one_refusal e (no_memory is) other also = inr (inl (ap (λ (e : ReadError). e.fault) is))
  one_refusal e (has_fault whole short fault) other (no_memory is) = grind arith
  one_refusal e (has_fault whole short fault) other (has_fault also is fault_too) =
      inl (one_error limit file other e fault_too fault)
  one_refusal e (has_fault whole short fault) other (too_large also long answer) = grind arith
  one_refusal e (has_fault whole short fault) other (reader_failed p r has left_is is near answer) = absurd (cc)
  one_refusal e (too_large whole long answer) other (no_memory is) = grind arith
  one_refusal e (too_large whole long answer) other (has_fault also short fault) = grind arith
  one_refusal e (too_large whole long answer) other (too_large also is answer_too) =
      inl (one_prefix_answer limit (take most file) faults.TooLarge other e answer_too answer)
  one_refusal e (too_large whole long answer) other (reader_failed p r has left_is is near also) = absurd (cc)
  one_refusal e (reader_failed p r has left_is is near answer) other (no_memory none) =
      inr (inr (ap (λ (e : ReadError). e.fault) none))
  one_refusal e (reader_failed p r has left_is is near answer) other (has_fault whole short fault) = absurd (cc)
  one_refusal e (reader_failed p r has left_is is near answer) other (too_large whole long also) = absurd (cc)
  one_refusal e (reader_failed p r has left_is is near answer) other (reader_failed q s has_too left_too too far also) =
      inl (one_broken_prefix limit file left q p s r other e left_too left_is too is also answer)
