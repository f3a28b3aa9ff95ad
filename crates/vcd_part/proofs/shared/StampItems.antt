-- Which items are stamps.
use Rattle.std.proofs.Common.{◌≡◌, ◌∙◌, ℕ, Bool, true, false, List, refl, sym}
use Rattle.std.proofs.lemmas.Bool.{false≢true}
use Rattle.vcd_text.specs.Items.{Item, entry, timescale, scope, upscope, variable, end_definitions, stamp, scalar}
use Rattle.vcd_text.specs.Items.{vector, real_or_string, dump_word, other}
use Rattle.vcd_copy.specs.Copied.{may_be_amended}
use Rattle.vcd_part.specs.PartPieces.{is_stamp, is_later_stamp}

-- a stamp of a tick above 0 is a stamp
pub later_is_stamp : (i : Item) → is_later_stamp i ≡ true → is_stamp i ≡ true
later_is_stamp (entry kind words) later = later
later_is_stamp (timescale words) later = later
later_is_stamp (scope kind words) later = later
later_is_stamp upscope later = later
later_is_stamp (variable words) later = later
later_is_stamp end_definitions later = later
later_is_stamp (stamp digits) later = refl
later_is_stamp (scalar digit code) later = later
later_is_stamp (vector first digits code) later = later
later_is_stamp (real_or_string first text code) later = later
later_is_stamp (dump_word word) later = later
later_is_stamp (other word words) later = later

-- its digits
pub stamp_digits : (i : Item) → is_stamp i ≡ true → (digits : List ℕ) × (i ≡ stamp digits)
stamp_digits (entry kind words) never = absurd (false≢true never)
stamp_digits (timescale words) never = absurd (false≢true never)
stamp_digits (scope kind words) never = absurd (false≢true never)
stamp_digits upscope never = absurd (false≢true never)
stamp_digits (variable words) never = absurd (false≢true never)
stamp_digits end_definitions never = absurd (false≢true never)
stamp_digits (stamp digits) is = (digits, refl)
stamp_digits (scalar digit code) never = absurd (false≢true never)
stamp_digits (vector first digits code) never = absurd (false≢true never)
stamp_digits (real_or_string first text code) never = absurd (false≢true never)
stamp_digits (dump_word word) never = absurd (false≢true never)
stamp_digits (other word words) never = absurd (false≢true never)

-- an item that is no stamp is none of a tick above 0
pub no_later_stamp : (i : Item) → is_stamp i ≡ false → is_later_stamp i ≡ false
no_later_stamp i isnt = by_test (is_later_stamp i) refl
  where
    by_test : (b : Bool) → is_later_stamp i ≡ b → b ≡ false
    by_test true later = absurd (false≢true (sym isnt ∙ later_is_stamp i later))
    by_test false later = refl

-- an item that no rule may amend is no stamp
pub other_no_stamp : (i : Item) → may_be_amended i ≡ false → is_stamp i ≡ false
other_no_stamp (entry kind words) not_it = refl
other_no_stamp (timescale words) not_it = refl
other_no_stamp (scope kind words) not_it = refl
other_no_stamp upscope not_it = refl
other_no_stamp (variable words) not_it = absurd (cc)
other_no_stamp end_definitions not_it = absurd (cc)
other_no_stamp (stamp digits) not_it = absurd (cc)
other_no_stamp (scalar digit code) not_it = absurd (cc)
other_no_stamp (vector first digits code) not_it = absurd (cc)
other_no_stamp (real_or_string first text code) not_it = absurd (cc)
other_no_stamp (dump_word word) not_it = refl
other_no_stamp (other word words) not_it = refl
