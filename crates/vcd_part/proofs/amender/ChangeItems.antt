-- Changes, which leave the variables and the tick as they are.
use Rattle.std.proofs.Common.{◌≡◌, ℕ, Bool, true, false, List, []}
use Rattle.std.proofs.Common.{refl, ap}
use Rattle.std.specs.Prelude.{Ok, Err}
use Rattle.std.proofs.lemmas.Bool.{and_parts}
use Rattle.vcd_text.specs.Items.{Item, entry, timescale, scope, upscope, variable, end_definitions, stamp, scalar}
use Rattle.vcd_text.specs.Items.{vector, real_or_string, dump_word, other}
use Rattle.vcd_text.specs.Grammar.{ParseState, fits, state_after_item}
use Rattle.vcd_copy.specs.Pieces.{Piece}
use Rattle.vcd_copy.specs.Copied.{may_be_amended}
use Rattle.vcd_text.specs.declared.reading.choice.TickRange.{TickRange}
use Rattle.vcd_part.specs.declared.request.Request.{Request}
use Rattle.vcd_part.specs.declared.request.Refusal.{Refusal}
use Rattle.vcd_part.specs.PartPieces.{body_in_part, change_in_part, is_stamp}
use Rattle.vcd_part.specs.inside.CodeUses.{IsChangeItem}
use Rattle.vcd_part.proofs.amender.Steps.{IsSame}

-- what a change of this code is in all regards
pub record IsChange (i : Item) (code : List ℕ) : Type 0 where
  pub amended : may_be_amended i ≡ true
  pub no_stamp : is_stamp i ≡ false
  pub in_body : (s : ParseState) → fits s i ≡ true → s.in_body ≡ true
  pub same : (s : ParseState) → IsSame s (state_after_item s i)
  pub pieces : (r : Request) (s : ParseState) (before : List Piece) (p : Piece) (w : TickRange)
      → body_in_part r s before p i (Ok w) ≡ change_in_part r w s p code
  pub none : (r : Request) (s : ParseState) (before : List Piece) (p : Piece) (refusal : Refusal)
      → body_in_part r s before p i (Err refusal) ≡ []

pub change_is : (i : Item) (is_text : Bool) (code : List ℕ) → IsChangeItem i is_text code → IsChange i code
change_is (scalar digit own) false code is = let same : own ≡ code = cc in record {
  amended = refl;
  no_stamp = refl;
  in_body = λ s fit. (and_parts _ _ fit).0;
  same = λ s. record { declared = refl; in_body = refl; tick = refl; timescale = λ body. refl };
  pieces = λ r s before p w. ap (change_in_part r w s p) same;
  none = λ r s before p refusal. refl;
}
change_is (vector first digits own) false code is = let same : own ≡ code = cc in record {
  amended = refl;
  no_stamp = refl;
  in_body = λ s fit. (and_parts _ _ fit).0;
  same = λ s. record { declared = refl; in_body = refl; tick = refl; timescale = λ body. refl };
  pieces = λ r s before p w. ap (change_in_part r w s p) same;
  none = λ r s before p refusal. refl;
}
change_is (real_or_string first text own) true code is = let same : own ≡ code = cc in record {
  amended = refl;
  no_stamp = refl;
  in_body = λ s fit. (and_parts _ _ fit).0;
  same = λ s. record { declared = refl; in_body = refl; tick = refl; timescale = λ body. refl };
  pieces = λ r s before p w. ap (change_in_part r w s p) same;
  none = λ r s before p refusal. refl;
}
change_is (real_or_string first text own) false code is = absurd (cc)
change_is (scalar digit own) true code is = absurd (cc)
change_is (vector first digits own) true code is = absurd (cc)
change_is (entry kind words) true code is = absurd (cc)
change_is (entry kind words) false code is = absurd (cc)
change_is (timescale words) true code is = absurd (cc)
change_is (timescale words) false code is = absurd (cc)
change_is (scope kind words) true code is = absurd (cc)
change_is (scope kind words) false code is = absurd (cc)
change_is upscope true code is = absurd (cc)
change_is upscope false code is = absurd (cc)
change_is (variable words) true code is = absurd (cc)
change_is (variable words) false code is = absurd (cc)
change_is end_definitions true code is = absurd (cc)
change_is end_definitions false code is = absurd (cc)
change_is (stamp digits) true code is = absurd (cc)
change_is (stamp digits) false code is = absurd (cc)
change_is (dump_word word) true code is = absurd (cc)
change_is (dump_word word) false code is = absurd (cc)
change_is (other word words) true code is = absurd (cc)
change_is (other word words) false code is = absurd (cc)
