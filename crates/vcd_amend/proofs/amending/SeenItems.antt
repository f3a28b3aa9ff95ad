-- The items that an amender is told of, one after another.
use Rattle.std.proofs.Common.{◌≡◌, ◌∙◌, ◌≤◌, ◌&&◌, ℕ, Bool, true, false, List, [], ◌∷◌, ◌++◌, map, replicate}
use Rattle.std.proofs.Common.{length}
use Rattle.std.proofs.Common.{refl, sym, ap, subst, Some, None, nat_le, inl, inr}
use Rattle.std.proofs.lemmas.Bool.{cases_lt, lt-leb}
use Rattle.std.proofs.lemmas.List.{map-append}
use Rattle.vcd_core.specs.Decimal.{number_of, is_number}
use Rattle.vcd_core.specs.declared.bit.Bit.{Bit}
use Rattle.vcd_core.specs.declared.capture.ScopeName.{ScopeName}
use Rattle.vcd_text.specs.Letters.{letters_of_digits}
use Rattle.vcd_text.specs.Items.{Item, entry, timescale, scope, upscope, variable, end_definitions, stamp, scalar}
use Rattle.vcd_text.specs.Items.{vector, real_or_string, dump_word, other}
use Rattle.vcd_text.specs.Grammar.{ParseState, initial_state, Allows, AllowsAll, state_after_item}
use Rattle.vcd_text.specs.Grammar.{with_value_change}
use Rattle.vcd_text.specs.Grammar.{item_tests}
use Rattle.vcd_core.specs.Tests.{◌unless◌, first_fault}
use Rattle.vcd_core.specs.declared.capture.TheConstants.{END_LIMIT}
use Rattle.vcd_text.specs.declared.fault.Fault.TheVariants.{BadTime, TimeBackwards}
use Rattle.vcd_copy.specs.Pieces.{Piece, state_of_pieces}
use Rattle.vcd_copy.specs.Copied.{IsNext, piece_items, value_code, real_or_string_code, may_be_amended}
use Rattle.vcd_amend.specs.Amendment.{Amendment}
use Rattle.vcd_amend.specs.AmendmentContents.{amendment_contents}
use Rattle.vcd_amend.specs.AmendedItems.{ItemFate, item_fate, inserted_items, still_none_yet}
use Rattle.vcd_amend.specs.AmendedItems.{leaves_out}
use Rattle.vcd_amend.specs.AmendedItems.{change_fate, real_fate}
use Rattle.vcd_amend.specs.AmendedCopy.{none_yet_after}
use Rattle.vcd_amend.specs.inside.amending.FileAmender.{IsAt, HasSeen}
use Rattle.vcd_amend.specs.declared.amending.file_amender.FileAmender.{FileAmender}
use Rattle.vcd_amend.proofs.amended.CopiedText.{none_yet_more}
use Rattle.vcd_copy.proofs.shared.StatesOfPieces.{last_allowed, one_more, at_any_limit}

-- the state before a piece, and whether nothing has been written yet
abbrev pub before_state : List Piece → ParseState
before_state before = state_of_pieces 0 before

abbrev pub before_none : Amendment → List Piece → Bool
before_none a before = none_yet_after a true (initial_state 0) before

-- an amender is at the state after one piece more
pub seen_more : (m : FileAmender) (a : Amendment) (before : List Piece) (p : Piece) (s : ParseState) (none : Bool)
    → amendment_contents m.amendment.now ≡ a → state_after_item (before_state before) p.item ≡ s
    → still_none_yet (before_none a before) (item_fate a (before_state before) p.item) p.item ≡ none
    → IsAt m s none → HasSeen m (before ++ p ∷ [])
seen_more m a before p s none same state still at =
    let b = amendment_contents m.amendment.now in
    let now : none_yet_after b true (initial_state 0) (before ++ p ∷ []) ≡ none =
    ap (λ x. none_yet_after x true (initial_state 0) (before ++ p ∷ [])) same
    ∙ none_yet_more a true (initial_state 0) before p ∙ still in
    subst (λ t. IsAt m t (none_yet_after b true (initial_state 0) (before ++ p ∷ [])))
    (sym (one_more 0 before p ∙ state)) (subst (IsAt m s) (sym now) at)

-- a stamp is not before the last one
later_stamp : (s : ParseState) (digits : List ℕ) → Allows s (stamp digits) → s.tick ≤ number_of digits
later_stamp s digits allowed = elim (cases_lt (number_of digits) s.tick) [
  | inl early ↦ absurd (never (lt-leb s.tick (number_of digits) early) allowed.1)
  | inr late ↦ late
]
  where
    by_tests : (a b : Bool) → b ≡ false
        → first_fault ((BadTime unless a) ∷ (TimeBackwards unless b) ∷ []) ≡ None → ⊥
    by_tests false b early none = cc
    by_tests true true early none = cc
    by_tests true false early none = cc

    never : nat_le s.tick (number_of digits) ≡ false → first_fault (item_tests s (stamp digits)) ≡ None → ⊥
    never early none = by_tests (is_number digits && nat_le (number_of digits) END_LIMIT)
        (nat_le s.tick (number_of digits)) early none

pub stamp_is_later : (limit : ℕ) (before : List Piece) (p : Piece) (space body digits : List ℕ)
    → IsNext limit before p space body → p.item ≡ stamp digits → (before_state before).tick ≤ number_of digits
stamp_is_later limit before p space body digits next is =
    let allowed : Allows (state_of_pieces limit before) (stamp digits) = subst (Allows (state_of_pieces limit before))
    is
    (last_allowed (initial_state limit) (piece_items before) p.item (subst (AllowsAll (initial_state limit))
    (map-append (λ (q : Piece). q.item) before (p ∷ [])) next.allowed)) in
    subst (λ (t : ℕ). t ≤ number_of digits) (ap (λ (c : ParseState). c.tick) (at_any_limit limit before))
    (later_stamp (state_of_pieces limit before) digits allowed)

-- ---- changes

-- what a change to digits is in all regards
pub record IsValue (a : Amendment) (s : ParseState) (none : Bool) (code : List ℕ) (i : Item) : Type 0 where
  pub letters : List Bit
  pub state : state_after_item s i ≡ with_value_change s code letters
  pub fate : item_fate a s i ≡ change_fate a s code
  pub still : (f : ItemFate) → still_none_yet none f i ≡ (none && leaves_out f)
  pub inserted : inserted_items a none s i ≡ []

pub value_is : (a : Amendment) (s : ParseState) (none : Bool) (code : List ℕ) (i : Item) → value_code i ≡ Some code
    → IsValue a s none code i
value_is a s none code (scalar digit own) is = let same : own ≡ code = cc in record {
  letters = letters_of_digits (digit ∷ []);
  state = ap (λ k. with_value_change s k (letters_of_digits (digit ∷ []))) same;
  fate = ap (change_fate a s) same;
  still = λ f. refl;
  inserted = refl;
}
value_is a s none code (vector first digits own) is = let same : own ≡ code = cc in record {
  letters = letters_of_digits digits;
  state = ap (λ k. with_value_change s k (letters_of_digits digits)) same;
  fate = ap (change_fate a s) same;
  still = λ f. refl;
  inserted = refl;
}
value_is a s none code (entry kind words) is = absurd (cc)
value_is a s none code (timescale words) is = absurd (cc)
value_is a s none code (scope kind words) is = absurd (cc)
value_is a s none code upscope is = absurd (cc)
value_is a s none code (variable words) is = absurd (cc)
value_is a s none code end_definitions is = absurd (cc)
value_is a s none code (stamp digits) is = absurd (cc)
value_is a s none code (real_or_string first text own) is = absurd (cc)
value_is a s none code (dump_word word) is = absurd (cc)
value_is a s none code (other word words) is = absurd (cc)

-- what a change to a real or a string is
pub record IsReal (a : Amendment) (s : ParseState) (none : Bool) (code : List ℕ) (i : Item) : Type 0 where
  pub state : state_after_item s i ≡ s
  pub fate : item_fate a s i ≡ real_fate a s code
  pub still : (f : ItemFate) → still_none_yet none f i ≡ (none && leaves_out f)
  pub inserted : inserted_items a none s i ≡ []

pub real_is : (a : Amendment) (s : ParseState) (none : Bool) (code : List ℕ) (i : Item) → real_or_string_code i ≡ Some
    code
    → IsReal a s none code i
real_is a s none code (real_or_string first text own) is = let same : own ≡ code = cc in record {
  state = refl;
  fate = ap (real_fate a s) same;
  still = λ f. refl;
  inserted = refl;
}
real_is a s none code (scalar digit own) is = absurd (cc)
real_is a s none code (vector first digits own) is = absurd (cc)
real_is a s none code (entry kind words) is = absurd (cc)
real_is a s none code (timescale words) is = absurd (cc)
real_is a s none code (scope kind words) is = absurd (cc)
real_is a s none code upscope is = absurd (cc)
real_is a s none code (variable words) is = absurd (cc)
real_is a s none code end_definitions is = absurd (cc)
real_is a s none code (stamp digits) is = absurd (cc)
real_is a s none code (dump_word word) is = absurd (cc)
real_is a s none code (other word words) is = absurd (cc)

-- ---- the other items

-- an amender is at a state with the same variables, changes and tick
pub at_same : (m : FileAmender) (s t : ParseState) (none : Bool) → s.declared ≡ t.declared
    → s.value_changes ≡ t.value_changes → s.tick ≡ t.tick → IsAt m s none → IsAt m t none
at_same m s t none declared changes tick at =
    let P : ParseState → Type 0 = λ u. IsAt m u none in
    let one : IsAt m (record t { declared = s.declared; value_changes = s.value_changes; tick = s.tick }) none
    = record {
      fates = at.fates;
      used = at.used;
      amended = at.amended;
      progress = record {
        count = at.progress.count;
        each = λ k within. record {
          kept = (at.progress.each k within).kept;
          passed = (at.progress.each k within).passed;
          changes = (at.progress.each k within).changes;
        };
      };
      counts = at.counts;
      due = at.due;
      within = at.within;
      apart = at.apart;
      tick = at.tick;
      none_yet = at.none_yet;
    } in
    subst P (λ i. record t { declared = declared i; value_changes = changes i; tick = tick i }) one

-- an item that no rule may amend
pub other_passes : (m : FileAmender) (a : Amendment) (s : ParseState) (none : Bool) (i : Item) → may_be_amended i ≡
    false
    → IsAt m s none → IsAt m (state_after_item s i) (still_none_yet none (item_fate a s i) i)
other_passes m a s none (entry kind words) not_it at = at_same m s (state_after_item s (entry kind words)) none refl
    refl refl at
other_passes m a s none (timescale words) not_it at = at_same m s (state_after_item s (timescale words)) none refl refl
    refl at
other_passes m a s none (scope kind words) not_it at = at_same m s (state_after_item s (scope kind words)) none refl
    refl refl at
other_passes m a s none upscope not_it at = at_same m s (state_after_item s upscope) none refl refl refl at
other_passes m a s none (dump_word word) not_it at = at
other_passes m a s none (other word words) not_it at = at
other_passes m a s none (variable words) not_it at = absurd (cc)
other_passes m a s none end_definitions not_it at = absurd (cc)
other_passes m a s none (stamp digits) not_it at = absurd (cc)
other_passes m a s none (scalar digit code) not_it at = absurd (cc)
other_passes m a s none (vector first digits code) not_it at = absurd (cc)
other_passes m a s none (real_or_string first text code) not_it at = absurd (cc)

-- the end of the declarations
pub end_passes : (m : FileAmender) (s : ParseState) (none : Bool) → IsAt m s none
    → IsAt m (state_after_item s end_definitions) none
end_passes m s none at = at_same m s (state_after_item s end_definitions) none refl refl refl at

pub closed_scopes : (scopes : List ScopeName) → replicate (length scopes) upscope ≡ map (λ s. upscope) scopes
closed_scopes [] = refl
closed_scopes (s ∷ ss) = ap (λ l. upscope ∷ l) (closed_scopes ss)
