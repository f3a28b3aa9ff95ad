-- The pieces that come in the place of a file's, as an amender is told of them.
use Rattle.std.proofs.Common.{◌≡◌, ◌∙◌, ◌<◌, ◌+◌, ◌-◌, ◌==◌, ℕ, zero, suc, Bool, true, false, if◌then◌else◌, List, []}
use Rattle.std.proofs.Common.{◌∷◌}
use Rattle.std.proofs.Common.{◌++◌, refl, sym, ap, subst, arith, Some, decimal, cond, append_assoc}
use Rattle.std.proofs.Common.{take, length, get_or}
use Rattle.std.proofs.lemmas.Bool.Decides.{nat_tests}
use Rattle.std.specs.List.{flat_map}
use Rattle.std.specs.Prelude.{Result, Ok, Err, OnErr}
use Rattle.std.proofs.lemmas.List.{append-nil}
use Rattle.vcd_core.specs.Decimal.{number_of}
use Rattle.vcd_core.specs.declared.capture.ScopeName.{ScopeName}
use Rattle.vcd_amend.specs.RetimedLaws.{is_neither}
use Rattle.vcd_text.specs.Items.{Item, variable, end_definitions, stamp, scalar, vector, real_or_string, entry}
use Rattle.vcd_text.specs.Items.{timescale, scope, upscope, dump_word, other}
use Rattle.vcd_text.specs.Grammar.{ParseState, initial_state, state_after_item}
use Rattle.vcd_text.specs.Text.{item_line}
use Rattle.vcd_copy.specs.Pieces.{Piece, state_of_pieces}
use Rattle.vcd_copy.specs.Copied.{may_be_amended, copied_piece, copied_pieces, value_code}
use Rattle.vcd_copy.specs.Copied.{real_or_string_code}
use Rattle.vcd_amend.specs.Amendment.{Amendment}
use Rattle.vcd_amend.specs.AmendmentContents.{amendment_contents}
use Rattle.vcd_amend.specs.AmendedItems.{item_fate, inserted_items, items_due_until, still_none_yet}
use Rattle.vcd_amend.specs.AmendedItems.{stands, is_left_out}
use Rattle.vcd_amend.specs.AmendedText.{bytes_in_place}
use Rattle.vcd_amend.specs.AmendedCopy.{amendment_rules}
use Rattle.vcd_amend.specs.Retimed.{ChangeKey, digits_key, text_key, change_key, held_with}
use Rattle.vcd_copy.specs.Pieces.{stamp_line}
use Rattle.vcd_amend.specs.Retimed.{pieces_in_place, code_of_key}
use Rattle.vcd_amend.specs.Retimed.{released_pieces, new_tick}
use Rattle.vcd_amend.specs.RetimedCopy.{pieces_of_step, held_of_step}
use Rattle.vcd_amend.specs.declared.amending.file_amender.FileAmender.{FileAmender}
use Rattle.vcd_amend.specs.declared.amending.held_changes.HeldChange.{HeldChange}
use Rattle.vcd_amend.specs.inside.amending.FileAmender.{IsAt, HasSeen}
use Rattle.vcd_amend.specs.inside.amending.HeldChanges.{key_of, IsChangePiece, ArePieces, released}
use Rattle.vcd_amend.specs.inside.amending.HeldChanges.{retimed_stamp_piece}
use Rattle.vcd_amend.proofs.retimed.Copies.{state_more}
use Rattle.vcd_amend.proofs.amending.SeenItems.{before_state, before_none, seen_more}

-- ---- the copy of one piece

pub one_copied : (a : Amendment) (r : List Piece) (p : Piece) → may_be_amended p.item ≡ true
    → copied_pieces (amendment_rules a 0) r (p ∷ [])
    ≡ bytes_in_place (item_fate a (before_state r) p.item)
    (flat_map item_line (inserted_items a (before_none a r) (before_state r) p.item)) p
unfolding copied_pieces
one_copied a r p may =
    append-nil (copied_piece (amendment_rules a 0) r p)
    ∙ ap (λ b. cond b ((amendment_rules a 0).in_place r p) (p.space ++ p.body)) may

-- ---- changes

pub value_of_key : (i : Item) (code : List ℕ) → change_key i ≡ Some (digits_key code) → value_code i ≡ Some code
value_of_key (scalar digit own) code is = cc
value_of_key (vector first digits own) code is = cc
value_of_key (real_or_string first text own) code is = absurd (cc)
value_of_key (entry kind words) code is = absurd (cc)
value_of_key (timescale words) code is = absurd (cc)
value_of_key (scope kind words) code is = absurd (cc)
value_of_key upscope code is = absurd (cc)
value_of_key (variable words) code is = absurd (cc)
value_of_key end_definitions code is = absurd (cc)
value_of_key (stamp digits) code is = absurd (cc)
value_of_key (dump_word word) code is = absurd (cc)
value_of_key (other word words) code is = absurd (cc)

pub text_of_key : (i : Item) (code : List ℕ) → change_key i ≡ Some (text_key code) → real_or_string_code i ≡ Some code
text_of_key (scalar digit own) code is = absurd (cc)
text_of_key (vector first digits own) code is = absurd (cc)
text_of_key (real_or_string first text own) code is = cc
text_of_key (entry kind words) code is = absurd (cc)
text_of_key (timescale words) code is = absurd (cc)
text_of_key (scope kind words) code is = absurd (cc)
text_of_key upscope code is = absurd (cc)
text_of_key (variable words) code is = absurd (cc)
text_of_key end_definitions code is = absurd (cc)
text_of_key (stamp digits) code is = absurd (cc)
text_of_key (dump_word word) code is = absurd (cc)
text_of_key (other word words) code is = absurd (cc)

-- what a change is in all regards
pub record IsChangeAfter (is_cut_out : ℕ → Bool) (s : ParseState) (held : List Piece) (p : Piece) (key : ChangeKey)
    : Type 0 where
  pub may : may_be_amended p.item ≡ true
  pub step : pieces_of_step is_cut_out s held p ≡ (if is_cut_out s.tick then [] else p ∷ [])
  pub holds : held_of_step is_cut_out s held p ≡ held_with is_cut_out s held p (Some key)
  pub tick : (t : ParseState) → (state_after_item t p.item).tick ≡ t.tick
  pub scopes : (t : ParseState) → (state_after_item t p.item).scopes ≡ t.scopes
  pub declared : (t : ParseState) → (state_after_item t p.item).declared ≡ t.declared

left_or_stands : (b : Bool) (p : Piece) → pieces_in_place (if b then is_left_out else stands) p
    ≡ (if b then [] else p ∷ [])
left_or_stands true p = refl
left_or_stands false p = refl

module _ (is_cut_out : ℕ → Bool) (s : ParseState) (held : List Piece) where
  change_by : (i : Item) (space body : List ℕ) (key : ChangeKey) → change_key i ≡ Some key
      → IsChangeAfter is_cut_out s held (record { item = i; space = space; body = body }) key
  change_by (scalar digit own) space body key is = record {
    may = refl;
    step = left_or_stands (is_cut_out s.tick) _;
    holds = ap (held_with is_cut_out s held _) is;
    tick = λ t. refl;
    scopes = λ t. refl;
    declared = λ t. refl;
  }
  change_by (vector first digits own) space body key is = record {
    may = refl;
    step = left_or_stands (is_cut_out s.tick) _;
    holds = ap (held_with is_cut_out s held _) is;
    tick = λ t. refl;
    scopes = λ t. refl;
    declared = λ t. refl;
  }
  change_by (real_or_string first text own) space body key is = record {
    may = refl;
    step = left_or_stands (is_cut_out s.tick) _;
    holds = ap (held_with is_cut_out s held _) is;
    tick = λ t. refl;
    scopes = λ t. refl;
    declared = λ t. refl;
  }
  change_by (entry kind words) space body key is = absurd (cc)
  change_by (timescale words) space body key is = absurd (cc)
  change_by (scope kind words) space body key is = absurd (cc)
  change_by upscope space body key is = absurd (cc)
  change_by (variable words) space body key is = absurd (cc)
  change_by end_definitions space body key is = absurd (cc)
  change_by (stamp digits) space body key is = absurd (cc)
  change_by (dump_word word) space body key is = absurd (cc)
  change_by (other word words) space body key is = absurd (cc)

  pub change_after : (p : Piece) (key : ChangeKey) → change_key p.item ≡ Some key
      → IsChangeAfter is_cut_out s held p key
  change_after p key is = change_by p.item p.space p.body key is

-- ---- stamps

pub stamp_copied : (a : Amendment) (r : List Piece) (q : Piece) (digits space body : List ℕ) (tick : ℕ)
    → q.item ≡ stamp digits → number_of digits ≡ tick → q.space ≡ space → q.body ≡ body
    → space ++ (flat_map item_line (items_due_until a (before_none a r) (before_state r) tick) ++ body)
    ≡ copied_pieces (amendment_rules a 0) r (q ∷ [])
stamp_copied a r q digits space body tick is number sp bo =
    let s = before_state r in
    let none = before_none a r in
    (λ i. sym sp i ++ (flat_map item_line (items_due_until a none s (sym number i)) ++ sym bo i))
    ∙ sym (ap (λ (x : Item). bytes_in_place (item_fate a s x) (flat_map item_line (inserted_items a none s x)) q) is)
    ∙ sym (one_copied a r q (ap may_be_amended is))

pub stamp_seen : (m : FileAmender) (a : Amendment) (r : List Piece) (q : Piece) (digits : List ℕ) (tick : ℕ)
    → amendment_contents m.amendment.now ≡ a → q.item ≡ stamp digits → number_of digits ≡ tick
    → IsAt m (record (before_state r) { tick = tick }) false → HasSeen m (r ++ q ∷ [])
stamp_seen m a r q digits tick same is number at =
    let s = before_state r in
    let none = before_none a r in
    seen_more m a r q (record s { tick = tick }) false same
    (ap (state_after_item s) is ∙ ap (λ (t : ℕ). record s { tick = t }) number)
    (ap (still_none_yet none (item_fate a s q.item)) is) at

-- the state after one piece more
pub state_with : (r : List Piece) (p : Piece) → state_of_pieces 0 (r ++ p ∷ [])
    ≡ state_after_item (state_of_pieces 0 r) p.item
state_with r p = state_more (initial_state 0) r p

-- and after changes
pub changes_after : (r : List Piece) (hs : List HeldChange) (ps : List Piece) → ArePieces hs ps
    → ((state_of_pieces 0 (r ++ ps)).tick ≡ (state_of_pieces 0 r).tick)
    × ((state_of_pieces 0 (r ++ ps)).scopes ≡ (state_of_pieces 0 r).scopes)
changes_after r [] [] are = (
  ap (λ (l : List Piece). (state_of_pieces 0 l).tick) (append-nil r),
  ap (λ (l : List Piece). (state_of_pieces 0 l).scopes) (append-nil r),
)
changes_after r [] (p ∷ ps) are = absurd are
changes_after r (h ∷ hs) [] are = absurd are
changes_after r (h ∷ hs) (p ∷ ps) (is, are) =
    let c = change_after (λ t. false) (initial_state 0) [] p (key_of h.is_text h.code) is.key in
    let more = changes_after (r ++ p ∷ []) hs ps are in
    let one = state_with r p in
    let all = append_assoc r (p ∷ []) ps in (
      ap (λ (l : List Piece). (state_of_pieces 0 l).tick) (sym all) ∙ more.0
          ∙ ap (λ (t : ParseState). t.tick) one ∙ c.tick (state_of_pieces 0 r),
      ap (λ (l : List Piece). (state_of_pieces 0 l).scopes) (sym all) ∙ more.1
          ∙ ap (λ (t : ParseState). t.scopes) one ∙ c.scopes (state_of_pieces 0 r),
    )

-- the held pieces with their stamp are those that are released
pub released_are : (is_cut_out : ℕ → Bool) (s : ParseState) (held : List Piece)
    → released (is_cut_out s.tick) (new_tick is_cut_out s.tick) held ≡ released_pieces is_cut_out s held
released_are is_cut_out s [] = refl
released_are is_cut_out s (p ∷ ps) = refl

-- the code of a key
pub code_is : (is_text : Bool) (code : List ℕ) → code_of_key (key_of is_text code) ≡ code
code_is true code = refl
code_is false code = refl

-- a stamp keeps its bytes if its tick is the new one
pub same_number : (n m : ℕ) → n ≡ m → (n == m) ≡ true
same_number n m same = grind (arith, nat_tests)

other_number : (n m : ℕ) → (n ≡ m → ⊥) → (n == m) ≡ false
other_number n m apart = grind (arith, nat_tests)

pub own_stamp : (retimed tick : ℕ) (p : Piece) → retimed ≡ tick → retimed_stamp_piece retimed tick p ≡ p
own_stamp retimed tick p same = ap (λ (b : Bool). if b then p
    else record { item = stamp (decimal retimed); space = p.space; body = 35 ∷ decimal retimed })
    (same_number retimed tick same)

pub other_stamp : (retimed tick : ℕ) (p : Piece) → (retimed ≡ tick → ⊥) → retimed_stamp_piece retimed tick p
    ≡ record { item = stamp (decimal retimed); space = p.space; body = 35 ∷ decimal retimed }
other_stamp retimed tick p apart = ap (λ (b : Bool). if b then p
    else record { item = stamp (decimal retimed); space = p.space; body = 35 ∷ decimal retimed })
    (other_number retimed tick apart)

-- ---- one change of many

pub record IsPieceAt (hs : List HeldChange) (ps : List Piece) (k n : ℕ) (d : HeldChange) : Type 0 where
  pub p : Piece
  pub more : take n ps ≡ take k ps ++ p ∷ []
  pub is : IsChangePiece p (get_or hs k d).is_text (get_or hs k d).code (get_or hs k d).space (get_or hs k d).body

at_next : (hs : List HeldChange) (ps : List Piece) (k : ℕ) (d : HeldChange) → ArePieces hs ps → k < length hs
    → IsPieceAt hs ps k (suc k) d
at_next [] ps k d are within = absurd (omega (arith, within))
at_next (h ∷ hs) [] k d are within = absurd are
at_next (h ∷ hs) (p ∷ ps) zero d (is, are) within = record { p = p; more = refl; is = is }
at_next (h ∷ hs) (p ∷ ps) (suc k) d (is, are) within =
    let next = at_next hs ps k d are (omega (arith, within)) in
    record { p = next.p; more = ap (λ l. p ∷ l) next.more; is = next.is }

pub piece_at : (hs : List HeldChange) (ps : List Piece) (k : ℕ) (d : HeldChange) → ArePieces hs ps → k < length hs
    → IsPieceAt hs ps k (k + 1) d
piece_at hs ps k d are within =
    let one : suc k ≡ k + 1 = omega arith in
    subst (λ n. IsPieceAt hs ps k n d) one (at_next hs ps k d are within)

pub as_many : (hs : List HeldChange) (ps : List Piece) → ArePieces hs ps → length ps ≡ length hs
as_many [] [] are = refl
as_many [] (p ∷ ps) are = absurd are
as_many (h ∷ hs) [] are = absurd are
as_many (h ∷ hs) (p ∷ ps) (is, are) = ap suc (as_many hs ps are)

-- held pieces that are there are released after their stamp
pub released_some : (b : Bool) (tick : ℕ) (hs : List HeldChange) (ps : List Piece) → ArePieces hs ps
    → (hs ≡ [] → ⊥) → released b tick ps ≡ (if b then stamp_line tick ∷ [] else []) ++ ps
released_some b tick [] ps are some = absurd (some refl)
released_some b tick (h ∷ hs) [] are some = absurd are
released_some b tick (h ∷ hs) (p ∷ ps) are some = refl

pub on_error : {T E P : Type 0} (r : Result T E) → P → OnErr r P
on_error (Ok x) holds = tt
on_error (Err e) holds = holds

pub spelled_as : (p : Piece) (b : Bool) (code space body code2 space2 body2 : List ℕ) → code2 ≡ code → space2 ≡ space
    → body2 ≡ body → IsChangePiece p b code space body → IsChangePiece p b code2 space2 body2
spelled_as p b code space body code2 space2 body2 same_code same_space same_body is = record {
  key = is.key ∙ ap (λ c. Some (key_of b c)) (sym same_code);
  space_is = is.space_is ∙ sym same_space;
  body_is = is.body_is ∙ sym same_body;
}

-- ---- items that stand

-- what an item is that is neither a stamp nor a change
pub record IsPlain (is_cut_out : ℕ → Bool) (s : ParseState) (held : List Piece) (p : Piece) : Type 0 where
  pub step : pieces_of_step is_cut_out s held p ≡ p ∷ []
  pub holds : held_of_step is_cut_out s held p ≡ held
  pub tick : (t : ParseState) → (state_after_item t p.item).tick ≡ t.tick
  pub scopes : (t u : ParseState) → t.scopes ≡ u.scopes
      → (state_after_item t p.item).scopes ≡ (state_after_item u p.item).scopes

module _ (is_cut_out : ℕ → Bool) (s : ParseState) (held : List Piece) where
  plain_by : (i : Item) (space body : List ℕ) → is_neither i ≡ true
      → IsPlain is_cut_out s held (record { item = i; space = space; body = body })
  plain_by (entry kind words) space body is = record {
    step = refl;
    holds = refl;
    tick = λ t. refl;
    scopes = λ t u same. same;
  }
  plain_by (timescale words) space body is = record {
    step = refl;
    holds = refl;
    tick = λ t. refl;
    scopes = λ t u same. same;
  }
  plain_by (scope kind words) space body is = record {
    step = refl;
    holds = refl;
    tick = λ t. refl;
    scopes = λ t u same. ap (λ (l : List ScopeName). l ++ record { kind = kind; words = words } ∷ []) same;
  }
  plain_by upscope space body is = record {
    step = refl;
    holds = refl;
    tick = λ t. refl;
    scopes = λ t u same. ap (λ (l : List ScopeName). take (length l - 1) l) same;
  }
  plain_by (variable words) space body is = record {
    step = refl;
    holds = refl;
    tick = λ t. refl;
    scopes = λ t u same. same;
  }
  plain_by end_definitions space body is = record {
    step = refl;
    holds = refl;
    tick = λ t. refl;
    scopes = λ t u same. same;
  }
  plain_by (dump_word word) space body is = record {
    step = refl;
    holds = refl;
    tick = λ t. refl;
    scopes = λ t u same. same;
  }
  plain_by (other word words) space body is = record {
    step = refl;
    holds = refl;
    tick = λ t. refl;
    scopes = λ t u same. same;
  }
  plain_by (stamp digits) space body is = absurd (cc)
  plain_by (scalar digit own) space body is = absurd (cc)
  plain_by (vector first digits own) space body is = absurd (cc)
  plain_by (real_or_string first text own) space body is = absurd (cc)

  pub plain_is : (p : Piece) → is_neither p.item ≡ true → IsPlain is_cut_out s held p
  plain_is p is = plain_by p.item p.space p.body is

-- an item that no rule may amend
pub passed_is : (i : Item) → may_be_amended i ≡ false
    → (is_neither i ≡ true) × ((t : ParseState) → (state_after_item t i).declared ≡ t.declared)
passed_is (entry kind words) is = (refl, λ t. refl)
passed_is (timescale words) is = (refl, λ t. refl)
passed_is (scope kind words) is = (refl, λ t. refl)
passed_is upscope is = (refl, λ t. refl)
passed_is (dump_word word) is = (refl, λ t. refl)
passed_is (other word words) is = (refl, λ t. refl)
passed_is (variable words) is = absurd (cc)
passed_is end_definitions is = absurd (cc)
passed_is (stamp digits) is = absurd (cc)
passed_is (scalar digit own) is = absurd (cc)
passed_is (vector first digits own) is = absurd (cc)
passed_is (real_or_string first text own) is = absurd (cc)

pub key_of_value : (i : Item) (code : List ℕ) → value_code i ≡ Some code → change_key i ≡ Some (digits_key code)
key_of_value (scalar digit own) code is = cc
key_of_value (vector first digits own) code is = cc
key_of_value (real_or_string first text own) code is = absurd (cc)
key_of_value (entry kind words) code is = absurd (cc)
key_of_value (timescale words) code is = absurd (cc)
key_of_value (scope kind words) code is = absurd (cc)
key_of_value upscope code is = absurd (cc)
key_of_value (variable words) code is = absurd (cc)
key_of_value end_definitions code is = absurd (cc)
key_of_value (stamp digits) code is = absurd (cc)
key_of_value (dump_word word) code is = absurd (cc)
key_of_value (other word words) code is = absurd (cc)

pub key_of_text : (i : Item) (code : List ℕ) → real_or_string_code i ≡ Some code → change_key i ≡ Some (text_key code)
key_of_text (real_or_string first text own) code is = cc
key_of_text (scalar digit own) code is = absurd (cc)
key_of_text (vector first digits own) code is = absurd (cc)
key_of_text (entry kind words) code is = absurd (cc)
key_of_text (timescale words) code is = absurd (cc)
key_of_text (scope kind words) code is = absurd (cc)
key_of_text upscope code is = absurd (cc)
key_of_text (variable words) code is = absurd (cc)
key_of_text end_definitions code is = absurd (cc)
key_of_text (stamp digits) code is = absurd (cc)
key_of_text (dump_word word) code is = absurd (cc)
key_of_text (other word words) code is = absurd (cc)
