-- What is shown of an item that a word ends.
use Rattle.std.proofs.Common.{◌∙◌, cond, ◌≡◌, ℕ, Bool, true, false, List, [], ◌++◌, length, take, drop}
use Rattle.std.proofs.Common.{sym, refl, ap}
use Rattle.std.proofs.Math.Seq.{take-append_seam}
use Rattle.std.proofs.Math.Seq.{drop-append_seam}
use Rattle.std.specs.Prelude.{Option, Some, Result, Ok, Err, OnOk}
use Rattle.vcd_text.specs.Items.{Item, variable, end_definitions, stamp, scalar, vector, real_or_string, entry}
use Rattle.vcd_text.specs.Items.{timescale, scope, upscope, dump_word, other}
use Rattle.vcd_text.specs.Grammar.{ParseState}
use Rattle.vcd_copy.specs.Pieces.{Piece, state_of_pieces}
use Rattle.vcd_copy.specs.Copied.{may_be_amended, Shows, value_code, real_or_string_code, IsShownNext, IsTakenNext}
use Rattle.vcd_copy.specs.inside.Copying.{shown_item, stands_open, code_in, EndsPiece}
use Rattle.vcd_text.specs.inside.reading.Scopes.{open_scopes}
use Rattle.vcd_core.specs.declared.capture.ScopeName.{ScopeName}
use Rattle.vcd_core.specs.declared.capture.Timescale.{Timescale}
use Rattle.vcd_copy.specs.declared.copying.amender.AmendableItem.{AmendableItem}
use Rattle.vcd_copy.specs.declared.copying.amender.AmendableItem.TheVariants as shown
use Rattle.vcd_text.specs.declared.reading.parser.Parser.{Parser}
use Rattle.vcd_text.specs.declared.reading.parser.OpenItem.{OpenItem}
use Rattle.vcd_text.specs.declared.reading.parser.OpenItem.TheVariants as items

-- an item that stands whatever follows is not shown
pub shown_is_held : (item : OpenItem) (text : List ℕ) (tick depth : ℕ) (given : Option Timescale)
    (x : AmendableItem) → shown_item item text tick depth given ≡ Some x → stands_open item ≡ false
shown_is_held items.Nothing text tick depth given x is = refl
shown_is_held items.Variable text tick depth given x is = refl
shown_is_held items.SizedVariable text tick depth given x is = refl
shown_is_held items.EndDefinitions text tick depth given x is = refl
shown_is_held items.Vector text tick depth given x is = refl
shown_is_held items.RealOrString text tick depth given x is = refl
shown_is_held (items.Entry kind) text tick depth given x is = absurd (cc)
shown_is_held items.Timescale text tick depth given x is = absurd (cc)
shown_is_held items.Scope text tick depth given x is = absurd (cc)
shown_is_held items.Upscope text tick depth given x is = absurd (cc)
shown_is_held items.Other text tick depth given x is = absurd (cc)

-- what has a code may be amended
value_is_amended : (i : Item) (code : List ℕ) → value_code i ≡ Some code → may_be_amended i ≡ true
value_is_amended (scalar digit code) c is = refl
value_is_amended (vector first digits code) c is = refl
value_is_amended (real_or_string first text code) c is = refl
value_is_amended (stamp digits) c is = refl
value_is_amended (variable words) c is = refl
value_is_amended end_definitions c is = refl
value_is_amended (entry kind words) c is = absurd (cc)
value_is_amended (timescale words) c is = absurd (cc)
value_is_amended (scope kind words) c is = absurd (cc)
value_is_amended upscope c is = absurd (cc)
value_is_amended (dump_word word) c is = absurd (cc)
value_is_amended (other word words) c is = absurd (cc)

real_is_amended : (i : Item) (code : List ℕ) → real_or_string_code i ≡ Some code → may_be_amended i ≡ true
real_is_amended (scalar digit code) c is = refl
real_is_amended (vector first digits code) c is = refl
real_is_amended (real_or_string first text code) c is = refl
real_is_amended (stamp digits) c is = refl
real_is_amended (variable words) c is = refl
real_is_amended end_definitions c is = refl
real_is_amended (entry kind words) c is = absurd (cc)
real_is_amended (timescale words) c is = absurd (cc)
real_is_amended (scope kind words) c is = absurd (cc)
real_is_amended upscope c is = absurd (cc)
real_is_amended (dump_word word) c is = absurd (cc)
real_is_amended (other word words) c is = absurd (cc)

-- what is shown may be amended
pub shown_is_amended : (s : ParseState) (x : AmendableItem) (code : List ℕ) (i : Item) → Shows s x code i
    → may_be_amended i ≡ true
shown_is_amended s shown.Variable code i (words, is) = rw is refl
shown_is_amended s (shown.EndDefinitions open_scopes given) code i (is, count, same) = rw is refl
shown_is_amended s (shown.Stamp tick) code i (digits, is, at) = rw is refl
shown_is_amended s shown.Value code i is = value_is_amended i code is
shown_is_amended s shown.RealOrString code i is = real_is_amended i code is

-- the piece that a word ends is shown so
pub piece_is_shown : (limit : ℕ) (before : List Piece) (p : Piece) (item : OpenItem) (text : List ℕ) (m : Parser)
    (x : AmendableItem) → EndsPiece limit before p item text m
    → shown_item item text m.tick m.variables.scopes.depth m.timescale ≡ Some x
    → IsShownNext limit before p x (code_in item text) p.space p.body
piece_is_shown limit before p item text m x ends is = record {
  next = ends.next;
  shows = rw is at ends.shown;
}

-- its bytes are those that are held
pub in_two : (front back bytes space body : List ℕ) (n : ℕ) → front ≡ take n bytes → back ≡ drop n bytes
    → bytes ≡ space ++ body → n ≡ length space → (space ≡ front) × (body ≡ back)
in_two front back bytes space body n first second is len =
    rw (first, second, is, len) (sym (take-append_seam space body), sym (drop-append_seam space body))

pub shown_parts : {limit : ℕ} {before : List Piece} {p : Piece} {x : AmendableItem} {code : List ℕ}
    (again front back : List ℕ) → IsShownNext limit before p x code p.space p.body → again ≡ code
    → (p.space ≡ front) × (p.body ≡ back) → IsShownNext limit before p x again front back
shown_parts again front back shown same parts = record {
  next = record {
    allowed = shown.next.allowed;
    space_is = parts.0;
    body_is = parts.1;
    spelled = shown.next.spelled;
  };
  shows = rw same shown.shows;
}

pub taken_parts : {limit : ℕ} {before : List Piece} {p : Piece} {x : AmendableItem} {code : List ℕ}
    {scopes : List ScopeName} (again front back : List ℕ) → IsTakenNext limit before p x code scopes p.space p.body
    → again ≡ code → (p.space ≡ front) × (p.body ≡ back) → IsTakenNext limit before p x again scopes front back
taken_parts again front back taken same parts = record {
  shown = shown_parts again front back taken.shown same parts;
  scopes_are = taken.scopes_are;
}

-- with the open scopes
pub taken_next : {limit : ℕ} {before : List Piece} {p : Piece} {item : OpenItem} {text : List ℕ} {m : Parser}
    {x : AmendableItem} {code : List ℕ} {scopes : List ScopeName} → EndsPiece limit before p item text m
    → IsShownNext limit before p x code p.space p.body → scopes ≡ open_scopes m.variables.scopes
    → IsTakenNext limit before p x code scopes p.space p.body
taken_next {limit = limit} {before = before} {p = p} {x = x} {code = code} ends shown are = record {
  shown = shown;
  scopes_are = are ∙ ends.scopes (shown_is_amended (state_of_pieces limit before) x code p.item shown.shows);
}

-- what is added to the text with the last bytes of an item that stands
pub last_part : (stands : Bool) (first held bytes : List ℕ) → (stands ≡ false → held ≡ bytes)
    → cond stands [] first ++ held ≡ cond stands held (first ++ bytes)
last_part true first held bytes is = refl
last_part false first held bytes is = ap (λ l. first ++ l) (is refl)

-- a result is an error, or both facts hold
pub both_ok : {T E A B C : Type 0} (r : Result T E) → OnOk r A → OnOk r B → (A → B → C) → OnOk r C
both_ok (Ok x) a b both = both a b
both_ok (Err e) a b both = tt
