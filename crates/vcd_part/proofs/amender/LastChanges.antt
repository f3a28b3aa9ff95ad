-- The last change of a code among pieces, with one piece more, and before the end of the declarations.
use Rattle.std.proofs.Common.{◌≡◌, ◌∙◌, ◌<◌, ℕ, Bool, true, false, List, [], ◌∷◌, ◌++◌, map, length}
use Rattle.std.proofs.Common.{refl, sym, ap, Some, None, Option, if◌then◌else◌, All}
use Rattle.std.specs.Prelude.{option_map, unwrap_or}
use Rattle.std.specs.Option.{option_or}
use Rattle.std.proofs.lemmas.Bool.{and_parts, false≢true}
use Rattle.std.proofs.lemmas.List.Elements.{All-append, All-cons, All-nil}
use Rattle.vcd_text.specs.Items.{Item, entry, timescale, scope, upscope, variable, end_definitions, stamp, scalar}
use Rattle.vcd_text.specs.Items.{vector, real_or_string, dump_word, other}
use Rattle.vcd_text.specs.Grammar.{ParseState, VariableDeclaration, Allows, AllowsAll, state_after, state_after_item}
use Rattle.vcd_copy.specs.Pieces.{Piece}
use Rattle.vcd_copy.specs.Copied.{piece_items}
use Rattle.vcd_part.specs.declared.request.Request.{Request}
use Rattle.vcd_part.specs.declared.code_uses.CodeUses.{CodeUses}
use Rattle.vcd_part.specs.PartPieces.{last_such, is_change_of, lasting_codes}
use Rattle.vcd_part.specs.inside.CodeUses.{HoldLast, last_body}
use Rattle.vcd_part.proofs.amender.States.{stays_in_body}

abbrev HasByte : Piece → Type 0
HasByte p = 0 < length p.body

-- all of some pieces with one more
pub all_more : (before : List Piece) (p : Piece) → All (λ q. 0 < length q.body) before → 0 < length p.body
    → All (λ q. 0 < length q.body) (before ++ p ∷ [])
all_more before p all one = All-append HasByte before (p ∷ []) all (All-cons HasByte p [] one (All-nil HasByte))

-- a piece more that fails a test
last_same : (test : Item → Bool) (before : List Piece) (p : Piece) → test p.item ≡ false
    → last_such test (before ++ p ∷ []) ≡ last_such test before
unfolding last_such
last_same test [] p fails = ap (λ (b : Bool). if b then Some p else None) fails
last_same test (q ∷ qs) p fails = ap (λ o. option_or o (if test q.item then Some q else None))
    (last_same test qs p fails)

-- a piece more that is no change
pub hold_more : (c : CodeUses) (r : Request) (declared : List VariableDeclaration) (before : List Piece) (p : Piece)
    → HoldLast c r declared before → ((code : List ℕ) → is_change_of declared code p.item ≡ false)
    → 0 < length p.body → HoldLast c r declared (before ++ p ∷ [])
hold_more c r declared before p holds fails one = record {
  are = holds.are ∙ (λ i. map (λ code. same code i) (lasting_codes r declared));
  some = all_more before p holds.some one;
}
  where
    same : (code : List ℕ) → last_body declared before code ≡ last_body declared (before ++ p ∷ []) code
    same code = ap (λ (o : Option Piece). unwrap_or (option_map (λ p. p.body) o) [])
        (sym (last_same (is_change_of declared code) before p (fails code)))

-- ---- before the end of the declarations no piece is a change

no_change : (declared : List VariableDeclaration) (code : List ℕ) (s : ParseState) (i : Item) → Allows s i
    → s.in_body ≡ false → is_change_of declared code i ≡ false
no_change declared code s (entry kind words) allowed out = refl
no_change declared code s (timescale words) allowed out = refl
no_change declared code s (scope kind words) allowed out = refl
no_change declared code s upscope allowed out = refl
no_change declared code s (variable words) allowed out = refl
no_change declared code s end_definitions allowed out = refl
no_change declared code s (stamp digits) allowed out = refl
no_change declared code s (scalar digit own) allowed out =
    absurd (false≢true (sym out ∙ (and_parts _ _ allowed.0).0))
no_change declared code s (vector first digits own) allowed out =
    absurd (false≢true (sym out ∙ (and_parts _ _ allowed.0).0))
no_change declared code s (real_or_string first text own) allowed out =
    absurd (false≢true (sym out ∙ (and_parts _ _ allowed.0).0))
no_change declared code s (dump_word word) allowed out = refl
no_change declared code s (other word words) allowed out = refl

pub still_out : (s : ParseState) (is : List Item) → (state_after s is).in_body ≡ false → s.in_body ≡ false
still_out s is out = by_test s.in_body refl
  where
    by_test : (b : Bool) → s.in_body ≡ b → s.in_body ≡ false
    by_test true is_true = absurd (false≢true (sym out ∙ stays_in_body s is is_true))
    by_test false is_false = is_false

pub none_before_body : (declared : List VariableDeclaration) (code : List ℕ) (s : ParseState) (ps : List Piece)
    → AllowsAll s (piece_items ps) → (state_after s (piece_items ps)).in_body ≡ false
    → last_such (is_change_of declared code) ps ≡ None
unfolding last_such
none_before_body declared code s [] allowed out = refl
none_before_body declared code s (p ∷ ps) allowed out =
    let fails : is_change_of declared code p.item ≡ false = no_change declared code s p.item allowed.0
    (still_out s (piece_items (p ∷ ps)) out) in
    let rest : last_such (is_change_of declared code) ps ≡ None =
    none_before_body declared code (state_after_item s p.item) ps allowed.1 out in
    λ i. option_or (rest i) (if fails i then Some p else None)

-- so what holds none of them holds all
pub hold_declarations : (c : CodeUses) (r : Request) (declared : List VariableDeclaration) (s : ParseState)
    (before : List Piece) → HoldLast c r declared [] → AllowsAll s (piece_items before)
    → (state_after s (piece_items before)).in_body ≡ false → All (λ q. 0 < length q.body) before
    → HoldLast c r declared before
unfolding last_such
hold_declarations c r declared s before holds allowed out all = record {
  are = holds.are ∙ (λ i. map (λ code. same code i) (lasting_codes r declared));
  some = all;
}
  where
    same : (code : List ℕ) → last_body declared [] code ≡ last_body declared before code
    same code = ap (λ (o : Option Piece). unwrap_or (option_map (λ p. p.body) o) [])
        (sym (none_before_body declared code s before allowed out))
