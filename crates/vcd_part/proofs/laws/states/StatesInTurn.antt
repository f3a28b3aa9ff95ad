-- The state after one more piece of a file, which does not depend on the limit, and what stays in the body.
use Rattle.std.proofs.Common.{◌≡◌, ◌∙◌, Bool, true, false, not, ◌&&◌, List, [], ◌∷◌, ◌++◌, refl, ap}
use Rattle.std.proofs.lemmas.Bool.{false≢true}
use Rattle.vcd_text.specs.Items.{Item, entry, timescale, scope, upscope, variable, end_definitions, stamp, scalar}
use Rattle.vcd_text.specs.Items.{vector, real_or_string, dump_word, other}
use Rattle.vcd_text.specs.Grammar.{ParseState, Allows, AllowsAll, state_after_item, state_after}
use Rattle.vcd_copy.specs.Pieces.{Piece, state_of_pieces}
use Rattle.vcd_copy.proofs.shared.StatesOfPieces.{one_more, item_at_limit}

-- a state without its limit
abbrev pub without_limit : ParseState → ParseState
without_limit s = record s { limit = 0 }

-- the state after one more piece
pub next_state : (before : List Piece) (p : Piece) (s : ParseState) → state_of_pieces 0 before ≡ without_limit s
    → state_of_pieces 0 (before ++ p ∷ []) ≡ without_limit (state_after_item s p.item)
next_state before p s is = one_more 0 before p ∙ ap (λ (x : ParseState). state_after_item x p.item) is
    ∙ item_at_limit 0 s p.item

-- ---- in the body

-- a declaration does not stand there
pub no_body : (b c : Bool) → (not b && c) ≡ true → b ≡ true → ⊥
no_body true c fits body = false≢true fits
no_body false c fits body = false≢true body

pub no_end : (b : Bool) → not b ≡ true → b ≡ true → ⊥
no_end true fits body = false≢true fits
no_end false fits body = false≢true body

-- it leaves the variables and the timescale
pub record StaysInBody (s t : ParseState) : Type 0 where
  pub in_body : t.in_body ≡ true
  pub declared : t.declared ≡ s.declared
  pub timescale : t.timescale ≡ s.timescale

one_stays : (s : ParseState) (i : Item) → Allows s i → s.in_body ≡ true → StaysInBody s (state_after_item s i)
one_stays s (entry kind words) allows body = absurd (no_body s.in_body _ allows.0 body)
one_stays s (timescale words) allows body = absurd (no_body s.in_body _ allows.0 body)
one_stays s (scope kind words) allows body = absurd (no_body s.in_body _ allows.0 body)
one_stays s upscope allows body = absurd (no_body s.in_body _ allows.0 body)
one_stays s (variable words) allows body = absurd (no_body s.in_body _ allows.0 body)
one_stays s end_definitions allows body = absurd (no_end s.in_body allows.0 body)
one_stays s (stamp digits) allows body = record { in_body = body; declared = refl; timescale = refl }
one_stays s (scalar digit code) allows body = record { in_body = body; declared = refl; timescale = refl }
one_stays s (vector first digits code) allows body = record { in_body = body; declared = refl; timescale = refl }
one_stays s (real_or_string first text code) allows body = record { in_body = body; declared = refl; timescale = refl }
one_stays s (dump_word word) allows body = record { in_body = body; declared = refl; timescale = refl }
one_stays s (other word words) allows body = record { in_body = body; declared = refl; timescale = refl }

pub body_stays : (s : ParseState) (is : List Item) → AllowsAll s is → s.in_body ≡ true
    → StaysInBody s (state_after s is)
body_stays s [] allows body = record { in_body = body; declared = refl; timescale = refl }
body_stays s (i ∷ is) allows body =
    let here = one_stays s i allows.0 body in
    let rest = body_stays (state_after_item s i) is allows.1 here.in_body in
    record {
      in_body = rest.in_body;
      declared = rest.declared ∙ here.declared;
      timescale = rest.timescale ∙ here.timescale;
    }
