-- The state after pieces of a file: with one piece more, and for another greatest number of kept variables.
use Rattle.std.proofs.Common.{◌≡◌, ◌∙◌, ℕ, List, [], ◌∷◌, ◌++◌, map, refl, ap}
use Rattle.vcd_text.specs.Items.{Item, entry, timescale, scope, upscope, variable, end_definitions, stamp, scalar}
use Rattle.vcd_text.specs.Items.{vector, real_or_string, dump_word, other}
use Rattle.vcd_text.specs.Grammar.{ParseState, initial_state, Allows, AllowsAll, state_after, state_after_item}
use Rattle.vcd_copy.specs.Pieces.{Piece, state_of_pieces}

-- ---- one item more

pub last_allowed : (c : ParseState) (is : List Item) (i : Item) → AllowsAll c (is ++ i ∷ [])
    → Allows (state_after c is) i
last_allowed c [] i allowed = allowed.0
last_allowed c (j ∷ is) i allowed = last_allowed (state_after_item c j) is i allowed.1

pub first_allowed : (c : ParseState) (is : List Item) (i : Item) → AllowsAll c (is ++ i ∷ []) → AllowsAll c is
first_allowed c [] i allowed = tt
first_allowed c (j ∷ is) i allowed = (allowed.0, first_allowed (state_after_item c j) is i allowed.1)

pub one_more : (limit : ℕ) (before : List Piece) (p : Piece)
    → state_of_pieces limit (before ++ p ∷ []) ≡ state_after_item (state_of_pieces limit before) p.item
one_more limit before p = go (initial_state limit) before
  where
    go : (c : ParseState) (ps : List Piece)
        → state_after c (map (λ p. p.item) (ps ++ p ∷ [])) ≡ state_after_item (state_after c (map (λ p. p.item) ps))
        p.item
    go c [] = refl
    go c (q ∷ ps) = go (state_after_item c q.item) ps

-- ---- the limit of a state has no effect but on itself

abbrev pub at_limit : ℕ → ParseState → ParseState
at_limit n c = record c { limit = n }

pub item_at_limit : (n : ℕ) (c : ParseState) (i : Item) → state_after_item (at_limit n c) i
    ≡ at_limit n (state_after_item c i)
item_at_limit n c (entry kind words) = refl
item_at_limit n c (timescale words) = refl
item_at_limit n c (scope kind words) = refl
item_at_limit n c upscope = refl
item_at_limit n c (variable []) = refl
item_at_limit n c (variable (kind ∷ [])) = refl
item_at_limit n c (variable (kind ∷ size ∷ [])) = refl
item_at_limit n c (variable (kind ∷ size ∷ code ∷ [])) = refl
item_at_limit n c (variable (kind ∷ size ∷ code ∷ name ∷ names)) = refl
item_at_limit n c end_definitions = refl
item_at_limit n c (stamp digits) = refl
item_at_limit n c (scalar digit code) = refl
item_at_limit n c (vector first digits code) = refl
item_at_limit n c (real_or_string first text code) = refl
item_at_limit n c (dump_word word) = refl
item_at_limit n c (other word words) = refl

pub at_any_limit : (limit : ℕ) (ps : List Piece) → state_of_pieces limit ps ≡ at_limit limit (state_of_pieces 0 ps)
at_any_limit limit ps = go (initial_state 0) ps
  where
    go : (c : ParseState) (ps : List Piece)
        → state_after (at_limit limit c) (map (λ p. p.item) ps) ≡ at_limit limit (state_after c (map (λ p. p.item) ps))
    go c [] = refl
    go c (p ∷ ps) = ap (λ s. state_after s (map (λ p. p.item) ps)) (item_at_limit limit c p.item)
        ∙ go (state_after_item c p.item) ps
