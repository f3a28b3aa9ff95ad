-- The changes that are held, as pieces.
use Rattle.std.proofs.Common.{◌≡◌, ◌∙◌, ℕ, Bool, true, false, not, ◌&&◌, ◌||◌, if◌then◌else◌, List, [], ◌∷◌, ◌++◌}
use Rattle.std.proofs.Common.{refl, sym, ap, ap₂, subst, append_assoc, inl, inr, arith, length, Some}
use Rattle.std.specs.List.{filter}
use Rattle.std.specs.Prelude.{bytes_eq}
use Rattle.std.proofs.lemmas.Bool.{cases_Bool, false≢true}
use Rattle.std.proofs.lemmas.List.{append-nil}
use Rattle.std.proofs.lemmas.List.Folds.{list_any-append}
use Rattle.std.proofs.lemmas.List.Elements.{filter-append}
use Rattle.std.proofs.lemmas.Slice.Eq.{bytes_eq-Decides}
use Rattle.vcd_copy.specs.Pieces.{Piece}
use Rattle.vcd_amend.specs.Retimed.{change_key, counts_with}
use Rattle.vcd_amend.specs.declared.amending.held_changes.HeldChange.{HeldChange}
use Rattle.vcd_amend.specs.inside.amending.HeldChanges.{last_held, held_before, is_replaced, is_replaced_by}
use Rattle.vcd_amend.specs.inside.amending.HeldChanges.{key_of, IsChangePiece, ArePieces}

-- ---- the last changes

-- whether a change stays beside a later one
abbrev pub apart : HeldChange → HeldChange → Bool
apart h x = not (is_replaced_by x h)

one_before : (h x : HeldChange) (a c b : Bool) → is_replaced_by x h ≡ b
    → (if a || (b || false) then [] else (if c then x ∷ [] else []))
    ≡ filter (apart h) (if a then [] else (if c then x ∷ [] else []))
one_before h x true c b is = refl
one_before h x false false true is = refl
one_before h x false false false is = refl
one_before h x false true true is = rw is refl
one_before h x false true false is = rw is refl

-- the changes that are held after one more
pub held_with_one : (h : HeldChange) (hs : List HeldChange)
    → last_held (hs ++ h ∷ []) ≡ filter (apart h) (last_held hs) ++ (if h.is_held then h ∷ [] else [])
unfolding last_held
held_with_one h [] = append-nil (held_before h [])
held_with_one h (x ∷ hs) =
    let last = if h.is_held then h ∷ [] else [] in
    ap₂ (λ a b. a ++ b)
    (ap (λ r. if r then [] else (if x.is_held then x ∷ [] else [])) (list_any-append (is_replaced_by x) hs (h ∷ []))
    ∙ one_before h x (is_replaced x hs) x.is_held (is_replaced_by x h) refl)
    (held_with_one h hs)
    ∙ sym (append_assoc (filter (apart h) (held_before x hs)) (filter (apart h) (last_held hs)) last)
    ∙ ap (λ l. l ++ last) (sym (filter-append (apart h) (held_before x hs) (last_held hs)))

both_false : (a b : Bool) → (a || b) ≡ false → (a ≡ false) × (b ≡ false)
both_false false false is = (refl, refl)
both_false false true is = absurd (false≢true (sym is))
both_false true b is = absurd (false≢true (sym is))

not_here : (x y : HeldChange) (r c : Bool) → is_replaced_by x y ≡ false
    → is_replaced x (if r then [] else (if c then y ∷ [] else [])) ≡ false
not_here x y true c is = refl
not_here x y false false is = refl
not_here x y false true is = rw is refl

-- a change that no later one replaces is replaced by none that is held
not_by_held : (x : HeldChange) (hs : List HeldChange) → is_replaced x hs ≡ false → is_replaced x (last_held hs) ≡ false
unfolding last_held
not_by_held x [] none = refl
not_by_held x (y ∷ hs) none =
    let parts = both_false (is_replaced_by x y) (is_replaced x hs) none in
    list_any-append (is_replaced_by x) (held_before y hs) (last_held hs)
    ∙ ap₂ (λ a b. a || b) (not_here x y (is_replaced y hs) y.is_held parts.0) (not_by_held x hs parts.1)

-- of the changes that are held, all are
pub held_again : (hs : List HeldChange) → last_held (last_held hs) ≡ last_held hs
unfolding last_held
held_again [] = refl
held_again (x ∷ hs) = by_first (held_again hs) (is_replaced x hs) refl x.is_held refl
  where
    by_first : last_held (last_held hs) ≡ last_held hs → (r : Bool) → is_replaced x hs ≡ r → (c : Bool) → x.is_held ≡ c
        → last_held ((if r then [] else (if c then x ∷ [] else [])) ++ last_held hs)
        ≡ (if r then [] else (if c then x ∷ [] else [])) ++ last_held hs
    by_first again true replaced c held = again
    by_first again false last false held = again
    by_first again false last true held =
        let none = not_by_held x hs last in
        (λ i. (if none i then [] else (if held i then x ∷ [] else [])) ++ again i)

-- and so with one more
pub held_again_with : (h : HeldChange) (hs : List HeldChange) → last_held (last_held hs ++ h ∷ []) ≡ last_held
    (hs ++ h ∷
    [])
held_again_with h hs = held_with_one h (last_held hs)
    ∙ ap (λ l. filter (apart h) l ++ (if h.is_held then h ∷ [] else [])) (held_again hs) ∙ sym (held_with_one h hs)

-- ---- as pieces

code_swapped : (a b : List ℕ) → bytes_eq a b ≡ bytes_eq b a
code_swapped a b = elim (cases_Bool (bytes_eq a b)) [
  | inl is ↦ is ∙ sym ((bytes_eq-Decides b a).1 (sym ((bytes_eq-Decides a b).0 is)))
  | inr apart_it ↦ elim (cases_Bool (bytes_eq b a)) [
    | inl is ↦ absurd (false≢true (sym apart_it ∙ (bytes_eq-Decides a b).1 (sym ((bytes_eq-Decides b a).0 is))))
    | inr other ↦ apart_it ∙ sym other
  ]
]

swapped : (a b : Bool) → (a && b) ≡ (b && a)
swapped true true = refl
swapped true false = refl
swapped false true = refl
swapped false false = refl

module _ (test : List ℕ → Bool) (h : HeldChange) (kept : test h.code ≡ h.is_kept) where
  -- whether a piece counts together with the change
  abbrev with_it : Piece → Bool
  with_it q = counts_with test (key_of h.is_text h.code) (change_key q.item)

  by_form : (c : List ℕ) → (not h.is_kept && bytes_eq c h.code) ≡ (bytes_eq h.code c && not (test h.code))
  by_form c = swapped (not h.is_kept) (bytes_eq c h.code)
      ∙ ap₂ (λ (same k : Bool). same && not k) (code_swapped c h.code) (sym kept)

  same_as_key : (x : HeldChange) (a b : Bool) → x.is_text ≡ a → h.is_text ≡ b
      → is_replaced_by x h ≡ counts_with test (key_of b h.code) (Some (key_of a x.code))
  same_as_key x true true a_is b_is = rw (a_is, b_is) (code_swapped x.code h.code)
  same_as_key x false false a_is b_is = rw (a_is, b_is) (code_swapped x.code h.code)
  same_as_key x true false a_is b_is = rw (a_is, b_is) (by_form x.code)
  same_as_key x false true a_is b_is = rw (a_is, b_is) (by_form x.code)

  -- those that stay beside a later one
  pieces_apart : (hs : List HeldChange) (ps : List Piece) → ArePieces hs ps
      → ArePieces (filter (apart h) hs) (filter (λ q. not (with_it q)) ps)
  pieces_apart [] [] are = tt
  pieces_apart [] (p ∷ ps) are = absurd are
  pieces_apart (x ∷ hs) [] are = absurd are
  pieces_apart (x ∷ hs) (p ∷ ps) (is, are) = by_test (pieces_apart hs ps are) (is_replaced_by x h) refl
      (ap (counts_with test (key_of h.is_text h.code)) is.key ∙ sym (same_as_key x x.is_text h.is_text refl refl))
    where
      by_test : ArePieces (filter (apart h) hs) (filter (λ q. not (with_it q)) ps)
          → (b : Bool) → is_replaced_by x h ≡ b → with_it p ≡ is_replaced_by x h
          → ArePieces (filter (apart h) (x ∷ hs)) (filter (λ q. not (with_it q)) (p ∷ ps))
      by_test rest true same key = rw (key, same) rest
      by_test rest false other key = rw (key, other) (is, rest)

pub pieces_with : (hs gs : List HeldChange) (ps qs : List Piece) → ArePieces hs ps → ArePieces gs qs
    → ArePieces (hs ++ gs) (ps ++ qs)
pieces_with [] gs [] qs are more = more
pieces_with [] gs (p ∷ ps) qs are more = absurd are
pieces_with (h ∷ hs) gs [] qs are more = absurd are
pieces_with (h ∷ hs) gs (p ∷ ps) qs (is, are) more = (is, pieces_with hs gs ps qs are more)

one_held : (h : HeldChange) (p : Piece) (b : Bool) → IsChangePiece p h.is_text h.code h.space h.body
    → ArePieces (if b then h ∷ [] else []) (if b then p ∷ [] else [])
one_held h p true is = (is, tt)
one_held h p false is = tt

-- the held changes after one more
pub pieces_held : (test : List ℕ → Bool) (h : HeldChange) (old new : List HeldChange) (ps : List Piece) (p : Piece)
    → test h.code ≡ h.is_kept → last_held new ≡ last_held (old ++ h ∷ []) → ArePieces (last_held old) ps
    → IsChangePiece p h.is_text h.code h.space h.body
    → ArePieces (last_held new)
    (filter (λ q. not (counts_with test (key_of h.is_text h.code) (change_key q.item))) ps
    ++ (if h.is_held then p ∷ [] else []))
pieces_held test h old new ps p kept is are here =
    subst (λ l. ArePieces l (filter (λ q. not (counts_with test (key_of h.is_text h.code) (change_key q.item))) ps
    ++ (if h.is_held then p ∷ [] else []))) (sym (is ∙ held_with_one h old))
    (pieces_with (filter (apart h) (last_held old)) (if h.is_held then h ∷ [] else []) _ _
    (pieces_apart test h kept (last_held old) ps are) (one_held h p h.is_held here))

-- without a change there is no piece
pub no_pieces : (ps : List Piece) → ArePieces [] ps → ps ≡ []
no_pieces [] are = refl
no_pieces (p ∷ ps) are = absurd are

pub no_changes : (hs : List HeldChange) → length hs ≡ 0 → hs ≡ []
no_changes [] none = refl
no_changes (h ∷ hs) none = absurd (omega (arith, none))
