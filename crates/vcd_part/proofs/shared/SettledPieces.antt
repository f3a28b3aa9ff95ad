-- What is settled of pieces while a stamp may wait, and what waits, are the pieces without their empty stamps.
use Rattle.std.proofs.Common.{◌≡◌, ◌∙◌, ◌&&◌, Bool, true, false, List, [], ◌∷◌, ◌++◌, refl, ap, sym, append_assoc}
use Rattle.std.proofs.Common.{if◌then◌else◌, not, All}
use Rattle.std.proofs.lemmas.List.{append-nil}
use Rattle.std.proofs.lemmas.List.Elements.{All-head, All-tail}
use Rattle.vcd_text.specs.Grammar.{ParseState}
use Rattle.vcd_copy.specs.Pieces.{Piece, state_of_pieces}
use Rattle.vcd_copy.specs.Copied.{may_be_amended}
use Rattle.vcd_part.specs.declared.request.Request.{Request}
use Rattle.vcd_part.specs.PartPieces.{is_stamp, is_later_stamp, begins_with_stamp, without_empty_stamps}
use Rattle.vcd_part.specs.Requests.{decide}
use Rattle.vcd_part.specs.PartPieces.{pieces_of_step, body_in_part, declaration_in_part}
use Rattle.vcd_part.specs.inside.PartCopy.{waiting_piece, waiting_after, settled_piece, settled_after, last_settled}
use Rattle.vcd_part.specs.inside.PartCopy.{waiting_from, waiting_stamp}
use Rattle.vcd_part.proofs.shared.StampItems.{later_is_stamp, no_later_stamp}

-- ---- one piece

-- a stamp of a tick above 0 waits
pub later_waits : (w : List Piece) (p : Piece) (ps : List Piece) → is_later_stamp p.item ≡ true
    → last_settled w (p ∷ ps) ≡ last_settled (p ∷ []) ps
unfolding waiting_after settled_after
later_waits w p ps later = ap (λ (b : Bool). ((if b then [] else (if is_stamp p.item then [] else w) ++ p ∷ [])
    ++ settled_after (if b then p ∷ [] else []) ps) ++ waiting_after (if b then p ∷ [] else []) ps) later

-- any other piece is settled
pub other_settles : (w : List Piece) (p : Piece) (ps : List Piece) → is_later_stamp p.item ≡ false
    → last_settled w (p ∷ ps) ≡ ((if is_stamp p.item then [] else w) ++ p ∷ []) ++ last_settled [] ps
unfolding waiting_after settled_after
other_settles w p ps isnt = ap (λ (b : Bool). ((if b then [] else (if is_stamp p.item then [] else w) ++ p ∷ [])
    ++ settled_after (if b then p ∷ [] else []) ps) ++ waiting_after (if b then p ∷ [] else []) ps) isnt
    ∙ append_assoc ((if is_stamp p.item then [] else w) ++ p ∷ []) (settled_after [] ps) (waiting_after [] ps)

-- one that is no stamp comes after the stamp that waited
pub one_settled : (w : List Piece) (p : Piece) → is_stamp p.item ≡ false → settled_after w (p ∷ []) ≡ w ++ p ∷ []
unfolding settled_after
one_settled w p isnt = let not_later = no_later_stamp p.item isnt in
    append-nil (settled_piece w p)
    ∙ (λ i. if not_later i then [] else (if isnt i then [] else w) ++ p ∷ [])

-- and nothing waits after it
pub none_waits : (w : List Piece) (p : Piece) → is_stamp p.item ≡ false → waiting_after w (p ∷ []) ≡ []
unfolding waiting_after
none_waits w p isnt = ap (λ (b : Bool). if b then p ∷ [] else []) (no_later_stamp p.item isnt)

-- a stamp of a tick above 0 waits alone
pub stamp_waits : (w : List Piece) (p : Piece) → is_later_stamp p.item ≡ true → (settled_after w (p ∷ []) ≡ [])
    × (waiting_after w (p ∷ []) ≡ p ∷ [])
unfolding settled_after waiting_after
stamp_waits w p later = (
  append-nil (settled_piece w p)
      ∙ ap (λ (b : Bool). if b then [] else (if is_stamp p.item then [] else w) ++ p ∷ []) later,
  ap (λ (b : Bool). if b then p ∷ [] else []) later,
)

-- any other stamp is settled, and what waited is not
pub first_stamp_settles : (w : List Piece) (p : Piece) → is_stamp p.item ≡ true → is_later_stamp p.item ≡ false
    → (settled_after w (p ∷ []) ≡ p ∷ []) × (waiting_after w (p ∷ []) ≡ [])
unfolding settled_after waiting_after
first_stamp_settles w p is isnt = (
  append-nil (settled_piece w p) ∙ (λ i. if isnt i then [] else (if is i then [] else w) ++ p ∷ []),
  ap (λ (b : Bool). if b then p ∷ [] else []) isnt,
)

-- ---- pieces none of which is a stamp, or that are none

abbrev pub IsNoStamp : Piece → Type 0
IsNoStamp p = is_stamp p.item ≡ false

pub no_stamps_wait : (ps : List Piece) → All IsNoStamp ps → (settled_after [] ps ≡ ps) × (waiting_after [] ps ≡ [])
unfolding settled_after waiting_after
no_stamps_wait [] all = (refl, refl)
no_stamps_wait (p ∷ ps) all =
    let isnt : is_stamp p.item ≡ false = All-head IsNoStamp p ps all in
    let not_later = no_later_stamp p.item isnt in
    let rest = no_stamps_wait ps (All-tail IsNoStamp p ps all) in (
      (λ i. (if not_later i then [] else (if isnt i then [] else []) ++ p ∷ [])
          ++ settled_after (if not_later i then p ∷ [] else []) ps) ∙ ap (λ (l : List Piece). p ∷ l) rest.0,
      ap (λ (b : Bool). waiting_after (if b then p ∷ [] else []) ps) not_later ∙ rest.1,
    )

pub none_settle : (w : List Piece) → (settled_after w [] ≡ []) × (waiting_after w [] ≡ w)
unfolding settled_after waiting_after
none_settle w = (refl, refl)

-- ---- two lists of pieces

pub waiting_both : (w xs ys : List Piece) → waiting_after w (xs ++ ys) ≡ waiting_after (waiting_after w xs) ys
unfolding waiting_after
waiting_both w [] ys = refl
waiting_both w (x ∷ xs) ys = waiting_both (waiting_piece x) xs ys

pub settled_both : (w xs ys : List Piece)
    → settled_after w (xs ++ ys) ≡ settled_after w xs ++ settled_after (waiting_after w xs) ys
unfolding waiting_after settled_after
settled_both w [] ys = refl
settled_both w (x ∷ xs) ys = ap (λ (l : List Piece). settled_piece w x ++ l) (settled_both (waiting_piece x) xs ys)
    ∙ sym (append_assoc (settled_piece w x) (settled_after (waiting_piece x) xs) _)

pub last_both : (w xs ys : List Piece)
    → last_settled w (xs ++ ys) ≡ settled_after w xs ++ last_settled (waiting_after w xs) ys
last_both w xs ys = (λ i. settled_both w xs ys i ++ waiting_both w xs ys i)
    ∙ append_assoc (settled_after w xs) (settled_after (waiting_after w xs) ys)
    (waiting_after (waiting_after w xs) ys)

-- ---- all of them

-- what is settled in the end, if nothing waited before, and if a stamp of a tick above 0 did
record AreSettled (ps : List Piece) : Type 0 where
  alone : last_settled [] ps ≡ without_empty_stamps ps
  after_stamp : (q : Piece) → is_later_stamp q.item ≡ true
      → last_settled (q ∷ []) ps ≡ without_empty_stamps (q ∷ ps)

settles_more : (p : Piece) (ps : List Piece) → AreSettled ps → AreSettled (p ∷ ps)
unfolding without_empty_stamps
settles_more p ps rest = record {
  alone = alone (is_later_stamp p.item) refl;
  after_stamp = λ q later. after_stamp q later (is_later_stamp p.item) (is_stamp p.item) refl refl;
}
  where
    stands : is_later_stamp p.item ≡ false → without_empty_stamps (p ∷ ps) ≡ p ∷ without_empty_stamps ps
    stands isnt = ap (λ (b : Bool). if b && begins_with_stamp ps then without_empty_stamps ps
        else p ∷ without_empty_stamps ps) isnt

    alone : (b : Bool) → is_later_stamp p.item ≡ b → last_settled [] (p ∷ ps) ≡ without_empty_stamps (p ∷ ps)
    alone true is = later_waits [] p ps is ∙ rest.after_stamp p is
    alone false is = other_settles [] p ps is ∙ no_matter (is_stamp p.item) ∙ ap (λ (l : List Piece). p ∷ l) rest.alone
        ∙ sym (stands is)
      where
        no_matter : (b : Bool) → ((if b then [] else []) ++ p ∷ []) ++ last_settled [] ps ≡ p ∷ last_settled [] ps
        no_matter true = refl
        no_matter false = refl

    -- the waiting stamp goes or stays
    goes : (q : Piece) → is_later_stamp q.item ≡ true → (b : Bool) → is_stamp p.item ≡ b
        → without_empty_stamps (q ∷ p ∷ ps)
        ≡ (if b then without_empty_stamps (p ∷ ps) else q ∷ without_empty_stamps (p ∷ ps))
    goes q later b is = λ i. if later i && is i then without_empty_stamps (p ∷ ps)
        else q ∷ without_empty_stamps (p ∷ ps)

    after_stamp : (q : Piece) → is_later_stamp q.item ≡ true → (x y : Bool) → is_later_stamp p.item ≡ x
        → is_stamp p.item ≡ y → last_settled (q ∷ []) (p ∷ ps) ≡ without_empty_stamps (q ∷ p ∷ ps)
    after_stamp q later true y is stamp = later_waits (q ∷ []) p ps is ∙ rest.after_stamp p is
        ∙ sym (goes q later true (later_is_stamp p.item is))
    after_stamp q later false true isnt stamp = other_settles (q ∷ []) p ps isnt
        ∙ ap (λ (b : Bool). ((if b then [] else q ∷ []) ++ p ∷ []) ++ last_settled [] ps) stamp
        ∙ ap (λ (l : List Piece). p ∷ l) rest.alone ∙ sym (stands isnt) ∙ sym (goes q later true stamp)
    after_stamp q later false false isnt stamp = other_settles (q ∷ []) p ps isnt
        ∙ ap (λ (b : Bool). ((if b then [] else q ∷ []) ++ p ∷ []) ++ last_settled [] ps) stamp
        ∙ ap (λ (l : List Piece). q ∷ p ∷ l) rest.alone ∙ ap (λ (l : List Piece). q ∷ l) (sym (stands isnt))
        ∙ sym (goes q later false stamp)

are_settled : (ps : List Piece) → AreSettled ps
unfolding waiting_after settled_after without_empty_stamps
are_settled [] = record {
  alone = refl;
  after_stamp = λ q later. sym (ap (λ (b : Bool). if b && false then [] else q ∷ []) later);
}
are_settled (p ∷ ps) = settles_more p ps (are_settled ps)

pub settled_without : (ps : List Piece) → last_settled [] ps ≡ without_empty_stamps ps
settled_without ps = (are_settled ps).alone

-- ---- the file, one piece more

-- what no rule may amend stands
pub other_stands : (r : Request) (before : List Piece) (p : Piece) → may_be_amended p.item ≡ false
    → pieces_of_step r before p ≡ p ∷ []
other_stands r before p isnt =
    let s : ParseState = state_of_pieces 0 before in
    ap (λ (b : Bool). if not b then p ∷ []
    else (if s.in_body then body_in_part r s before p p.item (decide r s.timescale s.declared)
    else declaration_in_part r s p p.item)) isnt

waiting_one_more : (r : Request) (before w ps : List Piece) (p : Piece) → waiting_from r before w (ps ++ p ∷ [])
    ≡ waiting_after (waiting_from r before w ps) (pieces_of_step r (before ++ ps) p)
unfolding waiting_from
waiting_one_more r before w [] p =
    ap (λ (l : List Piece). waiting_after w (pieces_of_step r l p)) (sym (append-nil before))
waiting_one_more r before w (q ∷ ps) p =
    waiting_one_more r (before ++ q ∷ []) (waiting_after w (pieces_of_step r before q)) ps p
    ∙ ap (λ (l : List Piece). waiting_after (waiting_from r (before ++ q ∷ [])
    (waiting_after w (pieces_of_step r before q)) ps) (pieces_of_step r l p)) (append_assoc before (q ∷ []) ps)

pub waiting_more : (r : Request) (before : List Piece) (p : Piece)
    → waiting_stamp r (before ++ p ∷ []) ≡ waiting_after (waiting_stamp r before) (pieces_of_step r before p)
waiting_more r before p = waiting_one_more r [] [] before p
