use Rattle.std.proofs.Common.{◌≡◌, ◌∙◌, ◌∷◌, [], ◌++◌, Bool, true, false, ℕ, List, sym, ap, if◌then◌else◌, arith}
use Rattle.std.proofs.lemmas.Bool.{eqb-true}
use Rattle.std.proofs.lemmas.List.{nil_from_length}
use Rattle.vcd_text.specs.Grammar.{ParseState}
use Rattle.vcd_copy.specs.Pieces.{Piece, piece_bytes, state_of_pieces}
use Rattle.vcd_copy.specs.declared.copying.amender.InPlace.TheVariants as places
use Rattle.vcd_part.specs.PartPieces.{pieces_of_step}
use Rattle.vcd_part.specs.inside.PartCopy.{settled_after, waiting_stamp}
use Rattle.vcd_part.proofs.amender.States.{next_some}
use Rattle.vcd_part.proofs.amender.ChangeItems.{change_is}
use Rattle.vcd_part.proofs.amender.Decided.{one_stands}
use Rattle.vcd_part.proofs.amender.Written.{change_pieces, early_change_pieces, change_passes, change_past_first}
use Rattle.vcd_part.proofs.amender.Comments.{counted_amended}
use Rattle.vcd_part.proofs.amender.Waiting.{seen_with, seen_without, bytes_without}
use Rattle.vcd_part.proofs.shared.PutPieces.{bytes_of_both}
use Rattle.vcd_part.proofs.shared.SettledPieces.{one_settled, none_waits}
use Rattle.vcd_part.proofs.amender.PartAmender.settle_change.Goals as goal

not_held : (b : Bool) → (if b then places.Other else places.Nothing) ≡ places.Nothing → b ≡ false
not_held true never = cc
not_held false is = cc

pub returns-then-is_up_to_first-clause-goes : goal.returns-then-is_up_to_first-clause-goes
returns-then-is_up_to_first-clause-goes c = λ goes limit before p seen next is.
    let m = c.args.self.now in
    let s : ParseState = state_of_pieces 0 before in
    let code = c.args.code.now in
    let known = seen.known in
    let none = early_change_pieces m before p c.args.window c.args.is_text code known is c.requires
    (sym c.is_up_to_first.ensures ∙ c.if-is_up_to_first.true) in (
      bytes_without m.request before p none,
      seen_without m m.waiting before p none
          (change_passes limit m m.codes before p c.args.is_text code _ _ known next is known.uses
          (λ w window up. c.is_held.ensures (not_held c.is_held.result (sym c.held_place.ensures ∙ goes)) m.request
          s.declared before p known.uses (known.holds w window up) is (next_some limit before p p.space p.body next)))
          seen.waiting (counted_amended m.comments before p (change_is p.item c.args.is_text code is).amended
          seen.comments),
    )

pub returns-then-not-is_in_part-clause-goes : goal.returns-then-not-is_in_part-clause-goes
returns-then-not-is_in_part-clause-goes c = λ goes limit before p seen next is.
    let m = c.args.self.now in
    let code = c.args.code.now in
    let known = seen.known in
    let stands = c.is_in_part.ensures m.request (state_of_pieces 0 before).declared known.uses in
    let none : pieces_of_step m.request before p ≡ [] =
    change_pieces m before p c.args.window c.args.is_text code known is c.requires
    ∙ ap (λ (b : Bool). if b then p ∷ [] else []) (sym stands ∙ c.if-not-is_in_part.true) in (
      bytes_without m.request before p none,
      seen_without m m.waiting before p none
          (change_past_first limit m before p c.args.window c.args.is_text code _ _ known next is c.requires
          (sym c.is_up_to_first.ensures ∙ c.if-is_up_to_first.false)) seen.waiting
          (counted_amended m.comments before p (change_is p.item c.args.is_text code is).amended seen.comments),
    )

pub returns-then-is_empty-clause-stands : goal.returns-then-is_empty-clause-stands
returns-then-is_empty-clause-stands c = λ stands limit before p seen next is.
    let m = c.args.self.now in
    let code = c.args.code.now in
    let known = seen.known in
    let w : List Piece = waiting_stamp m.request before in
    let isnt = (change_is p.item c.args.is_text code is).no_stamp in
    let in_part = c.is_in_part.ensures m.request (state_of_pieces 0 before).declared known.uses in
    let pieces : pieces_of_step m.request before p ≡ p ∷ [] =
    change_pieces m before p c.args.window c.args.is_text code known is c.requires
    ∙ ap (λ (b : Bool). if b then p ∷ [] else []) (sym in_part ∙ c.if-not-is_in_part.false) in
    let empty : m.waiting.items ≡ [] = nil_from_length m.waiting.items
    (omega (arith, m.waiting.ok.0, eqb-true m.waiting.len 0 (sym c.is_empty.ensures ∙ c.if-is_empty.true))) in (
      ap (λ (l : List Piece). piece_bytes (settled_after w l)) pieces ∙ ap piece_bytes (one_settled w p isnt)
          ∙ bytes_of_both w (p ∷ []) ∙ ap (λ (l : List ℕ). l ++ piece_bytes (p ∷ [])) (sym seen.waiting ∙ empty)
          ∙ one_stands p,
      seen_with m m.waiting before p (p ∷ []) pieces
          (change_past_first limit m before p c.args.window c.args.is_text code _ _ known next is c.requires
          (sym c.is_up_to_first.ensures ∙ c.if-is_up_to_first.false))
          (empty ∙ ap piece_bytes (sym (none_waits w p isnt)))
          (counted_amended m.comments before p (change_is p.item c.args.is_text code is).amended seen.comments),
    )
