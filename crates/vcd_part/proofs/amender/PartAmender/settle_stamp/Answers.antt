use Rattle.std.proofs.Common.{◌≡◌, ◌∙◌, ◌≤◌, ◌<◌, ◌⊎◌, [], true, sym, ap, inl, inr, subst, ℕ}
use Rattle.std.specs.Prelude.{Ok}
use Rattle.vcd_text.specs.Items.{stamp}
use Rattle.vcd_text.specs.Grammar.{ParseState, Allows}
use Rattle.vcd_copy.specs.Pieces.{state_of_pieces}
use Rattle.vcd_copy.specs.Copied.{may_be_amended}
use Rattle.vcd_part.specs.PartPieces.{is_up_to_first, pieces_of_step}
use Rattle.vcd_part.proofs.laws.states.Windows.{decided_in_order}
use Rattle.vcd_copy.proofs.shared.StatesOfPieces.{at_limit}
use Rattle.vcd_part.proofs.amender.States.{later_stamp, next_allowed}
use Rattle.vcd_part.proofs.amender.Steps.{stamp_seen}
use Rattle.vcd_part.proofs.amender.Decided.{answer_with_window, window_means_body, pieces_in_body, stamp_pieces_are}
use Rattle.vcd_part.proofs.amender.Decided.{stamp_goes}
use Rattle.vcd_part.proofs.amender.Comments.{counted_amended}
use Rattle.vcd_part.proofs.amender.Waiting.{seen_without, bytes_without}
use Rattle.vcd_part.proofs.amender.PartAmender.settle_stamp.Goals as goal

pub returns-clause-goes : goal.returns-clause-goes
returns-clause-goes c = λ yes limit before p code seen next.
    let m = c.args.self.now in
    let s : ParseState = state_of_pieces 0 before in
    let w = c.args.window in
    let tick = c.args.tick in
    let (digits, is, number) = next.shows in
    let window = c.requires in
    let answer = answer_with_window m before s w seen.known window in
    let body = window_means_body m before s w seen.known window in
    let allowed : Allows (at_limit limit s) (stamp digits) =
    subst (Allows (at_limit limit s)) is (next_allowed limit before p p.space p.body next.next) in
    let later : s.tick ≤ tick =
    subst (λ (n : ℕ). s.tick ≤ n) (sym number) (later_stamp (at_limit limit s) digits allowed) in
    let out : (is_up_to_first w tick ≡ true) ⊎ (w.last < s.tick) = elim c.else-not-is_up_to_first.branch [
      | goal.else-not-is_up_to_first-via-then-not-is_up_to_first+else-self-window v ↦
          inr (subst (λ (n : ℕ). w.last < n) seen.known.tick v.if-self-window.false)
      | goal.else-not-is_up_to_first-via-else-not-is_up_to_first v ↦
          inl (sym c.is_up_to_first.ensures ∙ v.if-not-is_up_to_first.false)
    ] in
    let none : pieces_of_step m.request before p ≡ [] =
    pieces_in_body m.request before p (ap may_be_amended is) body (Ok w) answer
    ∙ stamp_pieces_are m.request s before p w digits tick p.item is number
    ∙ stamp_goes m.request s before p w tick (decided_in_order m.request s.timescale s.declared w answer) later out in (
      bytes_without m.request before p none,
      seen_without (record m { tick = tick }) m.waiting before p none
          (stamp_seen limit m before p tick p.space p.body seen.known next.next next.shows) seen.waiting
          (counted_amended m.comments before p (ap may_be_amended is) seen.comments),
    )
