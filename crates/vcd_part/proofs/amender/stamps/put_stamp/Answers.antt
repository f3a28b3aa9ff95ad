use Rattle.std.proofs.Common.{◌≡◌, ◌∙◌, ◌∷◌, [], ◌&&◌, Bool, true, false, sym, ap, nat_le, nat_lt, arith}
use Rattle.std.proofs.Common.{if◌then◌else◌}
use Rattle.std.proofs.lemmas.Bool.{lt-ltb, le-leb}
use Rattle.std.proofs.Math.Bool.{and-false}
use Rattle.std.proofs.lemmas.Result.{on_ok_weaker}
use Rattle.vcd_copy.specs.Pieces.{piece_bytes}
use Rattle.vcd_text.proofs.shared.EmittedParts.{writes_as, writes_none}
use Rattle.vcd_part.specs.PartPieces.{stamp_in_part, last_stamp}
use Rattle.vcd_part.proofs.amender.Decided.{ltb_from, leb_from}
use Rattle.vcd_part.proofs.shared.PutPieces.{none_put, put_as, last_waits}
use Rattle.vcd_part.proofs.amender.stamps.put_stamp.Goals as goal

pub returns-then-is_within-clause-put : goal.returns-then-is_within-clause-put
returns-then-is_within-clause-put g c = on_ok_weaker c.put_within.result (λ put p digits is number space body.
    let w = c.args.window in
    let t = c.args.stamp.tick in
    let last = last_stamp w c.args.earlier in
    put_as g.W.Sink _ _ _ _ (stamp_in_part w p t ∷ []) _ (ap (λ (b : Bool). if b then stamp_in_part w p t ∷ []
    else (if nat_le c.args.earlier w.last && nat_lt w.last t then last else []))
    (sym c.if-is_within.true ∙ c.is_within.ensures)) (put p digits is number space body)) c.put_within.ensures.put

pub returns-in_ok-spell_last_stamp-clause-put : goal.returns-in_ok-spell_last_stamp-clause-put
returns-in_ok-spell_last_stamp-clause-put g c = λ p digits is number space body.
    let w = c.args.window in
    let t = c.args.stamp.tick in
    let last = last_stamp w c.args.earlier in
    let out = sym c.is_within.ensures ∙ c.if-is_within.false in
    let old : nat_le c.args.earlier w.last ≡ true = le-leb c.args.earlier w.last c.if-earlier-window.true in
    let new : nat_lt w.last t ≡ true = lt-ltb w.last t c.if-window-stamp.true in
    put_as g.W.Sink _ _ _ _ last _
    (sym (λ i. if out i then stamp_in_part w p t ∷ [] else (if old i && new i then last else []))) (λ v held. (
      writes_as (ap piece_bytes (sym (last_waits w c.args.earlier v (omega arith)))) writes_none,
      c.in_ok-spell_last_stamp.ensures v held,
    ))

pub returns-else-earlier-window-clause-put : goal.returns-else-earlier-window-clause-put
returns-else-earlier-window-clause-put g c = λ p digits is number space body.
    let w = c.args.window in
    let t = c.args.stamp.tick in
    let last = last_stamp w c.args.earlier in
    let out = sym c.is_within.ensures ∙ c.if-is_within.false in
    let none : (nat_le c.args.earlier w.last && nat_lt w.last t) ≡ false = elim c.else-earlier-window.branch [
      | goal.else-earlier-window-via-then-earlier-window+else-window-stamp v ↦
          ap (λ (b : Bool). nat_le c.args.earlier w.last && b) (ltb_from w.last t v.if-window-stamp.false)
          ∙ and-false (nat_le c.args.earlier w.last)
      | goal.else-earlier-window-via-else-earlier-window v ↦
          ap (λ (b : Bool). b && nat_lt w.last t) (leb_from c.args.earlier w.last v.if-earlier-window.false)
    ] in
    put_as g.W.Sink _ _ _ _ [] _
    (sym (λ i. if out i then stamp_in_part w p t ∷ [] else (if none i then last else []))) (none_put g.W.Sink _ _)
