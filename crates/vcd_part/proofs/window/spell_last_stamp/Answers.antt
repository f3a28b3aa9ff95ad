use Rattle.std.proofs.Common.{◌≡◌, ◌∙◌, ◌∷◌, [], ◌-◌, ◌<◌, Bool, true, false, sym, ap, arith, max, nat_lt}
use Rattle.std.proofs.Common.{if◌then◌else◌}
use Rattle.std.proofs.lemmas.Result.{on_ok_weaker}
use Rattle.vcd_copy.specs.Pieces.{piece_bytes, stamp_line}
use Rattle.vcd_part.specs.inside.PartCopy.{waiting_after}
use Rattle.vcd_part.proofs.amender.Decided.{one_stands}
use Rattle.vcd_part.proofs.shared.PutPieces.{later_line}
use Rattle.vcd_part.proofs.shared.SettledPieces.{none_settle, stamp_waits}
use Rattle.vcd_part.proofs.window.spell_last_stamp.Goals as goal

pub returns-then-max-window : goal.returns-then-max-window
returns-then-max-window c = λ w held.
    let last = c.args.window.last in
    let n = last - c.args.window.first in
    let over : nat_lt (max c.args.tick c.args.window.first) last ≡ false = grind arith in
    held ∙ ap piece_bytes (sym (none_settle w).1
    ∙ ap (λ (b : Bool). waiting_after w (if b then stamp_line n ∷ [] else [])) (sym over))

pub returns : goal.returns
returns c = on_ok_weaker c.spell_stamp.result (λ spelled w held.
    let first = c.args.window.first in
    let last = c.args.window.last in
    let n = last - first in
    let early : nat_lt (max c.args.tick first) last ≡ true = grind arith in
    let some : 0 < n = omega arith in
    spelled ∙ sym (one_stands (stamp_line n)) ∙ ap piece_bytes
    (sym (stamp_waits w (stamp_line n) (later_line n c.spell_stamp.ensures.fits some)).1
    ∙ ap (λ (b : Bool). waiting_after w (if b then stamp_line n ∷ [] else [])) (sym early)))
    c.spell_stamp.ensures.spelled
