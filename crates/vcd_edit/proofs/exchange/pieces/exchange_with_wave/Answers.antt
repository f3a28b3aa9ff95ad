use Rattle.std.proofs.Common.{◌≡◌, ◌∙◌, ◌+◌, ap, sym, subst, pos, ◌+ℤ◌, w64, FitsSigned, ℤ, ℕ, ◌≤◌, to_z, of_z, length}
use Rattle.std.proofs.Common.{rules}
use Rattle.std.specs.Int.{FitsUnsigned}
use Rattle.std.proofs.lemmas.Int.{to_z-of_z}
use Rattle.vcd_core.specs.declared.capture.TheConstants.{END_LIMIT}
use Rattle.vcd_edit.specs.inside.exchange.Trimming.{IsTrimmed}
use Rattle.vcd_edit.specs.Records.{piece_view}
use Rattle.vcd_edit.proofs.exchange.ExchangedPieces.{led_back}
use Rattle.vcd_edit.proofs.exchange.pieces.exchange_with_wave.Goals as goal

pub returns-clause-restores : goal.returns-clause-restores
returns-clause-restores c =
    let p = c.trim.new.piece in
    let range : FitsSigned w64 p.by = search rules in
    let range' : FitsSigned w64 c.opposite-back.result = search rules in
    let opposite : (tick : ℕ) → tick ≤ END_LIMIT → FitsUnsigned w64 (pos tick +ℤ p.by)
    → p.by +ℤ to_z w64 (of_z w64 c.opposite-back.result) ≡ pos 0 =
    subst (λ (q : ℤ). (tick : ℕ) → tick ≤ END_LIMIT → FitsUnsigned w64 (pos tick +ℤ p.by)
    → p.by +ℤ q ≡ pos 0) (sym (to_z-of_z w64 c.opposite-back.result range'))
    (subst (λ (b : ℤ). (tick : ℕ) → tick ≤ END_LIMIT → FitsUnsigned w64 (pos tick +ℤ b)
    → b +ℤ c.opposite-back.result ≡ pos 0) (to_z-of_z w64 p.by range) c.opposite-back.ensures) in
    led_back c.args.wave.now.changes (piece_view c.args.piece.now) (piece_view p) _
    (subst (λ l. IsTrimmed l (piece_view c.args.piece.now) (piece_view p)) c.changes.ensures.changes
    c.trim.ensures.trimmed)
    c.requires.ready.upto opposite c.splice_or_replace.ensures.rest.0
    c.splice_or_replace.ensures.rest.1 (ap (λ l. p.from + length l) c.as_slice.ensures.value)
    (c.shrink_to_fit.ensures.items ∙ c.splice_or_replace.ensures.changes)
