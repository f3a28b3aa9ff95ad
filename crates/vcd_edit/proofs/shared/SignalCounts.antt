-- How many signals a record or an edit leaves, and with which names.
use Rattle.std.proofs.Common.{◌≡◌, ℕ, ◌≤◌, ◌-◌, List, [], ◌∷◌, length, Option, Some, None, refl, ◌∙◌, ap, arith, inl}
use Rattle.std.proofs.Common.{inr, Result, Ok, Err}
use Rattle.std.specs.Prelude.{IsOk, OnErr}
use Rattle.std.proofs.Math.Seq.{map-set_same}
use Rattle.std.proofs.lemmas.Bool.{false≢true}
use Rattle.std.proofs.lemmas.List.{length-set, length-map, length_push}
use Rattle.std.proofs.lemmas.List.Edits.{length-insert}
use Rattle.vcd_core.specs.Contents.{Contents, SignalContents, no_signal, signal_at, signal_value}
use Rattle.vcd_core.specs.Names.{full_name, full_names}
use Rattle.vcd_core.specs.declared.bit.Bit.{Bit}
use Rattle.vcd_edit.specs.RecordView.{PieceView, RecordView}
use Rattle.vcd_edit.specs.declared.edit.Edit.{Edit}
use Rattle.vcd_edit.specs.declared.edit.Edit.TheVariants.{Rename, Remove, Invert, Shift, Cut, Deglitch, Force, Derive}
use Rattle.vcd_edit.specs.Effect.{effect, with_values, with_wave, renamed_signal, derived_signal, signal_after_cut}
use Rattle.vcd_edit.specs.Effect.{inverse_value, shift_value, steady_value, force_value}
use Rattle.vcd_edit.specs.TouchedByEdit.{IsRemove}
use Rattle.vcd_edit.specs.AppliedRecords.{apply_record, with_pieces, with_piece, changes_with_piece}
use Rattle.vcd_edit.specs.AppliedRecords.{signal_with_changes, with_end, with_signal_in_out, PutsInOrKeepsNames}
use Rattle.vcd_edit.specs.AppliedRecords.{PutsNoSignalIn, SignalFits, Fits, IsOfOneKind}
use Rattle.vcd_edit.specs.declared.exchange.records.Kept.{Kept}
use Rattle.vcd_edit.proofs.exchange.ExchangedRecords.{by_kind, signals_of_end}

-- pieces leave all names
names_kept : (c : Contents) (ps : List PieceView) → full_names (with_pieces c ps).signals ≡ full_names c.signals
unfolding with_pieces
names_kept c [] = refl
names_kept c (p ∷ ps) = names_kept (with_piece c p) ps
    ∙ map-set_same full_name c.signals p.signal
    (signal_with_changes (signal_at c p.signal) (changes_with_piece p (signal_at c p.signal).changes)) no_signal refl

-- a signal is put in, unless one is taken out
signal_needs : (c : Contents) (m : ℕ × Option SignalContents) (e : Option ℕ) → SignalFits c (Some m)
    → (PutsNoSignalIn (Some m) → ⊥) → PutsInOrKeepsNames c (with_end e (with_signal_in_out (Some m) c))
signal_needs c (k, None) e fits never = absurd (never refl)
signal_needs c (k, Some s) e fits never =
    let same = ap length (signals_of_end e (with_signal_in_out (Some (k, Some s)) c)) in
    inl (omega (arith, same, length-insert c.signals k s fits))

-- a record has neither pieces nor a signal to put in, or it puts one in, or it leaves all names
record_needs : (c : Contents) (r : RecordView) → IsOfOneKind r → SignalFits c r.signal
    → (r.pieces ≡ [] → PutsNoSignalIn r.signal → ⊥) → PutsInOrKeepsNames c (apply_record r c)
unfolding apply_record with_pieces
record_needs c =
    by_kind (λ r. SignalFits c r.signal → (r.pieces ≡ [] → PutsNoSignalIn r.signal → ⊥)
    → PutsInOrKeepsNames c (apply_record r c))
    (λ ps e rise fits never. inr (ap full_names (signals_of_end e (with_pieces c ps)) ∙ names_kept c ps))
    (λ w e fits never. absurd (never refl tt)) (λ m e fits never. signal_needs c m e fits (never refl))

-- a step by a record that is refused only if it needs memory
pub refused_where : {T : Type 0} (result : Result T Kept) (r : RecordView) (c : Contents) → IsOfOneKind r
    → Fits r c → (r.pieces ≡ [] → PutsNoSignalIn r.signal → IsOk result)
    → OnErr result (PutsInOrKeepsNames c (apply_record r c))
refused_where (Ok done) r c one fits never = tt
refused_where (Err kept) r c one fits never =
    record_needs c r one fits.signal (λ none alone. false≢true (never none alone))

-- another wave of a signal leaves as many
wave_keeps : (c : Contents) (k : ℕ) (f : ℕ → List Bit) → length c.signals ≤ length (with_wave c k f).signals
wave_keeps c k f = omega (arith, length-set c.signals k (with_values c.end f (signal_at c k)))

-- all edits but a remove leave as many, or one more
pub effect_keeps : (e : Edit) (c : Contents) → (IsRemove e → ⊥) → length c.signals ≤ length (effect e c).signals
unfolding effect
effect_keeps (Rename k word) c other = omega (arith, length-set c.signals k (renamed_signal word.now (signal_at c k)))
effect_keeps (Remove k) c other = absurd (other tt)
effect_keeps (Invert k) c other = wave_keeps c k (inverse_value (signal_at c k))
effect_keeps (Shift k by) c other = wave_keeps c k (shift_value c.end by (signal_at c k))
effect_keeps (Cut from to) c other =
    omega (arith, length-map c.signals (signal_after_cut (c.end - (to - from)) from to))
effect_keeps (Deglitch k ticks) c other = wave_keeps c k (steady_value ticks c.end (signal_value (signal_at c k)))
effect_keeps (Force k from to value) c other = wave_keeps c k (force_value from to value (signal_at c k))
effect_keeps (Derive word rule) c other = omega (arith, length_push c.signals (derived_signal word.now rule c))
