-- Records whose result is the effect of an edit.
use Rattle.std.proofs.Common.{Option, ◌≡◌, ◌<◌, ℕ, ◌+◌, ◌≤◌, IsTrue, List, [], ◌∷◌, length, map, get_or, All, Some}
use Rattle.std.proofs.Common.{None, refl, sym, ap, subst, ◌∙◌, arith}
use Rattle.std.specs.Borrow.{Bor}
use Rattle.std.specs.Prelude.{ℤ, neg_ℤ, Result, IfOk}
use Rattle.std.proofs.lemmas.List.{length-map, set-get_or}
use Rattle.std.proofs.lemmas.List.Elements.{All-nil, All-cons}
use Rattle.std.proofs.lemmas.Result.{IfOk-weaker}
use Rattle.vcd_core.specs.declared.bit.Bit.{Bit}
use Rattle.vcd_core.specs.declared.capture.Signal.{Signal}
use Rattle.vcd_core.specs.declared.capture.Capture.{Capture}
use Rattle.vcd_core.specs.declared.wave.Change.{Change}
use Rattle.vcd_core.specs.declared.memory.NoMemory.{NoMemory}
use Rattle.vcd_core.specs.Wave.{changes_of}
use Rattle.vcd_core.specs.Contents.{Contents, SignalContents, no_signal, signal_at, with_signal}
use Rattle.vcd_core.specs.CaptureContents.{contents, signal_contents}
use Rattle.vcd_core.specs.Sound.{IsSound, IsSoundSignal}
use Rattle.vcd_edit.specs.declared.edit.Edit.{Edit}
use Rattle.vcd_edit.specs.declared.edit.Edit.TheVariants.{Rename, Remove, Force}
use Rattle.vcd_edit.specs.declared.record.Piece.{Piece}
use Rattle.vcd_edit.specs.RecordView.{PieceView, RecordView}
use Rattle.vcd_edit.specs.Effect.{with_wave, renamed_signal, effect}
use Rattle.vcd_edit.specs.Touched.{stays, record_pairing}
use Rattle.vcd_edit.specs.TouchedByEdit.{edit_advance, edit_pairing}
use Rattle.vcd_edit.specs.EditFaults.{is_signal, edit_fault}
use Rattle.vcd_edit.specs.AppliedRecords.{changes_with_piece, signal_with_changes, with_pieces, apply_record, PieceFits}
use Rattle.vcd_edit.specs.AppliedRecords.{WordFits, SignalFits}
use Rattle.vcd_edit.proofs.exchange.ExchangedPieces.{contents_at, fits_there}
use Rattle.vcd_edit.proofs.exchange.ExchangedRecords.{parts}
use Rattle.vcd_edit.specs.inside.plans.Ranges.{GivesChanges}
use Rattle.vcd_edit.specs.Records.{piece_view}
use Rattle.vcd_edit.specs.inside.plans.Plan.{IsPlan, GivesValues}
use Rattle.vcd_edit.proofs.checking.Faults.{no_fault, position_below, range_within}
use Rattle.vcd_edit.proofs.shared.SoundEffects.{sound_at, effect_is_sound}

-- a record with that result is a plan if its parts lie within the capture
pub is_plan : (e : Edit) (c : Contents) (r : RecordView) → IsSound c → edit_fault e c ≡ None
    → apply_record r c ≡ effect e c → All (PieceFits c) r.pieces → WordFits c r.word → SignalFits c r.signal
    → All (λ p. edit_advance e ≡ neg_ℤ p.by) r.pieces → record_pairing r.signal ≡ edit_pairing e c → IsPlan e c r
is_plan e c r sound none leads pieces word signal advance pairing = record {
  fits = record {
    pieces = pieces;
    word = word;
    signal = signal;
    sound = subst IsSound (sym leads) (effect_is_sound e c sound none);
  };
  leads = leads;
  advance = advance;
  pairing = pairing;
}

-- the same without pieces
pub plan_without_pieces : (e : Edit) (c : Contents) (w : Option (ℕ × List ℕ)) (m : Option (ℕ × Option SignalContents))
    (pieces : List Piece) → IsSound c → edit_fault e c ≡ None → pieces ≡ []
    → apply_record (parts [] w m None) c ≡ effect e c → WordFits c w → SignalFits c m
    → record_pairing m ≡ edit_pairing e c → IsPlan e c (parts (map piece_view pieces) w m None)
plan_without_pieces e c w m pieces sound none empty leads word signal pairing =
    subst (λ (ps : List Piece). IsPlan e c (parts (map piece_view ps) w m None)) (sym empty)
    (is_plan e c (parts [] w m None) sound none leads (All-nil (PieceFits c)) word signal
    (All-nil (λ (p : PieceView). edit_advance e ≡ neg_ℤ p.by)) pairing)

-- a position within the contents of a capture
pub there : (c : Capture) (k : ℕ) → IsTrue (is_signal (contents c) k) → k < length c.signals
there c k is = omega (arith, position_below (contents c) k is, length-map c.signals signal_contents)

-- ---- one piece

module _ (e : Edit) (c : Contents) (k : ℕ) (f : ℕ → List Bit) (p : PieceView) (r : RecordView)
    (is : r ≡ parts (p ∷ []) None None None) (at_k : p.signal ≡ k)
    (s : SignalContents) (here : signal_at c k ≡ s) (gives : GivesChanges p s.changes s.width c.end f) where
  abbrev alone : RecordView
  alone = parts (p ∷ []) None None None

  -- the record of a piece gives its signal other values
  one_piece_leads : apply_record r c ≡ with_wave c k f
  unfolding apply_record with_pieces
  one_piece_leads =
      ap (λ (q : RecordView). apply_record q c) is
      ∙ ap (λ (j : ℕ). with_signal c j
      (signal_with_changes (signal_at c j) (changes_with_piece p (signal_at c j).changes))) at_k
      ∙ ap (λ (s : SignalContents). with_signal c k (signal_with_changes s (changes_with_piece p s.changes))) here
      ∙ ap (λ (cs : List Change). with_signal c k (signal_with_changes s cs)) gives.is
      ∙ ap (λ (s : SignalContents). with_signal c k (signal_with_changes s (changes_of s.width c.end f))) (sym here)

  one_piece_fits : k < length c.signals → PieceFits c p
  one_piece_fits within =
      fits_there c p s (omega (arith, at_k, within)) (ap (λ (j : ℕ). signal_at c j) at_k ∙ here) gives.ordered
      gives.within gives.ticks

  -- it is a plan if these are the values of the edit
  pub one_piece_plan : IsSound c → edit_fault e c ≡ None → k < length c.signals → effect e c ≡ with_wave c k f
      → edit_advance e ≡ neg_ℤ p.by → edit_pairing e c ≡ stays → IsPlan e c r
  one_piece_plan sound none within effect_is advance pairing =
      subst (IsPlan e c) (sym is)
      (is_plan e c alone sound none (sym (ap (λ (q : RecordView). apply_record q c) is) ∙ one_piece_leads
      ∙ sym effect_is)
      (All-cons (PieceFits c) p [] (one_piece_fits within) (All-nil (PieceFits c))) tt tt
      (All-cons (λ (p : PieceView). edit_advance e ≡ neg_ℤ p.by) p [] advance
      (All-nil (λ (p : PieceView). edit_advance e ≡ neg_ℤ p.by))) (sym pairing))

-- ---- each edit

pub rename_plan : (c : Capture) (k : ℕ) (word : Bor (List ℕ)) (pieces : List Piece) (copy : List ℕ)
    → IsSound (contents c) → edit_fault (Rename k word) (contents c) ≡ None → pieces ≡ [] → copy ≡ word.now
    → IsPlan (Rename k word) (contents c) (parts (map piece_view pieces) (Some (k, copy)) None None)
unfolding apply_record with_pieces effect
rename_plan c k word pieces copy sound none empty same =
    plan_without_pieces (Rename k word) (contents c) (Some (k, copy)) None pieces sound none empty
    (ap (λ (w : List ℕ). with_signal (contents c) k (renamed_signal w (signal_at (contents c) k))) same)
    (position_below (contents c) k (no_fault (Rename k word) (contents c) none).0) tt refl

pub remove_plan : (c : Capture) (k : ℕ) (pieces : List Piece) → IsSound (contents c)
    → edit_fault (Remove k) (contents c) ≡ None → pieces ≡ []
    → IsPlan (Remove k) (contents c) (parts (map piece_view pieces) None (Some (k, None)) None)
unfolding apply_record with_pieces effect
remove_plan c k pieces sound none empty =
    plan_without_pieces (Remove k) (contents c) None (Some (k, None)) pieces sound none empty refl tt
    (position_below (contents c) k (no_fault (Remove k) (contents c) none).0) refl

-- an edit of one wave, as the piece of its signal
pub wave_plan : (e : Edit) (c : Contents) (k : ℕ) (f : SignalContents → ℕ → List Bit) (by : ℤ) (s : SignalContents)
    (p : Piece) (made : Result RecordView NoMemory) → IsSound c → edit_fault e c ≡ None
    → k < length c.signals → signal_at c k ≡ s → effect e c ≡ with_wave c k (f (signal_at c k))
    → edit_advance e ≡ neg_ℤ by → edit_pairing e c ≡ stays → GivesValues k s c.end by (f s) p
    → IfOk made (λ r. r ≡ parts (piece_view p ∷ []) None None None) → IfOk made (IsPlan e c)
wave_plan e c k f by s p made sound none within here is advance pairing gives told =
    IfOk-weaker made (λ r. r ≡ parts (piece_view p ∷ []) None None None)
    (IsPlan e c)
    (λ r told. one_piece_plan e c k (f s) (piece_view p) r told gives.signal s here gives.leads sound none within
    (is ∙ ap (λ (s : SignalContents). with_wave c k (f s)) here) (advance ∙ ap neg_ℤ (sym gives.offset)) pairing) told

-- the signal at a position is sound
pub sound_here : (c : Capture) (k : ℕ) (s : Signal) → IsSound (contents c) → k < length c.signals
    → s ≡ get_or c.signals k s → IsSoundSignal c.end (signal_contents s)
sound_here c k s sound within at =
    subst (IsSoundSignal c.end) (contents_at c.signals k s within at)
    (sound_at (contents c) k (omega (arith, within, length-map c.signals signal_contents)) sound)

-- the ticks of a force
pub force_ticks : (k from to : ℕ) (value : List Bit) (c : Contents) → edit_fault (Force k from to value) c ≡ None
    → (from < to) × (to ≤ c.end + 1)
force_ticks k from to value c none = range_within from to (c.end + 1) (no_fault (Force k from to value) c none).1.0

-- ---- nothing to do

-- an edit that gives a signal the changes that it has
pub nothing_plan : (e : Edit) (c : Contents) (k : ℕ) (f : SignalContents → ℕ → List Bit) (s : SignalContents)
    (r : RecordView) → r ≡ parts [] None None None
    → IsSound c → edit_fault e c ≡ None → signal_at c k ≡ s → effect e c ≡ with_wave c k (f (signal_at c k))
    → edit_pairing e c ≡ stays → changes_of s.width c.end (f s) ≡ s.changes → IsPlan e c r
unfolding apply_record with_pieces
nothing_plan e c k f s r is sound none here gives pairing same =
    let still : effect e c ≡ c =
    gives ∙ ap (λ (s : SignalContents). with_signal c k (signal_with_changes s (changes_of s.width c.end (f s)))) here
    ∙ ap (λ (cs : List Change). with_signal c k (signal_with_changes s cs)) same ∙ ap (with_signal c k) (sym here)
    ∙ ap (λ (ss : List SignalContents). record c { signals = ss }) (set-get_or c.signals k no_signal) in
    subst (IsPlan e c) (sym is)
    (is_plan e c (parts [] None None None) sound none (sym still)
    (All-nil (PieceFits c)) tt tt (All-nil (λ (p : PieceView). edit_advance e ≡ neg_ℤ p.by)) (sym pairing))
