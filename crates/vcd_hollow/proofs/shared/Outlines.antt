-- What a capture without its changes says of edits.
use Rattle.std.proofs.Common.{◌≡◌, ℕ, ◌-◌, List, [], ◌∷◌, ◌++◌, length, map, set, refl, sym, ap, ◌∙◌, not, nat_lt}
use Rattle.std.proofs.Common.{nat_le, ◌&&◌, ◌+◌, ◌==◌}
use Rattle.std.specs.List.{list_all, list_any, remove}
use Rattle.std.specs.Str.{bytes_eq}
use Rattle.std.proofs.lemmas.List.{map-set, map_push}
use Rattle.vcd_core.specs.declared.capture.TheConstants.{SIGNAL_LIMIT}
use Rattle.vcd_core.specs.Contents.{Contents, SignalContents, signal_at, with_signal}
use Rattle.vcd_core.specs.Names.{name_in, full_name, full_names}
use Rattle.vcd_core.specs.Tests.{◌unless◌, first_fault}
use Rattle.vcd_core.specs.Word.{is_word}
use Rattle.vcd_core.specs.Outline.{without_changes, outline}
use Rattle.vcd_core.proofs.shared.Outlines.{count_in_outline, at_outline, names_of_outline, twice, map-remove}
use Rattle.vcd_edit.specs.declared.edit.Edit.{Edit}
use Rattle.vcd_edit.specs.declared.edit.Edit.TheVariants.{Rename, Remove, Invert, Shift, Cut, Deglitch, Force, Derive}
use Rattle.vcd_edit.specs.declared.edit.Formula.{Formula}
use Rattle.vcd_edit.specs.declared.edit.Formula.TheVariants.{BitSelect}
use Rattle.vcd_edit.specs.declared.fault.EditError.TheVariants.{NoSuchSignal, NotScalar, BadBit, BadRange, BadCount}
use Rattle.vcd_edit.specs.declared.fault.EditError.TheVariants.{BadValue, BadWord, NameTaken, TooManySignals}
use Rattle.vcd_edit.specs.Effect.{renamed_signal, formula, first_operand, signal_after_cut, derived_signal, effect}
use Rattle.vcd_edit.specs.EditFaults.{operands, operand_tests, edit_fault}
use Rattle.vcd_hollow.specs.OtherWaves.{FaultIsOfOutline, EffectKeepsOutlines}

-- ---- faults

operand_tests_of_outline : (f : Formula) (c : Contents) → operand_tests f (outline c) ≡ operand_tests f c
operand_tests_of_outline (BitSelect a k) c = λ i.
    (NoSuchSignal unless list_all (λ j. nat_lt j (count_in_outline c i)) (a ∷ []))
    ∷ (BadBit unless nat_lt k (at_outline c a i).width) ∷ []
operand_tests_of_outline f c = λ i.
    (NoSuchSignal unless list_all (λ j. nat_lt j (count_in_outline c i)) (operands f))
    ∷ (NotScalar unless list_all (λ j. (at_outline c j i).width == 1) (operands f)) ∷ []

-- the names of the signals other than one
other_names : (c : Contents) (k : ℕ) → full_names (remove (outline c).signals k) ≡ full_names (remove c.signals k)
other_names c k = ap full_names (sym (map-remove without_changes c.signals k)) ∙ names_of_outline (remove c.signals k)

pub fault_of_outline : (e : Edit) (c : Contents) → edit_fault e (outline c) ≡ edit_fault e c
unfolding edit_fault
fault_of_outline (Rename k word) c = λ i. first_fault (
    (NoSuchSignal unless nat_lt k (count_in_outline c i)) ∷ (BadWord unless is_word word.now)
    ∷ (NameTaken unless not (list_any (bytes_eq (full_name (renamed_signal word.now (at_outline c k i))))
    (other_names c k i))) ∷ [])
fault_of_outline (Cut from to) c = refl
fault_of_outline (Deglitch k ticks) c = λ i. first_fault (
    (NoSuchSignal unless nat_lt k (count_in_outline c i)) ∷ (BadCount unless nat_lt 0 ticks) ∷ [])
fault_of_outline (Force k from to value) c = λ i. first_fault (
    (NoSuchSignal unless nat_lt k (count_in_outline c i))
    ∷ (BadRange unless (nat_lt from to && nat_le to (c.end + 1)))
    ∷ (BadValue unless (length value == (at_outline c k i).width)) ∷ [])
fault_of_outline (Derive word rule) c = λ i. first_fault (
    operand_tests_of_outline (formula rule) c i
    ++ (BadWord unless is_word word.now)
    ∷ (NameTaken unless not (list_any (bytes_eq (name_in (at_outline c (first_operand (formula rule)) i).scopes
    (word.now ∷ []))) (names_of_outline c.signals i)))
    ∷ (TooManySignals unless nat_lt (count_in_outline c i) SIGNAL_LIMIT) ∷ [])
fault_of_outline (Remove k) c = λ i. first_fault ((NoSuchSignal unless nat_lt k (count_in_outline c i)) ∷ [])
fault_of_outline (Invert k) c = λ i. first_fault ((NoSuchSignal unless nat_lt k (count_in_outline c i)) ∷ [])
fault_of_outline (Shift k by) c = λ i. first_fault ((NoSuchSignal unless nat_lt k (count_in_outline c i)) ∷ [])

pub fault_is_of_outline : FaultIsOfOutline
fault_is_of_outline e c d same =
    sym (fault_of_outline e c) ∙ ap (edit_fault e) same ∙ fault_of_outline e d

-- ---- effects

-- the outline after the edit is that of the edit on the outline
abbrev EffectOfOutline : Edit → Contents → Type 0
EffectOfOutline e c = outline (effect e c) ≡ outline (effect e (outline c))

-- another signal at a position, of whose changes the outline says nothing
replaced : (c : Contents) (k : ℕ) (s t : SignalContents) → without_changes s ≡ without_changes t
    → outline (with_signal c k s) ≡ outline (with_signal (outline c) k t)
replaced c k s t same =
    ap (λ (ss : List SignalContents). record c { signals = ss })
    (map-set without_changes c.signals k s
    ∙ (λ i. set (sym (twice c.signals) i) k (same i))
    ∙ sym (map-set without_changes (map without_changes c.signals) k t))

-- other changes at a position
wave_replaced : (c : Contents) (k : ℕ) (s t : SignalContents) → without_changes s ≡ without_changes (signal_at c k)
    → without_changes t ≡ without_changes (signal_at (outline c) k)
    → outline (with_signal c k s) ≡ outline (with_signal (outline c) k t)
wave_replaced c k s t is there =
    replaced c k s t (is ∙ sym (there ∙ ap without_changes (at_outline c k)))

-- each signal with other changes
all_cut : (end from to : ℕ) (ss : List SignalContents) → map without_changes (map (signal_after_cut end from to) ss)
    ≡ map without_changes (map (signal_after_cut end from to) (map without_changes ss))
all_cut end from to [] = refl
all_cut end from to (s ∷ ss) =
    ap (λ (rest : List SignalContents). without_changes s ∷ rest) (all_cut end from to ss)

pub effect_of_outline : (e : Edit) (c : Contents) → EffectOfOutline e c
unfolding effect
effect_of_outline (Rename k word) c =
    replaced c k _ _ (λ i. without_changes (renamed_signal word.now (sym (at_outline c k) i)))
effect_of_outline (Remove k) c =
    ap (λ (ss : List SignalContents). record c { signals = ss })
    (map-remove without_changes c.signals k ∙ (λ i. remove (sym (twice c.signals) i) k)
    ∙ sym (map-remove without_changes (map without_changes c.signals) k))
effect_of_outline (Invert k) c = wave_replaced c k _ _ refl refl
effect_of_outline (Shift k by) c = wave_replaced c k _ _ refl refl
effect_of_outline (Cut from to) c =
    ap (λ (ss : List SignalContents). record c { end = c.end - (to - from); signals = ss })
    (all_cut (c.end - (to - from)) from to c.signals)
effect_of_outline (Deglitch k ticks) c = wave_replaced c k _ _ refl refl
effect_of_outline (Force k from to value) c = wave_replaced c k _ _ refl refl
effect_of_outline (Derive word rule) c =
    ap (λ (ss : List SignalContents). record c { signals = ss })
    (map_push without_changes c.signals (derived_signal word.now rule c)
    ∙ (λ i. sym (twice c.signals) i
    ++ without_changes (record (derived_signal word.now rule c) {
      scopes = (sym (at_outline c (first_operand (formula rule))) i).scopes;
    }) ∷ [])
    ∙ sym (map_push without_changes (map without_changes c.signals) (derived_signal word.now rule (outline c))))

pub effect_keeps_outlines : EffectKeepsOutlines
effect_keeps_outlines e c d same =
    effect_of_outline e c ∙ ap (λ (o : Contents). outline (effect e o)) same ∙ sym (effect_of_outline e d)
