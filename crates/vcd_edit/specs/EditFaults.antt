-- When an edit is refused: its tests on a capture, in the order of the faults. The project's own.
use Rattle.std.specs.Prelude.{ℕ, ◌+◌, ◌==◌, ◌&&◌, nat_lt, nat_le, Bool, not, List, [], ◌∷◌, ◌++◌}
use Rattle.std.specs.Prelude.{length, Option}
use Rattle.std.specs.List.{list_all, list_any, remove}
use Rattle.std.specs.Str.{bytes_eq}
use Rattle.vcd_core.specs.Contents.{Contents, SignalContents, signal_at}
use Rattle.vcd_core.specs.Word.{is_word}
use Rattle.vcd_core.specs.Tests.{Test, ◌unless◌, first_fault}
use Rattle.vcd_core.specs.Names.{full_name, full_names}
use Rattle.vcd_core.specs.declared.capture.TheConstants.{SIGNAL_LIMIT}
use Rattle.vcd_edit.specs.declared.edit.Edit.{Edit}
use Rattle.vcd_edit.specs.declared.edit.Edit.TheVariants.{Rename, Remove, Invert, Shift, Cut}
use Rattle.vcd_edit.specs.declared.edit.Edit.TheVariants.{Deglitch, Force, Derive}
use Rattle.vcd_edit.specs.declared.edit.Formula.{Formula}
use Rattle.vcd_edit.specs.declared.edit.Formula.TheVariants.{Negation, Pair, BitSelect}
use Rattle.vcd_edit.specs.declared.fault.EditError.{EditError}
use Rattle.vcd_edit.specs.declared.fault.EditError.TheVariants.{NoSuchSignal, NotScalar, BadBit}
use Rattle.vcd_edit.specs.declared.fault.EditError.TheVariants.{BadRange, BadCount, BadValue}
use Rattle.vcd_edit.specs.declared.fault.EditError.TheVariants.{BadWord, NameTaken, TooManySignals}
use Rattle.vcd_edit.specs.Effect.{renamed_signal, derived_signal, formula}

-- ---- what is tested

-- whether there is a signal at a position
abbrev pub is_signal : Contents → ℕ → Bool
is_signal c k = nat_lt k (length c.signals)

-- whether the signal at a position has one bit
abbrev pub is_scalar : Contents → ℕ → Bool
is_scalar c k = (signal_at c k).width == 1

-- whether none of these signals has the full name of a signal
abbrev pub is_name_free : SignalContents → List SignalContents → Bool
is_name_free s others = not (list_any (bytes_eq (full_name s)) (full_names others))

-- the positions of a formula's operands
abbrev pub operands : Formula → List ℕ
operands (Negation a) = a ∷ []
operands (Pair operator a b) = a ∷ b ∷ []
operands (BitSelect a k) = a ∷ []

-- the test of the operands' widths: those of an operator have one bit each, a chosen bit is below
-- the width
abbrev pub width_test : Formula → Contents → Test EditError
width_test (BitSelect a k) c = BadBit unless nat_lt k (signal_at c a).width
width_test f c = NotScalar unless list_all (is_scalar c) (operands f)

-- the tests of a formula's operands
abbrev pub operand_tests : Formula → Contents → List (Test EditError)
operand_tests f c = (NoSuchSignal unless list_all (is_signal c) (operands f)) ∷ width_test f c ∷ []

-- ---- the tests of an edit

-- the tests of an edit, in the order of the faults; the end itself may be forced, but not cut out.
-- An edit of a script has a signal and a value of its width, so NoSuchSignal and BadValue are for
-- other callers
abbrev pub edit_tests : Edit → Contents → List (Test EditError)
edit_tests (Rename k word) c =
    (NoSuchSignal unless is_signal c k)
    ∷ (BadWord unless is_word word.now)
    ∷ (NameTaken unless is_name_free (renamed_signal word.now (signal_at c k)) (remove c.signals k))
    ∷ []
edit_tests (Remove k) c = (NoSuchSignal unless is_signal c k) ∷ []
edit_tests (Invert k) c = (NoSuchSignal unless is_signal c k) ∷ []
edit_tests (Shift k by) c = (NoSuchSignal unless is_signal c k) ∷ []
edit_tests (Cut from to) c = (BadRange unless (nat_lt from to && nat_le to c.end)) ∷ []
edit_tests (Deglitch k ticks) c =
    (NoSuchSignal unless is_signal c k)
    ∷ (BadCount unless nat_lt 0 ticks)
    ∷ []
edit_tests (Force k from to value) c =
    (NoSuchSignal unless is_signal c k)
    ∷ (BadRange unless (nat_lt from to && nat_le to (c.end + 1)))
    ∷ (BadValue unless (length value == (signal_at c k).width))
    ∷ []
edit_tests (Derive word rule) c =
    operand_tests (formula rule) c
    ++ (BadWord unless is_word word.now)
    ∷ (NameTaken unless is_name_free (derived_signal word.now rule c) c.signals)
    ∷ (TooManySignals unless nat_lt (length c.signals) SIGNAL_LIMIT)
    ∷ []

-- the fault of an edit on a capture, if it has one
unfoldable pub edit_fault : Edit → Contents → Option EditError
edit_fault e c = first_fault (edit_tests e c)
