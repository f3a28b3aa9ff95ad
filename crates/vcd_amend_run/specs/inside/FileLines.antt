-- What the changes that are heard of a file are to the lines of a decoder, after cuts.
use Rattle.std.specs.Prelude.{ℕ, ◌+◌, ◌-◌, min, Bool, false, if◌then◌else◌, is_some}
use Rattle.std.specs.Prelude.{List, [], ◌∷◌, ◌++◌, map, Option, Some, None, unwrap_or, slice_get}
use Rattle.std.specs.Option.{option_map}
use Rattle.vcd_core.specs.declared.bit.Bit.{Bit}
use Rattle.vcd_core.specs.declared.bit.Bit.TheVariants.{X}
use Rattle.vcd_text.specs.Grammar.{VariableDeclaration}
use Rattle.vcd_text.specs.HeardChanges.{HeardChange, first_with, is_of_kept}
use Rattle.vcd_text.specs.Letters.{letter_of_digit, letters_of_digits}
use Rattle.vcd_core.specs.Value.{letter_at}
use Rattle.vcd_text.specs.declared.reading.heard_changes.ChangeTarget.{ChangeTarget}
use Rattle.vcd_amend.specs.declared.cut_ticks.CutTicks.{CutTicks}
use Rattle.vcd_decode.specs.declared.edge_maker.LineChange.{LineChange}

-- where a change at a tick is after a cut: one that is cut out moves to the first tick after it
abbrev pub tick_moved_by_cut : CutTicks → ℕ → ℕ
tick_moved_by_cut c t = min t (c.from + (t - c.to))

-- the same after cuts, each made on what the earlier ones leave
unfoldable pub tick_moved_by_cuts : List CutTicks → ℕ → ℕ
tick_moved_by_cuts [] t = t
tick_moved_by_cuts (c ∷ cs) t = tick_moved_by_cuts cs (tick_moved_by_cut c t)

-- the letter that a digit writes
abbrev pub digit_letter : (digit : ℕ) → Bit
digit_letter digit = unwrap_or (letter_of_digit digit) X

-- the lowest letter of the value that digits write
abbrev pub last_letter : (digits : List ℕ) → Bit
last_letter digits = letter_at (letters_of_digits digits) 0

-- the position of the first variable with the code of the one at a position, if there is one
abbrev pub first_of_line : List VariableDeclaration → Option ℕ → Option ℕ
first_of_line kept None = None
first_of_line kept (Some k) = option_map (λ d. first_with d.code kept) (slice_get kept k)

-- the same of all lines
abbrev pub firsts_of : List VariableDeclaration → List (Option ℕ) → List (Option ℕ)
firsts_of kept lines = map (first_of_line kept) lines

-- whether a change of this target is one of a line whose first variable is this
abbrev pub is_of_line : (first : Option ℕ) → ChangeTarget → Bool
is_of_line None target = false
is_of_line (Some k) target = is_of_kept k target

-- the change of a line that a heard change is
abbrev pub line_change : List CutTicks → (line : ℕ) → HeardChange → LineChange
line_change cuts line h =
    record { tick = tick_moved_by_cuts cuts h.tick; line = line; letter = last_letter h.text }

-- the changes of one line at a heard change
abbrev pub changes_of_line : List CutTicks → (first : Option ℕ) → (line : ℕ) → HeardChange
    → List LineChange
changes_of_line cuts first line h =
    if is_of_line first h.target then line_change cuts line h ∷ [] else []

-- the changes of lines at a heard change, if the first of these lines has this number
unfoldable pub changes_of_lines : List CutTicks → (firsts : List (Option ℕ)) → (line : ℕ)
    → HeardChange → List LineChange
changes_of_lines cuts [] line h = []
changes_of_lines cuts (first ∷ firsts) line h =
    changes_of_line cuts first line h ++ changes_of_lines cuts firsts (line + 1) h

-- the changes of lines at heard changes, in their order
unfoldable pub changes_of_heard : List CutTicks → (firsts : List (Option ℕ)) → List HeardChange
    → List LineChange
changes_of_heard cuts firsts [] = []
changes_of_heard cuts firsts (h ∷ hs) =
    changes_of_lines cuts firsts 0 h ++ changes_of_heard cuts firsts hs

-- the changes of lines in a file with these kept variables
abbrev pub file_changes : List CutTicks → (lines : List (Option ℕ)) → List VariableDeclaration
    → List HeardChange → List LineChange
file_changes cuts lines kept heard = changes_of_heard cuts (firsts_of kept lines) heard

-- which lines are present
abbrev pub present : List (Option ℕ) → List Bool
present lines = map is_some lines
