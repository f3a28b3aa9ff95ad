-- What there is to say of an output beyond the replies: of variables that share a code, which
-- differ or are removed alone, and which events cuts leave out. The project's own.
use Rattle.std.specs.Prelude.{◌≡◌, ℕ, Bool, false, not, ◌-◌, ◌==◌, ◌&&◌, List, []}
use Rattle.std.specs.Prelude.{if◌then◌else◌, ◌⊎◌, Option, Some, None}
use Rattle.std.specs.Prelude.{◌∷◌, ◌++◌, map, take, length, is_some, bytes_eq, codes, All}
use Rattle.std.specs.List.{filter, list_any, join_by}
use Rattle.vcd_core.specs.declared.capture.TheConstants.{SIGNAL_LIMIT}
use Rattle.vcd_core.specs.Contents.{Contents, SignalContents}
use Rattle.vcd_text.specs.Grammar.{VariableDeclaration, kept_variables}
use Rattle.vcd_text.specs.AsDeclared.{declared_name}
use Rattle.vcd_copy.specs.Pieces.{Piece, state_of_pieces}
use Rattle.vcd_hollow.specs.Cuts.{cuts}
use Rattle.vcd_hollow.specs.HollowRun.{last_edits}
use Rattle.vcd_remarks.specs.NameRemarks.{shown_byte}
use Rattle.vcd_remarks.specs.Remarks.{more_text}
use Rattle.vcd_amend.specs.Amendment.{Amendment, Fate, stays, is_removed, is_changed, fate_of}
use Rattle.vcd_amend.specs.Amendment.{flat_map_along, amended_variables, first_with_code}
use Rattle.vcd_amend.specs.Amendment.{variable_left}
use Rattle.vcd_amend_run.specs.EditedText.{amendment_of_run, remaining_of_run, PiecesMean}

-- ---- variables of one code

-- the codes that variables with this code in the file have in the amended file
abbrev pub codes_left : Amendment → List VariableDeclaration → (code : List ℕ) → List (List ℕ)
codes_left a ds code = map (λ v. v.code) (flat_map_along (λ before d.
    if bytes_eq code d.code then variable_left (fate_of a before d) d else []) [] ds)

-- whether one of these codes is another than this one
abbrev pub has_other_than : (code : List ℕ) → (codes : List (List ℕ)) → Bool
has_other_than code codes = list_any (λ k. not (bytes_eq k code)) codes

-- whether a variable of this fate is left, with another code than one of these
abbrev pub is_left_apart : (codes : List (List ℕ)) → Fate → VariableDeclaration → Bool
is_left_apart codes fate d = list_any (λ v. has_other_than v.code codes) (variable_left fate d)

-- the variables that have another code in the amended file than another variable has there whose
-- code in the file is theirs. They are as the file declares them, so with their names there
abbrev pub left_apart : Amendment → List VariableDeclaration → List VariableDeclaration
left_apart a ds = flat_map_along (λ before d.
    if is_left_apart (codes_left a ds d.code) (fate_of a before d) d then d ∷ [] else []) [] ds

-- whether a variable of this fate is removed, while one of these has its code
abbrev pub is_removed_apart : (left : List VariableDeclaration) → Fate → VariableDeclaration → Bool
is_removed_apart left is_removed d = is_some (first_with_code d.code left)
is_removed_apart left stays d = false
is_removed_apart left (is_changed words code) d = false

-- the variables that are removed, while another variable has their code in the amended file
abbrev pub removed_apart : Amendment → List VariableDeclaration → List VariableDeclaration
removed_apart a ds =
    flat_map_along (λ before d. if is_removed_apart (amended_variables a ds) (fate_of a before d) d
    then d ∷ [] else []) [] ds

-- ---- events

-- whether a variable is an event
abbrev pub is_event : VariableDeclaration → Bool
is_event d = bytes_eq d.kind (codes "event")

-- the events whose code no variable of another kind has, so that nothing of them lasts (`lasts` in
-- `Retimed`): those at ticks that are cut out are left out
abbrev pub events_left_out : List VariableDeclaration → List VariableDeclaration
events_left_out ds =
    filter (λ d. is_event d && not (list_any (λ e. bytes_eq d.code e.code && not (is_event e)) ds))
    ds

-- ---- texts

-- at most five names, and how many more there are
abbrev pub names_text : List (List ℕ) → List ℕ
names_text names = join_by (map shown_byte) (codes ", ") (take 5 names)
    ++ more_text (length names - 5)

-- the line of a remark on variables of these names, with a line feed (10) at its end; none if there
-- is no name
abbrev pub names_remark : (head : List ℕ) → (names : List (List ℕ)) → List ℕ
names_remark head [] = []
names_remark head names =
    codes "output: " ++ head ++ codes ": " ++ names_text names ++ 10 ∷ []

-- the remark on variables of one code that have different ones in the amended file
abbrev pub apart_remark : (names : List (List ℕ)) → List ℕ
apart_remark names = names_remark (codes "variables of one code that differ from now on") names

-- the remark on variables that are removed, while another has their code
abbrev pub removed_remark : (names : List (List ℕ)) → List ℕ
removed_remark names =
    names_remark (codes "removed, but another variable of the same code stays") names

-- the remark on events that cuts leave out
abbrev pub events_remark : (names : List (List ℕ)) → List ℕ
events_remark names =
    names_remark (codes "events at the ticks that are cut are left out") names

-- ---- all remarks

-- the remarks on an amended file with these variables, of which ticks are cut out, or not
abbrev pub output_remarks : Amendment → List VariableDeclaration → (is_cut : Bool) → List ℕ
output_remarks a ds is_cut = apart_remark (map declared_name (left_apart a ds))
    ++ removed_remark (map declared_name (removed_apart a ds))
    ++ (if is_cut then events_remark (map declared_name (events_left_out ds)) else [])

-- the remarks on the output of a run of lines on what a file of these pieces means
abbrev pub output_remarks_of_run : Contents → (skipped depth : ℕ) → (lines : List (List ℕ))
    → List Piece → List ℕ
output_remarks_of_run c skipped depth lines pieces =
    output_remarks (amendment_of_run c skipped depth lines pieces)
    (state_of_pieces SIGNAL_LIMIT pieces).declared
    (not (length (cuts (last_edits c skipped depth lines)) == 0))

-- ---- the law

-- the kept variables of this code of which signals are left, with these
abbrev pub left_of_code : (code : List ℕ) → (kept : List VariableDeclaration)
    → (remaining : List (Option SignalContents)) → List (VariableDeclaration × SignalContents)
left_of_code code (d ∷ ds) (Some n ∷ ns) =
    if bytes_eq code d.code then (d, n) ∷ left_of_code code ds ns else left_of_code code ds ns
left_of_code code (d ∷ ds) (None ∷ ns) = left_of_code code ds ns
left_of_code code ds ns = []

-- no variable of a code is named as one that differs from now on if those that a run leaves have
-- the same changes in its last capture, and else all that it leaves are named
abbrev pub NamedJustIfChangesDiffer : Type 0
NamedJustIfChangesDiffer =
    (file : List ℕ) (pieces : List Piece) (tail : List ℕ) (c : Contents) (skipped depth : ℕ)
    (lines : List (List ℕ)) → PiecesMean file pieces tail c skipped → (code : List ℕ) →
    let ds : List VariableDeclaration = (state_of_pieces SIGNAL_LIMIT pieces).declared in
    let named : List VariableDeclaration = filter (λ d. bytes_eq code d.code)
    (left_apart (amendment_of_run c skipped depth lines pieces) ds) in
    let left : List (VariableDeclaration × SignalContents) =
    left_of_code code (kept_variables ds) (remaining_of_run c skipped depth lines) in
    let same : Type 0 = All (λ p. All (λ q. p.1.changes ≡ q.1.changes) left) left in
    ((named ≡ []) × same) ⊎ ((named ≡ map (λ p. p.0) left) × (same → ⊥))
