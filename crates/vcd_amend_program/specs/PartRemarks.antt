-- What is said of a part beside its text: the project's own.
use Rattle.std.specs.Prelude.{if◌then◌else◌, List, [], ◌∷◌, ◌++◌, map, codes, ℕ, nat_lt}
use Rattle.std.specs.Fmt.{decimal}
use Rattle.vcd_amend_run.specs.OutputRemarks.{names_remark, removed_remark}
use Rattle.vcd_part.specs.declared.written_part.WrittenPart.{WrittenPart}

-- a line that ends with a number, and a line feed (10)
abbrev pub line_with_number : (words : List ℕ) → ℕ → List ℕ
line_with_number words n = words ++ decimal n ++ 10 ∷ []

-- the remark on a part that ends before the last tick that was asked for
abbrev pub early_end_remark : WrittenPart → List ℕ
early_end_remark w = if w.ends_early
    then line_with_number (codes "output: --to is past the last tick, which is ") w.end else []

-- the remark on the comments and other commands that stay
abbrev pub comments_remark : WrittenPart → List ℕ
comments_remark w = if nat_lt 0 w.comments then line_with_number
    (codes "output: comments and other commands that stay, also from outside the window: ")
    w.comments else []

-- the remark on the scopes of these paths, which stay, although their variables are left out
abbrev pub scopes_remark : (paths : List (List ℕ)) → List ℕ
scopes_remark paths = names_remark (codes "scopes that stay without a variable") paths

-- the remark on events of these names, which are left out at the first tick of the window
abbrev pub first_events_remark : (names : List (List ℕ)) → List ℕ
first_events_remark names =
    names_remark (codes "events at the first tick of the window are left out") names

-- all remarks on a part
abbrev pub part_remarks : WrittenPart → List ℕ
part_remarks w = early_end_remark w ++ removed_remark (map (λ v. v.name) w.still_shown)
    ++ scopes_remark w.emptied_scopes ++ comments_remark w
    ++ first_events_remark (map (λ v. v.name) w.events_left_out_at_first)
