-- What the report of a comparison shows of a capture: its path, what it declares, and its end. The
-- form of names is the project's own.
use Rattle.std.specs.Prelude.{ℕ, ◌+◌, ◌*◌, ◌==◌, List, [], ◌++◌, map, length, take, count_by}
use Rattle.std.specs.Prelude.{bytes_eq, slice_index_or, Bool, true, false, Option}
use Rattle.std.specs.Prelude.{if◌then◌else◌, codes, decimal}
use Rattle.std.specs.List.{range_with_len}
use Rattle.vcd_core.specs.declared.capture.Timescale.{Timescale}
use Rattle.vcd_core.specs.Contents.{Contents, SignalContents}
use Rattle.vcd_core.specs.Names.{full_name}
use Rattle.vcd_shell.specs.Shown.{shown}
use Rattle.vcd_compare.specs.declared.left_out.LeftOut.{LeftOut}

-- a variable: its name, its kind and its width, which is 0 if its kind has no letters
pub record VariableFacts : Type 0 where
  pub name : List ℕ
  pub kind : List ℕ
  pub width : ℕ

-- the end is in ticks of the comparison; what is left out is there if it is told
pub record CaptureFacts : Type 0 where
  pub path : List ℕ
  pub variables : List VariableFacts
  pub timescale : Option Timescale
  pub end : ℕ
  pub left_out : LeftOut

-- a position without a variable
abbrev pub no_facts : VariableFacts
no_facts = record { name = []; kind = []; width = 0 }

-- a variable with its full name, as it is declared
abbrev pub facts_declared : SignalContents → VariableFacts
facts_declared s = record { name = full_name s; kind = s.kind; width = s.width }

-- of several variables with one name the second is shown as `NAME (2)`, and so on
abbrev pub turn_text : (namesakes : ℕ) → List ℕ
turn_text namesakes =
    if namesakes == 0 then [] else codes " (" ++ decimal (namesakes + 1) ++ codes ")"

-- a variable as it is shown, after others with these full names
abbrev pub shown_after : (names : List (List ℕ)) → VariableFacts → VariableFacts
shown_after names v =
    record v { name = shown v.name ++ turn_text (count_by (bytes_eq v.name) names) }

-- the variable at a position as it is shown, after those before it
abbrev pub shown_at : List VariableFacts → ℕ → VariableFacts
shown_at vs k = shown_after (take k (map (λ v. v.name) vs)) (slice_index_or vs k no_facts)

-- variables as they are shown, in their order
abbrev pub all_shown : List VariableFacts → List VariableFacts
all_shown vs = map (shown_at vs) (range_with_len 0 (length vs))

-- what is told of what is left out: nothing without `--strict`
abbrev pub left_out_told : (is_strict : Bool) → LeftOut → LeftOut
left_out_told true left_out = left_out
left_out_told false left_out = record { replaced = 0 }

-- a capture at a path, a tick of which has `factor` ticks of the comparison
abbrev pub capture_facts : (path : List ℕ) → Contents → (factor : ℕ) → (told : LeftOut)
    → CaptureFacts
capture_facts path c factor told = record {
  path = shown path;
  variables = all_shown (map facts_declared c.signals);
  timescale = c.timescale;
  end = c.end * factor;
  left_out = told;
}
