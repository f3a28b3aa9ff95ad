-- What is kept of a capture, and why a request is refused: the project's own.
use Rattle.std.specs.Prelude.{ℕ, ◌^◌, ◌-◌, ◌==◌, ◌&&◌, Bool, true, false, not, min, nat_lt}
use Rattle.std.specs.Prelude.{find}
use Rattle.std.specs.Prelude.{if◌then◌else◌, List, [], ◌++◌, length, map, Option, Some, None}
use Rattle.std.specs.Prelude.{is_some, option_map, Result, Ok, Err}
use Rattle.std.specs.Option.{unwrap_or}
use Rattle.std.specs.Borrow.{Bor}
use Rattle.std.specs.List.{list_any}
use Rattle.vcd_core.specs.declared.capture.Timescale.{Timescale}
use Rattle.vcd_text.specs.AsDeclared.{declared_name}
use Rattle.vcd_text.specs.Grammar.{VariableDeclaration}
use Rattle.vcd_text.specs.declared.reading.choice.TickRange.{TickRange}
use Rattle.vcd_part.specs.declared.request.Request.{Request}
use Rattle.vcd_part.specs.declared.request.Refusal.{Refusal}
use Rattle.vcd_part.specs.declared.request.Refusal.TheVariants.{UnmetPattern, NoVariableLeft}
use Rattle.vcd_part.specs.declared.request.Refusal.TheVariants.{FromIsNoWholeTick}
use Rattle.vcd_part.specs.declared.request.Refusal.TheVariants.{ToIsNoWholeTick}
use Rattle.vcd_part.specs.declared.request.Refusal.TheVariants.{WindowBackwards}
use Rattle.vcd_part.specs.Pattern.{meets}
use Rattle.vcd_part.specs.Times.{ticks_of}

-- ---- variables

-- the patterns of an option, in the order of the command line
abbrev pub texts : Option (Bor (List (Bor (List ℕ)))) → Option (List (List ℕ))
texts given = option_map (λ patterns. map (λ p. p.now) patterns.now) given

-- whether a name meets one of the patterns; this, if there are none
abbrev pub meets_one : (otherwise : Bool) → (patterns : Option (List (List ℕ)))
    → (name : List ℕ) → Bool
meets_one otherwise None name = otherwise
meets_one otherwise (Some patterns) name = list_any (λ p. meets p name) patterns

-- whether a name is kept: it meets a pattern to keep, or there is none, and none to remove
abbrev pub keeps_name : Request → (name : List ℕ) → Bool
keeps_name r name =
    meets_one true (texts r.keep) name && not (meets_one false (texts r.remove) name)

-- whether a variable is kept
abbrev pub keeps : Request → VariableDeclaration → Bool
keeps r d = keeps_name r (declared_name d)

-- whether a variable is to be removed: it meets a pattern to remove
abbrev pub removes : Request → VariableDeclaration → Bool
removes r d = meets_one false (texts r.remove) (declared_name d)

-- whether the full name of a variable meets a pattern
abbrev pub is_met : List VariableDeclaration → (pattern : List ℕ) → Bool
is_met declared pattern = list_any (λ d. meets pattern (declared_name d)) declared

-- the first pattern, those to keep before those to remove, that no variable's full name meets
abbrev pub unmet : Request → List VariableDeclaration → Option (List ℕ)
unmet r declared = find (λ p. not (is_met declared p))
    (unwrap_or (texts r.keep) [] ++ unwrap_or (texts r.remove) [])

-- whether there are variables, and none is kept
abbrev pub leaves_none : Request → List VariableDeclaration → Bool
leaves_none r declared = not (length declared == 0) && not (list_any (keeps r) declared)

-- ---- the window

-- a tick as far as a `u64` goes, which is past every end
abbrev pub bounded_tick : ℕ → ℕ
bounded_tick tick = min tick (2 ^ 64 - 1)

-- the window from one tick to another, or why there is none
abbrev pub window_between : (first last : Option ℕ) → Result TickRange Refusal
window_between None last = Err FromIsNoWholeTick
window_between (Some first) None = Err ToIsNoWholeTick
window_between (Some first) (Some last) = if nat_lt (bounded_tick last) (bounded_tick first)
    then Err WindowBackwards
    else Ok (record { first = bounded_tick first; last = bounded_tick last })

-- the window of a request, on a capture with this timescale
abbrev pub window : Request → Option Timescale → Result TickRange Refusal
window r timescale = window_between (ticks_of timescale r.from) (ticks_of timescale r.to)

-- the window of a request, on a capture with this timescale and these variables, or why the
-- request is refused
unfoldable pub decide : Request → Option Timescale → List VariableDeclaration
    → Result TickRange Refusal
decide r timescale declared = if is_some (unmet r declared) then Err UnmetPattern
    else (if leaves_none r declared then Err NoVariableLeft else window r timescale)
