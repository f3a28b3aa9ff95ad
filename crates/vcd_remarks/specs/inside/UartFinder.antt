-- What is found of a UART line, while its edges come one at a time.
use Rattle.std.specs.Prelude.{ℕ, ◌+◌, ◌-◌, ◌==◌, ◌&&◌, ◌||◌, nat_lt, nat_le, Bool, false}
use Rattle.std.specs.Prelude.{if◌then◌else◌, Option, Some, None, List, [], ◌∷◌, ◌++◌}
use Rattle.std.specs.Prelude.{map}
use Rattle.std.specs.List.{filter}
use Rattle.std.specs.Option.{option_to_list}
use Rattle.vcd_core.specs.declared.bit.Bit.{Bit}
use Rattle.vcd_core.specs.declared.bit_edges.BitEdge.{BitEdge}
use Rattle.vcd_core.specs.declared.wave.Change.{Change}
use Rattle.vcd_decode.specs.declared.annotation.Annotation.{Annotation}
use Rattle.vcd_decode.specs.UartSetup.{UartSetup}
use Rattle.vcd_decode.specs.Lines.{is_zero, is_one}
use Rattle.vcd_decode.specs.inside.UartFrames.{UartState, first_state, state_after, frame_before}
use Rattle.vcd_decode.specs.inside.UartFrames.{last_frame, pending_start}
use Rattle.vcd_remarks.specs.declared.findings.finding.Finding.{Finding}
use Rattle.vcd_remarks.specs.declared.findings.finding_kind.FindingKind.TheVariants as kinds
use Rattle.vcd_remarks.specs.declared.findings.found_ticks.FoundTicks.{FoundTicks}
use Rattle.vcd_remarks.specs.declared.lost_lines.Pull.TheVariants.{Floating}
use Rattle.vcd_remarks.specs.declared.uart_finder.changes_found.ChangesFound.{ChangesFound}
use Rattle.vcd_remarks.specs.declared.uart_finder.changes_found.FirstFall.{FirstFall}
use Rattle.vcd_remarks.specs.declared.uart_finder.changes_found.FirstFall.TheVariants.{NoChange}
use Rattle.vcd_remarks.specs.declared.uart_finder.changes_found.FirstFall.TheVariants.{Level, Over}
use Rattle.vcd_remarks.specs.FoundTicks.{found_ticks}
use Rattle.vcd_remarks.specs.UartEdges.{is_amid_bit_of}
use Rattle.vcd_remarks.specs.UartLine.{early_start, early_fall, frame_ticks, long_bit}
use Rattle.vcd_remarks.specs.inside.ClockRuns.{new_letter, changes_of_place}
use Rattle.vcd_remarks.specs.inside.FoundTicks.{with_tick, with_ticks, with_edge_tick, found_left}
use Rattle.vcd_remarks.specs.inside.FoundTicks.{finding_at}
use Rattle.vcd_remarks.specs.inside.LineBits.{line_bits}
use Rattle.vcd_remarks.specs.inside.LostLines.{loses_line_at}

-- ---- the changes of the line

-- the letter to which the line goes at an edge, if that is another one
abbrev pub changed_letter : BitEdge → Option Bit
changed_letter e = new_letter (line_bits 0 e)

-- ---- the first fall

-- where the first fall is looked for after a change
abbrev pub fall_sought : FirstFall → (tick : ℕ) → Bit → FirstFall
fall_sought NoChange t b = if t == 0 && (is_zero b || is_one b) then Level 0 b else Over
fall_sought (Level from before) t b =
    if is_one before && is_zero b then Over else Level t b
fall_sought Over t b = Over

-- whether a change is the first fall, and comes early
abbrev pub falls_early : (ticks : ℕ) → FirstFall → (tick : ℕ) → Bit → Bool
falls_early ticks (Level from before) t b =
    is_one before && is_zero b && nat_lt (t - from) ticks
falls_early ticks sought t b = false

-- the tick of the first fall among changes to come, if it comes early
abbrev pub early_left : (ticks : ℕ) → FirstFall → List Change → List ℕ
early_left ticks NoChange cs = early_start ticks cs
early_left ticks (Level from before) cs = early_fall ticks from before cs
early_left ticks Over cs = []

-- ---- short runs

-- whether a run that begins at a tick and ends before another is short, and contains neither tick 0
-- nor the end
abbrev pub is_short_run : (ticks end first next : ℕ) → Bool
is_short_run ticks end first next =
    nat_lt 0 first && nat_lt (next - 1) end && nat_lt (next - 1 - first + 1) ticks

-- with the first tick of a run that ends before a tick, if it is short
abbrev pub with_run : (ticks end : ℕ) → Option ℕ → (next : ℕ) → FoundTicks → FoundTicks
with_run ticks end None next found = found
with_run ticks end (Some first) next found =
    if is_short_run ticks end first next then with_tick found first else found

-- those of short runs that begin at these ticks, each of which ends before the next begins
unfoldable pub short_starts : (ticks end : ℕ) → List ℕ → List ℕ
short_starts ticks end [] = []
short_starts ticks end (first ∷ []) = []
short_starts ticks end (first ∷ next ∷ ts) =
    (if is_short_run ticks end first next then first ∷ [] else [])
    ++ short_starts ticks end (next ∷ ts)

-- with those of changes to come
abbrev pub runs_left : (ticks end : ℕ) → Option ℕ → FoundTicks → List Change → FoundTicks
runs_left ticks end since found cs =
    with_ticks found (short_starts ticks end (option_to_list since ++ map (λ c. c.tick) cs))

-- the first ticks of runs, unless some are short
abbrev pub unless_short : (short all : FoundTicks) → FoundTicks
unless_short short all = if short.count == 0 then all else found_ticks []

-- ---- what is found at changes

-- before the first change
abbrev pub no_changes : UartSetup → (end : ℕ) → ChangesFound
no_changes u end = record {
  frame_ticks = frame_ticks u;
  long_bit = long_bit u;
  end = end;
  first_fall = NoChange;
  early = found_ticks [];
  since = None;
  short = found_ticks [];
  inner = found_ticks [];
}

-- after one more change
abbrev pub with_change : ChangesFound → (tick : ℕ) → Bit → ChangesFound
with_change f t b = record {
  frame_ticks = f.frame_ticks;
  long_bit = f.long_bit;
  end = f.end;
  first_fall = fall_sought f.first_fall t b;
  early = if falls_early f.frame_ticks f.first_fall t b then with_tick f.early t else f.early;
  since = Some t;
  short = with_run f.long_bit f.end f.since t f.short;
  inner = with_run f.end f.end f.since t f.inner;
}

-- after an edge at which the line goes to a letter, if it changes
abbrev pub with_change_if : ChangesFound → (tick : ℕ) → Option Bit → ChangesFound
with_change_if f t None = f
with_change_if f t (Some b) = with_change f t b

-- the early start, once changes to come have been taken
abbrev pub early_found : ChangesFound → List Change → FoundTicks
early_found f cs = with_ticks f.early (early_left f.frame_ticks f.first_fall cs)

-- the long runs then
abbrev pub long_found : ChangesFound → List Change → FoundTicks
long_found f cs =
    unless_short (runs_left f.long_bit f.end f.since f.short cs)
    (runs_left f.end f.end f.since f.inner cs)

-- ---- the edges amid the bits of frames

-- with the ticks that are amid a bit of a frame, if there is one
abbrev pub with_amid : UartSetup → FoundTicks → List ℕ → Option Annotation → FoundTicks
with_amid u found held None = found
with_amid u found held (Some frame) =
    with_ticks found (filter (λ t. is_amid_bit_of u t frame) held)

-- the ticks after this one
unfoldable pub ticks_after : ℕ → List ℕ → List ℕ
ticks_after from [] = []
ticks_after from (t ∷ ts) = if nat_le t from then ticks_after from ts else t ∷ ts

-- the ticks at which frames may extend that are not given
abbrev pub still_held : Option ℕ → List ℕ → List ℕ
still_held None ts = []
still_held (Some from) ts = ticks_after from ts

-- with the tick of an edge at which the line goes to a letter, if it changes
abbrev pub with_changed_tick : List ℕ → (tick : ℕ) → Option Bit → List ℕ
with_changed_tick held t None = held
with_changed_tick held t (Some b) = held ++ t ∷ []

-- the ticks that are held after an edge, which leaves the decoder in a state
abbrev pub ticks_held_after : UartState → List ℕ → BitEdge → List ℕ
ticks_held_after d held e =
    still_held (pending_start d.start d.falls) (with_changed_tick held e.tick (changed_letter e))

-- the edges amid bits, once edges to come have been taken
unfoldable pub amid_left : UartSetup → UartState → List ℕ → FoundTicks → List BitEdge → FoundTicks
amid_left u d held found [] = with_amid u found held (last_frame d)
amid_left u d held found (e ∷ es) =
    amid_left u (state_after d e) (ticks_held_after (state_after d e) held e)
    (with_amid u found held (frame_before d e)) es

-- ---- a finder

-- what a finder holds
pub record UartSearch : Type 0 where
  pub setup : UartSetup
  pub decoder : UartState
  pub lost : FoundTicks
  pub changes : ChangesFound
  pub held : List ℕ
  pub amid_bits : FoundTicks

-- before the first edge
abbrev pub first_search : (end : ℕ) → UartSetup → UartSearch
first_search end u = record {
  setup = u;
  decoder = first_state end u;
  lost = found_ticks [];
  changes = no_changes u end;
  held = [];
  amid_bits = found_ticks [];
}

-- after an edge
abbrev pub search_after : UartSearch → BitEdge → UartSearch
search_after f e = record {
  setup = f.setup;
  decoder = state_after f.decoder e;
  lost = with_edge_tick (loses_line_at Floating 0) f.lost e;
  changes = with_change_if f.changes e.tick (changed_letter e);
  held = ticks_held_after (state_after f.decoder e) f.held e;
  amid_bits = with_amid f.setup f.amid_bits f.held (frame_before f.decoder e);
}

-- what will have been found after the edges to come
abbrev pub uart_findings_left : UartSearch → List BitEdge → List Finding
uart_findings_left f es =
    let changes = changes_of_place 0 es in
    finding_at kinds.UartLost (found_left (loses_line_at Floating 0) f.lost es)
    ∷ finding_at kinds.UartEarlyStart (early_found f.changes changes)
    ∷ finding_at kinds.UartLongRuns (long_found f.changes changes)
    ∷ finding_at kinds.UartEdgesAmidBits (amid_left f.setup f.decoder f.held f.amid_bits es) ∷ []
