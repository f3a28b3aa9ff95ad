-- What is compared of two captures: their times, their names, and which variables are a pair. The
-- rules are the project's own.
use Rattle.std.specs.Prelude.{ℕ, ◌*◌, ◌/◌, ◌==◌, ◌&&◌, ◌||◌, not, Bool, true}
use Rattle.std.specs.Prelude.{nat_le, if◌then◌else◌, Option, Some, None, List, []}
use Rattle.std.specs.Prelude.{◌∷◌, ◌++◌, length, take, drop, map, filter, is_some, bytes_eq}
use Rattle.std.specs.List.{range_with_len}
use Rattle.vcd_core.specs.declared.bit.Bit.{Bit}
use Rattle.vcd_core.specs.declared.capture.Timescale.{Timescale}
use Rattle.vcd_core.specs.Contents.{Contents, SignalContents, signal_value, signal_at}
use Rattle.vcd_core.specs.Names.{full_name, full_names}
use Rattle.vcd_part.specs.Requests.{texts, meets_one}
use Rattle.vcd_part.specs.Times.{femtoseconds}
use Rattle.vcd_compare.specs.Differences.{WaveByTicks}
use Rattle.vcd_compare.specs.Pairs.{partner_of}
use Rattle.vcd_compare.specs.declared.request.NameMap.{NameMap}
use Rattle.vcd_compare.specs.declared.request.CompareRequest.{CompareRequest}
use Rattle.vcd_compare.specs.declared.comparison.Outcome.{Outcome}
use Rattle.vcd_compare.specs.declared.comparison.Outcome.TheVariants as outcomes

-- ---- time

-- the femtoseconds of a tick
abbrev pub tick_length : Timescale → ℕ
tick_length t = t.count * femtoseconds t.unit

-- the finer of two timescales, or the only one
abbrev pub finer : (a b : Option Timescale) → Option Timescale
finer None b = b
finer (Some s) None = Some s
finer (Some s) (Some t) = if nat_le (tick_length s) (tick_length t) then Some s else Some t

-- how many ticks of the finer timescale a tick of a capture has; 1 if one of both has no timescale
abbrev pub factor_of : (finer own : Option Timescale) → ℕ
factor_of None own = 1
factor_of (Some f) None = 1
factor_of (Some f) (Some s) = tick_length s / tick_length f

-- the wave of a signal by ticks of the finer timescale
abbrev pub wave_by_tick : (factor : ℕ) → SignalContents → WaveByTicks (List Bit)
wave_by_tick factor s t = signal_value s (t / factor)

-- ---- names

-- whether a text is empty, or goes on with a `.` (46) or a `[` (91)
abbrev pub is_name_end : List ℕ → Bool
is_name_end [] = true
is_name_end (c ∷ text) = c == 46 || c == 91

-- whether a map fits a name: it has the name itself, or the scopes at its beginning
abbrev pub fits_map : NameMap → (name : List ℕ) → Bool
fits_map m name =
    bytes_eq m.old.now (take (length m.old.now) name) && is_name_end (drop (length m.old.now) name)

-- what a name of the first capture is in the second
abbrev pub mapped_name : List NameMap → (name : List ℕ) → List ℕ
mapped_name [] name = name
mapped_name (m ∷ maps) name = if fits_map m name then m.new.now ++ drop (length m.old.now) name
    else mapped_name maps name

-- the names by which the variables of the first capture are paired
abbrev pub mapped_names : CompareRequest → Contents → List (List ℕ)
mapped_names r a = map (mapped_name r.maps.now) (full_names a.signals)

-- whether a variable is asked for, by its name, or by what that is in the second capture
abbrev pub is_asked : CompareRequest → (name mapped : List ℕ) → Bool
is_asked r name mapped =
    meets_one true (texts r.keep) name || meets_one true (texts r.keep) mapped

-- ---- what is told, if the signals of `a` and `b` are all variables of two captures (`with_all`)

-- what is told of a variable and its partner, if it was asked for
abbrev pub outcome_of : (a b : Contents) → (k : ℕ) → (partner : Option ℕ) → Outcome
outcome_of a b k None = outcomes.NoPartner
outcome_of a b k (Some j) = if (signal_at a k).width == (signal_at b j).width
    then outcomes.Compared j else outcomes.OtherWidth j

-- what is told of the variable at a position of the first capture
abbrev pub outcome_at : CompareRequest → (a b : Contents) → ℕ → Outcome
outcome_at r a b k =
    if is_asked r (full_name (signal_at a k)) (mapped_name r.maps.now (full_name (signal_at a k)))
    then outcome_of a b k (partner_of (mapped_names r a) (full_names b.signals) k)
    else outcomes.NotAsked

-- what is told of each variable of the first capture
abbrev pub outcomes_of : CompareRequest → (a b : Contents) → List Outcome
outcomes_of r a b = map (outcome_at r a b) (range_with_len 0 (length a.signals))

-- whether a variable of the second capture is asked for, and has no partner
abbrev pub is_only_in_second : CompareRequest → (a b : Contents) → ℕ → Bool
is_only_in_second r a b j =
    meets_one true (texts r.keep) (full_name (signal_at b j))
    && not (is_some (partner_of (full_names b.signals) (mapped_names r a) j))

-- the variables of the second capture that are asked for, and have no partner
abbrev pub only_in_second : CompareRequest → (a b : Contents) → List ℕ
only_in_second r a b = filter (is_only_in_second r a b) (range_with_len 0 (length b.signals))
