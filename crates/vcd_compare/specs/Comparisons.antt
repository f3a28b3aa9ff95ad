-- The comparison of two captures, and why there is none. The rules are the project's own.
use Rattle.std.specs.Prelude.{◌≡◌, ◌≢◌, ℕ, ◌-◌, ◌*◌, min, max, ◌&&◌, not, Bool, false, nat_lt, List}
use Rattle.std.specs.Prelude.{[], ◌∷◌, ◌++◌, length, if◌then◌else◌, Option, Some, None, IfSome}
use Rattle.std.specs.Prelude.{Result, Ok, Err, bytes_eq}
use Rattle.std.specs.List.{range_with_len, list_any, flat_map, position}
use Rattle.std.specs.Option.{unwrap_or}
use Rattle.vcd_core.specs.declared.bit.Bit.{Bit}
use Rattle.vcd_core.specs.declared.capture.TheConstants.{SIGNAL_LIMIT}
use Rattle.vcd_core.specs.declared.capture.Timescale.{Timescale}
use Rattle.vcd_core.specs.Contents.{Contents, signal_at}
use Rattle.vcd_core.specs.Devices.{DeviceEnd}
use Rattle.vcd_core.specs.Names.{full_names}
use Rattle.vcd_core.specs.Value.{same_letters}
use Rattle.vcd_text.specs.Meaning.{FileMeans, HasMeaning}
use Rattle.vcd_text.specs.Refusals.{IsRefusal}
use Rattle.vcd_text.specs.Grammar.{initial_state}
use Rattle.vcd_text.specs.HeardChanges.{heard_all}
use Rattle.vcd_text.specs.inside.reading.ChangeStream.{IsStreamAt}
use Rattle.vcd_text.specs.declared.fault.Fault.TheVariants as faults
use Rattle.vcd_text.specs.declared.reading.TheConstants.{LONG_FILE_LIMIT}
use Rattle.vcd_text.specs.declared.reading.choice.TickRange.{TickRange}
use Rattle.vcd_part.specs.Pattern.{meets}
use Rattle.vcd_part.specs.Requests.{texts, bounded_tick}
use Rattle.vcd_part.specs.Times.{ticks_of}
use Rattle.vcd_compare.specs.Differences.{WaveByTicks, compared}
use Rattle.vcd_compare.specs.ShortestRun.{short_run}
use Rattle.vcd_compare.specs.Captures.{finer, factor_of, wave_by_tick, fits_map, mapped_names}
use Rattle.vcd_compare.specs.Captures.{outcome_at, outcomes_of, only_in_second}
use Rattle.vcd_compare.specs.Variables.{ComparedContents, with_all, word_variables, word_by_tick}
use Rattle.vcd_compare.specs.Variables.{word_variable_at, is_signal_at}
use Rattle.vcd_compare.specs.LeftOut.{left_out_of}
use Rattle.vcd_compare.specs.VariableDifferences.{VariableDifferences, by_letters, by_words}
use Rattle.vcd_compare.specs.declared.pairs.ComparedPair.{ComparedPair}
use Rattle.vcd_compare.specs.declared.request.CompareRequest.{CompareRequest}
use Rattle.vcd_compare.specs.declared.request.CompareRefusal.{CompareRefusal}
use Rattle.vcd_compare.specs.declared.request.CompareRefusal.TheVariants as refusals
use Rattle.vcd_compare.specs.declared.comparison.Outcome.{Outcome}
use Rattle.vcd_compare.specs.declared.comparison.Outcome.TheVariants as outcomes
use Rattle.vcd_compare.specs.declared.comparison.Comparison.{Comparison}
use Rattle.vcd_compare.specs.declared.comparison.ComparedCapture.{ComparedCapture}
use Rattle.vcd_compare.specs.declared.comparison.CompareError.{CompareError}
use Rattle.vcd_compare.specs.declared.comparison.CompareError.TheVariants as errors

-- ---- time

-- the timescale whose ticks are those of the comparison
abbrev pub common_timescale : (a b : Contents) → Option Timescale
common_timescale a b = finer a.timescale b.timescale

-- how many ticks of the comparison one of a capture's has
abbrev pub factor_in : (a b c : Contents) → ℕ
factor_in a b c = factor_of (common_timescale a b) c.timescale

-- the end of a capture, in ticks of the comparison
abbrev pub scaled_end : (a b c : Contents) → ℕ
scaled_end a b c = c.end * factor_in a b c

-- the last tick that both captures have
abbrev pub common_end : (a b : Contents) → ℕ
common_end a b = min (scaled_end a b a) (scaled_end a b b)

-- ---- the request

-- whether a pattern is met by no name of the captures
abbrev pub is_unmet : CompareRequest → (a b : Contents) → (pattern : List ℕ) → Bool
is_unmet r a b pattern = not (list_any (meets pattern)
    (full_names a.signals ++ (mapped_names r a ++ full_names b.signals)))

-- the tolerance and the window, up to the end that both captures have; or why there are none
abbrev pub bounds_between : (end : ℕ) → (tolerance first last : Option ℕ)
    → Result (ℕ × TickRange) CompareRefusal
bounds_between end None first last = Err refusals.ToleranceIsNoWholeTick
bounds_between end (Some n) None last = Err refusals.FromIsNoWholeTick
bounds_between end (Some n) (Some first) None = Err refusals.ToIsNoWholeTick
bounds_between end (Some n) (Some first) (Some last) =
    if nat_lt (min last end) first then Err refusals.NoTickLeft
    else Ok (bounded_tick n, record { first = first; last = min last end })

-- the same, if patterns and maps fit: the first of each that does not is refused
abbrev pub bounds_unless : (unmet_pattern unmet_map : Option ℕ)
    → Result (ℕ × TickRange) CompareRefusal → Result (ℕ × TickRange) CompareRefusal
bounds_unless (Some k) unmet_map bounds = Err (refusals.UnmetPattern k)
bounds_unless None (Some k) bounds = Err (refusals.UnmetMap k)
bounds_unless None None bounds = bounds

-- the tolerance and the window of a request, or why it is refused
unfoldable pub decide : CompareRequest → (a b : Contents) → Result (ℕ × TickRange) CompareRefusal
decide r a b = bounds_unless
    (position (is_unmet r a b) (unwrap_or (texts r.keep) []))
    (position (λ m. not (list_any (fits_map m) (full_names a.signals))) r.maps.now)
    (bounds_between (common_end a b) (ticks_of (common_timescale a b) r.tolerance)
    (ticks_of (common_timescale a b) r.from) (ticks_of (common_timescale a b) r.to))

-- whether a window that is asked for goes past the common end, and the ends differ by more than the
-- tolerance
abbrev pub has_other_end : (tolerance : ℕ) → (to : Option ℕ) → (a b : Contents) → Bool
has_other_end tolerance None a b = false
has_other_end tolerance (Some last) a b = nat_lt (common_end a b) last
    && nat_lt tolerance (max (scaled_end a b a) (scaled_end a b b) - common_end a b)

-- ---- the comparison

-- the wave of a signal of a capture by ticks of the comparison
abbrev pub letters_in : (a b c : ComparedContents) → ℕ → WaveByTicks (List Bit)
letters_in a b c k = wave_by_tick (factor_in a.meant b.meant c.meant) (signal_at c.meant k)

-- the wave of another variable
abbrev pub words_in : (a b c : ComparedContents) → ℕ → WaveByTicks (List ℕ)
words_in a b c k = word_by_tick (factor_in a.meant b.meant c.meant) (word_variable_at c k)

-- the differences of two variables, by their positions
abbrev pub differences_told : (tolerance : ℕ) → TickRange → (a b : ComparedContents) → (k j : ℕ)
    → VariableDifferences
differences_told tolerance window a b k j =
    if is_signal_at a k
    then by_letters (compared same_letters tolerance (letters_in a b a k) (letters_in a b b j)
    window)
    else by_words (compared bytes_eq tolerance (words_in a b a k) (words_in a b b j) window)

-- their shortest run
abbrev pub short_run_told : (tolerance : ℕ) → TickRange → (a b : ComparedContents) → (k j : ℕ)
    → Option ℕ
short_run_told tolerance window a b k j =
    if is_signal_at a k
    then short_run same_letters tolerance (letters_in a b a k) (letters_in a b b j) window
    else short_run bytes_eq tolerance (words_in a b a k) (words_in a b b j) window

-- what is told of two variables that are compared, by their positions
abbrev pub pair_told : (tolerance : ℕ) → TickRange → (a b : ComparedContents) → (k j : ℕ)
    → ComparedPair
pair_told tolerance window a b k j = record {
  first = k;
  second = j;
  differences = differences_told tolerance window a b k j;
  short_run = short_run_told tolerance window a b k j;
}

-- the same of a variable with this outcome, if it was compared
abbrev pub pairs_told : (tolerance : ℕ) → TickRange → (a b : ComparedContents) → (k : ℕ) → Outcome
    → List ComparedPair
pairs_told tolerance window a b k (outcomes.Compared j) = pair_told tolerance window a b k j ∷ []
pairs_told tolerance window a b k outcomes.NotAsked = []
pairs_told tolerance window a b k outcomes.NoPartner = []
pairs_told tolerance window a b k (outcomes.OtherWidth j) = []

-- this is what the comparison of two captures tells
pub record IsComparison (r : CompareRequest) (a b : ComparedContents) (c : Comparison) : Type 0
  where
    pub timescale : c.timescale ≡ common_timescale a.meant b.meant
    pub bounds : decide r (with_all a) (with_all b) ≡ Ok (c.tolerance, c.window)
    pub has_other_end : c.has_other_end ≡ has_other_end c.tolerance
        (ticks_of (common_timescale a.meant b.meant) r.to) a.meant b.meant
    pub outcomes : c.outcomes.items ≡ outcomes_of r (with_all a) (with_all b)
    pub compared : c.compared.items ≡ flat_map
        (λ k. pairs_told c.tolerance c.window a b k (outcome_at r (with_all a) (with_all b) k))
        (range_with_len 0 (length (with_all a).signals))
    pub only_in_second : c.only_in_second.items ≡ only_in_second r (with_all a) (with_all b)

-- a file means these contents
pub record IsMeant (file : List ℕ) (contents : ComparedContents) : Type 0 where
  pub skipped : ℕ
  pub means : FileMeans SIGNAL_LIMIT file contents.meant skipped
  pub words : contents.words
      ≡ word_variables means.state (heard_all (initial_state SIGNAL_LIMIT) means.accepted.items)

-- a capture was read to its end, and its file means these contents
pub record IsReadCapture (file : List ℕ) (contents : ComparedContents) (factor : ℕ)
    (c : ComparedCapture) : Type 0 where
  pub meant : IsMeant file contents
  pub at_end : IsStreamAt c.stream meant.means.state
  pub factor_is : c.factor ≡ factor
  pub left_out : c.left_out
      ≡ left_out_of (heard_all (initial_state SIGNAL_LIMIT) meant.means.accepted.items)

-- two files have a meaning, and this is the comparison of what they mean
pub record IsComparisonOf (r : CompareRequest) (file other : List ℕ) (c : Comparison) : Type 0 where
  pub a : ComparedContents
  pub b : ComparedContents
  pub first : IsReadCapture file a (factor_in a.meant b.meant a.meant) c.first
  pub second : IsReadCapture other b (factor_in a.meant b.meant b.meant) c.second
  pub is : IsComparison r a b c

-- ---- errors

-- there is no comparison of two files for this reason; of each file there is what its source shows
pub data IsCompareFault (r : CompareRequest) (file other : List ℕ) (first second : DeviceEnd)
    (e : CompareError) : Type 0 where
  -- the first file has this fault, whatever the second has
  first_refused : (fault : _) → IsRefusal SIGNAL_LIMIT LONG_FILE_LIMIT file first.has_failed
      first.after fault → e ≡ errors.First fault → fault.fault ≢ faults.NoMemory
      → IsCompareFault r file other first second e
  -- the first has none, and the second has this one
  second_refused : (fault : _) → HasMeaning SIGNAL_LIMIT file
      → IsRefusal SIGNAL_LIMIT LONG_FILE_LIMIT other second.has_failed second.after fault
      → e ≡ errors.Second fault → fault.fault ≢ faults.NoMemory
      → IsCompareFault r file other first second e
  -- neither has one, and the request is refused
  request_refused : (a b : ComparedContents) (refusal : CompareRefusal) → IsMeant file a
      → IsMeant other b → decide r (with_all a) (with_all b) ≡ Err refusal
      → e ≡ errors.Refused refusal → IsCompareFault r file other first second e
  -- memory ran out
  no_memory : e ≡ errors.NoMemory → IsCompareFault r file other first second e

-- what `compare` gives, of sources that show these files
abbrev pub IsAnswerOf : CompareRequest → (first second : DeviceEnd)
    → Result Comparison CompareError → Type 0
IsAnswerOf r first second (Ok c) =
    IfSome first.before (λ file. IfSome second.before (λ other. IsComparisonOf r file other c))
IsAnswerOf r first second (Err e) = IfSome first.before (λ file. IfSome second.before
    (λ other. IsCompareFault r file other first second e))
