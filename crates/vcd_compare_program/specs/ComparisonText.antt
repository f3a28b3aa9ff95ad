-- The report of a comparison as lines of text. Its form is the project's own.
use Rattle.std.specs.Prelude.{ℕ, ◌==◌, Bool, true, false, List, [], ◌∷◌, ◌++◌, codes, decimal}
use Rattle.std.specs.Prelude.{if◌then◌else◌, Option, Some, None, slice_get}
use Rattle.std.specs.List.{flat_map}
use Rattle.vcd_core.specs.declared.capture.Timescale.{Timescale}
use Rattle.vcd_core.specs.TimeUnits.{unit_text}
use Rattle.vcd_text.specs.Letters.{printed_letters}
use Rattle.vcd_text.specs.declared.reading.choice.TickRange.{TickRange}
use Rattle.vcd_shell.specs.Shown.{shown}
use Rattle.vcd_compare.specs.declared.comparison.Comparison.{Comparison}
use Rattle.vcd_compare.specs.declared.differences.Difference.{Difference}
use Rattle.vcd_compare.specs.declared.pairs.ComparedPair.{ComparedPair}
use Rattle.vcd_compare.specs.VariableDifferences.{VariableValue, of_letters, of_word, count_of}
use Rattle.vcd_compare.specs.VariableDifferences.{first_of, last_of}
use Rattle.vcd_compare_program.specs.declared.report_line.ReportLine.{ReportLine}
use Rattle.vcd_compare_program.specs.declared.report_line.ReportLine.TheVariants as lines
use Rattle.vcd_compare_program.specs.CaptureFacts.{CaptureFacts, VariableFacts}
use Rattle.vcd_compare_program.specs.ReportLines.{facts_in, report_lines, difference_count}
use Rattle.vcd_compare_program.specs.ReportLines.{is_whole, same_count}

-- what both captures have
abbrev pub both : (a b : List ℕ) → List ℕ
both a b = a ++ codes ", " ++ b

-- what is said of something with a name
abbrev pub about : (name what : List ℕ) → List ℕ
about name what = name ++ codes ": " ++ what

-- a number of things
abbrev pub counted : ℕ → (thing : List ℕ) → List ℕ
counted n thing = decimal n ++ codes " " ++ thing ++ (if n == 1 then [] else codes "s")

-- a timescale, if there is one
abbrev pub scale_text : Option Timescale → List ℕ
scale_text None = codes "none"
scale_text (Some t) = decimal t.count ++ codes " " ++ unit_text t.unit

-- the timescales of both captures
abbrev pub scales_text : (a b : CaptureFacts) → List ℕ
scales_text a b = codes "timescale: " ++ both (scale_text a.timescale) (scale_text b.timescale)

-- the line on the timescales of both captures, of which one is finer
abbrev pub finer_text : (a b : CaptureFacts) → (finer : Option Timescale) → List ℕ
finer_text a b finer =
    scales_text a b ++ codes " (ticks are those of " ++ scale_text finer ++ codes ")"

-- the line on the timescale that only one capture has
abbrev pub unscaled_text : (a b : CaptureFacts) → List ℕ
unscaled_text a b = scales_text a b ++ codes " (ticks are compared as they are)"

-- the line on the ends of both captures
abbrev pub ends_text : (a b : CaptureFacts) → List ℕ
ends_text a b = codes "end: " ++ both (decimal a.end) (decimal b.end)
    ++ codes " (compared up to the smaller)"

-- the line on a variable that only one capture has
abbrev pub only_in_text : CaptureFacts → ℕ → List ℕ
only_in_text c k = about (facts_in c k).name (codes "only in " ++ c.path)

-- the line on a variable whose partner has another kind
abbrev pub kinds_text : VariableFacts → (kind : List ℕ) → List ℕ
kinds_text s kind = about s.name (both (shown s.kind) (shown kind))

-- a width
abbrev pub width_text : ℕ → List ℕ
width_text width = if width == 0 then codes "no bits" else counted width (codes "bit")

-- the line on a variable whose partner has another width
abbrev pub widths_text : VariableFacts → (width : ℕ) → List ℕ
widths_text s width = about s.name (both (width_text s.width) (width_text width))

-- the word of a change as it is shown; before the first change there is none
abbrev pub printed_word : List ℕ → List ℕ
printed_word [] = codes "none"
printed_word (c ∷ word) = shown (c ∷ word)

-- a value as it is shown
abbrev pub printed_value : VariableValue → List ℕ
printed_value (of_letters value) = printed_letters value
printed_value (of_word word) = printed_word word

-- one of the differences that are shown, with both values at its first tick
abbrev pub difference_text : (which : List ℕ) → Option (Difference VariableValue) → List ℕ
difference_text which None = []
difference_text which (Some d) = codes ", " ++ which ++ codes " at tick " ++ decimal d.ticks.first
    ++ codes ": " ++ both (printed_value d.value_in_a) (printed_value d.value_in_b)

-- the line on the waves of two variables: how many differences stand, the first and the last of
-- them
abbrev pub pair_text : CaptureFacts → ComparedPair → List ℕ
pair_text a p = (facts_in a p.first).name ++ codes ": "
    ++ counted (count_of p.differences) (codes "difference")
    ++ difference_text (codes "first") (first_of p.differences)
    ++ difference_text (codes "last") (last_of p.differences)

-- the same, if there are such
abbrev pub values_text : CaptureFacts → Option ComparedPair → List ℕ
values_text a None = []
values_text a (Some p) = pair_text a p

-- how many ticks the shortest run has
abbrev pub run_text : Option ℕ → List ℕ
run_text None = []
run_text (Some n) = counted n (codes "tick")

-- the line on the shortest run of two variables
abbrev pub pair_run_text : CaptureFacts → ComparedPair → List ℕ
pair_run_text a p = (facts_in a p.first).name ++ codes ": the shortest run has "
    ++ run_text p.short_run ++ codes ", so more may be forgiven than late edges"

-- the same, if there are such
abbrev pub short_run_text : CaptureFacts → Option ComparedPair → List ℕ
short_run_text a None = []
short_run_text a (Some p) = pair_run_text a p

-- the line on what is left out of a capture
abbrev pub left_out_text : CaptureFacts → List ℕ
left_out_text c = c.path ++ codes ": not compared: "
    ++ counted c.left_out.replaced (codes "replaced change")

-- a line but the last
abbrev pub line_text : (a b : CaptureFacts) → Comparison → ReportLine → List ℕ
line_text a b c lines.FinerTicks = finer_text a b c.timescale
line_text a b c lines.OneTimescale = unscaled_text a b
line_text a b c lines.OtherEnd = ends_text a b
line_text a b c (lines.OnlyInFirst k) = only_in_text a k
line_text a b c (lines.OnlyInSecond j) = only_in_text b j
line_text a b c (lines.OtherKind k j) = kinds_text (facts_in a k) (facts_in b j).kind
line_text a b c (lines.OtherWidth k j) = widths_text (facts_in a k) (facts_in b j).width
line_text a b c (lines.OtherValues place) = values_text a (slice_get c.compared.items place)
line_text a b c (lines.ShortRun place) = short_run_text a (slice_get c.compared.items place)
line_text a b c lines.LeftOutOfFirst = left_out_text a
line_text a b c lines.LeftOutOfSecond = left_out_text b

-- the first tick that was compared, if it is not 0
abbrev pub window_begin : (first : ℕ) → List ℕ
window_begin first =
    if first == 0 then codes "up to tick " else codes "from tick " ++ decimal first ++ codes " to "

-- the ticks that were compared
abbrev pub window_text : TickRange → List ℕ
window_text w = window_begin w.first ++ decimal w.last

-- how many lines say that something differs, if there is one
abbrev pub differing_text : (count : ℕ) → List ℕ
differing_text count =
    if count == 0 then [] else codes "lines that differ: " ++ decimal count ++ codes "; "

-- whether all that is the same was compared
abbrev pub extent_text : (is_whole : Bool) → List ℕ
extent_text true = codes "the same: "
extent_text false = codes "the same as far as compared: "

-- how many variables are the same, as far as all was compared
abbrev pub same_text : (a b : CaptureFacts) → List ComparedPair → List ℕ
same_text a b compared =
    extent_text (is_whole a b) ++ counted (same_count a b compared) (codes "variable")

-- the last line
abbrev pub last_line : (a b : CaptureFacts) → Comparison → List ℕ
last_line a b c = differing_text (difference_count a b c) ++ same_text a b c.compared.items
    ++ codes " " ++ window_text c.window

-- a line with its line feed (10)
abbrev pub ended_line : List ℕ → List ℕ
ended_line line = line ++ 10 ∷ []

-- the whole text
abbrev pub comparison_text : (a b : CaptureFacts) → Comparison → List ℕ
comparison_text a b c =
    flat_map (λ line. ended_line (line_text a b c line)) (report_lines a b c)
    ++ ended_line (last_line a b c)
