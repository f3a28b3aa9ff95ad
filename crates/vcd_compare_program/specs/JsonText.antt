-- The report of a comparison as one JSON object, with the facts of the lines. Its form is the
-- project's own.
use Rattle.std.specs.Prelude.{ℕ, ◌==◌, ◌||◌, Bool, true, false, List, [], ◌∷◌, ◌++◌, codes, decimal}
use Rattle.std.specs.Prelude.{if◌then◌else◌, Option, Some, None, slice_get}
use Rattle.std.specs.List.{enumerate_from, flat_map}
use Rattle.vcd_text.specs.Letters.{printed_letters}
use Rattle.vcd_text.specs.declared.reading.choice.TickRange.{TickRange}
use Rattle.vcd_shell.specs.Shown.{shown}
use Rattle.vcd_compare.specs.declared.comparison.Comparison.{Comparison}
use Rattle.vcd_compare.specs.declared.differences.Difference.{Difference}
use Rattle.vcd_compare.specs.declared.left_out.LeftOut.{LeftOut}
use Rattle.vcd_compare.specs.declared.pairs.ComparedPair.{ComparedPair}
use Rattle.vcd_compare.specs.VariableDifferences.{VariableDifferences, VariableValue, count_of}
use Rattle.vcd_compare.specs.VariableDifferences.{first_of, last_of, of_letters, of_word}
use Rattle.vcd_compare_program.specs.declared.report_line.ReportLine.{ReportLine}
use Rattle.vcd_compare_program.specs.declared.report_line.ReportLine.TheVariants as lines
use Rattle.vcd_compare_program.specs.CaptureFacts.{CaptureFacts, VariableFacts}
use Rattle.vcd_compare_program.specs.ReportLines.{facts_in, report_lines, difference_count}
use Rattle.vcd_compare_program.specs.ReportLines.{same_count}
use Rattle.vcd_compare_program.specs.ComparisonText.{both, scale_text}

-- a text as a string, in which no byte needs a backslash
abbrev pub quoted : List ℕ → List ℕ
quoted text = codes "\"" ++ text ++ codes "\""

-- a byte within a string: before a quotation mark (34) or a backslash (92) comes a backslash
abbrev pub escaped : ℕ → List ℕ
escaped b = (if b == 34 || b == 92 then codes "\\" else []) ++ shown (b ∷ [])

-- a text as it is shown, as a string
abbrev pub string_json : List ℕ → List ℕ
string_json text = quoted (flat_map escaped text)

-- what both captures have
abbrev pub both_json : (a b : List ℕ) → List ℕ
both_json a b = codes "[" ++ both a b ++ codes "]"

-- what is before the value of one more member of an object
abbrev pub member_name : List ℕ → List ℕ
member_name name = codes ", \"" ++ name ++ codes "\": "

-- one more member of an object
abbrev pub member : (name value : List ℕ) → List ℕ
member name value = member_name name ++ value

-- a truth value
abbrev pub bool_json : Bool → List ℕ
bool_json true = codes "true"
bool_json false = codes "false"

-- an object that only says what it is about
abbrev pub about_json : (what : List ℕ) → List ℕ
about_json what = codes "{\"what\": \"" ++ what ++ codes "\"}"

-- what is before the other members of an object on a variable
abbrev pub variable_begin : (what name : List ℕ) → List ℕ
variable_begin what name =
    codes "{\"what\": \"" ++ what ++ codes "\", \"name\": " ++ string_json name

-- an object that only names a variable
abbrev pub name_json : (what name : List ℕ) → List ℕ
name_json what name = variable_begin what name ++ codes "}"

-- a value as a string
abbrev pub value_json : VariableValue → List ℕ
value_json (of_letters value) = quoted (printed_letters value)
value_json (of_word word) = string_json word

-- both values at the first tick of a difference
abbrev pub both_values_json : Difference VariableValue → List ℕ
both_values_json d = both_json (value_json d.value_in_a) (value_json d.value_in_b)

-- the ticks of a difference
abbrev pub ticks_json : TickRange → List ℕ
ticks_json ticks =
    codes "{\"from\": " ++ decimal ticks.first ++ member (codes "to") (decimal ticks.last)

-- one of the differences that are shown, with both values at its first tick
abbrev pub difference_json : (which : List ℕ) → Option (Difference VariableValue) → List ℕ
difference_json which None = []
difference_json which (Some d) = member which (ticks_json d.ticks)
    ++ member (codes "values") (both_values_json d) ++ codes "}"

-- how many differences stand, the first and the last of them
abbrev pub differences_json : VariableDifferences → List ℕ
differences_json ds = member (codes "count") (decimal (count_of ds))
    ++ difference_json (codes "first") (first_of ds) ++ difference_json (codes "last") (last_of ds)

-- the waves of two variables
abbrev pub pair_json : CaptureFacts → ComparedPair → List ℕ
pair_json a p = variable_begin (codes "values") (facts_in a p.first).name
    ++ differences_json p.differences ++ codes "}"

-- the same, if there are such
abbrev pub values_json : CaptureFacts → Option ComparedPair → List ℕ
values_json a None = []
values_json a (Some p) = pair_json a p

-- how many ticks the shortest run has
abbrev pub run_json : Option ℕ → List ℕ
run_json None = codes "null"
run_json (Some n) = decimal n

-- the shortest run of two variables
abbrev pub pair_run_json : CaptureFacts → ComparedPair → List ℕ
pair_run_json a p = variable_begin (codes "short run") (facts_in a p.first).name
    ++ member_name (codes "ticks") ++ run_json p.short_run ++ codes "}"

-- the same, if there are such
abbrev pub short_run_json : CaptureFacts → Option ComparedPair → List ℕ
short_run_json a None = []
short_run_json a (Some p) = pair_run_json a p

-- the kinds of a variable and its partner
abbrev pub kinds_json : VariableFacts → (kind : List ℕ) → List ℕ
kinds_json s kind = variable_begin (codes "kind") s.name ++ member_name (codes "kinds")
    ++ both_json (string_json s.kind) (string_json kind) ++ codes "}"

-- the widths of a variable and its partner
abbrev pub widths_json : VariableFacts → (width : ℕ) → List ℕ
widths_json s width = variable_begin (codes "width") s.name ++ member_name (codes "widths")
    ++ both_json (decimal s.width) (decimal width) ++ codes "}"

-- what is before the other members of an object on what is left out
abbrev pub left_out_begin : (what : List ℕ) → List ℕ
left_out_begin what = codes "{\"what\": " ++ quoted what

-- an object on what is left out of a capture
abbrev pub left_out_json : (what : List ℕ) → LeftOut → List ℕ
left_out_json what l =
    left_out_begin what ++ member (codes "replaced") (decimal l.replaced) ++ codes "}"

-- a line of the report as an object
abbrev pub line_json : (a b : CaptureFacts) → Comparison → ReportLine → List ℕ
line_json a b c lines.FinerTicks = about_json (codes "finer ticks")
line_json a b c lines.OneTimescale = about_json (codes "one timescale")
line_json a b c lines.OtherEnd = about_json (codes "end")
line_json a b c (lines.OnlyInFirst k) = name_json (codes "only in first") (facts_in a k).name
line_json a b c (lines.OnlyInSecond j) = name_json (codes "only in second") (facts_in b j).name
line_json a b c (lines.OtherKind k j) = kinds_json (facts_in a k) (facts_in b j).kind
line_json a b c (lines.OtherWidth k j) = widths_json (facts_in a k) (facts_in b j).width
line_json a b c (lines.OtherValues place) = values_json a (slice_get c.compared.items place)
line_json a b c (lines.ShortRun place) = short_run_json a (slice_get c.compared.items place)
line_json a b c lines.LeftOutOfFirst = left_out_json (codes "left out of first") a.left_out
line_json a b c lines.LeftOutOfSecond = left_out_json (codes "left out of second") b.left_out

-- what is before an item of a list: a comma, unless it is the first, and a line feed
abbrev pub separator : (place : ℕ) → List ℕ
separator place = if place == 0 then codes "\n" else codes ",\n"

-- lines as a list
abbrev pub lines_json : (a b : CaptureFacts) → Comparison → List ReportLine → List ℕ
lines_json a b c told = codes "["
    ++ flat_map (λ p. separator p.0 ++ line_json a b c p.1) (enumerate_from 0 told) ++ codes "\n]"

-- the paths and the timescales of the captures
abbrev pub files_json : (a b : CaptureFacts) → List ℕ
files_json a b = codes "{\"files\": " ++ both_json (string_json a.path) (string_json b.path)
    ++ member (codes "timescales")
    (both_json (quoted (scale_text a.timescale)) (quoted (scale_text b.timescale)))

-- the captures: their paths, timescales and ends
abbrev pub captures_json : (a b : CaptureFacts) → List ℕ
captures_json a b =
    files_json a b ++ member (codes "ends") (both_json (decimal a.end) (decimal b.end))

-- the timescale whose ticks all others are, the window and the tolerance
abbrev pub bounds_json : Comparison → List ℕ
bounds_json c = member (codes "timescale") (quoted (scale_text c.timescale))
    ++ member (codes "from") (decimal c.window.first) ++ member (codes "to") (decimal c.window.last)
    ++ member (codes "within") (decimal c.tolerance)

-- how many lines say that something differs, how many variables are the same, and whether all is
abbrev pub totals_json : (differing same : ℕ) → List ℕ
totals_json differing same = member (codes "lines_that_differ") (decimal differing)
    ++ member (codes "same_variables") (decimal same)
    ++ member (codes "same") (bool_json (differing == 0))

-- what was compared
abbrev pub head_json : (a b : CaptureFacts) → Comparison → List ℕ
head_json a b c = captures_json a b ++ bounds_json c

-- the whole object, with a line feed
abbrev pub comparison_json : (a b : CaptureFacts) → Comparison → List ℕ
comparison_json a b c = head_json a b c
    ++ member_name (codes "lines") ++ lines_json a b c (report_lines a b c)
    ++ totals_json (difference_count a b c) (same_count a b c.compared.items) ++ codes "}\n"
