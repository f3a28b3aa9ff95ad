-- What is found in a capture, as remarks tell it. The project's own.
use Rattle.std.specs.Prelude.{ℕ, zero, ◌==◌, nat_lt, if◌then◌else◌, List, [], ◌∷◌, ◌++◌, codes}
use Rattle.std.specs.List.{join_by}
use Rattle.std.specs.Fmt.{decimal}
use Rattle.vcd_remarks.specs.declared.findings.finding.Finding.{Finding}
use Rattle.vcd_remarks.specs.declared.findings.finding_kind.FindingKind.{FindingKind}
use Rattle.vcd_remarks.specs.declared.findings.finding_kind.TheConstants.{FINDINGS}
use Rattle.vcd_remarks.specs.declared.findings.found_spans.Span.{Span}
use Rattle.vcd_remarks.specs.declared.findings.found_ticks.FoundTicks.{FoundTicks}
use Rattle.vcd_remarks.specs.declared.findings.found_ticks.TheConstants.{SHOWN_TICKS}
use Rattle.vcd_remarks.specs.contracts.findings.finding_kind.FindingKindPartialEq.TheImpl as kinds
use Rattle.vcd_remarks.specs.FoundTicks.{found_ticks, found_spans, shown_ticks}

-- what is found at some ticks, if it lasts no tick
abbrev pub finding : FindingKind → List ℕ → Finding
finding kind ts = record { kind = kind; ticks = found_ticks ts; most = 0 }

-- what is found if it lasts some ticks
abbrev pub span_finding : FindingKind → List Span → Finding
span_finding kind ss =
    let found = found_spans ss in
    record { kind = kind; ticks = found.ticks; most = found.most }

-- the words of a kind in a table
unfoldable pub words_in : {T : Type 0} → (words : T → List ℕ) → List (FindingKind × T) → FindingKind
    → List ℕ
words_in words [] kind = []
words_in words (row ∷ rows) kind =
    if kinds.ghosts.eq row.0 kind then words row.1 else words_in words rows kind

-- its words
abbrev pub words_of_kind : FindingKind → List ℕ
words_of_kind kind = words_in (λ words. words.now) FINDINGS kind

-- how many ticks what was found lasts at most, if it lasts any
abbrev pub most_text : (most : ℕ) → List ℕ
most_text zero = []
most_text most = codes " (ticks at most: " ++ decimal most ++ codes ")"

-- the first ticks, and whether there are more
abbrev pub ticks_text : FoundTicks → List ℕ
ticks_text found = codes ", at " ++ join_by decimal (codes ", ") (shown_ticks found)
    ++ (if nat_lt SHOWN_TICKS found.count then codes ", .." else [])

-- the text of a remark on a finding; none if it has no tick
abbrev pub finding_text : Finding → List (List ℕ)
finding_text f = if f.ticks.count == 0 then []
    else (words_of_kind f.kind ++ codes ": " ++ decimal f.ticks.count ++ most_text f.most
    ++ ticks_text f.ticks) ∷ []
