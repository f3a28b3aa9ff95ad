-- The remarks on findings of several lines, appended one after the other.
use Rattle.std.proofs.Common.{◌≡◌, ℕ, Bool, if◌then◌else◌, List, [], ◌++◌, sym, ap, ◌∙◌}
use Rattle.std.proofs.lemmas.Grind.{flat_map-append}
use Rattle.vcd_remarks.specs.declared.findings.finding.Finding.{Finding}
use Rattle.vcd_remarks.specs.DecoderFindings.{told}
use Rattle.vcd_remarks.specs.Findings.{finding_text}
use Rattle.vcd_remarks.specs.Remarks.{remarks_text}
use Rattle.vcd_remarks.proofs.remarks.RemarksInTurn.{in_turn}

-- of a line that is present or not
pub line_in_turn : (number : ℕ) (first second found : List Finding) (present : Bool) (start one two : List ℕ)
    → one ≡ start ++ remarks_text number (told first)
    → two ≡ one ++ remarks_text number (told (if present then found else [])) → found ≡ second
    → two ≡ start ++ remarks_text number (told (first ++ (if present then second else [])))
line_in_turn number first second found present start one two is next same =
    in_turn number (told first) (told (if present then second else [])) start one two is
    (next ∙ ap (λ fs. one ++ remarks_text number (told (if present then fs else []))) same)
    ∙ ap (λ rs. start ++ remarks_text number rs)
    (sym (flat_map-append finding_text first (if present then second else [])))
