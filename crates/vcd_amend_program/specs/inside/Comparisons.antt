-- A comparison of a marked file, from its mark on.
use Rattle.std.specs.Prelude.{◌≡◌, ◌++◌, ℕ, List, codes, decimal, map}
use Rattle.std.specs.Option.{option_copied}
use Rattle.vcd_copy.specs.declared.marking.head.MarkHead.{MarkHead}
use Rattle.vcd_amend_program.specs.CommandLine.{AskedOptions}
use Rattle.vcd_amend_program.specs.FoundMarks.{first_line, said_after}
use Rattle.vcd_amend_program.specs.Marks.{part_lines}
use Rattle.vcd_amend_program.specs.VerifyOutcome.{IsHeadOf}
use Rattle.vcd_amend_program.specs.declared.verify.FoundHead.{FoundHead}
use Rattle.vcd_amend_program.specs.declared.verify.PartSaid.{PartSaid}

-- what a mark says of a capture after its name
abbrev pub sum_text : (size : ℕ) → (digest : List ℕ) → List ℕ
sum_text size digest = codes " " ++ decimal size ++ codes " bytes SHA-256 " ++ digest

-- a head of a mark is the one that was found
pub record IsHeadFrom (found : FoundHead) (head : MarkHead) : Type 0 where
  pub version : head.version.now ≡ found.version.items
  pub name : head.name.now ≡ found.name.items
  pub size : head.size ≡ found.size
  pub digest : head.digest.now ≡ found.digest.items

-- this head was found in a mark
abbrev pub IsFoundHead : (mark : List ℕ) → FoundHead → Type 0
IsFoundHead mark found = (o : AskedOptions) (head : MarkHead) → IsHeadFrom found head
    → head.part.now ≡ part_lines o → IsHeadOf mark o head

-- a mark says this of the part that was taken
pub record IsPartSaid (mark : List ℕ) (part : PartSaid) : Type 0 where
  pub keep : map (λ text. text.now) part.keep.items ≡ said_after (codes "part keep ") mark
  pub remove : map (λ text. text.now) part.remove.items ≡ said_after (codes "part remove ") mark
  pub from : option_copied part.from ≡ first_line (said_after (codes "part from ") mark)
  pub to : option_copied part.to ≡ first_line (said_after (codes "part to ") mark)
