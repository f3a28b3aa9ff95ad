-- A run of lines, seen from a line in it.
use Rattle.std.proofs.Common.{◌≡◌, ℕ, ◌+◌, List, [], ◌∷◌, length, refl, arith}
use Rattle.vcd_script.specs.Script.{script_lines}
use Rattle.vcd_amend_run.specs.declared.dry_running.DryState.{DryState}
use Rattle.vcd_amend_run.specs.inside.dry_running.HeardLines.{HearsLine, HearLines}

-- after so many lines these are left, in this state: what they change is what is left to change
pub record AreLeft (skipped : ℕ) (lines : List (List ℕ)) (old : DryState) (number : ℕ) (left : List (List ℕ))
    (now : DryState) : Type 0 where
  pub heard : (new : DryState) → HearLines skipped (number + 1) left now new → HearLines skipped 1 lines old new
  pub counted : number + length left ≡ length lines

-- one more line
pub line_more : {skipped number : ℕ} {lines all left : List (List ℕ)} {line : List ℕ} {old now : DryState} →
    AreLeft skipped lines old number all now → all ≡ line ∷ left →
    (new : DryState) → HearsLine skipped (number + 1) line now new →
    AreLeft skipped lines old (number + 1) left new
unfolding HearLines
line_more so parts new hears = let here = rw parts at so in record {
  heard = λ last rest. here.heard last (new, hears, rest);
  counted = omega (arith, here.counted);
}

-- an empty rest has no line
pub none_left : {skipped number : ℕ} {lines : List (List ℕ)} {old now : DryState} (rest : List ℕ) →
    AreLeft skipped lines old number (script_lines rest) now → rest ≡ [] → HearLines skipped 1 lines old now
unfolding script_lines HearLines
none_left {now = now} rest so none = let last = rw none at so in last.heard now refl
