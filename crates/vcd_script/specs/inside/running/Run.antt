-- The result of a run before its output.
use Rattle.std.specs.Prelude.{◌≡◌, ℕ, List, Option, IfSome}
use Rattle.std.specs.List.{concat}
use Rattle.vcd_core.specs.Contents.{Contents}
use Rattle.vcd_core.specs.declared.capture.TheConstants.{SIGNAL_LIMIT}
use Rattle.vcd_text.specs.Meaning.{FileMeans}
use Rattle.vcd_text.specs.Text.{text}
use Rattle.vcd_script.specs.Script.{script_lines}
use Rattle.vcd_script.specs.Run.{outcome}

-- the script on a capture, that of the file if its bytes are shown, gives replies of which `took`
-- holds, `count` refused lines, and this capture
pub record ScriptGives (file : Option (List ℕ)) (script : List ℕ) (depth count : ℕ)
    (took : List ℕ → Type 0) (now : Contents) : Type 0 where
  pub contents : Contents
  pub skipped : ℕ
  pub means : IfSome file (λ bytes. FileMeans SIGNAL_LIMIT bytes contents skipped)
  pub replies : took (concat (outcome contents skipped depth (script_lines script)).replies)
  pub refused : (outcome contents skipped depth (script_lines script)).refused ≡ count
  pub output : (outcome contents skipped depth (script_lines script)).output ≡ text now
