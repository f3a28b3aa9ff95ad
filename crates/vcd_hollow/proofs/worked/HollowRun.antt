-- Worked cases: the signals of whose changes a script asks.
use Rattle.std.proofs.Common.{◌≡◌, refl}
use Rattle.std.specs.Prelude.{ℕ, List, [], ◌∷◌, codes, map}
use Rattle.std.specs.List.{enumerate_from}
use Rattle.vcd_core.specs.Contents.{Contents}
use Rattle.vcd_core.specs.Names.{name_in, lookup}
use Rattle.vcd_text.specs.Words.{words_of}
use Rattle.vcd_edit.specs.Effect.{effect}
use Rattle.vcd_edit.specs.EditFaults.{edit_fault}
use Rattle.vcd_edit.proofs.worked.Records.{wire, capture}
use Rattle.vcd_journal.specs.History.{replay}
use Rattle.vcd_hollow.specs.Origins.{origins}
use Rattle.vcd_script.specs.ScriptCommands.{command_of_line}
use Rattle.vcd_script.specs.Reply.{line_reply}
use Rattle.vcd_script.specs.Run.{history_at}
use Rattle.vcd_hollow.specs.HollowRun.{origins_of_line}

-- three names
abbrev names : Contents
names = capture 9 (wire (codes "a") [] ∷ wire (codes "b") [] ∷ wire (codes "c") [] ∷ [])

-- a name is given or taken away without the wave, and a derived signal has no origin
abbrev script : List (List ℕ)
script = codes "remove top.a" ∷ codes "derive n not top.b" ∷ codes "invert top.n" ∷ codes "undo" ∷ codes "value top.a 0"
    ∷ codes "rename top.b a" ∷ codes "value @1 3" ∷ []

b_and_c : map (λ p. origins_of_line names (history_at names 0 9 script p.0) p.1) (enumerate_from 0 script)
    ≡ [] ∷ (1 ∷ []) ∷ [] ∷ [] ∷ [] ∷ [] ∷ (2 ∷ []) ∷ []
unfolding line_reply command_of_line words_of lookup name_in replay effect edit_fault origins
b_and_c = refl
