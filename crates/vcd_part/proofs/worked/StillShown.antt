-- Worked cases: the variables to remove that a part still shows.
use Rattle.std.proofs.Common.{◌≡◌, refl, Bor}
use Rattle.std.specs.Prelude.{ℕ, List, [], ◌∷◌, codes, Some, None}
use Rattle.vcd_core.specs.Names.{name_in}
use Rattle.vcd_text.specs.Grammar.{VariableDeclaration}
use Rattle.vcd_part.specs.declared.request.Request.{Request}
use Rattle.vcd_part.specs.declared.time.Time.TheVariants.{Ticks}
use Rattle.vcd_part.specs.Pattern.{meets}
use Rattle.vcd_part.specs.WrittenPart.{still_shown}

-- a text that is lent
abbrev pub lent : {A : Type 0} → A → Bor A
lent text = record { ref_ptr = (0, 0); now = text }

-- a request to remove the variables whose names meet this pattern
abbrev pub without : (pattern : List ℕ) → Request
without pattern = record {
  keep = None;
  remove = Some (lent (lent pattern ∷ []));
  from = Ticks 0;
  to = Ticks 9;
}

-- a wire with this name and code
abbrev wire : (name code : List ℕ) → VariableDeclaration
wire name code = record { scopes = []; kind = codes "wire"; size = 1; code = code; words = name ∷ [] }

abbrev pub wires : List VariableDeclaration
wires = wire (codes "clk") (codes "!") ∷ wire (codes "rx") (codes "#") ∷ wire (codes "clk2") (codes "!") ∷ []

-- a removed one that shares its code with a kept one is still shown
second_is_shown : still_shown (without (codes "clk2")) wires ≡ wire (codes "clk2") (codes "!") ∷ []
unfolding meets name_in
second_is_shown = refl

-- and one whose code goes with it is not
both_are_gone : still_shown (without (codes "clk*")) wires ≡ []
unfolding meets name_in
both_are_gone = refl
