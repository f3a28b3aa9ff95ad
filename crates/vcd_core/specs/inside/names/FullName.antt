-- A full name, walked part by part.
use Rattle.std.specs.Prelude.{◌≡◌, []}
use Rattle.vcd_core.specs.declared.names.full_name.FullName.{FullName}

-- nothing is left of the current scope or name
pub record IsDrained (n : FullName) : Type 0 where
  pub text : n.text.now ≡ []
  pub words : n.words.now ≡ []
