-- What a mark says of a capture: the project's own.
use Rattle.std.specs.Prelude.{◌≡◌, ℕ, ◌^◌, ◌-◌, ◌++◌, ◌∷◌, [], List, length, map, min, codes}
use Rattle.std.specs.Prelude.{string_bytes, unwrap_or, Option, Some, None}
use Rattle.hex.specs.Hex.{encode_lower}
use Rattle.sha2.specs.Sha256.{sha256}
use Rattle.vcd_amend_program.specs.CommandLine.{AskedOptions}
use Rattle.vcd_amend_program.specs.declared.capture_mark.CaptureDigest.{CaptureDigest}

-- the size and the SHA-256 of a file, as far as a `u64` counts its bytes
pub record IsDigestOf (d : CaptureDigest) (file : List ℕ) : Type 0 where
  pub size : d.size ≡ min (length file) (2 ^ 64 - 1)
  pub digest : string_bytes d.digest ≡ encode_lower (sha256 file)

-- the lines of an option of a part, one for each of its values
abbrev pub option_lines : (option : List ℕ) → (values : List (List ℕ)) → List (List ℕ)
option_lines option values = map (λ value. option ++ value) values

-- the value of an option that is given once, or none
abbrev pub value_in : Option (List ℕ) → List (List ℕ)
value_in None = []
value_in (Some value) = value ∷ []

-- the lines that say which part the options ask for
abbrev pub part_lines : AskedOptions → List (List ℕ)
part_lines o = option_lines (codes "keep ") (unwrap_or o.keep [])
    ++ option_lines (codes "remove ") (unwrap_or o.remove [])
    ++ option_lines (codes "from ") (value_in o.from) ++ option_lines (codes "to ") (value_in o.to)
