-- The items of a file, declarations and changes, and their spelling in words (IEEE 1364-2005, 18.2,
-- in the project's profile).
use Rattle.std.specs.Prelude.{ℕ, Bool, false, not, ◌&&◌, ◌||◌, ◌==◌, List, ◌∷◌, ◌++◌, map, find}
use Rattle.std.specs.Prelude.{Option, codes, []}
use Rattle.std.specs.Prelude.{decimal, bytes_eq}
use Rattle.std.specs.List.{list_all, flat_map, concat}
use Rattle.vcd_core.specs.Word.{is_one_of}
use Rattle.vcd_core.specs.TimeUnits.{unit_text}
use Rattle.vcd_core.specs.declared.capture.HeaderKind.{HeaderKind}
use Rattle.vcd_core.specs.declared.capture.HeaderKind.TheVariants.{Date, Version, Comment}
use Rattle.vcd_core.specs.declared.capture.Timescale.{Timescale}
use Rattle.vcd_core.specs.declared.capture.TimeUnit.TheVariants.{Second, Millisecond, Microsecond}
use Rattle.vcd_core.specs.declared.capture.TimeUnit.TheVariants.{Nanosecond}
use Rattle.vcd_core.specs.declared.capture.TimeUnit.TheVariants.{Picosecond, Femtosecond}

-- ---- keywords

-- the word that ends declarations and commands
abbrev pub end_word : List ℕ
end_word = codes "$end"

-- whether none of the words is `$end`
abbrev pub has_no_end_word : List (List ℕ) → Bool
has_no_end_word words = list_all (λ word. not (bytes_eq word end_word)) words

-- the words of the changes alone: those of a dump, which `$end` closes
abbrev pub dump_words : List (List ℕ)
dump_words =
    codes "$dumpall" ∷ codes "$dumpoff" ∷ codes "$dumpon" ∷ codes "$dumpvars" ∷ end_word ∷ []

-- the words of the declarations alone
abbrev pub declaration_words : List (List ℕ)
declaration_words = codes "$scope" ∷ codes "$upscope" ∷ codes "$var" ∷ codes "$timescale"
    ∷ codes "$enddefinitions" ∷ []

-- the keyword of a header entry
abbrev pub header_word : HeaderKind → List ℕ
header_word Date = codes "$date"
header_word Version = codes "$version"
header_word Comment = codes "$comment"

-- whether a word begins with `$`
abbrev pub is_command : List ℕ → Bool
is_command [] = false
is_command (b ∷ bs) = b == 36

-- whether a word begins a section, which ends at `$end`
abbrev pub begins_section : List ℕ → Bool
begins_section word = is_command word && not (is_one_of dump_words word)

-- any other command, which is passed over; among the changes also `$date`, `$version` and
-- `$comment` (the project's own)
abbrev pub is_other : (in_body : Bool) → List ℕ → Bool
is_other in_body word =
    begins_section word && not (is_one_of declaration_words word)
    && (in_body || not (is_one_of (map header_word (Date ∷ Version ∷ Comment ∷ [])) word))

-- ---- timescales

-- all timescales: 1, 10 and 100 of each unit
abbrev pub timescales : List Timescale
timescales =
    flat_map (λ unit. map (λ count. record { count = count; unit = unit }) (1 ∷ 10 ∷ 100 ∷ []))
    (Second ∷ Millisecond ∷ Microsecond ∷ Nanosecond ∷ Picosecond ∷ Femtosecond ∷ [])

-- the timescale that words spell when they are run together, or none
abbrev pub timescale_of : List (List ℕ) → Option Timescale
timescale_of words =
    find (λ t. bytes_eq (concat words) (decimal t.count ++ unit_text t.unit)) timescales

-- ---- items

-- a declaration or a change
pub data Item : Type 0 where
  -- `$date`, `$version` or `$comment`, and words up to `$end`
  entry : HeaderKind → (words : List (List ℕ)) → Item
  -- `$timescale`, and words up to `$end`
  timescale : (words : List (List ℕ)) → Item
  -- `$scope`, a kind, and the words of the name up to `$end`
  scope : (kind : List ℕ) → (words : List (List ℕ)) → Item
  -- `$upscope $end`
  upscope : Item
  -- `$var`, and words up to `$end`: kind, size, code, and those of the name
  variable : (words : List (List ℕ)) → Item
  -- `$enddefinitions $end`
  end_definitions : Item
  -- one word: `#` and the digits of a tick
  stamp : (digits : List ℕ) → Item
  -- one word: a binary digit and the code
  scalar : (digit : ℕ) → (code : List ℕ) → Item
  -- two words: `b` or `B` and binary digits, and the code
  vector : (first : ℕ) → (digits code : List ℕ) → Item
  -- two words: `r`, `R`, `s` or `S` and anything, and the code
  real_or_string : (first : ℕ) → (text code : List ℕ) → Item
  -- one word of a dump
  dump_word : (word : List ℕ) → Item
  -- any other command, and words up to `$end`
  other : (word : List ℕ) → (words : List (List ℕ)) → Item

-- the words of an item
abbrev pub spelling : Item → List (List ℕ)
spelling (entry kind words) = header_word kind ∷ words ++ end_word ∷ []
spelling (timescale words) = codes "$timescale" ∷ words ++ end_word ∷ []
spelling (scope kind words) = codes "$scope" ∷ kind ∷ words ++ end_word ∷ []
spelling upscope = codes "$upscope" ∷ end_word ∷ []
spelling (variable words) = codes "$var" ∷ words ++ end_word ∷ []
spelling end_definitions = codes "$enddefinitions" ∷ end_word ∷ []
spelling (stamp digits) = (35 ∷ digits) ∷ []
spelling (scalar digit code) = (digit ∷ code) ∷ []
spelling (vector first digits code) = (first ∷ digits) ∷ code ∷ []
spelling (real_or_string first text code) = (first ∷ text) ∷ code ∷ []
spelling (dump_word word) = word ∷ []
spelling (other word words) = word ∷ words ++ end_word ∷ []

-- the words of items in a row
abbrev pub spellings : List Item → List (List ℕ)
spellings items = flat_map spelling items
