-- The words of declarations, and the item that a word opens among them.
use Rattle.std.specs.Prelude.{◌≡◌, ℕ, Bool, true, false, List, IsTrue, codes}
use Rattle.std.specs.Prelude.{[], ◌∷◌, map, bytes_eq}
use Rattle.vcd_core.specs.declared.capture.HeaderKind.TheVariants.{Date, Version, Comment}
use Rattle.vcd_text.specs.Items.{end_word, header_word, is_other}
use Rattle.vcd_text.specs.declared.reading.parser.OpenItem.{OpenItem}
use Rattle.vcd_text.specs.declared.reading.parser.OpenItem.TheVariants as items

-- whether a word is `$end`
abbrev pub is_end_word : List ℕ → Bool
is_end_word word = bytes_eq word end_word

-- the keywords of header entries
abbrev pub header_words : List (List ℕ)
header_words = map header_word (Date ∷ Version ∷ Comment ∷ [])

-- the word opens this item among the declarations
abbrev pub Opens : OpenItem → List ℕ → Type 0
Opens (items.Entry kind) word = word ≡ header_word kind
Opens items.Timescale word = word ≡ codes "$timescale"
Opens items.Scope word = word ≡ codes "$scope"
Opens items.Upscope word = word ≡ codes "$upscope"
Opens items.Variable word = word ≡ codes "$var"
Opens items.EndDefinitions word = word ≡ codes "$enddefinitions"
Opens items.Other word = IsTrue (is_other false word)
Opens item word = ⊥

-- whether all words of the item up to `$end` are kept one by one, whatever they are
abbrev pub keeps_words : OpenItem → Bool
keeps_words items.Timescale = true
keeps_words items.Scope = true
keeps_words item = false
