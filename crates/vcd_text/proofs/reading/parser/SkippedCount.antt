-- The number of skipped variables: fewer than the file has words.
use Rattle.std.proofs.Common.{◌+◌, ◌<◌, ◌≤◌, ◌^◌, List, [], ◌∷◌, length, arith}
use Rattle.std.proofs.lemmas.List.{length-append, length-map}
use Rattle.std.proofs.lemmas.List.Sums.{count_by-le-length}
use Rattle.vcd_text.specs.Items.{Item}
use Rattle.vcd_text.specs.Items.{spelling, spellings}
use Rattle.vcd_text.specs.Grammar.{ParseState, state_after, state_after_item}
use Rattle.vcd_text.specs.inside.reading.Parser.{IsUnderway}
use Rattle.vcd_text.specs.declared.reading.parser.Parser.{Parser}

-- an item declares one variable at most
declared_more : (c : ParseState) (i : Item) → length (state_after_item c i).declared ≤ length c.declared + 1
declared_more c i = grind (arith, length-append)

-- items declare at most as many variables as there are items
declared_by : (c : ParseState) (is : List Item) → length (state_after c is).declared ≤ length c.declared + length is
declared_by c [] = omega arith
declared_by c (i ∷ is) = omega (arith, declared_by (state_after_item c i) is, declared_more c i)

-- an item has a word
pub has_words : (i : Item) → 0 < length (spelling i)
has_words i = grind arith

-- items have at least as many words as there are items
fewer_items : (is : List Item) → length is ≤ length (spellings is)
fewer_items [] = omega arith
fewer_items (i ∷ is) = omega (arith, length-append (spelling i) (spellings is), has_words i, fewer_items is)

-- one more skipped variable can be counted
pub few_declared : (m : Parser) → IsUnderway m → m.variables.skipped + 1 < 2 ^ 64
few_declared m r = grind (arith, count_by-le-length, declared_by, fewer_items, length-map, length-append)
