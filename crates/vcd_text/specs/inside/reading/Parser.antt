-- The state of the parser between two words: the state after the whole items, and the words of the
-- open item.
use Rattle.std.specs.Prelude.{◌≡◌, ◌⊎◌, ℕ, ◌+◌, ◌<◌, ◌^◌, Bool, true, false, ◌&&◌, List, [], ◌∷◌}
use Rattle.std.specs.Prelude.{◌++◌, length, map, ◌≤◌, min}
use Rattle.std.specs.Prelude.{if◌then◌else◌, IsTrue, IsFalse, Result, Ok, Err, codes}
use Rattle.vcd_text.specs.declared.fault.Fault.{Fault}
use Rattle.vcd_text.specs.declared.fault.Fault.TheVariants.{NoMemory}
use Rattle.vcd_text.specs.declared.fault.ReadError.{ReadError}
use Rattle.vcd_text.specs.Words.{WordOnLine, words_of, word_on}
use Rattle.vcd_text.specs.Parts.{PartMeans}
use Rattle.vcd_text.specs.declared.reading.Loaded.{Loaded}
use Rattle.vcd_text.specs.inside.reading.OpenItems.{is_nothing, is_end_definitions}
use Rattle.vcd_text.specs.Letters.{is_among}
use Rattle.vcd_text.specs.Items.{Item, spelling, spellings, has_no_end_word, end_word}
use Rattle.vcd_text.specs.inside.reading.Declarations.{is_end_word}
use Rattle.vcd_text.specs.Items.{header_word, is_other}
use Rattle.vcd_text.specs.inside.reading.DigitTests.{vector_prefixes, real_or_string_prefixes}
use Rattle.vcd_text.specs.Grammar.{ParseState, AllowsAll, state_after, state_after_item}
use Rattle.vcd_text.specs.Grammar.{Allows}
use Rattle.vcd_text.specs.Grammar.{initial_state, ValueChange, kept_variables}
use Rattle.vcd_text.specs.inside.reading.Part.{seen_state, TellsPart, HearsPart, Asked, IsAskedPart}
use Rattle.vcd_text.specs.inside.reading.Part.{undriven}
use Rattle.vcd_text.specs.Grammar.{word_texts}
use Rattle.vcd_core.specs.declared.value.TheConstants.{WIDTH_LIMIT}
use Rattle.vcd_core.specs.Decimal.{is_number, number_of}
use Rattle.vcd_text.specs.Faults.{ShowsFault, WordShows}
use Rattle.vcd_text.specs.MemoryErrors.{memory_error}
use Rattle.vcd_text.specs.inside.reading.Variables.{VariablesMatch}
use Rattle.vcd_text.specs.declared.reading.parser.Parser.{Parser}
use Rattle.vcd_text.specs.declared.reading.parser.OpenItem.{OpenItem}
use Rattle.vcd_text.specs.declared.reading.parser.OpenItem.TheVariants as items

-- ---- the state

-- the parser has the state after the items
pub record ParserMatches (asked : Asked) (m : Parser) (c : ParseState) : Type 0 where
  pub header : m.header.items ≡ c.header
  pub timescale : m.timescale ≡ c.timescale
  pub in_body : m.in_body ≡ c.in_body
  pub tick : m.tick ≡ c.tick
  pub seen : List ValueChange
  pub variables : VariablesMatch m.variables (seen_state m.part c seen)
  pub no_early_tick : IsFalse c.in_body → c.tick ≡ 0
  pub no_early_change : IsFalse c.in_body → c.value_changes ≡ []
  pub none_seen : IsFalse c.in_body → seen ≡ []
  pub tells : TellsPart m.part c seen
  pub hears : IsTrue c.in_body → HearsPart m.part m.silent.items m.variables c
  pub is_asked : IsTrue c.in_body
      → IsAskedPart asked (map undriven (kept_variables c.declared)) m.part

-- a declaration is open, of which the parser keeps these words after the keyword
pub record Collects (m : Parser) (begun : List WordOnLine) (keyword : List ℕ)
    (words : List (List ℕ)) : Type 0 where
  pub declares : IsFalse m.in_body
  pub spelled : word_texts begun ≡ keyword ∷ words
  pub no_end : IsTrue (has_no_end_word words)

-- a variable is open whose size has come; the parser keeps its other words
pub record CollectsVariable (m : Parser) (begun : List WordOnLine) : Type 0 where
  pub kind : List ℕ
  pub word : List ℕ
  pub following : List (List ℕ)
  pub declares : IsFalse m.in_body
  pub spelled : word_texts begun ≡ codes "$var" ∷ kind ∷ word ∷ following
  pub no_end : IsTrue (has_no_end_word (kind ∷ word ∷ following))
  pub words : m.words.items ≡ kind ∷ following
  pub number : IsTrue (is_number word)
  pub size : m.size ≡ min (number_of word) (WIDTH_LIMIT + 1)

-- another command is open
pub record PassesOver (m : Parser) (begun : List WordOnLine) : Type 0 where
  pub keyword : List ℕ
  pub words : List (List ℕ)
  pub spelled : word_texts begun ≡ keyword ∷ words
  pub other : IsTrue (is_other m.in_body keyword)
  pub no_end : IsTrue (has_no_end_word words)

-- a change of two words is open, whose first word has one of these letters and then this text
pub record AwaitsCode (m : Parser) (begun : List WordOnLine) (letters text : List ℕ) : Type 0 where
  pub in_body : IsTrue m.in_body
  pub word : WordOnLine
  pub letter : ℕ
  pub is : begun ≡ word ∷ []
  pub spelled : word.text ≡ letter ∷ text
  pub among : IsTrue (is_among letters letter)
  pub line : m.line ≡ word.line

-- these words of the open item have been taken
abbrev pub IsBegun : Parser → List WordOnLine → OpenItem → Type 0
IsBegun m begun items.Nothing = begun ≡ []
IsBegun m begun (items.Entry kind) = Collects m begun (header_word kind) m.entry
IsBegun m begun items.Timescale = Collects m begun (codes "$timescale") m.words.items
IsBegun m begun items.Scope = Collects m begun (codes "$scope") m.words.items
IsBegun m begun items.Upscope = IsFalse m.in_body × (word_texts begun ≡ codes "$upscope" ∷ [])
    × (0 < m.variables.scopes.depth)
IsBegun m begun items.Variable = Collects m begun (codes "$var") m.words.items
    × (length m.words.items ≤ 1)
IsBegun m begun items.SizedVariable = CollectsVariable m begun
IsBegun m begun items.EndDefinitions = IsFalse m.in_body
    × (word_texts begun ≡ codes "$enddefinitions" ∷ [])
IsBegun m begun items.Other = PassesOver m begun
IsBegun m begun items.Vector = AwaitsCode m begun vector_prefixes m.digits.items
IsBegun m begun items.RealOrString = (text : List ℕ)
    × AwaitsCode m begun real_or_string_prefixes text

-- the whole items gave this state, and these words of an open item have been taken
abbrev pub IsAtState : Asked → Parser → ParseState → List WordOnLine → Type 0
IsAtState asked m c begun = ParserMatches asked m c × IsBegun m begun m.item

-- ---- one word

-- a word goes on with the open item, or ends it, and its conditions hold
pub data WordStep (asked : Asked) (c : ParseState) (begun : List WordOnLine) (new : Parser) : Type 0
  where
    goes_on : IsAtState asked new c begun → WordStep asked c begun new
    ends_item : (i : Item) → spelling i ≡ word_texts begun → Allows c i
        → IsAtState asked new (state_after_item c i) []
        → WordStep asked c begun new

-- a word goes on with the open item, or ends it; some part is asked for then
abbrev pub StepsBy : Parser → WordOnLine → Parser → Type 0
StepsBy old w new = (asked : Asked) (c : ParseState) (begun : List WordOnLine)
    → IsAtState asked old c begun
    → (later : Asked) × WordStep later c (begun ++ w ∷ []) new

-- the result of a word: it is taken, or shows a fault, or memory runs out
abbrev pub WordResult : Parser → WordOnLine → Result (Unit {0}) Fault → Parser → Type 0
WordResult old w (Ok x) new = (asked : Asked) (c : ParseState) (begun : List WordOnLine) →
    IsAtState asked old c begun
    → WordStep asked c (begun ++ w ∷ []) new
WordResult old w (Err fault) new = (asked : Asked) (c : ParseState) (begun : List WordOnLine)
    → IsAtState asked old c begun
    → (fault ≡ NoMemory) ⊎ WordShows c (word_texts begun) w.text fault

-- ---- the words from the first

-- all these words have been taken
pub record HasTakenWords (limit : ℕ) (asked : Asked) (m : Parser) (words : List WordOnLine)
    : Type 0 where
  pub items : List Item
  pub whole : List WordOnLine
  pub begun : List WordOnLine
  pub state : ParseState
  pub parts : words ≡ whole ++ begun
  pub spelled : word_texts whole ≡ spellings items
  pub allowed : AllowsAll (initial_state limit) items
  pub state_is : state_after (initial_state limit) items ≡ state
  pub at : IsAtState asked m state begun

-- some words have been taken, fewer than 2 ^ 63
pub record IsUnderway (m : Parser) : Type 0 where
  pub limit : ℕ
  pub asked : Asked
  pub words : List WordOnLine
  pub taken_words : HasTakenWords limit asked m words
  pub few : length words < 2 ^ 63

-- whether a fault is out of memory
abbrev pub is_no_memory : Fault → Bool
is_no_memory NoMemory = true
is_no_memory fault = false

-- a fault with its line; out of memory has none
abbrev pub error_at : ℕ → Fault → ReadError
error_at line fault = if is_no_memory fault then memory_error
    else record { line = line; fault = fault }

-- these words can be taken after those before
abbrev pub CanTake : ℕ → Asked → Parser → List WordOnLine → Type 0
CanTake limit asked m words = (words_so_far : List WordOnLine)
    × HasTakenWords limit asked m words_so_far
    × (length words_so_far + length words < 2 ^ 63)

-- why words are not taken: one of them shows a fault, or memory has run out
abbrev pub RefusesWords : ℕ → List WordOnLine → ReadError → Type 0
RefusesWords limit words e = (e ≡ memory_error) ⊎ ShowsFault limit words e.line e.fault

-- a further word has been taken, or it is refused whatever follows
abbrev pub TakesWord : ℕ → Asked → List WordOnLine → WordOnLine → Result (Unit {0}) ReadError
    → Parser → Type 0
TakesWord limit asked words_so_far w (Ok x) new =
    HasTakenWords limit asked new (words_so_far ++ w ∷ [])
TakesWord limit asked words_so_far w (Err e) new = (more : List WordOnLine)
    → RefusesWords limit (words_so_far ++ w ∷ more) e

-- all words of a list have been taken after others, or one is refused
abbrev pub AllWordsResult : ℕ → Asked → List WordOnLine → List WordOnLine → Result ℕ ReadError
    → Parser → Type 0
AllWordsResult limit asked words_so_far words (Ok line_feeds) new =
    HasTakenWords limit asked new (words_so_far ++ words)
AllWordsResult limit asked words_so_far words (Err e) new =
    RefusesWords limit (words_so_far ++ words) e

-- nothing is open, and `$enddefinitions $end` has come
abbrev pub is_complete : Parser → Bool
is_complete m = m.in_body && is_nothing m.item

-- whether the word ends the declarations
abbrev pub ends_definitions : Parser → List ℕ → Bool
ends_definitions m text = is_end_definitions m.item && is_end_word text

-- the `$end` of `$enddefinitions` is taken, and the part begins that is asked for
abbrev pub BeginsPart : (old new : Parser) → Type 0
BeginsPart old new = (line : ℕ) (before asked : Asked) (c : ParseState) (begun : List WordOnLine)
    → IsAtState before old c begun
    → IsAskedPart asked (map undriven (kept_variables c.declared)) new.part
    → WordStep asked c (begun ++ word_on end_word line ∷ []) new

-- of the file whose words have been taken the part is loaded that is asked for
pub record Means (m : Parser) (loaded : Loaded) : Type 0 where
  pub means : (limit : ℕ) (asked : Asked) (bytes : List ℕ)
      → HasTakenWords limit asked m (words_of bytes)
      → PartMeans limit asked.takes asked.ticks bytes loaded
