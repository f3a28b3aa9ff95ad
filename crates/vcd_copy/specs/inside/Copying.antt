-- A file while it is copied: the words so far are those of whole pieces and of an open item, and
-- white space may follow them.
use Rattle.std.specs.Prelude.{◌≡◌, ◌⊎◌, ℕ, ◌<◌, ◌==◌, Bool, true, false, if◌then◌else◌, List}
use Rattle.std.specs.Prelude.{[], ◌∷◌, ◌++◌}
use Rattle.std.specs.Prelude.{length, Option, Some, None, IsTrue, MatchOption}
use Rattle.std.specs.List.{list_all, prefix_len, suffix_len}
use Rattle.vcd_core.specs.Word.{is_white_space}
use Rattle.vcd_core.specs.declared.capture.HeaderKind.TheVariants.{Date, Version, Comment}
use Rattle.vcd_core.specs.declared.capture.Timescale.{Timescale}
use Rattle.vcd_core.specs.declared.device.Sink as sinks
use Rattle.vcd_text.specs.Words.{WordOnLine, words_of}
use Rattle.vcd_text.specs.Grammar.{ParseState, initial_state, AllowsAll, word_texts, Accepts}
use Rattle.vcd_copy.specs.Pieces.{state_of_pieces, Piece, piece_bytes, IsCut}
use Rattle.vcd_copy.specs.Copied.{CopyRules, copied_pieces, piece_items}
use Rattle.vcd_copy.specs.Copied.{may_be_amended, is_comment_or_other, Shows}
use Rattle.vcd_copy.specs.Copied.{IsNext, IsCopy}
use Rattle.vcd_copy.specs.declared.copying.copier.Copier.{Copier}
use Rattle.vcd_text.specs.inside.Words.{has_complete_words}
use Rattle.vcd_text.specs.EmittedText.{Emits, EmitsMore}
use Rattle.vcd_text.specs.inside.reading.Part.{Asked}
use Rattle.vcd_text.specs.inside.reading.Scopes.{open_scopes}
use Rattle.vcd_text.specs.inside.reading.Parser.{IsAtState}
use Rattle.vcd_copy.specs.declared.copying.amender.AmendableItem.{AmendableItem}
use Rattle.vcd_copy.specs.declared.copying.amender.AmendableItem.TheVariants as shown
use Rattle.vcd_copy.specs.declared.copying.pieces.Held.{Held}
use Rattle.vcd_text.specs.declared.reading.parser.Parser.{Parser}
use Rattle.vcd_text.specs.declared.reading.parser.OpenItem.{OpenItem}
use Rattle.vcd_text.specs.declared.reading.parser.OpenItem.TheVariants as items
use Rattle.vcd_text.specs.declared.writing.output.Output.{Output}

-- ---- the item that a word ends

-- whether an open item stands whatever follows
abbrev pub stands_open : OpenItem → Bool
stands_open (items.Entry kind) = true
stands_open items.Timescale = true
stands_open items.Scope = true
stands_open items.Upscope = true
stands_open items.Other = true
stands_open item = false

-- whether an open item is a comment of the declarations, or any other command
abbrev pub is_open_comment_or_other : OpenItem → Bool
is_open_comment_or_other (items.Entry Date) = false
is_open_comment_or_other (items.Entry Version) = false
is_open_comment_or_other (items.Entry Comment) = true
is_open_comment_or_other items.Other = true
is_open_comment_or_other item = false

-- what is shown of the item of one word, if it may be amended
abbrev pub shown_word : List ℕ → (tick : ℕ) → Option AmendableItem
shown_word [] tick = Some shown.Value
shown_word (b ∷ bs) tick = if b == 35 then Some (shown.Stamp tick) else
    (if b == 36 then None else Some shown.Value)

-- what is shown of the item that a word ends, if it may be amended
abbrev pub shown_item : (item : OpenItem) → (text : List ℕ) → (tick open_scopes : ℕ)
    → (timescale : Option Timescale) → Option AmendableItem
shown_item items.Nothing text tick open_scopes timescale = shown_word text tick
shown_item items.Vector text tick open_scopes timescale = Some shown.Value
shown_item items.RealOrString text tick open_scopes timescale = Some shown.RealOrString
shown_item items.Variable text tick open_scopes timescale = Some shown.Variable
shown_item items.SizedVariable text tick open_scopes timescale = Some shown.Variable
shown_item items.EndDefinitions text tick open_scopes timescale =
    Some (shown.EndDefinitions open_scopes timescale)
shown_item item text tick open_scopes timescale = None

-- the code in the last word of a change
abbrev pub code_after_digit : List ℕ → List ℕ
code_after_digit [] = []
code_after_digit (digit ∷ code) = code

abbrev pub code_in : (item : OpenItem) → (text : List ℕ) → List ℕ
code_in items.Nothing text = code_after_digit text
code_in item text = text

-- after these pieces a word ends this one; `item` was open before it, and the parser is as it is
-- after it
pub record EndsPiece (limit : ℕ) (before : List Piece) (p : Piece) (item : OpenItem)
    (text : List ℕ) (m : Parser)
    : Type 0 where
  pub next : IsNext limit before p p.space p.body
  pub shown : MatchOption (shown_item item text m.tick m.variables.scopes.depth m.timescale)
      (may_be_amended p.item ≡ false)
      (λ shown. Shows (state_of_pieces limit before) shown (code_in item text) p.item)
  pub scopes : may_be_amended p.item ≡ true
      → open_scopes m.variables.scopes ≡ (state_of_pieces limit before).scopes
  pub free : is_open_comment_or_other item ≡ is_comment_or_other p.item

-- ---- the bytes so far

-- after these pieces an item is open, with this white space before it, these bytes and these words;
-- or none is open
pub record IsOpenItem (pieces : List Piece) (space body : List ℕ) (texts : List
    (List ℕ)) : Type 0 where
  pub spelled : word_texts (words_of body) ≡ texts
  pub tight : (prefix_len is_white_space body ≡ 0) × (suffix_len is_white_space body ≡ 0)
  pub white : IsTrue (list_all is_white_space space)
  pub apart : 0 < length texts → 0 < length pieces → 0 < length space
  pub none : texts ≡ [] → (space ≡ []) × (body ≡ [])

-- these bytes were taken: `written` holds of what is written of them, and the rest is held, where
-- the first word of the open item comes after `space_len` bytes
pub record HasCopied (limit : ℕ) (rules : CopyRules) (has_seen : List Piece → Type 0)
    (written : List ℕ → Type 0) (m : Parser) (held : List ℕ) (space_len : ℕ) (bytes : List ℕ)
    : Type 0 where
  pub asked : Asked
  pub pieces : List Piece
  pub begun : List WordOnLine
  pub space : List ℕ
  pub body : List ℕ
  pub gap : List ℕ
  pub cut : IsCut (piece_bytes pieces) pieces []
  pub allowed : AllowsAll (initial_state limit) (piece_items pieces)
  pub at : IsAtState asked m (state_of_pieces limit pieces) begun
  pub opened : IsOpenItem pieces space body (word_texts begun)
  pub gap_white : IsTrue (list_all is_white_space gap)
  pub gap_some : has_complete_words bytes ≡ true → (0 < length gap) ⊎ ((pieces ≡ []) × (begun ≡ []))
  pub whole : bytes ≡ piece_bytes pieces ++ (space ++ (body ++ gap))
  pub seen : has_seen pieces
  pub writes : written (copied_pieces rules [] pieces
      ++ (if stands_open m.item then rules.before_others pieces ++ (space ++ body) else []))
  pub held_is : held ≡ (if stands_open m.item then gap else space ++ (body ++ gap))
  pub len : 0 < length (word_texts begun) → space_len ≡ length space

-- with some bytes more, the text has this property
abbrev pub Adds : (before after : List ℕ → Type 0) → (part : List ℕ) → Type 0
Adds before after part = (text : List ℕ) → before text → after (text ++ part)

-- the output took this text, but for these last bytes of it
abbrev pub EmitsAllBut : {W : Type 0} → sinks.Ghosts W → (start now : Output W)
    → (known text : List ℕ) → Type 0
EmitsAllBut sink start now known text =
    (sent : List ℕ) × Emits sink start now sent × (sent ++ known ≡ text)

-- a part was added to the text, of which the output took all but its last bytes
abbrev pub AddsToText : {W : Type 0} → sinks.Ghosts W → (old new : Output W)
    → (known later part : List ℕ) → Type 0
AddsToText sink old new known later part = EmitsAllBut sink old new later (known ++ part)

-- of a chunk, `all` is what was not written and what comes after it, `item` is the open item and
-- what comes after it, and `rest` is to come: first comes what is known to stand, then the open
-- item. Where bytes of an earlier chunk are held, no byte is known to stand
pub record IsUnwritten (held all item rest known begun : List ℕ) : Type 0 where
  pub all_is : all ≡ known ++ item
  pub item_is : item ≡ begun ++ rest
  pub one : (held ≡ []) ⊎ (known ≡ [])

-- what is added to the text with these bytes of an item that stands: if they begin it, what comes
-- before it comes first; `item` was open before them
abbrev pub standing_part : CopyRules → (before : List Piece) → (item : OpenItem) → (bytes : List ℕ)
    → List ℕ
standing_part rules before item bytes =
    (if stands_open item then [] else rules.before_others before) ++ bytes

-- what comes before `rest` is done with: in the place of the open item this is added to the text
pub record HasPassed {W : Type 0} (sink : sinks.Ghosts W) (old new : Output W) (held : List ℕ)
    (all item rest known part : List ℕ) : Type 0 where
  pub later : List ℕ
  pub all_is : all ≡ later ++ rest
  pub item_is : item ≡ rest
  pub none : held ≡ []
  pub adds : AddsToText sink old new known later part

-- these bytes were taken, up to `rest`
pub record HasCopiedUpTo {W : Type 0} (sink : sinks.Ghosts W) (limit : ℕ) (rules : CopyRules)
    (has_seen : List Piece → Type 0) (start now : Output W) (m : Parser) (held : Held)
    (all item rest bytes : List ℕ) : Type 0 where
  pub known : List ℕ
  pub begun : List ℕ
  pub unwritten : IsUnwritten held.bytes.items all item rest known begun
  pub copied : HasCopied limit rules has_seen (EmitsAllBut sink start now known) m
      (held.bytes.items ++ begun) held.space_len bytes

-- these are the bytes of a piece that is not known to stand
abbrev pub IsHeldPiece : (item : OpenItem) → (held : List ℕ) → (space_len : ℕ) → Piece → Type 0
IsHeldPiece item held space_len p = stands_open item ≡ false
    → (held ≡ p.space ++ p.body) × (space_len ≡ length p.space)

-- these bytes are white space and a word, and can come after those before
pub record IsSpacedWord (before : List ℕ) (bytes text : List ℕ) : Type 0 where
  pub space : List ℕ
  pub is : bytes ≡ space ++ text
  pub white : IsTrue (list_all is_white_space space)
  pub apart : (0 < length space) ⊎ (has_complete_words before ≡ true)

-- ---- the file so far

-- since its start a copier has taken these bytes
pub record HasCopiedSince {W A Given : Type 0} (sink : sinks.Ghosts W) (given : A → Given)
    (rules : Given → CopyRules) (has_seen : A → List Piece → Type 0) (limit : ℕ)
    (start now : Copier W A) (m : Parser) (bytes : List ℕ)
    : Type 0 where
  pub same : given now.amender.now ≡ given start.amender.now
  pub copied : HasCopied limit (rules (given start.amender.now)) (has_seen now.amender.now)
      (Emits sink start.output now.output) m now.held.bytes.items now.held.space_len bytes

-- a copier goes on: it has the amender and the writer of its start, and its output took more
pub record CopyGoesOn {W A : Type 0} (sink : sinks.Ghosts W) (start now : Copier W A) : Type 0 where
  pub same_amender : now.amender.ghost_name ≡ start.amender.ghost_name
  pub more : EmitsMore sink start.output now.output

-- the output took the copy of a file of these bytes
pub record TookCopy {W : Type 0} (sink : sinks.Ghosts W) (limit : ℕ) (rules : CopyRules)
    (start now : Output W)
    (bytes : List ℕ) : Type 0 where
  pub text : List ℕ
  pub is_copy : IsCopy limit rules bytes text
  pub emits : Emits sink start now text

-- the output took a text, with which the copy of a file of these bytes begins if it is accepted
pub record TookBeginning {W : Type 0} (sink : sinks.Ghosts W) (limit : ℕ) (rules : CopyRules)
    (start now : Output W) (bytes : List ℕ) : Type 0 where
  pub text : List ℕ
  pub emits : Emits sink start now text
  pub begins : (s : ParseState) → Accepts limit (words_of bytes) s
      → (rest : List ℕ) × IsCopy limit rules bytes (text ++ rest)
