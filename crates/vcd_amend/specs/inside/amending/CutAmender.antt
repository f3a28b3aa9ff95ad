-- An amendment of a file after cuts, while the file is copied.
use Rattle.std.specs.Prelude.{◌≡◌, ◌≤◌, nat_lt, ℕ, Bool, if◌then◌else◌, List, []}
use Rattle.vcd_text.specs.Grammar.{ParseState, initial_state}
use Rattle.vcd_copy.specs.Pieces.{Piece, state_of_pieces}
use Rattle.vcd_copy.specs.Copied.{CopyRules}
use Rattle.vcd_text.specs.inside.reading.CodeTargets.{code_target}
use Rattle.vcd_amend.specs.AmendmentContents.{amendment_contents}
use Rattle.vcd_amend.specs.AmendedCopy.{amendment_rules}
use Rattle.vcd_amend.specs.Retimed.{new_tick, lasts, has_kept_variable}
use Rattle.vcd_amend.specs.RetimedCopy.{is_cut_by, pieces_so_far, held_after, pieces_of_step}
use Rattle.vcd_amend.specs.RetimedCopy.{retimed_rules}
use Rattle.vcd_amend.specs.inside.amending.FileAmender.{HasSeen}
use Rattle.vcd_amend.specs.inside.amending.HeldChanges.{last_held, ArePieces, released}
use Rattle.vcd_amend.specs.declared.amending.file_amender.FileAmender.{FileAmender}
use Rattle.vcd_amend.specs.declared.amending.cut_amender.CutAmender.{CutAmender}

-- what an amender writes
abbrev pub rules_of : FileAmender → CopyRules
rules_of m = amendment_rules (amendment_contents m.amendment.now) 0

module _ (is_cut_out : ℕ → Bool) (before : List Piece) where
  -- the pieces that came in the place of these
  abbrev pub sent_for : List Piece
  sent_for = pieces_so_far is_cut_out (initial_state 0) [] before

  -- the changes that are held after these
  abbrev pub held_for : List Piece
  held_for = held_after is_cut_out (initial_state 0) [] before

  -- the pieces that come in the place of one more
  abbrev pub step_for : Piece → List Piece
  step_for p = pieces_of_step is_cut_out (state_of_pieces 0 before) held_for p

-- which ticks are cut out
abbrev pub cut_of : CutAmender → ℕ → Bool
cut_of m = is_cut_by m.walk

-- it wrote these pieces, holds these, and the file has this state
pub record HasWritten (m : CutAmender) (sent held : List Piece) (s : ParseState) : Type 0 where
  pub seen : HasSeen m.inner sent
  pub holds : ArePieces (last_held m.held.items) held
  pub lasting : (code : List ℕ) → (code_target m.variables code).lasts ≡ lasts s code
  pub kept : (code : List ℕ) → (code_target m.variables code).is_kept ≡ has_kept_variable s code
  pub is_cut : m.last.is_cut ≡ cut_of m s.tick
  pub tick : m.last.tick ≡ new_tick (cut_of m) s.tick
  pub behind : (state_of_pieces 0 sent).tick ≤ m.last.tick
  pub scopes : (state_of_pieces 0 sent).scopes ≡ s.scopes

-- it has seen these pieces of the file
abbrev pub HasSeenAll : CutAmender → List Piece → Type 0
HasSeenAll m before = HasWritten m (sent_for (cut_of m) before) (held_for (cut_of m) before)
    (state_of_pieces 0 before)

-- what it writes
abbrev pub cut_rules_of : CutAmender → CopyRules
cut_rules_of m = retimed_rules (cut_of m) (rules_of m.inner)

-- the held changes that are written before a tick, if it is past the last one
abbrev pub released_before : CutAmender → (tick : ℕ) → (held : List Piece) → List Piece
released_before m tick held = if nat_lt m.last.tick tick then released m.last.is_cut m.last.tick
    held else []
