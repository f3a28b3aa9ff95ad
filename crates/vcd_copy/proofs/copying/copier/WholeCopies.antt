-- The beginning of a copy, and the end of the file.
use Rattle.std.proofs.Common.{◌≡◌, ◌∙◌, inr, ℕ, true, cond, List, [], ◌∷◌, ◌++◌}
use Rattle.std.proofs.Common.{refl, sym, ap, ap₂, subst, arith}
use Rattle.std.proofs.lemmas.List.{append-nil}
use Rattle.std.proofs.lemmas.Bool.{and_parts, false≢true}
use Rattle.vcd_core.specs.declared.device.Sink as sinks
use Rattle.std.proofs.lemmas.List.Elements.{All-nil}
use Rattle.vcd_text.specs.Words.{WordOnLine, words_of, complete_words}
use Rattle.vcd_text.specs.Items.{Item, spellings}
use Rattle.vcd_text.specs.Grammar.{word_texts, initial_state, state_after}
use Rattle.vcd_copy.specs.Pieces.{Piece}
use Rattle.vcd_copy.specs.Copied.{CopyRules, IsCopy, copied, copied_pieces}
use Rattle.vcd_copy.specs.inside.Copying.{HasCopied, HasCopiedSince, CopyGoesOn, TookCopy, stands_open}
use Rattle.vcd_copy.specs.Pieces.{piece_bytes}
use Rattle.vcd_text.specs.inside.reading.Parser.{is_complete, IsBegun, HasTakenWords, IsAtState}
use Rattle.vcd_text.specs.inside.reading.Part.{Asked}
use Rattle.vcd_text.specs.inside.reading.OpenItems.{is_nothing}
use Rattle.vcd_text.specs.EmittedText.{Emits}
use Rattle.vcd_copy.specs.declared.copying.copier.Copier.{Copier}
use Rattle.vcd_text.specs.declared.reading.parser.Parser.{Parser}
use Rattle.vcd_text.specs.declared.reading.parser.OpenItem.{OpenItem}
use Rattle.vcd_text.specs.declared.reading.parser.OpenItem.TheVariants as items
use Rattle.vcd_text.specs.declared.writing.output.Output.{Output}
use Rattle.vcd_text.proofs.shared.EmittedParts.{writes_both, writes_as, writes_none, more_none}
use Rattle.vcd_copy.proofs.pieces.Cuts.{SpellsItem, IsTight, SpaceIsWhite, HasSomeSpace, spelling_some}
use Rattle.vcd_copy.proofs.copying.pieces.EndedItems.{nothing_open}

none_is_open : (item : OpenItem) → is_nothing item ≡ true → item ≡ items.Nothing
none_is_open items.Nothing is = refl
none_is_open (items.Entry kind) is = absurd (false≢true is)
none_is_open items.Timescale is = absurd (false≢true is)
none_is_open items.Scope is = absurd (false≢true is)
none_is_open items.Upscope is = absurd (false≢true is)
none_is_open items.Variable is = absurd (false≢true is)
none_is_open items.SizedVariable is = absurd (false≢true is)
none_is_open items.EndDefinitions is = absurd (false≢true is)
none_is_open items.Other is = absurd (false≢true is)
none_is_open items.Vector is = absurd (false≢true is)
none_is_open items.RealOrString is = absurd (false≢true is)

-- the open item is none, and only white space is left
pub none_left : {limit : ℕ} {rules : CopyRules} {seen : List Piece → Type 0} {written : List ℕ → Type 0} {m : Parser}
    {held bytes : List ℕ} {len : ℕ} (h : HasCopied limit rules seen written m held len bytes) → is_complete m ≡ true
    → (m.item ≡ items.Nothing) × (h.space ++ (h.body ++ h.gap) ≡ h.gap)
none_left {m = m} h complete =
    let nothing = none_is_open m.item (and_parts m.in_body (is_nothing m.item) complete).1 in
    let none : h.begun ≡ [] = subst (IsBegun m h.begun) nothing h.at.1 in
    let empty = h.opened.none (ap word_texts none) in
    (nothing, ap₂ (λ x y. x ++ (y ++ h.gap)) empty.0 empty.1)

-- the whole file has a copy
unfoldable pub whole_copy : {limit : ℕ} {rules : CopyRules} {seen : List Piece → Type 0} {written : List ℕ → Type 0}
    {m : Parser}
    {held bytes : List ℕ} {len : ℕ} (h : HasCopied limit rules seen written m held len bytes) → is_complete m ≡ true
    → IsCopy limit rules bytes (copied rules h.pieces h.gap)
whole_copy {m = m} h complete = record {
  pieces = h.pieces;
  tail = h.gap;
  cut = record {
    whole = h.whole ∙ ap (λ l. piece_bytes h.pieces ++ l) (none_left h complete).1;
    spelled = h.cut.spelled;
    tight = h.cut.tight;
    spaces = h.cut.spaces;
    apart = h.cut.apart;
    end = h.gap_white;
  };
  allowed = h.allowed;
  in_body = sym h.at.0.in_body ∙ (and_parts m.in_body (is_nothing m.item) complete).0;
  is = refl;
}

-- the whole file is copied, once what is in the place of its last white space is written
pub whole_copied : {W A Given : Type 0} {sink : sinks.Ghosts W} {given : A → Given} {rules : Given → CopyRules}
    {has_seen : A → List Piece → Type 0} {limit : ℕ} {start now : Copier W A} {m : Parser} {bytes space : List ℕ}
    {o : Output W} (h : HasCopiedSince sink given rules has_seen limit start now m bytes) → is_complete m ≡ true
    → space ≡ now.held.bytes.items
    → Emits sink now.output o ((rules (given now.amender.now)).at_end h.copied.pieces space)
    → TookCopy sink limit (rules (given start.amender.now)) start.output o bytes
whole_copied {given = given} {rules = rules} {start = start} {space = space} h complete last writes =
    let r = rules (given start.amender.now) in
    let pieces = h.copied.pieces in
    let (nothing, bare) = none_left h.copied complete in
    let gap : space ≡ h.copied.gap = last ∙ h.copied.held_is
    ∙ ap (λ i. cond (stands_open i) h.copied.gap (h.copied.space ++ (h.copied.body ++ h.copied.gap))) nothing ∙ bare in
    record {
      text = copied r pieces h.copied.gap;
      is_copy = whole_copy h.copied complete;
      emits = writes_as (ap (λ i. (copied_pieces r [] pieces ++ cond (stands_open i)
          (r.before_others pieces ++ (h.copied.space ++ h.copied.body)) [])
          ++ r.at_end pieces space) nothing ∙ ap₂ (λ x y. x ++ r.at_end pieces y) (append-nil
          (copied_pieces r [] pieces)) gap) (writes_both h.copied.writes (rw h.same at writes));
    }

-- ---- before the first word

no_complete : complete_words [] ≡ []
unfolding complete_words words_of
no_complete = refl

no_items : (is : List Item) → [] ≡ spellings is → is ≡ []
no_items [] none = refl
no_items (i ∷ is) none =
    let some = spelling_some i in
    let never : ◌≡◌ {A = List (List ℕ)} [] ((some.0 ∷ some.1) ++ spellings is) = none
    ∙ ap (λ ws. ws ++ spellings is) some.2
    in
    absurd (cc)

both_none : (xs ys : List WordOnLine) → [] ≡ xs ++ ys → (xs ≡ []) × (ys ≡ [])
both_none [] ys none = (refl, sym none)
both_none (x ∷ xs) ys none = absurd (cc)

nothing_copied : {W : Type 0} {sink : sinks.Ghosts W} {limit : ℕ} {rules : CopyRules} {seen : List Piece → Type 0}
    {o : Output W} {asked : Asked} {m : Parser} {held : List ℕ} {len : ℕ}
    → HasTakenWords limit asked m (complete_words []) → held ≡ [] → seen []
    → HasCopied limit rules seen (Emits sink o o) m held len []
unfolding copied_pieces words_of
nothing_copied {limit = limit} {rules = rules} {asked = asked} {m = m} {held = held} r empty seen =
    let none = both_none r.whole r.begun (sym no_complete ∙ r.parts) in
    let items = no_items r.items (ap word_texts (sym none.0) ∙ r.spelled) in
    let state : r.state ≡ initial_state limit = sym r.state_is ∙ ap (state_after (initial_state limit)) items in
    let at : IsAtState asked m (initial_state limit) [] = rw state at (rw none.1 at r.at) in
    let nothing = nothing_open m m.item at.1 in
    record {
      asked = asked;
      pieces = [];
      begun = [];
      space = [];
      body = [];
      gap = [];
      cut = record {
        whole = refl;
        spelled = All-nil SpellsItem;
        tight = All-nil IsTight;
        spaces = All-nil SpaceIsWhite;
        apart = All-nil HasSomeSpace;
        end = refl;
      };
      allowed = tt;
      at = at;
      opened = record {
        spelled = refl;
        tight = (refl, refl);
        white = refl;
        apart = λ some. absurd (omega (arith, some));
        none = λ none. (refl, refl);
      };
      gap_white = refl;
      gap_some = λ complete. inr (refl, refl);
      whole = refl;
      seen = seen;
      writes = writes_as (ap (λ i. cond (stands_open i) (rules.before_others [] ++ []) []) (sym nothing)) writes_none;
      held_is = empty ∙ ap (λ i. cond (stands_open i) [] []) (sym nothing);
      len = λ some. absurd (omega (arith, some));
    }

-- a copier that holds nothing begins
pub copy_begins : {W A Given : Type 0} {sink : sinks.Ghosts W} {given : A → Given} {rules : Given → CopyRules}
    {has_seen : A → List Piece → Type 0} {limit : ℕ} {asked : Asked} {start : Copier W A} {m : Parser}
    → HasTakenWords limit asked m (complete_words []) → start.held.bytes.items ≡ [] → has_seen start.amender.now []
    → HasCopiedSince sink given rules has_seen limit start start m []
copy_begins taken empty seen = record { same = refl; copied = nothing_copied taken empty seen }

pub copy_goes_on : {W A : Type 0} {sink : sinks.Ghosts W} {start : Copier W A} → CopyGoesOn sink start start
copy_goes_on = record { same_amender = refl; more = more_none }
