-- What was not written of a chunk: what is known to stand, and the open item.
use Rattle.std.proofs.Common.{◌≡◌, ◌∙◌, ◌⊎◌, inl, inr, ℕ, ◌-◌, true, List, [], ◌++◌}
use Rattle.std.proofs.Common.{length, take, arith}
use Rattle.std.proofs.Math.Seq.{take-append_seam}
use Rattle.std.proofs.Common.{refl, sym, ap, subst, append_assoc}
use Rattle.std.specs.List.{list_all}
use Rattle.std.proofs.lemmas.List.{append-nil, length-append}
use Rattle.vcd_core.specs.Word.{is_white_space}
use Rattle.vcd_core.specs.declared.device.Sink as sinks
use Rattle.vcd_copy.specs.Pieces.{Piece}
use Rattle.vcd_copy.specs.Copied.{CopyRules}
use Rattle.vcd_copy.specs.inside.Copying.{HasCopied, HasCopiedUpTo, IsUnwritten}
use Rattle.vcd_copy.specs.inside.Copying.{Adds, AddsToText, EmitsAllBut, HasPassed}
use Rattle.vcd_text.specs.EmittedText.{Emits}
use Rattle.vcd_copy.specs.declared.copying.pieces.Held.{Held}
use Rattle.vcd_text.specs.declared.reading.parser.Parser.{Parser}
use Rattle.vcd_text.specs.declared.writing.output.Output.{Output}
use Rattle.vcd_copy.proofs.copying.pieces.SpacedWords.{gap_copied}
use Rattle.vcd_text.proofs.shared.EmittedParts.{writes_both, writes_as}

-- ---- texts

pub adds_text : {W : Type 0} {sink : sinks.Ghosts W} {start o0 o1 : Output W} (known later part : List ℕ)
    → AddsToText sink o0 o1 known later part
    → Adds (EmitsAllBut sink start o0 known) (EmitsAllBut sink start o1 later) part
adds_text known later part (sent, emits, is) = λ text (before, earlier, all). (
  before ++ sent,
  writes_both earlier emits,
  append_assoc before sent later ∙ ap (λ l. before ++ l) is ∙ sym (append_assoc before known part)
      ∙ ap (λ l. l ++ part) all,
)

-- what is known to stand and what is held can change places, as one of them is empty
swapped : (held known more : List ℕ) → (held ≡ []) ⊎ (known ≡ []) → held ++ (known ++ more) ≡ known ++ (held ++ more)
swapped held known more (inl none) = rw none refl
swapped held known more (inr none) = rw none refl

-- what is held is written, and the open item is known to stand
item_known : {W : Type 0} {sink : sinks.Ghosts W} {o0 o1 : Output W} {held : List ℕ} (known begun : List ℕ)
    → (held ≡ []) ⊎ (known ≡ []) → Emits sink o0 o1 held
    → AddsToText sink o0 o1 known (known ++ begun) (held ++ begun)
item_known {held = held} known begun one writes = (held, writes, swapped held known begun one)

-- two parts are added
adds_both : {W : Type 0} {sink : sinks.Ghosts W} {o0 o1 o2 : Output W} (known later last part more : List ℕ)
    → AddsToText sink o0 o1 known later part → AddsToText sink o1 o2 later last more
    → AddsToText sink o0 o2 known last (part ++ more)
adds_both known later last part more (sent, emits, is) (sent_more, emits_more, is_more) = (
  sent ++ sent_more,
  writes_both emits emits_more,
  append_assoc sent sent_more last ∙ ap (λ l. sent ++ l) is_more ∙ sym (append_assoc sent later more)
      ∙ ap (λ l. l ++ more) is ∙ append_assoc known part more,
)

-- nothing is added
pub nothing_added : {W : Type 0} {sink : sinks.Ghosts W} {o0 o1 : Output W} (known : List ℕ) → Emits sink o0 o1 []
    → AddsToText sink o0 o1 known known []
nothing_added known writes = ([], writes, sym (append-nil known))

-- the open item stands, and a part comes before what is held of it
pub stands_up_to : {W : Type 0} {sink : sinks.Ghosts W} {o0 o1 o2 : Output W}
    {held later earlier_all item rest : List ℕ} (all known kept begun first : List ℕ)
    → IsUnwritten held earlier_all item rest known begun → all ≡ kept ++ item → (held ≡ []) ⊎ (kept ≡ [])
    → AddsToText sink o0 o1 known kept first → Emits sink o1 o2 held → later ≡ []
    → HasPassed sink o0 o2 later all rest rest known (first ++ (held ++ begun))
stands_up_to {held = held} {rest = rest} all known kept begun first unwritten is one adds writes none = record {
  later = kept ++ begun;
  all_is = is ∙ ap (λ l. kept ++ l) unwritten.item_is ∙ sym (append_assoc kept begun rest);
  item_is = refl;
  none = none;
  adds = adds_both known kept (kept ++ begun) first (held ++ begun) adds (item_known kept begun one writes);
}

-- a part is written after what is known to stand
pub part_written : {W : Type 0} {sink : sinks.Ghosts W} {o0 o1 : Output W} (known part : List ℕ)
    → Emits sink o0 o1 (known ++ part) → AddsToText sink o0 o1 known [] part
part_written known part writes = (known ++ part, writes, append-nil (known ++ part))

-- the bytes of the open item
pub begun_is : (item begun rest : List ℕ) → item ≡ begun ++ rest → take (length item - length rest) item ≡ begun
begun_is item begun rest is =
    let long : length begun ≡ length item - length rest = omega (
      arith,
      ap
          (length {A = ℕ}) is,
      length-append begun rest,
    )
    in
    ap (λ n. take n item) (sym long) ∙ ap (take (length begun)) is ∙ take-append_seam begun rest

-- ---- the chunk

written_as : {limit : ℕ} {rules : CopyRules} {seen : List Piece → Type 0} {before after : List ℕ → Type 0} {m : Parser}
    {held bytes : List ℕ} {len : ℕ} → ((text : List ℕ) → before text → after text)
    → HasCopied limit rules seen before m held len bytes → HasCopied limit rules seen after m held len bytes
written_as turns h = record {
  asked = h.asked;
  pieces = h.pieces;
  begun = h.begun;
  space = h.space;
  body = h.body;
  gap = h.gap;
  cut = h.cut;
  allowed = h.allowed;
  at = h.at;
  opened = h.opened;
  gap_white = h.gap_white;
  gap_some = h.gap_some;
  whole = h.whole;
  seen = h.seen;
  writes = turns _ h.writes;
  held_is = h.held_is;
  len = h.len;
}

-- before the first word of a chunk
pub chunk_begun : {W : Type 0} {sink : sinks.Ghosts W} {limit : ℕ} {rules : CopyRules} {seen : List Piece → Type 0}
    {start now : Output W} {m : Parser} {before : List ℕ} (held : Held) (rest : List ℕ)
    → HasCopied limit rules seen (Emits sink start now) m held.bytes.items held.space_len before
    → HasCopiedUpTo sink limit rules seen start now m held rest rest rest before
chunk_begun {sink = sink} {limit = limit} {rules = rules} {seen = seen} {start = start} {now = now} {m = m}
    {before = before} held rest h = record {
      known = [];
      begun = [];
      unwritten = record { all_is = refl; item_is = refl; one = inr refl };
      copied = subst (λ l. HasCopied limit rules seen (EmitsAllBut sink start now []) m l held.space_len before) (sym
          (append-nil held.bytes.items)) (written_as (λ text writes. (text, writes, append-nil text)) h);
    }

-- after its last word
pub chunk_ended : {W : Type 0} {sink : sinks.Ghosts W} {limit : ℕ} {rules : CopyRules} {seen : List Piece → Type 0}
    {start o0 o1 : Output W} {m : Parser} {all item rest before : List ℕ} (held : Held) (later : List ℕ)
    → (r : HasCopiedUpTo sink limit rules seen start o0 m held all item rest before)
    → list_all is_white_space rest ≡ true → Emits sink o0 o1 r.known → later ≡ held.bytes.items ++ item
    → HasCopied limit rules seen (Emits sink start o1) m later held.space_len (before ++ rest)
chunk_ended {rest = rest} held later r white writes is = gap_copied later rest (written_as (λ text (sent, earlier, all).
    writes_as all (writes_both earlier writes)) r.copied) white (is ∙ ap (λ l. held.bytes.items ++ l)
    r.unwritten.item_is ∙ sym (append_assoc held.bytes.items r.begun rest))
