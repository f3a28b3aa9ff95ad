-- A file that is read change by change: what was heard of the first bytes, of a chunk more, and of the end.
use Rattle.std.proofs.Common.{◌≡◌, ℕ, ◌≤◌, true, false, List, [], ◌∷◌, ◌++◌, length, Option, refl, sym, ap}
use Rattle.std.proofs.Common.{◌∙◌, arith, subst}
use Rattle.std.specs.Io.KnownBytes.{Consumes, IsAtEnd}
use Rattle.std.proofs.lemmas.Bool.{and_parts, false≢true}
use Rattle.std.proofs.lemmas.List.{append-nil, append_cancel_left}
use Rattle.vcd_core.specs.declared.capture.TheConstants.{SIGNAL_LIMIT}
use Rattle.vcd_text.specs.Words.{words_of, complete_words}
use Rattle.vcd_text.specs.Items.{Item, spellings}
use Rattle.vcd_text.specs.Grammar.{ParseState, AllowsAll, state_after_item, state_after, initial_state}
use Rattle.vcd_text.specs.Grammar.{word_texts}
use Rattle.vcd_text.specs.HeardChanges.{HeardChange, heard_all, AreHeard}
use Rattle.vcd_text.specs.inside.Words.{ComesBefore}
use Rattle.vcd_text.specs.inside.reading.ChangeListener.{HasHeardSince}
use Rattle.vcd_text.specs.inside.reading.ChangeStream.{HasStreamed, StreamsOn}
use Rattle.vcd_text.specs.inside.reading.FileReader.{HasReadBytes}
use Rattle.vcd_text.specs.inside.reading.OpenItems.{is_nothing}
use Rattle.vcd_text.specs.inside.reading.Part.{unheard}
use Rattle.vcd_text.specs.inside.reading.Parser.{is_complete}
use Rattle.vcd_text.specs.inside.reading.SkippedVariables.{HasListed, HasSkipped}
use Rattle.vcd_text.specs.declared.reading.TheConstants.{LONG_FILE_LIMIT}
use Rattle.vcd_text.specs.declared.reading.change_listener.ChangeListener.{ChangeListener}
use Rattle.vcd_text.specs.declared.reading.change_stream.ChangeStream.{ChangeStream}
use Rattle.vcd_text.proofs.reading.change_listener.HeardWords.{heard_both, none_open, closed_awaits_none}
use Rattle.vcd_text.proofs.reading.change_listener.HeardWords.{closed_knows}
use Rattle.vcd_text.proofs.reading.change_stream.ItemsSoFar.{IsFront, items_go_on, none_left, no_items}
use Rattle.vcd_text.proofs.reading.change_stream.ItemsSoFar.{before_is_complete}
use Rattle.vcd_text.proofs.shared.Chunks.{of_all, consumes_none, no_bytes}
use Rattle.vcd_text.proofs.shared.FaultOfPrefix.{complete_in_file, complete_in_longer}
use Rattle.vcd_text.proofs.shared.NoWordLeft.{texts_are}

-- ---- items after items

allowed_after : (s : ParseState) (is js : List Item) → AllowsAll s (is ++ js) → AllowsAll (state_after s is) js
allowed_after s [] js all = all
allowed_after s (i ∷ is) js (one, others) = allowed_after (state_after_item s i) is js others

state_after_both : (s : ParseState) (is js : List Item) → state_after s (is ++ js) ≡ state_after (state_after s is) js
state_after_both s [] js = refl
state_after_both s (i ∷ is) js = state_after_both (state_after_item s i) is js

-- what is heard of more items
heard_since : (first state later : ParseState) (is all : List Item) (before now : List HeardChange) → IsFront is all
    → AllowsAll first all → state_after first is ≡ state → state_after first all ≡ later → before ≡ heard_all first is
    → before ++ now ≡ heard_all first all → AreHeard state later now
heard_since first state later is all before now (more, parts) allowed from to was are = record {
  items = more;
  allowed = rw from at (allowed_after first is more (rw parts at allowed));
  state_is = ap (λ s. state_after s more) (sym from) ∙ sym (state_after_both first is more)
      ∙ ap (state_after first) (sym parts) ∙ to;
  heard_is = append_cancel_left before now _ (are ∙ ap (heard_all first) parts ∙ heard_both first is more
      ∙ (λ i. sym was i ++ heard_all (from i) more));
}

-- ---- nothing was read

none_of_both : {A : Type 0} (xs ys : List A) → [] ≡ xs ++ ys → (xs ≡ []) × (ys ≡ [])
none_of_both [] ys e = (refl, sym e)
none_of_both (x ∷ xs) ys e = absurd (omega (arith, ap length e))

pub nothing_streamed : (coming : Option (List ℕ)) (s : ChangeStream)
    → HasReadBytes SIGNAL_LIMIT LONG_FILE_LIMIT unheard s.reader [] → HasListed s.listener.skipped []
    → HasStreamed coming coming (initial_state SIGNAL_LIMIT) [] s
unfolding complete_words words_of heard_all
nothing_streamed coming s reads listed =
    let r = reads.taken_words in
    let (whole, begun) = none_of_both r.whole r.begun r.parts in
    let none = no_items r.items (ap word_texts (sym whole) ∙ r.spelled) in
    let closed = none_open s.reader.parser s.reader.parser.item (rw begun at r.at.1) in
    let state : r.state ≡ initial_state SIGNAL_LIMIT =
    sym r.state_is ∙ ap (state_after (initial_state SIGNAL_LIMIT)) none in
    record {
      bytes = [];
      consumed = consumes_none coming;
      reads = reads;
      before = [];
      all = no_bytes s.reader.buffer.bytes reads.short;
      ends = (refl, let lines = reads.lines in omega (arith, lines));
      asked = unheard;
      taken = r;
      state_is = state;
      heard_is = ap (heard_all (initial_state SIGNAL_LIMIT)) (sym none);
      first = λ awaits. absurd (false≢true (sym (closed_awaits_none s.reader.parser.item closed) ∙ awaits));
      skipped = subst (λ c. HasSkipped s.listener.skipped c.declared) (sym state) listed;
      size = closed_knows s.reader.parser.item (word_texts r.begun) s.listener.skipped closed;
    }

-- ---- the listener goes on

-- the start of a listener that has heard this
abbrev pub start_of : ChangeStream → List HeardChange → ChangeListener
start_of s heard = record s.listener { heard = heard }

-- with an empty list, it has heard the rest since a start that has heard what came before
pub listens_again : (coming left : Option (List ℕ)) (state : ParseState) (heard none : List HeardChange)
    (s : ChangeStream) (h : HasStreamed coming left state heard s) → none ≡ []
    → HasHeardSince SIGNAL_LIMIT (start_of s heard)
    (record s.listener { heard = none }) s.reader.parser h.before
listens_again coming left state heard none s h empty = record {
  asked = h.asked;
  taken = h.taken;
  heard = ap (λ hs. heard ++ hs) empty ∙ append-nil heard ∙ h.heard_is;
  first = h.first;
  skipped = h.skipped;
  size = h.size;
}

module _ (coming middle left : Option (List ℕ)) (state : ParseState) (heard : List HeardChange) (s now : ChangeStream)
    (chunk : List ℕ) (h : HasStreamed coming middle state heard s) (start : ChangeListener) (same : start.heard ≡ heard)
    (consumed : Consumes coming left (h.bytes ++ chunk)) where
  first_words : words_of h.before ≡ complete_words h.bytes
  first_words = before_is_complete h.bytes h.before s.reader.buffer.bytes s.reader.line_feeds h.all h.ends
      h.reads.no_space

  -- a chunk more was read
  pub streams_on : HasReadBytes SIGNAL_LIMIT LONG_FILE_LIMIT unheard now.reader (h.bytes ++ chunk)
      → (before : List ℕ) → h.bytes ++ chunk ≡ before ++ now.reader.buffer.bytes
      → ComesBefore before now.reader.line_feeds
      → HasHeardSince SIGNAL_LIMIT start now.listener now.reader.parser before
      → StreamsOn true coming left state heard now
  streams_on reads before all ends hears =
      let q = hears.taken in
      let total : heard ++ now.listener.heard ≡ heard_all (initial_state SIGNAL_LIMIT) q.items =
      ap (λ hs. hs ++ now.listener.heard) (sym same) ∙ hears.heard in
      let longer = complete_in_longer h.bytes chunk in
      let words : words_of before ≡ words_of h.before ++ longer.0 =
      before_is_complete (h.bytes ++ chunk) before now.reader.buffer.bytes now.reader.line_feeds all ends reads.no_space
      ∙ longer.1 ∙ ap (λ ws. ws ++ longer.0) (sym first_words) in
      record {
        later = q.state;
        at = (hears.asked, q.at.0, hears.skipped);
        heard_now = heard_since (initial_state SIGNAL_LIMIT) state q.state h.taken.items q.items heard
            now.listener.heard (items_go_on SIGNAL_LIMIT h.asked hears.asked s.reader.parser now.reader.parser
            (words_of h.before) (words_of before) h.taken q (longer.0, words)) q.allowed
            (h.taken.state_is ∙ h.state_is) q.state_is h.heard_is total;
        goes_on = λ more. record {
          bytes = h.bytes ++ chunk;
          consumed = consumed;
          reads = reads;
          before = before;
          all = all;
          ends = ends;
          asked = hears.asked;
          taken = q;
          state_is = refl;
          heard_is = total;
          first = hears.first;
          skipped = hears.skipped;
          size = hears.size;
        };
        ended = λ never. absurd (false≢true (sym never));
      }

  -- the file has ended
  pub streams_to_end : IsAtEnd left → length (h.bytes ++ chunk) ≤ LONG_FILE_LIMIT
      → is_complete now.reader.parser ≡ true
      → HasHeardSince SIGNAL_LIMIT start now.listener now.reader.parser (h.bytes ++ chunk)
      → StreamsOn false coming left state heard now
  streams_to_end ends short complete hears =
      let q = hears.taken in
      let m = now.reader.parser in
      let whole = words_of (h.bytes ++ chunk) in
      let total : heard ++ now.listener.heard ≡ heard_all (initial_state SIGNAL_LIMIT) q.items =
      ap (λ hs. hs ++ now.listener.heard) (sym same) ∙ hears.heard in
      let longer = complete_in_file h.bytes chunk in
      let words : whole ≡ words_of h.before ++ longer.0 =
      longer.1 ∙ ap (λ ws. ws ++ longer.0) (sym first_words) in
      let (in_body, closed) = and_parts m.in_body (is_nothing m.item) complete in
      record {
        later = q.state;
        at = (hears.asked, q.at.0, hears.skipped);
        heard_now = heard_since (initial_state SIGNAL_LIMIT) state q.state h.taken.items q.items heard
            now.listener.heard (items_go_on SIGNAL_LIMIT h.asked hears.asked s.reader.parser m (words_of h.before) whole
            h.taken q (longer.0, words)) q.allowed (h.taken.state_is ∙ h.state_is) q.state_is h.heard_is total;
        goes_on = λ never. absurd (false≢true never);
        ended = λ more. of_all coming left (h.bytes ++ chunk) _ consumed ends (
          short,
          record {
            accepted = record {
              items = q.items;
              spelled = texts_are SIGNAL_LIMIT hears.asked m whole q
                  ∙ ap (λ ts. spellings q.items ++ ts) (none_left m q.begun closed q.at.1)
                  ∙ append-nil (spellings q.items);
              allowed = q.allowed;
              state_is = q.state_is;
              definitions_ended = sym q.at.0.in_body ∙ in_body;
            };
            heard_is = total;
          },
        );
      }
