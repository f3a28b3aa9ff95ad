-- What is heard of the words of a file, one word after another.
use Rattle.std.proofs.Common.{◌≡◌, ℕ, ◌+◌, true, false, List, [], ◌∷◌, ◌++◌, length, refl, sym, ap, ◌∙◌, arith}
use Rattle.std.proofs.Common.{append_assoc}
use Rattle.std.specs.Prelude.{IsTrue, if◌then◌else◌}
use Rattle.std.proofs.lemmas.Bool.{false≢true}
use Rattle.std.proofs.lemmas.List.{append-nil, map-append, length-append}
use Rattle.vcd_text.specs.Words.{WordOnLine, words_of}
use Rattle.vcd_text.specs.LentWords.{words_after}
use Rattle.vcd_text.specs.LineFeeds.{line_feeds_in}
use Rattle.vcd_text.specs.Items.{Item, spelling}
use Rattle.vcd_text.specs.Grammar.{ParseState, state_after_item, state_after, initial_state, word_texts}
use Rattle.vcd_text.specs.HeardChanges.{heard_of, heard_all}
use Rattle.vcd_text.specs.inside.Words.{words_from, ComesBefore}
use Rattle.vcd_text.specs.inside.reading.OpenItems.{is_nothing}
use Rattle.vcd_text.specs.inside.reading.Part.{Asked}
use Rattle.vcd_text.specs.inside.reading.Parser.{IsBegun, ParserMatches, WordStep, goes_on, ends_item}
use Rattle.vcd_text.specs.inside.reading.ChangeListener.{awaits_code, heard_at_end, HasHeardWords}
use Rattle.vcd_text.specs.inside.reading.SkippedVariables.{HasSkipped, HearsWord, KnowsSize}
use Rattle.vcd_text.specs.declared.reading.change_listener.ChangeListener.{ChangeListener}
use Rattle.vcd_text.specs.declared.reading.parser.OpenItem.{OpenItem}
use Rattle.vcd_text.specs.declared.reading.parser.OpenItem.TheVariants as items
use Rattle.vcd_text.specs.declared.reading.parser.Parser.{Parser}
use Rattle.vcd_text.specs.declared.reading.skipped_variables.SkippedVariables.{SkippedVariables}
use Rattle.vcd_text.proofs.reading.change_listener.HeardDeclarations.{listed_still, listed_then, size_known}
use Rattle.vcd_text.proofs.reading.change_listener.HeardItems.{end_is_heard}
use Rattle.vcd_text.proofs.shared.Chunks.{words_complete}
use Rattle.vcd_text.proofs.shared.ItemsInTurn.{reaches_both, reaches_one}
use Rattle.vcd_text.proofs.shared.ResultExists.{spelled_more}
use Rattle.vcd_text.proofs.shared.WordsByBytes.{words_by_bytes, after_by_bytes}

-- ---- whether a word ends an item

not_none : {X : Type 0} (x : X) (xs : List X) → [] ≡ x ∷ xs → ⊥
not_none x xs e = cc

-- some item is open after a word that goes on with it
still_open : (m : Parser) (begun : List WordOnLine) (w : WordOnLine) (item : OpenItem)
    → IsBegun m (begun ++ w ∷ []) item → is_nothing item ≡ false
still_open m begun w items.Nothing is =
    absurd (omega (arith, length-append begun (w ∷ []), ap (length {A = WordOnLine}) is))
still_open m begun w (items.Entry kind) is = refl
still_open m begun w items.Timescale is = refl
still_open m begun w items.Scope is = refl
still_open m begun w items.Upscope is = refl
still_open m begun w items.Variable is = refl
still_open m begun w items.SizedVariable is = refl
still_open m begun w items.EndDefinitions is = refl
still_open m begun w items.Other is = refl
still_open m begun w items.Vector is = refl
still_open m begun w items.RealOrString is = refl

-- and none if it has ended
pub none_open : (m : Parser) (item : OpenItem) → IsBegun m [] item → is_nothing item ≡ true
none_open m items.Nothing is = refl
none_open m (items.Entry kind) is = absurd (not_none _ _ is.spelled)
none_open m items.Timescale is = absurd (not_none _ _ is.spelled)
none_open m items.Scope is = absurd (not_none _ _ is.spelled)
none_open m items.Upscope is = absurd (not_none _ _ is.1)
none_open m items.Variable is = absurd (not_none _ _ is.0.spelled)
none_open m items.SizedVariable is = absurd (not_none _ _ is.spelled)
none_open m items.EndDefinitions is = absurd (not_none _ _ is.1)
none_open m items.Other is = absurd (not_none _ _ is.spelled)
none_open m items.Vector is = absurd (not_none _ _ is.is)
none_open m items.RealOrString (text, is) = absurd (not_none _ _ is.is)

pub closed_awaits_none : (item : OpenItem) → is_nothing item ≡ true → awaits_code item ≡ false
closed_awaits_none items.Nothing is = refl
closed_awaits_none (items.Entry kind) is = refl
closed_awaits_none items.Timescale is = refl
closed_awaits_none items.Scope is = refl
closed_awaits_none items.Upscope is = refl
closed_awaits_none items.Variable is = refl
closed_awaits_none items.SizedVariable is = refl
closed_awaits_none items.EndDefinitions is = refl
closed_awaits_none items.Other is = refl
closed_awaits_none items.Vector is = absurd (false≢true is)
closed_awaits_none items.RealOrString is = absurd (false≢true is)

pub closed_knows : (item : OpenItem) (begun : List (List ℕ)) (s : SkippedVariables) → is_nothing item ≡ true
    → KnowsSize item begun s
closed_knows items.Nothing begun s is = tt
closed_knows (items.Entry kind) begun s is = tt
closed_knows items.Timescale begun s is = tt
closed_knows items.Scope begun s is = tt
closed_knows items.Upscope begun s is = tt
closed_knows items.Variable begun s is = tt
closed_knows items.SizedVariable begun s is = absurd (false≢true is)
closed_knows items.EndDefinitions begun s is = tt
closed_knows items.Other begun s is = tt
closed_knows items.Vector begun s is = tt
closed_knows items.RealOrString begun s is = tt

alone : {X : Type 0} (xs : List X) (x y : X) → xs ++ x ∷ [] ≡ y ∷ [] → xs ≡ []
alone [] x y e = refl
alone (z ∷ xs) x y e = absurd (omega (arith, ap length e, length-append (z ∷ xs) (x ∷ [])))

-- the word that a code follows is the only one of its item
only_word : (m : Parser) (begun : List WordOnLine) (w : WordOnLine) (item : OpenItem)
    → IsBegun m (begun ++ w ∷ []) item → IsTrue (awaits_code item) → begun ≡ []
only_word m begun w items.Vector is awaits = alone begun w is.word is.is
only_word m begun w items.RealOrString (text, is) awaits = alone begun w is.word is.is
only_word m begun w items.Nothing is awaits = absurd (false≢true awaits)
only_word m begun w (items.Entry kind) is awaits = absurd (false≢true awaits)
only_word m begun w items.Timescale is awaits = absurd (false≢true awaits)
only_word m begun w items.Scope is awaits = absurd (false≢true awaits)
only_word m begun w items.Upscope is awaits = absurd (false≢true awaits)
only_word m begun w items.Variable is awaits = absurd (false≢true awaits)
only_word m begun w items.SizedVariable is awaits = absurd (false≢true awaits)
only_word m begun w items.EndDefinitions is awaits = absurd (false≢true awaits)
only_word m begun w items.Other is awaits = absurd (false≢true awaits)

-- ---- one item more

pub heard_both : (s : ParseState) (is js : List Item)
    → heard_all s (is ++ js) ≡ heard_all s is ++ heard_all (state_after s is) js
unfolding heard_all
heard_both s [] js = refl
heard_both s (i ∷ is) js =
    ap (λ hs. heard_of s i ++ hs) (heard_both (state_after_item s i) is js)
    ∙ sym (append_assoc (heard_of s i) (heard_all (state_after_item s i) is) _)

heard_one : (s : ParseState) (i : Item) → heard_all s (i ∷ []) ≡ heard_of s i
unfolding heard_all
heard_one s i = append-nil (heard_of s i)

-- ---- one word more

pub word_heard : (limit : ℕ) (later : Asked) (start was now : ChangeListener) (old new : Parser)
    (words_so_far : List WordOnLine) (w : WordOnLine) (h : HasHeardWords limit start was old words_so_far)
    → WordStep later h.taken.state (h.taken.begun ++ w ∷ []) new
    → HearsWord old.item old w.text was.skipped now.skipped
    → ((s : ParseState) → ParserMatches later new s → HasSkipped now.skipped s.declared → now.heard ≡ was.heard
    ++ (if is_nothing new.item then heard_at_end old.item s was.first_word.items w.text else []))
    → (IsTrue (awaits_code new.item) → now.first_word.items ≡ w.text)
    → HasHeardWords limit start now new (words_so_far ++ w ∷ [])
word_heard limit later start was now old new words_so_far w h (goes_on at) lists hears first =
    let r = h.taken in
    let skipped = listed_still h.asked old r.state r.begun w was.skipped now.skipped r.at.0 old.item r.at.1 h.size
    lists later new at h.skipped in
    let same : now.heard ≡ was.heard = hears r.state at.0 skipped
    ∙ ap (λ b. was.heard ++ (if b then heard_at_end old.item r.state was.first_word.items w.text else []))
    (still_open new r.begun w new.item at.1) ∙ append-nil was.heard in
    record {
      asked = later;
      taken = record {
        items = r.items;
        whole = r.whole;
        begun = r.begun ++ w ∷ [];
        state = r.state;
        parts = ap (λ ws. ws ++ w ∷ []) r.parts ∙ append_assoc r.whole r.begun (w ∷ []);
        spelled = r.spelled;
        allowed = r.allowed;
        state_is = r.state_is;
        at = at;
      };
      heard = ap (λ hs. start.heard ++ hs) same ∙ h.heard;
      first = λ awaits. ap (λ ws. word_texts (ws ++ w ∷ [])) (only_word new r.begun w new.item at.1 awaits)
          ∙ ap (λ t. t ∷ []) (sym (first awaits));
      skipped = skipped;
      size = size_known old r.begun w was.skipped now.skipped old.item r.at.1 h.size lists new new.item at.1;
    }
word_heard limit later start was now old new words_so_far w h (ends_item i spelled allows at) lists hears first =
    let r = h.taken in
    let ended = none_open new new.item at.1 in
    let next = state_after_item r.state i in
    let texts : spelling i ≡ word_texts r.begun ++ w.text ∷ [] =
    spelled ∙ map-append (λ (x : WordOnLine). x.text) r.begun (w ∷ []) in
    let skipped = listed_then h.asked old r.state r.begun w was.skipped now.skipped r.at.0 i allows.0 texts old.item
    r.at.1 h.size lists h.skipped in
    let more : now.heard ≡ was.heard ++ heard_of r.state i = hears next at.0 skipped
    ∙ ap (λ b. was.heard ++ (if b then heard_at_end old.item next was.first_word.items w.text else [])) ended
    ∙ ap (λ hs. was.heard ++ hs) (sym (end_is_heard h.asked old r.state r.begun i was.first_word.items w.text r.at.0
    allows.0 texts old.item r.at.1 h.first)) in
    let leads = reaches_both _ _ _ _ _ (record { allowed = r.allowed; state_is = r.state_is })
    (reaches_one _ _ i allows refl) in
    record {
      asked = later;
      taken = record {
        items = r.items ++ i ∷ [];
        whole = words_so_far ++ w ∷ [];
        begun = [];
        state = next;
        parts = sym (append-nil (words_so_far ++ w ∷ []));
        spelled = grind (arith, append_assoc, map-append, spelled_more);
        allowed = leads.allowed;
        state_is = leads.state_is;
        at = at;
      };
      heard = ap (λ hs. start.heard ++ hs) more ∙ sym (append_assoc start.heard was.heard (heard_of r.state i))
          ∙ ap (λ hs. hs ++ heard_of r.state i) h.heard
          ∙ ap (λ hs. heard_all (initial_state limit) r.items ++ hs)
          (ap (λ s. heard_of s i) (sym r.state_is) ∙ sym (heard_one (state_after (initial_state limit) r.items) i))
          ∙ sym (heard_both (initial_state limit) r.items (i ∷ []));
      first = λ awaits. absurd (false≢true (sym (closed_awaits_none new.item ended) ∙ awaits));
      skipped = skipped;
      size = closed_knows new.item [] now.skipped ended;
    }

-- ---- a text more

-- the words of complete words and of a text after them
pub words_of_both : (before text : List ℕ) (line_feeds : ℕ) → ComesBefore before line_feeds
    → words_of (before ++ text) ≡ words_of before ++ words_after line_feeds text
words_of_both before text line_feeds (complete, feeds) =
    let line : 1 + line_feeds_in before ≡ line_feeds + 1 = omega (arith, feeds) in
    words_by_bytes (before ++ text) ∙ words_complete true 1 before text complete
    ∙ (λ i. sym (words_by_bytes before) i
    ++ (ap (λ n. words_from true [] n text) line ∙ sym (after_by_bytes line_feeds text)) i)
