-- A file has one result: its meaning, or its one fault with the line.
use Rattle.std.proofs.Common.{◌≡◌, ℕ, true, not, ◌||◌, List, [], ◌∷◌, ◌++◌, length, Some, None, IsTrue, inl, inr, refl}
use Rattle.std.proofs.Common.{sym, ap, ◌∙◌, append_assoc, arith, drop}
use Rattle.std.specs.Prelude.{nat_lt}
use Rattle.std.proofs.lemmas.Bool.{false≢true, cases_Bool, and_from}
use Rattle.std.proofs.lemmas.Slice.Eq.{bytes_eq-Decides}
use Rattle.std.proofs.lemmas.List.{append-nil, append_cancel_left, drop_at, length-append, length-map, map-append}
use Rattle.vcd_core.specs.Contents.{Contents}
use Rattle.vcd_core.specs.Tests.{first_fault}
use Rattle.vcd_text.specs.declared.fault.Fault.{Fault}
use Rattle.vcd_text.specs.Words.{WordOnLine, words_of}
use Rattle.vcd_text.specs.Items.{Item, other, spelling, spellings, end_word, has_no_end_word, is_other}
use Rattle.vcd_text.specs.inside.reading.Declarations.{is_end_word}
use Rattle.vcd_text.specs.Grammar.{ParseState, fits, item_tests, Allows, AllowsAll, Accepts, state_after}
use Rattle.vcd_text.specs.Grammar.{state_after_item, initial_state, word_texts}
use Rattle.vcd_text.specs.Faults.{GoesOn, WordShows, test_fails, misfits, misfit_fault, ShowsFault}
use Rattle.vcd_text.specs.FoundFaults.{IsFoundFault, word_shows, Stops, too_early}
use Rattle.vcd_text.specs.Meaning.{FileMeans}
use Rattle.vcd_text.proofs.shared.FirstItem.{one_item, one_rest}
use Rattle.vcd_text.proofs.shared.WordOutcomes.{last_word, no_end_more}

-- ---- places in a list

-- two places in one list: the same, or one before the other
data Places {A : Type 0} (a : List A) (v : A) (b : List A) (w : A) : Type 0 where
  same : a ≡ b → v ≡ w → Places a v b w
  sooner : (t : List A) → b ≡ a ++ v ∷ t → Places a v b w
  later : (t : List A) → a ≡ b ++ w ∷ t → Places a v b w

further : {A : Type 0} (x y : A) (a b : List A) (v w : A) → x ≡ y → Places a v b w → Places (x ∷ a) v (y ∷ b) w
further x y a b v w first (same is here) = same (ap (λ z. z ∷ a) first ∙ ap (λ zs. y ∷ zs) is) here
further x y a b v w first (sooner t is) = sooner t (ap (λ z. z ∷ b) (sym first) ∙ ap (λ zs. x ∷ zs) is)
further x y a b v w first (later t is) = later t (ap (λ z. z ∷ a) first ∙ ap (λ zs. y ∷ zs) is)

places : {A : Type 0} (a : List A) (v : A) (xs b : List A) (w : A) (ys : List A) → a ++ v ∷ xs ≡ b ++ w ∷ ys
    → Places a v b w
places [] v xs [] w ys e = same refl (cc e)
places [] v xs (y ∷ b) w ys e = sooner b (ap (λ z. z ∷ b) (let first : v ≡ y = cc e in sym first))
places (x ∷ a) v xs [] w ys e = later a (ap (λ z. z ∷ a) (let first : x ≡ w = cc e in first))
places (x ∷ a) v xs (y ∷ b) w ys e = further x y a b v w (cc e) (places a v xs b w ys (cc e))

same_place : {A : Type 0} (a : List A) (v : A) (xs b : List A) (w : A) (ys : List A) → a ++ v ∷ xs ≡ b ++ w ∷ ys
    → length a ≡ length b → (a ≡ b) × (v ≡ w)
same_place a v xs b w ys e long = grind (arith, places a v xs b w ys e, length-append)

not_none : {A : Type 0} (xs : List A) (x : A) (ys : List A) → [] ≡ xs ++ x ∷ ys → ⊥
not_none xs x ys e = absurd (omega (arith, ap length e, length-append xs (x ∷ ys)))

-- ---- words that no whole item begins

-- no item whose conditions hold begins these words
abbrev pub BeginsNone : ParseState → List (List ℕ) → Type 0
BeginsNone c words = (i : Item) (rest : List (List ℕ)) → Allows c i → words ≡ spelling i ++ rest → ⊥

-- an item that goes on after these words has no whole item in front
pub goes_past : (c : ParseState) (begun : List (List ℕ)) (next : List ℕ) (j : Item) (rest : List (List ℕ))
    → GoesOn c begun next → IsTrue (fits c j) → begun ≡ spelling j ++ rest → ⊥
goes_past c begun next j rest (i, more, f, e) fit is =
    let all : spelling i ++ [] ≡ spelling j ++ (rest ++ next ∷ more) = grind (arith, append-nil, append_assoc) in
    not_none rest next more (one_rest i j [] (rest ++ next ∷ more) (one_item c i j [] _ f fit all) all)

-- an item that goes on later goes on here
goes_through : (c : ParseState) (a begun : List (List ℕ)) (v : List ℕ) (t : List (List ℕ)) (next : List ℕ)
    → begun ≡ a ++ v ∷ t → GoesOn c begun next → GoesOn c a v
goes_through c a begun v t next is (i, more, f, e) = grind (arith, append_assoc)

-- an item does not begin the words up to a misfit
misfit_ends : (c : ParseState) (begun : List (List ℕ)) (word : List ℕ) (more : List (List ℕ)) (next : List ℕ) (j : Item)
    (rest : List (List ℕ)) → GoesOn c begun next → (GoesOn c begun word → ⊥) → IsTrue (fits c j)
    → begun ++ word ∷ more ≡ spelling j ++ rest → ⊥
misfit_ends c begun word more next j rest some none fit e =
    let (first, last, whole) = last_word j in
    let all : begun ++ word ∷ more ≡ first ++ last ∷ rest =
    e ∙ ap (λ ws. ws ++ rest) whole ∙ append_assoc first (last ∷ []) rest in
    elim (places begun word more first last rest all) [
      | same is here ↦ grind arith
      | sooner t is ↦ grind (arith, append_assoc)
      | later t is ↦ goes_past c begun next j t some fit
          (is ∙ sym (append_assoc first (last ∷ []) t) ∙ ap (λ ws. ws ++ t) (sym whole))
    ]

-- an item that begins the words up to a fault ends there, and has the fault
shown_item : (c : ParseState) (begun : List (List ℕ)) (word : List ℕ) (more : List (List ℕ)) (fault : Fault) (j : Item)
    (rest : List (List ℕ)) → WordShows c begun word fault → IsTrue (fits c j)
    → begun ++ word ∷ more ≡ spelling j ++ rest
    → (spelling j ≡ begun ++ word ∷ []) × (first_fault (item_tests c j) ≡ Some fault)
shown_item c begun word more fault j rest (test_fails i f spelled h) fit e =
    let one : i ≡ j = one_item c i j more rest f fit
    (ap (λ ws. ws ++ more) spelled ∙ append_assoc begun (word ∷ []) more ∙ e) in
    (grind arith)
shown_item c begun word more fault j rest (misfits next some none is) fit e = search (arith, misfit_ends)

shown_begins_none : (c : ParseState) (begun : List (List ℕ)) (word : List ℕ) (more : List (List ℕ)) (fault : Fault)
    → WordShows c begun word fault → BeginsNone c (begun ++ word ∷ more)
shown_begins_none c begun word more fault shown i rest allows e =
    let both : None ≡ Some fault = sym allows.1 ∙ (shown_item c begun word more fault i rest shown allows.0 e).1 in
    absurd (cc both)

-- no word of another command shows a fault
pub passed_over : (c : ParseState) (keyword : List ℕ) (words : List (List ℕ)) (word : List ℕ) (fault : Fault)
    → IsTrue (is_other c.in_body keyword) → IsTrue (has_no_end_word words)
    → WordShows c (keyword ∷ words) word fault → ⊥
passed_over c keyword words word fault is no_end shown =
    elim (cases_Bool (is_end_word word)) [
      | inl end ↦ fails (shown_item c _ word [] fault (other keyword words) [] shown (and_from _ _ is no_end) (grind
          (arith, bytes_eq-Decides, append-nil)))
      | inr isnt ↦ fails (shown_item c _ word (end_word ∷ []) fault (other keyword (words ++ word ∷ [])) [] shown
          (and_from _ _ is (no_end_more words word no_end isnt)) (grind (arith, append_assoc, append-nil)))
    ]
  where
    fails : {A : Type 0} → A × (None ≡ Some fault) → ⊥
    fails both = absurd (cc (both.1))

-- ---- one fault

by_test : (c : ParseState) (a : List (List ℕ)) (v : List ℕ) (xs b : List (List ℕ)) (w : List ℕ) (ys : List (List ℕ))
    (f g : Fault) (i : Item) → IsTrue (fits c i) → spelling i ≡ a ++ v ∷ [] → first_fault (item_tests c i) ≡ Some f
    → WordShows c b w g → a ++ v ∷ xs ≡ b ++ w ∷ ys → (a ≡ b) × (v ≡ w) × (f ≡ g)
by_test c a v xs b w ys f g i fit spelled h shown e =
    let found = shown_item c b w ys g i xs shown fit
    (sym e ∙ sym (append_assoc a (v ∷ []) xs) ∙ ap (λ ws. ws ++ xs) (sym spelled)) in
    let place = same_place a v [] b w [] (sym spelled ∙ found.0)
    (omega (arith, ap length (sym spelled ∙ found.0), length-append a (v ∷ []), length-append b (w ∷ []))) in
    let faults : Some f ≡ Some g = sym h ∙ found.1 in
    (place.0, place.1, cc faults)

by_misfit : (c : ParseState) (a : List (List ℕ)) (v : List ℕ) (b : List (List ℕ)) (w next after : List ℕ) (f g : Fault)
    → GoesOn c a next → (GoesOn c a v → ⊥) → f ≡ misfit_fault c.in_body a v → GoesOn c b after → (GoesOn c b w → ⊥)
    → g ≡ misfit_fault c.in_body b w → Places a v b w → (a ≡ b) × (v ≡ w) × (f ≡ g)
by_misfit c a v b w next after f g p none is q ends its (same begun here) = grind arith
by_misfit c a v b w next after f g p none is q ends its (sooner t more) = search (arith, goes_through)
by_misfit c a v b w next after f g p none is q ends its (later t more) = search (arith, goes_through)

one_place : (c : ParseState) (a : List (List ℕ)) (v : List ℕ) (xs b : List (List ℕ)) (w : List ℕ) (ys : List (List ℕ))
    (f g : Fault) → WordShows c a v f → WordShows c b w g → a ++ v ∷ xs ≡ b ++ w ∷ ys → (a ≡ b) × (v ≡ w) × (f ≡ g)
one_place c a v xs b w ys f g (test_fails i fit spelled h) shown e = by_test c a v xs b w ys f g i fit spelled h shown e
one_place c a v xs b w ys f g (misfits next p none is) (test_fails i fit spelled h) e =
    let swapped = by_test c b w ys a v xs g f i fit spelled h (misfits next p none is) (sym e) in
    (sym swapped.0, sym swapped.1, sym swapped.2)
one_place c a v xs b w ys f g (misfits next p none is) (misfits after q ends its) e =
    by_misfit c a v b w next after f g p none is q ends its (places a v xs b w ys e)

-- ---- one reading

-- two readings of the same words have the same items and end at the same word
same_end : (c : ParseState) (is js : List Item) (r s : List (List ℕ)) → spellings is ++ r ≡ spellings js ++ s
    → AllowsAll c is → AllowsAll c js → BeginsNone (state_after c is) r → BeginsNone (state_after c js) s
    → (is ≡ js) × (r ≡ s)
same_end c [] [] r s e a b p q = (refl, e)
same_end c [] (j ∷ js) r s e a b p q = grind (arith, append_assoc)
same_end c (i ∷ is) [] r s e a b p q = grind (arith, append_assoc)
same_end c (i ∷ is) (j ∷ js) r s e a b p q =
    let all : spelling i ++ (spellings is ++ r) ≡ spelling j ++ (spellings js ++ s) = grind (arith, append_assoc) in
    let one : i ≡ j = one_item c i j _ _ a.0.0 b.0.0 all in
    let rest = one_rest i j _ _ one all in
    let more = same_end (state_after_item c i) is js r s rest a.1 (rw one b.1) p (rw one q) in
    (ap (λ x. x ∷ is) one ∙ ap (λ x. j ∷ x) more.0, more.1)

-- the words are read up to a rest that does not begin with a whole item
record Ends (limit : ℕ) (words : List (List ℕ)) (state : ParseState) (rest : List (List ℕ)) : Type 0 where
  items : List Item
  spelled : words ≡ spellings items ++ rest
  allowed : AllowsAll (initial_state limit) items
  state_is : state_after (initial_state limit) items ≡ state
  begins_none : BeginsNone state rest

one_end : (limit : ℕ) (words : List (List ℕ)) (c d : ParseState) (r s : List (List ℕ)) → Ends limit words c r
    → Ends limit words d s → (c ≡ d) × (r ≡ s)
one_end limit words c d r s a b = grind (arith, same_end)

accepts_ends : (limit : ℕ) (words : List WordOnLine) (state : ParseState) → Accepts limit words state →
    Ends limit (word_texts words) state []
accepts_ends limit words state a = grind (arith, append-nil)

stops_ends : (limit : ℕ) (words : List WordOnLine) (s : Stops limit words)
    → Ends limit (word_texts words) (state_after (initial_state limit) s.items) s.begun
stops_ends limit words s = record {
  items = s.items;
  spelled = s.spelled;
  allowed = s.allowed;
  state_is = refl;
  begins_none = λ i rest allows is. goes_past (state_after (initial_state limit) s.items) s.begun s.unfinished.1.0 i
      rest s.unfinished.1.1 allows.0 is;
}

refuses_ends : (limit : ℕ) (words : List WordOnLine) (line : ℕ) (fault : Fault)
    (r : ShowsFault limit words line fault)
    → Ends limit (word_texts words) (state_after (initial_state limit) r.items)
    (word_texts r.begun ++ r.word.text ∷ word_texts r.more)
refuses_ends limit words line fault r = record {
  items = r.items;
  spelled = grind (arith, map-append);
  allowed = r.allowed;
  state_is = refl;
  begins_none = shown_begins_none _ _ _ _ _ r.decided;
}

-- two rests of one list that are equally long are the same
same_rest : (words a b r s : List WordOnLine) → words ≡ a ++ r → words ≡ b ++ s → length r ≡ length s → r ≡ s
same_rest words a b r s p q e =
    let n : length a ≡ length b = omega (arith, length-append a r, length-append b s, ap length (sym p ∙ q), e) in
    sym (drop_at a r (length a) refl) ∙ ap (drop (length a)) (sym p ∙ q) ∙ drop_at b s (length a) (sym n)

-- ---- one answer for the words

text_count : (words more : List WordOnLine) (w : WordOnLine)
    → length (word_texts words ++ w.text ∷ word_texts more) ≡ length (words ++ w ∷ more)
text_count words more w = ap length (sym (map-append (λ (v : WordOnLine). v.text) words (w ∷ more))) ∙ length-map
    (words ++ w ∷ more) (λ (v : WordOnLine). v.text)

pub one_fault : (limit : ℕ) (words : List WordOnLine) (line other_line : ℕ) (fault other_fault : Fault)
    → ShowsFault limit words line fault → ShowsFault limit words other_line other_fault
    → (line ≡ other_line) × (fault ≡ other_fault)
one_fault limit words line other_line fault other_fault p q =
    let e = one_end _ _ _ _ _ _ (refuses_ends _ _ _ _ p) (refuses_ends _ _ _ _ q) in
    let place = one_place _ _ p.word.text _ _ q.word.text _ fault other_fault p.decided (rw e.0 q.decided) e.1 in
    let rests : p.begun ++ p.word ∷ p.more ≡ q.begun ++ q.word ∷ q.more = same_rest words p.whole q.whole _ _ p.parts
    q.parts (grind (arith, text_count)) in
    let here = same_place _ _ _ _ _ _ rests (grind (arith, length-map)) in (grind arith)

pub accepted-not_refused : (limit : ℕ) (words : List WordOnLine) (state : ParseState) (line : ℕ) (fault : Fault)
    → Accepts limit words state → ShowsFault limit words line fault → ⊥
accepted-not_refused limit words state line fault p q = not_none (word_texts q.begun) _ _ (one_end _ _ _ _ _ _
    (accepts_ends _ _ _ p) (refuses_ends _ _ _ _ q)).1

pub accepted-not_stopped : (limit : ℕ) (words : List WordOnLine) (state : ParseState) → Accepts limit words state
    → Stops limit words → ⊥
accepted-not_stopped limit words state p q =
    let e = one_end limit (word_texts words) _ _ _ _ (accepts_ends limit words state p) (stops_ends limit words q) in
    let due : (not state.in_body || nat_lt 0 (length {A = List ℕ} [])) ≡ true = grind arith in
    let none : (not true || nat_lt 0 (length {A = List ℕ} [])) ≡ true =
    ap (λ b. not b || nat_lt 0 (length {A = List ℕ} [])) (sym p.definitions_ended) ∙ due in
    absurd (false≢true none)

pub stopped-not_refused : (limit : ℕ) (words : List WordOnLine) (line : ℕ) (fault : Fault) → Stops limit words
    → ShowsFault limit words line fault → ⊥
stopped-not_refused limit words line fault p q =
    let e = one_end _ _ _ _ _ _ (stops_ends _ _ p) (refuses_ends _ _ _ _ q) in
    let (next, (i, more, fit, spelled)) = (rw e.0 at p.unfinished).1 in
    let begun = word_texts q.begun in
    let all : spelling i ≡ begun ++ q.word.text ∷ (word_texts q.more ++ next ∷ more) = grind (arith, append_assoc) in
    let ends = shown_item _ _ _ _ _ _ [] q.decided fit (sym all ∙ sym (append-nil (spelling i))) in
    let none = append_cancel_left begun (q.word.text ∷ []) (q.word.text ∷ (word_texts q.more ++ next ∷ more))
    (sym ends.0 ∙ all) in
    not_none (word_texts q.more) next more (cc none)

-- ---- one answer for a file

pub one_meaning : (limit : ℕ) (bytes : List ℕ) (c d : Contents) (m n : ℕ) → FileMeans limit bytes c m
    → FileMeans limit bytes d n → (c ≡ d) × (m ≡ n)
one_meaning limit bytes c d m n p q =
    let e = (one_end limit (word_texts (words_of bytes)) p.state q.state [] []
    (accepts_ends limit (words_of bytes) p.state p.accepted)
    (accepts_ends limit (words_of bytes) q.state q.accepted)).0 in
    (grind arith)

pub one_found_fault : (limit : ℕ) (bytes : List ℕ) (line other_line : ℕ) (fault other_fault : Fault) →
    IsFoundFault limit bytes line fault
    → IsFoundFault limit bytes other_line other_fault → (line ≡ other_line) × (fault ≡ other_fault)
one_found_fault limit bytes line other_line fault other_fault (word_shows p) (word_shows q) =
    one_fault limit (words_of bytes) line other_line fault other_fault p q
one_found_fault limit bytes line other_line fault other_fault (word_shows p) (too_early q l f) =
    absurd (stopped-not_refused limit (words_of bytes) line fault q p)
one_found_fault limit bytes line other_line fault other_fault (too_early p l f) (word_shows q) =
    absurd (stopped-not_refused limit (words_of bytes) other_line other_fault p q)
one_found_fault limit bytes line other_line fault other_fault (too_early p l f) (too_early q m g) = grind arith

pub meaning-no_found_fault : (limit : ℕ) (bytes : List ℕ) (c : Contents) (n line : ℕ) (fault : Fault)
    → FileMeans limit bytes c n → IsFoundFault limit bytes line fault → ⊥
meaning-no_found_fault limit bytes c n line fault p (word_shows q) = search (arith, accepted-not_refused)
meaning-no_found_fault limit bytes c n line fault p (too_early q l f) = search (arith, accepted-not_stopped)
