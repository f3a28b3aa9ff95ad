-- The walk over a text finds the words between its white space, each on its line.
use Rattle.std.proofs.Common.{◌≡◌, ◌⊎◌, inl, inr, ℕ, ◌+◌, ◌-◌, ◌≤◌, ◌==◌, Bool, true, false, not, List, [], ◌∷◌, ◌++◌}
use Rattle.std.proofs.Common.{length, map, take, get_or, refl, sym, ap, ◌∙◌, arith, cond, append_assoc, length-append}
use Rattle.std.proofs.Common.{suc, ap₂}
use Rattle.std.specs.List.{list_all, filter, flat_map, enumerate_from, slice_split, onto_first, before_last, suffix_len}
use Rattle.std.proofs.lemmas.Bool.{cases_Bool, and_parts, not-true, ne_eqb, eqb-true, eqb-false}
use Rattle.std.proofs.lemmas.List.{append-nil, map-append, get_or-append_right}
use Rattle.std.proofs.lemmas.List.Splits.{slice_split-cons_yes, slice_split-cons_no}
use Rattle.std.proofs.lemmas.List.Sums.{suffix_len_is, AllPass-from_list_all}
use Rattle.std.proofs.lemmas.List.Folds.{list_all-append}
use Rattle.std.proofs.Math.Seq.{get_or-append_seam, take-append_seam}
use Rattle.vcd_core.specs.Word.{is_white_space}
use Rattle.vcd_text.specs.Words.{WordOnLine, word_on, words_in, words_of, complete_words}
use Rattle.vcd_text.specs.LentWords.{words_after}
use Rattle.vcd_text.specs.inside.Words.{line_after, word_of, words_from}
use Rattle.vcd_text.specs.Grammar.{word_texts}
use Rattle.vcd_text.proofs.shared.WordsInTurn.{by_test, no_space_is_no_feed, word_part, same_line, is_run_text}
use Rattle.vcd_text.proofs.shared.WordsInTurn.{words_are_few, no_word, word_split, line_feeds_after, runs_from}
use Rattle.vcd_text.proofs.shared.WordsInTurn.{texts_pass}

-- ---- parts

-- the part that follows goes on with bytes at which none ends
part_goes_on : (p : ℕ → Bool) (xs rest first : List ℕ) (parts : List (List ℕ))
    → list_all (λ b. not (p b)) xs ≡ true → slice_split p rest ≡ first ∷ parts
    → slice_split p (xs ++ rest) ≡ (xs ++ first) ∷ parts
part_goes_on p [] rest first parts none is = is
part_goes_on p (x ∷ xs) rest first parts none is =
    let q = and_parts (not (p x)) (list_all (λ b. not (p b)) xs) none in
    slice_split-cons_no p x _ (not-true (p x) q.0) ∙ ap (onto_first x) (part_goes_on p xs rest first parts q.1 is)

part_ends : (p : ℕ → Bool) (xs : List ℕ) (b : ℕ) (bs : List ℕ) → list_all (λ b. not (p b)) xs ≡ true
    → p b ≡ true → slice_split p (xs ++ b ∷ bs) ≡ xs ∷ slice_split p bs
part_ends p xs b bs none ends =
    part_goes_on p xs (b ∷ bs) [] (slice_split p bs) none (slice_split-cons_yes p b bs ends)
    ∙ ap (λ part. part ∷ slice_split p bs) (append-nil xs)

first_part : (p : ℕ → Bool) (xs : List ℕ)
    → (first : List ℕ) × (parts : List (List ℕ)) × (slice_split p xs ≡ first ∷ parts)
first_part p [] = ([], [], refl)
first_part p (x ∷ xs) =
    let rest = first_part p xs in
    by_test (λ t. (first : List ℕ) × (parts : List (List ℕ))
    × (cond t ([] ∷ slice_split p xs) (onto_first x (slice_split p xs)) ≡ first ∷ parts)) (p x)
    (λ _. ([], slice_split p xs, refl))
    (λ _. (x ∷ rest.0, rest.1, ap (onto_first x) rest.2))

-- ---- one line

-- the words among parts
abbrev words_among : List (List ℕ) → List (List ℕ)
words_among parts = filter (λ part. not (length part == 0)) parts

-- words on one line
abbrev on_line : ℕ → List (List ℕ) → List WordOnLine
on_line line words = map (λ word. word_on word line) words

-- the words of lines, the first with this number
abbrev words_of_lines : ℕ → List (List ℕ) → List WordOnLine
words_of_lines line lines =
    flat_map (λ p. map (λ word. word_on word p.0) (words_in p.1)) (enumerate_from line lines)

no_feeds : (xs : List ℕ) → list_all (λ b. not (is_white_space b)) xs ≡ true → list_all (λ b. not (b == 10)) xs ≡ true
no_feeds [] none = refl
no_feeds (x ∷ xs) none =
    let q = and_parts (not (is_white_space x)) (list_all (λ b. not (is_white_space b)) xs) none in
    rw (no_space_is_no_feed x (not-true (is_white_space x) q.0)) (no_feeds xs q.1)

-- a part is a word, if it is not empty
part_first : (line : ℕ) (begun : List ℕ) (parts : List (List ℕ))
    → on_line line (words_among (begun ∷ parts)) ≡ word_of begun line ++ on_line line (words_among parts)
part_first line [] parts = refl
part_first line (x ∷ xs) parts = rw (ne_eqb (length (x ∷ xs)) 0 (λ none. absurd (omega arith))) refl

last_word : (line : ℕ) (begun : List ℕ) → list_all (λ b. not (is_white_space b)) begun ≡ true
    → on_line line (words_in begun) ≡ word_of begun line
last_word line begun none =
    ap (λ text. on_line line (words_in text)) (sym (append-nil begun)) ∙ ap (λ parts. on_line line (words_among parts))
    (part_goes_on _ begun [] [] [] none refl) ∙ ap (λ part. on_line line (words_among (part ∷ []))) (append-nil begun) ∙
    part_first line begun [] ∙ append-nil (word_of begun line)

word_ends : (line : ℕ) (begun : List ℕ) (b : ℕ) (bs : List ℕ)
    → list_all (λ b. not (is_white_space b)) begun ≡ true → is_white_space b ≡ true
    → on_line line (words_in (begun ++ b ∷ bs)) ≡ word_of begun line ++ on_line line (words_in bs)
word_ends line begun b bs none space =
    ap (λ parts. on_line line (words_among parts)) (part_ends is_white_space begun b bs none space)
    ∙ part_first line begun (slice_split is_white_space bs)

-- ---- all lines

walk_at_feed : (line : ℕ) (begun : List ℕ) (b : ℕ) (bs : List ℕ)
    → list_all (λ b. not (is_white_space b)) begun ≡ true → (b == 10) ≡ true
    → words_from true [] (line + 1) bs ≡ words_of_lines (line + 1) (slice_split (λ b. b == 10) bs)
    → word_of begun line ++ words_from true [] (line + 1) bs
    ≡ words_of_lines line (slice_split (λ b. b == 10) (begun ++ b ∷ bs))
walk_at_feed line begun b bs none feed later =
    ap (λ ws. word_of begun line ++ ws) later
    ∙ ap (λ ws. ws ++ words_of_lines (line + 1) (slice_split (λ b. b == 10) bs)) (sym (last_word line begun none))
    ∙ ap (words_of_lines line) (sym (part_ends (λ b. b == 10) begun b bs (no_feeds begun none) feed))

walk_at_space : (line : ℕ) (begun : List ℕ) (b : ℕ) (bs : List ℕ)
    → list_all (λ b. not (is_white_space b)) begun ≡ true → is_white_space b ≡ true
    → words_from true [] line bs ≡ words_of_lines line (slice_split (λ b. b == 10) bs) → (b == 10) ≡ false
    → word_of begun line ++ words_from true [] line bs
    ≡ words_of_lines line (slice_split (λ b. b == 10) (begun ++ b ∷ bs))
walk_at_space line begun b bs none space later other =
    let found = first_part (λ b. b == 10) bs in
    let first : List ℕ = found.0 in
    let parts : List (List ℕ) = found.1 in
    ap (λ ws. word_of begun line ++ ws) (later ∙ ap (words_of_lines line) found.2) ∙ sym (append_assoc (word_of begun
    line) (on_line line (words_in first)) (words_of_lines (line + 1) parts)) ∙ ap (λ ws. ws ++ words_of_lines (line + 1)
    parts) (sym (word_ends line begun b first none space)) ∙ ap (words_of_lines line) (sym (part_goes_on (λ b. b == 10)
    begun (b ∷ bs) (b ∷ first) parts (no_feeds begun none) (cc)))

walk_finds : (line : ℕ) (begun bytes : List ℕ) → list_all (λ b. not (is_white_space b)) begun ≡ true
    → words_from true begun line bytes ≡ words_of_lines line (slice_split (λ b. b == 10) (begun ++ bytes))
unfolding words_from
walk_finds line begun [] none =
    sym (last_word line begun none) ∙ sym (append-nil (on_line line (words_in begun)))
    ∙ ap (λ text. on_line line (words_in text) ++ []) (sym (append-nil begun))
    ∙ ap (words_of_lines line) (sym (part_goes_on (λ b. b == 10) begun [] [] [] (no_feeds begun none) refl))
walk_finds line begun (b ∷ bs) none =
    by_test (λ t. cond t (word_of begun line) [] ++ words_from true (cond t [] (begun ++ b ∷ [])) (line_after b line) bs
    ≡ words_of_lines line (slice_split (λ b. b == 10) (begun ++ b ∷ bs))) _ (λ space. by_test (λ t. word_of begun line
    ++ words_from true [] (cond t (line + 1) line) bs ≡ words_of_lines line (slice_split (λ b. b == 10) (begun ++ b ∷
    bs))) _ (λ feed. walk_at_feed line begun b bs none feed (walk_finds (line + 1) [] bs refl)) (walk_at_space line
    begun b bs none space (walk_finds line [] bs refl))) (λ isnt. ap (λ n. words_from true (begun ++ b ∷ []) n bs)
    (same_line b _ isnt) ∙ walk_finds line (begun ++ b ∷ []) bs (grind (arith, list_all-append)) ∙ ap (λ text.
    words_of_lines line (slice_split (λ b. b == 10) text)) (append_assoc begun (b ∷ []) bs))

pub words_by_bytes : (bytes : List ℕ) → words_of bytes ≡ words_from true [] 1 bytes
unfolding words_of
words_by_bytes bytes = sym (walk_finds 1 [] bytes refl)

-- ---- after some line feeds

-- a word so many lines later
abbrev later : ℕ → WordOnLine → WordOnLine
later n p = word_on p.text (n + p.line)

word_later : (n : ℕ) (begun : List ℕ) (line : ℕ) → map (later n) (word_of begun line) ≡ word_of begun (n + line)
word_later n [] line = refl
word_later n (b ∷ bs) line = refl

line_later : (n b line : ℕ) → n + line_after b line ≡ line_after b (n + line)
line_later n b line = by_test (λ t. n + cond t (line + 1) line ≡ cond t ((n + line) + 1) (n + line)) (b == 10)
    (λ _. omega arith) (λ _. refl)

walk_later : (n : ℕ) (begun : List ℕ) (line : ℕ) (bytes : List ℕ)
    → map (later n) (words_from true begun line bytes) ≡ words_from true begun (n + line) bytes
unfolding words_from
walk_later n begun line [] = word_later n begun line
walk_later n begun line (b ∷ bs) =
    by_test (λ t. map (later n) (cond t (word_of begun line) [] ++ words_from true (cond t [] (begun ++ b ∷ []))
    (line_after b line) bs) ≡ cond t (word_of begun (n + line)) [] ++ words_from true (cond t [] (begun ++ b ∷ []))
    (line_after b (n + line)) bs) (is_white_space b) (λ _. map-append (later n) (word_of begun line) _ ∙ ap₂ (λ ws vs.
    ws ++ vs) (word_later n begun line) (walk_later n [] (line_after b line) bs ∙ ap (λ l. words_from true [] l bs)
    (line_later n b line))) (λ _. walk_later n (begun ++ b ∷ []) (line_after b line) bs ∙ ap (λ l. words_from true
    (begun ++ b ∷ []) l bs) (line_later n b line))

pub after_by_bytes : (n : ℕ) (bytes : List ℕ) → words_after n bytes ≡ words_from true [] (n + 1) bytes
after_by_bytes n bytes = ap (map (later n)) (words_by_bytes bytes) ∙ walk_later n [] 1 bytes

-- ---- the complete words

-- of bytes after the last white space no word counts
up_to_space : (line : ℕ) (begun xs : List ℕ) (b : ℕ) (after : List ℕ) → is_white_space b ≡ true
    → list_all (λ b. not (is_white_space b)) after ≡ true
    → words_from true begun line xs ≡ words_from false begun line (xs ++ b ∷ after)
unfolding words_from
up_to_space line begun [] b after space none =
    sym (append-nil (word_of begun line)) ∙ ap (λ ws. word_of begun line ++ ws) (sym (word_part _ after none)) ∙ ap (λ
    t. cond t (word_of begun line) [] ++ words_from false (cond t [] (begun ++ b ∷ [])) (line_after b line) after) (sym
    space)
up_to_space line begun (x ∷ xs) b after space none =
    ap (λ ws. cond (is_white_space x) (word_of begun line) [] ++ ws)
    (up_to_space (line_after x line) (cond (is_white_space x) [] (begun ++ x ∷ [])) xs b after space none)

-- the last white space of bytes, with what is before and after it
pub record LastSpace (bytes : List ℕ) : Type 0 where
  pub before : List ℕ
  pub space : ℕ
  pub after : List ℕ
  pub bytes_are : bytes ≡ before ++ space ∷ after
  pub is_space : is_white_space space ≡ true
  pub no_more : list_all (λ b. not (is_white_space b)) after ≡ true

last_space : (bytes : List ℕ) → (list_all (λ b. not (is_white_space b)) bytes ≡ true) ⊎ LastSpace bytes
last_space [] = inl refl
last_space (x ∷ xs) = elim (last_space xs) [
  | inr s ↦ inr (record {
    before = x ∷ s.before;
    space = s.space;
    after = s.after;
    bytes_are = ap (λ l. x ∷ l) s.bytes_are;
    is_space = s.is_space;
    no_more = s.no_more;
  })
  | inl none ↦ elim (cases_Bool (is_white_space x)) [
    | inl space ↦ inr (record {
      before = [];
      space = x;
      after = xs;
      bytes_are = refl;
      is_space = space;
      no_more = none;
    })
    | inr isnt ↦ inl (rw isnt none)
  ]
]

-- what stands before it
before_it : (bytes : List ℕ) (s : LastSpace bytes) → before_last is_white_space bytes ≡ s.before
before_it bytes s =
    let whole : List ℕ = s.before ++ s.space ∷ s.after in
    let size : length whole ≡ length s.before + suc (length s.after) = length-append s.before (s.space ∷ s.after) in
    let run : suffix_len (λ b. not (is_white_space b)) whole ≡ length whole - (length s.before + 1) =
    suffix_len_is _ _ _ _ (omega (arith, size)) (λ k from upto. ap (λ b. not (is_white_space b)) (get_or-append_right
    s.before _ _ k 0 refl (omega arith) ∙ ap (λ n. get_or (s.space ∷ s.after) n 0) {y = suc (k - length s.before - 1)}
    (omega arith)) ∙ AllPass-from_list_all _ s.after s.no_more (k - length s.before - 1) 0 (omega (arith, size))) (λ _.
    ap (λ n. not (is_white_space (get_or whole n 0))) {y = length s.before} (omega arith) ∙ ap (λ b. not (is_white_space
    b)) (get_or-append_seam s.before s.space s.after 0) ∙ ap not s.is_space) in
    ap (before_last is_white_space) s.bytes_are
    ∙ ap (λ n. take n whole) {y = length s.before} (omega (arith, size, run))
    ∙ take-append_seam s.before (s.space ∷ s.after)

none_before : (bytes : List ℕ) → list_all (λ b. not (is_white_space b)) bytes ≡ true
    → before_last is_white_space bytes ≡ []
none_before bytes none =
    let run : suffix_len (λ b. not (is_white_space b)) bytes ≡ length bytes - 0 =
    suffix_len_is _ _ _ _ (omega arith) (λ k _ upto. AllPass-from_list_all _ _ none k 0 upto) (λ some. absurd (omega
    arith)) in
    ap (λ n. take n bytes) {y = 0} (omega (arith, run))

pub complete_by_bytes : (bytes : List ℕ) → complete_words bytes ≡ words_from false [] 1 bytes
unfolding complete_words words_from
complete_by_bytes bytes = elim (last_space _) [
  | inl none ↦ ap words_of (none_before bytes none) ∙ words_by_bytes [] ∙ sym (word_part 1 bytes none)
  | inr s ↦ ap words_of (before_it _ s) ∙ words_by_bytes s.before ∙ up_to_space 1 [] s.before s.space s.after s.is_space
      s.no_more ∙ ap (words_from false [] 1) (sym s.bytes_are)
]

-- ---- what is known of the walk

pub texts_of_file_are_runs : (bytes : List ℕ) → list_all is_run_text (word_texts (words_of bytes)) ≡ true
texts_of_file_are_runs bytes =
    ap (λ words. list_all is_run_text (word_texts words)) (words_by_bytes bytes)
    ∙ search (arith, texts_pass, runs_from)

pub after_are_few : (n : ℕ) (bytes : List ℕ) → length (words_after n bytes) ≤ length bytes
after_are_few n bytes =
    omega (arith, ap (length {A = WordOnLine}) (after_by_bytes n bytes), words_are_few true (n + 1) bytes)

pub complete_are_few : (bytes : List ℕ) → length (complete_words bytes) ≤ length bytes
complete_are_few bytes =
    omega (arith, ap (length {A = WordOnLine}) (complete_by_bytes bytes), words_are_few false 1 bytes)

pub ruleset next_word_steps = (eqb-true, eqb-false, after_by_bytes, no_word, word_split, line_feeds_after)
