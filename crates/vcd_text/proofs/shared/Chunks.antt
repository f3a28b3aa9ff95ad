-- A file in chunks: the progress after one more chunk, and the result if no more comes.
use Rattle.std.proofs.Common.{◌≡◌, inl, inr, ℕ, zero, suc, ◌+◌, ◌-◌, ◌<◌, ◌≤◌, Bool, true}
use Rattle.std.proofs.Common.{false, not, cond}
use Rattle.std.proofs.Common.{List, [], ◌∷◌, ◌++◌, length, take, drop, get_or, Option, Some, None}
use Rattle.std.proofs.Common.{IfSome, refl, sym}
use Rattle.std.proofs.Common.{ap, ap₂, ◌∙◌, subst, arith, append_assoc, length-append}
use Rattle.std.specs.Prelude.{◌^◌, IsTrue, IsFalse}
use Rattle.std.specs.List.{list_all}
use Rattle.std.specs.Io.KnownBytes.{Consumes, Keeps, IsAtEnd}
use Rattle.std.proofs.KnownBytes.{Consumes-trans}
use Rattle.std.proofs.Math.Seq.{take-append-add, take-append_seam}
use Rattle.std.proofs.lemmas.List.{append-nil, take-append-drop}
use Rattle.std.proofs.lemmas.List.Sums.{count_by-le-length}
use Rattle.std.proofs.lemmas.Bool.{cases_lt}
use Rattle.vcd_core.specs.Word.{is_white_space}
use Rattle.vcd_text.specs.declared.fault.Fault.TheVariants as faults
use Rattle.vcd_text.specs.declared.fault.ReadError.{ReadError}
use Rattle.vcd_text.specs.declared.reading.file_reader.FileReader.{FileReader}
use Rattle.vcd_text.specs.declared.reading.listener.Listener as listeners
use Rattle.vcd_text.specs.declared.reading.parser.Parser.{Parser}
use Rattle.vcd_text.specs.Words.{WordOnLine}
use Rattle.vcd_text.specs.inside.Words.{line_after, word_of, words_from}
use Rattle.vcd_text.specs.Words.{words_of, complete_words}
use Rattle.vcd_text.specs.LentWords.{words_after}
use Rattle.vcd_text.specs.FoundFaults.{word_shows}
use Rattle.vcd_text.specs.Refusals.{IsRefusal, has_fault, no_memory}
use Rattle.vcd_text.specs.inside.Words.{has_complete_words}
use Rattle.vcd_text.specs.LineFeeds.{line_feeds_in}
use Rattle.vcd_text.specs.inside.reading.Part.{Asked}
use Rattle.vcd_text.specs.inside.reading.Parser.{HasTakenWords, RefusesWords}
use Rattle.vcd_text.specs.inside.reading.FileReader.{HasTaken, HasUntakenChunk, HasReadBytes, RefusesFile}
use Rattle.vcd_text.specs.inside.reading.FileReader.{HasHeard, FileReaderMatches}
use Rattle.vcd_text.proofs.reading.file_reader.PrefixResults.{larger, failing}
use Rattle.vcd_text.proofs.shared.NoWordLeft.{no_fault}
use Rattle.vcd_text.proofs.shared.FaultOfPrefix.{longer_prefix_fault}
use Rattle.vcd_text.proofs.shared.FoundFault.{file_fault, prefix_fault_stays}
use Rattle.vcd_text.proofs.shared.WordsInTurn.{line_feeds_of_both, no_line_feeds, word_part}
use Rattle.vcd_text.proofs.shared.WordsByBytes.{after_by_bytes, words_by_bytes, complete_by_bytes}
use Rattle.vcd_text.specs.inside.reading.ReadBuffer.{ReadBufferView}
use Rattle.std.proofs.lemmas.Grind.{common_steps}

-- ---- line feeds

line_one : (b line : ℕ) → line_after b line ≡ line + line_feeds_in (b ∷ [])
line_one b line = grind arith

line_more : (b line : ℕ) (bs : List ℕ) → line_after b line + line_feeds_in bs ≡ line + line_feeds_in (b ∷ bs)
line_more b line bs =
    let all : line_feeds_in (b ∷ bs) ≡ line_feeds_in (b ∷ []) + line_feeds_in bs = line_feeds_of_both (b ∷ []) bs in
    omega (arith, all, line_one b line)

-- ---- text up to white space

-- a text that ends in white space after its first n bytes
pub complete_at : (n : ℕ) (bytes : List ℕ) → n < length bytes → is_white_space (get_or bytes n 0) ≡ true
    → has_complete_words (take (suc n) bytes) ≡ true
complete_at zero [] within space = absurd (omega arith)
complete_at zero (b ∷ bs) within space = space
complete_at (suc n) [] within space = absurd (omega arith)
complete_at (suc n) (b ∷ []) within space = absurd (omega arith)
complete_at (suc n) (b ∷ c ∷ bs) within space = complete_at n (c ∷ bs) (omega arith) space

-- the words of a text of complete words, and those after it
complete_first : (end_counts : Bool) (begun : List ℕ) (line b : ℕ) (bs rest : List ℕ)
    → has_complete_words (b ∷ bs) ≡ true
    → words_from end_counts begun line ((b ∷ bs) ++ rest) ≡ words_from true begun line (b ∷ bs)
    ++ words_from end_counts [] (line + line_feeds_in (b ∷ bs)) rest
unfolding words_from
complete_first end_counts begun line b [] rest complete = grind (arith, line_one, append-nil)
complete_first end_counts begun line b (c ∷ bs) rest complete =
    let ended : List WordOnLine = cond (is_white_space b) (word_of begun line) [] in
    let next : List ℕ = cond (is_white_space b) [] (begun ++ b ∷ []) in
    ap (λ ws. ended ++ ws) (complete_first end_counts next (line_after b line) c bs rest complete)
    ∙ sym (append_assoc ended (words_from true next (line_after b line) (c ∷ bs)) _)
    ∙ ap (λ n. words_from true begun line (b ∷ c ∷ bs) ++ words_from end_counts [] n rest) (line_more b line (c ∷ bs))

pub words_complete : (end_counts : Bool) (line : ℕ) (text rest : List ℕ) → has_complete_words text ≡ true
    → words_from end_counts [] line (text ++ rest) ≡ words_from true [] line text
    ++ words_from end_counts [] (line + line_feeds_in text) rest
unfolding words_from
words_complete end_counts line [] rest complete = grind arith
words_complete end_counts line (b ∷ bs) rest complete = complete_first end_counts [] line b bs rest complete

-- ---- one more chunk

module _ (limit most : ℕ) (asked : Asked) (p : FileReader) (from len : ℕ)
    (bytes complete_text : List ℕ)
    (come : HasUntakenChunk limit most asked p from bytes)
    (ends : has_complete_words (take len p.buffer.bytes) ≡ true)
    (no_space : list_all (λ b. not (is_white_space b)) (drop len p.buffer.bytes) ≡ true)
    (prefix : complete_text ≡ take len p.buffer.bytes) where
  -- the bytes after the complete words
  abbrev back : List ℕ
  back = drop len p.buffer.bytes

  -- the complete words
  abbrev complete : List WordOnLine
  complete = words_after p.line_feeds complete_text

  in_two : come.word ++ come.chunk ≡ complete_text ++ back
  in_two = sym come.text ∙ sym (take-append-drop len p.buffer.bytes) ∙ ap (λ text. text ++ back) (sym prefix)

  -- the words of all bytes so far, and of those that follow
  words_now : (end_counts : Bool) (rest : List ℕ) → words_from end_counts [] 1 (bytes ++ rest)
      ≡ complete_words come.before
      ++ (complete ++ words_from end_counts [] ((p.line_feeds + line_feeds_in complete_text) + 1) (back ++ rest))
  words_now end_counts rest = grind (arith, append_assoc, in_two, words_complete, after_by_bytes)

  closed_now : complete_words bytes ≡ complete_words come.before ++ complete
  closed_now =
      complete_by_bytes _ ∙ ap (words_from false [] 1) (sym (append-nil bytes)) ∙ words_now _ [] ∙ ap (λ text.
      complete_words come.before ++ (complete ++ words_from false [] ((p.line_feeds + line_feeds_in complete_text) + 1)
      text)) (append-nil back) ∙ ap (λ words. complete_words come.before ++ (complete ++ words)) (word_part _ _
      no_space) ∙ ap (λ words. complete_words come.before ++ words) (append-nil complete)

  -- the complete words have been taken
  pub now_taken : (new : Parser) → HasTakenWords limit asked new (complete_words come.before ++ complete)
      → HasTaken limit most asked new back (p.line_feeds + line_feeds_in complete_text) p.bytes_left bytes
  now_taken new reads = grind (
    arith,
    common_steps,
    length-append,
    in_two,
    line_feeds_of_both,
    closed_now,
    words_now,
    append_assoc,
    no_line_feeds,
  )

  -- or one of them is refused
  pub now_refused : (e : ReadError) → RefusesWords limit (complete_words come.before ++ complete) e
      → RefusesWords limit (complete_words bytes) e
  now_refused e refused = subst (λ words. RefusesWords limit words e) (sym closed_now) refused

-- ---- what a listener has heard

both_complete : (a b : List ℕ) → has_complete_words a ≡ true → has_complete_words b ≡ true
    → has_complete_words (a ++ b) ≡ true
both_complete [] b first second = second
both_complete (x ∷ []) [] first second = first
both_complete (x ∷ []) (y ∷ b) first second = second
both_complete (x ∷ y ∷ a) b first second = both_complete (y ∷ a) b first second

-- it has heard no more where more bytes are in the buffer
pub still_heard : {L : Type 0} {l : listeners.Ghosts L} {limit : ℕ} {start now : L} (old new : FileReader)
    (bytes chunk : List ℕ) → HasHeard l limit start now old bytes → new.buffer.bytes ≡ old.buffer.bytes ++ chunk
    → new.parser ≡ old.parser → new.line_feeds ≡ old.line_feeds
    → HasHeard l limit start now new (bytes ++ chunk)
still_heard {l = l} {limit = limit} {start = start} {now = now} old new bytes chunk h is parser lines = record {
  before = h.before;
  all = ap (λ xs. xs ++ chunk) h.all ∙ append_assoc h.before old.buffer.bytes chunk
      ∙ ap (λ xs. h.before ++ xs) (sym is);
  ends = (h.ends.0, lines ∙ h.ends.1);
  heard = subst (λ m. l.has_heard limit start now m h.before) (sym parser) h.heard;
}

-- and the words of the buffer's front, once they are taken
pub chunk_heard : {L : Type 0} {l : listeners.Ghosts L} {limit : ℕ} {start now later : L} (old new : FileReader)
    (len : ℕ) (bytes front : List ℕ) (h : HasHeard l limit start now old bytes)
    → front ≡ take len old.buffer.bytes → has_complete_words front ≡ true
    → new.buffer.bytes ≡ drop len old.buffer.bytes → new.line_feeds ≡ old.line_feeds + line_feeds_in front
    → l.has_heard limit start later new.parser (h.before ++ front) → HasHeard l limit start later new bytes
chunk_heard old new len bytes front h is complete left lines heard = record {
  before = h.before ++ front;
  all = h.all ∙ ap (λ xs. h.before ++ xs) (sym (take-append-drop len old.buffer.bytes)
      ∙ ap₂ (λ x y. x ++ y) (sym is) (sym left)) ∙ sym (append_assoc h.before front new.buffer.bytes);
  ends = (
    both_complete h.before front h.ends.0 complete,
    lines ∙ ap (λ n. n + line_feeds_in front) h.ends.1 ∙ sym (line_feeds_of_both h.before front),
  );
  heard = heard;
}

-- what holds of the bytes that it has heard, whatever comes after them, holds of the file
pub of_heard : {L : Type 0} {l : listeners.Ghosts L} {limit : ℕ} {start now : L} {p : FileReader} {bytes : List ℕ}
    (coming left : Option (List ℕ)) (P : List ℕ → Type 0) → Consumes coming left bytes
    → (h : HasHeard l limit start now p bytes) → ((after : List ℕ) → P (h.before ++ after)) → IfSome coming P
of_heard None left P consumes h each = tt
of_heard (Some file) None P consumes h each = absurd consumes
of_heard {p = p} (Some file) (Some left) P consumes h each =
    subst P (sym (consumes ∙ ap (λ xs. xs ++ left) h.all ∙ append_assoc h.before p.buffer.bytes left))
    (each (p.buffer.bytes ++ left))

-- ---- nothing has been read, or all has been

pub nothing_taken : (limit most : ℕ) (asked : Asked) (m : Parser) (word : List ℕ) → word ≡ [] → most < 2 ^ 62
    → HasTakenWords limit asked m [] → HasTaken limit most asked m word 0 most []
unfolding words_from words_of complete_words
nothing_taken limit most asked m word none small reads = record {
  taken_words = reads;
  words = λ end_counts rest. ap (λ w. words_from end_counts [] 1 (w ++ rest)) (sym none);
  no_space = ap (list_all (λ b. not (is_white_space b))) none;
  short = omega (arith, ap (length {A = ℕ}) none);
  lines = refl;
  size = omega arith;
  small = small;
}

pub consumes_none : (coming : Option (List ℕ)) → Consumes coming coming []
consumes_none coming = grind arith

pub no_bytes : (xs : List ℕ) → length xs ≤ 0 → [] ≡ xs
no_bytes [] few = refl
no_bytes (x ∷ xs) few = absurd (omega (arith, few))

pub nothing_heard : {L : Type 0} {l : listeners.Ghosts L} {limit most : ℕ} {start : L} (coming : Option (List ℕ))
    (p : FileReader) → HasReadBytes limit most (l.asked start) p [] → l.has_heard limit start start p.parser []
    → FileReaderMatches l limit most start coming coming start p
nothing_heard coming p taken heard = (
  [],
  consumes_none coming,
  (
    taken,
    record {
      before = [];
      all = no_bytes p.buffer.bytes taken.short;
      ends = (refl, none taken.lines);
      heard = heard;
    },
  ),
)
  where
    none : {n : ℕ} → 1 ≡ n + 1 → n ≡ 0
    none is = omega (arith, is)

-- the words so far, and the last one
all_words : (limit most : ℕ) (asked : Asked) (p : FileReader) (text bytes : List ℕ)
    → HasReadBytes limit most asked p bytes → text ≡ p.buffer.bytes
    → complete_words bytes ++ words_after p.line_feeds text ≡ words_of bytes
all_words limit most asked p text bytes taken is =
    ap (λ ws. complete_words bytes ++ ws) (after_by_bytes p.line_feeds text)
    ∙ ap (λ word. complete_words bytes ++ words_from true [] (p.line_feeds + 1) word)
    (is ∙ sym (append-nil p.buffer.bytes))
    ∙ sym (taken.words true []) ∙ ap (words_from true [] 1) (append-nil bytes) ∙ sym (words_by_bytes _)

-- so all words of the bytes have been taken, or one is refused
pub last_taken : (limit most : ℕ) (asked : Asked) (p : FileReader) (new : Parser) (text bytes : List ℕ)
    → HasReadBytes limit most asked p bytes → text ≡ p.buffer.bytes
    → HasTakenWords limit asked new (complete_words bytes ++ words_after p.line_feeds text)
    → HasTakenWords limit asked new (words_of bytes)
last_taken limit most asked p new text bytes taken is reads =
    rw (all_words limit most asked p text bytes taken is) at reads

pub last_refused : (limit most : ℕ) (asked : Asked) (p : FileReader) (text bytes : List ℕ) (e : ReadError)
    → HasReadBytes limit most asked p bytes → text ≡ p.buffer.bytes
    → RefusesWords limit (complete_words bytes ++ words_after p.line_feeds text) e → RefusesFile limit bytes e
last_refused limit most asked p text bytes e taken is (inl none) = inl none
last_refused limit most asked p text bytes e taken is (inr shows) =
    inr (word_shows (rw (all_words limit most asked p text bytes taken is) at shows))

-- ---- results for a file of which these bytes have come

-- the prefix of a text whose first bytes are these
prefix_of : (n : ℕ) (xs ys : List ℕ) → length xs ≤ n → take n (xs ++ ys) ≡ xs ++ take (n - length xs) ys
prefix_of n xs ys fits = let parts : n ≡ length xs + (n - length xs) = omega arith in
    ap (λ k. take k (xs ++ ys)) parts ∙ take-append-add xs ys (n - length xs)

all_prefix : (n : ℕ) (xs ys : List ℕ) → length xs ≡ n → take n (xs ++ ys) ≡ xs
all_prefix n xs ys is = ap (λ k. take k (xs ++ ys)) (sym is) ∙ take-append_seam xs ys

-- a complete word is refused
pub refused_early : (limit most : ℕ) (coming left : Option (List ℕ)) (failed : Bool) (bytes : List ℕ) (e : ReadError)
    → IsFalse failed → Consumes coming left bytes → length bytes ≤ most → RefusesWords limit (complete_words bytes) e
    → IfSome coming (λ file. IsRefusal limit most file failed left e)
refused_early limit most None left failed bytes e ready consumes within answer = tt
refused_early limit most (Some xs) None failed bytes e ready consumes within answer = absurd consumes
refused_early limit most (Some xs) (Some ys) failed bytes e ready consumes within (inl none) = no_memory none
refused_early limit most (Some xs) (Some ys) failed bytes e ready consumes within (inr shows) =
    elim (cases_lt most (length xs)) [
      | inl long ↦ grind (arith, prefix_of, longer_prefix_fault)
      | inr short ↦ has_fault ready short (rw consumes (prefix_fault_stays limit bytes ys e.line e.fault shows))
    ]

-- the file has more bytes than the limit
pub full : (limit most : ℕ) (asked : Asked) (coming middle left : Option (List ℕ)) (failed : Bool) (p : FileReader)
    (bytes chunk : List ℕ) (e : ReadError) → IsFalse failed → Consumes coming middle bytes → Consumes middle left chunk
    → 0 < length chunk → p.bytes_left ≡ 0 → HasReadBytes limit most asked p bytes
    → e ≡ record { line = p.line_feeds + 1; fault = faults.TooLarge }
    → IfSome coming (λ file. IsRefusal limit most file failed left e)
full limit most asked coming middle left failed p bytes chunk e ready first second some none taken is =
    let silent = no_fault limit asked p.parser _ taken.taken_words in
    larger limit most coming left failed bytes e ready
    (over coming left (Consumes-trans coming middle left bytes chunk first second)) (grind arith)
  where
    over : (coming left : Option (List ℕ)) → Consumes coming left (bytes ++ chunk)
        → IfSome coming (λ xs. (most < length xs) × (bytes ≡ take most xs))
    over None left consumes = tt
    over (Some xs) None consumes = absurd consumes
    over (Some xs) (Some ys) consumes = (
      omega (
        arith,
        ap (length {A = ℕ}) consumes,
        length-append (bytes ++ chunk) ys,
        length-append bytes chunk,
        taken.size,
        none,
        some,
      ),
      sym (ap (take most) (consumes ∙ append_assoc bytes chunk ys)
          ∙ all_prefix most bytes (chunk ++ ys) (omega (arith, taken.size, none))),
    )

still_comes : (coming middle left : Option (List ℕ)) (bytes : List ℕ) → Consumes coming middle bytes
    → Keeps middle left → Consumes coming left bytes
still_comes coming middle left bytes came keeps = grind arith

-- the reader failed
pub broken : (limit most : ℕ) (asked : Asked) (coming middle left : Option (List ℕ)) (failed : Bool) (p : FileReader)
    (bytes : List ℕ) (e : ReadError) → IsTrue failed → Consumes coming middle bytes → Keeps middle left
    → HasReadBytes limit most asked p bytes → e ≡ record { line = p.line_feeds + 1; fault = faults.ReadFault }
    → IfSome coming (λ file. IsRefusal limit most file failed left e)
broken limit most asked coming middle left failed p bytes e has consumes keeps taken is =
    let silent = no_fault limit asked p.parser _ taken.taken_words in
    failing limit most coming left failed bytes e has (still_comes coming middle left bytes consumes keeps)
    (omega (arith, taken.size)) (grind arith)

-- the whole file came
pub at_end : (limit most : ℕ) (coming left : Option (List ℕ)) (failed : Bool) (bytes : List ℕ) (e : ReadError)
    → IsFalse failed → Consumes coming left bytes → IsAtEnd left → length bytes ≤ most → RefusesFile limit bytes e
    → IfSome coming (λ file. IsRefusal limit most file failed left e)
at_end limit most None left failed bytes e ready consumes ends within answer = tt
at_end limit most (Some xs) None failed bytes e ready consumes ends within answer = absurd consumes
at_end limit most (Some xs) (Some ys) failed bytes e ready consumes ends within (inl none) = no_memory none
at_end limit most (Some xs) (Some ys) failed bytes e ready consumes ends within (inr fault) =
    grind (arith, append-nil, file_fault)

-- a fact about the bytes is one about the file
pub of_all : (coming left : Option (List ℕ)) (bytes : List ℕ) (P : List ℕ → Type 0) → Consumes coming left bytes
    → IsAtEnd left → P bytes → IfSome coming P
of_all coming left bytes P h4 h5 h6 = grind (arith, append-nil)

pub is_no_failure : (limit : ℕ) (words : List WordOnLine) (e : ReadError) → RefusesWords limit words e
    → e.fault ≡ faults.ReadFault → ⊥
is_no_failure limit words e refused is = search arith

pub is_no_file_failure : (limit : ℕ) (bytes : List ℕ) (e : ReadError) → RefusesFile limit bytes e
    → e.fault ≡ faults.ReadFault → ⊥
is_no_file_failure limit bytes e refused is = search arith

-- ---- a chunk after the bytes taken

-- the chunk came after the word that can go on
pub has_come : (limit most : ℕ) (asked : Asked) (p : FileReader) (buffer : ReadBufferView) (from count : ℕ)
    (before word chunk : List ℕ) → HasReadBytes limit most asked p before → buffer.bytes ≡ word ++ chunk
    → word ≡ p.buffer.bytes → count ≡ length chunk → count ≤ p.bytes_left → from ≡ length word
    → HasUntakenChunk limit most asked (record p { buffer = buffer; bytes_left = p.bytes_left - count }) from
    (before ++ chunk)
has_come limit most asked p buffer from count before word chunk taken text same many within len = grind arith

-- the first bytes of the text are those of the word that can go on
pub word_is_first : (limit most : ℕ) (asked : Asked) (p : FileReader) (from : ℕ) (bytes : List ℕ)
    → HasUntakenChunk limit most asked p from bytes
    → (from ≤ length p.buffer.bytes) × (list_all (λ b. not (is_white_space b)) (take from p.buffer.bytes) ≡ true)
    × (length bytes + p.bytes_left ≡ most) × (most < 2 ^ 62)
    × (length p.buffer.bytes ≤ length bytes)
    × (p.line_feeds ≤ length bytes)
word_is_first limit most asked p from bytes come = grind (arith, length-append, count_by-le-length, take-append_seam)
