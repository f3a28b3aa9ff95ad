-- The lines of a script from its front, and the first of them.
use Rattle.std.proofs.Common.{◌≡◌, ◌<◌, ◌==◌, ℕ, Bool, true, false, not, cond, ◌&&◌, List, [], ◌∷◌, ◌++◌, length, refl}
use Rattle.std.proofs.Common.{ap, arith, take, drop, sym, ◌∙◌}
use Rattle.std.specs.List.{list_all, onto_first}
use Rattle.std.proofs.lemmas.List.{take-append-drop, length-append, append-nil, nil_from_length}
use Rattle.std.proofs.lemmas.Bool.{eqb-true, eqb-false}
use Rattle.vcd_script.specs.Script.{script_lines}
use Rattle.vcd_script.specs.inside.script.Splitting.{is_after_line}

-- ==== the lines of a script, from its front

-- no byte is a line feed
abbrev pub is_one_line : List ℕ → Bool
is_one_line bytes = list_all (λ b. not (b == 10)) bytes

-- a byte that is no line feed is in the first line
byte_before : (feed : Bool) (b : ℕ) (line : List ℕ) (found others : List (List ℕ)) (black : Bool)
    → (not feed && black) ≡ true → (black ≡ true → found ≡ line ∷ others) →
    cond feed ([] ∷ found) (onto_first b found) ≡ (b ∷ line) ∷ others
byte_before true b line found others black h known = absurd (cc)
byte_before false b line found others black h known = ap (onto_first b) (known h)

byte_alone : (feed : Bool) (b : ℕ) → (not feed && true) ≡ true
    → cond feed ([] ∷ []) (onto_first b []) ≡ (b ∷ []) ∷ []
byte_alone true b h = absurd (cc)
byte_alone false b h = refl

-- the bytes before a line feed are a line, and the others follow
line_whole : (line rest : List ℕ) → is_one_line line ≡ true
    → script_lines (line ++ 10 ∷ rest) ≡ line ∷ script_lines rest
unfolding script_lines
line_whole [] rest h = refl
line_whole (b ∷ line) rest h =
    byte_before (b == 10) b line (script_lines (line ++ 10 ∷ rest)) (script_lines rest) (is_one_line line) h
    (line_whole line rest)

-- bytes without a line feed at the end are a line if there are any
line_last : (line : List ℕ) → 0 < length line → is_one_line line ≡ true → script_lines line ≡ line ∷ []
unfolding script_lines
line_last [] filled h = absurd (omega (arith, filled))
line_last (b ∷ []) filled h = byte_alone (b == 10) b h
line_last (b ∷ d ∷ line) filled h =
    byte_before (b == 10) b (d ∷ line) (script_lines (d ∷ line)) [] (is_one_line (d ∷ line)) h
    (line_last (d ∷ line) (omega arith))

-- ==== the first line of a script

-- a line feed follows the first line
first_line : (script line rest : List ℕ) (b : ℕ) → script ≡ line ++ b ∷ rest → is_one_line line ≡ true
    → (b == 10) ≡ true → script_lines script ≡ line ∷ script_lines rest
first_line script line rest b parts one feed =
    ap script_lines parts ∙ ap (λ (c : ℕ). script_lines (line ++ c ∷ rest)) (eqb-true b 10 feed)
    ∙ line_whole line rest one

-- nothing follows the only line
only_line : (script line rest : List ℕ) → script ≡ line ++ rest → rest ≡ [] → 0 < length script
    → is_one_line line ≡ true → script_lines script ≡ line ∷ script_lines rest
unfolding script_lines
only_line script line rest parts none some one =
    let same : script ≡ line = parts ∙ ap (λ (r : List ℕ). line ++ r) none ∙ append-nil line in
    let filled : 0 < length line = rw (← same) some in
    ap script_lines same ∙ line_last line filled one ∙ ap (λ (r : List ℕ). line ∷ script_lines r) (sym none)

-- a split at an index
split_parts : (script line following : List ℕ) (n : ℕ) → line ≡ take n script → following ≡ drop n script
    → script ≡ line ++ following
split_parts script line following n prefix back =
    sym (take-append-drop n script) ∙ ap (λ (x : List ℕ). x ++ drop n script) (sym prefix)
    ∙ ap (λ (x : List ℕ). line ++ x) (sym back)

-- the same where the script is split at an index
pub first_at : (script line following rest : List ℕ) (n b : ℕ) → line ≡ take n script → following ≡ drop n script
    → following ≡ b ∷ rest → is_one_line (take n script) ≡ true → is_after_line (drop n script) ≡ true →
    (script_lines script ≡ line ∷ script_lines rest) × (length rest < length script)
first_at script line following rest n b prefix back begins one ends =
    let parts : script ≡ line ++ b ∷ rest = split_parts script line following n prefix back
    ∙ ap (λ (x : List ℕ). line ++ x) begins in
    let black : is_one_line line ≡ true = rw prefix one in
    let feed : (b == 10) ≡ true = ap is_after_line (sym begins ∙ back) ∙ ends in
    (first_line script line rest b parts black feed, omega (arith, length-append line (b ∷ rest), ap length parts))

pub last_at : (script line following : List ℕ) (n : ℕ) → line ≡ take n script → following ≡ drop n script
    → length following ≡ 0 → (length script == 0) ≡ false → is_one_line (take n script) ≡ true →
    (script_lines script ≡ line ∷ script_lines following) × (length following < length script)
last_at script line following n prefix back none some one =
    let parts : script ≡ line ++ following = split_parts script line following n prefix back in
    let black : is_one_line line ≡ true = rw prefix one in
    let other = eqb-false (length script) 0 some in
    let filled : 0 < length script = omega (arith, other) in
    (only_line script line following parts (nil_from_length following none) filled black, omega arith)
