-- The head of a pattern, step by step; a `*` that is left as early as possible misses nothing.
use Rattle.std.proofs.Common.{◌≡◌, ℕ, Bool, true, false, ◌==◌, ◌||◌, ◌&&◌, if◌then◌else◌, List, [], ◌∷◌, ◌++◌, length}
use Rattle.std.proofs.Common.{refl, sym, ap, ◌∙◌, append_assoc, MatchOption, Option, Some, None, suc}
use Rattle.std.proofs.lemmas.Bool.{false≢true}
use Rattle.vcd_part.specs.Pattern.{holds_after_byte, holds_after_some, meets}
use Rattle.vcd_part.specs.inside.Heads.{HeadBytes, ended, star, head_after_byte, head_of}

-- ---- the head, byte by byte

pub head_at_star : (c : ℕ) (left rest name : List ℕ) → left ≡ c ∷ rest → (c == 42) ≡ true
    → head_of left name ≡ star rest name
unfolding head_of
head_at_star c left rest name is at_star = rw (is, at_star) refl

pub head_at_end : (left name : List ℕ) → left ≡ [] → head_of left name ≡ ended (length name == 0)
unfolding head_of
head_at_end left name is = rw is refl

-- the next byte of the name, if there is one, is the one that the pattern wants or not
abbrev pub IsWanted : ℕ → Option ℕ → Bool → Type 0
IsWanted wanted byte is_wanted =
    MatchOption byte (is_wanted ≡ false) (λ b. is_wanted ≡ (wanted == 63 || wanted == b))

-- the bytes of a name begin with this one, or there is none
abbrev pub Begins : List ℕ → Option ℕ → List ℕ → Type 0
Begins name byte after = MatchOption byte (name ≡ []) (λ b. name ≡ b ∷ after)

pub head_goes_on : (c : ℕ) (left rest name after : List ℕ) (byte : Option ℕ) (wanted : Bool) → left ≡ c ∷ rest
    → (c == 42) ≡ false → Begins name byte after → IsWanted c byte wanted → wanted ≡ true
    → head_of rest after ≡ head_of left name
unfolding head_of
head_goes_on c left rest name after None wanted is other begins decides met = absurd (false≢true (sym decides ∙ met))
head_goes_on c left rest name after (Some b) wanted is other begins decides met =
    let same : (c == 63 || c == b) ≡ true = sym decides ∙ met in
    rw (is, other, begins, same) refl

pub head_fails : (c : ℕ) (left rest name after : List ℕ) (byte : Option ℕ) (wanted : Bool) → left ≡ c ∷ rest
    → (c == 42) ≡ false → Begins name byte after → IsWanted c byte wanted → wanted ≡ false
    → ended false ≡ head_of left name
unfolding head_of
head_fails c left rest name after None wanted is other begins decides missed = rw (is, other, begins) refl
head_fails c left rest name after (Some b) wanted is other begins decides missed =
    let differs : (c == 63 || c == b) ≡ false = sym decides ∙ missed in
    rw (is, other, begins, differs) refl

pub name_shrinks : (name after : List ℕ) (byte : Option ℕ) → Begins name byte after → (wanted : Bool) (c : ℕ)
    → IsWanted c byte wanted → wanted ≡ true → length name ≡ suc (length after)
name_shrinks name after None begins wanted c decides met = absurd (false≢true (sym decides ∙ met))
name_shrinks name after (Some b) begins wanted c decides met = ap length begins

-- ---- a name, by the head of the pattern

-- whether a name with this head meets the pattern
abbrev pub meets_by : HeadBytes → Bool
meets_by (ended is_met) = is_met
meets_by (star pattern name) = holds_after_some (meets pattern) name

-- the head of a pattern decides
pub by_head : (pattern name : List ℕ) → meets pattern name ≡ meets_by (head_of pattern name)
unfolding meets head_of
by_head [] name = refl
by_head (c ∷ pattern) name = choose (c == 42) (by_head pattern)
  where
    at_byte : (same : Bool) (bytes : List ℕ) → meets pattern bytes ≡ meets_by (head_of pattern bytes)
        → (same && meets pattern bytes) ≡ meets_by (if same then head_of pattern bytes else ended false)
    at_byte true bytes later = later
    at_byte false bytes later = refl

    in_name : (bytes : List ℕ) → ((more : List ℕ) → meets pattern more ≡ meets_by (head_of pattern more))
        → holds_after_byte c (meets pattern) bytes ≡ meets_by (head_after_byte c (head_of pattern) bytes)
    in_name [] later = refl
    in_name (b ∷ bytes) later = at_byte (c == 63 || c == b) bytes (later bytes)

    choose : (is_star : Bool) → ((more : List ℕ) → meets pattern more ≡ meets_by (head_of pattern more))
        → (if is_star then holds_after_some (meets pattern) name else holds_after_byte c (meets pattern) name)
        ≡ meets_by (if is_star then star pattern name else head_after_byte c (head_of pattern) name)
    choose true later = refl
    choose false later = in_name name later

-- ---- after a `*`

or_right : (a b : Bool) → b ≡ true → (a || b) ≡ true
or_right true b holds = refl
or_right false b holds = holds

or_left : (a b : Bool) → a ≡ true → (a || b) ≡ true
or_left true b holds = refl
or_left false b holds = absurd (false≢true holds)

and_right : (a b : Bool) → (a && b) ≡ true → b ≡ true
and_right true b holds = holds
and_right false b holds = absurd (false≢true holds)

-- a test that holds after some bytes also does so if there are more before them
pub after_more : (test : List ℕ → Bool) (more bytes : List ℕ) → holds_after_some test bytes ≡ true
    → holds_after_some test (more ++ bytes) ≡ true
after_more test [] bytes holds = holds
after_more test (b ∷ more) bytes holds = or_right (test (b ∷ more ++ bytes)) _ (after_more test more bytes holds)

-- bytes of which the test holds, behind some others
pub record HoldsOf (test : List ℕ → Bool) (name : List ℕ) : Type 0 where
  pub more : List ℕ
  pub bytes : List ℕ
  pub parts : name ≡ more ++ bytes
  pub holds : test bytes ≡ true

pub some_bytes : (test : List ℕ → Bool) (name : List ℕ) → holds_after_some test name ≡ true → HoldsOf test name
some_bytes test [] holds = record { more = []; bytes = []; parts = refl; holds = holds }
some_bytes test (b ∷ name) holds = choose (test (b ∷ name)) refl holds (some_bytes test name)
  where
    choose : (now : Bool) → test (b ∷ name) ≡ now → (now || holds_after_some test name) ≡ true
        → (holds_after_some test name ≡ true → HoldsOf test name) → HoldsOf test (b ∷ name)
    choose true is or further = record { more = []; bytes = b ∷ name; parts = refl; holds = is }
    choose false is or further =
        let later = further or in
        record { more = b ∷ later.more; bytes = later.bytes; parts = ap (λ l. b ∷ l) later.parts; holds = later.holds }

-- the bytes after the first ones of two lists, of which one ends the other
pub record Ends (bytes name : List ℕ) : Type 0 where
  pub more : List ℕ
  pub parts : name ≡ more ++ bytes

ends_after_first : (b d : ℕ) (name more bytes : List ℕ) → b ∷ name ≡ more ++ d ∷ bytes → Ends bytes name
ends_after_first b d name [] bytes parts = let same : name ≡ bytes = cc in record { more = []; parts = same }
ends_after_first b d name (a ∷ more) bytes parts =
    let same : name ≡ more ++ d ∷ bytes = cc in
    record { more = more ++ d ∷ []; parts = same ∙ sym (append_assoc more (d ∷ []) bytes) }

-- if the end of a name meets a pattern, then what is left after its first `*` meets the rest of the pattern there
pub star_is_early : (pattern name rest left more bytes : List ℕ) → head_of pattern name ≡ star rest left
    → name ≡ more ++ bytes → meets pattern bytes ≡ true → holds_after_some (meets rest) left ≡ true
unfolding meets head_of
star_is_early [] name rest left more bytes is parts met = cc
star_is_early (c ∷ pattern) name rest left more bytes is parts met = choose (c == 42) is met (star_is_early pattern)
  where
    at_byte : (same : Bool) (b : ℕ) (after : List ℕ) (d : ℕ) (later : List ℕ) →
        (if same then head_of pattern after else ended false) ≡ star rest left → b ∷ after ≡ more ++ d ∷ later
        → meets pattern later ≡ true
        → ((n r l m e : List ℕ) → head_of pattern n ≡ star r l → n ≡ m ++ e → meets pattern e ≡ true
        → holds_after_some (meets r) l ≡ true)
        → holds_after_some (meets rest) left ≡ true
    at_byte true b after d later head_is ends met_later early =
        let tail = ends_after_first b d after more later ends in
        early after rest left tail.more later head_is tail.parts met_later
    at_byte false b after d later head_is ends met_later early = cc

    in_name : (whole end : List ℕ) → whole ≡ more ++ end
        → head_after_byte c (head_of pattern) whole ≡ star rest left
        → holds_after_byte c (meets pattern) end ≡ true
        → ((n r l m e : List ℕ) → head_of pattern n ≡ star r l → n ≡ m ++ e → meets pattern e ≡ true
        → holds_after_some (meets r) l ≡ true)
        → holds_after_some (meets rest) left ≡ true
    in_name [] end ends head_is holds early = cc
    in_name (b ∷ after) [] ends head_is holds early = absurd (false≢true holds)
    in_name (b ∷ after) (d ∷ later) ends head_is holds early =
        at_byte (c == 63 || c == b) b after d later head_is ends (and_right (c == 63 || c == d) _ holds) early

    choose : (is_star : Bool) →
        (if is_star then star pattern name else head_after_byte c (head_of pattern) name) ≡ star rest left
        → (if is_star then holds_after_some (meets pattern) bytes else holds_after_byte c (meets pattern) bytes) ≡ true
        → ((n r l m e : List ℕ) → head_of pattern n ≡ star r l → n ≡ m ++ e → meets pattern e ≡ true
        → holds_after_some (meets r) l ≡ true)
        → holds_after_some (meets rest) left ≡ true
    choose true head_is holds early =
        let same : pattern ≡ rest = cc in
        let here : name ≡ left = cc in
        rw (← same, ← here, parts) (after_more (meets pattern) more bytes holds)
    choose false head_is holds early = in_name name bytes parts head_is holds early

-- two tests that follow from each other
same_tests : (a b : Bool) → (a ≡ true → b ≡ true) → (b ≡ true → a ≡ true) → a ≡ b
same_tests true b forth back = sym (forth refl)
same_tests false true forth back = back refl
same_tests false false forth back = refl

-- ---- the loop

pub leaves_star : (pattern name rest left : List ℕ) → head_of pattern name ≡ star rest left
    → holds_after_some (meets rest) left ≡ holds_after_some (meets pattern) name
leaves_star pattern name rest left is = same_tests _ _ here early
  where
    met : meets pattern name ≡ holds_after_some (meets rest) left
    met = by_head pattern name ∙ ap meets_by is

    at_once : (bytes : List ℕ) → meets pattern bytes ≡ true → holds_after_some (meets pattern) bytes ≡ true
    at_once [] holds = holds
    at_once (b ∷ bytes) holds = or_left (meets pattern (b ∷ bytes)) _ holds

    here : holds_after_some (meets rest) left ≡ true → holds_after_some (meets pattern) name ≡ true
    here holds = at_once name (met ∙ holds)

    early : holds_after_some (meets pattern) name ≡ true → holds_after_some (meets rest) left ≡ true
    early holds =
        let found = some_bytes (meets pattern) name holds in
        star_is_early pattern name rest left found.more found.bytes is found.parts found.holds

pub holds_here : (pattern name : List ℕ) → head_of pattern name ≡ ended true
    → true ≡ holds_after_some (meets pattern) name
holds_here pattern name is = sym (at_once name (by_head pattern name ∙ ap meets_by is))
  where
    at_once : (bytes : List ℕ) → meets pattern bytes ≡ true → holds_after_some (meets pattern) bytes ≡ true
    at_once [] holds = holds
    at_once (b ∷ bytes) holds = or_left (meets pattern (b ∷ bytes)) _ holds

pub fails_at_end : (pattern name after : List ℕ) (byte : Option ℕ) → head_of pattern name ≡ ended false
    → Begins name byte after → byte ≡ None → false ≡ holds_after_some (meets pattern) name
fails_at_end pattern name after None is begins none =
    rw begins (sym (ap (meets pattern) (sym begins) ∙ by_head pattern name ∙ ap meets_by is))
fails_at_end pattern name after (Some b) is begins none = cc

pub goes_on : (pattern name after : List ℕ) (byte : Option ℕ) → head_of pattern name ≡ ended false
    → Begins name byte after → (byte ≡ None → ⊥) → holds_after_some (meets pattern) after
    ≡ holds_after_some (meets pattern) name
goes_on pattern name after None is begins some = absurd (some refl)
goes_on pattern name after (Some b) is begins some =
    let fails : meets pattern (b ∷ after) ≡ false =
    ap (meets pattern) (sym begins) ∙ by_head pattern name ∙ ap meets_by is in
    rw (begins, fails) refl
