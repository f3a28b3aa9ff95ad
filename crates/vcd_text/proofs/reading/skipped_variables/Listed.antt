-- Which skipped variables are listed, with one more.
use Rattle.std.proofs.Common.{◌≡◌, ℕ, suc, ◌+◌, ◌-◌, ◌^◌, ◌<◌, ◌≤◌, Bool, true, false, ◌||◌, ◌==◌, nat_lt, List, []}
use Rattle.std.proofs.Common.{◌∷◌, ◌++◌, length, map, Some, inl, inr, refl, sym, ap, ◌∙◌, arith, if◌then◌else◌, subst}
use Rattle.std.proofs.Common.{get_or, drop}
use Rattle.std.specs.Prelude.{slice_get, bytes_eq}
use Rattle.std.proofs.lemmas.Bool.{cases_Bool, cases_lt, lt-ltb}
use Rattle.std.proofs.lemmas.List.{map-append, length-append, length-map}
use Rattle.std.proofs.lemmas.List.Elements.{filter-append}
use Rattle.std.proofs.lemmas.Option.{slice_get_within}
use Rattle.vcd_core.specs.declared.value.TheConstants.{WIDTH_LIMIT}
use Rattle.vcd_text.specs.Grammar.{VariableDeclaration, is_skipped}
use Rattle.vcd_text.specs.HeardChanges.{first_with, skipped_variables}
use Rattle.vcd_text.specs.inside.reading.CodeTargets.{code_target}
use Rattle.vcd_text.specs.inside.reading.SkippedVariables.{KnowsFirsts, HasListed, HasSkipped, listed_size}
use Rattle.vcd_text.specs.inside.reading.SkippedVariables.{listed_variable, listed_variables, open_variable}
use Rattle.vcd_text.specs.inside.reading.Scopes.{open_scopes}
use Rattle.vcd_text.specs.declared.reading.code_targets.CodeTargets.{CodeTargets}
use Rattle.vcd_text.specs.declared.reading.parser.Parser.{Parser}
use Rattle.vcd_text.specs.declared.reading.skipped_variables.SkippedVariable.{SkippedVariable}
use Rattle.vcd_text.specs.declared.reading.skipped_variables.SkippedVariables.{SkippedVariables}
use Rattle.vcd_text.proofs.reading.code_targets.Targets.{by_code, own_code}
use Rattle.vcd_text.proofs.shared.FirstVariables.{first_found}

-- ---- the first one with a code

first_more : (code : List ℕ) (ds es : List VariableDeclaration) → first_with code ds < length ds
    → first_with code (ds ++ es) ≡ first_with code ds
unfolding first_with
first_more code [] es found = absurd (omega (arith, found))
first_more code (d ∷ ds) es found =
    elim (cases_Bool (bytes_eq code d.code)) [
      | inl here ↦ rw here refl
      | inr apart ↦ rw apart (ap suc (first_more code ds es (let more = rw apart at found in omega (arith, more))))
    ]

first_past : (code : List ℕ) (ds es : List VariableDeclaration) → length ds ≤ first_with code ds
    → first_with code (ds ++ es) ≡ length ds + first_with code es
unfolding first_with
first_past code [] es none = omega arith
first_past code (d ∷ ds) es none =
    elim (cases_Bool (bytes_eq code d.code)) [
      | inl here ↦ let some = rw here at none in absurd (omega (arith, some))
      | inr apart ↦
          let rest = first_past code ds es (let more = rw apart at none in omega (arith, more)) in
          rw apart (omega (arith, rest))
    ]

own_first : (code : List ℕ) (d : VariableDeclaration) → d.code ≡ code → first_with code (d ∷ []) ≡ 0
unfolding first_with
own_first code d own = rw own (rw (own_code code) refl)

other_first : (code : List ℕ) (d : VariableDeclaration) → bytes_eq code d.code ≡ false → first_with code (d ∷ []) ≡ 1
unfolding first_with
other_first code d apart = rw apart refl

-- the code of one more has this first position from now on
pub more_firsts : (old new : CodeTargets ℕ) (all : List VariableDeclaration) (d : VariableDeclaration) (code : List ℕ)
    (p : ℕ) → d.code ≡ code → KnowsFirsts old all → p ≡ first_with code (all ++ d ∷ [])
    → ((key : List ℕ) → code_target new key ≡ (if bytes_eq key code then p else code_target old key))
    → KnowsFirsts new (all ++ d ∷ [])
more_firsts old new all d code p own knows is puts = record {
  known = λ key found. puts key ∙ known_key key found;
  absent = λ key none. puts key ∙ absent_key key none;
}
  where
    one_longer : length (all ++ d ∷ []) ≡ length all + 1
    one_longer = length-append all (d ∷ [])

    other : (key : List ℕ) → bytes_eq key code ≡ false → length all ≤ first_with key all
        → first_with key (all ++ d ∷ []) ≡ length all + 1
    other key apart none =
        first_past key all (d ∷ []) none
        ∙ ap (λ n. length all + n) (other_first key d (ap (bytes_eq key) own ∙ apart))

    known_key : (key : List ℕ) → first_with key (all ++ d ∷ []) < length (all ++ d ∷ [])
        → (if bytes_eq key code then p else code_target old key) ≡ first_with key (all ++ d ∷ [])
    known_key key found = by_code (λ b. (if b then p else code_target old key) ≡ first_with key (all ++ d ∷ [])) key
        code (λ same. is ∙ ap (λ k. first_with k (all ++ d ∷ [])) (sym same)) (λ apart.
        elim (cases_lt (first_with key all) (length all)) [
          | inl some ↦ knows.known key some ∙ sym (first_more key all (d ∷ []) some)
          | inr none ↦ absurd (omega (arith, found, one_longer, other key apart none))
        ])

    absent_key : (key : List ℕ) → length (all ++ d ∷ []) ≤ first_with key (all ++ d ∷ [])
        → (if bytes_eq key code then p else code_target old key) ≡ 2 ^ 64 - 1
    absent_key key none = by_code (λ b. (if b then p else code_target old key) ≡ 2 ^ 64 - 1) key code (λ same.
        elim (cases_lt (first_with key all) (length all)) [
          | inl some ↦ absurd (omega (arith, none, one_longer, some, first_more key all (d ∷ []) some))
          | inr past ↦ absurd (omega (
            arith,
            none,
            one_longer,
            first_past key all (d ∷ []) past,
            own_first key d (own ∙ sym same),
          ))
        ]) (λ apart.
        elim (cases_lt (first_with key all) (length all)) [
          | inl some ↦ absurd (omega (arith, none, one_longer, some, first_more key all (d ∷ []) some))
          | inr past ↦ knows.absent key past
        ])

-- the first position of the code of one more
pub known_first : (firsts : CodeTargets ℕ) (all : List VariableDeclaration) (d : VariableDeclaration) (code : List ℕ)
    → KnowsFirsts firsts all → (code_target firsts code ≡ 2 ^ 64 - 1 → ⊥)
    → code_target firsts code ≡ first_with code (all ++ d ∷ [])
known_first firsts all d code knows some =
    elim (cases_lt (first_with code all) (length all)) [
      | inl found ↦ knows.known code found ∙ sym (first_more code all (d ∷ []) found)
      | inr none ↦ absurd (some (knows.absent code none))
    ]

pub new_first : (firsts : CodeTargets ℕ) (all : List VariableDeclaration) (d : VariableDeclaration) (code : List ℕ)
    → KnowsFirsts firsts all → d.code ≡ code → length all ≤ 2 ^ 64 - 1 → code_target firsts code ≡ 2 ^ 64 - 1
    → length all ≡ first_with code (all ++ d ∷ [])
new_first firsts all d code knows own few is =
    elim (cases_lt (first_with code all) (length all)) [
      | inl found ↦ absurd (omega (arith, found, few, is, knows.known code found))
      | inr none ↦ omega (arith, first_past code all (d ∷ []) none, own_first code d own)
    ]

-- a code that has a position keeps it
pub puts_known : (firsts : CodeTargets ℕ) (code key : List ℕ)
    → code_target firsts key ≡ (if bytes_eq key code then code_target firsts code else code_target firsts key)
puts_known firsts code key = by_code (λ b. code_target firsts key
    ≡ (if b then code_target firsts code else code_target firsts key)) key code (ap (code_target firsts)) (λ _. refl)

-- ---- the list

map_same : {A B : Type 0} (f g : A → B) (xs : List A) → ((k : ℕ) (x : A) → slice_get xs k ≡ Some x → f x ≡ g x)
    → map f xs ≡ map g xs
map_same f g [] same = refl
map_same f g (x ∷ xs) same = λ i. same 0 x refl i ∷ map_same f g xs (λ k y at. same (suc k) y at) i

listed_at : VariableDeclaration → (first : ℕ) → SkippedVariable
listed_at d first = record (listed_variable [] d) { first = first }

-- what is listed stays with more variables
listed_stay : (all more : List VariableDeclaration) → map (listed_variable (all ++ more)) all ≡ listed_variables all
unfolding listed_at
listed_stay all more = map_same _ _ all (λ k d at.
    let early = (first_found d.code all k d at refl).early in
    ap (listed_at d) (first_more d.code all more (omega (arith, early, slice_get_within all k d at))))

pub listed_more : (all : List VariableDeclaration) (d : VariableDeclaration)
    → listed_variables (all ++ d ∷ []) ≡ listed_variables all ++ listed_variable (all ++ d ∷ []) d ∷ []
listed_more all d = map-append (listed_variable (all ++ d ∷ [])) all (d ∷ [])
    ∙ ap (λ vs. vs ++ listed_variable (all ++ d ∷ []) d ∷ []) (listed_stay all (d ∷ []))

pub as_long : (s : SkippedVariables) (all : List VariableDeclaration) → HasListed s all
    → length all ≡ length s.list.items
as_long s all has = sym (ap length has.list ∙ length-map all (listed_variable all))

pub lists_more : (old new : SkippedVariables) (all : List VariableDeclaration) (d : VariableDeclaration)
    (v : SkippedVariable) → HasListed old all → new.list.items ≡ old.list.items ++ v ∷ []
    → v ≡ listed_variable (all ++ d ∷ []) d → KnowsFirsts new.firsts (all ++ d ∷ []) → HasListed new (all ++ d ∷ [])
lists_more old new all d v has pushed is firsts = record {
  list = pushed ∙ (λ i. has.list i ++ is i ∷ []) ∙ sym (listed_more all d);
  firsts = firsts;
}

-- ---- the skipped ones

pub skipped_more : (declared : List VariableDeclaration) (d : VariableDeclaration) → is_skipped d ≡ true
    → skipped_variables (declared ++ d ∷ []) ≡ skipped_variables declared ++ d ∷ []
skipped_more declared d skips =
    filter-append is_skipped declared (d ∷ []) ∙ ap (λ ds. skipped_variables declared ++ ds) (rw skips refl)

-- a size of 64 bits decides as well
pub skipped_by_size : (by_kind : Bool) (n size : ℕ) → size ≡ listed_size n
    → (by_kind || (n == 0 || nat_lt WIDTH_LIMIT n)) ≡ (by_kind || (size == 0 || nat_lt WIDTH_LIMIT size))
skipped_by_size by_kind n size is = grind (arith, cases_lt, lt-ltb)

-- ---- the open `$var`

-- the variable of a kind and a code that words declare, apart from its size
abbrev pub opened : Parser → (size : ℕ) → (kind code : List ℕ) → List (List ℕ) → VariableDeclaration
opened m size kind code words = record {
  scopes = open_scopes m.variables.scopes;
  kind = kind;
  size = size;
  code = code;
  words = drop 2 words;
}

open_long : (m : Parser) (size : ℕ) (kind code : List ℕ) (words : List (List ℕ)) → 3 ≤ length words
    → kind ≡ get_or words 0 kind → code ≡ get_or words 1 code
    → open_variable m size words ≡ opened m size kind code words ∷ []
open_long m size kind code [] long first second = absurd (omega (arith, long))
open_long m size kind code (a ∷ []) long first second = absurd (omega (arith, long))
open_long m size kind code (a ∷ b ∷ []) long first second = absurd (omega (arith, long))
open_long m size kind code (a ∷ b ∷ c ∷ words) long first second =
    λ i. opened m size (sym first i) (sym second i) (a ∷ b ∷ c ∷ words) ∷ []

-- so the list is that of the variables with this one
pub adds_one : (s : SkippedVariables) (m : Parser) (size : ℕ) (kind code : List ℕ) (words : List (List ℕ))
    (declared : List VariableDeclaration) → 3 ≤ length words → kind ≡ get_or words 0 kind
    → code ≡ get_or words 1 code → is_skipped (opened m size kind code words) ≡ true
    → HasListed s (skipped_variables declared ++ opened m size kind code words ∷ [])
    → HasSkipped s (declared ++ open_variable m size words)
adds_one s m size kind code words declared long first second skips has =
    subst (λ ds. HasSkipped s (declared ++ ds)) (sym (open_long m size kind code words long first second))
    (subst (HasListed s) (sym (skipped_more declared (opened m size kind code words) skips)) has)
