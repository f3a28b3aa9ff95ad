-- The codes of waves, one wave after another, the known codes of a file, and a code that is put into a set.
use Rattle.std.proofs.Common.{◌≡◌, ℕ, ◌+◌, Bool, true, false, List, [], ◌∷◌, ◌++◌, map, Option, None, Some, refl, sym}
use Rattle.std.proofs.Common.{ap, ◌∙◌, append_assoc, if◌then◌else◌, ◌||◌, not, inl, inr}
use Rattle.std.specs.Prelude.{bytes_eq, is_some}
use Rattle.std.specs.Option.{option_or}
use Rattle.std.proofs.lemmas.List.Folds.{find-append, list_any-append}
use Rattle.std.specs.Global.{Vec}
use Rattle.std.proofs.lemmas.Bool.{false≢true, cases_Bool}
use Rattle.std.specs.List.{list_any}
use Rattle.std.proofs.Math.Bool.{or-false, or_comm}
use Rattle.indexmap.specs.IndexSet.{IndexSet, insert_key}
use Rattle.vcd_core.specs.Word.{is_one_of}
use Rattle.vcd_text.specs.Grammar.{ParseState, VariableDeclaration}
use Rattle.vcd_text.specs.Text.{code_of}
use Rattle.vcd_amend.specs.Amendment.{AmendedCode, first_with_code}
use Rattle.vcd_amend.specs.FreshCodes.{fresh_code, is_fresh}
use Rattle.vcd_amend.specs.GivenCodes.{NewWave, free_code, coded_wave, coded_waves_from, also_taken, next_fresh}
use Rattle.vcd_amend.specs.inside.coding.Codes.{GetCodes, fresh_before, has_code, KnowsCodes}
use Rattle.vcd_amend.proofs.given_codes.FreshCodes.{one_longer, as_long, in_order}
use Rattle.vcd_amend.proofs.amended.OneCode.{same_bytes}

-- ==== the codes of waves, one wave after another

-- the amended codes of waves, with fresh codes from a number on
abbrev amended_from : (fresh : ℕ → List ℕ) → (taken : List (List ℕ)) → ℕ → List NewWave → List AmendedCode
amended_from fresh taken n ws = map (λ g. g.coded) (coded_waves_from fresh taken n ws)

module _ (fresh : ℕ → List ℕ) (taken : List (List ℕ)) (n : ℕ) (w : NewWave) (ws : List NewWave) where
  by_free : (o : Option (List ℕ)) → free_code taken w.own ≡ o → amended_from fresh taken n (w ∷ ws)
      ≡ (coded_wave fresh n w o).coded ∷ amended_from fresh (also_taken taken o) (next_fresh n o) ws
  by_free o is =
      ap (λ o. (coded_wave fresh n w o).coded ∷ amended_from fresh (also_taken taken o) (next_fresh n o) ws) is

  -- a wave whose own code is free
  gets_own : (code : List ℕ) → w.own ≡ Some code → is_one_of taken code ≡ false
      → amended_from fresh taken n (w ∷ ws) ≡ record { code = code; width = w.width; old = w.old; new = w.new }
      ∷ amended_from fresh (code ∷ taken) n ws
  gets_own code own free = by_free (Some code) (ap (free_code taken) own
      ∙ ap (λ (b : Bool). if b then None else Some code) free)

  -- one whose own code is taken
  gets_fresh : (code : List ℕ) → w.own ≡ Some code → is_one_of taken code ≡ true
      → amended_from fresh taken n (w ∷ ws) ≡ record { code = fresh n; width = w.width; old = []; new = w.new }
      ∷ amended_from fresh taken (n + 1) ws
  gets_fresh code own there = by_free None (ap (free_code taken) own ∙ ap (λ (b : Bool). if b then None else Some code)
      there)

-- ---- one after another

-- what is appended of the codes of waves
appended : (before after : List AmendedCode) (c : AmendedCode) (all rest : List AmendedCode)
    → after ≡ before ++ c ∷ [] → all ≡ c ∷ rest → before ++ all ≡ after ++ rest
appended before after c all rest put is = ap (λ l. before ++ l) is ∙ sym (append_assoc before (c ∷ []) rest) ∙ ap
    (λ l. l ++ rest) (sym put)

-- one more wave, after some
pub get_more : (s : ParseState) (before middle after : List AmendedCode) (taken between taken_after : List (List ℕ))
    (p q r : ℕ) (ws rest : List NewWave) (w : NewWave)
    → GetCodes s before taken p ws middle between q (w ∷ rest)
    → GetCodes s middle between q (w ∷ []) after taken_after r []
    → GetCodes s before taken p ws after taken_after r rest
get_more s before middle after taken between taken_after p q r ws rest w some one = λ tail.
    some tail ∙ one (rest ++ tail)

-- ---- one wave

module _ (s : ParseState) (old new : List AmendedCode) (taken : List (List ℕ)) (position : ℕ) (w : NewWave)
    (code : List ℕ) (own : w.own ≡ Some code) where
  -- it gets its own code
  pub get_own : is_one_of taken code ≡ false
      → new ≡ old ++ record { code = code; width = w.width; old = w.old; new = w.new } ∷ []
      → GetCodes s old taken position (w ∷ []) new (code ∷ taken) position []
  get_own free put = λ tail. appended old new _ _ _ put (gets_own (fresh_code s) taken (fresh_before s position) w tail
      code own free)

  -- or a fresh one
  pub get_fresh : (next : ℕ) → is_one_of taken code ≡ true
      → new ≡ old
      ++ record { code = fresh_code s (fresh_before s position); width = w.width; old = []; new = w.new } ∷ []
      → fresh_before s next ≡ fresh_before s position + 1
      → GetCodes s old taken position (w ∷ []) new taken next []
  get_fresh next there put more = λ tail. appended old new _ _ _ put
      (gets_fresh (fresh_code s) taken (fresh_before s position) w tail code own there
      ∙ ap (λ n. record {
        code = fresh_code s (fresh_before s position);
        width = w.width;
        old = [];
        new = w.new;
      } ∷ amended_from (fresh_code s) taken n tail) (sym more))

-- ==== the codes of a file that are known

some_of_both : (o : Option VariableDeclaration) (b : Bool) (d : VariableDeclaration)
    → is_some (option_or o (if b then Some d else None)) ≡ (b || is_some o)
some_of_both None true d = refl
some_of_both None false d = refl
some_of_both (Some e) true d = refl
some_of_both (Some e) false d = refl

-- one more variable
pub one_more_known : (ds : List VariableDeclaration) (d : VariableDeclaration) (code : List ℕ)
    → is_some (first_with_code code (ds ++ d ∷ [])) ≡ (bytes_eq code d.code || is_some (first_with_code code ds))
one_more_known ds d code = ap is_some (find-append (λ (e : VariableDeclaration). bytes_eq code e.code) ds (d ∷ []))
    ∙ some_of_both (first_with_code code ds) (bytes_eq code d.code) d

pub or_or : (a b c : Bool) → (a || (b || c)) ≡ ((a || b) || c)
or_or true b c = refl
or_or false b c = refl

-- ---- positions

not_true : (b : Bool) → not b ≡ true → b ≡ false
not_true true is = absurd (false≢true is)
not_true false is = refl

not_false : (b : Bool) → not b ≡ false → b ≡ true
not_false true is = refl
not_false false is = absurd (false≢true (sym is))

-- a code of a position that is not known is the next fresh one
module _ {S : Type 0} (known : IndexSet (Vec ℕ) S) (code : List ℕ) (position : ℕ) (is : code ≡ code_of position)
    (s : ParseState) (knows : KnowsCodes known s) where
  fresh_at : has_code known code ≡ false → is_fresh s (code_of position) ≡ true
  fresh_at none = not_false _ (sym (knows (code_of position)) ∙ ap (has_code known) (sym is) ∙ none)

  pub is_next : has_code known code ≡ false → code ≡ fresh_code s (fresh_before s position)
  is_next none = is ∙ sym (in_order s position (fresh_at none))

  pub counts : has_code known code ≡ false → fresh_before s (position + 1) ≡ fresh_before s position + 1
  counts none = one_longer s position (fresh_at none)

  -- one that is known is none
  pub passes : has_code known code ≡ true → fresh_before s (position + 1) ≡ fresh_before s position
  passes there = as_long s position (not_true _ (sym (knows (code_of position)) ∙ ap (has_code known) (sym is) ∙ there))

-- ==== a code that is put into a set

-- whether two keys are the same
abbrev pub same_key : Vec ℕ → Vec ℕ → Bool
same_key x y = bytes_eq x.items y.items

or_turned : (a b : Bool) → (a || (b || false)) ≡ (b || a)
or_turned a b = ap (λ x. a || x) (or-false b) ∙ or_comm a b

-- a code that is put into keys
pub added : (ks : List (Vec ℕ)) (v : Vec ℕ) (key : List ℕ)
    → list_any (λ (k : Vec ℕ). bytes_eq key k.items) (insert_key same_key ks v)
    ≡ (bytes_eq key v.items || list_any (λ (k : Vec ℕ). bytes_eq key k.items) ks)
added ks v key = elim (cases_Bool (list_any (same_key v) ks)) [
  | inl there ↦ rw there (elim (cases_Bool (bytes_eq key v.items)) [
    | inl same ↦ rw same (ap (λ x. list_any (λ (k : Vec ℕ). bytes_eq x k.items) ks) (same_bytes key v.items same)
        ∙ there)
    | inr other ↦ rw other refl
  ])
  | inr none ↦ rw none (list_any-append (λ (k : Vec ℕ). bytes_eq key k.items) ks (v ∷ []) ∙ or_turned _ _)
]
