-- What an amendment that fits a file says of the variables of the amended file, kept and skipped, and of its
-- codes.
use Rattle.std.proofs.Common.{◌≡◌, ℕ, ◌+◌, ◌<◌, ◌≤◌, Bool, true, false, not, ◌∙◌, All, ◌||◌, ◌&&◌, List, [], ◌∷◌, ◌++◌}
use Rattle.std.proofs.Common.{map, length, Option, Some, None, ◌==◌, refl, sym, ap, arith, inl, inr, if◌then◌else◌}
use Rattle.std.proofs.Common.{subst, nat_lt}
use Rattle.std.specs.Prelude.{bytes_eq}
use Rattle.std.proofs.lemmas.Bool.{cases_Bool, false≢true, lt-ltb, eq-eqb}
use Rattle.std.proofs.lemmas.List.{length-append, length-map}
use Rattle.std.proofs.lemmas.List.Elements.{All-nil, All-cons, All-head, All-weaker, filter-append}
use Rattle.std.proofs.lemmas.Option.{same_Some}
use Rattle.vcd_core.specs.Word.{is_word}
use Rattle.vcd_core.specs.Wave.{value_at}
use Rattle.vcd_core.proofs.shared.Waves.{value_at-changes_of}
use Rattle.vcd_text.specs.Grammar.{ParseState, VariableDeclaration, is_skipped, kept_variables, may_have_code}
use Rattle.vcd_text.specs.Meaning.{changes_of_code}
use Rattle.vcd_copy.proofs.pieces.Cuts.{all_parts}
use Rattle.vcd_amend.specs.Amendment.{Amendment, AmendedCode, Fate, stays, fate_of, amended_variables, first_with_code}
use Rattle.vcd_amend.specs.Amendment.{amended_code}
use Rattle.vcd_amend.specs.AmendedMeaning.{AreApart, class_of, FitsCode, FitsFate, FitsAmendedCode, FitsFile}
use Rattle.vcd_amend.specs.AmendedMeaning.{amended_signal}
use Rattle.vcd_amend.proofs.amended.OneCode.{same_bytes, itself}
use Rattle.vcd_amend.proofs.shared.Lists.{found_has, found_is, is_there, each_of_both, at_position}
use Rattle.vcd_amend.proofs.amended.Due.{TakesValues}
use Rattle.vcd_amend.proofs.amended.Body.{Serves}
use Rattle.vcd_amend.proofs.amended.Changes.{IsOldAt}

-- ==== what an amendment that fits a file says of the variables of the amended file, and of its codes

-- ---- classes and the test of a code

test_by_class : (s t : Bool) (m n : ℕ) → (if s then None else Some m) ≡ (if t then None else Some n)
    → ((s && t) || (not s && not t && (m == n))) ≡ true
test_by_class true true m n same = refl
test_by_class true false m n same = absurd (cc)
test_by_class false true m n same = absurd (cc)
test_by_class false false m n same = eq-eqb m n (same_Some m n same)

test_from_class : (o : Option VariableDeclaration) (d : VariableDeclaration)
    → ((e : VariableDeclaration) → o ≡ Some e → class_of e ≡ class_of d) → may_have_code o d ≡ true
test_from_class None d same = refl
test_from_class (Some x) d same = test_by_class (is_skipped x) (is_skipped d) x.size d.size (same x refl)

-- the width of a variable that has one
size_by_class : (s : Bool) (m n : ℕ) → (if s then None else Some m) ≡ Some n → (s ≡ false) × (m ≡ n)
size_by_class true m n same = absurd (cc)
size_by_class false m n same = (refl, same_Some m n same)

pub size_of_class : (d : VariableDeclaration) (width : ℕ) → class_of d ≡ Some width
    → (is_skipped d ≡ false) × (d.size ≡ width)
size_of_class d width same = size_by_class (is_skipped d) d.size width same

-- variables that fit one code are of one class
same_class : (o : Option AmendedCode) (first : Option VariableDeclaration) (d e : VariableDeclaration)
    → FitsCode o first d → FitsCode o first e → class_of d ≡ class_of e
same_class (Some c) first d e fits fitting = fits ∙ sym fitting
same_class None (Some x) d e fits fitting = fits ∙ sym fitting
same_class None None d e fits fitting = absurd fits

word_some : (w : List ℕ) → is_word w ≡ true → 0 < length w
word_some [] word = absurd (false≢true word)
word_some (b ∷ bs) word = omega arith

-- each amended code is found by itself
pub found_apart : (cs : List AmendedCode) → AreApart cs → All (λ c. amended_code c.code cs ≡ Some c) cs
found_apart [] apart = All-nil (λ (c : AmendedCode). amended_code c.code [] ≡ Some c)
found_apart (c ∷ cs) (first, apart) = All-cons (λ (x : AmendedCode). amended_code x.code (c ∷ cs) ≡ Some x) c cs (rw
    (itself c.code) refl) (All-weaker (λ (x : AmendedCode). amended_code x.code cs ≡ Some x) (λ (x : AmendedCode).
    amended_code x.code (c ∷ cs) ≡ Some x) later cs (found_apart cs apart))
  where
    later : (x : AmendedCode) → amended_code x.code cs ≡ Some x → amended_code x.code (c ∷ cs) ≡ Some x
    later x found = elim (cases_Bool (bytes_eq x.code c.code)) [
      | inl same ↦
          let never : None ≡ Some x = sym first ∙ ap (λ k. amended_code k cs) (sym (same_bytes x.code c.code same))
          ∙ found
          in absurd (cc)
      | inr beside ↦ rw beside found
    ]

module _ (a : Amendment) (s : ParseState) (fit : FitsFile a s) where
  abbrev pub ours : List VariableDeclaration
  ours = amended_variables a s.declared

  -- a variable fits its code
  abbrev pub Fits : VariableDeclaration → Type 0
  Fits d = FitsCode (amended_code d.code a.codes) (first_with_code d.code s.declared) d

  -- ---- one variable among all

  module _ (xs : List VariableDeclaration) (e : VariableDeclaration) (ys : List VariableDeclaration)
      (is : ours ≡ xs ++ e ∷ ys) where
    parts : All Fits xs × All Fits (e ∷ ys)
    parts = all_parts Fits xs (e ∷ ys) (subst (All Fits) is fit.variables)

    pub fits_here : Fits e
    fits_here = All-head Fits e ys parts.1

    -- after those before it, it can have its code
    pub may_have : may_have_code (first_with_code e.code xs) e ≡ true
    may_have = test_from_class (first_with_code e.code xs) e (λ f found. same_class (amended_code e.code a.codes)
        (first_with_code e.code s.declared) f e (subst (λ k. FitsCode (amended_code k a.codes) (first_with_code k
        s.declared) f) (sym (same_bytes e.code f.code (found_is (λ (d : VariableDeclaration). bytes_eq e.code d.code) xs
        f found))) (found_has Fits (λ (d : VariableDeclaration). bytes_eq e.code d.code) xs f parts.0 found)) fits_here)

    -- there is room for it
    pub has_room : (is_skipped e || nat_lt (length (kept_variables xs)) s.limit) ≡ true
    has_room = elim (cases_Bool (is_skipped e)) [
      | inl skipped ↦ rw skipped refl
      | inr kept ↦
          let some : length (kept_variables (e ∷ ys)) ≡ 1 + length (kept_variables ys) = rw kept (omega arith) in
          let whole : length (kept_variables ours) ≡ length (kept_variables xs) + length (kept_variables (e ∷ ys)) = ap
          (λ l. length (kept_variables l)) is ∙ ap length (filter-append (λ d. not (is_skipped d)) xs (e ∷ ys))
          ∙ length-append (kept_variables xs) _ in
          let all : length (map (amended_signal a s) (kept_variables ours)) ≡ length (kept_variables ours) = length-map
          (kept_variables ours) (amended_signal a s) in
          let less : length (kept_variables xs) < s.limit = omega (arith, some, whole, all, fit.few) in
          rw kept (lt-ltb _ _ less)
    ]

  -- ---- fates

  by_kind : (b : Bool) (f : Fate) → FitsFate f → FitsFate (if b then stays else f)
  by_kind true f fits = tt
  by_kind false f fits = fits

  pub fate_fits : (before : List VariableDeclaration) (d : VariableDeclaration) → FitsFate (fate_of a before d)
  fate_fits before d = by_kind (is_skipped d) _ (at_position FitsFate a.fates (length (kept_variables before)) stays
      fit.fates tt)

  -- ---- amended codes

  takes_values : (c : AmendedCode) → FitsAmendedCode a s c → amended_code c.code a.codes ≡ Some c → TakesValues ours c
  takes_values c fits found =
      let there = is_there (first_with_code c.code ours) fits.used in
      let e : VariableDeclaration = there.0 in
      let same : c.code ≡ e.code = same_bytes c.code e.code (found_is (λ (d : VariableDeclaration). bytes_eq c.code
      d.code) ours e there.1) in
      let fit_e : Fits e = found_has Fits (λ (d : VariableDeclaration). bytes_eq c.code d.code) ours e fit.variables
      there.1
      in
      let class : class_of e ≡ Some c.width = subst (λ o. FitsCode o (first_with_code e.code s.declared) e)
      (ap (λ k. amended_code k a.codes) (sym same) ∙ found) fit_e in
      let sized = size_of_class e c.width class in
      record {
        variable = e;
        found = there.1;
        kept = sized.0;
        size = sized.1;
        coded = word_some c.code fits.word;
        wave = fits.new;
      }

  pub fits_of : (code : List ℕ) (c : AmendedCode) → amended_code code a.codes ≡ Some c
      → FitsAmendedCode a s c × (code ≡ c.code)
  fits_of code c found = (
    found_has (FitsAmendedCode a s) (λ (c : AmendedCode). bytes_eq code c.code) a.codes c fit.codes
        found,
    same_bytes code c.code (found_is (λ (c : AmendedCode). bytes_eq code c.code) a.codes c found),
  )

  old_fits : (code : List ℕ) (c : AmendedCode) (d : VariableDeclaration) → amended_code code a.codes ≡ Some c
      → first_with_code code s.declared ≡ Some d → class_of d ≡ Some c.width
  old_fits code c d found first =
      let fits = fits_of code c found in
      fits.0.fits d (ap (λ k. first_with_code k s.declared) (sym fits.1) ∙ first)

  -- a variable of the amended file is of the class of the code in the file
  like_old : (o : Option AmendedCode) (code : List ℕ) (d e : VariableDeclaration) → amended_code code a.codes ≡ o
      → first_with_code code s.declared ≡ Some d → FitsCode o (first_with_code code s.declared) e → class_of d
      ≡ class_of e
  like_old None code d e none first fits = sym (subst (λ x. FitsCode None x e) first fits)
  like_old (Some c) code d e found first fits = old_fits code c d found first ∙ sym fits

  pub serves : Serves a s.declared
  serves = record {
    apart = fit.apart;
    takes = each_of_both (FitsAmendedCode a s) (λ c. amended_code c.code a.codes ≡ Some c) (TakesValues ours)
        takes_values
        a.codes fit.codes (found_apart a.codes fit.apart);
    fits = old_fits;
    alike = λ code d e first left.
        let same : e.code ≡ code = sym (same_bytes code e.code (found_is (λ (d : VariableDeclaration). bytes_eq code
        d.code) ours e left)) in
        like_old (amended_code code a.codes) code d e refl first (subst (λ k. FitsCode (amended_code k a.codes)
        (first_with_code k s.declared) e) same (found_has Fits (λ (d : VariableDeclaration). bytes_eq code d.code) ours
        e fit.variables
        left));
  }

  pub is_old : (u : ℕ) → u ≤ s.tick → IsOldAt a s u
  unfolding changes_of_code
  is_old u upto code c found =
      let fits = fits_of code c found in
      sym (ap (λ cs. value_at c.width cs u) fits.0.old ∙ value_at-changes_of c.width s.tick u (value_at c.width
      (changes_of_code c.width c.code s.value_changes)) upto ∙ ap (λ k. value_at c.width (changes_of_code c.width k
      s.value_changes) u) (sym fits.1))
