-- Which skipped variables are listed after a word of a file.
use Rattle.std.proofs.Common.{◌≡◌, ℕ, ◌≤◌, Bool, true, false, List, [], ◌∷◌, ◌++◌, length, refl, sym, ap, subst, ◌∙◌}
use Rattle.std.proofs.Common.{arith, codes, inl, inr, if◌then◌else◌}
use Rattle.std.specs.Prelude.{IsTrue, option_to_list}
use Rattle.std.proofs.lemmas.Slice.Eq.{bytes_eq-Decides}
use Rattle.std.proofs.lemmas.Bool.{cases_Bool, both_ways, false≢true}
use Rattle.std.proofs.lemmas.List.{append-nil, map-append, length-append}
use Rattle.vcd_core.specs.Decimal.{is_number, number_of}
use Rattle.vcd_core.specs.declared.capture.HeaderKind.{HeaderKind}
use Rattle.vcd_core.specs.declared.capture.HeaderKind.TheVariants.{Date, Version, Comment}
use Rattle.vcd_text.specs.Words.{WordOnLine}
use Rattle.vcd_text.specs.Items.{Item, entry, timescale, scope, upscope, variable, end_definitions, stamp, scalar}
use Rattle.vcd_text.specs.Items.{vector, real_or_string, dump_word, other, spelling, header_word, end_word}
use Rattle.vcd_text.specs.Items.{is_other}
use Rattle.vcd_text.specs.Grammar.{ParseState, fits, state_after_item, declaration_of, word_texts}
use Rattle.vcd_text.specs.inside.reading.Declarations.{is_end_word}
use Rattle.vcd_text.specs.inside.reading.Part.{Asked}
use Rattle.vcd_text.specs.inside.reading.Parser.{ParserMatches, IsBegun, IsAtState, CollectsVariable}
use Rattle.vcd_text.specs.inside.reading.SkippedVariables.{HasSkipped, HearsWord, KnowsSize, listed_size, open_variable}
use Rattle.vcd_text.specs.declared.reading.parser.OpenItem.{OpenItem}
use Rattle.vcd_text.specs.declared.reading.parser.OpenItem.TheVariants as items
use Rattle.vcd_text.specs.declared.reading.parser.Parser.{Parser}
use Rattle.vcd_text.specs.declared.reading.skipped_variables.SkippedVariables.{SkippedVariables}
use Rattle.vcd_text.proofs.shared.FirstItem.{one_item}
use Rattle.vcd_text.proofs.shared.ItemTests.{fits_variable}
use Rattle.vcd_text.proofs.shared.NoWordLeft.{unfinished}
use Rattle.vcd_text.proofs.shared.ResultIsUnique.{goes_past}

-- ---- which item is open

abbrev is_variable : OpenItem → Bool
is_variable items.Variable = true
is_variable items.SizedVariable = true
is_variable item = false

no_header : (kind : HeaderKind) → header_word kind ≡ codes "$var" → ⊥
no_header Date is = cc
no_header Version is = cc
no_header Comment is = cc

no_command : (in_body : Bool) (word : List ℕ) → IsTrue (is_other in_body word) → word ≡ codes "$var" → ⊥
no_command true word is same = both_ways _ (ap (is_other true) same) is
no_command false word is same = both_ways _ (ap (is_other false) same) is

too_short : (ws rest : List (List ℕ)) (text a b c : List ℕ) → length ws ≤ 1 → ws ++ text ∷ [] ≡ a ∷ b ∷ c ∷ rest → ⊥
too_short ws rest text a b c few is = omega (arith, few, ap length is, length-append ws (text ∷ []))

-- the first of these words
keyword_is : (begun words rest : List (List ℕ)) (keyword text a b c : List ℕ) → begun ≡ keyword ∷ words
    → begun ++ text ∷ [] ≡ a ∷ b ∷ c ∷ rest → keyword ≡ a
keyword_is begun words rest keyword text a b c spelled is =
    let all = ap (λ ws. ws ++ text ∷ []) (sym spelled) ∙ is in cc all

-- only of a `$var` these words have come
no_other : (m : Parser) (begun : List WordOnLine) (item : OpenItem) (text a b : List ℕ) (rest : List (List ℕ))
    → IsBegun m begun item → word_texts begun ++ text ∷ [] ≡ codes "$var" ∷ a ∷ b ∷ rest → is_variable item ≡ true
no_other m begun items.Variable text a b rest is all = refl
no_other m begun items.SizedVariable text a b rest is all = refl
no_other m begun items.Nothing text a b rest is all =
    absurd (too_short _ rest text _ a b (subst (λ ws. length (word_texts ws) ≤ 1) (sym is) (omega arith)) all)
no_other m begun (items.Entry kind) text a b rest is all =
    absurd (no_header kind (keyword_is _ _ rest _ text _ a b is.spelled all))
no_other m begun items.Timescale text a b rest is all =
    absurd (let same = keyword_is _ _ rest _ text _ a b is.spelled all in cc same)
no_other m begun items.Scope text a b rest is all =
    absurd (let same = keyword_is _ _ rest _ text _ a b is.spelled all in cc same)
no_other m begun items.Upscope text a b rest is all =
    absurd (too_short _ rest text _ a b (omega (arith, ap length is.1)) all)
no_other m begun items.EndDefinitions text a b rest is all =
    absurd (too_short _ rest text _ a b (omega (arith, ap length is.1)) all)
no_other m begun items.Other text a b rest is all =
    absurd (no_command m.in_body is.keyword is.other (keyword_is _ _ rest _ text _ a b is.spelled all))
no_other m begun items.Vector text a b rest is all =
    absurd (too_short _ rest text _ a b (subst (λ ws. length (word_texts ws) ≤ 1) (sym is.is) (omega arith)) all)
no_other m begun items.RealOrString text a b rest (value, is) all =
    absurd (too_short _ rest text _ a b (subst (λ ws. length (word_texts ws) ≤ 1) (sym is.is) (omega arith)) all)

-- ---- the size

-- the third word, if at most one came between the keyword and it
last_of_two : (ws rest : List (List ℕ)) (text a b : List ℕ) → length ws ≤ 1 → ws ++ text ∷ [] ≡ a ∷ b ∷ rest
    → text ≡ b
last_of_two [] rest text a b few is = absurd (cc is)
last_of_two (w ∷ []) rest text a b few is = cc is
last_of_two (w ∷ v ∷ ws) rest text a b few is = absurd (omega (arith, few))

module _ (m : Parser) (begun : List WordOnLine) (w : WordOnLine) (was now : SkippedVariables) where
  -- the words of a variable that is open after a word
  abbrev all_words : List (List ℕ)
  all_words = word_texts (begun ++ w ∷ [])

  in_turn : all_words ≡ word_texts begun ++ w.text ∷ []
  in_turn = map-append (λ (x : WordOnLine). x.text) begun (w ∷ [])

  sized : (item : OpenItem) → IsBegun m begun item → KnowsSize item (word_texts begun) was
      → HearsWord item m w.text was now → (new : Parser) → (n : CollectsVariable new (begun ++ w ∷ []))
      → word_texts begun ++ w.text ∷ [] ≡ codes "$var" ∷ n.kind ∷ n.word ∷ n.following
      → now.size ≡ listed_size (number_of n.word)
  sized items.Variable is knows hears new n all =
      let one : w.text ≡ n.word = last_of_two m.words.items n.following w.text n.kind n.word is.1
      (let same = ap (λ ws. ws ++ w.text ∷ []) (sym is.0.spelled) ∙ all in cc same) in
      hears.0 (ap is_number one ∙ n.number) ∙ ap (λ word. listed_size (number_of word)) one
  sized items.SizedVariable is knows hears new n all =
      let one : is.word ≡ n.word = let same = ap (λ ws. ws ++ w.text ∷ []) (sym is.spelled) ∙ all in cc same in
      hears.0 ∙ (rw is.spelled at knows) ∙ ap (λ word. listed_size (number_of word)) one
  sized items.Nothing is knows hears new n all = absurd (false≢true (no_other m begun items.Nothing _ _ _ _ is all))
  sized (items.Entry kind) is knows hears new n all =
      absurd (false≢true (no_other m begun (items.Entry kind) _ _ _ _ is all))
  sized items.Timescale is knows hears new n all =
      absurd (false≢true (no_other m begun items.Timescale _ _ _ _ is all))
  sized items.Scope is knows hears new n all = absurd (false≢true (no_other m begun items.Scope _ _ _ _ is all))
  sized items.Upscope is knows hears new n all = absurd (false≢true (no_other m begun items.Upscope _ _ _ _ is all))
  sized items.EndDefinitions is knows hears new n all =
      absurd (false≢true (no_other m begun items.EndDefinitions _ _ _ _ is all))
  sized items.Other is knows hears new n all = absurd (false≢true (no_other m begun items.Other _ _ _ _ is all))
  sized items.Vector is knows hears new n all = absurd (false≢true (no_other m begun items.Vector _ _ _ _ is all))
  sized items.RealOrString is knows hears new n all =
      absurd (false≢true (no_other m begun items.RealOrString _ _ _ _ is all))

  -- the size of a variable is known after it
  pub size_known : (item : OpenItem) → IsBegun m begun item → KnowsSize item (word_texts begun) was
      → HearsWord item m w.text was now → (new : Parser) (next : OpenItem) → IsBegun new (begun ++ w ∷ []) next
      → KnowsSize next (word_texts (begun ++ w ∷ [])) now
  size_known item is knows hears new items.SizedVariable n =
      rw n.spelled (sized item is knows hears new n (sym in_turn ∙ n.spelled))
  size_known item is knows hears new items.Nothing n = tt
  size_known item is knows hears new (items.Entry kind) n = tt
  size_known item is knows hears new items.Timescale n = tt
  size_known item is knows hears new items.Scope n = tt
  size_known item is knows hears new items.Upscope n = tt
  size_known item is knows hears new items.Variable n = tt
  size_known item is knows hears new items.EndDefinitions n = tt
  size_known item is knows hears new items.Other n = tt
  size_known item is knows hears new items.Vector n = tt
  size_known item is knows hears new items.RealOrString n = tt

-- ---- the variables

-- an item that declares no variable adds none
none_declared : (c : ParseState) (i : Item) → ((a b d e : List ℕ) (rest : List (List ℕ))
    → i ≡ variable (a ∷ b ∷ d ∷ e ∷ rest) → ⊥) → (state_after_item c i).declared ≡ c.declared
none_declared c (variable []) none = append-nil c.declared
none_declared c (variable (a ∷ [])) none = append-nil c.declared
none_declared c (variable (a ∷ b ∷ [])) none = append-nil c.declared
none_declared c (variable (a ∷ b ∷ d ∷ [])) none = append-nil c.declared
none_declared c (variable (a ∷ b ∷ d ∷ e ∷ rest)) none = absurd (none a b d e rest refl)
none_declared c (entry kind words) none = refl
none_declared c (timescale words) none = refl
none_declared c (scope kind words) none = refl
none_declared c upscope none = refl
none_declared c end_definitions none = refl
none_declared c (stamp digits) none = refl
none_declared c (scalar digit code) none = refl
none_declared c (vector first digits code) none = refl
none_declared c (real_or_string first text code) none = refl
none_declared c (dump_word word) none = refl
none_declared c (other word words) none = refl

last_is : (ws vs : List (List ℕ)) (w v : List ℕ) → ws ++ w ∷ [] ≡ vs ++ v ∷ [] → w ≡ v
last_is [] [] w v is = cc is
last_is [] (y ∷ vs) w v is = absurd (omega (arith, ap length is, length-append (y ∷ vs) (v ∷ [])))
last_is (x ∷ ws) [] w v is = absurd (omega (arith, ap length is, length-append (x ∷ ws) (w ∷ [])))
last_is (x ∷ ws) (y ∷ vs) w v is = last_is ws vs w v (cc is)

module _ (asked : Asked) (m : Parser) (c : ParseState) (begun : List WordOnLine) (w : WordOnLine)
    (was now : SkippedVariables) (at : ParserMatches asked m c) where
  module _ (n : CollectsVariable m begun) (ends : is_end_word w.text ≡ true) where
    abbrev whole : Item
    whole = variable (n.kind ∷ n.word ∷ n.following)

    fits_here : IsTrue (fits c whole)
    fits_here = fits_variable c (n.kind ∷ n.word ∷ n.following) (sym at.in_body ∙ n.declares) n.no_end n.number

    spelled_here : word_texts begun ++ w.text ∷ [] ≡ spelling whole
    spelled_here = ap (λ ws. ws ++ w.text ∷ []) n.spelled
        ∙ ap (λ t. (codes "$var" ∷ n.kind ∷ n.word ∷ n.following) ++ t ∷ []) ((bytes_eq-Decides w.text end_word).0 ends)

    -- the `$end` of a variable ends it
    never_goes_on : (later : Asked) (new : Parser) → IsAtState later new c (begun ++ w ∷ []) → ⊥
    never_goes_on later new after =
        let due = (unfinished later new c (begun ++ w ∷ []) new.item after.0 after.1
        (rw (after.0.in_body ∙ sym at.in_body ∙ n.declares) refl)).1 in
        goes_past c (word_texts (begun ++ w ∷ [])) due.0 whole [] due.1 fits_here
        (map-append (λ (x : WordOnLine). x.text) begun (w ∷ []) ∙ spelled_here ∙ sym (append-nil _))

    item_ended : (i : Item) → IsTrue (fits c i) → spelling i ≡ word_texts begun ++ w.text ∷ [] → i ≡ whole
    item_ended i fit spelled =
        one_item c i whole [] [] fit fits_here (ap (λ ws. ws ++ []) (spelled ∙ spelled_here))

  -- the variable that its words declare
  opens : (kind word : List ℕ) (following : List (List ℕ)) → open_variable m (number_of word) (kind ∷ following)
      ≡ option_to_list (declaration_of c (kind ∷ word ∷ following))
  opens kind word [] = refl
  opens kind word (code ∷ []) = refl
  opens kind word (code ∷ name ∷ names) =
      ap (λ scopes. record {
        scopes = scopes;
        kind = kind;
        size = number_of word;
        code = code;
        words = name ∷ names;
      } ∷ []) at.variables.opened

  added : (n : CollectsVariable m begun) → KnowsSize items.SizedVariable (word_texts begun) was
      → HearsWord items.SizedVariable m w.text was now → HasSkipped was c.declared → (ends : Bool)
      → is_end_word w.text ≡ ends → HasSkipped now (c.declared
      ++ (if ends then option_to_list (declaration_of c (n.kind ∷ n.word ∷ n.following)) else []))
  added n knows hears has ends is =
      subst (λ ds. HasSkipped now (c.declared ++ (if ends then ds else []))) (opens n.kind n.word n.following)
      (subst (λ ws. HasSkipped now (c.declared ++ (if ends then open_variable m (number_of n.word) ws else []))) n.words
      (rw is at (hears.1 (number_of n.word) c.declared (rw n.spelled at knows) has)))

  stays_listed : (n : CollectsVariable m begun) → KnowsSize items.SizedVariable (word_texts begun) was
      → HearsWord items.SizedVariable m w.text was now → HasSkipped was c.declared → is_end_word w.text ≡ false
      → HasSkipped now c.declared
  stays_listed n knows hears has is = subst (HasSkipped now) (append-nil c.declared) (added n knows hears has false is)

  -- so it is after a word that goes on with an item
  pub listed_still : (item : OpenItem) → IsBegun m begun item → KnowsSize item (word_texts begun) was
      → HearsWord item m w.text was now → (later : Asked) (new : Parser) → IsAtState later new c (begun ++ w ∷ [])
      → HasSkipped was c.declared → HasSkipped now c.declared
  listed_still items.SizedVariable is knows hears later new after has =
      elim (cases_Bool (is_end_word w.text)) [
        | inl ends ↦ absurd (never_goes_on is ends later new after)
        | inr goes ↦ stays_listed is knows hears has goes
      ]
  listed_still items.Variable is knows hears later new after has = hears.1 c.declared has
  listed_still items.Nothing is knows hears later new after has = hears c.declared has
  listed_still (items.Entry kind) is knows hears later new after has = hears c.declared has
  listed_still items.Timescale is knows hears later new after has = hears c.declared has
  listed_still items.Scope is knows hears later new after has = hears c.declared has
  listed_still items.Upscope is knows hears later new after has = hears c.declared has
  listed_still items.EndDefinitions is knows hears later new after has = hears c.declared has
  listed_still items.Other is knows hears later new after has = hears c.declared has
  listed_still items.Vector is knows hears later new after has = hears c.declared has
  listed_still items.RealOrString is knows hears later new after has = hears c.declared has

  module _ (i : Item) (fit : IsTrue (fits c i)) (spelled : spelling i ≡ word_texts begun ++ w.text ∷ []) where
    abbrev Then : Type 0
    Then = HasSkipped now (state_after_item c i).declared

    -- the words of an item that declares a variable
    long_words : (a b d e : List ℕ) (rest : List (List ℕ)) → i ≡ variable (a ∷ b ∷ d ∷ e ∷ rest)
        → word_texts begun ++ w.text ∷ [] ≡ codes "$var" ∷ a ∷ b ∷ (d ∷ e ∷ rest) ++ end_word ∷ []
    long_words a b d e rest is = sym spelled ∙ ap spelling is

    same_list : ((a b d e : List ℕ) (rest : List (List ℕ)) → i ≡ variable (a ∷ b ∷ d ∷ e ∷ rest) → ⊥)
        → HasSkipped now c.declared → Then
    same_list none has = subst (HasSkipped now) (sym (none_declared c i none)) has

    unlike : (item : OpenItem) → IsBegun m begun item → is_variable item ≡ false → HasSkipped now c.declared → Then
    unlike item is apart has = same_list (λ a b d e rest one. both_ways _ apart
        (no_other m begun item w.text a b _ is (long_words a b d e rest one))) has

    -- and after a word that ends an item
    pub listed_then : (item : OpenItem) → IsBegun m begun item → KnowsSize item (word_texts begun) was
        → HearsWord item m w.text was now → HasSkipped was c.declared → Then
    listed_then items.SizedVariable is knows hears has =
        elim (cases_Bool (is_end_word w.text)) [
          | inl ends ↦ subst (λ j. HasSkipped now (state_after_item c j).declared) (sym (item_ended is ends i fit
              spelled)) (added is knows hears has true ends)
          | inr goes ↦ same_list (λ a b d e rest one. both_ways _ goes (ap is_end_word (last_is (word_texts begun)
              (codes "$var" ∷ a ∷ b ∷ d ∷ e ∷ rest) w.text end_word (long_words a b d e rest one)))) (stays_listed is
              knows hears has goes)
        ]
    listed_then items.Variable is knows hears has =
        same_list (λ a b d e rest one.
        omega (
          arith,
          is.1,
          ap length is.0.spelled,
          ap length (long_words a b d e rest one),
          length-append (word_texts begun) (w.text ∷ []),
        )) (hears.1 c.declared has)
    listed_then items.Nothing is knows hears has = unlike items.Nothing is refl (hears c.declared has)
    listed_then (items.Entry kind) is knows hears has = unlike (items.Entry kind) is refl (hears c.declared has)
    listed_then items.Timescale is knows hears has = unlike items.Timescale is refl (hears c.declared has)
    listed_then items.Scope is knows hears has = unlike items.Scope is refl (hears c.declared has)
    listed_then items.Upscope is knows hears has = unlike items.Upscope is refl (hears c.declared has)
    listed_then items.EndDefinitions is knows hears has = unlike items.EndDefinitions is refl (hears c.declared has)
    listed_then items.Other is knows hears has = unlike items.Other is refl (hears c.declared has)
    listed_then items.Vector is knows hears has = unlike items.Vector is refl (hears c.declared has)
    listed_then items.RealOrString is knows hears has = unlike items.RealOrString is refl (hears c.declared has)
