use Rattle.std.proofs.Common.{◌≡◌, ℕ, ◌+◌, ◌==◌, Bool, true, false, List, [], ◌∷◌, length, sym, ap, ◌∙◌, arith, rules}
use Rattle.std.proofs.Common.{◌++◌, append_assoc, refl}
use Rattle.std.specs.List.{list_all}
use Rattle.std.proofs.lemmas.List.Folds.{list_all-append}
use Rattle.std.proofs.lemmas.Bool.{and_from, ne_eqb}
use Rattle.std.proofs.lemmas.Bool.Decides.{Decides-eqb}
use Rattle.vcd_core.specs.Word.{is_white_space}
use Rattle.vcd_text.specs.inside.Words.{words_from}
use Rattle.vcd_text.proofs.shared.WordsInTurn.{space_passed, feed_first, other_first}
use Rattle.vcd_text.proofs.words.after_space.Goals as goal

-- a line feed, or other white space, is line_feeds
passed_feed : (end_counts : Bool) (line b : ℕ) (bs text : List ℕ) → text ≡ b ∷ bs → is_white_space b ≡ true → b ≡ 10
    → words_from end_counts [] (line + 1) bs ≡ words_from end_counts [] line text
passed_feed end_counts line b bs text is space feed = grind (arith, Decides-eqb, space_passed)

passed_other : (end_counts : Bool) (line b : ℕ) (bs text : List ℕ) → text ≡ b ∷ bs → is_white_space b ≡ true
    → (b == 10) ≡ false → words_from end_counts [] line bs ≡ words_from end_counts [] line text
passed_other end_counts line b bs text is space other = grind (arith, space_passed)

-- one more byte of white space was passed
more_space : (text rest bs : List ℕ) (b : ℕ) → ((space : List ℕ) × (text ≡ space ++ rest)
    × (list_all is_white_space space ≡ true)) → rest ≡ b ∷ bs → is_white_space b ≡ true
    → ((space : List ℕ) × (text ≡ space ++ bs) × (list_all is_white_space space ≡ true))
more_space text rest bs b (space, is, white) first here = (
  space ++ b ∷ [],
  is ∙ ap (λ l. space ++ l) first ∙ sym (append_assoc space (b ∷ []) bs),
  list_all-append is_white_space space (b ∷ []) ∙ and_from (list_all is_white_space space) (list_all is_white_space (b
      ∷ [])) white (and_from (is_white_space b) true here refl),
)

pub loop-byte-preserved-then-byte-eq10 : goal.loop-byte-preserved-then-byte-eq10
loop-byte-preserved-then-byte-eq10 c =
    let prefix : c.loop-byte.rest.now ≡ c.in-Some.byte.now ∷ c.in-Some.following.now = search rules in
    let space : is_white_space c.in-Some.byte.now ≡ true = sym c.is_white_space.ensures
    ∙ c.if-not-is_white_space.false in
    let long = ap (length {A = ℕ}) prefix in (
      λ end_counts. passed_feed end_counts (c.loop-byte.lines + 1) _ _ _ prefix space c.if-byte-eq10.true
          ∙ c.loop-byte.invariant.0 end_counts,
      omega (arith, c.loop-byte.invariant.1, long),
      omega (arith, c.loop-byte.invariant.2, feed_first _ _ _ prefix c.if-byte-eq10.true),
      more_space _ _ _ _ c.loop-byte.invariant.3 prefix space,
    )

pub loop-byte-preserved : goal.loop-byte-preserved
loop-byte-preserved c =
    let prefix : c.loop-byte.rest.now ≡ c.in-Some.byte.now ∷ c.in-Some.following.now = search rules in
    let space : is_white_space c.in-Some.byte.now ≡ true = sym c.is_white_space.ensures
    ∙ c.if-not-is_white_space.false in
    let long = ap (length {A = ℕ}) prefix in
    let other = ne_eqb _ _ c.if-byte-eq10.false in (
      λ end_counts. passed_other end_counts (c.loop-byte.lines + 1) _ _ _ prefix space other
          ∙ c.loop-byte.invariant.0 end_counts,
      omega (arith, c.loop-byte.invariant.1, long),
      omega (arith, c.loop-byte.invariant.2, other_first _ _ _ prefix other),
      more_space _ _ _ _ c.loop-byte.invariant.3 prefix space,
    )
