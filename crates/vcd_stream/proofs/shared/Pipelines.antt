-- Stages one into the next.
use Rattle.std.proofs.Common.{◌≡◌, ℕ, ◌+◌, ◌≤◌, ◌<◌, List, [], ◌∷◌, ◌++◌, length, take, drop, set, get_or, refl, sym}
use Rattle.std.proofs.Common.{ap, ◌∙◌, arith, append_assoc}
use Rattle.std.proofs.lemmas.List.{take_more_set, drop-set-lt, drop-drop, drop_all, take_all, append-nil, map-append}
use Rattle.vcd_core.specs.declared.bit.Bit.{Bit}
use Rattle.vcd_core.specs.declared.wave.Change.{Change}
use Rattle.vcd_edit.proofs.shared.Lists.{drop_here}
use Rattle.vcd_stream.specs.declared.stage.ChangeTo.{ChangeTo}
use Rattle.vcd_stream.specs.declared.stage.Stage.{Stage}
use Rattle.vcd_stream.specs.Stages.{seen, all_seen, given, given_by_all}

module _ {V : Type 0} (letters : V → List Bit) where
  pub given_last : (xs : List (Stage V)) (s : Stage V) (cs : List Change)
      → given_by_all letters (xs ++ s ∷ []) cs ≡ given letters s (given_by_all letters xs cs)
  unfolding given_by_all
  given_last [] s cs = refl
  given_last (x ∷ xs) s cs = given_last xs s (given letters x cs)

  given_first : (s : Stage V) (ss : List (Stage V)) (cs : List Change)
      → given_by_all letters (s ∷ ss) cs ≡ given_by_all letters ss (given letters s cs)
  unfolding given_by_all
  given_first s ss cs = refl

  given_no_stage : (cs : List Change) → given_by_all letters [] cs ≡ cs
  unfolding given_by_all
  given_no_stage cs = refl

  -- ---- one stage takes several changes

  pub took_one : (out old new : List (ChangeTo V)) (now after first : Stage V) (cs : List (ChangeTo V)) (i : ℕ)
      (c : ChangeTo V) → i < length cs → c ≡ get_or cs i c
      → ((more : List Change) → all_seen letters new ++ given letters after more
      ≡ all_seen letters out ++ given letters now (seen letters c ∷ more))
      → ((more : List Change) → all_seen letters out ++ given letters now (all_seen letters (drop i cs) ++ more)
      ≡ all_seen letters old ++ given letters first (all_seen letters cs ++ more))
      → (more : List Change) → all_seen letters new ++ given letters after (all_seen letters (drop (i + 1) cs) ++ more)
      ≡ all_seen letters old ++ given letters first (all_seen letters cs ++ more)
  took_one out old new now after first cs i c within at goes was more =
      goes (all_seen letters (drop (i + 1) cs) ++ more)
      ∙ ap (λ l. all_seen letters out ++ given letters now (all_seen letters l ++ more))
      (sym (drop_here cs i c within at))
      ∙ was more

  pub took_all : (out old : List (ChangeTo V)) (now first : Stage V) (cs : List (ChangeTo V)) (i : ℕ) → length cs ≤ i
      → ((more : List Change) → all_seen letters out ++ given letters now (all_seen letters (drop i cs) ++ more)
      ≡ all_seen letters old ++ given letters first (all_seen letters cs ++ more))
      → (more : List Change) → all_seen letters out ++ given letters now more
      ≡ all_seen letters old ++ given letters first (all_seen letters cs ++ more)
  took_all out old now first cs i past was more =
      ap (λ l. all_seen letters out ++ given letters now (all_seen letters l ++ more)) (sym (drop_all i cs past))
      ∙ was more

  -- ---- the stage at an index

  module _ (olds news : List (Stage V)) (i : ℕ) (within : i < length news) (left : drop i news ≡ drop i olds)
      (s after : Stage V) (at : s ≡ get_or news i s) where
    drop_next : (xs : List (Stage V)) → drop (i + 1) xs ≡ drop 1 (drop i xs)
    drop_next xs = sym (drop-drop 1 i xs)

    -- those after it took nothing yet
    pub left_more : drop (i + 1) (set news i after) ≡ drop (i + 1) olds
    left_more =
        drop-set-lt (i + 1) news i after (omega arith) ∙ drop_next news ∙ ap (drop 1) left ∙ sym (drop_next olds)

    here : drop i olds ≡ s ∷ drop (i + 1) olds
    here =
        sym left ∙ drop_here news i s within at
        ∙ ap (λ l. s ∷ l) (drop_next news ∙ ap (drop 1) left ∙ sym (drop_next olds))

    -- it takes what those before it give
    pub through_one : (batch next : List Change)
        → ((more : List Change) → next ++ given letters after more ≡ given letters s (batch ++ more))
        → (more : List Change)
        → given_by_all letters (drop (i + 1) olds) (next ++ given_by_all letters (take (i + 1) (set news i after)) more)
        ≡ given_by_all letters (drop i olds) (batch ++ given_by_all letters (take i news) more)
    through_one batch next goes more =
        ap (λ l. given_by_all letters (drop (i + 1) olds) (next ++ given_by_all letters l more))
        (take_more_set news i after within)
        ∙ ap (λ l. given_by_all letters (drop (i + 1) olds) (next ++ l)) (given_last (take i news) after more)
        ∙ ap (given_by_all letters (drop (i + 1) olds)) (goes (given_by_all letters (take i news) more))
        ∙ sym (given_first s (drop (i + 1) olds) (batch ++ given_by_all letters (take i news) more))
        ∙ ap (λ l. given_by_all letters l (batch ++ given_by_all letters (take i news) more)) (sym here)

  -- all of them
  pub through_all : (olds news : List (Stage V)) (i : ℕ) (batch more : List Change) → length news ≤ i
      → drop i news ≡ drop i olds
      → given_by_all letters (drop i olds) (batch ++ given_by_all letters (take i news) more)
      ≡ batch ++ given_by_all letters news more
  through_all olds news i batch more past left =
      ap (λ l. given_by_all letters l (batch ++ given_by_all letters (take i news) more))
      (sym left ∙ drop_all i news past)
      ∙ given_no_stage (batch ++ given_by_all letters (take i news) more)
      ∙ ap (λ l. batch ++ given_by_all letters l more) (take_all i news past)

  -- ---- what is left of stages

  -- one stage takes what is left of those before it, and gives what is left
  pub finish_one : (stages : List (Stage V)) (i : ℕ) (s after : Stage V) (batch mid new : List Change)
      → i < length stages → s ≡ get_or stages i s
      → ((more : List Change) → mid ++ given letters after more ≡ given letters s (batch ++ more))
      → new ≡ mid ++ given letters after []
      → given_by_all letters (drop (i + 1) stages) new ≡ given_by_all letters (drop i stages) batch
  finish_one stages i s after batch mid new within at goes put =
      ap (given_by_all letters (drop (i + 1) stages)) (put ∙ goes [] ∙ ap (given letters s) (append-nil batch))
      ∙ sym (given_first s (drop (i + 1) stages) batch)
      ∙ ap (λ l. given_by_all letters l batch) (sym (drop_here stages i s within at))

  pub finished_all : (stages : List (Stage V)) (i : ℕ) (batch fed : List Change) → length stages ≤ i
      → given_by_all letters (drop i stages) batch ≡ given_by_all letters stages fed
      → batch ≡ given_by_all letters stages fed
  finished_all stages i batch fed past was =
      sym (given_no_stage batch) ∙ ap (λ l. given_by_all letters l batch) (sym (drop_all i stages past)) ∙ was

  -- ---- what a pipeline gives of one change

  pub fed_one : (old new batch fed : List (ChangeTo V)) (c : ChangeTo V) (before after : List (Stage V))
      → new ≡ old ++ batch → fed ≡ c ∷ []
      → ((more : List Change) → all_seen letters batch ++ given_by_all letters after more
      ≡ given_by_all letters before (all_seen letters fed ++ more))
      → (more : List Change) → all_seen letters new ++ given_by_all letters after more
      ≡ all_seen letters old ++ given_by_all letters before (seen letters c ∷ more)
  fed_one old new batch fed c before after put one took more =
      ap (λ l. all_seen letters l ++ given_by_all letters after more) put
      ∙ ap (λ l. l ++ given_by_all letters after more) (map-append (seen letters) old batch)
      ∙ append_assoc (all_seen letters old) (all_seen letters batch) (given_by_all letters after more)
      ∙ ap (λ l. all_seen letters old ++ l) (took more)
      ∙ ap (λ l. all_seen letters old ++ given_by_all letters before (all_seen letters l ++ more)) one

  pub all_out : (old new batch fed : List (ChangeTo V)) (stages : List (Stage V)) → new ≡ old ++ batch
      → all_seen letters batch ≡ given_by_all letters stages (all_seen letters fed) → fed ≡ []
      → all_seen letters new ≡ all_seen letters old ++ given_by_all letters stages []
  all_out old new batch fed stages put finished none =
      ap (all_seen letters) put ∙ map-append (seen letters) old batch
      ∙ ap (λ l. all_seen letters old ++ l)
      (finished ∙ ap (λ l. given_by_all letters stages (all_seen letters l)) none)
