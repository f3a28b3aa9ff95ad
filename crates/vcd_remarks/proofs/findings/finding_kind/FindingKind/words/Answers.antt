-- The row that is found is that of the definition.
use Rattle.std.proofs.Common.{rules, tests, ◌≡◌, ℕ, Bool, true, false, if◌then◌else◌, Option, Some, None, List, [], ◌∷◌}
use Rattle.std.proofs.Common.{map, refl, ap, sym, ◌∙◌}
use Rattle.std.specs.Borrow.{Bor}
use Rattle.std.specs.List.{find}
use Rattle.std.specs.Option.{option_map, unwrap_or}
use Rattle.std.proofs.lemmas.Iterator.{YieldsList-from_slice}
use Rattle.std.proofs.lemmas.Iterator.Search.{find_from_yields_List}
use Rattle.vcd_remarks.specs.declared.findings.finding_kind.FindingKind.{FindingKind}
use Rattle.vcd_remarks.specs.declared.findings.finding_kind.TheConstants.{FINDINGS}
use Rattle.vcd_remarks.specs.Findings.{words_in}
use Rattle.vcd_remarks.specs.contracts.findings.finding_kind.FindingKindPartialEq.TheImpl as kinds
use Rattle.vcd_remarks.proofs.findings.finding_kind.FindingKind.words.Goals as goal

abbrev Row : Type 0
Row = FindingKind × Bor (List ℕ)

-- the words of the row that is found, or none
abbrev words_of : Option Row → List ℕ
words_of found = unwrap_or (option_map (λ (row : Row). row.1.now) found) []

-- those of a kind in a table, whose rows are lent or not
module _ {T : Type 0} (words : T → List ℕ) (own : Row → FindingKind × T)
    (same_kind : (row : Row) → (own row).0 ≡ row.0) (same_words : (row : Row) → words (own row).1 ≡ row.1.now)
    (kind : FindingKind) where
  in_table : (rows : List Row) → words_of (find (λ row. kinds.ghosts.eq row.0 kind) rows)
      ≡ words_in words (map own rows) kind
  unfolding words_in
  in_table [] = refl
  in_table (row ∷ rows) =
      by_test (kinds.ghosts.eq row.0 kind)
      ∙ (λ i. if kinds.ghosts.eq (sym (same_kind row) i) kind then sym (same_words row) i else in_table rows i)
    where
      by_test : (b : Bool) → words_of (if b then Some row else find (λ r. kinds.ghosts.eq r.0 kind) rows)
          ≡ (if b then row.1.now else words_of (find (λ r. kinds.ghosts.eq r.0 kind) rows))
      by_test true = refl
      by_test false = refl

  -- by what a search found in the rows that are lent
  module _ (rows : List Row) (table : List (FindingKind × T)) (same : map own rows ≡ table) {A : Type 0} (v : A → Row)
      (r : Option A) (found : option_map v r ≡ find (λ row. kinds.ghosts.eq row.0 kind) rows) where
    all_words : words_of (option_map v r) ≡ words_in words table kind
    all_words = ap words_of found ∙ in_table rows ∙ ap (λ rs. words_in words rs kind) same

    of_row : (row : A) → r ≡ Some row → (v row).1.now ≡ words_in words table kind
    of_row row some = ap (λ q. words_of (option_map v q)) (sym some) ∙ all_words

    of_none : r ≡ None → [] ≡ words_in words table kind
    of_none none = ap (λ q. words_of (option_map v q)) (sym none) ∙ all_words

pub returns-in-Some : goal.returns-in-Some
returns-in-Some c =
    let found = find_from_yields_List (λ row. kinds.ghosts.eq row.0 c.args.self) _ _ c.find.result c.find.ensures.ran
    (YieldsList-from_slice _ refl) (λ x b q k. search (rules, tests)) in
    of_row (λ words. words.now) (λ row. (row.0, record { now = row.1.now })) (λ row. refl) (λ row. refl) c.args.self
    c.iter.result.rest.now FINDINGS (ap (map (λ (row : Row). (row.0, record { now = row.1.now }))) c.iter.ensures.rest)
    _ _ found _ c.in-Some.is

pub returns-in-None : goal.returns-in-None
returns-in-None c =
    let found = find_from_yields_List (λ row. kinds.ghosts.eq row.0 c.args.self) _ _ c.find.result c.find.ensures.ran
    (YieldsList-from_slice _ refl) (λ x b q k. search (rules, tests)) in
    of_none (λ words. words.now) (λ row. (row.0, record { now = row.1.now })) (λ row. refl) (λ row. refl) c.args.self
    c.iter.result.rest.now FINDINGS (ap (map (λ (row : Row). (row.0, record { now = row.1.now }))) c.iter.ensures.rest)
    _ _ found c.in-None.is
