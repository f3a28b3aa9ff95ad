-- Variables that are compared have one width: they are signals of one size, or both are none.
use Rattle.std.proofs.Common.{◌≡◌, ℕ, ◌-◌, ◌<◌, ◌≤◌, ◌==◌, Bool, true, false, List, length, refl, sym, ap, ◌∙◌, subst}
use Rattle.std.proofs.Common.{inl, inr, arith, Option, Some, None}
use Rattle.std.specs.Prelude.{slice_get, if◌then◌else◌}
use Rattle.std.proofs.lemmas.Bool.{cases_Bool, eqb-true}
use Rattle.std.proofs.lemmas.List.{length-map}
use Rattle.std.proofs.lemmas.List.FromFn.{get_or-map-range_with_len, length-map-range_with_len}
use Rattle.std.proofs.lemmas.Option.{slice_get_within, get_or_from_slice_get}
use Rattle.vcd_core.specs.Contents.{Contents, signal_at}
use Rattle.vcd_core.specs.Names.{full_name, full_names}
use Rattle.vcd_core.specs.declared.value.TheConstants.{WIDTH_LIMIT}
use Rattle.vcd_text.specs.Grammar.{VariableDeclaration, ParseState, kept_variables}
use Rattle.vcd_compare.specs.Captures.{mapped_names, outcome_of, outcome_at, outcomes_of}
use Rattle.vcd_compare.specs.Pairs.{partner_of}
use Rattle.vcd_compare.specs.Variables.{compared_width}
use Rattle.vcd_compare.specs.inside.Outcomes.{width_at}
use Rattle.vcd_compare.specs.inside.Planning.{AllComparable, HasDeclared, planned_variables}
use Rattle.vcd_compare.specs.inside.Walk.{all_variables, is_kept_at}
use Rattle.vcd_compare.specs.declared.request.CompareRequest.{CompareRequest}
use Rattle.vcd_compare.specs.declared.comparison.Outcome.TheVariants as outcomes
use Rattle.vcd_compare.specs.declared.variables.PlannedVariable.{PlannedVariable}
use Rattle.vcd_compare.proofs.outcomes.Told.{width_is, as_many}
use Rattle.vcd_compare.proofs.pairing.Positions.{partner_within}
use Rattle.vcd_compare.proofs.variables.Listed.{all_counted}
use Rattle.vcd_compare.proofs.variables.Positions.{declared_at, at_kept, at_skipped, entry_width, skipped_entry_width}
use Rattle.vcd_compare.proofs.variables.Positions.{kept_size, IsNoSize, no_signal_size}

one_partner : (i j : ℕ) (b : Bool) → (if b then outcomes.Compared i else outcomes.OtherWidth i) ≡ outcomes.Compared j
    → (i ≡ j) × (b ≡ true)
one_partner i j true is = (grind arith, refl)
one_partner i j false is = absurd (cc)

-- of a variable that is compared its partner is known, and has its width
compared_by : (a b : Contents) (k j : ℕ) (asked : Bool) (o : Option ℕ)
    → (if asked then outcome_of a b k o else outcomes.NotAsked) ≡ outcomes.Compared j
    → (o ≡ Some j) × ((signal_at a k).width ≡ (signal_at b j).width)
compared_by a b k j false o is = absurd (cc)
compared_by a b k j true None is = absurd (cc)
compared_by a b k j true (Some i) is =
    let found = one_partner i j ((signal_at a k).width == (signal_at b i).width) is in (
      ap (λ n. Some n) found.0,
      eqb-true _ _ found.1 ∙ ap (λ n. (signal_at b n).width) found.0,
    )

no_size : (n : ℕ) → 1 ≤ n → n ≤ WIDTH_LIMIT → IsNoSize n → ⊥
no_size n least most (inl none) = omega (arith, least, none)
no_size n least most (inr many) = omega (arith, most, many)

-- two variables of one width are signals of one size, or both are none
module _ (ds es : List VariableDeclaration) (k j : ℕ) (d e : VariableDeclaration)
    (at : slice_get (all_variables ds) k ≡ Some d) (at_other : slice_get (all_variables es) j ≡ Some e)
    (same : width_at (planned_variables ds) k ≡ width_at (planned_variables es) j) where
  pub one_kind : is_kept_at ds k ≡ is_kept_at es j
  one_kind =
      elim (cases_Bool (is_kept_at ds k)) [
        | inl here ↦ elim (cases_Bool (is_kept_at es j)) [
          | inl there ↦ here ∙ sym there
          | inr past ↦
              let size = kept_size ds k d (at_kept ds k d at here) in
              let width : d.size ≡ compared_width e =
              sym (entry_width ds k d at here) ∙ same ∙ skipped_entry_width es j e at_other past in
              absurd (no_size d.size size.0 size.1 (subst IsNoSize (sym width)
              (no_signal_size es (j - length (kept_variables es)) e (at_skipped es j e at_other past))))
        ]
        | inr past ↦ elim (cases_Bool (is_kept_at es j)) [
          | inl there ↦
              let size = kept_size es j e (at_kept es j e at_other there) in
              let width : e.size ≡ compared_width d =
              sym (entry_width es j e at_other there) ∙ sym same ∙ skipped_entry_width ds k d at past in
              absurd (no_size e.size size.0 size.1 (subst IsNoSize (sym width)
              (no_signal_size ds (k - length (kept_variables ds)) d (at_skipped ds k d at past))))
          | inr there ↦ past ∙ sym there
        ]
      ]

  pub one_size : is_kept_at ds k ≡ true → d.size ≡ e.size
  one_size here =
      sym (entry_width ds k d at here) ∙ same ∙ entry_width es j e at_other (sym one_kind ∙ here)

module _ (r : CompareRequest) (a b : Contents) (s t : ParseState) (own : HasDeclared s a) (other : HasDeclared t b)
  where
    abbrev planned : ParseState → List PlannedVariable
    planned c = planned_variables c.declared

    pub all_comparable : AllComparable s.declared t.declared (outcomes_of r a b)
    all_comparable k j at =
        let n = length a.signals in
        let within : k < n =
        omega (
          arith,
          slice_get_within (outcomes_of r a b) k (outcomes.Compared j) at,
          length-map-range_with_len (outcome_at r a b) 0 n,
        ) in
        let is : outcome_at r a b k ≡ outcomes.Compared j =
        sym (get_or-map-range_with_len (outcome_at r a b) 0 n k k outcomes.NotAsked within (omega arith))
        ∙ get_or_from_slice_get (outcomes_of r a b) k (outcomes.Compared j) outcomes.NotAsked at in
        let found = compared_by a b k j _ (partner_of (mapped_names r a) (full_names b.signals) k) is in
        let inside : j < length b.signals =
        omega (
          arith,
          partner_within (mapped_names r a) (full_names b.signals) k j found.0,
          length-map b.signals full_name,
        ) in
        let d = declared_at (all_variables s.declared) k (omega (
          arith,
          within,
          as_many (planned s) a own.widths,
          all_counted s.declared (planned s) refl,
        )) in
        let e = declared_at (all_variables t.declared) j (omega (
          arith,
          inside,
          as_many (planned t) b other.widths,
          all_counted t.declared (planned t) refl,
        )) in
        let same : width_at (planned s) k ≡ width_at (planned t) j =
        width_is (planned s) a k own.widths ∙ found.1 ∙ sym (width_is (planned t) b j other.widths) in
        record {
          own = d.0;
          partner = e.0;
          at_first = d.1;
          at_second = e.1;
          one_kind = one_kind s.declared t.declared k j d.0 e.0 d.1 e.1 same;
          one_size = one_size s.declared t.declared k j d.0 e.0 d.1 e.1 same;
        }
