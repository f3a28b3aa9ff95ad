-- The state of the part means the part of the capture, with the comment.
use Rattle.std.proofs.Common.{◌≡◌, ℕ, ◌+◌, ◌-◌, ◌∙◌, ◌≤◌, Bool, true, false, not, ◌&&◌, List, [], ◌∷◌, ◌++◌, refl, ap}
use Rattle.std.proofs.Common.{sym, min, map, if◌then◌else◌, arith, inl, inr, length}
use Rattle.std.proofs.lemmas.List.Sums.{length-filter}
use Rattle.std.specs.Prelude.{filter, count_by}
use Rattle.vcd_core.specs.Contents.{SignalContents}
use Rattle.vcd_core.specs.Names.{full_name}
use Rattle.vcd_core.specs.Outline.{without_changes}
use Rattle.vcd_core.specs.Wave.{value_at}
use Rattle.vcd_core.proofs.shared.Waves.{changes_same, value_at-changes_of}
use Rattle.vcd_core.specs.declared.capture.HeaderKind.TheVariants.{Comment}
use Rattle.vcd_text.specs.Grammar.{ParseState, VariableDeclaration, ValueChange, is_skipped, kept_variables}
use Rattle.vcd_text.specs.Meaning.{meaning, declared_signal, changes_of_code}
use Rattle.vcd_text.specs.Parts.{part_of_signal}
use Rattle.vcd_text.specs.declared.reading.choice.TickRange.{TickRange}
use Rattle.vcd_part.specs.declared.request.Request.{Request}
use Rattle.vcd_part.specs.Requests.{keeps, keeps_name}
use Rattle.vcd_part.specs.PartLaws.{part_with_comment}
use Rattle.vcd_part.proofs.laws.signals.SameStatus.{HasOneStatus, IsIn}
use Rattle.vcd_part.proofs.laws.states.Windows.{IsInOrder}
use Rattle.vcd_part.proofs.laws.states.PartStates.{IsKept, in_part}
use Rattle.vcd_part.proofs.laws.states.PartChanges.{SameValues}

module _ (r : Request) (w : TickRange) (order : IsInOrder w) (words : List (List ℕ)) (s : ParseState)
    (more : List ValueChange) (one : HasOneStatus s.declared) (within : w.first ≤ s.tick)
    (same : SameValues r w s more) where
  -- the end of the part
  abbrev end : ℕ
  end = min w.last s.tick - w.first

  one_signal : (d : VariableDeclaration) → IsKept r s.declared d → declared_signal more end d
      ≡ part_of_signal w.first end (declared_signal s.value_changes s.tick d)
  one_signal d kept = ap (λ cs. record {
    scopes = d.scopes;
    kind = d.kind;
    words = d.words;
    width = d.size;
    changes = cs;
  }) (changes_same d.size end _ _ (λ t upto. same d kept t (omega (arith, order.order, within, upto)) ∙ sym
      (value_at-changes_of d.size s.tick (w.first + t) (value_at d.size (changes_of_code d.size d.code
      s.value_changes)) (omega (arith, order.order, within, upto)))))

  -- whether a signal is taken
  abbrev takes : SignalContents → Bool
  takes c = keeps_name r (full_name (without_changes c))

  all_signals : (ds : List VariableDeclaration) → ((d : VariableDeclaration) → IsIn d ds → IsIn d s.declared)
      → map (declared_signal more end) (kept_variables (filter (keeps r) ds))
      ≡ map (part_of_signal w.first end) (filter takes (map (declared_signal s.value_changes s.tick)
      (kept_variables ds)))
  all_signals [] within = refl
  all_signals (d ∷ ds) within = by_tests (keeps r d) (is_skipped d) refl refl (all_signals ds (λ e is. within e (inr
      is)))
    where
      by_tests : (x y : Bool) → keeps r d ≡ x → is_skipped d ≡ y
          → map (declared_signal more end) (kept_variables (filter (keeps r) ds))
          ≡ map (part_of_signal w.first end) (filter takes (map (declared_signal s.value_changes s.tick)
          (kept_variables ds)))
          → map (declared_signal more end) (kept_variables (if x then d ∷ filter (keeps r) ds else filter (keeps r) ds))
          ≡ map (part_of_signal w.first end) (filter takes (map (declared_signal s.value_changes s.tick) (if not y then
          d ∷ kept_variables ds else kept_variables ds)))
      by_tests true true kept skipped rest = rw skipped rest
      by_tests true false kept skipped rest =
          let head = one_signal d (record {
            signal = record { one = one; is_in = within d (inl refl); signal = skipped };
            kept = kept;
          }) in
          rw (skipped, kept) (λ i. head i ∷ rest i)
      by_tests false true kept skipped rest = rest
      by_tests false false kept skipped rest = rw kept rest

  pub part_is_meant : meaning (in_part r words s more end) ≡ part_with_comment r w words (meaning s)
  part_is_meant = ap (λ signals. record {
    header = s.header ++ record { kind = Comment; words = words } ∷ [];
    timescale = s.timescale;
    end = end;
    signals = signals;
  }) (all_signals s.declared (λ d is. is))

-- ---- the variables that are skipped

kept_twice : (keeps skips : VariableDeclaration → Bool) (ds : List VariableDeclaration)
    → filter (λ d. keeps d && skips d) ds ≡ filter skips (filter keeps ds)
kept_twice keeps skips [] = refl
kept_twice keeps skips (d ∷ ds) = by_tests (keeps d) (skips d) refl (kept_twice keeps skips ds)
  where
    by_tests : (x y : Bool) → skips d ≡ y → filter (λ d. keeps d && skips d) ds ≡ filter skips (filter keeps ds)
        → (if x && y then d ∷ filter (λ d. keeps d && skips d) ds else filter (λ d. keeps d && skips d) ds)
        ≡ filter skips (if x then d ∷ filter keeps ds else filter keeps ds)
    by_tests true true it rest = rw it (ap (λ (l : List VariableDeclaration). d ∷ l) rest)
    by_tests true false it rest = rw it rest
    by_tests false y it rest = rest

pub count_kept : (keeps skips : VariableDeclaration → Bool) (ds : List VariableDeclaration)
    → count_by (λ d. keeps d && skips d) ds ≡ count_by skips (filter keeps ds)
count_kept keeps skips ds = sym (length-filter (λ d. keeps d && skips d) ds) ∙ ap length (kept_twice keeps skips ds)
    ∙ length-filter skips (filter keeps ds)
