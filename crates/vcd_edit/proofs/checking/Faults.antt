-- What holds if an edit has no fault, and whether another signal has a name.
use Rattle.std.proofs.Common.{◌≡◌, ◌<◌, ◌≤◌, ℕ, Bool, true, false, if◌then◌else◌, IsTrue, List, [], ◌∷◌, length, Option}
use Rattle.std.proofs.Common.{Some, None, refl, arith, ◌-◌, ◌+◌, add-one, ◌||◌, suc, map, take, drop, get_or, sym, ◌∙◌}
use Rattle.std.proofs.Common.{ap}
use Rattle.std.specs.Prelude.{◌&&◌, nat_lt, nat_le}
use Rattle.std.specs.List.{list_all, list_any, remove}
use Rattle.std.proofs.lemmas.Bool.{and_parts, or_left}
use Rattle.std.proofs.lemmas.Bool.Decides.{nat_tests}
use Rattle.std.specs.Str.{bytes_eq}
use Rattle.std.proofs.lemmas.List.{map-append, take-map, drop-map, take_rest}
use Rattle.std.proofs.lemmas.List.Folds.{list_any-append}
use Rattle.vcd_core.specs.Contents.{Contents, signal_at, no_signal}
use Rattle.vcd_core.specs.Tests.{Test, first_fault}
use Rattle.vcd_core.specs.declared.capture.Signal.{Signal}
use Rattle.vcd_core.specs.CaptureContents.{signal_contents}
use Rattle.vcd_core.specs.Names.{full_name, full_names}
use Rattle.vcd_edit.specs.declared.edit.Edit.{Edit}
use Rattle.vcd_edit.specs.declared.edit.Formula.{Formula}
use Rattle.vcd_edit.specs.declared.edit.Formula.TheVariants.{Negation, Pair, BitSelect}
use Rattle.vcd_edit.specs.declared.fault.EditError.{EditError}
use Rattle.vcd_edit.specs.Effect.{first_operand, renamed_signal}
use Rattle.vcd_edit.specs.inside.plans.Derive.{HasOperands}
use Rattle.vcd_edit.specs.EditFaults.{is_signal, is_scalar, operands, width_test, edit_tests, edit_fault}
use Rattle.vcd_edit.proofs.exchange.ExchangedPieces.{contents_at}

-- ==== what holds if an edit has no fault: all its tests

-- each test holds
abbrev pub AllHold : List (Test EditError) → Type 0
AllHold [] = Unit {0}
AllHold (test ∷ tests) = IsTrue test.holds × AllHold tests

-- a test that fails would be the first
holds_first : (b : Bool) (fault : EditError) (rest : Option EditError) → (if b then rest else Some fault) ≡ None
    → IsTrue b × (rest ≡ None)
holds_first true fault rest none = (refl, none)
holds_first false fault rest none = absurd (cc)

all_hold : (tests : List (Test EditError)) → first_fault tests ≡ None → AllHold tests
all_hold [] none = tt
all_hold (test ∷ tests) none =
    let first = holds_first test.holds test.fault (first_fault tests) none in (first.0, all_hold tests first.1)

pub no_fault : (e : Edit) (c : Contents) → edit_fault e c ≡ None → AllHold (edit_tests e c)
unfolding edit_fault
no_fault e c none = all_hold (edit_tests e c) none

-- a position below the number of signals
pub position_below : (c : Contents) (k : ℕ) → IsTrue (is_signal c k) → k < length c.signals
position_below c k is = grind (arith, nat_tests)

-- a range of ticks up to a limit
pub range_within : (from to limit : ℕ) → IsTrue (nat_lt from to && nat_le to limit) → (from < to) × (to ≤ limit)
range_within from to limit is =
    let both = and_parts (nat_lt from to) (nat_le to limit) is in (grind (arith, nat_tests), grind (arith, nat_tests))

pair_holds : (p : ℕ → Bool) (a b : ℕ) → IsTrue (list_all p (a ∷ b ∷ [])) → IsTrue (p a) × IsTrue (p b)
pair_holds p a b all =
    let first = and_parts (p a) (list_all p (b ∷ [])) all in (first.0, (and_parts (p b) true first.1).0)

-- the signal has one bit
one_bit : (c : Contents) (k : ℕ) → IsTrue (is_scalar c k) → (signal_at c k).width ≡ 1
one_bit c k is = grind (arith, nat_tests)

only_there : (c : Contents) (a : ℕ) → IsTrue (list_all (is_signal c) (a ∷ [])) → a < length c.signals
only_there c a all = position_below c a (and_parts (is_signal c a) true all).0

both_there : (c : Contents) (a b : ℕ) → IsTrue (list_all (is_signal c) (a ∷ b ∷ []))
    → IsTrue (list_all (is_scalar c) (a ∷ b ∷ [])) → (a < length c.signals) × (b < length c.signals)
    × ((signal_at c a).width ≡ 1) × ((signal_at c b).width ≡ 1)
both_there c a b all scalars =
    let there = pair_holds (is_signal c) a b all in
    let narrow = pair_holds (is_scalar c) a b scalars in
    (position_below c a there.0, position_below c b there.1, one_bit c a narrow.0, one_bit c b narrow.1)

-- the operands of a formula that passes the tests
pub operands_there : (c : Contents) (f : Formula) → IsTrue (list_all (is_signal c) (operands f))
    → IsTrue (width_test f c).holds → HasOperands c f
operands_there c (Negation a) all wide = only_there c a all
operands_there c (Pair operator a b) all wide = both_there c a b all wide
operands_there c (BitSelect a k) all wide = (only_there c a all, grind (arith, nat_tests))

pub first_operand_there : (c : Contents) (f : Formula) → IsTrue (list_all (is_signal c) (operands f))
    → first_operand f < length c.signals
first_operand_there c (Negation a) all = only_there c a all
first_operand_there c (Pair operator a b) all = position_below c a (pair_holds (is_signal c) a b all).0
first_operand_there c (BitSelect a k) all = only_there c a all

-- ==== whether a signal other than one at a position has a name

-- the others are before the position or after it
has_other : (name : List ℕ) (signals : List Signal) (k : ℕ)
    → list_any (bytes_eq name) (full_names (remove (map signal_contents signals) k))
    ≡ (list_any (bytes_eq name) (full_names (map signal_contents (take k signals)))
    || list_any (bytes_eq name) (full_names (map signal_contents (drop (suc k) signals))))
has_other name signals k =
    ap (list_any (bytes_eq name))
    (map-append full_name (take k (map signal_contents signals)) (drop (suc k) (map signal_contents signals)))
    ∙ list_any-append (bytes_eq name) (full_names (take k (map signal_contents signals)))
    (full_names (drop (suc k) (map signal_contents signals)))
    ∙ rw (take-map signal_contents k signals, drop-map signal_contents (suc k) signals) refl

module _ (signals : List Signal) (k : ℕ) (s : Signal) (word name : List ℕ) (within : k < length signals)
    (at : s ≡ get_or signals k s) (given : name ≡ full_name (renamed_signal word (signal_contents s))) where
  name_taken : list_any (bytes_eq (full_name (renamed_signal word (get_or (map signal_contents signals) k no_signal))))
      (full_names (remove (map signal_contents signals) k))
      ≡ (list_any (bytes_eq name) (full_names (map signal_contents (take k signals)))
      || list_any (bytes_eq name) (full_names (map signal_contents (drop (suc k) signals))))
  name_taken = rw (contents_at signals k s within at, ← given) (has_other name signals k)

  -- a signal before the position has the name
  pub taken_before : (r : Bool) → r ≡ list_any (bytes_eq name) (full_names (map signal_contents (take k signals)))
      → r ≡ true
      → r ≡ list_any (bytes_eq (full_name (renamed_signal word (get_or (map signal_contents signals) k no_signal))))
      (full_names (remove (map signal_contents signals) k))
  taken_before r is holds = holds ∙ sym (or_left _ _ (sym is ∙ holds)) ∙ sym name_taken

  -- no signal before it has the name
  pub taken_after : (f r : Bool) → f ≡ list_any (bytes_eq name) (full_names (map signal_contents (take k signals)))
      → f ≡ false
      → r ≡ list_any (bytes_eq name)
      (full_names (map signal_contents (take (length signals - (k + 1)) (drop (k + 1) signals))))
      → r ≡ list_any (bytes_eq (full_name (renamed_signal word (get_or (map signal_contents signals) k no_signal))))
      (full_names (remove (map signal_contents signals) k))
  taken_after f r is fails decides =
      decides ∙ ap (λ (ss : List Signal). list_any (bytes_eq name) (full_names (map signal_contents ss)))
      (take_rest signals (k + 1) ∙ ap (λ n. drop n signals) (add-one k))
      ∙ ap (λ first. first || list_any (bytes_eq name)
      (full_names (map signal_contents (drop (suc k) signals)))) (sym fails ∙ is) ∙ sym name_taken
