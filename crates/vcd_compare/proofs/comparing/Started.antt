-- A walk that starts with files that were opened, and the answer at its end.
use Rattle.std.proofs.Common.{◌≡◌, ℕ, List, [], sym, subst, Option}
use Rattle.std.specs.Prelude.{Result, Ok, Err, IfOk, IfErr, IfSome, IsErrAnd}
use Rattle.vcd_core.specs.Devices.{DeviceEnd}
use Rattle.vcd_text.specs.Grammar.{ParseState}
use Rattle.vcd_compare.specs.Comparisons.{IsAnswerOf, IsComparisonOf, IsCompareFault}
use Rattle.vcd_compare.specs.inside.Comparing.{IsPrepared, IsReadWhole}
use Rattle.vcd_compare.specs.inside.Side.{IsSideAt, IsOpened}
use Rattle.vcd_compare.specs.inside.Times.{asked_most}
use Rattle.vcd_compare.specs.inside.WalkSteps.{IsWalkStart, HasWalked, FailsWith}
use Rattle.vcd_compare.specs.declared.comparing.Prepared.{Prepared}
use Rattle.vcd_compare.specs.declared.comparison.Comparison.{Comparison}
use Rattle.vcd_compare.specs.declared.comparison.CompareError.{CompareError}
use Rattle.vcd_compare.specs.declared.request.CompareRequest.{CompareRequest}
use Rattle.vcd_compare.specs.declared.side.Side.{Side}
use Rattle.vcd_compare.specs.declared.walk.Walk.{Walk}

-- a file with another factor
with_factor : (coming left : Option (List ℕ)) (state : ParseState) (old new : Side)
    → new ≡ record old { factor = new.factor } → IsSideAt coming left state [] old → IsSideAt coming left state [] new
with_factor coming left state old new is x =
    subst (IsSideAt coming left state []) (sym is)
    (record { at = x.at; heard = x.heard; goes_on = x.goes_on; ended = x.ended; counted = x.counted })

pub starts : (coming other left other_left : Option (List ℕ)) (side other_side : Side) (w : Walk)
    (x : IsOpened coming left side) (y : IsOpened other other_left other_side)
    → w.first ≡ record side { factor = w.first.factor } → w.second ≡ record other_side { factor = w.second.factor }
    → IsWalkStart coming other left other_left x.state y.state w
starts coming other left other_left side other_side w x y first second = record {
  first = with_factor coming left x.state side w.first first x.at;
  second = with_factor other other_left y.state other_side w.second second y.at;
}

-- what was read of both files
pub read_whole : (r : CompareRequest) (coming other left other_left : Option (List ℕ)) (side other_side : Side)
    (p : Prepared) (start w : Walk) (most last : ℕ) (x : IsOpened coming left side)
    (y : IsOpened other other_left other_side) → most ≡ asked_most p.ticks
    → IsPrepared r x.state y.state p start → HasWalked coming other x.state y.state most last start w
    → IsReadWhole r coming other p w
read_whole r coming other left other_left side other_side p start w most last x y is prepared walked = record {
  s = x.state;
  t = y.state;
  start = start;
  last = last;
  declared = x.declared;
  other_declared = y.declared;
  prepared = prepared;
  walked = subst (λ m. HasWalked coming other x.state y.state m last start w) is walked;
}

-- ---- answers

-- an error that was found before
pub answers_error : (r : CompareRequest) (first second : DeviceEnd) (e : CompareError)
    (result : Result Comparison CompareError) → IsErrAnd result (λ f. f ≡ e)
    → FailsWith first.before second.before first.after first.has_failed second.after second.has_failed e
    → IsAnswerOf r first second result
answers_error r first second e (Ok c) gives fails = absurd gives
answers_error r first second e (Err f) gives fails = rw gives (fails r)

-- what is told at the end
pub answers : (r : CompareRequest) (first second : DeviceEnd) (p : Prepared) (w : Walk)
    (result : Result Comparison CompareError)
    → IfOk result (λ c. (r : CompareRequest) (coming other : Option (List ℕ)) → IsReadWhole r coming other p w
    → IfSome coming (λ file. IfSome other (λ text. IsComparisonOf r file text c)))
    → IfErr result (λ e. (r : CompareRequest) (coming other : Option (List ℕ)) (first second : DeviceEnd)
    → IsReadWhole r coming other p w
    → IfSome coming (λ file. IfSome other (λ text. IsCompareFault r file text first second e)))
    → IsReadWhole r first.before second.before p w → IsAnswerOf r first second result
answers r first second p w (Ok c) told fails x = told r first.before second.before x
answers r first second p w (Err e) told fails x = fails r first.before second.before first second x
