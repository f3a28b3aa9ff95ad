-- A comparison from the declarations of both files to its end.
use Rattle.std.specs.Prelude.{◌≡◌, ℕ, List, map, length, option_map, Option, IfSome, IsTrue}
use Rattle.vcd_core.specs.Contents.{Contents}
use Rattle.vcd_text.specs.Grammar.{ParseState}
use Rattle.vcd_part.specs.Requests.{bounded_tick}
use Rattle.vcd_part.specs.Times.{ticks_of}
use Rattle.vcd_compare.specs.inside.Outcomes.{compared_positions}
use Rattle.vcd_compare.specs.inside.Planning.{HasDeclared, IsPlanOf, AllComparable, ArePairsOf}
use Rattle.vcd_compare.specs.inside.Planning.{pair_positions}
use Rattle.vcd_compare.specs.inside.Times.{scale_between, asked_bounds, asked_most}
use Rattle.vcd_compare.specs.inside.WalkSteps.{HasWalked}
use Rattle.vcd_compare.specs.declared.request.CompareRequest.{CompareRequest}
use Rattle.vcd_compare.specs.declared.comparing.Prepared.{Prepared}
use Rattle.vcd_compare.specs.declared.walk.Walk.{Walk}

-- these are the times of a request
pub record AreAskedTicks (r : CompareRequest) (p : Prepared) : Type 0 where
  pub tolerance : p.ticks.tolerance
      ≡ option_map bounded_tick (ticks_of p.scale.timescale r.tolerance)
  pub first : p.ticks.first ≡ option_map bounded_tick (ticks_of p.scale.timescale r.from)
  pub last : p.ticks.last ≡ option_map bounded_tick (ticks_of p.scale.timescale r.to)

-- the comparison of two files is prepared, whose states these are once all is declared
pub record IsPrepared (r : CompareRequest) (s t : ParseState) (p : Prepared) (w : Walk) : Type 0
  where
    pub scale : p.scale ≡ scale_between s.timescale t.timescale
    pub ticks : AreAskedTicks r p
    pub plan : (a b : Contents) → HasDeclared s a → HasDeclared t b → IsPlanOf r a b p.plan
    pub factor : w.first.factor ≡ p.scale.first
    pub other_factor : w.second.factor ≡ p.scale.second
    pub bounds : w.pairs.bounds ≡ asked_bounds p.ticks
    pub positions : map pair_positions w.pairs.all.items
        ≡ compared_positions (length p.plan.outcomes.items) p.plan.outcomes.items
    pub pairs : AllComparable s.declared t.declared p.plan.outcomes.items
        → ArePairsOf w.pairs.bounds s.declared t.declared w.pairs

-- both files were read to their ends
pub record IsReadWhole (r : CompareRequest) (coming other : Option (List ℕ)) (p : Prepared)
    (w : Walk) : Type 0 where
  pub s : ParseState
  pub t : ParseState
  pub start : Walk
  pub last : ℕ
  pub declared : IfSome coming (λ file. IsTrue s.in_body)
  pub other_declared : IfSome other (λ file. IsTrue t.in_body)
  pub prepared : IsPrepared r s t p start
  pub walked : HasWalked coming other s t (asked_most p.ticks) last start w
