-- The decision, by what is found.
use Rattle.std.proofs.Common.{◌≡◌, true, false, List, Option, Some, None, refl, ◌∙◌, sym}
use Rattle.std.specs.Prelude.{is_some, option_map, Err}
use Rattle.vcd_core.specs.declared.capture.Timescale.{Timescale}
use Rattle.vcd_text.specs.Grammar.{VariableDeclaration}
use Rattle.vcd_part.specs.declared.request.Refusal.TheVariants.{UnmetPattern, NoVariableLeft}
use Rattle.vcd_part.specs.declared.request.Request.{Request}
use Rattle.vcd_part.specs.Requests.{decide, leaves_none, unmet, window}
use Rattle.vcd_part.proofs.choice.NotedVariables.{none_left}
use Rattle.vcd_part.proofs.choice.VariableChoice.decide.Goals as goal

same_some : {X Y : Type 0} (f : X → Y) (r : Option X) (u : Option Y) → option_map f r ≡ u → is_some u ≡ is_some r
same_some f None u is = rw (← is) refl
same_some f (Some x) u is = rw (← is) refl

unmet_decided : (r : Request) (timescale : Option Timescale) (declared : List VariableDeclaration)
    → is_some (unmet r declared) ≡ true → Err UnmetPattern ≡ decide r timescale declared
unfolding decide
unmet_decided r timescale declared some = rw some refl

none_decided : (r : Request) (timescale : Option Timescale) (declared : List VariableDeclaration)
    → is_some (unmet r declared) ≡ false → leaves_none r declared ≡ true
    → Err NoVariableLeft ≡ decide r timescale declared
unfolding decide
none_decided r timescale declared met none = rw (met, none) refl

window_decided : (r : Request) (timescale : Option Timescale) (declared : List VariableDeclaration)
    → is_some (unmet r declared) ≡ false → leaves_none r declared ≡ false
    → window r timescale ≡ decide r timescale declared
unfolding decide
window_decided r timescale declared met some = rw (met, some) refl

pub returns-then-is_some : goal.returns-then-is_some
returns-then-is_some c = λ declared noted. unmet_decided _ _ _
    (same_some (λ p. p.now) c.unmet.result _ (c.unmet.ensures _ declared noted) ∙ sym c.if-is_some.ensures)

pub returns-then-leaves_none : goal.returns-then-leaves_none
returns-then-leaves_none c = λ declared noted. none_decided _ _ _
    (same_some (λ p. p.now) c.unmet.result _ (c.unmet.ensures _ declared noted) ∙ sym c.if-is_some.ensures)
    (sym (none_left c.args.request.now declared _ _ noted.kept noted.all) ∙ sym c.if-leaves_none.ensures)

pub returns : goal.returns
returns c = λ declared noted. c.window.ensures ∙ window_decided _ _ _
    (same_some (λ p. p.now) c.unmet.result _ (c.unmet.ensures _ declared noted) ∙ sym c.if-is_some.ensures)
    (sym (none_left c.args.request.now declared _ _ noted.kept noted.all) ∙ sym c.if-leaves_none.ensures)
