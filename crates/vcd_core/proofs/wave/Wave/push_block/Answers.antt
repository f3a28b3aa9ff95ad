use Rattle.std.proofs.Common.{◌∷◌, []}
use Rattle.vcd_core.specs.BlockRows.{letters_of}
use Rattle.vcd_core.proofs.shared.Pushes.{wave_pushed, values_pushed, last_pushed, replaces_there, adds_none_there}
use Rattle.vcd_core.proofs.shared.LettersOfPlanes.{length-letters_of}
use Rattle.vcd_core.proofs.wave.Wave.push_block.Goals as goal

pub invariant_of-self-2 : goal.invariant_of-self-2
invariant_of-self-2 c = (
  c.self.invariant.0,
  c.self.invariant.1,
  wave_pushed _ _ c.self.view_is c.self.invariant.2 c.args.tick (λ n. letters_of n (c.args.block ∷ []))
      c.make_own.new.self c.in_ok-make_own.ensures.is_own c.make_own.ensures.changes
      (record c.make_own.new.self { own = c.push_block_change.new.changes }) c.in_ok-make_own.ensures.is_own
      c.in_ok-push_block_change.ensures.pushed (length-letters_of c.self.inside.width (c.args.block ∷ [])),
)

pub returns-clause-values : goal.returns-clause-values
returns-clause-values c t =
    values_pushed _ _ c.self.view_is c.self.invariant.2 c.args.tick (λ n. letters_of n (c.args.block ∷ []))
    c.make_own.new.self c.in_ok-make_own.ensures.is_own c.make_own.ensures.changes
    (record c.make_own.new.self { own = c.push_block_change.new.changes }) c.in_ok-make_own.ensures.is_own
    c.in_ok-push_block_change.ensures.pushed t

pub returns-clause-last : goal.returns-clause-last
returns-clause-last c =
    last_pushed _ _ c.self.view_is c.self.invariant.2 c.args.tick (λ n. letters_of n (c.args.block ∷ []))
    c.make_own.new.self c.in_ok-make_own.ensures.is_own c.make_own.ensures.changes
    (record c.make_own.new.self { own = c.push_block_change.new.changes }) c.in_ok-make_own.ensures.is_own
    c.in_ok-push_block_change.ensures.pushed

-- a refusal of `push_block_change` shows that none of these held
pub returns-in_err-push_block_change-clause-replaces : goal.returns-in_err-push_block_change-clause-replaces
returns-in_err-push_block_change-clause-replaces c own some =
    absurd (cc (replaces_there _ _ c.self.view_is c.self.invariant.2 c.args.tick
    (λ n. letters_of n (c.args.block ∷ [])) c.make_own.new.self
    c.in_ok-make_own.ensures.is_own c.make_own.ensures.changes
    c.in_err-push_block_change.ensures.replaces some))

pub returns-in_err-push_block_change-clause-adds_none : goal.returns-in_err-push_block_change-clause-adds_none
returns-in_err-push_block_change-clause-adds_none c own same =
    absurd (cc (adds_none_there _ _ c.self.view_is c.self.invariant.2 c.args.tick
    (λ n. letters_of n (c.args.block ∷ [])) c.make_own.new.self
    c.in_ok-make_own.ensures.is_own c.make_own.ensures.changes c.in_err-push_block_change.ensures.replaces
    c.in_err-push_block_change.ensures.adds_none c.requires.none_later same))
