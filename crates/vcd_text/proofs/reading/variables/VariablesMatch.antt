-- The parser's variables, with their changes in waves and log, compared with the state of a file.
use Rattle.std.proofs.Common.{◌≡◌, ℕ, ◌<◌, ◌≤◌, if◌then◌else◌, nat_le, List, [], ◌∷◌, ◌++◌, All, refl, ap, ◌∙◌, arith}
use Rattle.std.proofs.Common.{◌⊎◌, inl, inr, Bool, sym, length, option_map, Option, Some}
use Rattle.std.proofs.lemmas.List.Elements.{All-weaker}
use Rattle.std.specs.Prelude.{slice_get}
use Rattle.std.proofs.lemmas.List.{length-map}
use Rattle.std.proofs.lemmas.Option.{same_Some, slice_get-map}
use Rattle.vcd_core.specs.declared.bit.Bit.{Bit}
use Rattle.vcd_core.specs.declared.wave.Change.{Change}
use Rattle.vcd_core.specs.Wave.{value_at}
use Rattle.vcd_core.specs.declared.capture.Header.{Header}
use Rattle.vcd_core.specs.declared.capture.Timescale.{Timescale}
use Rattle.vcd_core.specs.declared.capture.ScopeName.{ScopeName}
use Rattle.vcd_text.specs.inside.reading.Log.{logged_letters, value_after_changes, RisesTo, GivesLoggedValues}
use Rattle.vcd_text.specs.declared.reading.log.LoggedChange.{LoggedChange}
use Rattle.vcd_text.specs.Grammar.{VariableDeclaration, ParseState, kept_variables}
use Rattle.vcd_text.specs.inside.reading.Scopes.{open_scopes, KeepsPlaces}
use Rattle.vcd_text.specs.inside.reading.Variables.{declaration, without_code, target_of, HaveOwnCodes, VariablesMatch}
use Rattle.vcd_text.specs.declared.reading.scopes.Scopes.{Scopes}
use Rattle.vcd_text.specs.declared.reading.variables.Variable.{Variable}
use Rattle.vcd_text.specs.declared.reading.variables.Variables.{Variables}
use Rattle.vcd_text.specs.declared.reading.code_targets.CodeTarget.TheVariants.{Kept}
use Rattle.vcd_text.proofs.reading.code_targets.Targets.{stands_moved}

-- ==== a wave followed by changes of the log

pub value_after_changes-more : (width t : ℕ) (before : List Bit) (es : List LoggedChange) (e : LoggedChange)
    → value_after_changes width t before (es ++ e ∷ [])
    ≡ (if nat_le e.tick t then logged_letters width e else value_after_changes width t before es)
value_after_changes-more width t before [] e = refl
value_after_changes-more width t before (d ∷ es) e =
    value_after_changes-more width t (if nat_le d.tick t then logged_letters width d else before) es e

-- ---- ticks

rises_further : (floor early late : ℕ) (es : List LoggedChange) → early ≤ late → RisesTo floor early es
    → RisesTo floor late es
rises_further floor early late [] later rises = omega (arith, later, rises)
rises_further floor early late (e ∷ es) later (from, rises) = (from, rises_further e.tick early late es later rises)

pub rises_more : (floor tick : ℕ) (es : List LoggedChange) (e : LoggedChange) → e.tick ≡ tick → RisesTo floor tick es
    → RisesTo floor tick (es ++ e ∷ [])
rises_more floor tick [] e at rises = (omega (arith, at, rises), omega (arith, at))
rises_more floor tick (d ∷ es) e at (from, rises) = (from, rises_more d.tick tick es e at rises)

rises_past : (floor tick : ℕ) (es : List LoggedChange) → RisesTo floor tick es → floor ≤ tick
rises_past floor tick [] rises = rises
rises_past floor tick (e ∷ es) (from, rises) = omega (arith, from, rises_past e.tick tick es rises)

ends_later : (cs : List Change) (early late : ℕ) → early ≤ late → All (λ (c : Change). c.tick ≤ early) cs
    → All (λ (c : Change). c.tick ≤ late) cs
ends_later cs early late later ended = grind (arith, All-weaker)

module _ (width tick : ℕ) (f : ℕ → List Bit) (cs : List Change) where
  -- ---- a wave with the changes after it

  -- no change of the wave is past the tick
  pub gives_late : (es : List LoggedChange) → GivesLoggedValues width tick f cs es
      → All (λ (c : Change). c.tick ≤ tick) cs
  gives_late es g = ends_later cs g.floor tick (rises_past g.floor tick es g.rises) g.ticks

  pub gives_as : (g : ℕ → List Bit) (es : List LoggedChange) → ((t : ℕ) → f t ≡ g t)
      → GivesLoggedValues width tick f cs es → GivesLoggedValues width tick g cs es
  gives_as g es same h = grind arith

  -- ---- a change more

  -- a change that a wave takes, of a wide variable or before any change of the log
  pub gives_pushed : (v : List Bit) (ds : List Change) (es : List LoggedChange) → (64 < width) ⊎ (es ≡ [])
      → All (λ (c : Change). c.tick ≤ tick) ds
      → ((t : ℕ) → value_at width ds t ≡ (if nat_le tick t then v else value_at width cs t))
      → GivesLoggedValues width tick f cs es
      → GivesLoggedValues width tick (λ t. if nat_le tick t then v else f t) ds es
  gives_pushed v ds [] alone ended values g = record {
    floor = tick;
    ticks = ended;
    rises = omega arith;
    narrow = λ some. absurd (omega (arith, some));
    values = λ t. values t ∙ ap (λ b. if nat_le tick t then v else b) (g.values t);
  }
  gives_pushed v ds (e ∷ es) (inl wide) ended values g = grind arith
  gives_pushed v ds (e ∷ es) (inr none) ended values g = let never : e ∷ es ≡ [] = none in absurd (cc)

  -- ---- a change of the log less

  -- the wave can take the first change of the log
  pub gives_narrow : (e : LoggedChange) (es : List LoggedChange) → GivesLoggedValues width tick f cs (e ∷ es)
      → width ≤ 64
  gives_narrow e es g = g.narrow (omega arith)

  pub gives_first : (e : LoggedChange) (es : List LoggedChange) → GivesLoggedValues width tick f cs (e ∷ es)
      → All (λ (c : Change). c.tick ≤ e.tick) cs
  gives_first e es g = ends_later cs g.floor e.tick g.rises.0 g.ticks

-- ==== the parser's variables, compared with the state of a file

-- as many variables are kept as were declared as kept
pub kept_long : (vs : Variables) (c : ParseState) → VariablesMatch vs c
    → length (kept_variables c.declared) ≡ length vs.kept.items
kept_long vs c k = grind (arith, length-map)

mapped_from : (o : Option VariableDeclaration) (e : VariableDeclaration) → option_map without_code o ≡ Some e
    → (d : VariableDeclaration) × (o ≡ Some d) × (without_code d ≡ e)
mapped_from o e is = grind (arith, same_Some)

-- the declaration of a kept variable
pub declared_at : (vs : Variables) (c : ParseState) → VariablesMatch vs c → (position : ℕ) (v : Variable)
    → slice_get vs.kept.items position ≡ Some v
    → (d : VariableDeclaration) × (slice_get (kept_variables c.declared) position ≡ Some d)
    × (without_code d ≡ declaration v)
declared_at vs c k position v at = mapped_from _ _ (sym (slice_get-map without_code
    (kept_variables c.declared) position) ∙ ap (λ (ds : List VariableDeclaration). slice_get ds position) k.kept
    ∙ slice_get-map declaration vs.kept.items position ∙ ap (option_map declaration) at)

-- a position is the target of one code alone
pub one_owner : (vs : Variables) (declared : List VariableDeclaration) → HaveOwnCodes vs declared → (a b : List ℕ)
    (wide width position : ℕ) → target_of vs a ≡ Kept wide position → target_of vs b ≡ Kept width position → a ≡ b
one_owner vs declared owners a b wide width position had has = search (arith, same_Some)

-- variables that match a state match it at a later tick too
pub knows_further : (vs : Variables) (c : ParseState) (header : List Header) (timescale : Option Timescale)
    (in_body : Bool) (tick : ℕ) → c.tick ≤ tick → VariablesMatch vs c
    → VariablesMatch vs (record c { header = header; timescale = timescale; in_body = in_body; tick = tick })
knows_further vs c header timescale in_body tick later k = record {
  opened = k.opened;
  kept = k.kept;
  skipped = k.skipped;
  targets_agree = λ code. stands_moved _ _ _ _ _ _ c.tick tick code _ _ (λ width position _ wave.
      grind (arith, rises_further)) (k.targets_agree code);
  owners = k.owners;
  firsts = k.firsts;
  few = k.few;
  limit = k.limit;
  grouped = k.grouped;
  logs = k.logs;
}

-- variables match a state with other open scopes, if each place keeps its scopes
pub scopes_moved : (vs : Variables) (scopes : Scopes) (c : ParseState) (opened : List ScopeName)
    → open_scopes scopes ≡ opened → KeepsPlaces vs.scopes scopes → VariablesMatch vs c
    → VariablesMatch (record vs { scopes = scopes }) (record c { scopes = opened })
scopes_moved vs scopes c opened are keeps k = record {
  opened = are;
  kept = k.kept;
  skipped = k.skipped;
  targets_agree = k.targets_agree;
  owners = k.owners;
  firsts = λ position v at. let first = k.firsts position v at in record {
    owned = first.owned;
    placed = λ d declared. keeps v.place d.scopes (first.placed d declared);
    no_later = first.no_later;
  };
  few = k.few;
  limit = k.limit;
  grouped = k.grouped;
  logs = k.logs;
}
