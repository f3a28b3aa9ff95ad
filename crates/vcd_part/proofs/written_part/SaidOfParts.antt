-- What there is to say of a part, by what a `PartAmender` has noted.
use Rattle.std.proofs.Common.{◌≡◌, ◌∙◌, ◌&&◌, ℕ, Bool, true, false, List, [], ◌∷◌, map, refl, ap, ap₂, Option, not}
use Rattle.std.specs.Prelude.{IfSome, Some, None, filter, nat_lt}
use Rattle.vcd_core.specs.Word.{is_one_of}
use Rattle.vcd_text.specs.Grammar.{VariableDeclaration, ParseState}
use Rattle.vcd_copy.specs.Pieces.{state_of_pieces}
use Rattle.vcd_text.specs.declared.reading.choice.TickRange.{TickRange}
use Rattle.vcd_part.specs.declared.amender.PartAmender.{PartAmender}
use Rattle.vcd_part.specs.declared.named_variable.NamedVariable.{NamedVariable}
use Rattle.vcd_part.specs.declared.request.Request.{Request}
use Rattle.vcd_part.specs.Requests.{removes}
use Rattle.vcd_part.specs.PartPieces.{is_used, lasting_codes}
use Rattle.vcd_part.specs.WrittenPart.{ends_early, still_shown, named_variable, emptied_scopes}
use Rattle.vcd_part.specs.WrittenPart.{is_kept_event, is_left_out_at_first, events_left_out_at_first}
use Rattle.vcd_part.specs.inside.CodeUses.{AreUses}
use Rattle.vcd_part.specs.inside.ScopePaths.{AreScopes}
use Rattle.vcd_part.specs.inside.PartAmender.{IsSaid}

-- of the images of those that pass a test, those that pass another
image_of_both : {X Y : Type 0} (f : X → Y) (test : X → Bool) (later : Y → Bool) (xs : List X)
    → filter later (map f (filter test xs)) ≡ map f (filter (λ x. test x && later (f x)) xs)
image_of_both f test later [] = refl
image_of_both {X} f test later (x ∷ xs) =
    by_tests (test x) (later (f x)) refl refl (image_of_both f test later xs)
  where
    both : X → Bool
    both = λ x. test x && later (f x)

    by_tests : (a b : Bool) → test x ≡ a → later (f x) ≡ b
        → filter later (map f (filter test xs)) ≡ map f (filter both xs)
        → filter later (map f (filter test (x ∷ xs))) ≡ map f (filter both (x ∷ xs))
    by_tests true true first second rest = rw (first, second) (ap (λ l. f x ∷ l) rest)
    by_tests true false first second rest = rw (first, second) rest
    by_tests false b first second rest = rw first rest

shown_are : (r : Request) (declared : List VariableDeclaration)
    → filter (λ (v : NamedVariable). is_used r declared v.code) (map named_variable (filter (removes r) declared))
    ≡ map named_variable (still_shown r declared)
shown_are r declared = image_of_both named_variable (removes r)
    (λ (v : NamedVariable). is_used r declared v.code) declared

-- the window, the end, and what is noted are those of the part
pub said_of_part : (m : PartAmender) (window : Option TickRange) (early : Bool)
    (shown events : List NamedVariable) (emptied : List (List ℕ)) (later : Bool)
    → IfSome window (λ w. early ≡ ends_early w m.tick)
    → IfSome window (λ w. later ≡ nat_lt 0 w.first)
    → ((r : Request) (declared : List VariableDeclaration) → AreUses m.codes r declared
    → shown ≡ filter (λ v. is_used r declared v.code) m.choice.removed.items)
    → ((r : Request) (declared : List VariableDeclaration) → AreUses m.codes r declared
    → events ≡ filter (λ v. later && not (is_one_of (lasting_codes r declared) v.code)) m.choice.events.items)
    → ((r : Request) (declared : List VariableDeclaration) → AreScopes m.choice.scopes r declared
    → emptied ≡ emptied_scopes r declared)
    → IfSome window (λ w. IsSaid m w (record {
      end = m.tick;
      ends_early = early;
      still_shown = shown;
      comments = m.comments;
      emptied_scopes = emptied;
      events_left_out_at_first = events;
    }))
said_of_part m None early shown events emptied later early_is later_is shown_is events_are emptied_is = tt
said_of_part m (Some w) early shown events emptied later early_is later_is shown_is events_are emptied_is =
    λ before seen.
    let s : ParseState = state_of_pieces 0 before in
    let tick = seen.known.tick in
    let noted = seen.known.noted in
    let counts = seen.comments in
    let are : shown ≡ map named_variable (still_shown m.request s.declared) =
    shown_is m.request s.declared seen.known.uses
    ∙ ap (filter (λ (v : NamedVariable). is_used m.request s.declared v.code)) noted.removed
    ∙ shown_are m.request s.declared in
    let early : early ≡ ends_early w s.tick = early_is ∙ ap (ends_early w) tick in
    let left : events ≡ map named_variable (events_left_out_at_first m.request w s.declared) =
    events_are m.request s.declared seen.known.uses
    ∙ ap₂ (λ (b : Bool). filter (λ (v : NamedVariable).
    b && not (is_one_of (lasting_codes m.request s.declared) v.code))) later_is noted.events
    ∙ image_of_both named_variable (is_kept_event m.request)
    (λ (v : NamedVariable). is_left_out_at_first m.request w s.declared v.code) s.declared in
    let scopes : emptied ≡ emptied_scopes m.request s.declared = emptied_is m.request s.declared noted.scopes in
    λ i. record {
      end = tick i;
      ends_early = early i;
      still_shown = are i;
      comments = counts i;
      emptied_scopes = scopes i;
      events_left_out_at_first = left i;
    }
