-- The groups of a log, and variables that take their changes of it.
use Rattle.std.proofs.Common.{◌≡◌, ◌≢◌, ℕ, zero, suc, ◌+◌, ◌%◌, ◌<◌, false, ◌==◌, cond, if◌then◌else◌, List, [], ◌∷◌}
use Rattle.std.proofs.Common.{◌++◌, set, All, None, Some, refl, ap, ◌∙◌, arith, true, length, map, Option, inl, inr}
use Rattle.std.proofs.Common.{sym, subst}
use Rattle.std.specs.Prelude.{slice_get}
use Rattle.std.specs.Global.{Vec}
use Rattle.std.proofs.lemmas.Bool.{eqb-true, cases_Bool, cases_eq}
use Rattle.std.proofs.lemmas.List.{append-nil, append_assoc, length-set, drop_more}
use Rattle.std.proofs.lemmas.Option.{same_Some, slice_get-get_or, slice_get_within, slice_get_cases}
use Rattle.std.proofs.lemmas.List.Elements.{filter-append, All-nil, All-head, All-tail, All-cons, All-get_or}
use Rattle.std.proofs.lemmas.Grind.{common_steps}
use Rattle.std.specs.List.{fold}
use Rattle.std.specs.Option.{option_map_or}
use Rattle.vcd_core.specs.declared.bit.Bit.{Bit}
use Rattle.vcd_core.specs.Value.{all_x}
use Rattle.vcd_text.specs.inside.reading.Log.{changes_of_position, logged, AreGrouped, CanApplyLogged, AppliesLogged}
use Rattle.vcd_text.specs.inside.reading.Log.{CanMoveLog, MovesChanges, MovesLog, counted_variable, counted}
use Rattle.vcd_text.specs.declared.reading.log.LoggedChange.{LoggedChange}
use Rattle.vcd_text.specs.declared.reading.log.TheConstants.{GROUPS}
use Rattle.vcd_text.specs.Grammar.{ParseState}
use Rattle.vcd_text.specs.inside.reading.Variables.{latest_value, target_of, HasValueChanges, VariablesMatch}
use Rattle.vcd_text.specs.declared.reading.code_targets.CodeTarget.TheVariants.{Kept}
use Rattle.vcd_text.specs.declared.reading.variables.Variable.{Variable}
use Rattle.vcd_text.specs.declared.reading.variables.Variables.{Variables}
use Rattle.vcd_text.specs.declared.reading.log.ExpectedRoom.{ExpectedRoom}
use Rattle.vcd_text.proofs.reading.variables.VariablesMatch.{gives_narrow, gives_first, declared_at}
use Rattle.vcd_text.proofs.reading.variables.ChangedVariable.{set_here, set_there, own_wave, with_changes}
use Rattle.vcd_text.proofs.reading.variables.ChangedVariable.{same_declaration}
use Rattle.vcd_text.proofs.reading.code_targets.Targets.{stands_moved}

-- ==== the groups of a log, with one more group or change

-- ---- an empty group more

pub logged_longer : (gs : List (Vec LoggedChange)) (g : Vec LoggedChange) (position : ℕ) → g.items ≡ []
    → logged (gs ++ g ∷ []) position ≡ logged gs position
logged_longer [] g position none = ap (λ es. changes_of_position position es ++ []) none
logged_longer (h ∷ gs) g position none = grind (arith, logged_longer gs g position none)

pub grouped_longer : (index : ℕ) (gs : List (Vec LoggedChange)) (g : Vec LoggedChange) → g.items ≡ []
    → AreGrouped index gs → AreGrouped index (gs ++ g ∷ [])
grouped_longer index [] g none are = grind (arith, All-nil)
grouped_longer index (h ∷ gs) g none (here, are) = (here, grouped_longer (index + 1) gs g none are)

-- ---- a change more

-- a group with another remainder has no change of the position
none_at : (index : ℕ) (es : List LoggedChange) (position : ℕ) → position % GROUPS ≢ index
    → All (λ (e : LoggedChange). e.position % GROUPS ≡ index) es → changes_of_position position es ≡ []
none_at index [] position apart are = refl
none_at index (e ∷ es) position apart are =
    let other : (e.position == position) ≡ false = grind (arith, cases_Bool, eqb-true, All-head) in
    ap (λ b. cond b (e ∷ changes_of_position position es) (changes_of_position position es)) other
    ∙ none_at index es position apart (All-tail (λ (x : LoggedChange). x.position % GROUPS ≡ index) e es are)

-- nor have the groups after its own
none_after : (index : ℕ) (gs : List (Vec LoggedChange)) (position : ℕ) → position % GROUPS < index → AreGrouped index gs
    → logged gs position ≡ []
none_after index [] position early are = refl
none_after index (g ∷ gs) position early (here, are) = ap (λ es. es ++ logged gs position) (none_at index _ _
    (λ same. absurd (omega (arith, early, same))) here) ∙ none_after (index + 1) gs position (omega (arith, early)) are

module _ (e : LoggedChange) (h : Vec LoggedChange) where
  -- the change comes after the others of its position
  here_with : (index : ℕ) (gs : List (Vec LoggedChange)) (i : ℕ) (g : Vec LoggedChange) → slice_get gs i ≡ Some g
      → h.items ≡ g.items ++ e ∷ [] → e.position % GROUPS ≡ index + i → AreGrouped index gs
      → logged (set gs i h) e.position ≡ logged gs e.position ++ e ∷ []
  here_with index [] i g at more of are = let never : None ≡ Some g = at in absurd (cc)
  here_with index (x ∷ gs) zero g at more of (here, are) =
      grind (arith, same_Some, none_after, append-nil, filter-append)
  here_with index (x ∷ gs) (suc i) g at more of (here, are) =
      grind (arith, append_assoc, here_with (index + 1) gs i g at more (omega (arith, of)) are)

  -- other positions keep their changes
  there_with : (gs : List (Vec LoggedChange)) (i : ℕ) (g : Vec LoggedChange) (position : ℕ) → slice_get gs i ≡ Some g
      → h.items ≡ g.items ++ e ∷ []
      → (e.position == position) ≡ false → logged (set gs i h) position ≡ logged gs position
  there_with [] i g position at more other = refl
  there_with (x ∷ gs) zero g position at more other = grind (arith, same_Some, filter-append, append-nil)
  there_with (x ∷ gs) (suc i) g position at more other = grind (arith, there_with gs i g position at more other)

  pub logged_with : (gs : List (Vec LoggedChange)) (g : Vec LoggedChange) (position : ℕ)
      → slice_get gs (e.position % GROUPS) ≡ Some g → h.items ≡ g.items ++ e ∷ [] → AreGrouped 0 gs
      → logged (set gs (e.position % GROUPS) h) position
      ≡ (if e.position == position then logged gs position ++ e ∷ [] else logged gs position)
  logged_with gs g position at more are = grind (arith, cases_Bool, eqb-true, here_with, there_with)

  pub grouped_with : (index : ℕ) (gs : List (Vec LoggedChange)) (i : ℕ) (g : Vec LoggedChange) → slice_get gs i ≡ Some g
      → h.items ≡ g.items ++ e ∷ []
      → e.position % GROUPS ≡ index + i → AreGrouped index gs → AreGrouped index (set gs i h)
  grouped_with index [] i g at more of are = tt
  grouped_with index (x ∷ gs) zero g at more of (here, are) = grind (arith, common_steps, same_Some)
  grouped_with index (x ∷ gs) (suc i) g at more of (here, are) =
      grind (arith, common_steps, grouped_with (index + 1) gs i g at more (omega (arith, of)) are)

pub ruleset appended_steps = (slice_get-get_or, grouped_with, logged_with)

pub ruleset longer_steps = (grouped_longer, logged_longer)

-- ==== variables that take their changes of the log

pub moves_then : (us vs ws : List Variable) (log rest last : ℕ → List LoggedChange) → MovesLog us vs log rest
    → MovesLog vs ws rest last → MovesLog us ws log last
moves_then us vs ws log rest last a b = grind arith

-- ---- a change

module _ (e : LoggedChange) (es : List LoggedChange) (rest : ℕ → List LoggedChange) where
  -- a test of the position of the first change
  own_position : (e.position == e.position) ≡ true
  own_position = grind arith

  -- the first change of a group can be taken
  pub can_apply : (kept : List Variable)
      → CanMoveLog kept (λ position. changes_of_position position (e ∷ es) ++ rest position) → CanApplyLogged kept e
  can_apply kept can = grind (arith, own_position, gives_narrow, gives_first)

  -- then the others are left
  pub moves_one : (old new : List Variable) → AppliesLogged e old new
      → MovesLog old new (λ position. changes_of_position position (e ∷ es) ++ rest position)
      (λ position. changes_of_position position es ++ rest position)
  moves_one old new takes = record {
    long = ap (length {A = Variable}) takes.others ∙ length-set old e.position takes.after;
    each = λ position v at. elim (cases_Bool (e.position == position)) [
      | inl same ↦
          grind (arith, eqb-true, same_Some, set_here)
      | inr other ↦ (
        v,
        ap (λ vs. slice_get vs position) takes.others ∙ set_there old _ _ _ (grind (arith, own_position)) ∙ at,
        rw other (grind arith),
      )
    ];
  }

-- a change that can be taken can still be taken
pub can_still : (old new : List Variable) (log rest : ℕ → List LoggedChange)
    → ((position : ℕ) → 0 < length (rest position) → 0 < length (log position)) → MovesLog old new log rest
    → CanMoveLog old log → CanMoveLog new rest
can_still old new log rest some moves_log can = grind arith

-- the rest of a group was in it
pub more_left : (e : LoggedChange) (es rest : List LoggedChange) (position : ℕ)
    → 0 < length (changes_of_position position es ++ rest) → 0 < length (changes_of_position position (e ∷ es) ++ rest)
more_left e es rest position some = grind arith

-- ---- changes that are counted

-- each change is one of a variable
pub all_within : (kept : List Variable) (es : List LoggedChange) (rest : ℕ → List LoggedChange)
    → ((position : ℕ) → 0 < length (changes_of_position position es ++ rest position)
    → (v : Variable) × (slice_get kept position ≡ Some v))
    → All (λ (e : LoggedChange). e.position < length kept) es
all_within kept [] rest has = grind (arith, All-nil)
all_within kept (e ∷ es) rest has =
    let here = has e.position (grind (arith, own_position)) in
    All-cons (λ (x : LoggedChange). x.position < length kept) e es (slice_get_within kept e.position here.0 here.1)
    (all_within kept es rest (λ position some. has position (more_left e es (rest position) position some)))

-- nothing but the expected room changes
hinted : (v : Variable) (room : ExpectedRoom) (log : List LoggedChange)
    → MovesChanges v (record v { expected_room = room }) log log
hinted v room log = grind arith

none_taken : (kept : List Variable) (log : ℕ → List LoggedChange) → MovesLog kept kept log log
none_taken kept log = grind (arith, hinted)

counted_next : (kept : List Variable) (e : LoggedChange) (log : ℕ → List LoggedChange)
    → MovesLog kept (counted kept e) log log
counted_next kept e log =
    let with_hint : Option Variable → List Variable =
    λ o. option_map_or (λ (v : Variable). set kept e.position (counted_variable v e)) o kept in
    elim (slice_get_cases kept e.position).1 [
      | inl (v, within, at, read) ↦
          rw (ap with_hint at) (record {
            long = length-set kept e.position (counted_variable v e);
            each = λ position u there. elim (cases_eq e.position position) [
              | inl same ↦
                  let is : v ≡ u = same_Some v u (sym at ∙ ap (slice_get kept) same ∙ there) in (
                    counted_variable v e,
                    ap (slice_get (set kept e.position (counted_variable v e))) (sym same) ∙ set_here kept _ v _ at,
                    subst (λ x. MovesChanges x (counted_variable v e) (log position) (log position)) is (hinted v _ _),
                  )
              | inr other ↦ (
                u,
                set_there kept _ _ _ other ∙ there,
                hinted u _ _,
              )
            ];
          })
      | inr (past, none) ↦ rw (ap with_hint none) (none_taken kept log)
    ]

pub all_counted : (es : List LoggedChange) (kept : List Variable) (log : ℕ → List LoggedChange)
    → MovesLog kept (fold counted kept es) log log
all_counted [] kept log = none_taken kept log
all_counted (e ∷ es) kept log = moves_then _ _ _ _ _ _ (counted_next kept e log) (all_counted es (counted kept e) log)

-- ---- the variables of a parser

pub variables_can_move : (vs : Variables) (c : ParseState) → VariablesMatch vs c
    → CanMoveLog vs.kept.items (logged vs.log.items)
variables_can_move vs c k = λ position some.
    let u = k.logs position some in
    let d = declared_at vs c k position u.0 u.1 in
    let width = u.0.wave.width in
    let had : target_of vs d.0.code ≡ Kept width position =
    (k.firsts position u.0 u.1).owned d.0 d.1 ∙ ap (Kept width) u.2 in
    let f : ℕ → List Bit = λ t. latest_value width d.0.code t (all_x width) c.value_changes in
    let wave = (own_wave vs c d.0.code [] width position k had).4 in (
      wave.first,
      wave.at_position,
      c.tick,
      f,
      rw wave.sized wave.gives,
    )

same_all : {B : Type 0} (f : Variable → B) (vs ws : List Variable) → length ws ≡ length vs
    → ((position : ℕ) (v : Variable) → slice_get vs position ≡ Some v
    → (w : Variable) × (slice_get ws position ≡ Some w) × (f w ≡ f v)) → map f ws ≡ map f vs
same_all f [] [] long each = refl
same_all f [] (w ∷ ws) long each = absurd (omega (arith, long))
same_all f (v ∷ vs) [] long each = absurd (omega (arith, long))
same_all f (v ∷ vs) (w ∷ ws) long each =
    let here = each 0 v refl in
    let head : f w ≡ f v = ap f (same_Some w here.0 here.1) ∙ here.2 in
    let tail = same_all f vs ws (omega (arith, long)) (λ position u at. each (suc position) u at) in
    λ i. head i ∷ tail i

module _ (old : Variables) (list : Vec Variable) (log : Vec (Vec LoggedChange)) (c : ParseState)
    (k : VariablesMatch old c)
    (empty : log.items ≡ [])
    (moves_log : MovesLog old.kept.items list.items (logged old.log.items) (λ _. [])) where
  -- the variable at a position before
  stood : (position : ℕ) (w : Variable) → slice_get list.items position ≡ Some w
      → (v : Variable) × (slice_get old.kept.items position ≡ Some v)
      × MovesChanges v w (logged old.log.items position) []
  stood position w at = elim (slice_get_cases old.kept.items position).1 [
    | inl (v, within, there, read) ↦
        grind (arith, same_Some)
    | inr (past, none) ↦ absurd (omega (arith, past, moves_log.long, slice_get_within list.items position w at))
  ]

  moved_wave : (position : ℕ) (code : List ℕ) (size : ℕ)
      → HasValueChanges old.kept.items (logged old.log.items) position code size c.value_changes c.tick
      → HasValueChanges list.items (logged log.items) position code size c.value_changes c.tick
  moved_wave position code size wave = grind arith

  -- the waves have the changes of the log
  pub moved_match : VariablesMatch (with_changes old list log) c
  moved_match = grind (arith, same_all, same_declaration, stands_moved, moved_wave, stood)

pub ruleset counting_steps = (All-get_or, drop_more, length-set)
