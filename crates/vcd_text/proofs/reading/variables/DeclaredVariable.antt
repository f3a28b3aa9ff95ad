-- A variable that is declared, skipped or kept.
use Rattle.std.proofs.Common.{◌≡◌, ◌⊎◌, ℕ, zero, suc, ◌+◌, ◌<◌, ◌≤◌, min, Bool, true, false, ◌||◌, ◌==◌, cond}
use Rattle.std.proofs.Common.{if◌then◌else◌, nat_lt, List, [], ◌∷◌, ◌++◌, length, map, Option, None, Some, Result, Ok}
use Rattle.std.proofs.Common.{inl, inr, refl, sym, ap, subst, ◌∙◌, arith, slice_index_or}
use Rattle.std.specs.Prelude.{bytes_eq, slice_get, count_by}
use Rattle.std.specs.Global.{Vec}
use Rattle.std.specs.Option.{option_or}
use Rattle.std.specs.List.{remove}
use Rattle.std.proofs.lemmas.List.{append-nil, nil_from_length, map-append, length_push}
use Rattle.std.proofs.lemmas.List.Elements.{filter-append}
use Rattle.std.proofs.lemmas.Bool.{lt-ltb, ltb-false, cases_lt}
use Rattle.std.proofs.lemmas.List.Sums.{sum_by-append, sum_by-cons}
use Rattle.std.proofs.lemmas.Option.{slice_get_within, same_Some}
use Rattle.vcd_core.specs.Wave.{value_from}
use Rattle.vcd_text.specs.declared.fault.Fault.{Fault}
use Rattle.vcd_core.specs.declared.value.TheConstants.{WIDTH_LIMIT}
use Rattle.vcd_core.specs.Decimal.{number_of}
use Rattle.vcd_core.specs.Word.{is_skipped_kind}
use Rattle.vcd_text.specs.Grammar.{VariableDeclaration, ValueChange, ParseState, is_skipped, kept_variables}
use Rattle.vcd_text.specs.Grammar.{variable_of, declaration_of}
use Rattle.vcd_text.specs.inside.reading.Variables.{is_within_limit, TargetAgrees, declaration_in, without_code}
use Rattle.vcd_text.specs.inside.reading.Variables.{target_of, HasValueChanges, TargetMatches, HasFirst, HaveOwnCodes}
use Rattle.vcd_text.specs.inside.reading.Variables.{VariablesMatch, IsFree, declaration_of_parts, with_declaration}
use Rattle.vcd_text.specs.inside.reading.Variables.{DeclaresAs, Declares}
use Rattle.vcd_text.specs.Meaning.{changes_of_code}
use Rattle.vcd_text.specs.inside.reading.Log.{logged}
use Rattle.vcd_text.specs.declared.reading.log.LoggedChange.{LoggedChange}
use Rattle.vcd_text.proofs.reading.variables.VariablesMatch.{gives_as, kept_long}
use Rattle.vcd_text.specs.inside.reading.Scopes.{open_scopes, IsPlaced}
use Rattle.vcd_text.specs.declared.reading.code_targets.CodeTargets.{CodeTargets}
use Rattle.vcd_text.specs.declared.reading.code_targets.CodeTarget.{CodeTarget}
use Rattle.vcd_text.specs.declared.reading.code_targets.CodeTarget.TheVariants.{Undeclared, Skipped, Kept}
use Rattle.vcd_text.specs.declared.reading.variables.Variable.{Variable}
use Rattle.vcd_text.specs.declared.reading.variables.Variables.{Variables}
use Rattle.vcd_text.proofs.reading.code_targets.Targets.{own_code, by_code, stands_kept, stands_moved, found_with}

-- ---- lists with one item more

count_with : (ds : List VariableDeclaration) (d : VariableDeclaration) (b : Bool) → is_skipped d ≡ b
    → count_by is_skipped (ds ++ d ∷ []) ≡ count_by is_skipped ds + cond b 1 0
count_with ds d b is = grind (arith, sum_by-append, sum_by-cons)

pub stays : {X : Type 0} (vs more : List X) (position : ℕ) (v : X) → slice_get vs position ≡ Some v
    → slice_get (vs ++ more) position ≡ Some v
stays [] more position v at = let no : None ≡ Some v = at in absurd (cc)
stays (w ∷ vs) more zero v at = at
stays (w ∷ vs) more (suc n) v at = stays vs more n v at

-- an item of a list with one more is an item of the list, or the new one
either_of : {X : Type 0} (vs : List X) (w : X) (position : ℕ) (v : X)
    → slice_get (vs ++ w ∷ []) position ≡ Some v → (slice_get vs position ≡ Some v) ⊎ ((position ≡ length vs) × (w ≡ v))
either_of [] w zero v at = inr (refl, same_Some w v at)
either_of [] w (suc n) v at = let no : None ≡ Some v = at in absurd (cc)
either_of (u ∷ vs) w zero v at = inl at
either_of (u ∷ vs) w (suc n) v at = grind (arith, either_of vs w n v at)

-- the item between two lists
pub middle_of : {X : Type 0} (vs rest : List X) (w : X) → slice_get (vs ++ w ∷ rest) (length vs) ≡ Some w
middle_of [] rest w = refl
middle_of (u ∷ vs) rest w = middle_of vs rest w

-- ---- the targets of codes, with one more variable

module _ (log : ℕ → List LoggedChange) (value_changes : List ValueChange) (tick : ℕ) where
  -- a variable after the others does not change the target of a code
  stands_longer : (vs more : List Variable) (code : List ℕ) (target : CodeTarget)
      (declared : Option VariableDeclaration) → TargetMatches vs log value_changes tick code target declared
      → TargetMatches (vs ++ more) log value_changes tick code target declared
  stands_longer vs more code target declared s = grind (arith, stands_moved, stays)

  -- a later declaration of another code does not change the target of a code
  stands_still : (vs : List Variable) (code : List ℕ) (target : CodeTarget)
      (declared : Option VariableDeclaration) → TargetMatches vs log value_changes tick code target declared
      → TargetMatches vs log value_changes tick code target (option_or declared None)
  stands_still vs code target declared s = grind arith

pub one_position : (v w i j : ℕ) → Kept v i ≡ Kept w j → i ≡ j
one_position v w i j same = grind arith

-- the code of a declaration has this target from now on, and the others keep theirs
abbrev pub Puts : (old new : Variables) → List ℕ → CodeTarget → Type 0
Puts old new code target = (key : List ℕ)
    → target_of new key ≡ (if bytes_eq key code then target else target_of old key)

-- so it is if the code has this target already
pub puts_same : (old new : Variables) (code : List ℕ) (target : CodeTarget) → new.code_targets ≡ old.code_targets
    → target_of old code ≡ target → Puts old new code target
puts_same old new code target same had = λ key.
    let here : target_of new key ≡ target_of old key = grind arith in
    by_code (λ b. target_of new key ≡ (if b then target else target_of old key)) key code
    (λ is. here ∙ ap (target_of old) is ∙ had) (λ _. here)

-- ---- a variable that is skipped

-- the variables with one more that is skipped, and these targets
abbrev pub with_skipped : Variables → CodeTargets CodeTarget → Variables
with_skipped vs targets = record vs { code_targets = targets; skipped = vs.skipped + 1 }

module _ (old : Variables) (targets : CodeTargets CodeTarget) (c : ParseState) (d : VariableDeclaration)
    (k : VariablesMatch old c) (skipped : is_skipped d ≡ true)
    (free : (target_of old d.code ≡ Undeclared) ⊎ (target_of old d.code ≡ Skipped))
    (puts : Puts old (with_skipped old targets) d.code Skipped)
  where
    skip_stands : (key : List ℕ)
        → TargetAgrees old c key (target_of (with_skipped old targets) key) (variable_of (with_declaration c d) key)
    skip_stands key = rw (puts key) (rw (found_with key c.declared d) (by_code (λ b. TargetAgrees old c key (if b then
        Skipped else target_of old key) (option_or (variable_of c key) (if b then Some d else None))) key d.code (λ is.
        rw is (grind arith)) (grind (arith, stands_still))))

    skip_kept : kept_variables (c.declared ++ d ∷ []) ≡ kept_variables c.declared
    skip_kept = grind (arith, filter-append, append-nil)

    -- no code got a position, or lost one
    skip_positions : (key : List ℕ) (width position : ℕ)
        → (target_of (with_skipped old targets) key ≡ Kept width position → target_of old key ≡ Kept width position)
        × (target_of old key ≡ Kept width position → target_of (with_skipped old targets) key ≡ Kept width position)
    skip_positions key width position = (
      λ is. by_code (λ b. (if b then Skipped else target_of old key) ≡ Kept width position → target_of old key
          ≡ Kept width position) key d.code (λ same none. let never : Skipped ≡ Kept width position = none in absurd
          (cc)) (λ _ had. had) (sym (puts key) ∙ is),
      λ had. puts key ∙ by_code (λ b. (if b then Skipped else target_of old key) ≡ Kept width position)
          key d.code (grind arith) (λ _. had),
    )

    skip_firsts : (position : ℕ) (v : Variable) → slice_get old.kept.items position ≡ Some v
        → HasFirst (with_skipped old targets) (kept_variables (c.declared ++ d ∷ [])) position v
    skip_firsts position v at =
        let before = k.firsts position v at in
        record {
          owned = λ e declared. (skip_positions e.code v.wave.width v.first).1 (before.owned e
              (ap (λ ds. slice_get ds position) (sym skip_kept) ∙ declared));
          placed = grind (arith, skip_kept);
          no_later = before.no_later;
        }

    -- it is declared
    pub skip_declares : (x : Unit {0}) → DeclaresAs c d (Ok x) (with_skipped old targets)
    skip_declares x = (
      grind arith,
      (λ i. skipped i || nat_lt (length (kept_variables c.declared)) c.limit),
      record {
        opened = k.opened;
        kept = ap (map without_code) skip_kept ∙ k.kept;
        skipped = ap (λ n. n + 1) k.skipped ∙ sym (count_with c.declared d true skipped);
        targets_agree = skip_stands;
        owners = rw skip_kept (λ code width position is. k.owners code width position
            ((skip_positions code width position).0 is));
        firsts = skip_firsts;
        few = k.few;
        limit = k.limit;
        grouped = k.grouped;
        logs = k.logs;
      },
    )

-- ---- a variable that is kept

-- the variables with another list and other targets
abbrev pub with_kept : Variables → Vec Variable → CodeTargets CodeTarget → Variables
with_kept vs list targets = record vs { kept = list; code_targets = targets }

module _ (old : Variables) (c : ParseState) (code : List ℕ) (v : Variable) (k : VariablesMatch old c)
    (keeps : is_skipped (declaration_in c.scopes code v) ≡ false) (free : IsFree old code v.wave.width v.first) where
  has_room_is : (b : Bool) → nat_lt (length old.kept.items) c.limit ≡ b
      → is_within_limit c.limit c.declared (declaration_in c.scopes code v) ≡ b
  has_room_is b test = grind (arith, kept_long)

  first_within : v.first ≤ length old.kept.items
  first_within = grind (arith, stands_kept, slice_get_within)

  module _ (list : Vec Variable) (targets : CodeTargets CodeTarget) (value_changes : c.value_changes ≡ [])
      (no_changes : v.wave.changes ≡ []) (placed : IsPlaced old.scopes v.place (open_scopes old.scopes))
      (items : list.items ≡ old.kept.items ++ v ∷ [])
      (puts : Puts old (with_kept old list targets) code (Kept v.wave.width v.first)) where
    unchanged_wave : HasValueChanges (old.kept.items ++ v ∷ []) (logged old.log.items) (length old.kept.items) code
        v.wave.width
        c.value_changes c.tick
    unfolding changes_of_code value_from
    unchanged_wave = search (arith, middle_of, cases_lt, slice_get_within, nil_from_length, gives_as)

    keep_stands : (key : List ℕ) → TargetAgrees (with_kept old list targets) c key
        (target_of (with_kept old list targets) key)
        (variable_of (with_declaration c (declaration_in c.scopes code v)) key)
    keep_stands key =
        let all = old.kept.items ++ v ∷ [] in
        let d = declaration_in c.scopes code v in
        let both = by_code (λ b. TargetMatches all (logged old.log.items) c.value_changes c.tick key
        (if b then Kept v.wave.width v.first else target_of old key)
        (option_or (variable_of c key) (if b then Some d else None))) key code
        (λ is. rw is (grind (arith, unchanged_wave, stands_longer))) (grind (arith, stands_still, stands_longer)) in
        rw items (rw (puts key) (rw (found_with key c.declared d) both))

    kept_more : kept_variables (c.declared ++ declaration_in c.scopes code v ∷ [])
        ≡ kept_variables c.declared ++ declaration_in c.scopes code v ∷ []
    kept_more = grind (arith, filter-append)

    -- a code with a position keeps it
    still_owned : (key : List ℕ) (width position : ℕ) → target_of old key ≡ Kept width position
        → target_of (with_kept old list targets) key ≡ Kept width position
    still_owned key width position had =
        puts key ∙ by_code (λ b. (if b then Kept v.wave.width v.first else target_of old key) ≡ Kept width position)
        key code (grind arith) (λ _. had)

    -- the variables before it have the positions of their first ones
    keep_earlier : (position : ℕ) (u : Variable) → slice_get old.kept.items position ≡ Some u
        → HasFirst (with_kept old list targets) (kept_variables c.declared ++ declaration_in c.scopes code v ∷ [])
        position u
    keep_earlier position u at =
        let before = k.firsts position u at in
        let within : position < length old.kept.items = slice_get_within old.kept.items position u at in
        let stood : (e : VariableDeclaration) → slice_get (kept_variables c.declared ++ declaration_in c.scopes code v
        ∷ []) position ≡ Some e → slice_get (kept_variables c.declared) position ≡ Some e = λ e declared.
        elim (either_of (kept_variables c.declared) (declaration_in c.scopes code v) position e declared) [
          | inl there ↦ there
          | inr (end, is) ↦ absurd (omega (arith, within, end, kept_long old c k))
        ] in
        record {
          owned = λ e declared. still_owned e.code u.wave.width u.first (before.owned e (stood e declared));
          placed = λ e declared. before.placed e (stood e declared);
          no_later = before.no_later;
        }

    keep_owners : HaveOwnCodes (with_kept old list targets)
        (kept_variables c.declared ++ declaration_in c.scopes code v ∷ [])
    keep_owners key width position is =
        let d = declaration_in c.scopes code v in
        let ds = kept_variables c.declared in
        let stayed : target_of old key ≡ Kept width position
        → (e : VariableDeclaration) × (slice_get (ds ++ d ∷ []) position ≡ Some e) × (e.code ≡ key) =
        λ had. let e = k.owners key width position had in (e.0, stays ds (d ∷ []) position e.0 e.1, e.2) in
        by_code (λ b. (if b then Kept v.wave.width v.first else target_of old key) ≡ Kept width position
        → (e : VariableDeclaration) × (slice_get (ds ++ d ∷ []) position ≡ Some e) × (e.code ≡ key)) key code
        (λ same here. elim free [
          | inl (none, end) ↦ (
            d,
            ap (slice_get (ds ++ d ∷ [])) (grind (arith, one_position, kept_long)) ∙ middle_of ds [] d,
            sym same,
          )
          | inr had ↦ stayed (ap (target_of old) same ∙ had ∙ here)
        ]) (λ _ had. stayed had) (sym (puts key) ∙ is)

    -- and so has the variable itself
    keep_last : HasFirst (with_kept old list targets)
        (kept_variables c.declared ++ declaration_in c.scopes code v ∷ []) (length old.kept.items) v
    keep_last =
        let is : (e : VariableDeclaration) → slice_get (kept_variables c.declared ++ declaration_in c.scopes code v ∷
        []) (length old.kept.items) ≡ Some e → declaration_in c.scopes code v ≡ e = λ e declared. elim (either_of
        (kept_variables c.declared) _ (length old.kept.items) e declared) [
          | inl stood ↦ absurd (omega (
            arith,
            kept_long old c k,
            slice_get_within (kept_variables c.declared) (length
                old.kept.items) e stood,
          ))
          | inr (last, same) ↦ same
        ] in
        record {
          owned = grind (arith, own_code);
          placed = grind arith;
          no_later = first_within;
        }

    keep_firsts : (position : ℕ) (u : Variable) → slice_get list.items position ≡ Some u
        → HasFirst (with_kept old list targets) (kept_variables c.declared ++ declaration_in c.scopes code v ∷ [])
        position u
    keep_firsts position u at =
        elim (either_of old.kept.items v position u (rw items at at)) [
          | inl stood ↦ keep_earlier position u stood
          | inr (end, is) ↦ grind (arith, keep_last)
        ]

    -- it is declared
    pub keep_declares : length old.kept.items < c.limit → (x : Unit {0})
        → DeclaresAs c (declaration_in c.scopes code v) (Ok x) (with_kept old list targets)
    keep_declares room x =
        let d = declaration_in c.scopes code v in (
          grind arith,
          has_room_is true (lt-ltb (length old.kept.items) c.limit room),
          record {
            opened = k.opened;
            kept = grind (arith, kept_more, map-append);
            skipped = k.skipped ∙ omega arith ∙ sym (count_with c.declared d false keeps);
            targets_agree = keep_stands;
            owners = rw kept_more keep_owners;
            firsts = rw kept_more keep_firsts;
            limit = k.limit;
            few = rw items (omega (arith, room, length_push old.kept.items v));
            grouped = k.grouped;
            logs = grind (arith, stays);
          },
        )

-- ---- the words of a declaration

-- the prefix of a list, and the rest
pub prefix_removed : (xs ys : List (List ℕ)) (x : List ℕ) → 0 < length xs → x ≡ slice_index_or xs 0 x → ys ≡ remove xs 0
    → xs ≡ x ∷ ys
prefix_removed xs ys x some prefix rest = grind arith

-- too few words for a variable
pub too_few : (c : ParseState) (kind size : List ℕ) (words : List (List ℕ)) → length words < 2
    → declaration_of c (kind ∷ size ∷ words) ≡ None
too_few c kind size words few = grind arith

-- words with the size of a variable after the first
abbrev with_size : List ℕ → List (List ℕ) → List (List ℕ)
with_size size [] = []
with_size size (kind ∷ words) = kind ∷ size ∷ words

-- so the result of the words is that of their parts, which are removed from their front
pub declares_parts : (c : ParseState) (words rest names following : List (List ℕ)) (kind code first word : List ℕ)
    (result : Result (Unit {0}) Fault) (new : Variables) → 3 ≤ length words → kind ≡ slice_index_or words 0 kind
    → rest ≡ remove words 0 → code ≡ slice_index_or rest 0 code → names ≡ remove rest 0 → words ≡ first ∷ following
    → DeclaresAs c (declaration_of_parts c kind (number_of word) code names) result new
    → Declares c (first ∷ word ∷ following) result new
declares_parts c words rest names following kind code first word result new long is_kind left is_code left_names are
    as_one =
    let head = prefix_removed _ _ _ (omega (arith, long)) is_kind left in
    let second = prefix_removed _ _ _ (omega (arith, long, ap (length {A = List ℕ}) head)) is_code left_names in
    let whole : words ≡ kind ∷ code ∷ names = head ∙ ap (λ ws. kind ∷ ws) second in
    subst (λ ws. Declares c (with_size word ws) result new) (sym whole ∙ are) (grind arith)

-- ---- sizes that are read up to a bound

-- a variable is skipped for its kind, or for the size that is read
pub left_out : (c : ParseState) (kind word code : List ℕ) (names : List (List ℕ)) (size : ℕ)
    → size ≡ min (number_of word) (WIDTH_LIMIT + 1)
    → is_skipped (declaration_of_parts c kind (number_of word) code names)
    ≡ (is_skipped_kind kind || (size == 0 || nat_lt WIDTH_LIMIT size))
left_out c kind word code names size is = grind (arith, cases_lt, lt-ltb)

-- the size that is read is that of a kept variable
pub kept_size : (by_kind : Bool) (n size : ℕ) → size ≡ min n (WIDTH_LIMIT + 1)
    → (by_kind || (size == 0 || nat_lt WIDTH_LIMIT size)) ≡ false → size ≡ n
kept_size by_kind n size is keeps = grind (arith, ltb-false)
