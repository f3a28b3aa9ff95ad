-- A change of a kept variable, and a change for the part that is kept.
use Rattle.std.proofs.Common.{◌≡◌, ◌≢◌, ◌⊎◌, ℕ, zero, suc, ◌<◌, ◌≤◌, ◌==◌, All, true, false, ◌&&◌, if◌then◌else◌}
use Rattle.std.proofs.Common.{nat_le, List, [], ◌∷◌, ◌++◌, length, map, set, get_or, None, Some, Result, Ok, Err, OnOk}
use Rattle.std.proofs.Common.{IfErr, inl, inr, refl, sym, ap, ◌∙◌, arith, ◌+◌, ◌-◌, Bool, Option}
use Rattle.std.specs.Prelude.{bytes_eq, slice_get, IsSomeAnd, IsTrue, IsFalse, MatchResult}
use Rattle.std.specs.Global.{Vec}
use Rattle.std.proofs.lemmas.Bool.{cases_Bool, cases_eq, le-leb, eq-eqb, ne_eqb, and_from, or_right}
use Rattle.std.proofs.lemmas.Option.{same_Some, get_or_from_slice_get}
use Rattle.std.proofs.lemmas.List.{length-set, append-nil}
use Rattle.std.proofs.lemmas.List.Elements.{All-weaker}
use Rattle.vcd_core.specs.declared.wave.Change.{Change}
use Rattle.vcd_core.specs.declared.bit.Bit.{Bit}
use Rattle.vcd_core.specs.Value.{all_x}
use Rattle.vcd_core.specs.Wave.{value_at}
use Rattle.vcd_text.specs.declared.fault.Fault.{Fault}
use Rattle.vcd_text.specs.declared.fault.Fault.TheVariants as faults
use Rattle.vcd_text.specs.Letters.{letters_of_digits, extension}
use Rattle.vcd_text.specs.Grammar.{VariableDeclaration, ValueChange, ParseState, is_skipped, variable_of}
use Rattle.vcd_text.specs.Grammar.{kept_variables, value_changes_after, with_value_change}
use Rattle.vcd_text.specs.inside.reading.DigitTests.{is_binary_number, takes_binary_number}
use Rattle.vcd_text.specs.inside.reading.Log.{logged_letters, GivesLoggedValues, logged, AreGrouped, IsSameVariable}
use Rattle.vcd_text.specs.inside.reading.BinaryNumber.{WritesValue, RefusesBinaryNumber}
use Rattle.vcd_text.specs.inside.reading.Variables.{declaration, target_of, HasValueChanges, TargetMatches, HasFirst}
use Rattle.vcd_text.specs.inside.reading.Variables.{latest_value, HasOnlyFirstVariables, VariablesMatch, HasValueFrom}
use Rattle.vcd_text.specs.inside.reading.Variables.{RefusesChange, no_value, too_long, ChangeResult, unknown}
use Rattle.vcd_text.specs.declared.reading.log.LoggedChange.{LoggedChange}
use Rattle.vcd_text.specs.declared.reading.code_targets.CodeTarget.TheVariants.{Kept}
use Rattle.vcd_text.specs.declared.reading.variables.Variable.{Variable}
use Rattle.vcd_text.specs.declared.reading.variables.Variables.{Variables}
use Rattle.vcd_text.specs.declared.reading.part.Part.{Part}
use Rattle.vcd_text.specs.declared.reading.parser.Parser.{Parser}
use Rattle.vcd_text.specs.declared.reading.parser.OpenItem.{OpenItem}
use Rattle.vcd_text.specs.inside.reading.Part.{seen_tick, is_late, seen_state, Remains, TellsPart, IsPassedOver, Asked}
use Rattle.vcd_text.specs.inside.reading.Part.{PartChange}
use Rattle.vcd_text.specs.inside.reading.Parser.{ParserMatches}
use Rattle.vcd_text.proofs.shared.ItemsInTurn.{value_with}
use Rattle.vcd_text.proofs.reading.variables.VariablesMatch.{gives_late, gives_as, gives_pushed, rises_more}
use Rattle.vcd_text.proofs.reading.variables.VariablesMatch.{value_after_changes-more, one_owner}
use Rattle.vcd_text.proofs.reading.code_targets.Targets.{own_code, same_code, stands_kept, stands_moved}
use Rattle.vcd_text.proofs.reading.declarations.DeclarationWords.{agrees_by}

-- ==== a change of a kept variable

-- ---- a list with another item at one position

pub set_here : (vs : List Variable) (i : ℕ) (v w : Variable) → slice_get vs i ≡ Some v
    → slice_get (set vs i w) i ≡ Some w
set_here [] i v w at = let never : None ≡ Some v = at in absurd (cc)
set_here (u ∷ vs) zero v w at = refl
set_here (u ∷ vs) (suc i) v w at = set_here vs i v w at

pub set_there : (vs : List Variable) (i j : ℕ) (w : Variable) → i ≢ j → slice_get (set vs i w) j ≡ slice_get vs j
set_there [] i j w apart = refl
set_there (u ∷ vs) zero zero w apart = absurd (apart refl)
set_there (u ∷ vs) zero (suc j) w apart = refl
set_there (u ∷ vs) (suc i) zero w apart = refl
set_there (u ∷ vs) (suc i) (suc j) w apart = set_there vs i j w (λ same. apart (ap suc same))

-- the common parts of the two variables stay
same_map : {B : Type 0} (f : Variable → B) (vs : List Variable) (i : ℕ) (v w : Variable) → slice_get vs i ≡ Some v
    → f w ≡ f v → map f (set vs i w) ≡ map f vs
same_map f [] i v w at same = refl
same_map f (u ∷ vs) zero v w at same = let is : u ≡ v = same_Some u v at in λ k. (same ∙ ap f (sym is)) k ∷ map f vs
same_map f (u ∷ vs) (suc i) v w at same = ap (λ ds. f u ∷ ds) (same_map f vs i v w at same)

same_set : (vs : List Variable) (i : ℕ) (v : Variable) → slice_get vs i ≡ Some v → vs ≡ set vs i v
same_set [] i v at = refl
same_set (u ∷ vs) zero v at = ap (λ x. x ∷ vs) (same_Some u v at)
same_set (u ∷ vs) (suc i) v at = ap (λ xs. u ∷ xs) (same_set vs i v at)

-- a variable is the same as itself
same_itself : (v : Variable) → IsSameVariable v v
same_itself v = record { place = refl; kind = refl; words = refl; width = refl; first = refl }

pub same_declaration : (v w : Variable) → IsSameVariable v w → declaration w ≡ declaration v
same_declaration v w same = grind arith

-- ---- the variables after a change

-- the variables with another list and log
abbrev pub with_changes : Variables → Vec Variable → Vec (Vec LoggedChange) → Variables
with_changes vs list log = record vs { kept = list; log = log }

-- the variable of a code
module _ (old : Variables) (c : ParseState) (code digits : List ℕ) (width first : ℕ) (k : VariablesMatch old c)
    (had : target_of old code ≡ Kept width first) where
  pub own_wave : (d : VariableDeclaration) × (variable_of c code ≡ Some d) × (is_skipped d ≡ false)
      × (d.size ≡ width) × HasValueChanges old.kept.items (logged old.log.items) first code width c.value_changes c.tick
  own_wave = grind (arith, stands_kept)

  read_is : (v : Variable) → v ≡ get_or old.kept.items first v → v ≡ own_wave.4.first
  read_is v read = read ∙ get_or_from_slice_get old.kept.items first own_wave.4.first v own_wave.4.at_position

  -- no change of its wave is past a later tick
  pub wave_late : (v : Variable) (tick : ℕ) → v ≡ get_or old.kept.items first v → c.tick ≤ tick
      → All (λ (change : Change). change.tick ≤ tick) v.wave.changes
  wave_late v tick read later = rw (read_is v read) (All-weaker (λ (e : Change). e.tick ≤ c.tick)
      (λ e. e.tick ≤ tick) (λ e le. omega (arith, le, later)) _ (gives_late width c.tick _ _ _ own_wave.4.gives))

  -- digits that it refuses are a fault
  pub refused : (fault : Fault) → RefusesBinaryNumber width digits fault → RefusesChange c code digits fault
  refused fault (inl (bad, is)) = no_value own_wave.0 own_wave.1 own_wave.2 bad is
  refused fault (inr (good, long, is)) =
      too_long own_wave.0 own_wave.1 own_wave.2 good (omega (arith, long, own_wave.3)) is

module _ (old : Variables) (list : Vec Variable) (log : Vec (Vec LoggedChange)) (c : ParseState)
    (code digits : List ℕ) (width first : ℕ)
    (v w : Variable) (k : VariablesMatch old c)
    (had : target_of old code ≡ Kept width first)
    (is_first : v ≡ (own_wave old c code digits width first k had).4.first)
    (items : list.items ≡ set old.kept.items first w) (same : IsSameVariable v w)
    (value : IsTrue (is_binary_number digits)) (short : length digits ≤ v.wave.width)
    (grouped : AreGrouped 0 log.items)
    (takes : (f : ℕ → List Bit)
    → GivesLoggedValues v.wave.width c.tick f v.wave.changes (logged old.log.items first)
    → GivesLoggedValues v.wave.width c.tick
    (λ t. if nat_le c.tick t then extension v.wave.width (letters_of_digits digits) else f t)
    w.wave.changes (logged log.items first))
    (others : (position : ℕ) → first ≢ position
    → logged log.items position ≡ logged old.log.items position) where
  stood : slice_get old.kept.items first ≡ Some v
  stood = (own_wave old c code digits width first k had).4.at_position ∙ ap Some (sym is_first)

  sized : v.wave.width ≡ (own_wave old c code digits width first k had).0.size
  sized = grind (arith, own_wave)

  -- the variables of the new list are those of the old one, but for the wave
  following : (position : ℕ) (u : Variable) → slice_get list.items position ≡ Some u
      → (t : Variable) × (slice_get old.kept.items position ≡ Some t) × IsSameVariable t u
  following position u at = grind (arith, cases_eq, same_Some, set_here, stood, set_there, same_itself)

  -- the value change
  new_value_change : ValueChange
  new_value_change = record { tick = c.tick; code = code; letters = letters_of_digits digits }

  -- the wave of the code takes the value
  wave_changed : (key : List ℕ) (size position : ℕ) → code ≡ key → target_of old key ≡ Kept size position
      → HasValueChanges old.kept.items (logged old.log.items) position key size c.value_changes c.tick
      → HasValueChanges list.items (logged log.items) position key size (c.value_changes ++ new_value_change ∷ [])
      c.tick
  unfolding new_value_change
  wave_changed key size position equal owned wave =
      let at : first ≡ position = grind arith in
      let is : v ≡ wave.first = same_Some v wave.first (grind arith) in
      let old_size : v.wave.width ≡ size = ap (λ (u : Variable). u.wave.width) is ∙ wave.sized in
      let before : ℕ → List Bit = λ t. latest_value size key t (all_x size) c.value_changes in
      let had_values : GivesLoggedValues v.wave.width c.tick before v.wave.changes
      (logged old.log.items first) = grind arith in
      let has_values : GivesLoggedValues size c.tick (λ t. if nat_le c.tick t then extension size
      (letters_of_digits digits) else before t) w.wave.changes (logged log.items position) = grind arith in
      record {
        first = w;
        at_position = grind (arith, set_here, stood);
        sized = same.width ∙ old_size;
        gives = grind (arith, gives_as, own_code, value_with);
      }

  -- the wave of another code stays
  wave_kept : (key : List ℕ) (size position : ℕ) → bytes_eq code key ≡ false → target_of old key ≡ Kept size position
      → HasValueChanges old.kept.items (logged old.log.items) position key size c.value_changes c.tick
      → HasValueChanges list.items (logged log.items) position key size (c.value_changes ++ new_value_change ∷ [])
      c.tick
  unfolding new_value_change
  wave_kept key size position other owned wave =
      let apart : first ≢ position = λ same.
      let both : true ≡ false = sym (own_code code) ∙ ap (bytes_eq code)
      (one_owner old _ k.owners code key width size _ (had ∙ ap (Kept width) same) owned) ∙ other in absurd (cc) in
      grind (arith, set_there, gives_as, value_with)

  firsts_kept : (position : ℕ) (u : Variable) → slice_get list.items position ≡ Some u
      → HasFirst (with_changes old list log) (kept_variables c.declared) position u
  firsts_kept position u at = grind (arith, following)

  changed_stands : (key : List ℕ)
      → TargetMatches list.items (logged log.items) (c.value_changes ++ new_value_change ∷ []) c.tick key
      (target_of old key) (variable_of c key)
  changed_stands key = stands_moved _ _ _ _ _ _ _ _ _ _ _ (λ size position owned wave. elim (cases_Bool _) [
    | inl equal ↦ wave_changed _ _ _ (same_code _ _ equal) owned wave
    | inr other ↦ wave_kept _ _ _ other owned wave
  ]) (k.targets_agree key)

  told_are : value_changes_after c code (letters_of_digits digits) (variable_of c code) ≡ new_value_change ∷ []
  unfolding new_value_change
  told_are = grind (arith, own_wave)

  -- the log has changes only of first variables
  logs_kept : HasOnlyFirstVariables list.items (logged log.items)
  logs_kept position some = grind (arith, cases_eq, set_here, stood, own_wave, same_Some, set_there)

  -- its variable accepts the digits
  changed_takes : IsSomeAnd (variable_of c code) (λ d. IsTrue (takes_binary_number d digits))
  changed_takes = grind (arith, own_wave, le-leb, sized)

  changed : (x : Unit {0}) → ChangeResult c code digits (Ok x) (with_changes old list log)
  changed x = (
    changed_takes,
    search (arith, same_map, stood, same_declaration, told_are, changed_stands, firsts_kept, length-set, logs_kept),
  )

-- the result of a change that a wave takes
pub wide_changes : (old : Variables) (list : Vec Variable) (c : ParseState) (code digits : List ℕ) (width first : ℕ)
    (v w : Variable) (result : Result (Unit {0}) Fault) (k : VariablesMatch old c)
    (had : target_of old code ≡ Kept width first) → v ≡ get_or old.kept.items first v
    → (64 < width) ⊎ (old.log.items ≡ [])
    → list.items ≡ set old.kept.items first w → OnOk result (HasValueFrom c.tick digits v w)
    → IfErr result (λ fault. (fault ≡ faults.NoMemory) ⊎ RefusesBinaryNumber v.wave.width digits fault)
    → ChangeResult c code digits result (with_changes old list old.log)
wide_changes old list c code digits width first v w (Ok x) k had read wide items sets refuses =
    let is = read_is _ _ code digits _ _ k had _ read in
    let size = ap (λ (u : Variable). u.wave.width) is ∙ (own_wave _ _ _ digits _ _ k had).4.sized in
    changed _ _ _ _ _ _ _ _ _ _ k had is items sets.same sets.value sets.fits k.grouped (λ f g. gives_pushed _ _ _ _
    (extension v.wave.width (letters_of_digits digits)) _ _ (elim wide [
      | inl more ↦ inl (omega (arith, more, size))
      | inr none ↦ inr (ap (λ l. logged l first) none)
    ]) sets.ticks (λ t. ap (λ n. value_at n w.wave.changes t) (sym sets.same.width) ∙ sets.values t) g) (λ position _.
    refl) _
wide_changes old list c code digits width first v w (Err fault) k had read wide items sets (inl none) = inl none
wide_changes old list c code digits width first v w (Err fault) k had read wide items sets (inr refuses) =
    inr (refused _ _ _ _ _ _ k had _ (rw (ap (λ (u : Variable). u.wave.width) (read_is _ _ code digits _ _ k had _ read)
    ∙ (own_wave _ _ _ digits _ _ k had).4.sized) at refuses))

-- the result of a change of another variable, which goes to the log
pub narrow_changes : (old : Variables) (log : Vec (Vec LoggedChange)) (c : ParseState) (code digits : List ℕ)
    (width first : ℕ) (e : LoggedChange) (k : VariablesMatch old c)
    (had : target_of old code ≡ Kept width first) → width ≤ 64
    → e.tick ≡ c.tick → e.position ≡ first → WritesValue width digits (logged_letters width e) → AreGrouped 0 log.items
    → ((position : ℕ) → logged log.items position ≡ (if e.position == position then logged old.log.items position
    ++ e ∷ [] else logged old.log.items position))
    → (x : Unit {0}) → ChangeResult c code digits (Ok x) (with_changes old old.kept log)
narrow_changes old log c code digits width first e k had narrow at_tick at writes grouped more x =
    let v : Variable = (own_wave old c code digits width first k had).4.first in
    let size : v.wave.width ≡ width = (own_wave old c code digits width first k had).4.sized in
    let here : (e.position == first) ≡ true = eq-eqb e.position first at in
    changed old old.kept log c code digits width first v v k had refl (same_set old.kept.items first v (own_wave old c
    code digits width first k had).4.at_position) (same_itself v) writes.0 (omega (arith, writes.1, size)) grouped (λ f
    g. rw (more first ∙ ap (λ b. if b then logged old.log.items first ++ e ∷ [] else logged old.log.items first) here)
    (grind (arith, rises_more, value_after_changes-more))) (λ position apart. more position ∙ ap (λ b. if b then logged
    old.log.items position ++ e ∷ [] else logged old.log.items position) (ne_eqb e.position position (λ equal. apart
    (sym at ∙ equal)))) x

-- ==== a change, for the part that is kept

-- a test that is both true and false
pub not_both : {A : Type 0} {b : Bool} → b ≡ true → b ≡ false → A
not_both is isnt = let both : true ≡ false = sym is ∙ isnt in absurd (cc)

-- a fault in the state that is kept is one in the state of the file
pub refuses_file : (part : Part) (c : ParseState) (seen : List ValueChange) (code digits : List ℕ) (fault : Fault)
    → RefusesChange (seen_state part c seen) code digits fault → RefusesChange c code digits fault
refuses_file part c seen code digits fault (unknown none which) = unknown none which
refuses_file part c seen code digits fault (no_value d found keeps isnt which) = no_value d found keeps isnt which
refuses_file part c seen code digits fault (too_long d found keeps value long which) =
    too_long d found keeps value long which

-- the tick of the state that is kept
pub seen_at : (asked : Asked) (m : Parser) (c : ParseState) (a : ParserMatches asked m c)
    → (seen_state m.part c a.seen).tick ≡ seen_tick m.part m.tick
seen_at asked m c a = ap (seen_tick m.part) (sym a.tick)

-- ---- ticks

-- ---- one value change more

-- for a variable that remains, at a tick of the part
module _ (part : Part) (c : ParseState) (seen : List ValueChange) (code : List ℕ) (letters : List Bit)
    (d : VariableDeclaration) (t : ℕ) (within : t ≤ part.last - part.first)
    (told : latest_value d.size d.code t (all_x d.size) seen
    ≡ latest_value d.size d.code (part.first + t) (all_x d.size) c.value_changes) where
  abbrev kept_value : List ValueChange → List Bit
  kept_value rs = latest_value d.size d.code t (all_x d.size) rs

  abbrev file_value : List ValueChange → List Bit
  file_value rs = latest_value d.size d.code (part.first + t) (all_x d.size) rs

  -- a change that is kept
  told_kept : IsFalse (is_late part c.tick) → (o : Option VariableDeclaration)
      → kept_value (seen ++ value_changes_after (seen_state part c seen) code letters o)
      ≡ file_value (c.value_changes ++ value_changes_after c code letters o)
  told_kept in_time o = grind (arith, append-nil, value_with)

  -- nor one of a skipped variable
  told_skipped : (o : Option VariableDeclaration) → IsSomeAnd o (λ e. IsTrue (is_skipped e))
      → kept_value seen ≡ file_value (c.value_changes ++ value_changes_after c code letters o)
  told_skipped o is = grind (arith, append-nil)

-- a condition is false if its first part is, or its second
false_first : (a b : Bool) → a ≡ false → (a && b) ≡ false
false_first a b is = ap (λ x. x && b) is

-- ---- the parser after a change

module _ (asked : Asked) (m : Parser) (c : ParseState) (vs : Variables) (code digits : List ℕ) (item : OpenItem)
    (a : ParserMatches asked m c) (in_body : m.in_body ≡ true) where
  abbrev letters : List Bit
  letters = letters_of_digits digits

  abbrev changed_state : ParseState
  changed_state = with_value_change c code letters

  matches : (seen : List ValueChange) → VariablesMatch vs (seen_state m.part changed_state seen)
      → TellsPart m.part changed_state seen → vs.code_targets ≡ m.variables.code_targets
      → ParserMatches asked (record m { variables = vs; item = item }) changed_state
  matches seen variables tells same = grind (arith, agrees_by, not_both)

  -- a change that is passed over is unseen
  unseen : IsPassedOver m.part m.silent.items m.variables c.tick code → (position : ℕ) (d : VariableDeclaration)
      → Remains m.part c position d → (t : ℕ) → t ≤ m.part.last - m.part.first
      → (bytes_eq code d.code && nat_le c.tick (m.part.first + t)) ≡ false
  unseen (inl late) position d remains t within = grind arith
  unseen (inr (width, first, target, silent)) position d remains t within =
      elim (cases_Bool (bytes_eq code d.code)) [
        | inl same ↦ not_both silent (a.hears (sym a.in_body ∙ in_body) position d remains width first
            (ap (target_of m.variables) (sym (same_code code d.code same)) ∙ target))
        | inr other ↦ false_first (bytes_eq code d.code) _ other
      ]

  pub agrees_changed : PartChange m.part m.silent.items m.tick (seen_state m.part c a.seen) code digits m.variables
      (Ok tt) vs → ParserMatches asked (record m { variables = vs; item = item }) changed_state
  agrees_changed (takes, same, inl (in_time, variables)) = grind (arith, matches, told_kept)
  agrees_changed (takes, same, inr (variables, inl skipped)) = search (arith, matches, told_skipped)
  agrees_changed (takes, same, inr (variables, inr passed)) = matches a.seen variables
      (grind (arith, append-nil, value_with, unseen)) same

-- ==== the result of a change of a variable, for the part that is kept

-- digits that are checked alone
pub checked : (part : Part) (silent : List Bool) (tick : ℕ) (c : ParseState) (code digits : List ℕ) (width first : ℕ)
    (vs : Variables) (result : Result (Unit {0}) Fault) → VariablesMatch vs c → target_of vs code ≡ Kept width first
    → MatchResult result (λ _. IsTrue (is_binary_number digits) × (length digits ≤ width))
    (λ fault. RefusesBinaryNumber width digits fault)
    → IsPassedOver part silent vs tick code → PartChange part silent tick c code digits vs result vs
checked part silent tick c code digits width first vs (Ok x) k had (value, fits) passed =
    grind (arith, own_wave, or_right, and_from, le-leb)
checked part silent tick c code digits width first vs (Err fault) k had refuses passed =
    inr (refused vs c code digits width first k had fault refuses)

-- a change that is kept
pub kept_in_time : (part : Part) (silent : List Bool) (tick : ℕ) (c : ParseState) (code digits : List ℕ)
    (old new : Variables) (result : Result (Unit {0}) Fault) → IsFalse (is_late part tick)
    → new.code_targets ≡ old.code_targets → ChangeResult c code digits result new
    → PartChange part silent tick c code digits old result new
kept_in_time part silent tick c code digits old new result in_time same change = grind arith
