-- A variable while a file is amended.
use Rattle.std.proofs.Common.{◌≡◌, ◌<◌, ◌+◌, ◌||◌, not, ℕ, zero, suc, Bool, true, false, List, [], ◌∷◌, ◌++◌, map, drop}
use Rattle.std.proofs.Common.{length, find, Option, Some, None, refl, sym, ap, ◌∙◌, arith, cond, if◌then◌else◌}
use Rattle.std.proofs.Common.{subst, inl, inr, ◌==◌}
use Rattle.std.proofs.Common.{is_some, Bor}
use Rattle.std.specs.Prelude.{bytes_eq, slice_index_or, get_or, IfSome, replicate}
use Rattle.std.specs.List.{list_any}
use Rattle.std.specs.Option.{option_map, option_or}
use Rattle.std.specs.Global.{Vec}
use Rattle.std.proofs.lemmas.Bool.{cases_Bool}
use Rattle.std.proofs.lemmas.List.{append-nil, length-append, drop-drop, length-replicate}
use Rattle.std.proofs.lemmas.List.Elements.{filter-append}
use Rattle.std.proofs.lemmas.List.Folds.{find-append}
use Rattle.std.proofs.lemmas.Slice.Eq.{bytes_eq-Decides}
use Rattle.vcd_text.specs.Grammar.{ParseState, VariableDeclaration, initial_state, is_skipped, kept_variables}
use Rattle.vcd_text.specs.Grammar.{variable_of}
use Rattle.vcd_text.specs.inside.reading.CodeTargets.{code_target}
use Rattle.vcd_text.specs.declared.reading.code_targets.CodeTargets.{CodeTargets}
use Rattle.vcd_amend.specs.Amendment as spec
use Rattle.vcd_amend.specs.Amendment.{AmendedCode, fate_of, variable_left, variables_left, is_used, flat_map_along}
use Rattle.vcd_amend.specs.AmendmentContents.{amendment_contents, fate_contents, added_contents}
use Rattle.vcd_amend.specs.declared.amendment.AddedVariable.{AddedVariable}
use Rattle.vcd_amend.specs.AmendedMeaning.{AreApart}
use Rattle.vcd_amend.specs.declared.amendment.Fate.{Fate}
use Rattle.vcd_amend.specs.declared.amending.code_uses.CodeUse.{CodeUse}
use Rattle.vcd_amend.specs.declared.amending.code_progress.CodeProgress.{CodeProgress}
use Rattle.vcd_amend.specs.declared.amending.file_amender.FileAmender.{FileAmender}
use Rattle.vcd_amend.specs.inside.amending.CodeUses.{amended_index}
use Rattle.vcd_amend.specs.inside.amending.CodeProgress.{ProgressMatches, AllProgressMatches, no_progress}
use Rattle.vcd_amend.specs.inside.amending.CodeProgress.{noted_variable}
use Rattle.vcd_amend.specs.inside.amending.CodeProgress.{is_at_index}
use Rattle.vcd_amend.specs.inside.amending.VariableLeft.{has_left}
use Rattle.vcd_amend.specs.inside.amending.FileAmender.{IsAt, with_declared, fate_contents_first}
use Rattle.vcd_amend.proofs.amending.Values.{code_of_index, not_found_by, index_none, index_some, index_within}
use Rattle.vcd_amend.proofs.amended.Along.{flat_map_along-append}

-- ---- codes that are used

-- whether one of these has the code
abbrev pub any_has : (key : List ℕ) → List VariableDeclaration → Bool
any_has key ds = is_some (find (λ d. bytes_eq key d.code) ds)

one_has : (key : List ℕ) (d : VariableDeclaration) → bytes_eq key d.code ≡ any_has key (d ∷ [])
one_has key d = by_test (bytes_eq key d.code)
  where
    by_test : (b : Bool) → b ≡ is_some (cond b (Some d) None)
    by_test true = refl
    by_test false = refl

some_of : {X : Type 0} (o p : Option X) → is_some (option_or o p) ≡ (is_some o || is_some p)
some_of None p = refl
some_of (Some x) p = refl

pub any_both : (key : List ℕ) (xs ys : List VariableDeclaration) → any_has key (xs ++ ys) ≡
    (any_has key xs || any_has key ys)
any_both key xs ys = ap (λ (o : Option VariableDeclaration). is_some o)
    (find-append (λ (d : VariableDeclaration). bytes_eq key d.code) xs ys)
    ∙ some_of (find (λ (d : VariableDeclaration). bytes_eq key d.code) xs)
    (find (λ (d : VariableDeclaration). bytes_eq key d.code) ys)

or_between : (a b d : Bool) → ((a || b) || d) ≡ ((a || d) || b)
or_between true b d = refl
or_between false true true = refl
or_between false true false = refl
or_between false false true = refl
or_between false false false = refl

module _ (a : spec.Amendment) (s : ParseState) (d : VariableDeclaration) where
  left_more : variables_left a (s.declared ++ d ∷ []) ≡ variables_left a s.declared ++ variable_left
      (fate_of a s.declared d) d
  left_more =
      let f : List VariableDeclaration → VariableDeclaration → List VariableDeclaration = λ before e. variable_left
      (fate_of a before e) e in
      flat_map_along-append f [] s.declared (d ∷ [])
      ∙ ap (λ l. variables_left a s.declared ++ l) (append-nil (f s.declared d))

  pub used_more : (key : List ℕ) → is_used a (with_declared s d) key
      ≡ (is_used a s key || any_has key (variable_left (fate_of a s.declared d) d))
  used_more key =
      let left = variables_left a s.declared in
      let new = variable_left (fate_of a s.declared d) d in
      ap (λ l. any_has key (l ++ a.added)) left_more
      ∙ any_both key (left ++ new) a.added ∙ ap (λ b. b || any_has key a.added) (any_both key left new)
      ∙ or_between (any_has key left) (any_has key new) (any_has key a.added)
      ∙ ap (λ b. b || any_has key new) (sym (any_both key left a.added))

-- ---- what the file has had of a code

same_both : (a b : List ℕ) → bytes_eq a b ≡ bytes_eq b a
same_both a b = elim (cases_Bool (bytes_eq a b)) [
  | inl same ↦ same ∙ sym ((bytes_eq-Decides b a).1 (sym ((bytes_eq-Decides a b).0 same)))
  | inr apart ↦ apart ∙ sym (not_same (bytes_eq b a) (λ back. bytes_eq-sym back) apart)
]
  where
    bytes_eq-sym : bytes_eq b a ≡ true → bytes_eq a b ≡ true
    bytes_eq-sym back = (bytes_eq-Decides a b).1 (sym ((bytes_eq-Decides b a).0 back))

    not_same : (t : Bool) → (t ≡ true → bytes_eq a b ≡ true) → bytes_eq a b ≡ false → t ≡ false
    not_same true back apart = let both = sym (back refl) ∙ apart in absurd (cc)
    not_same false back apart = refl

noted_kept : (p : CodeProgress) (o : Option VariableDeclaration) (d : VariableDeclaration) (kept : Bool)
    → kept ≡ not (is_skipped d) → p.is_kept ≡ option_map (λ (e : VariableDeclaration). not (is_skipped e)) o
    → (noted_variable kept p).is_kept ≡ option_map (λ (e : VariableDeclaration). not (is_skipped e))
    (option_or o (Some d))
noted_kept p None d kept same is =
    ap (λ (q : Option Bool). if is_some q then q else Some kept) is ∙ ap (λ b. Some b) same
noted_kept p (Some e) d kept same is = ap (λ (q : Option Bool). if is_some q then q else Some kept) is

variable_progress : (s : ParseState) (c : AmendedCode) (p : CodeProgress) (d : VariableDeclaration) (kept : Bool)
    → kept ≡ not (is_skipped d) → ProgressMatches s c p
    → ProgressMatches (with_declared s d) c (if bytes_eq d.code c.code then noted_variable kept p else p)
variable_progress s c p d kept same before = by_code (bytes_eq d.code c.code) refl
  where
    or_none : (o : Option VariableDeclaration) → option_or o None ≡ o
    or_none None = refl
    or_none (Some e) = refl

    found : variable_of (with_declared s d) c.code ≡ option_or (variable_of s c.code)
        (if bytes_eq c.code d.code then Some d else None)
    found = find-append (λ (e : VariableDeclaration). bytes_eq c.code e.code) s.declared (d ∷ [])

    by_code : (b : Bool) → bytes_eq d.code c.code ≡ b → ProgressMatches (with_declared s d) c
        (if b then noted_variable kept p else p)
    by_code true is = record {
      kept = noted_kept p (variable_of s c.code) d kept same before.kept
          ∙ ap (option_map (λ (e : VariableDeclaration). not (is_skipped e))) (sym (found
          ∙ ap (λ (b : Bool). option_or (variable_of s c.code) (if b then Some d else None))
          (same_both c.code d.code ∙ is)));
      passed = before.passed;
      changes = before.changes;
    }
    by_code false is = record {
      kept = before.kept ∙ ap (option_map (λ (e : VariableDeclaration). not (is_skipped e))) (sym (found
          ∙ ap (λ (b : Bool). option_or (variable_of s c.code) (if b then Some d else None))
          (same_both c.code d.code ∙ is)
          ∙ or_none (variable_of s c.code)));
      passed = before.passed;
      changes = before.changes;
    }

pub variables_progress : (s : ParseState) (cs : List AmendedCode) (ps new : List CodeProgress) (d : VariableDeclaration)
    (kept : Bool) → AreApart cs → kept ≡ not (is_skipped d) → length new ≡ length ps
    → ((k : ℕ) → k < length ps → slice_index_or new k no_progress
    ≡ (if is_at_index (amended_index d.code cs) k then noted_variable kept (slice_index_or ps k no_progress)
    else slice_index_or ps k no_progress))
    → AllProgressMatches s cs ps → AllProgressMatches (with_declared s d) cs new
variables_progress s cs ps new d kept apart same long noted before = record {
  count = long ∙ before.count;
  each = λ k within.
      let c = code_of_index cs k in
      let p = slice_index_or ps k no_progress in
      subst (ProgressMatches (with_declared s d) c) (sym (noted k (omega (arith, before.count, within))
      ∙ ap (λ (b : Bool). if b then noted_variable kept p else p)
      (sym (by_index (amended_index d.code cs) refl k within))))
      (variable_progress s c p d kept same (before.each k within));
}
  where
    by_index : (o : Option ℕ) → amended_index d.code cs ≡ o → (k : ℕ) → k < length cs
        → bytes_eq d.code (code_of_index cs k).code ≡ is_at_index (amended_index d.code cs) k
    by_index None is k within = not_found_by d.code cs k (index_none d.code cs 0 is) within
        ∙ ap (λ o. is_at_index o k) (sym is)
    by_index (Some i) is k within = (index_some d.code cs 0 i apart is).only k within
        ∙ ap (λ n. n == i) (let e : 0 + k ≡ k = omega arith in e) ∙ ap (λ o. is_at_index o k) (sym is)

-- ---- fates

-- the fates that are left
pub fates_more : (fates : List Fate) (ds : List VariableDeclaration) (d : VariableDeclaration) (kept : Bool)
    → kept ≡ not (is_skipped d)
    → (if kept then drop 1 (drop (length (kept_variables ds)) fates) else drop (length (kept_variables ds)) fates)
    ≡ drop (length (kept_variables (ds ++ d ∷ []))) fates
fates_more fates ds d kept same =
    ap (λ (b : Bool). if b then drop 1 (drop (length (kept_variables ds)) fates) else drop (length (kept_variables ds))
    fates) same
    ∙ by_kept (not (is_skipped d)) ∙ ap (λ (n : ℕ). drop n fates) (sym (ap (λ (l : List VariableDeclaration). length l)
    (filter-append (λ (e : VariableDeclaration). not (is_skipped e)) ds (d ∷ [])) ∙ length-append (kept_variables ds)
    _))
  where
    by_kept : (b : Bool) → (if b then drop 1 (drop (length (kept_variables ds)) fates) else drop (length (kept_variables
        ds)) fates)
        ≡ drop (length (kept_variables ds) + length (cond b (d ∷ []) [])) fates
    by_kept true = drop-drop 1 (length (kept_variables ds)) fates
    by_kept false = ap (λ (n : ℕ). drop n fates) (let e : length (kept_variables ds) ≡ length (kept_variables ds) + 0 =
        omega arith in e)

-- the first of them is the fate of the variable
pub fate_first : (fates : List Fate) (a : spec.Amendment) (ds : List VariableDeclaration) (d : VariableDeclaration)
    (kept : Bool) → kept ≡ not (is_skipped d) → a.fates ≡ map fate_contents fates
    → fate_contents_first kept (drop (length (kept_variables ds)) fates) ≡ fate_of a ds d
fate_first fates a ds d kept same is =
    ap (λ b. fate_contents_first b (drop (length (kept_variables ds)) fates)) same ∙ by_skip (is_skipped d)
  where
    at : (fs : List Fate) (n : ℕ) → fate_contents_first true (drop n fs) ≡ get_or (map fate_contents fs) n spec.stays
    at [] zero = refl
    at [] (suc n) = refl
    at (f ∷ fs) zero = refl
    at (f ∷ fs) (suc n) = at fs n

    by_skip : (b : Bool) → fate_contents_first (not b) (drop (length (kept_variables ds)) fates)
        ≡ (if b then spec.stays else get_or a.fates (length (kept_variables ds)) spec.stays)
    by_skip true = refl
    by_skip false = at fates (length (kept_variables ds))
        ∙ ap (λ (l : List spec.Fate). get_or l (length (kept_variables ds)) spec.stays) (sym is)

-- ---- the amender after a variable

module _ (m : FileAmender) (s : ParseState) (none : Bool) (at : IsAt m s none) (d : VariableDeclaration) (kept : Bool)
    (same : kept ≡ not (is_skipped d)) where
  pub at_variable : (uses : CodeTargets CodeUse) (progress : Vec CodeProgress) (fates : Bor (List Fate))
      → ((key : List ℕ) → (code_target uses key).is_used ≡ ((code_target m.uses key).is_used
      || any_has key (variable_left (fate_of (amendment_contents m.amendment.now) s.declared d) d)))
      → ((key : List ℕ) → (code_target uses key).amended ≡ (code_target m.uses key).amended)
      → length progress.items ≡ length m.progress.items
      → ((k : ℕ) → k < length m.progress.items → slice_index_or progress.items k no_progress
      ≡ (if is_at_index (code_target m.uses d.code).amended k then noted_variable kept
      (slice_index_or m.progress.items k no_progress)
      else slice_index_or m.progress.items k no_progress))
      → fates.now ≡ (if kept then drop 1 m.fates.now else m.fates.now)
      → IsAt (record m { uses = uses; progress = progress; fates = fates }) (with_declared s d) none
  at_variable uses progress fates used amended long noted left =
      let a = amendment_contents m.amendment.now in
      record {
        fates = left ∙ ap (λ (l : List Fate). if kept then drop 1 l else l) at.fates
            ∙ fates_more m.amendment.now.fates.items s.declared d kept same;
        used = λ key. used key ∙ ap (λ b. b || any_has key (variable_left (fate_of a s.declared d) d)) (at.used key)
            ∙ sym (used_more a s d key);
        amended = λ key. amended key ∙ at.amended key;
        progress = variables_progress s a.codes m.progress.items progress.items d kept at.apart same long
            (λ k within. noted k within ∙ ap (λ o. if is_at_index o k then noted_variable kept (slice_index_or
            m.progress.items k no_progress)
            else slice_index_or m.progress.items k no_progress) (at.amended d.code)) at.progress;
        counts = at.counts;
        due = at.due;
        within = at.within;
        apart = at.apart;
        tick = at.tick;
        none_yet = at.none_yet;
      }

-- ---- what is left of it

pub has_left_is : (key : List ℕ) (f : spec.Fate) (d : VariableDeclaration)
    → has_left key f d.code ≡ any_has key (variable_left f d)
has_left_is key spec.stays d = one_has key d
has_left_is key spec.is_removed d = refl
has_left_is key (spec.is_changed words code) d = one_has key (record d { words = words; code = code })

pub amended_within : (m : FileAmender) (s : ParseState) (none : Bool) → IsAt m s none → (key : List ℕ) (o : Option ℕ)
    (n : ℕ)
    → (code_target m.uses key).amended ≡ o → n ≡ length m.progress.items → IfSome o (λ i. i < n)
amended_within m s none at key None n is long = tt
amended_within m s none at key (Some i) n is long = omega (
  arith,
  index_within m s none at key i is,
  at.progress.count,
  long,
)

pub any_added : (key : List ℕ) (vs : List AddedVariable) → list_any (λ v. bytes_eq key v.code) vs
    ≡ any_has key (map added_contents vs)
any_added key [] = refl
any_added key (v ∷ vs) = by_test (bytes_eq key v.code) (any_added key vs)
  where
    by_test : (b : Bool) → list_any (λ (x : AddedVariable). bytes_eq key x.code) vs ≡ any_has key
        (map added_contents vs)
        → (b || list_any (λ (x : AddedVariable). bytes_eq key x.code) vs)
        ≡ is_some (cond b (Some (added_contents v)) (find (λ (d : VariableDeclaration). bytes_eq key d.code) (map
        added_contents vs)))
    by_test true rest = refl
    by_test false rest = rest

first_each : (cs : List AmendedCode) (n k : ℕ) → ProgressMatches (initial_state 0) (code_of_index cs k)
    (slice_index_or (replicate n no_progress) k no_progress)
first_each cs n k = subst (ProgressMatches (initial_state 0) (code_of_index cs k)) (sym (same n k)) (record {
  kept = refl;
  passed = λ t at. absurd (never t at);
  changes = λ t from. refl;
})
  where
    same : (n k : ℕ) → slice_index_or (replicate n no_progress) k no_progress ≡ no_progress
    same zero k = refl
    same (suc n) zero = refl
    same (suc n) (suc k) = same n k

    never : (t : ℕ) → no_progress.changed_at ≡ Some t → ⊥
    never t at = cc

pub first_progress : (cs : List AmendedCode) (ps : List CodeProgress) (n : ℕ) → n ≡ length cs → ps ≡ replicate n
    no_progress
    → AllProgressMatches (initial_state 0) cs ps
first_progress cs ps n long is = record {
  count = ap (λ (l : List CodeProgress). length l) is ∙ length-replicate n no_progress ∙ long;
  each = λ k within. subst (λ l. ProgressMatches (initial_state 0) (code_of_index cs k) (slice_index_or l k
      no_progress))
      (sym is) (first_each cs n k);
}
