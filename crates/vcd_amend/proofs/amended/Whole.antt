-- The items of an amended file are accepted, and mean the amended capture.
use Rattle.std.proofs.Common.{◌≡◌, ◌⊎◌, ℕ, ◌+◌, Bool, true, false, not, ◌∙◌, List, [], ◌∷◌, ◌++◌, Option, Some, None}
use Rattle.std.proofs.Common.{refl, sym, ap, append_assoc, inl, inr, subst}
use Rattle.std.specs.Prelude.{option_to_list, count_by}
use Rattle.std.proofs.lemmas.Bool.{false≢true, and_parts, not_from_false}
use Rattle.std.proofs.lemmas.List.{append-nil}
use Rattle.vcd_text.specs.Items.{Item, entry, timescale, scope, upscope, variable, end_definitions, stamp, scalar}
use Rattle.vcd_text.specs.Items.{vector, real_or_string, dump_word, other}
use Rattle.vcd_text.specs.Grammar.{ParseState, ValueChange, VariableDeclaration, Allows, AllowsAll, state_after_item}
use Rattle.vcd_text.specs.Grammar.{state_after, declaration_of, initial_state, is_skipped}
use Rattle.vcd_text.specs.Meaning.{meaning}
use Rattle.vcd_amend.specs.Amendment.{Amendment, AmendedCode, variables_left, amended_variables, amended_code}
use Rattle.vcd_amend.specs.AmendedItems.{amended_items, item_fate, still_none_yet}
use Rattle.vcd_amend.specs.AmendedMeaning.{FitsFile, MeansAmended, AmendedFileMeansAmendedCapture}
use Rattle.vcd_text.proofs.shared.ItemsInTurn.{Reaches, reaches_both, reaches_one}
use Rattle.vcd_text.proofs.part.FewSignals.{same_limit}
use Rattle.vcd_amend.proofs.amended.OneCode.{of_code, any_at, nothing_holds}
use Rattle.vcd_amend.proofs.amended.Due.{body_of, scopes_left}
use Rattle.vcd_amend.proofs.amended.Body.{HoldsFor, Holds, InBody, rescoped, at, Serves}
use Rattle.vcd_amend.proofs.amended.Changes.{LeadsOn, all_lead, IsOldAt}
use Rattle.vcd_amend.proofs.amended.Declared.{declaring, end_leads, declaration_leads, signals_mean, as_many_skipped}
use Rattle.vcd_amend.proofs.amended.Fitting.{serves, is_old}

-- ---- what items leave as it is

-- variables come last
item_grows : (s : ParseState) (i : Item)
    → (ys : List VariableDeclaration) × ((state_after_item s i).declared ≡ s.declared ++ ys)
item_grows s (variable words) = (option_to_list (declaration_of s words), refl)
item_grows s (entry kind words) = ([], sym (append-nil s.declared))
item_grows s (timescale words) = ([], sym (append-nil s.declared))
item_grows s (scope kind words) = ([], sym (append-nil s.declared))
item_grows s upscope = ([], sym (append-nil s.declared))
item_grows s end_definitions = ([], sym (append-nil s.declared))
item_grows s (stamp digits) = ([], sym (append-nil s.declared))
item_grows s (scalar digit code) = ([], sym (append-nil s.declared))
item_grows s (vector first digits code) = ([], sym (append-nil s.declared))
item_grows s (real_or_string first text code) = ([], sym (append-nil s.declared))
item_grows s (dump_word word) = ([], sym (append-nil s.declared))
item_grows s (other word words) = ([], sym (append-nil s.declared))

pub declared_grows : (s : ParseState) (is : List Item)
    → (ys : List VariableDeclaration) × ((state_after s is).declared ≡ s.declared ++ ys)
declared_grows s [] = ([], sym (append-nil s.declared))
declared_grows s (i ∷ is) =
    let here = item_grows s i in
    let rest = declared_grows (state_after_item s i) is in
    (here.0 ++ rest.0, rest.1 ∙ ap (λ l. l ++ rest.0) here.1 ∙ append_assoc s.declared here.0 rest.0)

-- among the changes nothing is declared
body_item : (s : ParseState) (i : Item) → s.in_body ≡ true → Allows s i
    → ((state_after_item s i).declared ≡ s.declared) × ((state_after_item s i).in_body ≡ true)
body_item s (entry kind words) in_body allows = (refl, in_body)
body_item s (timescale words) in_body allows = (refl, in_body)
body_item s (scope kind words) in_body allows = (refl, in_body)
body_item s upscope in_body allows = (refl, in_body)
body_item s (variable words) in_body allows =
    absurd (false≢true (ap not (sym in_body) ∙ (and_parts (not s.in_body) _ allows.0).0))
body_item s end_definitions in_body allows = (refl, refl)
body_item s (stamp digits) in_body allows = (refl, in_body)
body_item s (scalar digit code) in_body allows = (refl, in_body)
body_item s (vector first digits code) in_body allows = (refl, in_body)
body_item s (real_or_string first text code) in_body allows = (refl, in_body)
body_item s (dump_word word) in_body allows = (refl, in_body)
body_item s (other word words) in_body allows = (refl, in_body)

pub body_items : (s : ParseState) (is : List Item) → s.in_body ≡ true → AllowsAll s is
    → (state_after s is).declared ≡ s.declared
body_items s [] in_body allows = refl
body_items s (i ∷ is) in_body allows =
    let here = body_item s i in_body allows.0 in
    body_items (state_after_item s i) is here.1 allows.1 ∙ here.0

-- before `$enddefinitions` nothing changes
keeps : (s : ParseState) (i : Item) → s.in_body ≡ false → Allows s i → (i ≡ end_definitions → ⊥)
    → ((state_after_item s i).in_body ≡ false) × ((state_after_item s i).value_changes ≡ s.value_changes)
    × ((state_after_item s i).tick ≡ s.tick)
keeps s (entry kind words) declares allows goes_on = (declares, refl, refl)
keeps s (timescale words) declares allows goes_on = (declares, refl, refl)
keeps s (scope kind words) declares allows goes_on = (declares, refl, refl)
keeps s upscope declares allows goes_on = (declares, refl, refl)
keeps s (variable words) declares allows goes_on = (declares, refl, refl)
keeps s end_definitions declares allows goes_on = absurd (goes_on refl)
keeps s (stamp digits) declares allows goes_on = absurd (false≢true (sym declares ∙ allows.0))
keeps s (scalar digit code) declares allows goes_on =
    absurd (false≢true (sym declares ∙ (and_parts s.in_body _ allows.0).0))
keeps s (vector first digits code) declares allows goes_on =
    absurd (false≢true (sym declares ∙ (and_parts s.in_body _ allows.0).0))
keeps s (real_or_string first text code) declares allows goes_on = (declares, refl, refl)
keeps s (dump_word word) declares allows goes_on = (declares, refl, refl)
keeps s (other word words) declares allows goes_on = (declares, refl, refl)

ends : (i : Item) → (i ≡ end_definitions) ⊎ (i ≡ end_definitions → ⊥)
ends (entry kind words) = inr (λ is. absurd (cc))
ends (timescale words) = inr (λ is. absurd (cc))
ends (scope kind words) = inr (λ is. absurd (cc))
ends upscope = inr (λ is. absurd (cc))
ends (variable words) = inr (λ is. absurd (cc))
ends end_definitions = inl refl
ends (stamp digits) = inr (λ is. absurd (cc))
ends (scalar digit code) = inr (λ is. absurd (cc))
ends (vector first digits code) = inr (λ is. absurd (cc))
ends (real_or_string first text code) = inr (λ is. absurd (cc))
ends (dump_word word) = inr (λ is. absurd (cc))
ends (other word words) = inr (λ is. absurd (cc))

-- at tick 0 no code has had a change
none_for : (o : Option AmendedCode) → HoldsFor o [] 0 []
none_for None = refl
none_for (Some c) = nothing_holds c

-- ---- an amendment that fits the whole file

module _ (a : Amendment) (final : ParseState) (fit : FitsFile a final) (in_body : final.in_body ≡ true) where
  -- from a state of the amended file on, these items lead to its end
  record Amends (o : ParseState) (items : List Item) : Type 0 where
    value_changes : List ValueChange
    leads : Reaches o items (at a final value_changes)
    holds : Holds a final.declared final.value_changes (final.tick + 1) value_changes

  -- the end of the declarations, and the changes
  ending : (none_yet : Bool) (s : ParseState) (is : List Item) → s.in_body ≡ false → s.value_changes ≡ [] → s.tick ≡ 0
      → state_after s (end_definitions ∷ is) ≡ final → AllowsAll s (end_definitions ∷ is)
      → Amends (declaring s s.scopes (variables_left a s.declared)) (amended_items a none_yet s (end_definitions ∷ is))
  unfolding amended_items
  ending none_yet s is declares none start whole allows =
      let begun : ParseState = record s { in_body = true } in
      let same : final.declared ≡ s.declared = ap (λ (t : ParseState). t.declared) (sym whole)
      ∙ body_items begun is refl allows.1 in
      let limit : final.limit ≡ s.limit = ap (λ (t : ParseState). t.limit) (sym whole) ∙ same_limit begun is in
      let body : InBody a begun s.value_changes = record {
        in_body = refl;
        past = λ code u after. ap (λ l. any_at u (of_code code l)) none;
        serves = subst (Serves a) same (serves a final fit);
        holds = λ code e left. subst (λ l. HoldsFor (amended_code code a.codes) (of_code code l) s.tick
            (of_code code l)) (sym none) (subst (λ n. HoldsFor (amended_code code a.codes) [] n []) (sym start)
            (none_for (amended_code code
            a.codes)));
      } in
      let changes : LeadsOn a begun s.value_changes (amended_items a none_yet begun is) final = subst
      (LeadsOn a begun s.value_changes (amended_items a none_yet begun is)) whole (all_lead a none_yet begun
      s.value_changes is body allows.1 (λ u upto. subst (λ t. IsOldAt a t u) (sym whole) (is_old a final fit u (rw (ap
      (λ (t : ParseState). t.tick) (sym whole)) upto)))) in
      let left : List VariableDeclaration = variables_left a final.declared in
      let added = end_leads s declares a final fit limit a.added left refl fit.added in
      let ended : Reaches (declaring s (scopes_left a.added s.scopes) (left ++ a.added)) (end_definitions ∷ [])
      (body_of (rescoped a begun) (amended_variables a final.declared) s.value_changes s.tick) =
      reaches_one _ _ _ (not_from_false s.in_body declares, refl) refl in
      let all = reaches_both _ _ _ _ _ added ended in
      record {
        value_changes = changes.value_changes;
        leads = subst (λ l. Reaches (declaring s s.scopes (variables_left a l)) (amended_items a none_yet s
            (end_definitions ∷ is)) (at a final changes.value_changes)) same (reaches_both _ _ _ _ _ all (subst (λ l.
            Reaches (body_of (rescoped a begun) (amended_variables a l) s.value_changes s.tick)
            (amended_items a none_yet begun is)
            (at a final changes.value_changes)) (sym
            same) changes.leads));
        holds = changes.holds;
      }

  -- the declarations, and all after them
  file_leads : (none_yet : Bool) (s : ParseState) (is : List Item) → s.in_body ≡ false → s.value_changes ≡ [] → s.tick
      ≡ 0
      → state_after s is ≡ final → AllowsAll s is
      → Amends (declaring s s.scopes (variables_left a s.declared)) (amended_items a none_yet s is)
  unfolding amended_items
  file_leads none_yet s [] declares none start whole allows =
      absurd (false≢true (sym declares ∙ ap (λ (t : ParseState). t.in_body) whole ∙ in_body))
  file_leads none_yet s (i ∷ is) declares none start whole allows = elim (ends i) [
    | inl is_end ↦ subst (λ j. state_after s (j ∷ is) ≡ final → AllowsAll s (j ∷ is) → Amends (declaring s s.scopes
        (variables_left a s.declared)) (amended_items a none_yet s (j ∷ is))) (sym is_end) (ending none_yet s is
        declares none start) whole allows
    | inr goes_on ↦
        let kept = keeps s i declares allows.0 goes_on in
        let more = declared_grows (state_after_item s i) is in
        let limit : final.limit ≡ s.limit = ap (λ (t : ParseState). t.limit) (sym whole) ∙ same_limit s (i ∷ is) in
        let here = declaration_leads s declares a final fit limit none_yet i more.0 allows.0 goes_on
        (ap (λ (t : ParseState). t.declared) (sym whole) ∙ more.1) in
        let rest = file_leads (still_none_yet none_yet (item_fate a s i) i) (state_after_item s i) is kept.0
        (kept.1 ∙ none) (kept.2 ∙ start) whole allows.1 in
        record {
          value_changes = rest.value_changes;
          leads = reaches_both _ _ _ _ _ here rest.leads;
          holds = rest.holds;
        }
  ]

  -- the amended file means the amended capture
  all_means : (limit : ℕ) (items : List Item) → Amends (initial_state limit) items → MeansAmended a limit final items
  all_means limit items amends = record {
    allowed = amends.leads.allowed;
    in_body = ap (λ (t : ParseState). t.in_body) amends.leads.state_is;
    means = ap meaning amends.leads.state_is ∙ ap (λ ss. record (meaning final) { signals = ss }) (signals_mean a final
        fit amends.value_changes amends.holds);
    left_out = ap (λ (t : ParseState). count_by is_skipped t.declared) amends.leads.state_is ∙ as_many_skipped a final
        fit;
  }

pub amended_is_meant : AmendedFileMeansAmendedCapture
amended_is_meant a limit items allows in_body fit =
    let final : ParseState = state_after (initial_state limit) items in
    all_means a final fit in_body limit (amended_items a true (initial_state limit) items) (file_leads a final fit
    in_body true (initial_state limit) items refl refl refl refl allows)
