-- The changes that are due are allowed, and these are their value changes.
use Rattle.std.proofs.Common.{◌≡◌, ℕ, zero, suc, ◌+◌, ◌<◌, ◌≤◌, Bool, true, false, not, ◌==◌, ◌&&◌, List, [], ◌∷◌, ◌++◌}
use Rattle.std.proofs.Common.{length, Some, if◌then◌else◌, ◌∙◌, All, refl, sym, ap, append_assoc, arith}
use Rattle.std.specs.Prelude.{decimal}
use Rattle.std.specs.List.{flat_map, range_with_len}
use Rattle.std.proofs.lemmas.Bool.{eq-eqb, le-leb, ne_eqb}
use Rattle.std.proofs.lemmas.List.{append-nil, length-map, length-append}
use Rattle.std.proofs.lemmas.List.Elements.{All-head, All-tail}
use Rattle.vcd_core.specs.declared.capture.TheConstants.{END_LIMIT}
use Rattle.vcd_core.specs.declared.bit.Bit.{Bit}
use Rattle.vcd_core.specs.Wave.{IsWave}
use Rattle.vcd_text.specs.Letters.{short_form}
use Rattle.vcd_text.specs.Items.{Item, stamp}
use Rattle.vcd_text.specs.Grammar.{ValueChange, VariableDeclaration, ParseState, is_skipped}
use Rattle.vcd_text.specs.Text.{with_stamp, value_item}
use Rattle.vcd_amend.specs.Amendment.{AmendedCode, new_value, needs_change, first_with_code}
use Rattle.vcd_amend.specs.AmendedItems.{due_items, file_has_change}
use Rattle.vcd_text.proofs.read_back.Decimals.{decimal_is_number, number_of-decimal}
use Rattle.vcd_core.specs.declared.capture.ScopeName.{ScopeName}
use Rattle.vcd_text.proofs.shared.ItemsInTurn.{Reaches, reaches_both, reaches_none, reaches_same}
use Rattle.vcd_text.proofs.read_back.Changes.{letter_back, letters_back, short_within, short_one, all_letters}
use Rattle.vcd_amend.proofs.amended.OneCode.{of_code, due_changes, new_change, wave_is_wide}

-- the scopes that are open after the declarations, if these are before added variables
abbrev pub scopes_left : (added : List VariableDeclaration) → List ScopeName → List ScopeName
scopes_left [] scopes = scopes
scopes_left (d ∷ ds) scopes = []

-- a state of the amended file among its changes
abbrev pub body_of : ParseState → List VariableDeclaration → List ValueChange → ℕ → ParseState
body_of s declared value_changes tick =
    record s { declared = declared; in_body = true; value_changes = value_changes; tick = tick }

-- the variable of an amended code takes its values
pub record TakesValues (declared : List VariableDeclaration) (c : AmendedCode) : Type 0 where
  pub variable : VariableDeclaration
  pub found : first_with_code c.code declared ≡ Some variable
  pub kept : is_skipped variable ≡ false
  pub size : variable.size ≡ c.width
  pub coded : 0 < length c.code
  pub wave : IsWave c.width c.new

-- the value changes that are due
abbrev pub due_of : ParseState → ℕ → AmendedCode → List ValueChange
due_of s t c = due_changes c t (of_code c.code s.value_changes)

-- n lists from t on
abbrev pub over : {A : Type 0} → (ℕ → List A) → (t n : ℕ) → List A
over f t n = flat_map f (range_with_len t n)

module _ (s : ParseState) (declared : List VariableDeclaration) where
  abbrev at : List ValueChange → ℕ → ParseState
  at vs t = body_of s declared vs t

  -- ---- one value

  value_leads : (code : List ℕ) (d : VariableDeclaration) (vs : List ValueChange) (t : ℕ) (v : List Bit)
      → first_with_code code declared ≡ Some d → is_skipped d ≡ false → 0 < length code → length v ≡ d.size
      → Reaches (at vs t) (value_item code v ∷ [])
      (at (vs ++ record { tick = t; code = code; letters = short_form v } ∷ []) t)
  value_leads code d vs t [] found kept coded wide = grind (arith, eq-eqb)
  value_leads code d vs t (b ∷ []) found kept coded wide = grind (arith, letter_back, letters_back, short_one, ne_eqb)
  value_leads code d vs t (b ∷ e ∷ v) found kept coded wide =
      grind (arith, short_within, length-map, ne_eqb, all_letters, le-leb, letters_back)

  -- ---- what is due of a code, and of all

  pub due_leads : (c : AmendedCode) (vs : List ValueChange) (t : ℕ) → TakesValues declared c
      → Reaches (at vs t) (due_items s t c) (at (vs ++ due_of s t c) t)
  due_leads c vs t takes = by_test (needs_change c t && not (file_has_change s c.code t))
    where
      by_test : (b : Bool) → Reaches (at vs t) (if b then value_item c.code (new_value c t) ∷ [] else [])
          (at (vs ++ (if b
          then new_change c t ∷ [] else [])) t)
      by_test true = value_leads c.code takes.variable vs t (new_value c t) takes.found takes.kept takes.coded
          (wave_is_wide c.width c.new t takes.wave ∙ sym takes.size)
      by_test false = rw (append-nil vs) (reaches_none (at vs t))

  pub all_due_lead : (cs : List AmendedCode) (vs : List ValueChange) (t : ℕ) → All (TakesValues declared) cs
      → Reaches (at vs t) (flat_map (due_items s t) cs) (at (vs ++ flat_map (due_of s t) cs) t)
  all_due_lead [] vs t all = rw (append-nil vs) (reaches_none (at vs t))
  all_due_lead (c ∷ cs) vs t all =
      reaches_both _ _ _ _ _ (due_leads c vs t (All-head (TakesValues declared) c cs all)) (reaches_same _ _ _ _
      (all_due_lead cs (vs ++ due_of s t c) t (All-tail (TakesValues declared) c cs all)) (ap (λ l. at l t)
      (append_assoc vs (due_of s t c) (flat_map (due_of s t) cs))))

  -- as many items as value changes
  as_many_of : (t : ℕ) (c : AmendedCode) → length (due_items s t c) ≡ length (due_of s t c)
  as_many_of t c = by_test (needs_change c t && not (file_has_change s c.code t))
    where
      by_test : (b : Bool) → length (if b then value_item c.code (new_value c t) ∷ [] else [])
          ≡ length (if b then new_change c t ∷ [] else [])
      by_test true = refl
      by_test false = refl

  as_many : (cs : List AmendedCode) (t : ℕ) → length (flat_map (due_items s t) cs) ≡ length (flat_map (due_of s t) cs)
  as_many [] t = refl
  as_many (c ∷ cs) t = length-append (due_items s t c) _ ∙ ap (λ n. n + length (flat_map (due_items s t) cs))
      (as_many_of t c) ∙ ap (λ n. length (due_of s t c) + n) (as_many cs t) ∙ sym (length-append (due_of s t c) _)

  -- ---- stamps

  stamp_leads : (vs : List ValueChange) (u t : ℕ) → u ≤ t → t ≤ END_LIMIT
      → Reaches (at vs u) (stamp (decimal t) ∷ []) (at vs t)
  stamp_leads vs u t later within = grind (arith, number_of-decimal, decimal_is_number, le-leb)

  -- after some items of this tick, the last stamp is no later
  pub record LeadsUpTo (vs : List ValueChange) (last : ℕ) (items : List Item) (more : List ValueChange) (most : ℕ) :
      Type 0
    where
      pub stamped : ℕ
      pub upto : stamped ≤ most
      pub leads : Reaches (at vs last) items (at (vs ++ more) stamped)

  stamped_lead : (vs more : List ValueChange) (last t : ℕ) (items : List Item) → length items ≡ length more → last ≤ t
      → t ≤ END_LIMIT → Reaches (at vs t) items (at (vs ++ more) t) → LeadsUpTo vs last (with_stamp false t items) more
      t
  stamped_lead vs [] last t [] long later within leads = record {
    stamped = last;
    upto = later;
    leads = rw (append-nil vs) (reaches_none (at vs last));
  }
  stamped_lead vs (v ∷ more) last t [] long later within leads = absurd (omega arith)
  stamped_lead vs more last t (i ∷ items) long later within leads = record {
    stamped = t;
    upto = omega arith;
    leads = reaches_both _ _ _ _ _ (stamp_leads vs last t later within) leads;
  }

  module _ (cs : List AmendedCode) (all : All (TakesValues declared) cs) where
    abbrev items_of : ℕ → List Item
    items_of t = flat_map (due_items s t) cs

    abbrev pub changes_of : ℕ → List ValueChange
    changes_of t = flat_map (due_of s t) cs

    -- the items of the tick of the last stamp, with a stamp or without one
    abbrev now_items : Bool → ℕ → List Item
    now_items none_yet t = if none_yet then with_stamp false t (items_of t) else items_of t

    pub now_leads : (none_yet : Bool) (vs : List ValueChange) (t : ℕ) → t ≤ END_LIMIT
        → Reaches (at vs t) (now_items none_yet t) (at (vs ++ changes_of t) t)
    now_leads false vs t within = all_due_lead cs vs t all
    now_leads true vs t within = by_items (items_of t) (changes_of t) (as_many cs t) (all_due_lead cs vs t all)
      where
        by_items : (items : List Item) (more : List ValueChange) → length items ≡ length more
            → Reaches (at vs t) items (at (vs ++ more) t)
            → Reaches (at vs t) (with_stamp false t items) (at (vs ++ more) t)
        by_items [] more long leads = leads
        by_items (i ∷ items) more long leads = reaches_both _ _ _ _ _ (stamp_leads vs t t (omega arith) within) leads

    -- the items of a tick, if another one is that of the last stamp
    abbrev tick_items : Bool → (last t : ℕ) → List Item
    tick_items none_yet last t = if t == last then now_items none_yet last else with_stamp false t (items_of t)

    -- n ticks from t on, past the last stamp before the first one
    later_ticks : (none_yet : Bool) (vs : List ValueChange) (first last t n most : ℕ) → first < t → last ≤ t
        → t + n ≤ most
        → most ≤ END_LIMIT → last ≤ most → LeadsUpTo vs last (over (tick_items none_yet first) t n)
        (over changes_of t n) most
    later_ticks none_yet vs first last t zero most past later within end least = record {
      stamped = last;
      upto = least;
      leads = rw (append-nil vs) (reaches_none (at vs last));
    }
    later_ticks none_yet vs first last t (suc n) most past later within end least =
        let other : (t == first) ≡ false = ne_eqb t first (omega arith) in
        let here = stamped_lead vs (changes_of t) last t (items_of t) (as_many cs t) later (omega arith)
        (all_due_lead cs vs t all) in
        let rest = later_ticks none_yet (vs ++ changes_of t) first here.stamped (t + 1) n most (omega arith) (omega (
          arith,
          here.upto,
        )) (omega arith) end (omega (arith, here.upto)) in
        record {
          stamped = rest.stamped;
          upto = rest.upto;
          leads = rw other (reaches_both _ _ _ _ _ here.leads (reaches_same _ _ _ _ rest.leads (ap (λ l. at l
              rest.stamped) (append_assoc vs (changes_of t) (over changes_of (t + 1) n)))));
        }

    -- what is due before a stamp
    pub ticks_lead : (none_yet : Bool) (vs : List ValueChange) (last most n : ℕ) → last + n ≡ most → most ≤ END_LIMIT
        → LeadsUpTo vs last (over (tick_items none_yet last) last n) (over changes_of last n) most
    ticks_lead none_yet vs last most zero is end = record {
      stamped = last;
      upto = omega arith;
      leads = rw (append-nil vs) (reaches_none (at vs last));
    }
    ticks_lead none_yet vs last most (suc n) is end =
        let now : (last == last) ≡ true = eq-eqb last last refl in
        let rest = later_ticks none_yet (vs ++ changes_of last) last last (last + 1) n most (omega arith) (omega arith)
        (omega arith) end (omega arith) in
        record {
          stamped = rest.stamped;
          upto = rest.upto;
          leads = rw now (reaches_both _ _ _ _ _ (now_leads none_yet vs last (omega arith))
              (reaches_same _ _ _ _ rest.leads (ap (λ l.
              at l rest.stamped) (append_assoc vs (changes_of last) (over changes_of (last + 1) n)))));
        }
