-- The part follows the file: its state after the changes, and that each further change keeps this up.
use Rattle.std.proofs.Common.{◌≡◌, ℕ, ◌+◌, ◌-◌, ◌∙◌, ◌≤◌, ◌<◌, Bool, true, false, ◌&&◌, List, [], ◌∷◌, ◌++◌}
use Rattle.std.proofs.Common.{refl, ap, sym, subst, Some, if◌then◌else◌, arith, nat_le, min, inl, inr}
use Rattle.std.proofs.Common.{◌⊎◌}
use Rattle.std.specs.Prelude.{bytes_eq, Ok}
use Rattle.std.proofs.lemmas.Bool.{false≢true, and_parts, and_from, le-leb, lt-leb, cases_lt}
use Rattle.vcd_text.specs.Items.{Item}
use Rattle.vcd_text.specs.Grammar.{ParseState, VariableDeclaration, ValueChange, Allows, state_after_item}
use Rattle.vcd_copy.specs.Pieces.{Piece}
use Rattle.vcd_copy.specs.Copied.{piece_items}
use Rattle.vcd_text.specs.Letters.{extension}
use Rattle.vcd_text.specs.declared.reading.choice.TickRange.{TickRange}
use Rattle.vcd_text.proofs.shared.ItemsInTurn.{Reaches, reaches_none, reaches_one}
use Rattle.vcd_part.specs.declared.request.Request.{Request}
use Rattle.vcd_part.specs.Requests.{keeps, decide}
use Rattle.vcd_part.specs.PartPieces.{is_change_of, is_used, last_such, is_up_to_first, is_within, change_in_part}
use Rattle.vcd_part.proofs.laws.signals.SameStatus.{HasOneStatus, in_any, bytes_same}
use Rattle.vcd_part.proofs.laws.states.Windows.{past_is, within_is, not_within_is}
use Rattle.vcd_part.proofs.laws.signals.SignalValues.{value, letters_of, after_item, last_with, last_passes, of_last}
use Rattle.vcd_part.proofs.laws.states.PartStates.{at, IsKept, kept_again, same_changes, in_part}
use Rattle.vcd_part.specs.StandsInPart.{change_code}
use Rattle.vcd_part.proofs.laws.states.PartStates.{change_stands}
use Rattle.vcd_part.proofs.laws.states.PartStates.{change_again, code_of_change, change_state}

module _ (r : Request) (w : TickRange) where
  -- each signal of the part has the values of the file within the window
  abbrev pub SameValues : ParseState → List ValueChange → Type 0
  SameValues s vs = (d : VariableDeclaration) → IsKept r s.declared d → (t : ℕ) → w.first + t ≤ w.last
      → value d vs t ≡ value d s.value_changes (w.first + t)

  -- the last change of each signal gives its value from the tick on
  abbrev pub LastValues : List Piece → ParseState → Type 0
  LastValues before s = (d : VariableDeclaration) → IsKept r s.declared d → (u : ℕ) → s.tick ≤ u
      → value d s.value_changes u ≡ of_last d (last_such (is_change_of s.declared d.code) before)

  -- and is allowed again
  abbrev pub CanFollow : List Piece → ParseState → Type 0
  CanFollow before s = (code : List ℕ) (q : Piece) → last_such (is_change_of s.declared code) before ≡ Some q
      → Allows s q.item

  -- the part has these value changes and this tick, where the file has this state after pieces
  pub record Follows (before : List Piece) (s : ParseState) (vs : List ValueChange) (n : ℕ) : Type 0 where
    pub in_body : s.in_body ≡ true
    pub decided : decide r s.timescale s.declared ≡ Ok w
    pub one : HasOneStatus s.declared
    pub tick : n ≡ min w.last s.tick - w.first
    pub none : is_up_to_first w s.tick ≡ true → vs ≡ []
    pub same : is_up_to_first w s.tick ≡ false → SameValues s vs
    pub last : LastValues before s
    pub can : CanFollow before s

  -- ---- one more piece of the file

  module _ (before : List Piece) (s : ParseState) (p : Piece) (allows : Allows s p.item) where
    abbrev after : ParseState
    after = at s (state_after_item s p.item).value_changes s.tick

    pub last_again : LastValues before s → LastValues (before ++ p ∷ []) after
    last_again last d kept u later =
        let past : nat_le s.tick u ≡ true = le-leb s.tick u later in
        after_item s d kept.signal u p.item ∙ by_test (is_change_of s.declared d.code p.item) (nat_le s.tick u) past
        (last d kept u later)
        ∙ sym (ap (of_last d) (last_with (is_change_of s.declared d.code) before p))
      where
        by_test : (own past : Bool) → past ≡ true
            → value d s.value_changes u ≡ of_last d (last_such (is_change_of s.declared d.code) before)
            → (if own && past then extension d.size (letters_of p.item) else value d s.value_changes u)
            ≡ of_last d (if own then Some p else last_such (is_change_of s.declared d.code) before)
        by_test true true is old = refl
        by_test true false is old = absurd (false≢true is)
        by_test false past is old = old

    pub can_again : CanFollow before s → CanFollow (before ++ p ∷ []) after
    can_again can code q is = by_test (is_change_of s.declared code p.item) refl (sym (last_with (is_change_of
        s.declared code) before p) ∙ is)
      where
        by_test : (own : Bool) → is_change_of s.declared code p.item ≡ own
            → (if own then Some p else last_such (is_change_of s.declared code) before) ≡ Some q → Allows after q.item
        by_test true own here =
            let same : p ≡ q = cc in
            subst (λ (x : Piece). Allows after x.item) same (change_again s (state_after_item s p.item).value_changes
            s.tick s.declared code p.item own allows)
        by_test false own there = change_again s (state_after_item s p.item).value_changes s.tick s.declared code
            q.item (last_passes (is_change_of
            s.declared code) before q there) (can code q there)

  -- ---- a change

  module _ (words : List (List ℕ)) where
    -- items lead to such a state of the part
    pub record Arrives (start : ParseState) (items : List Item) (before : List Piece) (s : ParseState) : Type 0 where
      pub value_changes : List ValueChange
      pub tick : ℕ
      pub leads : Reaches start items (in_part r words s value_changes tick)
      pub follows : Follows before s value_changes tick

    module _ (before : List Piece) (s : ParseState) (vs : List ValueChange) (n : ℕ) (p : Piece) (code : List ℕ)
        (allows : Allows s p.item) (is : change_code p.item ≡ Some code)
        (follows : Follows before s vs n)
      where
        abbrev then_is : ParseState
        then_is = at s (state_after_item s p.item).value_changes s.tick

        abbrev here : ParseState
        here = in_part r words s vs n

        abbrev more : List ValueChange
        more = (state_after_item here p.item).value_changes

        -- a change that stands gives the same values
        stands_same : is_within w s.tick ≡ true → SameValues then_is more
        stands_same within d kept t upto =
            let parts = within_is w s.tick within in
            let old = follows.same parts.0 d kept t upto in
            let counted : nat_le n t ≡ nat_le s.tick (w.first + t) = same_order (past_is w s.tick parts.0) parts.1
            follows.tick in
            after_item here d (kept_again r s.declared d kept) t p.item ∙ (λ i. if same_changes r s.declared d kept
            p.item i && counted i then extension d.size (letters_of p.item) else old i)
            ∙ sym (after_item s d kept.signal (w.first + t) p.item)
          where
            below : (w.first ≡ 0) ⊎ (w.first < s.tick) → w.first + t < s.tick → s.tick ≤ w.last
                → n ≡ min w.last s.tick - w.first → t < n
            below (inl zero) early most tick = omega (arith, zero, early, most, tick)
            below (inr later) early most tick = omega (arith, later, early, most, tick)

            same_order : (w.first ≡ 0) ⊎ (w.first < s.tick) → s.tick ≤ w.last → n ≡ min w.last s.tick - w.first →
                nat_le n t ≡ nat_le s.tick (w.first + t)
            same_order past most tick = elim (cases_lt (w.first + t) s.tick) [
              | inl early ↦ lt-leb n t (below past early most tick) ∙ sym (lt-leb s.tick (w.first + t) early)
              | inr late ↦ le-leb n t (omega (arith, late, most, tick)) ∙ sym (le-leb s.tick (w.first + t) late)
            ]

        -- one that is left out changes no value
        left_out_same : (is_within w s.tick && is_used r s.declared code) ≡ false → is_up_to_first w s.tick ≡ false
            → SameValues then_is vs
        left_out_same out past d kept t upto = follows.same past d kept t upto ∙ sym (after_item s d kept.signal
            (w.first + t) p.item ∙ ap (λ b. if b then extension d.size (letters_of p.item) else value d
            s.value_changes (w.first + t)) (never (is_change_of s.declared d.code p.item) refl))
          where
            and_true : (b : Bool) → (b && true) ≡ b
            and_true true = refl
            and_true false = refl

            own : (d : VariableDeclaration) → is_change_of s.declared d.code p.item ≡ true → d.code ≡ code
            own d it =
                let same : Some d.code ≡ Some code = sym (code_of_change s.declared d.code p.item it) ∙ is in
                cc

            never : (b : Bool) → is_change_of s.declared d.code p.item ≡ b → (b && nat_le s.tick (w.first + t)) ≡ false
            never false it = refl
            never true it =
                let used : is_used r s.declared code ≡ true = in_any (λ e. keeps r e && bytes_eq code e.code) d
                s.declared
                kept.signal.is_in (and_from (keeps r d) (bytes_eq code d.code) kept.kept (bytes_same code d.code (sym
                (own
                d it)))) in
                let not_within : is_within w s.tick ≡ false = sym (and_true (is_within w s.tick)) ∙ sym (ap (λ b.
                is_within w s.tick && b) used) ∙ out in
                let later = not_within_is w s.tick not_within past in
                lt-leb s.tick (w.first + t) (omega (arith, later, upto))

        pub change_arrives : Arrives here (piece_items (change_in_part r w s p code)) (before ++ p ∷ []) then_is
        change_arrives = by_test (is_within w s.tick && is_used r s.declared code) refl
          where
            by_test : (b : Bool) → (is_within w s.tick && is_used r s.declared code) ≡ b
                → Arrives here (piece_items (if b then p ∷ [] else [])) (before ++ p ∷ []) then_is
            by_test true stands =
                let tests = and_parts (is_within w s.tick) (is_used r s.declared code) stands in
                record {
                  value_changes = more;
                  tick = n;
                  leads = reaches_one here _ p.item (change_stands r words s vs n follows.one p.item code is tests.1
                      allows) (change_state p.item code is here);
                  follows = record {
                    in_body = follows.in_body;
                    decided = follows.decided;
                    one = follows.one;
                    tick = follows.tick;
                    none = λ upto. absurd (false≢true (sym (within_is w s.tick tests.0).0 ∙ upto));
                    same = λ past. stands_same tests.0;
                    last = last_again before s p allows follows.last;
                    can = can_again before s p allows follows.can;
                  };
                }
            by_test false out = record {
              value_changes = vs;
              tick = n;
              leads = reaches_none here;
              follows = record {
                in_body = follows.in_body;
                decided = follows.decided;
                one = follows.one;
                tick = follows.tick;
                none = follows.none;
                same = λ past. left_out_same out past;
                last = last_again before s p allows follows.last;
                can = can_again before s p allows follows.can;
              };
            }
