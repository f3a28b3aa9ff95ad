-- An amender after cuts, one piece later.
use Rattle.std.proofs.Common.{◌≡◌, ◌∙◌, ◌≤◌, ◌<◌, ◌^◌, ◌==◌, ◌&&◌, ◌||◌, ℕ, Bool, true, false, not, if◌then◌else◌, List}
use Rattle.std.proofs.Common.{[], ◌∷◌, ◌++◌}
use Rattle.std.proofs.Common.{refl, sym, ap, ap₂, subst, arith, nat_lt, decimal, append_assoc}
use Rattle.std.proofs.lemmas.Bool.{eqb-true, lt-ltb}
use Rattle.vcd_core.specs.Decimal.{number_of}
use Rattle.vcd_text.specs.Items.{Item, stamp}
use Rattle.vcd_text.proofs.read_back.Decimals.{number_of-decimal}
use Rattle.vcd_amend.specs.AmendedItems.{stands, is_left_out, is_exchanged}
use Rattle.vcd_amend.specs.Retimed.{pieces_in_place}
use Rattle.vcd_copy.specs.Pieces.{stamp_line}
use Rattle.vcd_amend.specs.RetimedCopy.{is_cut_by}
use Rattle.vcd_amend.specs.declared.cut_ticks.CutTicks.{CutTicks}
use Rattle.vcd_amend.proofs.retimed.Ticks.{rises}
use Rattle.std.specs.Global.{Vec}
use Rattle.std.specs.List.{filter, list_any}
use Rattle.std.specs.Prelude.{bytes_eq, codes}
use Rattle.std.proofs.lemmas.List.{append-nil}
use Rattle.vcd_text.specs.Grammar.{ParseState, VariableDeclaration, initial_state, state_after_item, is_skipped}
use Rattle.vcd_copy.specs.Pieces.{Piece, state_of_pieces}
use Rattle.vcd_text.specs.inside.reading.CodeTargets.{code_target}
use Rattle.vcd_amend.specs.Retimed.{change_key, counts_with, new_tick, lasts, has_kept_variable}
use Rattle.vcd_amend.specs.RetimedCopy.{pieces_of_step, held_of_step}
use Rattle.vcd_amend.specs.declared.amending.file_amender.FileAmender.{FileAmender}
use Rattle.vcd_amend.specs.declared.amending.cut_amender.CutAmender.{CutAmender}
use Rattle.vcd_amend.specs.declared.amending.cut_amender.CodeVariables.{CodeVariables}
use Rattle.vcd_amend.specs.declared.amending.held_changes.HeldChange.{HeldChange}
use Rattle.std.proofs.lemmas.List.Folds.{list_any-append}
use Rattle.vcd_amend.specs.inside.amending.FileAmender.{HasSeen, with_declared}
use Rattle.vcd_amend.specs.inside.amending.HeldChanges.{last_held, key_of, IsChangePiece, ArePieces, released}
use Rattle.vcd_amend.specs.inside.amending.HeldChanges.{retimed_stamp_piece}
use Rattle.vcd_amend.specs.inside.amending.CutAmender.{HasWritten, HasSeenAll, cut_of, sent_for, held_for, step_for}
use Rattle.vcd_amend.specs.inside.amending.CutAmender.{released_before}
use Rattle.vcd_amend.proofs.retimed.Copies.{sent_more, held_more}
use Rattle.vcd_amend.proofs.amending.CutPieces.{change_after, changes_after, state_with, code_is}
use Rattle.vcd_amend.proofs.amending.CutPieces.{released_are, plain_is}
use Rattle.vcd_amend.proofs.amending.HeldPieces.{no_pieces}
use Rattle.vcd_text.specs.declared.reading.code_targets.CodeTargets.{CodeTargets}
use Rattle.vcd_amend.specs.RetimedLaws.{is_neither}

-- what was written and is held after a step is so after one piece more
pub written_more : (m : CutAmender) (before : List Piece) (p : Piece)
    → HasWritten m (sent_for (cut_of m) before ++ step_for (cut_of m) before p)
    (held_of_step (cut_of m) (state_of_pieces 0 before) (held_for (cut_of m) before) p)
    (state_after_item (state_of_pieces 0 before) p.item)
    → HasSeenAll m (before ++ p ∷ [])
written_more m before p has =
    let cut = cut_of m in
    let s = state_of_pieces 0 before in
    let all = before ++ p ∷ [] in
    let sent = sent_for cut before ++ step_for cut before p in
    let held = held_of_step cut s (held_for cut before) p in
    subst (λ l. HasWritten m l (held_for cut all) (state_of_pieces 0 all))
    (sym (sent_more cut (initial_state 0) [] before p))
    (subst (λ l. HasWritten m sent l (state_of_pieces 0 all)) (sym (held_more cut (initial_state 0) [] before p))
    (subst (λ t. HasWritten m sent held t) (sym (state_with before p)) has))

pub lasts_as : (s t : ParseState) (code : List ℕ) → s.declared ≡ t.declared → lasts s code ≡ lasts t code
lasts_as s t code same =
    ap (λ (ds : List VariableDeclaration). list_any (λ d. bytes_eq code d.code && not (bytes_eq d.kind (codes
    "event"))) ds) same

pub kept_as : (s t : ParseState) (code : List ℕ) → s.declared ≡ t.declared
    → has_kept_variable s code ≡ has_kept_variable t code
kept_as s t code same =
    ap (λ (ds : List VariableDeclaration). list_any (λ d. bytes_eq code d.code && not (is_skipped d)) ds) same

module _ (m : CutAmender) (before : List Piece) (at : HasSeenAll m before) (p : Piece) (is_text : Bool)
    (code space body : List ℕ) (here : IsChangePiece p is_text code space body) where
  abbrev cut : ℕ → Bool
  cut = cut_of m

  abbrev s : ParseState
  s = state_of_pieces 0 before

  abbrev sent : List Piece
  sent = sent_for cut before

  abbrev held : List Piece
  held = held_for cut before

  -- what comes in the place of a change
  pub change_step : step_for cut before p ≡ (if m.last.is_cut then [] else p ∷ [])
  change_step = (change_after cut s held p (key_of is_text code) here.key).step
      ∙ ap (λ (b : Bool). if b then [] else p ∷ []) (sym at.is_cut)

  change_held : held_of_step cut s held p
      ≡ filter (λ q. not (counts_with (has_kept_variable s) (key_of is_text code) (change_key q.item))) held
      ++ (if m.last.is_cut && (code_target m.variables code).lasts then p ∷ [] else [])
  change_held = (change_after cut s held p (key_of is_text code) here.key).holds
      ∙ ap₂ (λ (a b : Bool). filter (λ q. not (counts_with (has_kept_variable s) (key_of is_text code) (change_key
      q.item))) held ++ (if a && b then p ∷ [] else [])) (sym at.is_cut)
      (ap (lasts s) (code_is is_text code) ∙ sym (at.lasting code))

  with_change : (b : Bool) → (q : List Piece) → q ≡ (if b then [] else p ∷ [])
      → ((state_of_pieces 0 (sent ++ q)).tick ≡ (state_of_pieces 0 sent).tick)
      × ((state_of_pieces 0 (sent ++ q)).scopes ≡ (state_of_pieces 0 sent).scopes)
  with_change true q is = (
    ap (λ (l : List Piece). (state_of_pieces 0 (sent ++ l)).tick) is
        ∙ ap (λ (l : List Piece). (state_of_pieces 0 l).tick) (append-nil sent),
    ap (λ (l : List Piece). (state_of_pieces 0 (sent ++ l)).scopes) is
        ∙ ap (λ (l : List Piece). (state_of_pieces 0 l).scopes) (append-nil sent),
  )
  with_change false q is =
      let c = change_after cut s held p (key_of is_text code) here.key in (
        ap (λ (l : List Piece). (state_of_pieces 0 (sent ++ l)).tick) is
            ∙ ap (λ (t : ParseState). t.tick) (state_with sent p) ∙ c.tick (state_of_pieces 0 sent),
        ap (λ (l : List Piece). (state_of_pieces 0 (sent ++ l)).scopes) is
            ∙ ap (λ (t : ParseState). t.scopes) (state_with sent p) ∙ c.scopes (state_of_pieces 0 sent),
      )

  -- an amender after a change
  pub change_seen : (inner : FileAmender) (holding : Vec HeldChange) (room : ℕ)
      → HasSeen inner (sent ++ (if m.last.is_cut then [] else p ∷ []))
      → ArePieces (last_held holding.items)
      (filter (λ q. not (counts_with (has_kept_variable s) (key_of is_text code) (change_key q.item))) held
      ++ (if m.last.is_cut && (code_target m.variables code).lasts then p ∷ [] else []))
      → HasSeenAll (record m { inner = inner; held = holding; room = room }) (before ++ p ∷ [])
  change_seen inner holding room seen holds =
      let c = change_after cut s held p (key_of is_text code) here.key in
      let same = with_change m.last.is_cut (step_for cut before p) change_step in
      written_more (record m { inner = inner; held = holding; room = room }) before p (record {
        seen = subst (λ l. HasSeen inner (sent ++ l)) (sym change_step) seen;
        holds = subst (ArePieces (last_held holding.items)) (sym change_held) holds;
        lasting = λ key. at.lasting key ∙ sym (lasts_as (state_after_item s p.item) s key (c.declared s));
        kept = λ key. at.kept key ∙ sym (kept_as (state_after_item s p.item) s key (c.declared s));
        is_cut = at.is_cut ∙ sym (ap cut (c.tick s));
        tick = at.tick ∙ sym (ap (new_tick cut) (c.tick s));
        behind = subst (λ (t : ℕ). t ≤ m.last.tick) (sym same.0) at.behind;
        scopes = same.1 ∙ at.scopes ∙ sym (c.scopes s);
      })

-- ---- release

module _ (r : List Piece) (t : ℕ) (small : t < 2 ^ 64) (hs : List HeldChange) where
  with_line : (p : Piece) (ps : List Piece) → ArePieces hs (p ∷ ps)
      → ((state_of_pieces 0 (r ++ stamp_line t ∷ p ∷ ps)).tick ≡ t)
      × ((state_of_pieces 0 (r ++ stamp_line t ∷ p ∷ ps)).scopes ≡ (state_of_pieces 0 r).scopes)
  with_line p ps are =
      let after = changes_after (r ++ stamp_line t ∷ []) hs (p ∷ ps) are in
      let one = state_with r (stamp_line t) in
      let all = append_assoc r (stamp_line t ∷ []) (p ∷ ps) in (
        ap (λ (l : List Piece). (state_of_pieces 0 l).tick) (sym all) ∙ after.0
            ∙ ap (λ (u : ParseState). u.tick) one ∙ number_of-decimal t small,
        ap (λ (l : List Piece). (state_of_pieces 0 l).scopes) (sym all) ∙ after.1
            ∙ ap (λ (u : ParseState). u.scopes) one,
      )

  -- the state after released pieces
  pub released_state : (b : Bool) (ps : List Piece) → ArePieces hs ps → (state_of_pieces 0 r).tick ≤ t
      → ((state_of_pieces 0 (r ++ released b t ps)).tick ≤ t)
      × ((state_of_pieces 0 (r ++ released b t ps)).scopes ≡ (state_of_pieces 0 r).scopes)
  released_state b [] are upto = (
    subst (λ (l : List Piece). (state_of_pieces 0 l).tick ≤ t) (sym (append-nil r)) upto,
    ap (λ (l : List Piece). (state_of_pieces 0 l).scopes) (append-nil r),
  )
  released_state true (p ∷ ps) are upto =
      let after = with_line p ps are in
      (subst (λ (n : ℕ). n ≤ t) (sym after.0) (omega arith), after.1)
  released_state false (p ∷ ps) are upto =
      let after = changes_after r hs (p ∷ ps) are in
      (subst (λ (n : ℕ). n ≤ t) (sym after.0) upto, after.1)

-- an amender after the held changes are written
pub released_written : (m : CutAmender) (before : List Piece) → HasSeenAll m before → m.last.tick < 2 ^ 64
    → (inner : FileAmender) (empty : Vec HeldChange) (line : Vec ℕ) → empty.items ≡ []
    → HasSeen inner (sent_for (cut_of m) before ++ released m.last.is_cut m.last.tick (held_for (cut_of m) before))
    → HasWritten (record m { inner = inner; held = empty; stamp = line })
    (sent_for (cut_of m) before ++ released m.last.is_cut m.last.tick (held_for (cut_of m) before)) [] (state_of_pieces
    0 before)
unfolding last_held
released_written m before at small inner empty line none seen =
    let after = released_state (sent_for (cut_of m) before) m.last.tick small (last_held m.held.items) m.last.is_cut
    (held_for (cut_of m) before) at.holds at.behind in
    record {
      seen = seen;
      holds = subst (λ (l : List HeldChange). ArePieces (last_held l) []) (sym none) tt;
      lasting = at.lasting;
      kept = at.kept;
      is_cut = at.is_cut;
      tick = at.tick;
      behind = after.0;
      scopes = after.1 ∙ at.scopes;
    }

-- the same, if the next tick is past the last one
pub released_past : (m : CutAmender) (before : List Piece) → HasSeenAll m before → m.last.tick < 2 ^ 64
    → (inner : FileAmender) (empty : Vec HeldChange) (line : Vec ℕ) (n : ℕ) → empty.items ≡ [] → m.last.tick < n
    → HasSeen inner (sent_for (cut_of m) before ++ released m.last.is_cut m.last.tick (held_for (cut_of m) before))
    → HasWritten (record m { inner = inner; held = empty; stamp = line })
    (sent_for (cut_of m) before ++ released_before m n (held_for (cut_of m) before))
    (if nat_lt m.last.tick n then [] else held_for (cut_of m) before) (state_of_pieces 0 before)
released_past m before at small inner empty line n none past seen =
    subst (λ (b : Bool). HasWritten (record m { inner = inner; held = empty; stamp = line })
    (sent_for (cut_of m) before ++ (if b then released m.last.is_cut m.last.tick (held_for (cut_of m) before) else []))
    (if b then [] else held_for (cut_of m) before) (state_of_pieces 0 before)) (sym (lt-ltb m.last.tick n past))
    (released_written m before at small inner empty line none seen)

-- ---- stamps

module _ (cut : ℕ → Bool) (s : ParseState) (held : List Piece) (digits space body : List ℕ) where
  abbrev own : Piece
  own = record { item = stamp digits; space = space; body = body }

  abbrev t : ℕ
  t = number_of digits

  place_by : (n : ℕ) (c e : Bool)
      → pieces_in_place (if c then is_left_out else (if e then stands else is_exchanged (stamp (decimal n)))) own
      ≡ (if c then [] else (if e then own
      else record { item = stamp (decimal n); space = space; body = 35 ∷ decimal n }) ∷ [])
  place_by n true e = refl
  place_by n false true = refl
  place_by n false false = refl

  -- what comes in the place of a stamp
  stamp_step : (b u : Bool) (n v : ℕ) → b ≡ cut t → n ≡ new_tick cut t → u ≡ cut s.tick → v ≡ new_tick cut s.tick
      → pieces_of_step cut s held own
      ≡ (if nat_lt v n then released u v held else []) ++ (if b then [] else retimed_stamp_piece n t own ∷ [])
  stamp_step b u n v b_is n_is u_is v_is =
      ap₂ (λ x y. x ++ y)
      (ap (λ l. if nat_lt (new_tick cut s.tick) (new_tick cut t) then l else []) (sym (released_are cut s held)))
      (place_by (new_tick cut t) (cut t) (new_tick cut t == t))
      ∙ (λ i. (if nat_lt (sym v_is i) (sym n_is i) then released (sym u_is i) (sym v_is i) held else [])
      ++ (if sym b_is i then [] else retimed_stamp_piece (sym n_is i) t own ∷ []))

  stamp_held : (n v : ℕ) → n ≡ new_tick cut t → v ≡ new_tick cut s.tick
      → held_of_step cut s held own ≡ (if nat_lt v n then [] else held)
  stamp_held n v n_is v_is = (λ i. if nat_lt (sym v_is i) (sym n_is i) then [] else held)

-- an amender whose walk over the ticks went on
pub with_walk : (m : CutAmender) (before : List Piece) (walk : List CutTicks) → walk ≡ m.walk → HasSeenAll m before
    → HasSeenAll (record m { walk = walk }) before
with_walk m before walk same at =
    subst (λ (w : List CutTicks). HasSeenAll (record m { walk = w }) before) (sym same) at

-- after the pieces before a stamp are written, and the stamp itself, if it is left
module _ (m n : CutAmender) (before : List Piece) (p : Piece) (digits : List ℕ) (b : Bool) (new : ℕ)
    (at : HasSeenAll m before) (is : p.item ≡ stamp digits) (same : n.walk ≡ m.walk)
    (b_is : b ≡ cut_of m (number_of digits)) (new_is : new ≡ new_tick (cut_of m) (number_of digits))
    (small : new < 2 ^ 64) where
  abbrev all_before : List Piece
  all_before = sent_for (cut_of m) before ++ released_before m new (held_for (cut_of m) before)

  abbrev last : List Piece
  last = if b then [] else retimed_stamp_piece new (number_of digits) p ∷ []

  pub stamped_step : step_for (cut_of m) before p ≡ released_before m new (held_for (cut_of m) before) ++ last
  stamped_step =
      ap (λ (i : Item). pieces_of_step (cut_of m) (state_of_pieces 0 before) (held_for (cut_of m) before)
      (record { item = i; space = p.space; body = p.body })) is
      ∙ stamp_step (cut_of m) (state_of_pieces 0 before) (held_for (cut_of m) before) digits p.space p.body b
      m.last.is_cut
      new m.last.tick b_is new_is at.is_cut at.tick
      ∙ ap (λ (i : Item). released_before m new (held_for (cut_of m) before) ++ (if b then []
      else retimed_stamp_piece new (number_of digits) (record { item = i; space = p.space; body = p.body }) ∷ []))
      (sym is)

  stamped_held : held_of_step (cut_of m) (state_of_pieces 0 before) (held_for (cut_of m) before) p
      ≡ (if nat_lt m.last.tick new then [] else held_for (cut_of m) before)
  stamped_held =
      ap (λ (i : Item). held_of_step (cut_of m) (state_of_pieces 0 before) (held_for (cut_of m) before)
      (record { item = i; space = p.space; body = p.body })) is
      ∙ stamp_held (cut_of m) (state_of_pieces 0 before) (held_for (cut_of m) before) digits p.space p.body
      new m.last.tick new_is at.tick

  number_by : (e : Bool) → (new == number_of digits) ≡ e
      → (state_after_item (state_of_pieces 0 all_before) (if e then p else record {
        item = stamp (decimal new);
        space = p.space;
        body = 35 ∷ decimal new;
      }).item).tick ≡ new
  number_by true e_is = ap (λ (i : Item). (state_after_item (state_of_pieces 0 all_before) i).tick) is
      ∙ sym (eqb-true new (number_of digits) e_is)
  number_by false e_is = number_of-decimal new small

  scopes_by : (e : Bool) → (state_after_item (state_of_pieces 0 all_before) (if e then p else record {
    item = stamp (decimal new);
    space = p.space;
    body = 35 ∷ decimal new;
  }).item).scopes ≡ (state_of_pieces 0 all_before).scopes
  scopes_by true = ap (λ (i : Item). (state_after_item (state_of_pieces 0 all_before) i).scopes) is
  scopes_by false = refl

  last_state : (c : Bool) → b ≡ c → (state_of_pieces 0 all_before).tick ≤ new
      → ((state_of_pieces 0 (all_before ++ last)).tick ≤ new)
      × ((state_of_pieces 0 (all_before ++ last)).scopes ≡ (state_of_pieces 0 all_before).scopes)
  last_state true is_true upto = (
    subst (λ (l : List Piece). (state_of_pieces 0 l).tick ≤ new) (sym (ap (λ (c : Bool). all_before ++ (if c then []
        else retimed_stamp_piece new (number_of digits) p ∷ [])) is_true ∙ append-nil all_before)) upto,
    ap (λ (l : List Piece). (state_of_pieces 0 l).scopes) (ap (λ (c : Bool). all_before ++ (if c then []
        else retimed_stamp_piece new (number_of digits) p ∷ [])) is_true ∙ append-nil all_before),
  )
  last_state false is_false upto =
      let q = retimed_stamp_piece new (number_of digits) p in
      let here = ap (λ (c : Bool). all_before ++ (if c then [] else q ∷ [])) is_false in
      let tick : (state_of_pieces 0 (all_before ++ last)).tick ≡ new =
      ap (λ (l : List Piece). (state_of_pieces 0 l).tick) here
      ∙ ap (λ (u : ParseState). u.tick) (state_with all_before q) ∙ number_by (new == number_of digits) refl in (
        subst (λ (k : ℕ). k ≤ new) (sym tick) (omega arith),
        ap (λ (l : List Piece). (state_of_pieces 0 l).scopes) here
            ∙ ap (λ (u : ParseState). u.scopes) (state_with all_before q) ∙ scopes_by (new == number_of digits),
      )

  pub before_new : HasWritten n all_before (if nat_lt m.last.tick new then [] else held_for (cut_of m) before)
      (state_of_pieces 0 before)
      → (state_of_pieces 0 before).tick ≤ number_of digits → (state_of_pieces 0 all_before).tick ≤ new
  before_new has later =
      let s = state_of_pieces 0 before in
      let rise : new_tick (cut_of m) s.tick ≤ new_tick (cut_of m) (number_of digits) =
      rises (cut_of m) s.tick (number_of digits) later in
      let n_tick : n.last.tick ≡ new_tick (cut_of m) s.tick =
      has.tick ∙ ap (λ (cs : List CutTicks). new_tick (is_cut_by cs) s.tick) same in
      omega (arith, has.behind, n_tick, new_is, rise)

  pub stamped_seen : HasWritten n all_before (if nat_lt m.last.tick new then [] else held_for (cut_of m) before)
      (state_of_pieces 0 before)
      → (state_of_pieces 0 before).tick ≤ number_of digits
      → (inner : FileAmender) (line : Vec ℕ) → HasSeen inner (all_before ++ last)
      → HasSeenAll (record n { inner = inner; last = record { is_cut = b; tick = new }; stamp = line }) (before ++ p ∷
      [])
  stamped_seen has later inner line seen =
      let s = state_of_pieces 0 before in
      let next : CutAmender = record n { inner = inner; last = record { is_cut = b; tick = new }; stamp = line } in
      let upto = before_new has later in
      let after = last_state b refl upto in
      let state : state_after_item s p.item ≡ record s { tick = number_of digits } = ap (state_after_item s) is in
      let sent : all_before ++ last ≡ sent_for (cut_of m) before ++ step_for (cut_of m) before p =
      append_assoc (sent_for (cut_of m) before) (released_before m new (held_for (cut_of m) before)) last
      ∙ ap (λ l. sent_for (cut_of m) before ++ l) (sym stamped_step) in
      let written : HasWritten next (all_before ++ last) (if nat_lt m.last.tick new then [] else held_for (cut_of m)
      before)
      (record s { tick = number_of digits }) = record {
        seen = seen;
        holds = has.holds;
        lasting = has.lasting;
        kept = has.kept;
        is_cut = b_is ∙ ap (λ (cs : List CutTicks). is_cut_by cs (number_of digits)) (sym same);
        tick = new_is ∙ ap (λ (cs : List CutTicks). new_tick (is_cut_by cs) (number_of digits)) (sym same);
        behind = after.0;
        scopes = after.1 ∙ has.scopes;
      } in
      let moved : HasWritten next (sent_for (cut_of m) before ++ step_for (cut_of m) before p)
      (held_of_step (cut_of m) s (held_for (cut_of m) before) p) (state_after_item s p.item) =
      subst (λ l. HasWritten next l (held_of_step (cut_of m) s (held_for (cut_of m) before) p)
      (state_after_item s p.item)) sent
      (subst (λ l. HasWritten next (all_before ++ last) l (state_after_item s p.item)) (sym stamped_held)
      (subst (λ u. HasWritten next (all_before ++ last) (if nat_lt m.last.tick new then [] else held_for
      (cut_of m) before) u)
      (sym state) written)) in
      written_more next before p (subst (λ (cs : List CutTicks). HasWritten next
      (sent_for (is_cut_by cs) before ++ step_for (is_cut_by cs) before p)
      (held_of_step (is_cut_by cs) s (held_for (is_cut_by cs) before) p) (state_after_item s p.item)) (sym same) moved)

-- ---- changes while none is held

pub none_holds : (m : CutAmender) (before : List Piece) → HasSeenAll m before → m.last.is_cut ≡ false → m.held.items ≡
    []
    → (p : Piece) (is_text : Bool) (code : List ℕ)
    → ArePieces (last_held m.held.items)
    (filter (λ q. not (counts_with (has_kept_variable (state_of_pieces 0 before)) (key_of is_text code) (change_key
    q.item))) (held_for (cut_of m) before)
    ++ (if m.last.is_cut && (code_target m.variables code).lasts then p ∷ [] else []))
unfolding last_held
none_holds m before at left none p is_text code =
    let held = held_for (cut_of m) before in
    let empty : held ≡ [] = no_pieces held (subst (λ (l : List HeldChange). ArePieces (last_held l) held) none
    at.holds) in
    subst (λ (qs : List Piece). ArePieces (last_held m.held.items)
    (filter (λ q. not (counts_with (has_kept_variable (state_of_pieces 0 before)) (key_of is_text code) (change_key
    q.item))) qs
    ++ (if m.last.is_cut && (code_target m.variables code).lasts then p ∷ [] else []))) (sym empty)
    (subst (λ (b : Bool). ArePieces (last_held m.held.items) (if b && (code_target m.variables code).lasts then p ∷ []
    else [])) (sym left)
    (subst (λ (l : List HeldChange). ArePieces (last_held l) []) (sym none) tt))

-- ---- items that stand

pub plain_seen : (m : CutAmender) (before : List Piece) → HasSeenAll m before → (p : Piece) → is_neither p.item ≡ true
    → (inner : FileAmender) (variables : CodeTargets CodeVariables)
    → HasSeen inner (sent_for (cut_of m) before ++ p ∷ [])
    → ((code : List ℕ) → (code_target variables code).lasts
    ≡ lasts (state_after_item (state_of_pieces 0 before) p.item) code)
    → ((code : List ℕ) → (code_target variables code).is_kept
    ≡ has_kept_variable (state_after_item (state_of_pieces 0 before) p.item) code)
    → HasSeenAll (record m { inner = inner; variables = variables }) (before ++ p ∷ [])
plain_seen m before at p plain inner variables seen lasting kept =
    let cut = cut_of m in
    let s = state_of_pieces 0 before in
    let sent = sent_for cut before in
    let is = plain_is cut s (held_for cut before) p plain in
    let next : CutAmender = record m { inner = inner; variables = variables } in
    let here = state_with sent p in
    let tick : (state_of_pieces 0 (sent ++ p ∷ [])).tick ≡ (state_of_pieces 0 sent).tick =
    ap (λ (t : ParseState). t.tick) here ∙ is.tick (state_of_pieces 0 sent) in
    let scopes : (state_of_pieces 0 (sent ++ p ∷ [])).scopes ≡ (state_after_item s p.item).scopes =
    ap (λ (t : ParseState). t.scopes) here ∙ is.scopes (state_of_pieces 0 sent) s at.scopes in
    written_more next before p (subst (λ l. HasWritten next (sent ++ l) (held_of_step cut s (held_for cut before) p)
    (state_after_item s p.item))
    (sym is.step)
    (subst (λ l. HasWritten next (sent ++ p ∷ []) l (state_after_item s p.item)) (sym is.holds) (record {
      seen = seen;
      holds = at.holds;
      lasting = lasting;
      kept = kept;
      is_cut = at.is_cut ∙ sym (ap cut (is.tick s));
      tick = at.tick ∙ sym (ap (new_tick cut) (is.tick s));
      behind = subst (λ (t : ℕ). t ≤ m.last.tick) (sym tick) at.behind;
      scopes = scopes;
    })))

or_none : (a b : Bool) → (a || (b || false)) ≡ (a || b)
or_none true b = refl
or_none false true = refl
or_none false false = refl

-- the codes that last, and those of kept variables, with one variable more
pub lasts_more : (s : ParseState) (d : VariableDeclaration) (key : List ℕ)
    → (lasts s key || (bytes_eq key d.code && not (bytes_eq d.kind (codes "event")))) ≡ lasts (with_declared s d) key
lasts_more s d key =
    let f : VariableDeclaration → Bool = λ e. bytes_eq key e.code && not (bytes_eq e.kind (codes "event")) in
    sym (list_any-append f s.declared (d ∷ []) ∙ or_none (list_any f s.declared) (f d))

pub kept_more : (s : ParseState) (d : VariableDeclaration) (key : List ℕ)
    → (has_kept_variable s key || (bytes_eq key d.code && not (is_skipped d)))
    ≡ has_kept_variable (with_declared s d) key
kept_more s d key =
    let f : VariableDeclaration → Bool = λ e. bytes_eq key e.code && not (is_skipped e) in
    sym (list_any-append f s.declared (d ∷ []) ∙ or_none (list_any f s.declared) (f d))
