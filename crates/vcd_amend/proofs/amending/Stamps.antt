-- A stamp while a file is amended.
use Rattle.std.proofs.Common.{◌≡◌, ◌≤◌, ◌+◌, ◌-◌, [], ℕ, Bool, false, List, Option, map, drop, length}
use Rattle.std.proofs.Common.{Some, None, refl}
use Rattle.std.proofs.Common.{sym, ap, ◌∙◌, arith, if◌then◌else◌, subst}
use Rattle.std.specs.List.{filter, flat_map}
use Rattle.std.specs.Global.{Vec}
use Rattle.std.proofs.lemmas.List.{append-nil}
use Rattle.vcd_text.specs.Grammar.{ParseState}
use Rattle.vcd_text.specs.Text.{item_line}
use Rattle.vcd_text.specs.inside.writing.Transitions.{Transition}
use Rattle.vcd_amend.specs.AmendmentContents.{amendment_contents, code_contents}
use Rattle.vcd_amend.specs.declared.amendment.AmendedCode.{AmendedCode as CodeInMemory}
use Rattle.vcd_amend.specs.declared.amending.code_progress.CodeProgress.{CodeProgress}
use Rattle.vcd_amend.specs.declared.amending.due_changes.DueChange.{DueChange}
use Rattle.vcd_amend.specs.AmendedItems.{items_due_until, items_due_at}
use Rattle.vcd_amend.specs.inside.amending.CodeProgress.{is_open_by}
use Rattle.vcd_amend.specs.inside.amending.DueChanges.{due_transition, due_item, stamped_items, before_tick, from_tick}
use Rattle.vcd_amend.specs.inside.amending.DueChanges.{due_at, due_in, is_open, AreDueFrom}
use Rattle.vcd_amend.specs.inside.amending.FileAmender.{IsAt}
use Rattle.vcd_amend.specs.declared.amending.file_amender.FileAmender.{FileAmender}
use Rattle.vcd_amend.specs.declared.amending.moments.ChangeCounts.{ChangeCounts}
use Rattle.vcd_amend.proofs.amending.DueText.{due_before_tick, due_later, until_items, open_same, in_within, at_items}

module _ (m : FileAmender) (s : ParseState) (none_yet : Bool) (at : IsAt m s none_yet) where
  abbrev left : List Transition
  left = map due_transition (drop m.next m.due.items)

  -- the items before a stamp
  pub stamp_items : (tick : ℕ) → s.tick ≤ tick
      → stamped_items (amendment_contents m.amendment.now).codes (if none_yet then None else Some s.tick)
      (filter (is_open_by m.progress.items) (before_tick tick left))
      ≡ items_due_until (amendment_contents m.amendment.now) none_yet s tick
  stamp_items tick later =
      let a = amendment_contents m.amendment.now in
      let n = tick - s.tick in
      let sum : s.tick + n ≡ tick = omega arith in
      let last = if none_yet then None else Some s.tick in
      ap (λ t. stamped_items a.codes last (filter (is_open_by m.progress.items) (before_tick t left))) (sym sum)
      ∙ ap (λ l. stamped_items a.codes last (filter (is_open_by m.progress.items) l))
      (due_before_tick a.codes s.tick n left at.due)
      ∙ ap (stamped_items a.codes last) (open_same s a.codes m.progress.items (s.tick + n) (due_in a.codes s.tick n)
      at.progress
      (in_within a.codes s.tick (s.tick + n) s.tick n (omega arith) (omega arith)))
      ∙ until_items a s none_yet n

  -- by the lists that the amender lends
  pub stamp_text : (codes : List CodeInMemory) (progress : List CodeProgress) (due : List DueChange) (last : Option ℕ)
      (tick : ℕ) → codes ≡ m.amendment.now.codes.items → progress ≡ m.progress.items → due ≡ m.due.items
      → last ≡ (if m.none_yet then None else Some m.tick) → s.tick ≤ tick
      → flat_map item_line (stamped_items (map code_contents codes) last
      (filter (is_open_by progress) (before_tick tick (map due_transition (drop m.next due)))))
      ≡ flat_map item_line (items_due_until (amendment_contents m.amendment.now) none_yet s tick)
  stamp_text codes progress due last tick c p d l later =
      (λ i. flat_map item_line (stamped_items (map code_contents (c i)) (l i)
      (filter (is_open_by (p i)) (before_tick tick (map due_transition (drop m.next (d i)))))))
      ∙ (λ i. flat_map item_line (stamped_items (map code_contents m.amendment.now.codes.items)
      (if at.none_yet i then None else Some (at.tick i)) (filter (is_open_by m.progress.items) (before_tick tick
      left))))
      ∙ ap (flat_map item_line) (stamp_items tick later)

  -- after the stamp
  pub after_stamp : (tick next : ℕ) (counts : Vec ChangeCounts) → s.tick ≤ tick
      → length counts.items ≡ length m.counts.items
      → map due_transition (drop next m.due.items) ≡ from_tick tick left
      → IsAt (record m { counts = counts; next = next; tick = tick; none_yet = false }) (record s { tick = tick }) false
  after_stamp tick next counts later long is =
      let a = amendment_contents m.amendment.now in
      let n = tick - s.tick in
      let sum : s.tick + n ≡ tick = omega arith in
      record {
        fates = at.fates;
        used = at.used;
        amended = at.amended;
        progress = record {
          count = at.progress.count;
          each = λ k within. record {
            kept = (at.progress.each k within).kept;
            passed = λ t is_at. omega (arith, (at.progress.each k within).passed t is_at);
            changes = λ t from. (at.progress.each k within).changes t (omega arith);
          };
        };
        counts = long ∙ at.counts;
        due = subst (λ l. AreDueFrom a.codes tick l) (sym is)
            (subst (λ t. AreDueFrom a.codes t (from_tick t left)) sum (due_later a.codes s.tick n left at.due));
        within = at.within;
        apart = at.apart;
        tick = refl;
        none_yet = refl;
      }

  -- where none of those due before it is open, it stands
  pub none_open : (tick : ℕ) → s.tick ≤ tick → filter (is_open_by m.progress.items) (before_tick tick left) ≡ []
      → items_due_until (amendment_contents m.amendment.now) none_yet s tick ≡ []
  unfolding stamped_items
  none_open tick later none = sym (stamp_items tick later)
      ∙ ap (stamped_items (amendment_contents m.amendment.now).codes (if none_yet then None else Some s.tick)) none

  -- what is due at the end
  pub end_items : map (due_item (amendment_contents m.amendment.now).codes)
      (filter (is_open_by m.progress.items) (before_tick (s.tick + 1) left))
      ≡ items_due_at (amendment_contents m.amendment.now) s s.tick
  unfolding due_in
  end_items =
      let a = amendment_contents m.amendment.now in
      ap (λ l. map (due_item a.codes) (filter (is_open_by m.progress.items) l))
      (due_before_tick a.codes s.tick 1 left at.due)
      ∙ ap (map (due_item a.codes)) (open_same s a.codes m.progress.items (s.tick + 1) (due_in a.codes s.tick 1)
      at.progress
      (in_within a.codes s.tick (s.tick + 1) s.tick 1 (omega arith) (omega arith)))
      ∙ ap (λ l. map (due_item a.codes) (filter (is_open s a.codes) l)) (append-nil (due_at 0 a.codes s.tick))
      ∙ at_items s a.codes 0 a.codes s.tick refl
