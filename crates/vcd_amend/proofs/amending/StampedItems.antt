-- Due changes that are written one after another.
use Rattle.std.proofs.Common.{◌≡◌, ◌<◌, ◌+◌, ℕ, Bool, true, false, List, [], ◌∷◌, ◌++◌, map, drop, length}
use Rattle.std.proofs.Common.{Option, Some, refl, sym, ap, ◌∙◌, append_assoc, if◌then◌else◌, get_or}
use Rattle.std.specs.Prelude.{decimal, slice_index_or}
use Rattle.std.specs.List.{filter, flat_map, join_with_byte}
use Rattle.std.proofs.lemmas.Bool.{lt-ltb}
use Rattle.std.proofs.lemmas.Grind.{flat_map-append}
use Rattle.std.proofs.lemmas.List.{drop_more, get_or-map}
use Rattle.vcd_text.specs.Items.{Item, stamp, spelling}
use Rattle.vcd_text.specs.Text.{item_line, value_item}
use Rattle.vcd_text.specs.inside.writing.Transitions.{Transition}
use Rattle.vcd_amend.specs.Amendment.{AmendedCode, new_value}
use Rattle.vcd_amend.specs.AmendmentContents.{code_contents}
use Rattle.vcd_amend.specs.declared.amendment.AmendedCode.{AmendedCode as CodeInMemory}
use Rattle.vcd_amend.specs.declared.amending.due_changes.DueChange.{DueChange}
use Rattle.vcd_amend.specs.inside.amending.DueChanges.{due_transition, due_item, stamped_items, before_tick, from_tick}
use Rattle.vcd_amend.specs.inside.amending.DueChanges.{is_last, begins_before, code_at, no_code}

-- the due changes from an index on
pub first_due : (due : List DueChange) (k : ℕ) (d : DueChange) → k < length due → slice_index_or due k d ≡ d
    → map due_transition (drop k due) ≡ due_transition d ∷ map due_transition (drop (k + 1) due)
first_due due k d within is =
    ap (map due_transition) (drop_more due k d within ∙ ap (λ (x : DueChange). x ∷ drop (k + 1) due) is)

-- the first of them is before a tick
before_one : (t : ℕ) (m : Transition) (ms : List Transition) → m.tick < t → before_tick t (m ∷ ms) ≡ m ∷ before_tick t
    ms
unfolding before_tick
before_one t m ms early = ap (λ (b : Bool). if b then m ∷ before_tick t ms else []) (lt-ltb m.tick t early)

pub from_one : (t : ℕ) (m : Transition) (ms : List Transition) → m.tick < t → from_tick t (m ∷ ms) ≡ from_tick t ms
unfolding from_tick
from_one t m ms early = ap (λ (b : Bool). if b then from_tick t ms else m ∷ ms) (lt-ltb m.tick t early)

-- or none is
pub before_none : (t : ℕ) (ms : List Transition) → begins_before t ms ≡ false → before_tick t ms ≡ []
unfolding before_tick
before_none t [] late = refl
before_none t (m ∷ ms) late = ap (λ (b : Bool). if b then m ∷ before_tick t ms else []) late

pub from_none : (t : ℕ) (ms : List Transition) → begins_before t ms ≡ false → from_tick t ms ≡ ms
unfolding from_tick
from_none t [] late = refl
from_none t (m ∷ ms) late = ap (λ (b : Bool). if b then from_tick t ms else m ∷ ms) late

-- ---- one due change

-- the text of the items of due changes
abbrev pub stamped_text : (Transition → Bool) → List AmendedCode → Option ℕ → List Transition → List ℕ
stamped_text p cs last ms = flat_map item_line (stamped_items cs last (filter p ms))

-- that of the first of them, and the last stamp after it
abbrev pub first_text : Bool → List AmendedCode → Option ℕ → Transition → List ℕ
first_text b cs last m = flat_map item_line (if b then
    (if is_last last m.tick then [] else stamp (decimal m.tick) ∷ []) ++ due_item cs m ∷ [] else [])

abbrev pub stamp_after : Bool → Option ℕ → Transition → Option ℕ
stamp_after b last m = if b then Some m.tick else last

one_stamped : (p : Transition → Bool) (cs : List AmendedCode) (last : Option ℕ) (m : Transition) (ms : List Transition)
    → stamped_text p cs last (m ∷ ms) ≡ first_text (p m) cs last m ++ stamped_text p cs (stamp_after (p m) last m) ms
unfolding stamped_items
one_stamped p cs last m ms = by_test (p m)
  where
    by_test : (b : Bool) → flat_map item_line (stamped_items cs last (if b then m ∷ filter p ms else filter p ms))
        ≡ first_text b cs last m ++ stamped_text p cs (stamp_after b last m) ms
    by_test true =
        let head : List Item = if is_last last m.tick then [] else stamp (decimal m.tick) ∷ [] in
        let rest = stamped_items cs (Some m.tick) (filter p ms) in
        ap (flat_map item_line) (sym (append_assoc head (due_item cs m ∷ []) rest))
        ∙ flat_map-append item_line (head ++ due_item cs m ∷ []) rest
    by_test false = refl

pub stamped_step : (p : Transition → Bool) (cs : List AmendedCode) (last next : Option ℕ) (t : ℕ) (due : List DueChange)
    (k : ℕ) (d : DueChange) → k < length due → slice_index_or due k d ≡ d → d.tick < t
    → next ≡ stamp_after (p (due_transition d)) last (due_transition d)
    → stamped_text p cs last (before_tick t (map due_transition (drop k due)))
    ≡ first_text (p (due_transition d)) cs last (due_transition d)
    ++ stamped_text p cs next (before_tick t (map due_transition (drop (k + 1) due)))
stamped_step p cs last next t due k d within is early after =
    let m = due_transition d in
    let ms = map due_transition (drop (k + 1) due) in
    ap (λ l. stamped_text p cs last l) (ap (before_tick t) (first_due due k d within is) ∙ before_one t m ms early)
    ∙ one_stamped p cs last m (before_tick t ms)
    ∙ ap (λ o. first_text (p m) cs last m ++ stamped_text p cs o (before_tick t ms)) (sym after)

pub from_step : (t : ℕ) (due : List DueChange) (k : ℕ) (d : DueChange) → k < length due → slice_index_or due k d ≡ d
    → d.tick < t → from_tick t (map due_transition (drop (k + 1) due)) ≡ from_tick t (map due_transition (drop k due))
from_step t due k d within is early = sym (ap (from_tick t) (first_due due k d within is)
    ∙ from_one t (due_transition d) (map due_transition (drop (k + 1) due)) early)

-- one that is not open adds nothing
pub closed_step : (p : Transition → Bool) (t : ℕ) (due : List DueChange) (k : ℕ) (d : DueChange) → k < length due
    → slice_index_or due k d ≡ d → d.tick < t → p (due_transition d) ≡ false
    → filter p (before_tick t (map due_transition (drop (k + 1) due)))
    ≡ filter p (before_tick t (map due_transition (drop k due)))
closed_step p t due k d within is early closed =
    let m = due_transition d in
    let ms = before_tick t (map due_transition (drop (k + 1) due)) in
    sym (ap (λ l. filter p (before_tick t l)) (first_due due k d within is)
    ∙ ap (filter p) (before_one t m (map due_transition (drop (k + 1) due)) early)
    ∙ ap (λ (b : Bool). if b then m ∷ filter p ms else filter p ms) closed)

pub stamped_none : (p : Transition → Bool) (cs : List AmendedCode) (last : Option ℕ) (t : ℕ) (ms : List Transition)
    → begins_before t ms ≡ false → stamped_text p cs last (before_tick t ms) ≡ []
unfolding stamped_items
stamped_none p cs last t ms late = ap (stamped_text p cs last) (before_none t ms late)

-- ---- at the end

abbrev pub ending_text : (Transition → Bool) → List AmendedCode → List Transition → List ℕ
ending_text p cs ms = flat_map (λ i. 10 ∷ join_with_byte 32 (spelling i)) (map (due_item cs) (filter p ms))

abbrev pub first_ending : Bool → List AmendedCode → Transition → List ℕ
first_ending b cs m = if b then 10 ∷ join_with_byte 32 (spelling (due_item cs m)) else []

one_ending : (p : Transition → Bool) (cs : List AmendedCode) (m : Transition) (ms : List Transition)
    → ending_text p cs (m ∷ ms) ≡ first_ending (p m) cs m ++ ending_text p cs ms
one_ending p cs m ms = by_test (p m)
  where
    by_test : (b : Bool) → flat_map (λ i. 10 ∷ join_with_byte 32 (spelling i))
        (map (due_item cs) (if b then m ∷ filter p ms else filter p ms))
        ≡ first_ending b cs m ++ ending_text p cs ms
    by_test true = refl
    by_test false = refl

pub ending_step : (p : Transition → Bool) (cs : List AmendedCode) (t : ℕ) (due : List DueChange)
    (k : ℕ) (d : DueChange) → k < length due → slice_index_or due k d ≡ d → d.tick < t
    → ending_text p cs (before_tick t (map due_transition (drop k due)))
    ≡ first_ending (p (due_transition d)) cs (due_transition d)
    ++ ending_text p cs (before_tick t (map due_transition (drop (k + 1) due)))
ending_step p cs t due k d within is early =
    ap (ending_text p cs) (ap (before_tick t) (first_due due k d within is)
    ∙ before_one t (due_transition d) (map due_transition (drop (k + 1) due)) early)
    ∙ one_ending p cs (due_transition d) (before_tick t (map due_transition (drop (k + 1) due)))

pub ending_none : (p : Transition → Bool) (cs : List AmendedCode) (t : ℕ) (ms : List Transition)
    → begins_before t ms ≡ false → ending_text p cs (before_tick t ms) ≡ []
ending_none p cs t ms late = ap (ending_text p cs) (before_none t ms late)

-- ---- the item of a due change

pub item_is : (codes : List CodeInMemory) (c : CodeInMemory) (d : DueChange) → d.index < length codes
    → c ≡ get_or codes d.index c
    → value_item c.code (new_value (code_contents c) d.tick) ≡ due_item (map code_contents codes) (due_transition d)
item_is codes c d within is =
    let here : code_at (map code_contents codes) (due_transition d) ≡ code_contents c =
    get_or-map code_contents codes d.index c no_code within ∙ ap code_contents (sym is) in
    ap (λ (x : AmendedCode). value_item x.code (new_value x d.tick)) (sym here)
