-- The changes that remain when short runs of one value are taken out, and the piece that leaves them.
use Rattle.std.proofs.Common.{◌≡◌, ℕ, ◌+◌, ◌-◌, ◌<◌, ◌≤◌, true, false, not, if◌then◌else◌, List, [], ◌∷◌, ◌++◌, length}
use Rattle.std.proofs.Common.{take, drop, get_or, refl, sym, ap, ◌∙◌, arith, append_assoc, subst}
use Rattle.std.proofs.lemmas.Bool.{and_parts, and_from, not-true, both_ways, cond_both, false_from_ne_true}
use Rattle.std.proofs.lemmas.List.{append-nil, length-append, length-drop, length-take-le, take_all, take-append-le}
use Rattle.std.proofs.lemmas.List.{drop-drop, drop_all}
use Rattle.std.proofs.lemmas.List.Edits.{between_more, between_none}
use Rattle.std.specs.Prelude.{pos}
use Rattle.std.proofs.lemmas.List.Elements.{All-drop}
use Rattle.vcd_core.specs.declared.bit.Bit.{Bit}
use Rattle.vcd_core.specs.declared.wave.Change.{Change}
use Rattle.vcd_core.specs.Value.{same_letters, all_x}
use Rattle.vcd_core.specs.inside.value.EqualByLetters.{same_letters-Decides}
use Rattle.vcd_core.specs.Wave.{unless_same}
use Rattle.vcd_core.specs.WavePush.{last_value}
use Rattle.vcd_core.proofs.shared.Pushes.{last_value-split}
use Rattle.vcd_core.proofs.shared.Waves.{put_cases}
use Rattle.vcd_core.specs.declared.capture.TheConstants.{END_LIMIT}
use Rattle.vcd_core.specs.Splice.{TickFits, AllTicksFit, spliced_changes}
use Rattle.vcd_core.specs.Contents.{SignalContents, signal_value}
use Rattle.vcd_core.specs.Sound.{IsSoundSignal}
use Rattle.vcd_core.proofs.shared.Splices.{moved_nowhere}
use Rattle.vcd_edit.specs.inside.plans.RemainingChanges.{without_repeats, begins_steady, steady_changes, remains}
use Rattle.vcd_edit.specs.inside.plans.RemainingChanges.{remaining_changes}
use Rattle.vcd_edit.specs.declared.record.Piece.{Piece}
use Rattle.vcd_edit.specs.RecordView.{PieceView}
use Rattle.vcd_edit.specs.AppliedRecords.{changes_with_piece}
use Rattle.vcd_edit.specs.Effect.{steady_value}
use Rattle.vcd_edit.specs.inside.plans.Plan.{GivesValues}
use Rattle.vcd_edit.specs.Records.{piece_view}
use Rattle.vcd_edit.proofs.shared.Lists.{drop_here, take_here}
use Rattle.vcd_edit.proofs.shared.Runs.{steady_are}
use Rattle.vcd_edit.proofs.shared.TouchedChanges.{stay_fit}

-- ==== the changes that remain when short runs of one value are taken out, change by change

-- a change that remains, and one that is taken out
remaining_first : (n : ℕ) (before : List Bit) (c : Change) (cs : List Change) → remains n before c cs ≡ true
    → remaining_changes n before (c ∷ cs) ≡ c ∷ remaining_changes n c.value cs
unfolding steady_changes without_repeats
remaining_first n before c cs remaining =
    let both = and_parts (begins_steady n c cs) (not (same_letters c.value before)) remaining in
    ap (λ b. without_repeats before (if b then c ∷ steady_changes n cs else steady_changes n cs)) both.0
    ∙ ap (λ b. unless_same b c (remaining_changes n c.value cs)) (not-true (same_letters c.value before) both.1)

left_out_first : (n : ℕ) (before : List Bit) (c : Change) (cs : List Change) → remains n before c cs ≡ false
    → remaining_changes n before (c ∷ cs) ≡ remaining_changes n before cs
unfolding steady_changes without_repeats
left_out_first n before c cs out =
    cond_both (begins_steady n c cs) (c ∷ steady_changes n cs) (steady_changes n cs)
    (λ l. without_repeats before l ≡ remaining_changes n before cs)
    (λ begins. put_cases (λ l. l ≡ remaining_changes n before cs) c.value before c (remaining_changes n c.value cs)
    (λ equal. ap (λ v. remaining_changes n v cs) equal)
    (λ other. absurd (both_ways (remains n before c cs) out (and_from _ _ begins (ap not
    (false_from_ne_true _ (λ is. other ((same_letters-Decides c.value before).0 is))))))))
    (λ _. refl)

-- an empty list stays empty
pub remaining_of_none : (n : ℕ) (before : List Bit) (cs : List Change) → length cs ≤ 0
    → remaining_changes n before cs ≡ []
unfolding steady_changes without_repeats
remaining_of_none n before [] none = refl
remaining_of_none n before (c ∷ cs) none = absurd (omega arith)

-- ---- the change at a position

module _ (n : ℕ) (last : List Bit) (cs : List Change) (i : ℕ) (c : Change) (later : List Change)
    (within : i < length cs) (at : c ≡ get_or cs i c) (rest : later ≡ drop (i + 1) cs) where
  -- it remains
  module _ (remaining : remains n last c later ≡ true) where
    one_remains : remaining_changes n last (drop i cs) ≡ c ∷ remaining_changes n c.value (drop (i + 1) cs)
    one_remains = ap (remaining_changes n last) (drop_here cs i c within at)
        ∙ remaining_first n last c (drop (i + 1) cs) (ap (remains n last c) (sym rest) ∙ remaining)

    -- after what was listed
    pub remaining_listed : (out more all : List Change) → all ≡ out ++ remaining_changes n last (drop i cs)
        → more ≡ out ++ c ∷ [] → all ≡ more ++ remaining_changes n c.value (drop (i + 1) cs)
    remaining_listed out more all is put =
        is ∙ ap (λ l. out ++ l) one_remains
        ∙ sym (append_assoc out (c ∷ []) (remaining_changes n c.value (drop (i + 1) cs)))
        ∙ ap (λ l. l ++ remaining_changes n c.value (drop (i + 1) cs)) (sym put)

    -- after a prefix and the changes from a position on
    pub remaining_after : (prefix all : List Change) (to : ℕ) → to ≤ i
        → all ≡ prefix ++ take (i - to) (drop to cs) ++ remaining_changes n last (drop i cs)
        → all ≡ prefix ++ take (i + 1 - to) (drop to cs) ++ remaining_changes n c.value (drop (i + 1) cs)
    remaining_after prefix all to le is =
        let glitches = take (i - to) (drop to cs) in
        remaining_listed (prefix ++ glitches) (prefix ++ take (i + 1 - to) (drop to cs)) all is
        (ap (λ l. prefix ++ l) (between_more cs to i c le within ∙ ap (λ d. glitches ++ d ∷ []) (sym at))
        ∙ sym (append_assoc prefix glitches (c ∷ [])))

  -- it is taken out
  module _ (out : remains n last c later ≡ false) where
    pub one_left_out : remaining_changes n last (drop i cs) ≡ remaining_changes n last (drop (i + 1) cs)
    one_left_out = ap (remaining_changes n last) (drop_here cs i c within at)
        ∙ left_out_first n last c (drop (i + 1) cs) (ap (remains n last c) (sym rest) ∙ out)

    pub left_out_after : (prefix all : List Change) (to : ℕ)
        → all ≡ prefix ++ take (i - to) (drop to cs) ++ remaining_changes n last (drop i cs)
        → all ≡ (prefix ++ take (i - to) (drop to cs)) ++ take (i + 1 - (i + 1)) (drop (i + 1) cs)
        ++ remaining_changes n last (drop (i + 1) cs)
    left_out_after prefix all to is =
        is ∙ ap (λ l. prefix ++ take (i - to) (drop to cs) ++ l) one_left_out
        ∙ ap (λ l. l ++ remaining_changes n last (drop (i + 1) cs))
        (sym (append-nil (prefix ++ take (i - to) (drop to cs))))
        ∙ ap (λ l. (prefix ++ take (i - to) (drop to cs)) ++ l ++ remaining_changes n last (drop (i + 1) cs))
        (sym (between_none cs (i + 1)))

-- the value of the last change so far
pub last_so_far : (before : List Bit) (cs : List Change) (i : ℕ) (c : Change) → i < length cs → c ≡ get_or cs i c
    → c.value ≡ last_value before (take (i + 1) cs)
last_so_far before cs i c within at =
    last_value-split before (take (i + 1) cs) (take i cs) c (take_here cs i c within at)

-- the length of the passed range
pub glitches_long : (prefix cs : List Change) (remaining to i : ℕ) → length prefix ≡ remaining → to ≤ i → i ≤ length cs
    → length (prefix ++ take (i - to) (drop to cs)) ≡ remaining + (i - to)
glitches_long prefix cs remaining to i long le within =
    let taken = length-take-le (i - to) (drop to cs) (omega (arith, length-drop to cs)) in
    omega (arith, length-append prefix (take (i - to) (drop to cs)), taken)

-- all were passed
pub glitches_done : (n : ℕ) (last : List Bit) (cs prefix all : List Change) (remaining to i : ℕ) → i ≡ length cs
    → to ≤ i → length prefix ≡ remaining
    → all ≡ prefix ++ take (i - to) (drop to cs) ++ remaining_changes n last (drop i cs)
    → all ≡ take remaining all ++ drop to cs
glitches_done n last cs prefix all remaining to i done le long is =
    let whole : take (i - to) (drop to cs) ≡ drop to cs =
    take_all (i - to) (drop to cs) (omega (arith, length-drop to cs)) in
    let none : remaining_changes n last (drop i cs) ≡ [] =
    remaining_of_none n last (drop i cs) (omega (arith, length-drop i cs)) in
    let told : all ≡ prefix ++ drop to cs = is ∙ (λ p. prefix ++ whole p ++ none p)
    ∙ append-nil (prefix ++ drop to cs) in
    let first : take remaining all ≡ prefix =
    ap (take remaining) told ∙ take-append-le remaining prefix (drop to cs) (omega arith)
    ∙ take_all remaining prefix (omega arith) in
    told ∙ ap (λ l. l ++ drop to cs) (sym first)

-- as many as are asked for are listed, or there are no more
pub listed_enough : (out rest all : List Change) (count : ℕ) → all ≡ out ++ rest → length out ≡ count
    → out ≡ take count all
listed_enough out rest all count is long =
    sym (ap (take count) is ∙ take-append-le count out rest (omega arith) ∙ take_all count out (omega arith))

pub listed_all : (n : ℕ) (last : List Bit) (cs out all : List Change) (i count : ℕ) → length cs ≤ i
    → all ≡ out ++ remaining_changes n last (drop i cs) → length out ≤ count → out ≡ take count all
listed_all n last cs out all i count done is few =
    let none : remaining_changes n last (drop i cs) ≡ [] =
    remaining_of_none n last (drop i cs) (omega (arith, length-drop i cs)) in
    let told : all ≡ out = is ∙ ap (λ l. out ++ l) none ∙ append-nil out in
    sym (ap (take count) told ∙ take_all count out few)

-- ==== the piece of a signal without its short runs: from the first change that is taken out to the last

module _ (n : ℕ) (s : SignalContents) (cs : List Change) (x : List Bit) (same : cs ≡ s.changes)
    (all : x ≡ all_x s.width) (from : ℕ) (within : from ≤ length cs)
    (prefix : remaining_changes n x cs ≡ take from cs
    ++ remaining_changes n (last_value x (take from cs)) (drop from cs)) where
  -- none is taken out
  pub none_left_out : from ≡ length cs → remaining_changes n (all_x s.width) s.changes ≡ s.changes
  none_left_out end =
      (λ i. remaining_changes n (sym all i) (sym same i)) ∙ prefix
      ∙ ap (λ l. take from cs ++ l)
      (remaining_of_none n (last_value x (take from cs)) (drop from cs)
      (omega (arith, ap length (drop_all from cs (omega (arith, end))))))
      ∙ append-nil (take from cs) ∙ take_all from cs (omega (arith, end)) ∙ same

  -- the range after which no change is taken out, and what remains of it
  module _ (before : List Bit) (later list : List Change) (remaining to : ℕ)
      (value : before ≡ last_value (all_x s.width) (take from cs)) (rest : later ≡ drop from cs)
      (told : remaining_changes n before later ≡ take remaining (remaining_changes n before later) ++ drop to later)
      (listed : list ≡ take remaining (remaining_changes n before later)) where
    parts_left : take from cs ++ list ++ drop (from + to) cs ≡ remaining_changes n (all_x s.width) s.changes
    parts_left =
        let following : drop (from + to) cs ≡ drop to later = sym (drop-drop to from cs) ∙ ap (drop to) (sym rest) in
        let index : remaining_changes n before later
        ≡ remaining_changes n (last_value x (take from cs)) (drop from cs) =
        (λ i. remaining_changes n (value i) (rest i))
        ∙ ap (λ v. remaining_changes n (last_value v (take from cs)) (drop from cs)) (sym all) in
        append_assoc (take from cs) list (drop (from + to) cs)
        ∙ (λ i. take from cs ++ (listed i ++ following i)) ∙ ap (λ l. take from cs ++ l) (sym told ∙ index) ∙ sym prefix
        ∙ (λ i. remaining_changes n (all i) (same i))

    pub deglitch_gives : (k end : ℕ) (p : Piece) → IsSoundSignal end s → end ≤ END_LIMIT → to ≤ length later
        → piece_view p ≡ record { signal = k; from = from; to = from + to; changes = list; by = pos 0 }
        → GivesValues k s end (pos 0) (steady_value n end (signal_value s)) p
    unfolding spliced_changes
    deglitch_gives k end p sound small fewer is = record {
      signal = ap (λ (q : PieceView). q.signal) is;
      offset = ap (λ (q : PieceView). q.by) is;
      leads = record {
        ordered = omega (arith, ap (λ (q : PieceView). q.from) is, ap (λ (q : PieceView). q.to) is);
        within = omega (arith, ap length rest, length-drop from cs, ap length same, ap (λ (q : PieceView). q.to) is);
        ticks = subst (λ (q : PieceView). AllTicksFit q.by (drop q.to s.changes)) (sym is)
            (All-drop (TickFits (pos 0)) (from + to) s.changes (stay_fit end s.changes small sound.ticks));
        is = ap (λ (q : PieceView). changes_with_piece q s.changes) is
            ∙ (λ i. take from (sym same i) ++ list ++ moved_nowhere (drop (from + to) (sym same i)) i) ∙ parts_left
            ∙ steady_are n end s sound.wave sound.ticks;
      };
    }
