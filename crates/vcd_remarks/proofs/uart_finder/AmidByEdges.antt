-- The edges amid the bits of frames: a finder that takes edges one at a time finds those of all ticks.
use Rattle.std.proofs.Common.{◌≡◌, ℕ, zero, suc, ◌+◌, ◌-◌, ◌<◌, ◌≤◌, ◌&&◌, ◌||◌, not, nat_le, nat_lt}
use Rattle.std.proofs.Common.{Bool, true, false, cond}
use Rattle.std.proofs.Common.{if◌then◌else◌, Option, Some, None, option_to_list, List, [], ◌∷◌, ◌++◌}
use Rattle.std.proofs.Common.{refl, sym, ap, ◌∙◌, inl, inr, arith, add-one}
use Rattle.std.specs.Prelude.{IfSome, unwrap_or}
use Rattle.std.specs.List.{filter, list_any, range_with_len, AllByRecursion}
use Rattle.std.proofs.lemmas.Bool.{lt-leb, le-leb, cases_lt, cases_eq, cases_Bool, le-ltb, cond_both}
use Rattle.std.proofs.lemmas.List.{append-nil}
use Rattle.std.proofs.lemmas.List.Elements.{filter-append}
use Rattle.vcd_core.specs.declared.bit.Bit.{Bit}
use Rattle.vcd_core.specs.declared.bit.Bit.TheVariants.{X}
use Rattle.vcd_core.specs.declared.bit_edges.BitEdge.{BitEdge}
use Rattle.vcd_core.specs.Value.{same_letter}
use Rattle.vcd_decode.specs.declared.annotation.Annotation.{Annotation}
use Rattle.vcd_decode.specs.declared.annotation.Kind.{Kind}
use Rattle.vcd_decode.specs.UartSetup.{UartSetup}
use Rattle.vcd_decode.specs.Lines.{is_zero, is_one, annotation, letter_before}
use Rattle.vcd_decode.specs.LineEdges.{AreEdgesOf}
use Rattle.vcd_decode.specs.Uart.{begun_frame, frames, uart_annotations, sample_tick, last_bit}
use Rattle.vcd_decode.specs.AmidBit.{is_amid_bit}
use Rattle.vcd_decode.specs.Uart as uart
use Rattle.vcd_decode.specs.inside.PartialWord.{line_bit}
use Rattle.vcd_decode.specs.inside.UartFrames.{is_fall, UartState, settled, frame_of, last_frame}
use Rattle.vcd_decode.specs.inside.UartFrames.{state_with_letter, first_state}
use Rattle.vcd_decode.specs.inside.UartFrames.{uart_annotations_left, falls_with, pending_start, zero_start, open_falls}
use Rattle.vcd_decode.proofs.shared.Falls.{never_both}
use Rattle.vcd_decode.proofs.shared.FramesByEdges.{frames_from, state, IsHeld, AreWaiting, pending}
use Rattle.vcd_decode.proofs.shared.FramesByEdges.{state_settled, held_with, pending_with, held_later, frames_left}
use Rattle.vcd_decode.proofs.shared.FramesByEdges.{edges_at}
use Rattle.vcd_remarks.specs.declared.findings.found_ticks.FoundTicks.{FoundTicks}
use Rattle.vcd_remarks.specs.UartEdges.{is_amid_bit_of}
use Rattle.vcd_remarks.specs.inside.FoundTicks.{with_tick, with_ticks}
use Rattle.vcd_remarks.specs.inside.UartFinder.{with_amid, ticks_after, still_held, amid_left}
use Rattle.vcd_remarks.specs.inside.UartFinder as walk
use Rattle.vcd_remarks.proofs.uart_finder.LineChanges.{is_change, same_always}

-- ---- no edge is amid a bit of a frame up to its start, or from its end on

not_before : (u : UartSetup) (tick : ℕ) (a : Annotation) → tick ≤ a.start → is_amid_bit_of u tick a ≡ false
not_before u tick a late = rw (le-ltb a.start tick late) refl

and_false : (b : Bool) → b && false ≡ false
and_false true = refl
and_false false = refl

not_after : (u : UartSetup) (tick : ℕ) (a : Annotation) → a.end ≤ tick → is_amid_bit_of u tick a ≡ false
not_after u tick a early =
    rw (le-ltb tick a.end early) (ap (λ b. b && is_amid_bit u (tick - a.start)) (and_false (nat_lt a.start tick)))

-- ---- a frame begins at its fall

by_tests : (cut low cut_later : Bool) (start end last : ℕ) (k l : Kind)
    → IfSome (if cut then Some (annotation start end k) else (if not low then None
    else (if cut_later then Some (annotation start end k) else Some (annotation start last l))))
    (λ a. a.start ≡ start)
by_tests true low cut_later start end last k l = refl
by_tests false false cut_later start end last k l = tt
by_tests false true true start end last k l = refl
by_tests false true false start end last k l = refl

pub begun_at : (f : ℕ → Bit) (end : ℕ) (u : UartSetup) (start : ℕ)
    → IfSome (begun_frame f end u start) (λ a. a.start ≡ start)
unfolding begun_frame
begun_at f end u start =
    by_tests (nat_lt end (sample_tick u start 0)) (is_zero (f (sample_tick u start 0)))
    (nat_lt end (sample_tick u start (last_bit u))) start end (sample_tick u start (last_bit u)) _ _

-- ==== lists of ticks

abbrev AllFrom : ℕ → List ℕ → Type 0
AllFrom low ts = AllByRecursion (λ t. low ≤ t) ts

abbrev AllThrough : ℕ → List ℕ → Type 0
AllThrough last ts = AllByRecursion (λ t. t ≤ last) ts

from_weaker : (low lower : ℕ) (ts : List ℕ) → lower ≤ low → AllFrom low ts → AllFrom lower ts
from_weaker low lower [] le all = tt
from_weaker low lower (t ∷ ts) le (from, all) = (omega (arith, from, le), from_weaker low lower ts le all)

from_append : (low : ℕ) (ts us : List ℕ) → AllFrom low ts → AllFrom low us → AllFrom low (ts ++ us)
from_append low [] us all others = others
from_append low (t ∷ ts) us (from, all) others = (from, from_append low ts us all others)

from_filter : (low t n : ℕ) (p : ℕ → Bool) → low ≤ t → AllFrom low (filter p (range_with_len t n))
from_filter low t zero p le = tt
from_filter low t (suc n) p le =
    let rest : List ℕ = filter p (range_with_len (t + 1) n) in
    let later : AllFrom low rest = from_filter low (t + 1) n p (omega (arith, le)) in
    cond_both (p t) (t ∷ rest) rest (AllFrom low) (λ _. (le, later)) (λ _. later)

through_later : (last later : ℕ) (ts : List ℕ) → last ≤ later → AllThrough last ts → AllThrough later ts
through_later last later [] le all = tt
through_later last later (t ∷ ts) le (through, all) = (omega (arith, through, le), through_later last later ts le all)

through_append : (last : ℕ) (ts us : List ℕ) → AllThrough last ts → AllThrough last us → AllThrough last (ts ++ us)
through_append last [] us all others = others
through_append last (t ∷ ts) us (through, all) others = (through, through_append last ts us all others)

through_after : (last from : ℕ) (ts : List ℕ) → AllThrough last ts → AllThrough last (ticks_after from ts)
unfolding ticks_after
through_after last from [] all = tt
through_after last from (t ∷ ts) (through, all) =
    cond_both (nat_le t from) (ticks_after from ts) (t ∷ ts) (AllThrough last)
    (λ _. through_after last from ts all) (λ _. (through, all))

through_held : (last : ℕ) (pend : Option ℕ) (ts : List ℕ) → AllThrough last ts → AllThrough last (still_held pend ts)
through_held last None ts all = tt
through_held last (Some from) ts all = through_after last from ts all

-- with the tick of a change, if there is one
held_is : (held rest : List ℕ) (t : ℕ) (b : Bit) (same : Bool)
    → walk.with_changed_tick held t (if same then None else Some b) ++ rest ≡ held ++ cond (not same) (t ∷ rest) rest
held_is held rest t b true = refl
held_is [] rest t b false = refl
held_is (u ∷ held) rest t b false = ap (λ ts. u ∷ ts) (held_is held rest t b false)

through_with : (held : List ℕ) (t : ℕ) (o : Option Bit) → AllThrough t held
    → AllThrough t (walk.with_changed_tick held t o)
through_with held t None all = all
through_with held t (Some b) all = through_append t held (t ∷ []) all (omega arith, tt)

with_ticks_append : (found : FoundTicks) (ts us : List ℕ)
    → with_ticks (with_ticks found ts) us ≡ with_ticks found (ts ++ us)
unfolding with_ticks
with_ticks_append found [] us = refl
with_ticks_append found (t ∷ ts) us = with_ticks_append (with_tick found t) ts us

or_false : (b : Bool) → b || false ≡ b
or_false true = refl
or_false false = refl

-- ==== the ticks amid a bit of some frames

module _ (u : UartSetup) where
  abbrev in_frames : List Annotation → ℕ → Bool
  in_frames fs t = list_any (is_amid_bit_of u t) fs

  abbrev pub ticks_amid : List Annotation → List ℕ → List ℕ
  ticks_amid fs ts = filter (in_frames fs) ts

  abbrev StartFrom : ℕ → List Annotation → Type 0
  StartFrom low fs = AllByRecursion (λ (a : Annotation). low ≤ a.start) fs

  -- no tick before frames is amid one of them
  none_before : (low t : ℕ) (fs : List Annotation) → t ≤ low → StartFrom low fs → in_frames fs t ≡ false
  none_before low t [] le all = refl
  none_before low t (a ∷ fs) le (from, all) =
      ap (λ b. b || in_frames fs t) (not_before u t a (omega (arith, le, from))) ∙ none_before low t fs le all

  before_none : (low : ℕ) (fs : List Annotation) (ts : List ℕ) → StartFrom low fs → AllThrough low ts
      → ticks_amid fs ts ≡ []
  before_none low fs [] all through = refl
  before_none low fs (t ∷ ts) all (le, through) =
      rw (none_before low t fs le all) (before_none low fs ts all through)

  -- a frame in front of later ones: it alone has the ticks before them, and none after its end
  first_alone : (low : ℕ) (a : Annotation) (fs : List Annotation) (ts : List ℕ) → StartFrom low fs
      → AllThrough low ts → ticks_amid (a ∷ fs) ts ≡ filter (λ t. is_amid_bit_of u t a) ts
  first_alone low a fs [] all through = refl
  first_alone low a fs (t ∷ ts) all (le, through) =
      let here : in_frames (a ∷ fs) t ≡ is_amid_bit_of u t a =
      ap (λ b. is_amid_bit_of u t a || b) (none_before low t fs le all) ∙ or_false (is_amid_bit_of u t a) in
      λ i. if here i then t ∷ first_alone low a fs ts all through i else first_alone low a fs ts all through i

  first_over : (low : ℕ) (a : Annotation) (fs : List Annotation) (ts : List ℕ) → a.end ≤ low → AllFrom low ts
      → ticks_amid (a ∷ fs) ts ≡ ticks_amid fs ts
  first_over low a fs [] le all = refl
  first_over low a fs (t ∷ ts) le (from, all) =
      let here : in_frames (a ∷ fs) t ≡ in_frames fs t =
      ap (λ b. b || in_frames fs t) (not_after u t a (omega (arith, le, from))) in
      λ i. if here i then t ∷ first_over low a fs ts le all i else first_over low a fs ts le all i

  -- a frame is given, whose ticks are held
  frame_given : (found : FoundTicks) (held rest : List ℕ) (frame : Option Annotation) (fs : List Annotation) (p : ℕ)
      → AllThrough p held → AllFrom (suc p) rest
      → IfSome frame (λ a. (a.end ≤ p) × StartFrom (suc p) fs)
      → with_ticks (with_amid u found held frame) (ticks_amid fs (held ++ rest))
      ≡ with_ticks found (ticks_amid (option_to_list frame ++ fs) (held ++ rest))
  frame_given found held rest None fs p through from alone = refl
  frame_given found held rest (Some a) fs p through from (over, later) =
      let mine : List ℕ = filter (λ t. is_amid_bit_of u t a) held in
      let early : AllThrough (suc p) held = through_later p (suc p) held (omega arith) through in
      ap (with_ticks (with_ticks found mine)) (filter-append (in_frames fs) held rest
      ∙ ap (λ ts. ts ++ ticks_amid fs rest) (before_none (suc p) fs held later early))
      ∙ with_ticks_append found mine (ticks_amid fs rest)
      ∙ ap (with_ticks found) (sym (filter-append (in_frames (a ∷ fs)) held rest
      ∙ (λ i. first_alone (suc p) a fs held later early i
      ++ first_over (suc p) a fs rest (omega (arith, over)) from i)))

  -- ticks up to where the frames begin need not be held
  after_kept : (low from : ℕ) (fs : List Annotation) (ts : List ℕ) → from ≤ low → StartFrom low fs
      → ticks_amid fs (ticks_after from ts) ≡ ticks_amid fs ts
  unfolding ticks_after
  after_kept low from fs [] le all = refl
  after_kept low from fs (t ∷ ts) le all = elim (cases_lt from t) [
    | inl later ↦ rw (lt-leb t from later) refl
    | inr within ↦ rw (le-leb t from within, none_before low t fs (omega (arith, within, le)) all)
        (after_kept low from fs ts le all)
  ]

  -- ==== the frames of a decoder

  module _ (f : ℕ → Bit) (end : ℕ) where
    abbrev given_by : ℕ → List ℕ → List Annotation
    given_by = frames_from f end u

    starts_from : (low : ℕ) (o : Option Annotation) (s : ℕ) (rest : List Annotation) → IfSome o (λ a. a.start ≡ s)
        → low ≤ s → StartFrom low rest → StartFrom low (option_to_list o ++ rest)
    starts_from low None s rest is le all = all
    starts_from low (Some a) s rest is le all = (omega (arith, is, le), all)

    -- they begin at falls
    frames_start : (low : ℕ) (ts : List ℕ) (taken : ℕ) → AllFrom low ts → StartFrom low (given_by taken ts)
    unfolding frames
    frames_start low [] taken all = tt
    frames_start low (s ∷ ts) taken (from, all) = elim (cases_Bool (nat_le s taken)) [
      | inl within ↦ rw within (frames_start low ts taken all)
      | inr past ↦ rw past (starts_from low (begun_frame f end u s) s _ (begun_at f end u s) from
          (frames_start low ts _ all))
    ]

    waiting_from : (lower low top from : ℕ) (falls : List ℕ) → lower ≤ low → AreWaiting f end u low top from falls
        → AllFrom lower falls
    waiting_from lower low top from [] le waiting = tt
    waiting_from lower low top from (s ∷ falls) le (past, within, ahead, more) =
        (omega (arith, past, le), waiting_from lower s top from falls (omega (arith, past, le)) more)

    -- where the first frame that is pending begins
    held_kept : (last t : ℕ) (start : Option ℕ) (falls : List ℕ) (letters : List Bit) (later ts rest : List ℕ)
        → IsHeld f end u last t t t start falls letters → AllFrom (suc t) later → AllThrough t ts
        → ticks_amid (given_by last (pending f end u start falls ++ later))
        (still_held (pending_start start falls) ts ++ rest)
        ≡ ticks_amid (given_by last (pending f end u start falls ++ later)) (ts ++ rest)
    held_kept last t start falls letters later ts rest held after through =
        let fs : List Annotation = given_by last (pending f end u start falls ++ later) in
        let kept : ticks_amid fs (still_held (pending_start start falls) ts) ≡ ticks_amid fs ts =
        by_start start falls held in
        filter-append (in_frames fs) (still_held (pending_start start falls) ts) rest
        ∙ ap (λ us. us ++ ticks_amid fs rest) kept ∙ sym (filter-append (in_frames fs) ts rest)
      where
        by_start : (start : Option ℕ) (falls : List ℕ) → IsHeld f end u last t t t start falls letters
            → ticks_amid (given_by last (pending f end u start falls ++ later))
            (still_held (pending_start start falls) ts)
            ≡ ticks_amid (given_by last (pending f end u start falls ++ later)) ts
        by_start (Some s) falls (past, under, less, none) =
            let le : s ≤ t = omega (arith, under.past) in
            let all : AllFrom s (s ∷ later) = (omega arith, from_weaker (suc t) s later (omega (arith, le)) after) in
            rw none (after_kept s s (given_by last (s ∷ later)) ts (omega arith) (frames_start s (s ∷ later) last all))
        by_start None [] held =
            sym (before_none t (given_by last later) ts
            (frames_start t later last (from_weaker (suc t) t later (omega arith) after)) through)
        by_start None (s ∷ falls) ((past, within, ahead, more), none) =
            let others : AllFrom s (falls ++ later) = from_append s falls later
            (waiting_from s s t t falls (omega arith) more)
            (from_weaker (suc t) s later (omega (arith, within)) after) in
            after_kept s s (given_by last (s ∷ falls ++ later)) ts (omega arith)
            (frames_start s (s ∷ falls ++ later) last (omega arith, others))

    -- after a whole frame only later falls are pending
    pending_later : (t : ℕ) (b letter : Bit) (start : Option ℕ) (falls later : List ℕ) → start ≡ None → falls ≡ []
        → AllFrom t later → AllFrom t (pending f end u start (falls_with falls start b letter t) ++ later)
    pending_later t b letter start falls later no_start no_fall all =
        rw (no_start, no_fall) (from_append t (if is_one b && is_zero letter then t ∷ [] else []) later
        (cond_both (is_one b && is_zero letter) (t ∷ []) [] (AllFrom t) (λ _. (omega arith, tt)) (λ _. tt)) all)

    last_given : (found : FoundTicks) (held : List ℕ) (o : Option Annotation)
        → with_amid u found held o ≡ with_ticks found (ticks_amid (option_to_list o) (held ++ []))
    unfolding with_ticks
    last_given found held None = rw (append-nil held)
        (ap (with_ticks found) (sym (none_at held)))
      where
        none_at : (ts : List ℕ) → filter (λ t. false) ts ≡ []
        none_at [] = refl
        none_at (t ∷ ts) = none_at ts
    last_given found held (Some a) = rw (append-nil held)
        (ap (with_ticks found) (sym (alone held)))
      where
        alone : (ts : List ℕ) → ticks_amid (a ∷ []) ts ≡ filter (λ t. is_amid_bit_of u t a) ts
        alone [] = refl
        alone (t ∷ ts) = λ i. if or_false (is_amid_bit_of u t a) i then t ∷ alone ts i else alone ts i

    -- ==== all edges

    module _ (shown : ℕ → Bool) (still : (t : ℕ) → shown t ≡ false → f t ≡ letter_before f t) where
      abbrev edges_of : List ℕ → List BitEdge
      edges_of = edges_at f end u shown still

      abbrev falls_in : List ℕ → List ℕ
      falls_in = filter (is_fall f)

      abbrev changes_in : List ℕ → List ℕ
      changes_in = filter (is_change f)

      -- after tick p what is found are the ticks of what is held and of the changes to come that are amid a bit of
      -- the frames that are left
      amid_is : (n p taken top from : ℕ) (b : Bit) (falls : List ℕ) (start : Option ℕ) (letters : List Bit)
          (held : List ℕ) (found : FoundTicks)
          → suc p + n ≡ suc end → ((v : ℕ) → from ≤ v → v ≤ p → f v ≡ b) → from ≤ p → top ≤ from
          → IsHeld f end u taken top from p start falls letters
          → ((v : ℕ) → p < v → is_fall f v ≡ true → taken < v) → AllThrough p held
          → amid_left u (state f end u b falls start letters) held found (edges_of (range_with_len (suc p) n))
          ≡ with_ticks found (ticks_amid (given_by taken (pending f end u start falls
          ++ falls_in (range_with_len (suc p) n))) (held ++ changes_in (range_with_len (suc p) n)))
      unfolding amid_left uart_annotations_left
      amid_is zero p taken top from b falls start letters held found all same begun_by risen kept later through =
          last_given found held (last_frame (state f end u b falls start letters))
          ∙ ap (λ fs. with_ticks found (ticks_amid fs (held ++ [])))
          (frames_left f end u shown still zero p taken top from b falls start letters all same begun_by risen kept
          later)
      amid_is (suc n) p taken top from b falls start letters held found all same begun_by risen kept later through =
          let next = add-one (suc p) in
          let ticks : List ℕ = range_with_len (suc (suc p)) n in
          elim (cases_Bool (shown (suc p))) [
            | inl at ↦
                let d : UartState = state f end u b falls start letters in
                let rest : UartState = settled d p in
                let letter : Bit = f (suc p) in
                let frame : Option Annotation = frame_of d p in
                let known : suc p ≤ end = omega (arith, all) in
                let it = state_settled f end u top from p b same risen (omega (arith, known)) taken falls start letters
                kept in
                let before : f p ≡ b = same p begun_by (omega arith) in
                let past : is_fall f (suc p) ≡ true → it.last < suc p =
                λ fall. it.since (suc p) (omega arith) (later (suc p) (omega arith) fall) in
                let below : top ≤ p = omega (arith, risen, begun_by) in
                let tick : suc p - 1 ≡ p = omega arith in
                let falls_now : List ℕ = falls_with rest.falls rest.start b letter (suc p) in
                let kept_now = held_with f end u it.last top p b known below before past rest.falls rest.start
                rest.letters it.held in
                let changed : Option Bit = if same_letter letter (f p) then None else Some letter in
                let held_all : List ℕ = walk.with_changed_tick held (suc p) changed in
                let through_all : AllThrough (suc p) held_all =
                through_with held (suc p) changed (through_later p (suc p) held (omega arith) through) in
                let held_now : List ℕ = still_held (pending_start rest.start falls_now) held_all in
                let found_now : FoundTicks = with_amid u found held frame in
                let falls_later : List ℕ = falls_in ticks in
                let changes_later : List ℕ = changes_in ticks in
                let fs : List Annotation = given_by it.last (pending f end u rest.start falls_now ++ falls_later) in
                let after : AllFrom (suc (suc p)) falls_later =
                from_filter (suc (suc p)) (suc (suc p)) n (is_fall f) (omega arith) in
                let changes_after : AllFrom (suc (suc p)) changes_later =
                from_filter (suc (suc p)) (suc (suc p)) n (is_change f) (omega arith) in
                let changes_here : List ℕ = cond (is_change f (suc p)) (suc p ∷ changes_later) changes_later in
                let later_changes : AllFrom (suc p) changes_later =
                from_weaker (suc (suc p)) (suc p) changes_later (omega arith) changes_after in
                let from_here : AllFrom (suc p) changes_here =
                cond_both (is_change f (suc p)) (suc p ∷ changes_later) changes_later (AllFrom (suc p))
                (λ _. (omega arith, later_changes)) (λ _. later_changes) in
                let left = amid_is n (suc p) it.last (suc p) (suc p) letter falls_now rest.start rest.letters held_now
                found_now (omega (arith, all))
                (λ v since upto. ap f (let e : v ≡ suc p = omega (arith, since, upto) in e)) (omega arith) (omega arith)
                kept_now (λ v since fall. it.since v (omega (arith, since)) (later v (omega (arith, since)) fall))
                (through_held (suc p) (pending_start rest.start falls_now) held_all through_all) in
                let alone : IfSome frame (λ a. (a.end ≤ p) × StartFrom (suc p) fs) =
                if_whole frame it.alone (λ no_start no_fall. frames_start (suc p)
                (pending f end u rest.start falls_now ++ falls_later) it.last
                (pending_later (suc p) b letter rest.start rest.falls falls_later no_start no_fall
                (from_weaker (suc (suc p)) (suc p) falls_later (omega arith) after))) in
                let all_frames : option_to_list frame ++ fs
                ≡ given_by taken (pending f end u start falls
                ++ cond (is_fall f (suc p)) (suc p ∷ falls_later) falls_later) =
                ap (λ xs. option_to_list frame ++ xs)
                (pending_with f end u it.last top p b known below before past rest.falls rest.start rest.letters
                falls_later it.held)
                ∙ it.given (cond (is_fall f (suc p)) (suc p ∷ falls_later) falls_later) in
                rw (at, next) (
                (λ i. amid_left u (state_with_letter (settled d (tick i)) letter (suc p))
                (still_held (pending_start (settled d (tick i)).start
                (falls_with (settled d (tick i)).falls (settled d (tick i)).start b letter (suc p))) held_all)
                (with_amid u found held (frame_of d (tick i))) (edges_of ticks))
                ∙ left
                ∙ ap (with_ticks found_now)
                (held_kept it.last (suc p) rest.start falls_now rest.letters falls_later held_all changes_later
                kept_now after through_all
                ∙ ap (ticks_amid fs) (held_is held changes_later (suc p) letter (same_letter letter (f p))))
                ∙ frame_given found held changes_here frame fs p through from_here alone
                ∙ ap (λ gs. with_ticks found (ticks_amid gs (held ++ changes_here))) all_frames
                )
            | inr none ↦
                let keeps : f (suc p) ≡ f p = still (suc p) none in
                let no_fall : is_fall f (suc p) ≡ false =
                ap (λ (a : Bit). is_one (f p) && is_zero a) keeps ∙ never_both (f p) in
                let no_change : is_change f (suc p) ≡ false =
                ap (λ (a : Bit). not (same_letter a (f p))) keeps ∙ ap not (same_always (f p)) in
                let same_later : (v : ℕ) → from ≤ v → v ≤ suc p → f v ≡ b =
                λ v after upto. elim (cases_eq v (suc p)) [
                  | inl here ↦ ap f here ∙ keeps ∙ same p begun_by (omega arith)
                  | inr apart ↦ same v after (omega (arith, upto, apart))
                ] in
                rw (none, no_fall, no_change, next)
                (amid_is n (suc p) taken top from b falls start letters held found (omega (arith, all)) same_later
                (omega (arith, begun_by)) risen (held_later f end u taken top from p falls start letters kept)
                (λ v after fall. later v (omega (arith, after)) fall)
                (through_later p (suc p) held (omega arith) through))
          ]
        where
          if_whole : (frame : Option Annotation) {P Q : Type 0} {R : Type 0}
              → IfSome frame (λ a. (a.end ≤ p) × P × Q) → (P → Q → R) → IfSome frame (λ a. (a.end ≤ p) × R)
          if_whole None is gives = tt
          if_whole (Some a) (over, no_start, no_fall) gives = (over, gives no_start no_fall)

      -- nothing is amid a bit at tick 0
      amid_of_edges : (found : FoundTicks)
          → amid_left u (state f end u X [] None []) [] found (edges_of (range_with_len 0 (suc end)))
          ≡ with_ticks found (ticks_amid (uart_annotations f end u) (changes_in (range_with_len 0 (suc end))))
      unfolding amid_left uart_annotations uart.falls zero_start open_falls
      amid_of_edges found =
          let fs : List Annotation = given_by 0 (falls_in (range_with_len 1 end)) in
          let later : List ℕ = changes_in (range_with_len 1 end) in
          let start : StartFrom 0 fs =
          frames_start 0 (falls_in (range_with_len 1 end)) 0 (from_filter 0 1 end (is_fall f) (omega arith)) in
          let skip : ticks_amid fs later ≡ ticks_amid fs (cond (is_change f 0) (0 ∷ later) later) =
          cond_both (is_change f 0) (0 ∷ later) later (λ ts. ticks_amid fs later ≡ ticks_amid fs ts)
          (λ _. rw (none_before 0 0 fs (omega arith) start) refl) (λ _. refl) in
          elim (cases_Bool (shown 0)) [
            | inl at ↦ rw at (amid_is end 0 0 0 0 (f 0) [] None [] [] found (omega arith)
                (λ v after upto. ap f (let e : v ≡ 0 = omega (arith, upto) in e)) (omega arith) (omega arith) (tt, refl)
                (λ v after fall. after) tt ∙ ap (with_ticks found) skip)
            | inr none ↦ rw none (amid_is end 0 0 0 0 X [] None [] [] found (omega arith)
                (λ v after upto. ap f (let e : v ≡ 0 = omega (arith, upto) in e) ∙ still 0 none) (omega arith)
                (omega arith) (tt, refl) (λ v after fall. after) tt ∙ ap (with_ticks found) skip)
          ]

-- the edges of a line give the ticks at which it changes amid a bit of its frames
pub amid_are : (u : UartSetup) (end : ℕ) (f : ℕ → Bit) (edges : List BitEdge) (found : FoundTicks)
    → AreEdgesOf (Some f ∷ None ∷ None ∷ None ∷ []) end edges
    → amid_left u (first_state end u) [] found edges
    ≡ with_ticks found (ticks_amid u (uart_annotations f end u) (filter (is_change f) (range_with_len 0 (suc end))))
amid_are u end f edges found are =
    let letter_in : List (Option Bit) → Bit = λ bits. unwrap_or (line_bit bits 0) X in
    ap (amid_left u (first_state end u) [] found) are.at_shown
    ∙ amid_of_edges u f end are.shown (λ t none. ap letter_in (are.still t none)) found
