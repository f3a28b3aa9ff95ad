-- The frames of a decoder that takes the edges of a UART line one at a time, compared with those of all ticks.
use Rattle.std.proofs.Common.{◌≡◌, ℕ, zero, suc, ◌+◌, ◌-◌, ◌<◌, ◌≤◌, ◌&&◌, Bool, true, false, Option}
use Rattle.std.proofs.Common.{Some, None, List, [], ◌∷◌, ◌++◌, map, length, refl, sym, ap, subst, ◌∙◌, inl, inr, ◌⊎◌}
use Rattle.std.proofs.Common.{arith, add-one, append_assoc, cond, if◌then◌else◌}
use Rattle.std.specs.Prelude.{⊤, unwrap_or, IfSome}
use Rattle.std.specs.List.{filter, range_with_len}
use Rattle.std.specs.Option.{option_or, option_to_list, option_map_or}
use Rattle.std.proofs.lemmas.Bool.{lt-leb, le-leb, eq-eqb, ne_eqb, cases_lt, cases_eq, cases_Bool, cond_both}
use Rattle.std.proofs.lemmas.List.{length-append}
use Rattle.std.proofs.lemmas.List.FromFn.{map-range_with_len_more}
use Rattle.vcd_core.specs.declared.bit.Bit.{Bit}
use Rattle.vcd_core.specs.declared.bit.Bit.TheVariants.{X}
use Rattle.vcd_core.specs.declared.bit_edges.BitEdge.{BitEdge}
use Rattle.vcd_decode.specs.declared.annotation.Annotation.{Annotation}
use Rattle.vcd_decode.specs.declared.annotation.Kind.TheVariants.{CutOff}
use Rattle.vcd_decode.specs.UartSetup.{UartSetup}
use Rattle.vcd_decode.specs.Lines.{is_zero, is_one, annotation, letter_before}
use Rattle.vcd_decode.specs.LineEdges.{line_edge, AreEdgesOf}
use Rattle.vcd_decode.specs.Uart.{sample_tick, last_bit, frame_kind, frame_letters, begun_frame, frames}
use Rattle.vcd_decode.specs.Uart.{uart_annotations}
use Rattle.vcd_decode.specs.Uart as uart
use Rattle.vcd_decode.specs.inside.UartFrames.{is_fall}
use Rattle.vcd_decode.specs.inside.UartFrames.{zero_start, open_falls, more_letters, letters_through}
use Rattle.vcd_decode.specs.inside.UartFrames.{whole_frame, UartState, settled, frame_of, uart_annotations_left}
use Rattle.vcd_decode.specs.inside.UartFrames.{start_unless_whole, letters_unless_whole, frame_through}
use Rattle.vcd_decode.specs.inside.UartFrames.{letters_beside, cut_off_frame, falls_with, state_with_letter}
use Rattle.vcd_decode.specs.inside.PartialWord.{line_bit}
use Rattle.vcd_decode.proofs.shared.Falls.{offsets_rise, whole, cut_later, cut_in_start_bit, glitch, never_both}

module _ (f : ℕ → Bit) (end : ℕ) (u : UartSetup) where
  abbrev pub begun : ℕ → Option Annotation
  begun = begun_frame f end u

  -- ---- a frame whose start bit is 0

  -- the letters of its bits that are sampled through a tick; the next bit is sampled from a tick on
  pub record IsOpenFrame (s from through : ℕ) (letters : List Bit) : Type 0 where
    pub low : is_zero (f (sample_tick u s 0)) ≡ true
    pub within : sample_tick u s 0 ≤ end
    pub few : length letters ≤ last_bit u
    pub are : letters ≡ map (λ bit. f (sample_tick u s bit)) (range_with_len 1 (length letters))
    pub past : sample_tick u s (length letters) ≤ through
    pub next : length letters < last_bit u → from ≤ sample_tick u s (length letters + 1)

  module _ (s from through : ℕ) (b : Bit) (same : (v : ℕ) → from ≤ v → v ≤ through → f v ≡ b) where
    -- with all letters that are sampled through a later tick
    sampled : (bits : ℕ) (letters : List Bit) → length letters + bits ≡ last_bit u
        → IsOpenFrame s from through letters
        → IsOpenFrame s (suc through) through (more_letters u b s through bits letters)
    unfolding more_letters
    sampled zero letters all under = record {
      low = under.low;
      within = under.within;
      few = under.few;
      are = under.are;
      past = under.past;
      next = λ less. absurd (omega (arith, less, all));
    }
    sampled (suc bits) letters all under =
        elim (cases_lt through (sample_tick u s (length letters + 1))) [
          | inl later ↦ rw (lt-leb (sample_tick u s (length letters + 1)) through later) (record {
            low = under.low;
            within = under.within;
            few = under.few;
            are = under.are;
            past = under.past;
            next = λ less. omega (arith, later);
          })
          | inr taken ↦
              let longer : List Bit = letters ++ b ∷ [] in
              let count : length longer ≡ length letters + 1 = length-append letters (b ∷ []) in
              let letter : f (sample_tick u s (length letters + 1)) ≡ b =
              same (sample_tick u s (length letters + 1)) (under.next (omega (arith, all))) taken in
              let line : ℕ → Bit = λ bit. f (sample_tick u s bit) in
              rw (le-leb (sample_tick u s (length letters + 1)) through taken)
              (sampled bits longer (omega (arith, count, all)) (record {
                low = under.low;
                within = under.within;
                few = omega (arith, count, all);
                are = (λ i. under.are i ++ sym letter i ∷ [])
                    ∙ sym (map-range_with_len_more line 1 (length letters) (length letters + 1) (omega arith))
                    ∙ ap (λ n. map line (range_with_len 1 n)) (sym count);
                past = subst (λ n. sample_tick u s n ≤ through) (sym count) taken;
                next = λ less. omega (
                  arith,
                  under.next (omega (arith, all)),
                  offsets_rise u (length letters + 1) (length longer + 1) (omega (arith, count)),
                );
              }))
        ]

    -- the frame is whole
    pub record IsWholeFrame (letters : List Bit) : Type 0 where
      pub frame : Annotation
      pub is_whole : whole_frame u s through letters ≡ Some frame
      pub is_begun : begun s ≡ Some frame
      pub past : frame.end ≤ through

    -- it is, or it goes on
    whole_or_open : (letters : List Bit) → through ≤ end → IsOpenFrame s from through letters
        → IsWholeFrame (letters_through u b s through letters)
        ⊎ ((whole_frame u s through (letters_through u b s through letters) ≡ None)
        × IsOpenFrame s (suc through) through (letters_through u b s through letters)
        × (length (letters_through u b s through letters) < last_bit u))
    whole_or_open letters known under =
        let all : List Bit = letters_through u b s through letters in
        let after : IsOpenFrame s (suc through) through all =
        sampled (last_bit u - length letters) letters (omega (arith, under.few)) under in
        elim (cases_eq (length all) (last_bit u)) [
          | inl full ↦
              let past : sample_tick u s (last_bit u) ≤ through =
              subst (λ n. sample_tick u s n ≤ through) full after.past in
              let line : ℕ → Bit = λ bit. f (sample_tick u s bit) in
              let are : all ≡ frame_letters f u s =
              after.are ∙ ap (λ n. map line (range_with_len 1 n)) full in
              inl (record {
                frame = annotation s (sample_tick u s (last_bit u)) (frame_kind u all);
                is_whole = rw (
                  eq-eqb (length all) (last_bit u) full,
                  le-leb (sample_tick u s (last_bit u)) through past,
                )
                    refl;
                is_begun = whole f end u s after.within after.low (omega (arith, past, known))
                    ∙ ap (λ ls. Some (annotation s (sample_tick u s (last_bit u)) (frame_kind u ls))) (sym are);
                past = past;
              })
          | inr short ↦ inr (rw (ne_eqb (length all) (last_bit u) short) refl, after, omega (arith, short, after.few))
        ]

  -- ---- the frames that falls begin

  abbrev pub frames_from : ℕ → List ℕ → List Annotation
  frames_from = frames begun

  -- the first of some falls
  frame_first : (taken s : ℕ) (rest : List ℕ) → taken < s → frames_from taken (s ∷ rest)
      ≡ option_to_list (begun s) ++ frames_from (option_map_or (λ a. a.end) (begun s) taken) rest
  unfolding frames
  frame_first taken s rest past = rw (lt-leb s taken past) refl

  -- a fall that begins a frame
  frame_begun : (taken s : ℕ) (rest : List ℕ) (frame : Annotation) → taken < s → begun s ≡ Some frame
      → frames_from taken (s ∷ rest) ≡ frame ∷ frames_from frame.end rest
  frame_begun taken s rest frame past is = frame_first taken s rest past
      ∙ ap (λ (o : Option Annotation). option_to_list o ++ frames_from (option_map_or (λ a. a.end) o taken) rest) is

  -- one that begins none
  frame_none : (taken s : ℕ) (rest : List ℕ) → taken < s → begun s ≡ None
      → frames_from taken (s ∷ rest) ≡ frames_from taken rest
  frame_none taken s rest past is = frame_first taken s rest past
      ∙ ap (λ (o : Option Annotation). option_to_list o ++ frames_from (option_map_or (λ a. a.end) o taken) rest) is

  -- falls that rise from after `low` up to `top`, whose start bits are sampled from a tick on
  abbrev pub AreWaiting : (low top from : ℕ) → List ℕ → Type 0
  AreWaiting low top from [] = ⊤
  AreWaiting low top from (s ∷ rest) =
      (low < s) × (s ≤ top) × (from ≤ sample_tick u s 0) × AreWaiting s top from rest

  waiting_since : (low later top from : ℕ) (falls : List ℕ) → low ≤ later → AreWaiting later top from falls
      → AreWaiting low top from falls
  waiting_since low later top from [] le waiting = tt
  waiting_since low later top from (s ∷ rest) le (past, within, ahead, more) = (omega arith, within, ahead, more)

  -- later falls are sampled later
  waiting_still : (low top from later : ℕ) (falls : List ℕ) → later ≤ sample_tick u low 0
      → AreWaiting low top from falls → AreWaiting low top later falls
  waiting_still low top from later [] le waiting = tt
  waiting_still low top from later (s ∷ rest) le (past, within, ahead, more) =
      (past, within, omega (arith, le, past), waiting_still s top from later rest (omega (arith, le, past)) more)

  -- falls within the frame before them begin none
  frames_within : (taken low top from : ℕ) (falls rest : List ℕ) → top ≤ taken → AreWaiting low top from falls
      → frames_from taken (falls ++ rest) ≡ frames_from taken rest
  unfolding frames
  frames_within taken low top from [] rest le waiting = refl
  frames_within taken low top from (s ∷ falls) rest le (past, within, ahead, more) =
      rw (le-leb s taken (omega (arith, within, le))) (frames_within taken s top from falls rest le more)

  -- a fall whose start bit is 0 begins a frame that extends at least to the middle of that bit
  record Begins (s : ℕ) : Type 0 where
    frame : Annotation
    is_begun : begun s ≡ Some frame
    reaches : sample_tick u s 0 ≤ frame.end

  begins : (s : ℕ) → sample_tick u s 0 ≤ end → is_zero (f (sample_tick u s 0)) ≡ true → Begins s
  begins s within low = elim (cases_lt end (sample_tick u s (last_bit u))) [
    | inl past ↦ record {
      frame = annotation s end CutOff;
      is_begun = cut_later f end u s within low past;
      reaches = within;
    }
    | inr all ↦ record {
      frame = annotation s (sample_tick u s (last_bit u)) (frame_kind u (frame_letters f u s));
      is_begun = whole f end u s within low all;
      reaches = omega (arith, offsets_rise u 0 (last_bit u) (omega arith));
    }
  ]

  -- ---- what a decoder holds

  -- the falls that may begin a frame, or the one that has begun
  abbrev pub pending : Option ℕ → List ℕ → List ℕ
  pending (Some s) falls = s ∷ falls
  pending None falls = falls

  -- the last frame ends at `taken`, the last fall is at `top`, and samples are taken through a tick
  abbrev pub IsHeld : (taken top from through : ℕ) → Option ℕ → (falls : List ℕ) → (letters : List Bit) → Type 0
  IsHeld taken top from through (Some s) falls letters =
      (taken < s) × IsOpenFrame s from through letters × (length letters < last_bit u) × (falls ≡ [])
  IsHeld taken top from through None falls letters = AreWaiting taken top from falls × (letters ≡ [])

  -- once samples are taken, the frame that is whole and those that are pending are those that were pending
  pub record IsSettled (taken top through : ℕ) (was : List ℕ) (frame : Option Annotation) (start : Option ℕ)
      (falls : List ℕ) (letters : List Bit) : Type 0 where
    pub last : ℕ
    pub held : IsHeld last top (suc through) through start falls letters
    pub given : (rest : List ℕ) → option_to_list frame ++ frames_from last (pending start falls ++ rest)
        ≡ frames_from taken (was ++ rest)
    pub since : (v : ℕ) → through < v → taken < v → last < v
    pub alone : IfSome frame (λ a. (a.end ≤ through) × (start ≡ None) × (falls ≡ []))

  -- a decoder of these parts
  abbrev pub state : Bit → List ℕ → Option ℕ → List Bit → UartState
  state b falls start letters =
      record { setup = u; end = end; letter = b; falls = falls; start = start; letters = letters }

  module _ (top from through : ℕ) (b : Bit) (same : (v : ℕ) → from ≤ v → v ≤ through → f v ≡ b)
      (risen : top ≤ from) (known : through ≤ end) where
    -- a frame under way
    frame_settled : (taken s : ℕ) (letters : List Bit) → taken < s → IsOpenFrame s from through letters →
        let all = letters_through u b s through letters in
        IsSettled taken top through (s ∷ []) (whole_frame u s through all)
        (start_unless_whole (whole_frame u s through all) (Some s)) []
        (letters_unless_whole (whole_frame u s through all) all)
    frame_settled taken s letters past under = elim (whole_or_open s from through b same letters known under) [
      | inl it ↦ rw it.is_whole (record {
        last = it.frame.end;
        held = (tt, refl);
        given = λ rest. sym (frame_begun taken s rest it.frame past it.is_begun);
        since = λ v later _. omega (arith, later, it.past);
        alone = (it.past, refl, refl);
      })
      | inr (none, after, less) ↦ rw none (record {
        last = taken;
        held = (past, after, less, refl);
        given = λ rest. refl;
        since = λ v _ later. later;
        alone = tt;
      })
    ]

    -- falls
    falls_settled : (taken : ℕ) (falls : List ℕ) → AreWaiting taken top from falls →
        let start = zero_start u b through falls in
        IsSettled taken top through falls (frame_through u b through [] start)
        (start_unless_whole (frame_through u b through [] start) start) (open_falls u b through falls)
        (letters_beside u b through [] start)
    unfolding zero_start open_falls
    falls_settled taken [] waiting = record {
      last = taken;
      held = (tt, refl);
      given = λ rest. refl;
      since = λ v _ later. later;
      alone = tt;
    }
    falls_settled taken (s ∷ falls) (past, within, ahead, more) =
        elim (cases_lt through (sample_tick u s 0)) [
          | inl later ↦ rw (lt-leb (sample_tick u s 0) through later) (record {
            last = taken;
            held = (
              (
                past,
                within,
                omega (arith, later),
                waiting_still s top from (suc through) falls
                    (omega (arith, later)) more,
              ),
              refl,
            );
            given = λ rest. refl;
            since = λ v _ later. later;
            alone = tt;
          })
          | inr taken_in ↦
              let letter : f (sample_tick u s 0) ≡ b = same (sample_tick u s 0) ahead taken_in in
              let rule = le-leb (sample_tick u s 0) through taken_in in
              elim (cases_Bool (is_zero b)) [
                | inl low ↦
                    let below : is_zero (f (sample_tick u s 0)) ≡ true = ap is_zero letter ∙ low in
                    let known_in : sample_tick u s 0 ≤ end = omega (arith, taken_in, known) in
                    let first = begins s known_in below in
                    let one = frame_settled taken s [] past (record {
                      low = below;
                      within = known_in;
                      few = omega arith;
                      are = refl;
                      past = taken_in;
                      next = λ _. omega (arith, ahead, offsets_rise u 0 1 (omega arith));
                    }) in
                    rw (rule, low) (record {
                      last = one.last;
                      held = one.held;
                      given = λ rest. one.given rest
                          ∙ frame_begun taken s rest first.frame past first.is_begun
                          ∙ ap (λ xs. first.frame ∷ xs) (sym (frames_within first.frame.end s top from falls rest
                          (omega (arith, risen, ahead, first.reaches)) more))
                          ∙ sym (frame_begun taken s (falls ++ rest) first.frame past first.is_begun);
                      since = one.since;
                      alone = one.alone;
                    })
                | inr high ↦
                    let above : is_zero (f (sample_tick u s 0)) ≡ false = ap is_zero letter ∙ high in
                    let none : begun s ≡ None = glitch f end u s (omega (arith, taken_in, known)) above in
                    let later = falls_settled taken falls
                    (waiting_since taken s top from falls (omega (arith, past)) more) in
                    rw (rule, high) (record {
                      last = later.last;
                      held = later.held;
                      given = λ rest. later.given rest ∙ sym (frame_none taken s (falls ++ rest) past none);
                      since = later.since;
                      alone = later.alone;
                    })
              ]
        ]

    -- either
    pub state_settled : (taken : ℕ) (falls : List ℕ) (start : Option ℕ) (letters : List Bit)
        → IsHeld taken top from through start falls letters →
        let after = settled (state b falls start letters) through in
        IsSettled taken top through (pending start falls) (frame_of (state b falls start letters) through) after.start
        after.falls after.letters
    state_settled taken falls None letters (waiting, none) = rw none (falls_settled taken falls waiting)
    state_settled taken falls (Some s) letters (past, under, less, none) =
        rw none (frame_settled taken s letters past under)

  -- ---- the end

  -- what is pending at the end is cut off
  pub cut_off_is : (last top : ℕ) (falls : List ℕ) (start : Option ℕ) (letters : List Bit) → top ≤ end
      → IsHeld last top (suc end) end start falls letters
      → frames_from last (pending start falls ++ []) ≡ option_to_list (cut_off_frame end falls start)
  unfolding frames
  cut_off_is last top [] None letters risen (waiting, none) = refl
  cut_off_is last top (s ∷ falls) None letters risen ((past, within, ahead, more), none) =
      frame_begun last s (falls ++ []) (annotation s end CutOff) past
      (cut_in_start_bit f end u s (omega (arith, ahead)))
      ∙ ap (λ xs. annotation s end CutOff ∷ xs) (frames_within end s top (suc end) falls [] risen more)
  cut_off_is last top falls (Some s) letters risen (past, under, less, none) =
      let cut : begun s ≡ Some (annotation s end CutOff) = cut_later f end u s under.within under.low
      (omega (arith, under.next less, offsets_rise u (length letters + 1) (last_bit u) (omega (arith, less)))) in
      rw none (frame_begun last s [] (annotation s end CutOff) past cut)

  -- a frame that is whole at the end is the last
  pub last_is : (falls : List ℕ) (start : Option ℕ) (frame : Option Annotation)
      → IfSome frame (λ a. (a.end ≤ end) × (start ≡ None) × (falls ≡ []))
      → option_to_list frame ++ option_to_list (cut_off_frame end falls start)
      ≡ option_to_list (option_or frame (cut_off_frame end falls start))
  last_is falls start None alone = refl
  last_is falls start (Some a) (_, no_start, no_fall) = rw (no_start, no_fall) refl

  -- ---- one more edge

  waiting_up_to : (low top higher from : ℕ) (falls : List ℕ) → top ≤ higher → AreWaiting low top from falls
      → AreWaiting low higher from falls
  waiting_up_to low top higher from [] le waiting = tt
  waiting_up_to low top higher from (s ∷ falls) le (past, within, ahead, more) =
      (past, omega (arith, within, le), ahead, waiting_up_to s top higher from falls le more)

  waiting_with : (low top t : ℕ) (falls : List ℕ) → top < t → low < t → AreWaiting low top t falls
      → AreWaiting low t t (falls ++ t ∷ [])
  waiting_with low top t [] below past waiting = (past, omega arith, omega arith, tt)
  waiting_with low top t (s ∷ falls) below past (after, within, ahead, more) =
      (after, omega (arith, within, below), ahead, waiting_with s top t falls below (omega (arith, within, below)) more)

  -- a frame under way extends to where its samples are taken
  record GoesOn (s t : ℕ) : Type 0 where
    frame : Annotation
    is_begun : begun s ≡ Some frame
    reaches : t ≤ frame.end

  goes_on : (s t through : ℕ) (letters : List Bit) → IsOpenFrame s t through letters → length letters < last_bit u
      → t ≤ end → GoesOn s t
  goes_on s t through letters under less known =
      let rise = offsets_rise u (length letters + 1) (last_bit u) (omega (arith, less)) in
      elim (cases_lt end (sample_tick u s (last_bit u))) [
        | inl past ↦ record {
          frame = annotation s end CutOff;
          is_begun = cut_later f end u s under.within under.low past;
          reaches = known;
        }
        | inr all ↦ record {
          frame = annotation s (sample_tick u s (last_bit u)) (frame_kind u (frame_letters f u s));
          is_begun = whole f end u s under.within under.low all;
          reaches = omega (arith, under.next less, rise);
        }
      ]

  module _ (last top p : ℕ) (b : Bit) (known : suc p ≤ end) (risen : top ≤ p) (is_before : f p ≡ b)
      (past : is_fall f (suc p) ≡ true → last < suc p) where
    -- what is held after it
    pub held_with : (falls : List ℕ) (start : Option ℕ) (letters : List Bit)
        → IsHeld last top (suc p) p start falls letters
        → IsHeld last (suc p) (suc p) (suc p) start (falls_with falls start b (f (suc p)) (suc p)) letters
    held_with falls (Some s) letters (after, under, less, none) = (
      after,
      record {
        low = under.low;
        within = under.within;
        few = under.few;
        are = under.are;
        past = omega (arith, under.past);
        next = under.next;
      },
      less,
      none,
    )
    held_with falls None letters (waiting, none) =
        let same_fall : is_fall f (suc p) ≡ is_one b && is_zero (f (suc p)) =
        ap (λ (a : Bit). is_one a && is_zero (f (suc p))) is_before in (
          cond_both (is_one b && is_zero (f (suc p))) (falls ++ suc p ∷ []) falls
              (AreWaiting last (suc p) (suc p))
              (λ fall. waiting_with last top (suc p) falls (omega (arith, risen)) (past (same_fall ∙ fall)) waiting)
              (λ _. waiting_up_to last top (suc p) (suc p) falls (omega (arith, risen)) waiting),
          none,
        )

    -- the frames that are pending then
    pub pending_with : (falls : List ℕ) (start : Option ℕ) (letters : List Bit) (rest : List ℕ)
        → IsHeld last top (suc p) p start falls letters
        → frames_from last (pending start (falls_with falls start b (f (suc p)) (suc p)) ++ rest)
        ≡ frames_from last (pending start falls ++ cond (is_fall f (suc p)) (suc p ∷ rest) rest)
    pending_with falls (Some s) letters rest (after, under, less, none) =
        let it = goes_on s (suc p) p letters under less known in
        let tick : List ℕ = suc p ∷ [] in
        let both : (fall : Bool) → frames_from it.frame.end rest
        ≡ frames_from it.frame.end (cond fall (suc p ∷ rest) rest) =
        λ fall. cond_both fall (suc p ∷ rest) rest (λ xs. frames_from it.frame.end rest ≡ frames_from it.frame.end xs)
        (λ _. sym (frames_within it.frame.end p (suc p) 0 tick rest it.reaches
        (omega arith, omega arith, omega arith, tt))) (λ _. refl) in
        rw none (frame_begun last s rest it.frame after it.is_begun
        ∙ ap (λ xs. it.frame ∷ xs) (both (is_fall f (suc p)))
        ∙ sym (frame_begun last s (cond (is_fall f (suc p)) (suc p ∷ rest) rest) it.frame after it.is_begun))
    pending_with falls None letters rest held =
        let same_fall : is_fall f (suc p) ≡ is_one b && is_zero (f (suc p)) =
        ap (λ (a : Bit). is_one a && is_zero (f (suc p))) is_before in
        ap (frames_from last) (both (is_one b && is_zero (f (suc p)))
        ∙ ap (λ fall. falls ++ cond fall (suc p ∷ rest) rest) (sym same_fall))
      where
        both : (fall : Bool) → (if fall then falls ++ suc p ∷ [] else falls) ++ rest
            ≡ falls ++ cond fall (suc p ∷ rest) rest
        both true = append_assoc falls (suc p ∷ []) rest
        both false = refl

  -- ---- all edges

  pub held_later : (taken top from p : ℕ) (falls : List ℕ) (start : Option ℕ) (letters : List Bit)
      → IsHeld taken top from p start falls letters → IsHeld taken top from (suc p) start falls letters
  held_later taken top from p falls None letters held = held
  held_later taken top from p falls (Some s) letters (past, under, less, none) = (
    past,
    record {
      low = under.low;
      within = under.within;
      few = under.few;
      are = under.are;
      past = omega (arith, under.past);
      next = under.next;
    },
    less,
    none,
  )

  abbrev pub lines : List (Option (ℕ → Bit))
  lines = Some f ∷ None ∷ None ∷ None ∷ []

  module _ (shown : ℕ → Bool) (still : (t : ℕ) → shown t ≡ false → f t ≡ letter_before f t) where
    abbrev pub edges_at : List ℕ → List BitEdge
    edges_at ticks = map (line_edge lines) (filter shown ticks)

    -- after tick p the frames that are left are those of what is pending and of the falls to come
    pub frames_left : (n p taken top from : ℕ) (b : Bit) (falls : List ℕ) (start : Option ℕ) (letters : List Bit)
        → suc p + n ≡ suc end → ((v : ℕ) → from ≤ v → v ≤ p → f v ≡ b) → from ≤ p → top ≤ from
        → IsHeld taken top from p start falls letters → ((v : ℕ) → p < v → is_fall f v ≡ true → taken < v)
        → uart_annotations_left (state b falls start letters) (edges_at (range_with_len (suc p) n))
        ≡ frames_from taken (pending start falls ++ filter (is_fall f) (range_with_len (suc p) n))
    unfolding uart_annotations_left
    frames_left zero p taken top from b falls start letters all same begun_by risen held later =
        let d : UartState = state b falls start letters in
        let rest : UartState = settled d end in
        let last : p ≡ end = omega (arith, all) in
        let it = state_settled top from end b (λ v after known. same v after (omega (arith, known, last))) risen
        (omega arith) taken falls start letters
        (subst (λ q. IsHeld taken top from q start falls letters) last held) in
        sym (last_is rest.falls rest.start (frame_of d end) it.alone)
        ∙ ap (λ xs. option_to_list (frame_of d end) ++ xs)
        (sym (cut_off_is it.last top rest.falls rest.start rest.letters (omega (arith, risen, begun_by, last)) it.held))
        ∙ it.given []
    frames_left (suc n) p taken top from b falls start letters all same begun_by risen held later =
        let next = add-one (suc p) in
        let ticks : List ℕ = range_with_len (suc (suc p)) n in
        let falls_later : List ℕ = filter (is_fall f) ticks in
        elim (cases_Bool (shown (suc p))) [
          | inl at ↦
              let d : UartState = state b falls start letters in
              let rest : UartState = settled d p in
              let letter : Bit = f (suc p) in
              let known : suc p ≤ end = omega (arith, all) in
              let it = state_settled top from p b same risen (omega (arith, known)) taken falls start letters held in
              let before : f p ≡ b = same p begun_by (omega arith) in
              let past : is_fall f (suc p) ≡ true → it.last < suc p =
              λ fall. it.since (suc p) (omega arith) (later (suc p) (omega arith) fall) in
              let below : top ≤ p = omega (arith, risen, begun_by) in
              let tick : suc p - 1 ≡ p = omega arith in
              let left = frames_left n (suc p) it.last (suc p) (suc p) letter
              (falls_with rest.falls rest.start b letter (suc p)) rest.start rest.letters (omega (arith, all))
              (λ v after upto. ap f (let e : v ≡ suc p = omega (arith, after, upto) in e)) (omega arith) (omega arith)
              (held_with it.last top p b known below before past rest.falls rest.start rest.letters it.held)
              (λ v after fall. it.since v (omega (arith, after)) (later v (omega (arith, after)) fall)) in
              rw (at, next) (
              (λ i. option_to_list (frame_of d (tick i))
              ++ uart_annotations_left (state_with_letter (settled d (tick i)) letter (suc p)) (edges_at ticks))
              ∙ ap (λ xs. option_to_list (frame_of d p) ++ xs)
              (left ∙ pending_with it.last top p b known below before past rest.falls rest.start rest.letters
              falls_later it.held)
              ∙ it.given (cond (is_fall f (suc p)) (suc p ∷ falls_later) falls_later)
              )
          | inr none ↦
              let keeps : f (suc p) ≡ f p = still (suc p) none in
              let no_fall : is_fall f (suc p) ≡ false =
              ap (λ (a : Bit). is_one (f p) && is_zero a) keeps ∙ never_both (f p) in
              let same_later : (v : ℕ) → from ≤ v → v ≤ suc p → f v ≡ b = λ v after upto. elim (cases_eq v (suc p)) [
                | inl here ↦ ap f here ∙ keeps ∙ same p begun_by (omega arith)
                | inr apart ↦ same v after (omega (arith, upto, apart))
              ] in
              rw (none, no_fall, next)
              (frames_left n (suc p) taken top from b falls start letters (omega (arith, all)) same_later
              (omega (arith, begun_by)) risen (held_later taken top from p falls start letters held)
              (λ v after fall. later v (omega (arith, after)) fall))
        ]

    -- all frames
    frames_of_edges : uart_annotations_left (state X [] None []) (edges_at (range_with_len 0 (suc end)))
        ≡ uart_annotations f end u
    unfolding uart_annotations_left uart_annotations uart.falls zero_start open_falls
    frames_of_edges = elim (cases_Bool (shown 0)) [
      | inl at ↦ rw at (frames_left end 0 0 0 0 (f 0) [] None [] (omega arith)
          (λ v after upto. ap f (let e : v ≡ 0 = omega (arith, upto) in e)) (omega arith) (omega arith) (tt, refl)
          (λ v after fall. after))
      | inr none ↦ rw none (frames_left end 0 0 0 0 X [] None [] (omega arith)
          (λ v after upto. ap f (let e : v ≡ 0 = omega (arith, upto) in e) ∙ still 0 none) (omega arith) (omega arith)
          (tt, refl) (λ v after fall. after))
    ]

-- the edges of a line give the frames of all ticks
pub frames_are : (u : UartSetup) (end : ℕ) (f : ℕ → Bit) (edges : List BitEdge)
    → AreEdgesOf (Some f ∷ None ∷ None ∷ None ∷ []) end edges
    → uart_annotations_left (state f end u X [] None []) edges ≡ uart_annotations f end u
frames_are u end f edges are =
    let letter_in : List (Option Bit) → Bit = λ bits. unwrap_or (line_bit bits 0) X in
    ap (uart_annotations_left (state f end u X [] None [])) are.at_shown
    ∙ frames_of_edges f end u are.shown (λ t none. ap letter_in (are.still t none))
