-- The signals of lines, in a capture under edit and at their origins in the first capture.
use Rattle.std.proofs.Common.{◌≡◌, ◌∙◌, ◌≤◌, ◌<◌, ℕ, zero, suc, Bool, true, false, not, ◌||◌, if◌then◌else◌}
use Rattle.std.proofs.Common.{List, [], ◌∷◌, map, length, get_or, Option, Some, None, refl, sym, ap, subst, arith}
use Rattle.std.specs.Prelude.{nat_eq, IfSome}
use Rattle.std.specs.List.{AllByRecursion, list_any, slice_get}
use Rattle.std.specs.Option.{option_map}
use Rattle.std.proofs.lemmas.Option.{same_Some}
use Rattle.std.proofs.lemmas.Bool.Decides.{nat_tests}
use Rattle.vcd_core.specs.declared.bit.Bit.{Bit}
use Rattle.vcd_core.specs.declared.wave.Change.{Change}
use Rattle.vcd_core.specs.Value.{letter_at}
use Rattle.vcd_core.specs.Wave.{value_at}
use Rattle.vcd_core.specs.Contents.{Contents, SignalContents, no_signal, signal_at}
use Rattle.vcd_core.specs.SignalOrigins.{RiseWithin, HaveSamePlace, ComeFrom}
use Rattle.vcd_edit.specs.declared.edit.Edit.{Edit}
use Rattle.vcd_edit.specs.Effect.{signal_bit}
use Rattle.vcd_journal.specs.History.{replay}
use Rattle.vcd_script.specs.CommandSignals.{IsScalarAt}
use Rattle.vcd_hollow.specs.OtherWaves.{OtherChanges, with_other, signals_with_others, waves_read}
use Rattle.vcd_hollow.specs.Origins.{origins}
use Rattle.vcd_hollow.specs.Cuts.{cuts}
use Rattle.vcd_hollow.specs.Hollow.{emptied, filled, hollow, ReadOwn}
use Rattle.vcd_hollow.specs.HollowRun.{origins_at, AreHeard}
use Rattle.vcd_hollow.proofs.shared.Cuts.{same_place_after_cuts}
use Rattle.vcd_hollow.proofs.shared.Hollow.{hollow_outline, silent_are_cut_alone}
use Rattle.vcd_hollow.proofs.shared.HollowRuns.{have_own}
use Rattle.vcd_hollow.proofs.shared.Origins.{origins_rise, origins_fit, signals_come_from_origins}
use Rattle.vcd_hollow.proofs.shared.SameSteps.{same_count}
use Rattle.vcd_remarks.specs.DecoderLines.{bit_lines}
use Rattle.vcd_amend_run.specs.inside.StreamedLines.{is_read_by}
use Rattle.vcd_amend_run.proofs.streamed_lines.OneBitLines.{HaveOneBit}

-- ---- origins of lines

-- the lines at these positions, where they are present, have these origins
abbrev pub HaveOrigins : (origins : List ℕ) → (lines firsts : List (Option ℕ)) → Type 0
HaveOrigins os [] [] = Unit {0}
HaveOrigins os (None ∷ lines) (None ∷ firsts) = HaveOrigins os lines firsts
HaveOrigins os (Some j ∷ lines) (Some k ∷ firsts) = (slice_get os j ≡ Some k) × HaveOrigins os lines firsts
HaveOrigins os lines firsts = ⊥

pub have_origins : (os : List ℕ) (lines firsts : List (Option ℕ))
    → map (option_map (slice_get os)) lines ≡ map (option_map (λ k. Some k)) firsts → HaveOrigins os lines firsts
have_origins os [] [] same = tt
have_origins os (None ∷ lines) (None ∷ firsts) same = have_origins os lines firsts (cc)
have_origins os (Some j ∷ lines) (Some k ∷ firsts) same = (cc, have_origins os lines firsts (cc))
have_origins os lines firsts same = absurd (cc)

origin_below : (floor count : ℕ) (os : List ℕ) (j k : ℕ) → RiseWithin floor count os → slice_get os j ≡ Some k
    → k < count
origin_below floor count [] j k rise at = absurd (cc)
origin_below floor count (o ∷ os) zero k rise at = subst (λ n. n < count) (same_Some o k at) rise.1
origin_below floor count (o ∷ os) (suc j) k rise at = origin_below (suc o) count os j k rise.2 at

place_of : (c : Contents) (os : List ℕ) (ss : List SignalContents) (j k : ℕ) → ComeFrom c os ss
    → slice_get os j ≡ Some k → HaveSamePlace (get_or ss j no_signal) (signal_at c k)
place_of c [] ss j k come at = absurd (cc)
place_of c (o ∷ os) [] j k come at = absurd come
place_of c (o ∷ os) (s ∷ ss) zero k come at =
    subst (λ n. HaveSamePlace s (signal_at c n)) (same_Some o k at) come.0
place_of c (o ∷ os) (s ∷ ss) (suc j) k come at = place_of c os ss j k come.1 at

other_of : (f : ℕ → OtherChanges) (os : List ℕ) (ss : List SignalContents) (j k : ℕ) → length os ≤ length ss
    → slice_get os j ≡ Some k
    → get_or (signals_with_others (map f os) ss) j no_signal ≡ with_other (f k) (get_or ss j no_signal)
other_of f [] ss j k fits at = absurd (cc)
other_of f (o ∷ os) [] j k fits at = absurd (omega (arith, fits))
other_of f (o ∷ os) (s ∷ ss) zero k fits at = ap (λ n. with_other (f n) s) (same_Some o k at)
other_of f (o ∷ os) (s ∷ ss) (suc j) k fits at = other_of f os ss j k (omega (arith, fits)) at

-- ---- what no edit reads

or_first : (a b : Bool) → a ≡ true → (a || b) ≡ true
or_first true b is = refl
or_first false b is = absurd (cc)

or_second : (a b : Bool) → b ≡ true → (a || b) ≡ true
or_second true b is = refl
or_second false b is = is

itself : (k : ℕ) → nat_eq k k ≡ true
itself k = grind (arith, nat_tests)

listed_heard : (silent : ℕ → Bool) (ks : List ℕ) → ((k : ℕ) → list_any (nat_eq k) ks ≡ true → silent k ≡ false)
    → AreHeard silent ks
listed_heard silent [] heard = tt
listed_heard silent (k ∷ ks) heard = (
  heard k (or_first (nat_eq k k) _ (itself k)),
  listed_heard silent ks (λ j is. heard j (or_second (nat_eq j k) _ is)),
)

-- edits read their own changes if all that they read is heard
heard_read_own : (silent : ℕ → Bool) (count : ℕ) (es : List Edit)
    → ((k : ℕ) → is_read_by count es k ≡ true → silent k ≡ false) → ReadOwn (emptied silent) count es
unfolding is_read_by ReadOwn
heard_read_own silent count [] heard = tt
heard_read_own silent count (e ∷ es) heard =
    let ks : List ℕ = origins_at (origins count es) (waves_read e) in (
      have_own silent (origins count es) (waves_read e)
          (listed_heard silent ks (λ k is. heard k (or_first (list_any (nat_eq k) ks) _ is))),
      heard_read_own silent count es (λ k is. heard k (or_second (list_any (nat_eq k) ks) _ is)),
    )

filled_changes : (b : Bool) (changes : List Change) (s : SignalContents) → b ≡ true
    → (with_other (if b then Some changes else None) s).changes ≡ changes
filled_changes true changes s is = refl
filled_changes false changes s is = absurd (cc)

module _ (c : Contents) (es : List Edit) where
  abbrev os : List ℕ
  os = origins (length c.signals) es

  -- the signals that no edit reads
  abbrev unread : ℕ → Bool
  unread k = not (is_read_by (length c.signals) es k)

  unread_are_cut_alone : (j k : ℕ) → slice_get os j ≡ Some k → is_read_by (length c.signals) es k ≡ false
      → (signal_at (replay c es) j).changes ≡ (signal_at (replay c (cuts es)) k).changes
  unread_are_cut_alone j k at none =
      let d : Contents = hollow unread c in
      let after : Contents = replay c (cuts es) in
      let own = heard_read_own unread (length c.signals) es (λ n is. ap not is) in
      let same : length d.signals ≡ length c.signals = same_count d c (hollow_outline unread c) in
      let fits : length os ≤ length (replay d es).signals =
      subst (λ n. length (origins n es) ≤ length (replay d es).signals) same (origins_fit d es) in
      ap (λ (x : Contents). (signal_at x j).changes) (silent_are_cut_alone unread c es own)
      ∙ ap (λ (s : SignalContents). s.changes) (other_of (filled unread after) os (replay d es).signals j k fits at)
      ∙ filled_changes (unread k) (signal_at after k).changes (signal_at (replay d es) j) (ap not none)

  same_width : (j k : ℕ) → slice_get os j ≡ Some k → (signal_at (replay c es) j).width ≡ (signal_at c k).width
  same_width j k at = (place_of c os (replay c es).signals j k (signals_come_from_origins c es) at).2

  same_bit : (j k : ℕ) → slice_get os j ≡ Some k → is_read_by (length c.signals) es k ≡ false
      → signal_bit (replay c es) j 0 ≡ signal_bit (replay c (cuts es)) k 0
  same_bit j k at none =
      let wide = same_width j k at ∙ (same_place_after_cuts c es k).2 in
      let changes = unread_are_cut_alone j k at none in
      λ i t. letter_at (value_at (wide i) (changes i) t) 0

  -- lines that no edit reads are those of the capture after the cuts alone
  pub unread_bits : (lines firsts : List (Option ℕ)) → HaveOrigins os lines firsts
      → AllByRecursion (λ line. IfSome line (λ k. is_read_by (length c.signals) es k ≡ false)) firsts
      → bit_lines (replay c es) lines ≡ bit_lines (replay c (cuts es)) firsts
  unread_bits [] [] have none = refl
  unread_bits (None ∷ lines) (None ∷ firsts) have none =
      ap (λ (rest : List (Option (ℕ → Bit))). None ∷ rest) (unread_bits lines firsts have none.1)
  unread_bits (Some j ∷ lines) (Some k ∷ firsts) have none = λ i.
      Some (same_bit j k have.0 none.0 i) ∷ unread_bits lines firsts have.1 none.1 i
  unread_bits lines firsts have none = absurd have

  -- lines of one bit come from signals of one bit
  pub origins_are_scalars : (lines firsts : List (Option ℕ)) → HaveOrigins os lines firsts
      → HaveOneBit (replay c es) lines → AllByRecursion (λ line. IfSome line (IsScalarAt c)) firsts
  origins_are_scalars [] [] have one = tt
  origins_are_scalars (None ∷ lines) (None ∷ firsts) have one =
      (tt, origins_are_scalars lines firsts have one.1)
  origins_are_scalars (Some j ∷ lines) (Some k ∷ firsts) have one =
      let below = origin_below 0 (length c.signals) os j k (origins_rise (length c.signals) es) have.0 in
      ((below, sym (same_width j k have.0) ∙ one.0), origins_are_scalars lines firsts have.1 one.1)
  origins_are_scalars lines firsts have one = absurd have
