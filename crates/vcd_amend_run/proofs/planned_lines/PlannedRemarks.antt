-- The remarks on planned lines so far.
use Rattle.std.proofs.Common.{◌≡◌, ◌≤◌, ◌+◌, ℕ, Bool, true, false, List, [], ◌∷◌, ◌++◌, length, take, Option, Some}
use Rattle.std.proofs.Common.{None}
use Rattle.std.proofs.Common.{refl, sym, ap, subst, ◌∙◌, arith, append_assoc}
use Rattle.std.specs.Io.KnownBytes.{Appends}
use Rattle.std.proofs.KnownBytes.{Appends-trans, Appends-nil}
use Rattle.std.proofs.Math.Seq.{take-append-add, take-length}
use Rattle.std.proofs.lemmas.List.{append-nil, length-append, take-append-le}
use Rattle.vcd_core.specs.Contents.{Contents}
use Rattle.vcd_hollow.specs.Hollow.{ReadOwn, emptied, hollow}
use Rattle.vcd_journal.specs.History.{History, replay}
use Rattle.vcd_journal.specs.HistoryMachine.{machine_of}
use Rattle.vcd_journal.specs.Machine.{Machine, initial_machine}
use Rattle.vcd_remarks.specs.RemarksOfRun.{line_remarks}
use Rattle.vcd_remarks.specs.SessionRemarks.{session_remarks}
use Rattle.vcd_remarks.specs.inside.LineRemarks.{WritesOrEnds}
use Rattle.vcd_remarks.proofs.shared.RemarksOnHollow.{remarks_on_hollow}
use Rattle.vcd_script.specs.Run.{history_at}
use Rattle.vcd_script.specs.SessionLines.{machine_after_lines}
use Rattle.vcd_amend_run.specs.declared.streamed_line.StreamedLine.{StreamedLine}
use Rattle.vcd_amend_run.specs.inside.PlannedLine.{IsPlannedAs, remarks_before, remarks_after}
use Rattle.vcd_amend_run.proofs.planned_lines.LinesAfter.{AreLeftAfter, one_less, remarks_more, remarks_on_both}

-- ---- a text, and then another

-- a writer took the first bytes of a text
abbrev TookFirst : (before after : Option (List ℕ)) → List ℕ → Type 0
TookFirst before after text = (count : ℕ) × (count ≤ length text) × Appends before after (take count text)

-- also if more comes after the text
pub first_of_more : (before after : Option (List ℕ)) (text more : List ℕ) → TookFirst before after text
    → TookFirst before after (text ++ more)
first_of_more before after text more (count, few, took) = (
  count,
  omega (arith, few, length-append text more),
  subst (Appends before after) (sym (take-append-le count text more few)) took,
)

took_first : (ended : Bool) (before after : Option (List ℕ)) (text : List ℕ)
    → WritesOrEnds false ended before after text → TookFirst before after text
took_first true before after text wrote = wrote
took_first false before after text wrote =
    (length text, omega arith, subst (Appends before after) (sym (take-length text)) wrote)

-- whatever comes after what was written, the writer took the first bytes of all
pub first_of_all : (ended : Bool) (before after : Option (List ℕ)) (text more : List ℕ)
    → WritesOrEnds false ended before after text → TookFirst before after (text ++ more)
first_of_all ended before after text more wrote =
    first_of_more before after text more (took_first ended before after text wrote)

pub writes_both : (ended_between ended : Bool) (before between after : Option (List ℕ)) (text more : List ℕ)
    → WritesOrEnds false ended_between before between text → WritesOrEnds ended_between ended between after more
    → WritesOrEnds false ended before after (text ++ more)
writes_both true ended before between after text more first then =
    let all : TookFirst before after text = (
      first.0,
      first.1,
      subst (Appends before after) (append-nil (take first.0 text))
          (Appends-trans before between after (take first.0 text) [] first.2 then.1),
    ) in
    subst (λ b. WritesOrEnds false b before after (text ++ more)) (sym then.0)
    (first_of_more before after text more all)
writes_both false true before between after text more first then = (
  length text + then.0,
  omega (arith, then.1, length-append text more),
  subst (Appends before after) (sym (take-append-add text more then.0))
      (Appends-trans before between after text (take then.0 more) first then.2),
)
writes_both false false before between after text more first then =
    Appends-trans before between after text more first then

-- ---- one line

module _ (silent : ℕ → Bool) (c : Contents) (h : History) (number : ℕ) (line : List ℕ) where
  -- before its reply it has the remarks that it has on the whole capture
  pub before_on_hollow : (here : Option StreamedLine) → ReadOwn (emptied silent) (length c.signals) h.edits
      → IsPlannedAs silent c h line here
      → remarks_before number (replay (hollow silent c) h.edits) line here
      ≡ remarks_before number (replay c h.edits) line here
  before_on_hollow None own planned = remarks_on_hollow silent c h number line own planned
  before_on_hollow (Some s) own planned = refl

  both_parts : (here : Option StreamedLine) → remarks_before number (replay c h.edits) line here
      ++ remarks_after number (replay c h.edits) line here ≡ line_remarks number (replay c h.edits) line
  both_parts None = append-nil (line_remarks number (replay c h.edits) line)
  both_parts (Some s) = refl

-- ---- lines

module _ (c : Contents) (skipped depth : ℕ) (lines : List (List ℕ)) where
  abbrev first : Machine
  first = initial_machine c depth

  -- the remarks on the first lines are written, or ended
  abbrev pub RemarkedSoFar : (number : ℕ) → (ended : Bool) → (before after : Option (List ℕ)) → Type 0
  RemarkedSoFar number ended before after =
      WritesOrEnds false ended before after (session_remarks 1 first (take number lines))

  pub none_remarked : (before : Option (List ℕ)) → RemarkedSoFar 0 false before before
  unfolding session_remarks
  none_remarked before = Appends-nil before

  -- the first bytes of these are the first bytes of all remarks
  first_of_lines : (number : ℕ) (left : List (List ℕ)) (before after : Option (List ℕ)) → AreLeftAfter lines number left
      → TookFirst before after (session_remarks 1 first (take number lines))
      → TookFirst before after (session_remarks 1 first lines)
  first_of_lines number left before after so took =
      subst (TookFirst before after)
      (sym (remarks_on_both 1 first (take number lines) left) ∙ ap (session_remarks 1 first) (sym so.parts))
      (first_of_more before after (session_remarks 1 first (take number lines))
      (session_remarks (1 + length (take number lines)) (machine_after_lines first (take number lines)) left) took)

  pub remarked_in_part : (number : ℕ) (left : List (List ℕ)) (ended : Bool) (before after : Option (List ℕ))
      → AreLeftAfter lines number left → RemarkedSoFar number ended before after
      → TookFirst before after (session_remarks 1 first lines)
  remarked_in_part number left ended before after so wrote =
      first_of_lines number left before after so
      (took_first ended before after (session_remarks 1 first (take number lines)) wrote)

  module _ (silent : ℕ → Bool) (number : ℕ) (left : List (List ℕ)) (line : List ℕ) (here : Option StreamedLine)
      (so : AreLeftAfter lines number (line ∷ left))
      (same : machine_after_lines first (take number lines) ≡ machine_of c (history_at c skipped depth lines number))
      (now : Machine) (at : now ≡ machine_of (hollow silent c) (history_at c skipped depth lines number))
      (own : ReadOwn (emptied silent) (length c.signals) (history_at c skipped depth lines number).edits)
      (planned : IsPlannedAs silent c (history_at c skipped depth lines number) line here) where
    abbrev h : History
    h = history_at c skipped depth lines number

    abbrev before_reply : List ℕ
    before_reply = remarks_before (number + 1) (replay c h.edits) line here

    abbrev after_reply : List ℕ
    after_reply = remarks_after (number + 1) (replay c h.edits) line here

    -- with the remarks before the reply
    begun : (ended_between ended : Bool) (before between after : Option (List ℕ))
        → RemarkedSoFar number ended_between before between
        → WritesOrEnds ended_between ended between after (remarks_before (number + 1) now.now line here)
        → WritesOrEnds false ended before after (session_remarks 1 first (take number lines) ++ before_reply)
    begun ended_between ended before between after wrote more =
        let is : remarks_before (number + 1) now.now line here ≡ before_reply =
        ap (λ (m : Machine). remarks_before (number + 1) m.now line here) at
        ∙ before_on_hollow silent c h (number + 1) line here own planned in
        writes_both ended_between ended before between after (session_remarks 1 first (take number lines)) before_reply
        wrote (subst (WritesOrEnds ended_between ended between after) is more)

    -- the remarks on one line more
    with_line : session_remarks 1 first (take (number + 1) lines)
        ≡ (session_remarks 1 first (take number lines) ++ before_reply) ++ after_reply
    with_line =
        remarks_more so first
        ∙ ap (λ (m : Machine). session_remarks 1 first (take number lines) ++ line_remarks (number + 1) m.now line) same
        ∙ ap (λ (text : List ℕ). session_remarks 1 first (take number lines) ++ text)
        (sym (both_parts silent c h (number + 1) line here))
        ∙ sym (append_assoc (session_remarks 1 first (take number lines)) before_reply after_reply)

    pub remarked_more : (e f ended : Bool) (before a b after : Option (List ℕ))
        → RemarkedSoFar number e before a
        → WritesOrEnds e f a b (remarks_before (number + 1) now.now line here)
        → WritesOrEnds f ended b after after_reply
        → RemarkedSoFar (number + 1) ended before after
    remarked_more e f ended before a b after wrote first_part second_part =
        subst (WritesOrEnds false ended before after) (sym with_line)
        (writes_both f ended before b after (session_remarks 1 first (take number lines) ++ before_reply) after_reply
        (begun e f before a b wrote first_part) second_part)

    -- the line ends the run
    pub remarked_before_end : (e ended : Bool) (before a after : Option (List ℕ))
        → RemarkedSoFar number e before a
        → WritesOrEnds e ended a after (remarks_before (number + 1) now.now line here)
        → TookFirst before after (session_remarks 1 first lines)
    remarked_before_end e ended before a after wrote first_part =
        let some = first_of_all ended before after (session_remarks 1 first (take number lines) ++ before_reply)
        after_reply (begun e ended before a after wrote first_part) in
        let up_to : TookFirst before after (session_remarks 1 first (take (number + 1) lines)) =
        subst (TookFirst before after) (sym with_line) some in
        first_of_lines (number + 1) left before after (one_less so) up_to
