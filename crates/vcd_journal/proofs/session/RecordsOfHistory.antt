-- The records of a session and the captures that they reach.
use Rattle.std.proofs.Common.{◌≡◌, ◌<◌, ◌≤◌, ◌+◌, ℕ, suc, List, [], ◌∷◌, ◌-◌, length, take, refl, sym, ◌∙◌, ap, subst}
use Rattle.std.proofs.Common.{inr, arith}
use Rattle.std.proofs.lemmas.List.{length-take}
use Rattle.vcd_core.specs.Contents.{Contents}
use Rattle.circular_buffer.specs.Buffer.{Buffer}
use Rattle.vcd_edit.specs.declared.edit.Edit.{Edit}
use Rattle.vcd_edit.specs.Effect.{effect}
use Rattle.vcd_edit.specs.RecordView.{RecordView}
use Rattle.vcd_edit.specs.AppliedRecords.{apply_record, Fits}
use Rattle.vcd_journal.specs.declared.step.Step.TheVariants as steps
use Rattle.vcd_journal.specs.declared.step.StepError.TheVariants.{NoMemory}
use Rattle.vcd_journal.specs.declared.step.Answer.TheVariants.{Refused}
use Rattle.vcd_journal.specs.Machine.{Machine, machine_after_edit, machine_after_depth, IsStep}
use Rattle.vcd_journal.specs.inside.Rings.{AllRecordsFit, FirstMayNeedMemory, AreSessionRings}
use Rattle.vcd_journal.specs.ReachedCaptures.{reached_captures}

-- a capture for each record
pub length_reached_captures : (c : Contents) (rs : List RecordView) → length (reached_captures c rs) ≡ length rs
length_reached_captures c [] = refl
length_reached_captures c (r ∷ rs) = ap suc (length_reached_captures (apply_record r c) rs)

-- the newest records reach the nearest captures
pub reached_captures_take : (c : Contents) (n : ℕ) (rs : List RecordView)
    → reached_captures c (take n rs) ≡ take n (reached_captures c rs)
reached_captures_take c (suc n) (r ∷ rs) =
    ap (λ (cs : List Contents). apply_record r c ∷ cs) (reached_captures_take (apply_record r c) n rs)
reached_captures_take c n rs = refl

-- the newest of records that fit also fit
pub AllRecordsFit_take : (c : Contents) (n : ℕ) (rs : List RecordView) → AllRecordsFit c rs
    → AllRecordsFit c (take n rs)
AllRecordsFit_take c (suc n) (r ∷ rs) fit = (fit.0, AllRecordsFit_take (apply_record r c) n rs fit.1)
AllRecordsFit_take c n rs fit = tt

-- a session can reach as many captures as it has records
pub few_captures : (c : Contents) (past future : Buffer RecordView) (depth : ℕ) → AreSessionRings c past future depth
    → length (reached_captures c past.items) + length (reached_captures c future.items) ≤ depth
few_captures c past future depth held =
    rw (length_reached_captures c past.items, length_reached_captures c future.items) (held.few)

-- the machine of a session with these records
abbrev pub machine_of : Contents → List RecordView → List RecordView → ℕ → Machine
machine_of c past future depth =
    record { past = reached_captures c past; now = c; future = reached_captures c future; depth = depth }

pub same_machine : (c d : Contents) (past past_then future future_then : List RecordView) (depth : ℕ) → d ≡ c
    → past_then ≡ past → future_then ≡ future →
    machine_of d past_then future_then depth ≡ machine_of c past future depth
same_machine c d past past_then future future_then depth capture back forth =
    λ i. machine_of (capture i) (back i) (forth i) depth

-- ---- edits

-- an edit adds the capture before it to the past
pub past_after_edit : (before after : Contents) (r : RecordView) (rs : List RecordView) (n : ℕ)
    → apply_record r after ≡ before
    → reached_captures after (take n (r ∷ rs)) ≡ take n (before ∷ reached_captures before rs)
past_after_edit before after r rs n leads = reached_captures_take after n (r ∷ rs)
    ∙ ap (λ (c : Contents). take n (c ∷ reached_captures c rs)) leads

-- its record fits
pub fit_after_edit : (before after : Contents) (r : RecordView) (rs : List RecordView) (n : ℕ)
    → apply_record r after ≡ before → Fits r after → AllRecordsFit before rs → AllRecordsFit after (take n (r ∷ rs))
fit_after_edit before after r rs n leads fits fit =
    AllRecordsFit_take after n (r ∷ rs) (fits, subst (λ (c : Contents). AllRecordsFit c rs) (sym leads) fit)

-- at most n records are kept
pub few_after_edit : (r : RecordView) (rs : List RecordView) (n : ℕ) → length (take n (r ∷ rs)) ≤ n
few_after_edit r rs n = let kept = length-take n (r ∷ rs) in omega (arith, kept)

-- the machine after an edit
pub machine_of_edit : (e : Edit) (before after : Contents) (r : RecordView) (rs fs : List RecordView) (depth : ℕ)
    → after ≡ effect e before → apply_record r after ≡ before →
    machine_of after (take depth (r ∷ rs)) [] depth ≡ machine_after_edit e (machine_of before rs fs depth)
machine_of_edit e before after r rs fs depth forth leads =
    ap (λ (cs : List Contents). record { past = cs; now = after; future = []; depth = depth })
    (past_after_edit before after r rs depth leads)
    ∙ ap (λ (c : Contents). record {
      past = take depth (before ∷ reached_captures before rs);
      now = c;
      future = [];
      depth = depth;
    }) forth

-- ---- undo and redo without memory

pub undo_refused : (c : Contents) (past future : List RecordView) (depth : ℕ) (n : Machine) → 0 < length past
    → FirstMayNeedMemory c past → n ≡ machine_of c past future depth
    → IsStep (machine_of c past future depth) steps.Undo (Refused NoMemory) n
undo_refused c [] future depth n some needs is = absurd (omega (arith, some))
undo_refused c (r ∷ rs) future depth n some needs is =
    inr (record { needs = needs; accepted = refl; answer = refl; unchanged = is })

pub redo_refused : (c : Contents) (past future : List RecordView) (depth : ℕ) (n : Machine) → 0 < length future
    → FirstMayNeedMemory c future → n ≡ machine_of c past future depth
    → IsStep (machine_of c past future depth) steps.Redo (Refused NoMemory) n
redo_refused c past [] depth n some needs is = absurd (omega (arith, some))
redo_refused c past (r ∷ rs) depth n some needs is =
    inr (record { needs = needs; accepted = refl; answer = refl; unchanged = is })

-- ---- another depth

pub machine_of_depth : (c : Contents) (rs fs : List RecordView) (old depth : ℕ) →
    machine_of c (take (depth - length fs) rs) fs depth ≡ machine_after_depth depth (machine_of c rs fs old)
machine_of_depth c rs fs old depth =
    ap (λ (cs : List Contents). record { past = cs; now = c; future = reached_captures c fs; depth = depth })
    (reached_captures_take c (depth - length fs) rs
    ∙ ap (λ (n : ℕ). take (depth - n) (reached_captures c rs)) (sym (length_reached_captures c fs)))
