-- The lines of a script after the first of them: their replies, refusals, remarks and machines.
use Rattle.std.proofs.Common.{◌≡◌, ◌+◌, ℕ, cond, List, [], ◌∷◌, ◌++◌, length, take, refl, sym, ap, ◌∙◌}
use Rattle.std.proofs.Common.{append_assoc, arith, add_assoc}
use Rattle.std.specs.Prelude.{fold}
use Rattle.std.specs.List.{concat}
use Rattle.std.proofs.Math.Seq.{take-append-add}
use Rattle.std.proofs.lemmas.List.{append-nil, length-append}
use Rattle.std.proofs.lemmas.List.Sums.{fold-append}
use Rattle.vcd_core.specs.Contents.{Contents}
use Rattle.vcd_journal.specs.History.{initial_history}
use Rattle.vcd_journal.specs.Machine.{Machine}
use Rattle.vcd_remarks.specs.RemarksOfRun.{line_remarks}
use Rattle.vcd_remarks.specs.SessionRemarks.{session_remarks}
use Rattle.vcd_script.specs.Run.{history_after_line, history_at}
use Rattle.vcd_script.specs.SessionLines.{machine_after_line, machine_after_lines, line_replies, refusal_count}
use Rattle.vcd_script.specs.SessionLines.{reply_on, is_refused_on}

-- ---- machines, replies, refusals and remarks of lines before and after

pub machine_after_both : (m : Machine) (xs ys : List (List ℕ))
    → machine_after_lines m (xs ++ ys) ≡ machine_after_lines (machine_after_lines m xs) ys
unfolding machine_after_lines
machine_after_both m [] ys = refl
machine_after_both m (x ∷ xs) ys = machine_after_both (machine_after_line m x) xs ys

pub replies_to_both : (skipped number : ℕ) (m : Machine) (xs ys : List (List ℕ))
    → line_replies skipped number m (xs ++ ys)
    ≡ line_replies skipped number m xs ++ line_replies skipped (number + length xs) (machine_after_lines m xs) ys
unfolding machine_after_lines line_replies
replies_to_both skipped number m [] ys =
    let same : number + 0 ≡ number = omega arith in
    ap (λ n. line_replies skipped n m ys) (sym same)
replies_to_both skipped number m (x ∷ xs) ys =
    let same : number + 1 + length xs ≡ number + length (x ∷ xs) = omega arith in
    ap (λ (texts : List (List ℕ)). reply_on skipped number x m ∷ texts)
    (replies_to_both skipped (number + 1) (machine_after_line m x) xs ys
    ∙ ap (λ n. line_replies skipped (number + 1) (machine_after_line m x) xs
    ++ line_replies skipped n (machine_after_lines (machine_after_line m x) xs) ys) same)

refusals_of_both : (skipped : ℕ) (m : Machine) (xs ys : List (List ℕ))
    → refusal_count skipped m (xs ++ ys)
    ≡ refusal_count skipped m xs + refusal_count skipped (machine_after_lines m xs) ys
unfolding machine_after_lines refusal_count
refusals_of_both skipped m [] ys =
    let same : refusal_count skipped m ys ≡ 0 + refusal_count skipped m ys = omega arith in
    same
refusals_of_both skipped m (x ∷ xs) ys =
    ap (λ n. cond (is_refused_on skipped x m) 1 0 + n) (refusals_of_both skipped (machine_after_line m x) xs ys)
    ∙ sym (add_assoc (cond (is_refused_on skipped x m) 1 0) (refusal_count skipped (machine_after_line m x) xs)
    (refusal_count skipped (machine_after_lines (machine_after_line m x) xs) ys))

pub remarks_on_both : (number : ℕ) (m : Machine) (xs ys : List (List ℕ))
    → session_remarks number m (xs ++ ys)
    ≡ session_remarks number m xs ++ session_remarks (number + length xs) (machine_after_lines m xs) ys
unfolding machine_after_lines session_remarks
remarks_on_both number m [] ys =
    let same : number + 0 ≡ number = omega arith in
    ap (λ n. session_remarks n m ys) (sym same)
remarks_on_both number m (x ∷ xs) ys =
    let same : number + 1 + length xs ≡ number + length (x ∷ xs) = omega arith in
    ap (λ (text : List ℕ). line_remarks number m.now x ++ text)
    (remarks_on_both (number + 1) (machine_after_line m x) xs ys
    ∙ ap (λ n. session_remarks (number + 1) (machine_after_line m x) xs
    ++ session_remarks n (machine_after_lines (machine_after_line m x) xs) ys) same)
    ∙ sym (append_assoc (line_remarks number m.now x) (session_remarks (number + 1) (machine_after_line m x) xs)
    (session_remarks (number + length (x ∷ xs)) (machine_after_lines (machine_after_line m x) xs) ys))

concat_more : (texts : List (List ℕ)) (text : List ℕ) → concat (texts ++ text ∷ []) ≡ concat texts ++ text
concat_more [] text = append-nil text
concat_more (t ∷ texts) text =
    ap (λ l. t ++ l) (concat_more texts text) ∙ sym (append_assoc t (concat texts) text)

-- ---- a script of which the first lines are done

-- after the first `number` lines these are left
pub record AreLeftAfter (lines : List (List ℕ)) (number : ℕ) (left : List (List ℕ)) : Type 0 where
  pub parts : lines ≡ take number lines ++ left
  pub count : length (take number lines) ≡ number

pub all_are_left : (lines : List (List ℕ)) → AreLeftAfter lines 0 lines
all_are_left lines = record { parts = refl; count = refl }

module _ {lines : List (List ℕ)} {number : ℕ} where
  -- none is left
  pub all_done : {left : List (List ℕ)} → AreLeftAfter lines number left → left ≡ [] → take number lines ≡ lines
  all_done after none = sym (after.parts ∙ ap (λ l. take number lines ++ l) none ∙ append-nil (take number lines))

  module _ {left : List (List ℕ)} {line : List ℕ} (after : AreLeftAfter lines number (line ∷ left)) where
    -- one more is done
    pub one_more : take (number + 1) lines ≡ take number lines ++ line ∷ []
    one_more =
        ap (take (number + 1)) after.parts
        ∙ ap (λ n. take (n + 1) (take number lines ++ line ∷ left)) (sym after.count)
        ∙ take-append-add (take number lines) (line ∷ left) 1

    pub one_less : AreLeftAfter lines (number + 1) left
    one_less = record {
      parts = after.parts ∙ sym (append_assoc (take number lines) (line ∷ []) left)
          ∙ ap (λ l. l ++ left) (sym one_more);
      count = ap length one_more ∙ length-append (take number lines) (line ∷ []) ∙ ap (λ n. n + 1) after.count;
    }

    next_number : 1 + length (take number lines) ≡ number + 1
    next_number = omega (arith, after.count)

    pub machine_more : (m : Machine) → machine_after_lines m (take (number + 1) lines)
        ≡ machine_after_line (machine_after_lines m (take number lines)) line
    unfolding machine_after_lines
    machine_more m =
        ap (machine_after_lines m) one_more ∙ machine_after_both m (take number lines) (line ∷ [])

    pub history_more : (c : Contents) (skipped depth : ℕ) → history_at c skipped depth lines (number + 1)
        ≡ history_after_line c skipped (history_at c skipped depth lines number) line
    history_more c skipped depth =
        ap (fold (history_after_line c skipped) (initial_history depth)) one_more
        ∙ fold-append (history_after_line c skipped) (initial_history depth) (take number lines) (line ∷ [])

    pub replies_more : (skipped : ℕ) (m : Machine) → concat (line_replies skipped 1 m (take (number + 1) lines))
        ≡ concat (line_replies skipped 1 m (take number lines))
        ++ reply_on skipped (number + 1) line (machine_after_lines m (take number lines))
    unfolding line_replies
    replies_more skipped m =
        ap (λ (ls : List (List ℕ)). concat (line_replies skipped 1 m ls)) one_more
        ∙ ap concat (replies_to_both skipped 1 m (take number lines) (line ∷ []))
        ∙ concat_more (line_replies skipped 1 m (take number lines))
        (reply_on skipped (1 + length (take number lines)) line (machine_after_lines m (take number lines)))
        ∙ ap (λ n. concat (line_replies skipped 1 m (take number lines))
        ++ reply_on skipped n line (machine_after_lines m (take number lines))) next_number

    pub refusals_more : (skipped : ℕ) (m : Machine) → refusal_count skipped m (take (number + 1) lines)
        ≡ refusal_count skipped m (take number lines)
        + cond (is_refused_on skipped line (machine_after_lines m (take number lines))) 1 0
    unfolding refusal_count
    refusals_more skipped m =
        let none : cond (is_refused_on skipped line (machine_after_lines m (take number lines))) 1 0 + 0
        ≡ cond (is_refused_on skipped line (machine_after_lines m (take number lines))) 1 0 = omega arith in
        ap (refusal_count skipped m) one_more ∙ refusals_of_both skipped m (take number lines) (line ∷ [])
        ∙ ap (λ n. refusal_count skipped m (take number lines) + n) none

    pub remarks_more : (m : Machine) → session_remarks 1 m (take (number + 1) lines)
        ≡ session_remarks 1 m (take number lines)
        ++ line_remarks (number + 1) (machine_after_lines m (take number lines)).now line
    unfolding session_remarks
    remarks_more m =
        ap (session_remarks 1 m) one_more ∙ remarks_on_both 1 m (take number lines) (line ∷ [])
        ∙ ap (λ (text : List ℕ). session_remarks 1 m (take number lines) ++ text)
        (append-nil (line_remarks (1 + length (take number lines)) (machine_after_lines m (take number lines)).now
        line))
        ∙ ap (λ n. session_remarks 1 m (take number lines)
        ++ line_remarks n (machine_after_lines m (take number lines)).now line) next_number
