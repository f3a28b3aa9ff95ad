-- A run of lines, seen from a line in it: those that are left, and a fault that ends it.
use Rattle.std.proofs.Common.{◌≡◌, ℕ, ◌+◌, Bool, cond, List, [], ◌∷◌, ◌++◌, Option, length, sym, subst, ◌∙◌, ap}
use Rattle.std.proofs.Common.{append_assoc, arith, add_assoc, suc, ◌-◌, ◌≤◌, take}
use Rattle.std.specs.List.{concat}
use Rattle.std.proofs.lemmas.List.{append-nil, length-append, take-append-le, take_at}
use Rattle.std.proofs.lemmas.List.Folds.{concat-append}
use Rattle.std.specs.Io.KnownBytes.{Appends, Keeps}
use Rattle.std.proofs.KnownBytes.{Appends-trans, Appends-kept}
use Rattle.std.proofs.Math.Seq.{take-append-add, take-length}
use Rattle.vcd_journal.specs.Machine.{Machine}
use Rattle.vcd_script.specs.LineRunEnds.{RunsLines, StopsInReplies, StopsInLines}
use Rattle.vcd_script.specs.SessionLines.{reply_on, is_refused_on, machine_after_line, machine_after_lines}
use Rattle.vcd_script.specs.SessionLines.{refusal_count, line_replies, AnswersLine}
use Rattle.vcd_script.specs.Script.{script_lines}
use Rattle.vcd_script.specs.declared.replies.reply.Reply.{Reply}
use Rattle.vcd_script.specs.declared.running.run_error.RunError.{RunError}
use Rattle.vcd_script.specs.declared.running.run_error.RunError.TheVariants as run_errors
use Rattle.vcd_script.specs.inside.running.RunLines.{StopsAtReply}

-- ==== a run of lines, seen from a line in it

-- after so many lines these are left on this machine; the replies so far are written, and so many
-- lines refused
pub record AreLeft (skipped : ℕ) (lines : List (List ℕ)) (old : Machine) (number : ℕ) (left : List (List ℕ))
    (now : Machine) (texts : List (List ℕ)) (count : ℕ) : Type 0 where
  pub after : machine_after_lines old lines ≡ machine_after_lines now left
  pub replies : line_replies skipped 1 old lines ≡ texts ++ line_replies skipped (number + 1) now left
  pub refused : refusal_count skipped old lines ≡ count + refusal_count skipped now left

-- the loop's invariant: the replies written so far, of so many lines and bytes
pub record RepliesSoFar (skipped : ℕ) (lines : List (List ℕ)) (old : Machine) (number : ℕ) (left : List (List ℕ))
    (now : Machine) (refused bytes : ℕ) (before after : Option (List ℕ)) : Type 0 where
  pub texts : List (List ℕ)
  pub one_each : length texts ≡ number
  pub counted : length (concat texts) ≡ bytes
  pub took : Appends before after (concat texts)
  pub are_left : AreLeft skipped lines old number left now texts refused

-- the reply to a line on a machine, and how many lines are refused after it
abbrev replied_to : (skipped number : ℕ) → List ℕ → Machine → List ℕ
replied_to skipped number line m = reply_on skipped number line m

abbrev refused_at : (skipped : ℕ) → List ℕ → Machine → ℕ
refused_at skipped line m = cond (is_refused_on skipped line m) 1 0

-- one more line
line_more : {skipped number refused : ℕ} {lines left texts : List (List ℕ)} {line : List ℕ} {old now new : Machine} →
    AreLeft skipped lines old number (line ∷ left) now texts refused → machine_after_line now line ≡ new →
    AreLeft skipped lines old (number + 1) left new (texts ++ replied_to skipped (number + 1) line now ∷ [])
    (refused + refused_at skipped line now)
unfolding machine_after_lines line_replies refusal_count
line_more {skipped} {number} {refused} {left = left} {texts} {line} {now = now} {new} so after = record {
  after = so.after ∙ ap (λ (m : Machine). machine_after_lines m left) after;
  replies = so.replies
      ∙ ap (λ (m : Machine). texts ++ replied_to skipped (number + 1) line now ∷ line_replies skipped (number + 1 + 1) m
      left) after
      ∙ sym (append_assoc texts (replied_to skipped (number + 1) line now ∷ [])
      (line_replies skipped (number + 1 + 1) new left));
  refused = so.refused
      ∙ ap (λ (m : Machine). refused + (refused_at skipped line now + refusal_count skipped m left)) after
      ∙ sym (add_assoc refused (refused_at skipped line now) (refusal_count skipped new left));
}

concat_more : (texts : List (List ℕ)) (text : List ℕ) → concat (texts ++ text ∷ []) ≡ concat texts ++ text
concat_more texts text = concat-append texts (text ∷ []) ∙ ap (λ l. concat texts ++ l) (append-nil text)

pub reply_more : {skipped number refused bytes : ℕ} {lines all left : List (List ℕ)} {line : List ℕ} {old now : Machine}
    {before between : Option (List ℕ)} →
    RepliesSoFar skipped lines old number all now refused bytes before between → all ≡ line ∷ left →
    (new : Machine) (reply : Reply) (more written : ℕ) (after : Option (List ℕ)) →
    AnswersLine skipped (number + 1) line now new reply → Appends between after reply.text.items
    → more ≡ cond reply.is_refused 1 0 → written ≡ length reply.text.items →
    RepliesSoFar skipped lines old (number + 1) left new (refused + more) (bytes + written) before after
reply_more {skipped} {number} {line = line} {now = now} {before} {between} so parts new reply more written after answers
    took counted len_is =
    let text : List ℕ = replied_to skipped (number + 1) line now in
    let is : reply.text.items ≡ text = answers.1.0 in
    let one : more ≡ refused_at skipped line now = counted ∙ ap (λ (b : Bool). cond b 1 0) answers.1.1 in
    let joined : concat (so.texts ++ text ∷ []) ≡ concat so.texts ++ text = concat_more so.texts text in
    let len : length (concat (so.texts ++ text ∷ [])) ≡ length (concat so.texts) + length text = ap length joined
    ∙ length-append (concat so.texts) text in
    let one_more : length (so.texts ++ text ∷ []) ≡ length so.texts + 1 = length-append so.texts (text ∷ []) in
    record {
      texts = so.texts ++ text ∷ [];
      one_each = one_more ∙ ap (λ n. n + 1) so.one_each;
      counted = omega (arith, len, so.counted, len_is, ap (λ (l : List ℕ). length l) is);
      took = subst (Appends before after) (sym joined)
          (Appends-trans before between after (concat so.texts) text so.took (subst (Appends between after) is took));
      are_left = rw one (line_more (rw parts at so.are_left) answers.0);
    }

-- no line is left
pub none_left : {skipped number refused bytes : ℕ} {lines left : List (List ℕ)} {old now : Machine}
    {before after : Option (List ℕ)} →
    RepliesSoFar skipped lines old number left now refused bytes before after → left ≡ []
    → RunsLines skipped lines old now refused before after
unfolding machine_after_lines line_replies refusal_count
none_left {refused = refused} so none =
    let last = rw none at so.are_left in
    let sum : refused + 0 ≡ refused = omega arith in (
      so.texts,
      so.took,
      record { after = last.after; replies = last.replies ∙ append-nil so.texts; refused = last.refused ∙ sum },
    )

-- an empty script has no line
pub no_lines : (script : List ℕ) → script ≡ [] → script_lines script ≡ []
unfolding script_lines
no_lines script none = ap script_lines none

-- ==== a run of lines that a fault ends: what the writer of the replies has taken

-- ---- texts, written one after another

module _ (replies texts rest : List (List ℕ)) (text : List ℕ) (before between after : Option (List ℕ))
    (parts : replies ≡ texts ++ text ∷ rest) (took : Appends before between (concat texts)) where
  -- memory runs out at a text: those before it are written
  none_of_text : (number line : ℕ) → length texts ≡ number → line ≡ number + 1 → Keeps between after
      → StopsInReplies replies (Appends before after) (run_errors.NoMemory line)
  none_of_text number line count at kept =
      let whole : length replies ≡ length texts + suc (length rest) =
      ap length parts ∙ length-append texts (text ∷ rest) in
      let prefix : take (line - 1) replies ≡ texts =
      ap (take (line - 1)) parts ∙ take_at texts (text ∷ rest) (line - 1) (omega (arith, at, count)) in (
        omega (arith, at),
        omega (arith, at, count, whole),
        subst (Appends before after) (ap concat (sym prefix))
            (Appends-kept before between after (concat texts) took kept),
      )

  -- the writer takes the first bytes of a text: with the texts before, these are the first bytes of all
  prefix_of_text : (bytes count written : ℕ) → length (concat texts) ≡ bytes → written ≡ bytes + count
      → count ≤ length text → Appends between after (take count text)
      → StopsInReplies replies (Appends before after) (run_errors.ReplyFault written)
  prefix_of_text bytes count written texts_bytes at within takes =
      let whole : concat replies ≡ concat texts ++ (text ++ concat rest) = ap concat parts
      ∙ concat-append texts (text ∷ rest) in
      let sum : length (concat replies) ≡ length (concat texts) + (length text + length (concat rest)) =
      ap length whole ∙ length-append (concat texts) (text ++ concat rest)
      ∙ ap (λ n. length (concat texts) + n) (length-append text (concat rest)) in
      let so_many : written ≡ length (concat texts) + count = at ∙ ap (λ n. n + count) (sym texts_bytes) in
      let prefix : take written (concat replies) ≡ concat texts ++ take count text =
      ap (λ n. take n (concat replies)) so_many ∙ ap (take (length (concat texts) + count)) whole
      ∙ take-append-add (concat texts) (text ++ concat rest) count
      ∙ ap (λ l. concat texts ++ l) (take-append-le count text (concat rest) within) in (
        omega (arith, so_many, sum, within),
        subst (Appends before after) (sym prefix)
            (Appends-trans before between after (concat texts) (take count text) took takes),
      )

  -- the writing of one text stops, and so that of all
  text_stops : (number bytes : ℕ) (e : RunError) → length texts ≡ number → length (concat texts) ≡ bytes
      → StopsAtReply (number + 1) text bytes between after e → StopsInReplies replies (Appends before after) e
  text_stops number bytes (run_errors.NoMemory line) count size stops = none_of_text number line count stops.0 stops.1
  text_stops number bytes (run_errors.ReplyFault written) count size stops =
      prefix_of_text bytes stops.0 written size stops.1 stops.2 stops.3
  text_stops number bytes e count size stops = absurd stops

-- ---- lines

-- at a line
pub line_stops : {skipped number refused bytes : ℕ} {lines all left : List (List ℕ)} {line : List ℕ} {old now : Machine}
    {before between : Option (List ℕ)} →
    RepliesSoFar skipped lines old number all now refused bytes before between → all ≡ line ∷ left →
    (after : Option (List ℕ)) (e : RunError)
    → StopsAtReply (number + 1) (reply_on skipped (number + 1) line now) bytes between after e
    → StopsInLines skipped lines old before after e
unfolding line_replies
line_stops {skipped} {number} {bytes = bytes} {lines} {left = left} {line} {old} {now} {before} {between} so parts after
    e stops =
    let here = rw parts at so.are_left in
    text_stops (line_replies skipped 1 old lines) so.texts
    (line_replies skipped (number + 1 + 1) (machine_after_line now line) left)
    (reply_on skipped (number + 1) line now) before between after here.replies so.took number bytes e so.one_each
    so.counted stops

-- after the last line, in the flush: all is written
pub flush_stops : {skipped number refused bytes : ℕ} {lines left : List (List ℕ)} {old now : Machine}
    {before between : Option (List ℕ)} →
    RepliesSoFar skipped lines old number left now refused bytes before between → left ≡ [] →
    (after : Option (List ℕ)) → Keeps between after
    → StopsInLines skipped lines old before after (run_errors.ReplyFault bytes)
unfolding line_replies
flush_stops {skipped} {bytes = bytes} {lines} {old = old} {before = before} {between} so none after kept =
    let last = rw none at so.are_left in
    let all : concat (line_replies skipped 1 old lines) ≡ concat so.texts =
    ap concat (last.replies ∙ append-nil so.texts) in
    let len : length (concat (line_replies skipped 1 old lines)) ≡ bytes = ap length all ∙ so.counted in
    let prefix : take bytes (concat (line_replies skipped 1 old lines)) ≡ concat so.texts =
    ap (λ n. take n (concat (line_replies skipped 1 old lines))) (sym len)
    ∙ take-length (concat (line_replies skipped 1 old lines)) ∙ all in (
      omega (arith, len),
      subst (Appends before after) (sym prefix) (Appends-kept before between after (concat so.texts) so.took kept),
    )
