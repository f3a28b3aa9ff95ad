-- Pieces that are written one after another, through a buffer: the parts of a text and of a line.
use Rattle.std.proofs.Common.{◌≡◌, ◌<◌, ◌≤◌, ◌+◌, ◌-◌, ◌^◌, ℕ, Bool, true, false, List, [], ◌++◌, length, take, drop}
use Rattle.std.proofs.Common.{min, sym, ap, ◌∙◌, arith, append_assoc, ◌∷◌, get_or, codes, zero, suc, refl}
use Rattle.std.specs.Prelude.{Option, Result, Ok, Err, OnOk, OnErr, IfErr}
use Rattle.std.specs.Io.KnownBytes.{Appends, Keeps}
use Rattle.std.proofs.KnownBytes.{Appends-trans}
use Rattle.std.proofs.Math.Seq.{take-add}
use Rattle.std.proofs.lemmas.List.{append-nil, length-append, length-drop, take-append-le, drop_all, drop_more}
use Rattle.std.proofs.lemmas.List.{take_all}
use Rattle.std.specs.List.{join_with_byte, flat_map, range_with_len}
use Rattle.std.proofs.lemmas.Grind.{flat_map-append}
use Rattle.vcd_core.specs.declared.device.Sink as sinks
use Rattle.vcd_core.specs.Contents.{Contents, SignalContents}
use Rattle.vcd_text.specs.declared.fault.WriteError.{WriteError}
use Rattle.vcd_text.specs.declared.fault.WriteError.TheVariants.{WriteFault}
use Rattle.vcd_text.specs.declared.writing.output.Output.{Output}
use Rattle.vcd_text.specs.WriteEnds.{TookBefore}
use Rattle.vcd_text.specs.EmittedText.{HasEmitted, Emits, EmitsMore}
use Rattle.vcd_text.specs.Items.{end_word}
use Rattle.vcd_text.specs.inside.writing.Lines.{spaced_words}
use Rattle.vcd_text.specs.Text.{first_items, items_of, item_line, text, tick_items}
use Rattle.vcd_text.specs.inside.writing.Transitions.{items_of_ticks}
use Rattle.vcd_text.specs.inside.writing.Declarations.{declarations_text}

-- ==== pieces that are written one after another, through a buffer

-- a part from the front of the rest is written
carried : (out part rest left whole : List ℕ) → left ≡ part ++ rest → out ++ left ≡ whole
    → (out ++ part) ++ rest ≡ whole
carried out part rest left whole split is = append_assoc out part rest ∙ ap (λ l. out ++ l) (sym split) ∙ is

-- two parts
pub writes_both : {W : Type 0} {sink : sinks.Ghosts W} {o0 o1 o2 : Output W} {a b : List ℕ}
    → Emits sink o0 o1 a → Emits sink o1 o2 b → Emits sink o0 o2 (a ++ b)
writes_both {sink = sink} {o2 = o2} {a = a} {b = b} first second = grind (arith, append_assoc)

-- nothing
pub writes_none : {W : Type 0} {sink : sinks.Ghosts W} {o : Output W} → Emits sink o o []
writes_none {sink = sink} {o = o} = grind (arith, append-nil)

-- the same part by another name
pub writes_as : {W : Type 0} {sink : sinks.Ghosts W} {o0 o1 : Output W} {a b : List ℕ} → a ≡ b
    → Emits sink o0 o1 a → Emits sink o0 o1 b
writes_as {sink = sink} {o0 = o0} {o1 = o1} same writes = grind arith

-- some part
pub writes_more : {W : Type 0} {sink : sinks.Ghosts W} {o0 o1 : Output W} {a : List ℕ} → Emits sink o0 o1 a
    → EmitsMore sink o0 o1
writes_more {a = a} writes = record { same_writer = writes.same_writer; part = a; appends = writes.appends }

pub writes_part : {W : Type 0} {sink : sinks.Ghosts W} {o0 o1 : Output W} → (more : EmitsMore sink o0 o1)
    → Emits sink o0 o1 more.part
writes_part more = record { same_writer = more.same_writer; appends = more.appends }

pub more_none : {W : Type 0} {sink : sinks.Ghosts W} {o : Output W} → EmitsMore sink o o
more_none = writes_more writes_none

pub more_both : {W : Type 0} {sink : sinks.Ghosts W} {o0 o1 o2 : Output W} → EmitsMore sink o0 o1
    → EmitsMore sink o1 o2 → EmitsMore sink o0 o2
more_both first second = writes_more (writes_both (writes_part first) (writes_part second))

-- whatever the result is
pub more_ended : {W T E P : Type 0} {sink : sinks.Ghosts W} {o0 o1 : Output W} (r : Result T E) → OnOk r P
    → OnErr r (EmitsMore sink o0 o1) → (P → EmitsMore sink o0 o1) → EmitsMore sink o0 o1
more_ended (Ok x) holds more known = known holds
more_ended (Err e) holds more known = more

-- ---- loops

-- a prefix of a whole is written, and the rest is left
pub record WritesPrefix {W : Type 0} (sink : sinks.Ghosts W) (old new : Output W) (left whole : List ℕ) : Type 0 where
  pub done : List ℕ
  pub writes : Emits sink old new done
  pub split : done ++ left ≡ whole

pub prefix_begun : {W : Type 0} {sink : sinks.Ghosts W} {o : Output W} {left whole : List ℕ} → left ≡ whole
    → WritesPrefix sink o o left whole
prefix_begun same = record { done = []; writes = writes_none; split = same }

pub prefix_grows : {W : Type 0} {sink : sinks.Ghosts W} {o0 o1 o2 : Output W} {part left whole : List ℕ}
    (rest : List ℕ) → WritesPrefix sink o0 o1 left whole → Emits sink o1 o2 part → left ≡ part ++ rest
    → WritesPrefix sink o0 o2 rest whole
prefix_grows {part = part} {left = left} {whole = whole} rest prefix more is = record {
  done = prefix.done ++ part;
  writes = writes_both prefix.writes more;
  split = carried prefix.done part rest left whole is prefix.split;
}

pub prefix_whole : {W : Type 0} {sink : sinks.Ghosts W} {o0 o1 : Output W} {left whole : List ℕ}
    → WritesPrefix sink o0 o1 left whole → left ≡ [] → Emits sink o0 o1 whole
prefix_whole {left = left} {whole = whole} prefix none = search (arith, writes_as, append-nil)

-- the items before one of a list are written, and then that item
pub prefix_item : {W : Type 0} {sink : sinks.Ghosts W} {o0 o1 o2 : Output W} {X : Type 0} (F : List X → List ℕ)
    (xs : List X) (k : ℕ) (x : X) {part whole : List ℕ} → WritesPrefix sink o0 o1 (F (drop k xs)) whole
    → Emits sink o1 o2 part → k < length xs → x ≡ get_or xs k x → F (x ∷ drop (k + 1) xs) ≡ part ++ F (drop (k + 1) xs)
    → WritesPrefix sink o0 o2 (F (drop (k + 1) xs)) whole
prefix_item F xs k x prefix more within is split = grind (arith, prefix_grows, drop_more)

-- ---- the buffer

-- bytes after those that were sent are sent
sent_bytes : (before t0 t1 : Option (List ℕ)) (f0 : Bool) (n k : ℕ) (text bytes : List ℕ)
    → (f0 ≡ false → drop n text ≡ bytes) → (f0 ≡ true → k ≡ 0)
    → Appends before t0 (take n text) → Appends t0 t1 (take k bytes) → Appends before t1 (take (n + k) text)
sent_bytes before t0 t1 false n k text bytes is none prefix more = grind (arith, take-add, Appends-trans)
sent_bytes before t0 t1 true n k text bytes is none prefix more = grind (arith, append-nil, Appends-trans)

-- nothing is left after the bytes sent
none_left : (f0 f1 : Bool) (n k : ℕ) (whole bytes : List ℕ) → (f0 ≡ false → drop n whole ≡ bytes)
    → (f0 ≡ true → f1 ≡ true) → (f1 ≡ false → k ≡ length bytes) → f1 ≡ false → drop (n + k) whole ≡ []
none_left f0 f1 n k whole bytes is stays all ready = grind (arith, drop_all, length-drop)

-- bytes are sent that are the rest of the text with the part
pub bytes_sent : {W : Type 0} (sink : sinks.Ghosts W) (old new : Output W) (k : ℕ) (part bytes : List ℕ)
    → new.writer.ghost_name ≡ old.writer.ghost_name
    → ((n : ℕ) (text : List ℕ) → n ≤ length text → drop n text ≡ old.unsent.items → drop n (text ++ part) ≡ bytes)
    → Appends (sink.taken old.writer.now) (sink.taken new.writer.now) (take k bytes) → k ≤ length bytes
    → (sink.has_failed new.writer.now ≡ false → k ≡ length bytes) → (sink.has_failed old.writer.now ≡ true → k ≡ 0)
    → (sink.has_failed old.writer.now ≡ true → sink.has_failed new.writer.now ≡ true)
    → new.sent_count ≡ min (old.sent_count + k) (2 ^ 128 - 1) → new.unsent.items ≡ [] → Emits sink old new part
bytes_sent sink old new k part bytes same left more few all none stays counted empty = record {
  same_writer = same;
  appends = λ before text stands.
      let n = stands.sent in
      let failed = sink.has_failed old.writer.now in
      let is : failed ≡ false → drop n (text ++ part) ≡ bytes =
      λ ready. left n text stands.within (stands.rest ready) in
      let held : Appends before (sink.taken old.writer.now) (take n (text ++ part)) =
      rw (take-append-le n text part stands.within) stands.prefix in
      record {
        sent = n + k;
        within = grind (arith, length-append, length-drop);
        counted = omega (arith, counted, stands.counted);
        prefix = sent_bytes before _ _ failed n k (text ++ part) bytes is none held more;
        rest = λ ready. none_left failed _ n k (text ++ part) bytes is stays all ready ∙ sym empty;
      };
}

-- ---- the whole

-- the text since the buffer was empty
pub whole_written : {W : Type 0} {sink : sinks.Ghosts W} {old new : Output W} {whole : List ℕ} → old.unsent.items ≡ []
    → old.sent_count ≡ 0 → Emits sink old new whole → HasEmitted sink (sink.taken old.writer.now) new whole
whole_written {sink = sink} {old = old} empty none writes =
    writes.appends (sink.taken old.writer.now) [] (grind (arith, append-nil))

-- ---- the end

-- all is sent to a writer that has not failed
pub all_taken : {W : Type 0} {sink : sinks.Ghosts W} {before : Option (List ℕ)} {output : Output W}
    {text : List ℕ} → sink.has_failed output.writer.now ≡ false → output.unsent.items ≡ []
    → HasEmitted sink before output text → Appends before (sink.taken output.writer.now) text
all_taken {sink = sink} {before = before} {output = output} {text = text} ready empty stands =
    rw (take_all stands.sent text
    (omega (arith, ap (length {A = ℕ}) (stands.rest ready ∙ empty), length-drop stands.sent text))) at stands.prefix

-- a flush takes no byte
pub appends_kept : (before after later : Option (List ℕ)) (text : List ℕ) → Appends before after text
    → Keeps after later → Appends before later text
appends_kept before after later text took kept = grind arith

-- after the buffer was sent and the writer flushed, the writer took the whole text
pub flushed_whole : {W T : Type 0} {sink : sinks.Ghosts W} {before : Option (List ℕ)} {output : Output W}
    {text : List ℕ} (later : W) (r : Result T WriteError) → HasEmitted sink before output text
    → output.unsent.items ≡ [] → Keeps (sink.taken output.writer.now) (sink.taken later)
    → OnOk r (sink.has_failed output.writer.now ≡ false) → OnOk r (Appends before (sink.taken later) text)
flushed_whole {before = before} {text = text} later (Ok x) stands empty kept ready =
    appends_kept before _ _ text (all_taken ready empty stands) kept
flushed_whole later (Err e) stands empty kept ready = tt

-- or a counted prefix of it
pub failed_prefix : {W T : Type 0} {sink : sinks.Ghosts W} {before : Option (List ℕ)} {output : Output W}
    {text : List ℕ} (later : W) (r : Result T WriteError) → HasEmitted sink before output text
    → Keeps (sink.taken output.writer.now) (sink.taken later) → IfErr r (λ e. e ≡ WriteFault output.sent_count)
    → OnErr r (sink.has_failed later ≡ true)
    → IfErr r (TookBefore text before (sink.taken later) (sink.has_failed later))
failed_prefix later r stands kept is failed = grind (arith, appends_kept)

-- ==== the line of a declaration, part by part

pub joined : (w : List ℕ) (ws : List (List ℕ)) → join_with_byte 32 (w ∷ ws) ≡ w ++ spaced_words ws
joined w [] = sym (append-nil w)
joined w (v ∷ ws) = ap (λ l. w ++ (32 ∷ l)) (joined v ws)

-- words and further ones
pub writes_words : {W : Type 0} {sink : sinks.Ghosts W} {o0 o1 o2 : Output W}
    (prefix back : List (List ℕ)) → Emits sink o0 o1 (spaced_words prefix) → Emits sink o1 o2 (spaced_words back)
    → Emits sink o0 o2 (spaced_words (prefix ++ back))
writes_words prefix back first second = search (arith, writes_as, flat_map-append, writes_both)

pub writes_line : {W : Type 0} {sink : sinks.Ghosts W} {o0 o1 o2 o3 : Output W} (w : List ℕ)
    (ws : List (List ℕ)) → Emits sink o0 o1 w → Emits sink o1 o2 (spaced_words ws) → Emits sink o2 o3 (codes " $end\n")
    → Emits sink o0 o3 (join_with_byte 32 (w ∷ (ws ++ end_word ∷ [])) ++ 10 ∷ [])
writes_line w ws first middle last = grind (arith, writes_as, append_assoc, joined, flat_map-append, writes_both)

pub writes_item : {W : Type 0} {sink : sinks.Ghosts W} {o0 o1 o2 o3 : Output W} (w : List ℕ)
    (ws : List (List ℕ)) → Emits sink o0 o1 w → Emits sink o1 o2 (spaced_words ws) → Emits sink o2 o3 (codes " $end")
    → Emits sink o0 o3 (join_with_byte 32 (w ∷ (ws ++ end_word ∷ [])))
writes_item w ws first middle last = grind (arith, writes_as, append_assoc, joined, flat_map-append, writes_both)

-- ==== the parts of a text, one after another

-- the ticks one after another
pub ticks_in_turn : (signals : List SignalContents) (end t n : ℕ)
    → flat_map (tick_items signals end) (range_with_len t n) ≡ items_of_ticks signals end t n
unfolding items_of_ticks
ticks_in_turn signals end t zero = refl
ticks_in_turn signals end t (suc n) =
    ap (λ is. tick_items signals end t ++ is)
    (ap (λ u. flat_map (tick_items signals end) (range_with_len u n)) {x = t + 1} {y = suc t} (omega arith)
    ∙ ticks_in_turn signals end (suc t) n)

-- the declarations, the values at tick 0, and the rest
pub whole_text : (c : Contents) → declarations_text c ++ (flat_map item_line (first_items c.signals)
    ++ flat_map item_line (items_of_ticks c.signals c.end 1 c.end)) ≡ text c
unfolding text items_of
whole_text c =
    ap (λ ticks. declarations_text c ++ (flat_map item_line (first_items c.signals) ++ flat_map item_line ticks)) (sym
    (ticks_in_turn c.signals c.end 1 c.end)) ∙ (grind (arith, flat_map-append, append_assoc))
