-- Runs on captures that lack the waves of silent signals: lines that ask for none have the same reply.
use Rattle.std.proofs.Common.{◌≡◌, ℕ, ◌+◌, List, [], ◌∷◌, ◌++◌, map, Option, Some, None, Result, Ok, refl, sym, ap, ◌∙◌}
use Rattle.std.proofs.Common.{zero, suc, Bool, false, if◌then◌else◌, length, take, get_or, is_err}
use Rattle.std.proofs.Common.{subst}
use Rattle.std.specs.Prelude.{codes, fold}
use Rattle.std.specs.List.{AllByRecursion, enumerate_from, cons_option, slice_get}
use Rattle.std.specs.Fmt.{decimal}
use Rattle.std.specs.Option.{option_map, option_to_list}
use Rattle.vcd_core.specs.Value.{letter_at}
use Rattle.vcd_core.specs.Contents.{Contents, SignalContents, signal_value}
use Rattle.vcd_core.specs.Outline.{without_changes, outline}
use Rattle.vcd_core.proofs.shared.Outlines.{count_in_outline}
use Rattle.vcd_text.specs.Letters.{printed_letters}
use Rattle.vcd_edit.specs.Effect.{signal_bit}
use Rattle.vcd_hollow.specs.OtherWaves.{OtherChanges, with_others, HaveOwn, waves_read}
use Rattle.vcd_hollow.proofs.shared.Outlines.{fault_is_of_outline}
use Rattle.vcd_hollow.proofs.shared.EditsWithOthers.{others_keep_outline, same_signal}
use Rattle.vcd_edit.specs.declared.edit.Edit.{Edit}
use Rattle.vcd_edit.specs.declared.fault.EditError.{EditError}
use Rattle.vcd_journal.specs.declared.step.Step.TheVariants as steps
use Rattle.vcd_journal.specs.History.{History, initial_history, replay}
use Rattle.vcd_hollow.specs.Origins.{origins}
use Rattle.vcd_hollow.specs.Cuts.{cuts}
use Rattle.vcd_hollow.specs.Hollow.{ReadOwn, emptied, filled, hollow}
use Rattle.vcd_hollow.proofs.shared.ReplaysWithOthers.{replay_keeps_outlines}
use Rattle.vcd_hollow.proofs.shared.SameSteps.{same_count}
use Rattle.vcd_hollow.proofs.shared.Hollow.{hollow_outline, replay_on_hollow, silent_are_cut_alone}
use Rattle.vcd_decode.specs.Uart.{uart_annotations}
use Rattle.vcd_decode.specs.Spi.{spi_annotations}
use Rattle.vcd_decode.specs.I2c.{i2c_annotations}
use Rattle.vcd_script.specs.declared.script.command.Command.{Command}
use Rattle.vcd_script.specs.declared.script.command.Command.TheVariants as commands
use Rattle.vcd_script.specs.declared.script.line_error.LineError.{LineError}
use Rattle.vcd_script.specs.Queries.{timescale_line, signal_line, listing, change_line}
use Rattle.vcd_script.specs.DecoderReply.{annotation_line, nibbles}
use Rattle.vcd_script.specs.ScriptCommands.{command_of_line}
use Rattle.vcd_script.specs.Reply.{edit_reply, command_reply, line_reply}
use Rattle.vcd_hollow.specs.HollowRun.{waves_asked, origins_at, AreHeard, last_edits, EditsReadOwn, HistoryIsOfOutline}
use Rattle.vcd_hollow.specs.HollowRun.{AskedIsOfOutline, ReplyWithOthers, AnswerOnHollow, RunOnHollow}
use Rattle.vcd_script.specs.Run.{history_after_command, line_answer, history_after_line, history_at}
use Rattle.vcd_hollow.proofs.shared.CommandsOfOutline.{command_is_of_outline}
use Rattle.vcd_script.proofs.shared.LawsOfRun.{AreMade, in_force_made}

-- ==== the reply to a line on a capture with other waves, none of which the line asks for

-- what holds of each item of two lists
pub all_split : {X : Type 0} (P : X → Type 0) (xs ys : List X) → AllByRecursion P (xs ++ ys)
    → AllByRecursion P xs × AllByRecursion P ys
all_split P [] ys all = (tt, all)
all_split P (x ∷ xs) ys all = let rest = all_split P xs ys all.1 in ((all.0, rest.0), rest.1)

-- ---- the listing

signal_lines : (n : ℕ) (ss : List SignalContents) →
    map (λ (p : ℕ × SignalContents). signal_line p.0 p.1) (enumerate_from n (map without_changes ss))
    ≡ map (λ (p : ℕ × SignalContents). signal_line p.0 p.1) (enumerate_from n ss)
signal_lines n [] = refl
signal_lines n (s ∷ ss) = ap (λ (rest : List (List ℕ)). signal_line n s ∷ rest) (signal_lines (n + 1) ss)

listing_of_outline : (c : Contents) (skipped : ℕ) → listing (outline c) skipped ≡ listing c skipped
listing_of_outline c skipped = λ i.
    timescale_line c.timescale ∷ (codes "end " ++ decimal c.end)
    ∷ (codes "signals " ++ decimal (count_in_outline c i)) ∷ (codes "skipped " ++ decimal skipped)
    ∷ signal_lines 0 c.signals i

module _ (others : List OtherChanges) (c : Contents) where
  abbrev replaced : Contents
  replaced = with_others others c

  same_listing : (skipped : ℕ) → listing replaced skipped ≡ listing c skipped
  same_listing skipped =
      sym (listing_of_outline replaced skipped)
      ∙ ap (λ (o : Contents). listing o skipped) (others_keep_outline others c)
      ∙ listing_of_outline c skipped

  -- ---- signals

  pub same_bits : (k : ℕ) → HaveOwn others (k ∷ []) → signal_bit replaced k 0 ≡ signal_bit c k 0
  same_bits k own = λ i t. letter_at (signal_value (same_signal others c k own.0 i) t) 0

  pub same_bits_if_there : (o : Option ℕ) → HaveOwn others (option_to_list o)
      → option_map (λ k. signal_bit replaced k 0) o ≡ option_map (λ k. signal_bit c k 0) o
  same_bits_if_there None own = refl
  same_bits_if_there (Some k) own = λ i. Some (same_bits k own i)

  -- ---- replies

  same_reply : (parsed : Result Command LineError) (skipped undoable redoable : ℕ)
      → HaveOwn others (waves_asked parsed)
      → command_reply parsed replaced skipped undoable redoable ≡ command_reply parsed c skipped undoable redoable
  same_reply (Ok (commands.Step (steps.Edit e))) skipped undoable redoable own =
      ap edit_reply (fault_is_of_outline e replaced c (others_keep_outline others c))
  same_reply (Ok commands.List) skipped undoable redoable own = λ i. Ok (same_listing skipped i)
  same_reply (Ok (commands.Value k tick)) skipped undoable redoable own = λ i.
      Ok (printed_letters (signal_value (same_signal others c k own.0 i) tick) ∷ [])
  same_reply (Ok (commands.Changes k)) skipped undoable redoable own = λ i.
      Ok (map change_line (same_signal others c k own.0 i).changes)
  same_reply (Ok (commands.Uart k setup)) skipped undoable redoable own = λ i.
      Ok (map (annotation_line (codes "uart") (nibbles setup.data_bits))
      (uart_annotations (same_bits k own i) c.end setup))
  same_reply (Ok (commands.Spi clk mosi miso cs setup)) skipped undoable redoable own =
      let last = all_split _ (option_to_list mosi ++ option_to_list miso) (option_to_list cs) own.1 in
      let first = all_split _ (option_to_list mosi) (option_to_list miso) last.0 in
      λ i. Ok (map (annotation_line (codes "spi") (nibbles setup.bits))
      (spi_annotations setup (same_bits clk (own.0, tt) i) (same_bits_if_there mosi first.0 i)
      (same_bits_if_there miso first.1 i) (same_bits_if_there cs last.1 i) c.end))
  same_reply (Ok (commands.I2c scl sda)) skipped undoable redoable own = λ i.
      Ok (map (annotation_line (codes "i2c") 2)
      (i2c_annotations (same_bits scl (own.0, tt) i) (same_bits sda own.1 i) c.end))
  same_reply parsed skipped undoable redoable own = refl

pub reply_with_others : ReplyWithOthers
unfolding line_reply
reply_with_others others c line skipped undoable redoable own =
    ap (λ (parsed : Result Command LineError). command_reply parsed (with_others others c) skipped undoable redoable)
    (command_is_of_outline (with_others others c) c line (others_keep_outline others c))
    ∙ same_reply others c (command_of_line c line) skipped undoable redoable own

-- ==== runs without the waves of silent signals

-- ---- captures of one outline

-- whether a line is refused
refused_same : (parsed : Result Command LineError) (x y : Contents) (skipped undoable redoable : ℕ)
    → outline x ≡ outline y
    → is_err (command_reply parsed x skipped undoable redoable)
    ≡ is_err (command_reply parsed y skipped undoable redoable)
refused_same (Ok (commands.Step (steps.Edit e))) x y skipped undoable redoable same =
    ap (λ (found : Option EditError). is_err (edit_reply found)) (fault_is_of_outline e x y same)
refused_same parsed x y skipped undoable redoable same = refl

module _ (c d : Contents) (same : outline c ≡ outline d) (skipped : ℕ) where
  pub command_same : (h : History) (line : List ℕ)
      → command_of_line (replay c h.edits) line ≡ command_of_line (replay d h.edits) line
  command_same h line =
      command_is_of_outline (replay c h.edits) (replay d h.edits) line (replay_keeps_outlines c d h.edits same)

  -- whether a line is refused after a history
  pub answer_same : (h : History) (line : List ℕ)
      → is_err (line_answer c skipped h line) ≡ is_err (line_answer d skipped h line)
  unfolding line_reply
  answer_same h line =
      let x : Contents = replay c h.edits in
      let y : Contents = replay d h.edits in
      ap (λ (parsed : Result Command LineError). is_err (command_reply parsed x skipped h.undoable (length h.undone)))
      (command_same h line)
      ∙ refused_same (command_of_line y line) x y skipped h.undoable (length h.undone)
      (replay_keeps_outlines c d h.edits same)

  pub next_same : (h : History) (line : List ℕ)
      → history_after_line c skipped h line ≡ history_after_line d skipped h line
  next_same h line = λ i. if answer_same h line i then h else history_after_command h (command_same h line i)

  all_same : (h : History) (lines : List (List ℕ))
      → fold (history_after_line c skipped) h lines ≡ fold (history_after_line d skipped) h lines
  all_same h [] = refl
  all_same h (line ∷ lines) =
      all_same (history_after_line c skipped h line) lines
      ∙ ap (λ (g : History). fold (history_after_line d skipped) g lines) (next_same h line)

pub history_is_of_outline : HistoryIsOfOutline
history_is_of_outline c d skipped depth lines count same =
    all_same c d same skipped (initial_history depth) (take count lines)

pub asked_is_of_outline : AskedIsOfOutline
asked_is_of_outline c d h line same =
    let asked = command_is_of_outline (replay c h.edits) (replay d h.edits) line
    (replay_keeps_outlines c d h.edits same) in
    λ i. origins_at (origins (same_count c d same i) h.edits) (waves_asked (asked i))

-- ---- what is heard keeps its own changes

-- no change in place of its own
abbrev no_change : OtherChanges
no_change = Some []

emptied_own : (silent : ℕ → Bool) (k : ℕ) → silent k ≡ false → emptied silent k ≡ None
emptied_own silent k heard = ap (λ (b : Bool). if b then no_change else None) heard

own_there : (silent : ℕ → Bool) (ks : List ℕ) (k : ℕ) (found : List ℕ)
    → AreHeard silent (cons_option (slice_get ks k) found)
    → (get_or (map (emptied silent) ks) k None ≡ None) × AreHeard silent found
own_there silent [] k found heard = (refl, heard)
own_there silent (j ∷ ks) zero found heard = (emptied_own silent j heard.0, heard.1)
own_there silent (j ∷ ks) (suc k) found heard = own_there silent ks k found heard

pub have_own : (silent : ℕ → Bool) (ks reads : List ℕ) → AreHeard silent (origins_at ks reads)
    → HaveOwn (map (emptied silent) ks) reads
have_own silent ks [] heard = tt
have_own silent ks (k ∷ reads) heard =
    let first = own_there silent ks k (origins_at ks reads) heard in (first.0, have_own silent ks reads first.1)

-- ---- one line

pub answer_on_hollow : AnswerOnHollow
answer_on_hollow silent c skipped h line own heard =
    let ks : List ℕ = origins (length c.signals) h.edits in
    ap (λ (x : Contents). line_reply line x skipped h.undoable (length h.undone))
    (replay_on_hollow silent c h.edits own)
    ∙ reply_with_others (map (emptied silent) ks) (replay c h.edits) line skipped h.undoable (length h.undone)
    (have_own silent ks (waves_asked (command_of_line (replay c h.edits) line)) heard)

-- ---- runs

module _ (silent : ℕ → Bool) (c : Contents) (skipped depth : ℕ) (lines : List (List ℕ)) where
  abbrev count : ℕ
  count = length c.signals

  abbrev at_line : ℕ → History
  at_line n = history_at c skipped depth lines n

  -- each edit that a line asks for reads no silent signal
  abbrev pub EditsAskForHeard : Type 0
  EditsAskForHeard = (n : ℕ) (e : Edit)
      → command_of_line (replay c (at_line n).edits) (get_or lines n []) ≡ Ok (commands.Step (steps.Edit e))
      → AreHeard silent (origins_at (origins count (at_line n).edits) (waves_read e))

  -- the edits in force were asked for by lines
  made_read_own : EditsAskForHeard → (n : ℕ) (es : List Edit) → AreMade c skipped depth lines n es
      → ReadOwn (emptied silent) count es
  unfolding AreMade ReadOwn
  made_read_own heard n [] made = tt
  made_read_own heard n (e ∷ es) made =
      let at = made.0 in
      let here : AreHeard silent (origins_at (origins count es) (waves_read e)) =
      subst (λ (before : List Edit). AreHeard silent (origins_at (origins count before) (waves_read e))) at.3
      (heard at.0 e at.2.0) in
      (have_own silent (origins count es) (waves_read e) here, made_read_own heard n es made.1)

  pub edits_read_own : EditsAskForHeard → EditsReadOwn silent c skipped depth lines
  edits_read_own heard n = made_read_own heard n (at_line n).edits (in_force_made c skipped depth lines n)

pub run_on_hollow : RunOnHollow
run_on_hollow silent c skipped depth lines own =
    let d : Contents = hollow silent c in
    let last : List Edit = last_edits c skipped depth lines in
    let same = λ (n : ℕ). history_is_of_outline d c skipped depth lines n (hollow_outline silent c) in
    record {
      same_histories = same;
      hollow_capture = ap (λ (h : History). replay d h.edits) (same (length lines))
          ∙ replay_on_hollow silent c last (own (length lines));
      whole_capture = silent_are_cut_alone silent c last (own (length lines))
          ∙ ap (λ (h : History). with_others (map (filled silent (replay c (cuts last)))
          (origins (length c.signals) last)) (replay d h.edits)) (sym (same (length lines)));
    }
