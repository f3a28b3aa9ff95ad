-- A reply that was fed in a pass over the file, and how the pass or the end of the reply stops it.
use Rattle.std.proofs.Common.{◌≡◌, ◌+◌, ℕ, Bool, true, List, [], ◌∷◌, ◌++◌, length, take, Option}
use Rattle.std.proofs.Common.{Some, None, refl, sym, ap, subst, ◌∙◌, inr, arith}
use Rattle.std.specs.Prelude.{IfSome, IfOk}
use Rattle.std.specs.Io.KnownBytes.{Appends}
use Rattle.std.proofs.KnownBytes.{Appends-trans}
use Rattle.std.proofs.lemmas.List.{length-append}
use Rattle.std.proofs.Math.Seq.{take-append-add}
use Rattle.vcd_copy.specs.CopyEnds.{ReadFails}
use Rattle.vcd_core.specs.declared.capture.TheConstants.{SIGNAL_LIMIT}
use Rattle.vcd_core.specs.declared.bit_edges.BitEdge.{BitEdge}
use Rattle.vcd_text.specs.Faults.{ShowsFault, none_shown}
use Rattle.vcd_text.specs.Refusals.{reader_failed}
use Rattle.vcd_text.specs.Words.{words_of, complete_words}
use Rattle.vcd_text.specs.declared.fault.Fault.{Fault}
use Rattle.vcd_text.specs.declared.fault.Fault.TheVariants as faults
use Rattle.vcd_text.specs.declared.fault.ReadError.{ReadError}
use Rattle.vcd_text.specs.declared.reading.TheConstants.{LONG_FILE_LIMIT}
use Rattle.vcd_remarks.specs.Remarks.{remarks_text}
use Rattle.vcd_amend_run.specs.AmendRunEnds.{counted, FailsOnceMore}
use Rattle.vcd_amend_run.specs.declared.line_pass.PassFault.{PassFault}
use Rattle.vcd_amend_run.specs.declared.line_pass.PassFault.TheVariants as pass_faults
use Rattle.vcd_amend_run.specs.declared.planned_lines.line_taken.LineTaken.{LineTaken}
use Rattle.vcd_amend_run.specs.declared.streamed_line.StreamedLine.{StreamedLine}
use Rattle.vcd_amend_run.specs.inside.FedReplies.{FinishesReply, StopsFinishing}
use Rattle.vcd_amend_run.specs.inside.LinePass.{HasLineEdges, FeedsLine, StopsInPass, StopsFor}
use Rattle.vcd_amend_run.specs.inside.FedReplies.{StreamsReply, StopsStreaming}

-- ---- a file that can't be opened

no_word : {A : Type 0} (xs ys : List A) (y : A) (zs : List A) → [] ≡ xs ++ (ys ++ y ∷ zs) → ⊥
no_word [] [] y zs is = cc
no_word [] (x ∷ ys) y zs is = cc
no_word (x ∷ xs) ys y zs is = cc

no_fault : (limit at : ℕ) (other : Fault) → ShowsFault limit (complete_words []) at other → ⊥
unfolding complete_words words_of
no_fault limit at other shows = no_word shows.whole shows.begun shows.word shows.more shows.parts

-- a read fault before the first byte
pub not_opened : (whole : Option (List ℕ))
    → FailsOnceMore whole true (record { line = 1; fault = faults.ReadFault })
not_opened None = (None, record { refused = tt; failed_reader = λ _. refl; other = λ not. absurd (not refl) })
not_opened (Some file) = (
  Some file,
  record {
    refused = reader_failed [] file refl refl refl (omega arith)
        (none_shown (no_fault SIGNAL_LIMIT) refl refl);
    failed_reader = λ _. refl;
    other = λ not. absurd (not refl);
  },
)

-- ---- the file that is opened shows its bytes

pub fails_once_more : (whole coming left : Option (List ℕ)) (failed : Bool) (e : ReadError)
    → IfSome whole (λ bytes. coming ≡ Some bytes)
    → ReadFails SIGNAL_LIMIT LONG_FILE_LIMIT coming left failed e → FailsOnceMore whole failed e
fails_once_more None coming left failed e opened fails =
    (left, record { refused = tt; failed_reader = fails.failed_reader; other = fails.other })
fails_once_more (Some file) coming left failed e opened fails =
    (left, rw opened at fails)

shown_whole : (whole coming : Option (List ℕ)) (P : List ℕ → Type 0) (file : List ℕ)
    → IfSome whole (λ bytes. coming ≡ Some bytes) → whole ≡ Some file → IfSome coming P → P file
shown_whole whole coming P file opened is holds = rw (rw is at opened) at holds

-- ---- counts of bytes

counted_more : (a b : ℕ) → counted (counted a + b) ≡ counted (a + b)
counted_more a b = omega arith

-- ---- a pass that fed the reply, and then the rest of it

module _ {F : Type 0} (text_left : F → List BitEdge → List ℕ) (remarks_left : F → List BitEdge → List (List ℕ))
    (whole coming : Option (List ℕ)) (s : StreamedLine) (opened : IfSome whole (λ bytes. coming ≡ Some bytes)) where
  module _ (before after : F) (old mid new : Option (List ℕ)) (written : ℕ)
      (fed : FeedsLine text_left remarks_left coming s before after old mid written) where
    abbrev rest : List ℕ
    rest = text_left after []

    abbrev text : List ℕ
    text = text_left before fed.edges

    edges_are : (file : List ℕ) → whole ≡ Some file → HasLineEdges file s fed.edges
    edges_are file is = shown_whole whole coming (λ file. HasLineEdges file s fed.edges) file opened is fed.are

    both : length text ≡ length fed.text + length rest
    both = sym (ap length fed.left) ∙ length-append fed.text rest

    pub streams : (taken : LineTaken) → FinishesReply rest (remarks_left after []) s.number written mid new taken
        → StreamsReply text_left remarks_left whole s before old new taken
    streams taken (took, count, told) file is = (
      fed.edges,
      edges_are file is,
      subst (Appends old new) fed.left (Appends-trans old mid new fed.text rest fed.taken took),
      count ∙ ap (λ n. counted (n + length rest)) fed.count ∙ counted_more (length fed.text) (length rest)
          ∙ ap counted (sym both),
      subst (λ (rs : List (List ℕ)). IfOk taken.remarks (λ told. told.items ≡ remarks_text s.number rs)) fed.remarks
          told,
    )

    stops_for : (read_fails : ReadError → Type 0) (replies_failed : Bool) (count : ℕ) (e : PassFault)
        → StopsFor (λ _. ⊥) replies_failed (written + count) e
        → StopsFor read_fails replies_failed (length fed.text + count) e
    stops_for read_fails replies_failed count (pass_faults.Read e) stops = absurd stops.0
    stops_for read_fails replies_failed count pass_faults.NoMemory stops = stops
    stops_for read_fails replies_failed count (pass_faults.Reply bytes) stops = (
      stops.0,
      stops.1 ∙ ap (λ n. counted (n + count)) fed.count ∙ counted_more (length fed.text) count,
    )

    pub stops_at_end : (read_fails : ReadError → Type 0) (replies_failed : Bool) (e : PassFault)
        → StopsFinishing rest written mid new replies_failed e
        → (count : ℕ) × StopsStreaming text_left remarks_left whole s before old new count
        × StopsFor read_fails replies_failed count e
    stops_at_end read_fails replies_failed e (count, few, took, stops) =
        let taken : Appends old new (fed.text ++ take count rest) =
        Appends-trans old mid new fed.text (take count rest) fed.taken took in
        let first : take (length fed.text + count) text ≡ fed.text ++ take count rest =
        ap (take (length fed.text + count)) (sym fed.left) ∙ take-append-add fed.text rest count in (
          length fed.text + count,
          inr (λ file is c skipped means. (
            fed.edges,
            edges_are file is,
            omega (arith, few, both),
            subst (Appends old new) (sym first) taken,
          )),
          stops_for read_fails replies_failed count e stops,
        )

  -- ---- a pass that ended early

  pub stops_in_pass : (reply : F) (old new left : Option (List ℕ)) (failed again_failed replies_failed : Bool)
      (e : PassFault) → again_failed ≡ failed
      → ((count : ℕ) × StopsInPass text_left remarks_left coming s reply old new count
      × StopsFor (ReadFails SIGNAL_LIMIT LONG_FILE_LIMIT coming left failed) replies_failed count e)
      → (count : ℕ) × StopsStreaming text_left remarks_left whole s reply old new count
      × StopsFor (FailsOnceMore whole again_failed) replies_failed count e
  stops_in_pass reply old new left failed again_failed replies_failed e same (count, in_part, stops) = (
    count,
    inr (λ file is. shown_whole whole coming _ file opened is in_part.prefix),
    subst (λ b. StopsFor (FailsOnceMore whole b) replies_failed count e) (sym same) (by_fault e stops),
  )
    where
      by_fault : (e : PassFault)
          → StopsFor (ReadFails SIGNAL_LIMIT LONG_FILE_LIMIT coming left failed) replies_failed count e
          → StopsFor (FailsOnceMore whole failed) replies_failed count e
      by_fault (pass_faults.Read found) stops =
          (fails_once_more whole coming left failed found opened stops.0, stops.1)
      by_fault pass_faults.NoMemory stops = stops
      by_fault (pass_faults.Reply bytes) stops = stops
