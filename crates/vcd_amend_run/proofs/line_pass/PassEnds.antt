-- The steps of a pass over a file for a line, and how it ends.
use Rattle.std.proofs.Common.{◌≡◌, ◌≤◌, ℕ, ◌+◌, Bool, true, false, List, [], ◌++◌, length, take, refl, sym, ap, subst}
use Rattle.std.proofs.Common.{◌∙◌, arith, append_assoc, Option, Some, None, Result, Ok, Err}
use Rattle.std.specs.Prelude.{IfSome, IfErr, IsErrAnd}
use Rattle.std.specs.Io.KnownBytes.{Appends}
use Rattle.std.proofs.Math.Seq.{take-append-add}
use Rattle.std.proofs.lemmas.List.{append-nil, length-append, take-append-le}
use Rattle.vcd_core.specs.declared.capture.TheConstants.{SIGNAL_LIMIT}
use Rattle.vcd_core.specs.declared.bit_edges.BitEdge.{BitEdge}
use Rattle.vcd_core.specs.Contents.{Contents}
use Rattle.vcd_text.specs.Grammar.{ParseState, initial_state}
use Rattle.vcd_text.specs.HeardChanges.{HeardChange, AreHeard, FileIsHeard, heard_all}
use Rattle.vcd_text.specs.Meaning.{FileMeans}
use Rattle.vcd_text.specs.inside.reading.ChangeStream.{HasStreamed, StreamsOn, heard_by}
use Rattle.vcd_text.specs.declared.fault.ReadError.{ReadError}
use Rattle.vcd_text.specs.declared.reading.TheConstants.{LONG_FILE_LIMIT}
use Rattle.vcd_text.specs.declared.reading.change_stream.ChangeStream.{ChangeStream}
use Rattle.vcd_decode.specs.inside.EdgeMaker.{edges_left}
use Rattle.vcd_amend_run.specs.inside.FileLines.{changes_of_heard, present}
use Rattle.vcd_amend_run.specs.AmendRunEnds.{counted}
use Rattle.vcd_amend_run.specs.inside.LinePass.{HasLineEdges, FeedsLine, StopsInPass, StopsFor}
use Rattle.vcd_amend_run.specs.inside.PassSteps.{MakesEdges, HasGivenAll, IsPassAt, IsPassOver}
use Rattle.vcd_amend_run.specs.inside.PassSteps.{changes_so_far, IsChunkFault, SendsText, FailsToSend}
use Rattle.vcd_decode.specs.declared.edge_maker.EdgeMaker.{EdgeMaker}
use Rattle.vcd_decode.specs.declared.edge_maker.LineChange.{LineChange}
use Rattle.vcd_amend_run.specs.declared.line_pass.PassFault.{PassFault}
use Rattle.vcd_amend_run.specs.declared.line_pass.PassFault.TheVariants as faults
use Rattle.vcd_amend_run.specs.declared.streamed_line.StreamedLine.{StreamedLine}
use Rattle.vcd_amend_run.proofs.line_pass.Declared.{changes_parts}
use Rattle.vcd_amend_run.proofs.line_pass.FileEdges.{file_edges}
use Rattle.vcd_amend_run.proofs.line_pass.HeardPrefix.{heard_begins, heard_so_far}

-- ---- devices and results

appends_none : (shown : Option (List ℕ)) → Appends shown shown []
appends_none None = tt
appends_none (Some xs) = sym (append-nil xs)

appends_then : (before between after : Option (List ℕ)) (first second : List ℕ) → Appends before between first
    → Appends between after second → Appends before after (first ++ second)
appends_then None between after first second one two = tt
appends_then (Some xs) None after first second one two = absurd one
appends_then (Some xs) (Some ys) None first second one two = absurd two
appends_then (Some xs) (Some ys) (Some zs) first second one two =
    two ∙ ap (λ l. l ++ second) one ∙ append_assoc xs first second

-- what is known of an error is known of a result that is this error
at_fault : {A E : Type 0} (r : Result A E) (error : E) (P : E → Type 0) → IsErrAnd r (λ e. e ≡ error) → P error
    → IfErr r P
at_fault (Ok x) error P failed holds = absurd failed
at_fault (Err e) error P failed holds = subst P (sym failed) holds

module _ {F : Type 0} (text_left : F → List BitEdge → List ℕ) (remarks_left : F → List BitEdge → List (List ℕ))
    (s : StreamedLine) (start : F) (old : Option (List ℕ)) where
  -- ---- steps

  -- nothing was read
  pub pass_begins : (maker : EdgeMaker) (waiting : List ℕ) (written : ℕ) → MakesEdges (present s.lines) maker
      → waiting ≡ [] → written ≡ 0
      → IsPassAt text_left remarks_left s (changes_so_far s (initial_state SIGNAL_LIMIT) []) maker start start old old
      waiting written
  unfolding changes_of_heard
  pass_begins maker waiting written makes none_waits none_written = record {
    first = maker;
    makes = makes;
    sent = [];
    given = record {
      text = λ more. ap (λ text. text ++ text_left start (edges_left maker more)) none_waits;
      remarks = λ more. refl;
    };
    taken = appends_none old;
    count = none_written;
  }

  -- a chunk was given
  pub chunk_given : (state later : ParseState) (heard more : List HeardChange) (from to : EdgeMaker) (now after : F)
      (new : Option (List ℕ)) (waiting longer : List ℕ) (written : ℕ)
      → AreHeard (initial_state SIGNAL_LIMIT) state heard → AreHeard state later more
      → IsPassAt text_left remarks_left s (changes_so_far s state heard) from start now old new waiting written
      → HasGivenAll text_left remarks_left (changes_so_far s later more) from to now after waiting longer
      → IsPassAt text_left remarks_left s (changes_so_far s later (heard ++ more)) to start after old new longer written
  chunk_given state later heard more from to now after new waiting longer written before are at chunk =
      let fed : List LineChange = changes_so_far s state heard in
      let next : List LineChange = changes_so_far s later more in
      let parts = changes_parts s state later more heard before are in
      let same : (rest : List LineChange) → fed ++ (next ++ rest) ≡ changes_so_far s later (heard ++ more) ++ rest =
      λ rest. sym (append_assoc fed next rest) ∙ ap (λ (cs : List LineChange). cs ++ rest) (sym parts) in
      record {
        first = at.first;
        makes = at.makes;
        sent = at.sent;
        given = record {
          text = λ rest.
              append_assoc at.sent longer (text_left after (edges_left to rest))
              ∙ ap (λ l. at.sent ++ l) (chunk.text rest)
              ∙ sym (append_assoc at.sent waiting (text_left now (edges_left from (next ++ rest))))
              ∙ at.given.text (next ++ rest)
              ∙ ap (λ cs. text_left start (edges_left at.first cs)) (same rest);
          remarks = λ rest.
              chunk.remarks rest ∙ at.given.remarks (next ++ rest)
              ∙ ap (λ cs. remarks_left start (edges_left at.first cs)) (same rest);
        };
        taken = at.taken;
        count = at.count;
      }

  -- a chunk was read and given
  pub chunk_taken : (coming middle left : Option (List ℕ)) (state : ParseState) (heard : List HeardChange)
      (before stream : ChangeStream) (more : Bool) (from to : EdgeMaker) (now after : F) (new : Option (List ℕ))
      (waiting longer : List ℕ) (written total : ℕ) → HasStreamed coming middle state heard before
      → (on : StreamsOn more coming left state heard stream)
      → IsPassAt text_left remarks_left s (changes_so_far s state heard) from start now old new waiting written
      → HasGivenAll text_left remarks_left (changes_so_far s on.later (heard_by stream)) from to now after waiting
      longer
      → total ≡ written
      → IsPassAt text_left remarks_left s (changes_so_far s on.later (heard ++ heard_by stream)) to start after old new
      longer total
  chunk_taken coming middle left state heard before stream more from to now after new waiting longer written total h on
      at chunk same =
      subst (λ n. IsPassAt text_left remarks_left s (changes_so_far s on.later (heard ++ heard_by stream)) to start
      after old new longer n) (sym same)
      (chunk_given state on.later heard (heard_by stream) from to now after new waiting longer written
      (heard_so_far coming middle state heard before h) on.heard_now at chunk)

  -- the text that waited was written
  pub text_sent : (fed : List LineChange) (maker : EdgeMaker) (now : F) (new later : Option (List ℕ))
      (waiting rest : List ℕ) (written total : ℕ)
      → IsPassAt text_left remarks_left s fed maker start now old new waiting written
      → SendsText waiting rest written total new later
      → IsPassAt text_left remarks_left s fed maker start now old later rest total
  text_sent fed maker now new later waiting rest written total at sends = record {
    first = at.first;
    makes = at.makes;
    sent = at.sent ++ waiting;
    given = subst (λ text. HasGivenAll text_left remarks_left fed at.first maker start now [] text)
        (sym (ap (λ l. (at.sent ++ waiting) ++ l) sends.none_left ∙ append-nil (at.sent ++ waiting))) at.given;
    taken = appends_then old new later at.sent waiting at.taken sends.taken;
    count = sends.counts (length at.sent) at.count ∙ ap counted (sym (length-append at.sent waiting));
  }

  -- the file was heard to its end, and the last edge was given
  pub pass_over : (coming : Option (List ℕ)) (state : ParseState) (heard : List HeardChange) (maker : EdgeMaker)
      (now after : F) (new : Option (List ℕ)) (waiting longer : List ℕ) (written : ℕ)
      → IfSome coming (λ file. (length file ≤ LONG_FILE_LIMIT) × FileIsHeard SIGNAL_LIMIT file state heard)
      → IsPassAt text_left remarks_left s (changes_so_far s state heard) maker start now old new waiting written
      → longer ++ text_left after [] ≡ waiting ++ text_left now (edges_left maker [])
      → remarks_left after [] ≡ remarks_left now (edges_left maker [])
      → IsPassOver text_left remarks_left coming s start after old new longer written
  pass_over coming state heard maker now after new waiting longer written whole at text remarks =
      let fed : List LineChange = changes_so_far s state heard in
      record {
        edges = edges_left at.first fed;
        are = all_edges coming whole;
        sent = at.sent;
        text = append_assoc at.sent longer (text_left after []) ∙ ap (λ l. at.sent ++ l) text
            ∙ sym (append_assoc at.sent waiting (text_left now (edges_left maker []))) ∙ at.given.text []
            ∙ ap (λ cs. text_left start (edges_left at.first cs)) (append-nil fed);
        remarks = remarks ∙ at.given.remarks []
            ∙ ap (λ cs. remarks_left start (edges_left at.first cs)) (append-nil fed);
        taken = at.taken;
        count = at.count;
      }
    where
      all_edges : (shown : Option (List ℕ))
          → IfSome shown (λ file. (length file ≤ LONG_FILE_LIMIT) × FileIsHeard SIGNAL_LIMIT file state heard)
          → IfSome shown (λ file. HasLineEdges file s (edges_left at.first (changes_so_far s state heard)))
      all_edges None heard_whole = tt
      all_edges (Some file) heard_whole = file_edges file state heard heard_whole.1 s at.first at.makes

  -- and its text was written
  pub line_fed : (coming : Option (List ℕ)) (now : F) (new later : Option (List ℕ)) (waiting rest : List ℕ)
      (written total : ℕ) → IsPassOver text_left remarks_left coming s start now old new waiting written
      → SendsText waiting rest written total new later
      → FeedsLine text_left remarks_left coming s start now old later total
  line_fed coming now new later waiting rest written total over sends = record {
    edges = over.edges;
    are = over.are;
    text = over.sent ++ waiting;
    taken = appends_then old new later over.sent waiting over.taken sends.taken;
    count = sends.counts (length over.sent) over.count ∙ ap counted (sym (length-append over.sent waiting));
    left = over.text;
    remarks = over.remarks;
  }

  -- ---- faults

  -- if the file is accepted, this begins the text for the edges of its lines
  abbrev pub BeginsText : (coming : Option (List ℕ)) → List ℕ → Type 0
  BeginsText coming text = IfSome coming (λ file. (c : Contents) (skipped : ℕ) → FileMeans SIGNAL_LIMIT file c skipped
      → (edges : List BitEdge) × HasLineEdges file s edges × (rest : List ℕ) × (text ++ rest ≡ text_left start edges))

  -- before the file's end
  pub text_begins : (coming left : Option (List ℕ)) (state : ParseState) (heard : List HeardChange)
      (stream : ChangeStream) (maker : EdgeMaker) (now : F) (new : Option (List ℕ)) (waiting : List ℕ) (written : ℕ)
      → HasStreamed coming left state heard stream
      → (at : IsPassAt text_left remarks_left s (changes_so_far s state heard) maker start now old new waiting written)
      → BeginsText coming (at.sent ++ waiting)
  text_begins None left state heard stream maker now new waiting written h at = tt
  text_begins (Some file) left state heard stream maker now new waiting written h at = λ c skipped means.
      let final : ParseState = means.state in
      let all = heard_all (initial_state SIGNAL_LIMIT) means.accepted.items in
      let f : FileIsHeard SIGNAL_LIMIT file final all = record { accepted = means.accepted; heard_is = refl } in
      let b = heard_begins file left state heard stream final all h f in
      let next : List LineChange = changes_so_far s final b.rest in
      let parts : changes_so_far s final all ≡ changes_so_far s state heard ++ next =
      ap (changes_so_far s final) b.parts ∙ changes_parts s state final b.rest heard b.are b.later in (
        edges_left at.first (changes_so_far s final all),
        file_edges file final all f s at.first at.makes,
        text_left now (edges_left maker next),
        at.given.text next ∙ ap (λ cs. text_left start (edges_left at.first cs)) (sym parts),
      )

  -- at the file's end
  pub text_ends : (coming : Option (List ℕ)) (state : ParseState) (heard : List HeardChange) (maker : EdgeMaker)
      (now : F) (new : Option (List ℕ)) (waiting : List ℕ) (written : ℕ)
      → IfSome coming (λ file. (length file ≤ LONG_FILE_LIMIT) × FileIsHeard SIGNAL_LIMIT file state heard)
      → (at : IsPassAt text_left remarks_left s (changes_so_far s state heard) maker start now old new waiting written)
      → BeginsText coming (at.sent ++ waiting)
  text_ends None state heard maker now new waiting written whole at = tt
  text_ends (Some file) state heard maker now new waiting written whole at = λ c skipped means. (
    edges_left at.first (changes_so_far s state heard),
    file_edges file state heard whole.1 s at.first at.makes,
    text_left now (edges_left maker []),
    at.given.text [] ∙ ap (λ cs. text_left start (edges_left at.first cs)) (append-nil (changes_so_far s state heard)),
  )

  -- after the last edge
  pub text_whole : (coming : Option (List ℕ)) (now : F) (new : Option (List ℕ)) (waiting : List ℕ) (written : ℕ)
      → (over : IsPassOver text_left remarks_left coming s start now old new waiting written)
      → BeginsText coming (over.sent ++ waiting)
  text_whole None now new waiting written over = tt
  text_whole (Some file) now new waiting written over =
      λ c skipped means. (over.edges, over.are, text_left now [], over.text)

  stops_after : (coming new : Option (List ℕ)) (sent waiting : List ℕ) (k : ℕ) → k ≤ length waiting
      → Appends old new (sent ++ take k waiting) → BeginsText coming (sent ++ waiting)
      → StopsInPass text_left remarks_left coming s start old new (length sent + k)
  stops_after None new sent waiting k within taken begins = record { prefix = tt }
  stops_after (Some file) new sent waiting k within taken begins = record {
    prefix = λ c skipped means.
        let (edges, are, rest, whole) = begins c skipped means in
        let first : take (length sent + k) (text_left start edges) ≡ sent ++ take k waiting =
        ap (take (length sent + k)) (sym whole ∙ append_assoc sent waiting rest)
        ∙ take-append-add sent (waiting ++ rest) k
        ∙ ap (λ l. sent ++ l) (take-append-le k waiting rest within) in
        let sum : length (text_left start edges) ≡ length sent + length waiting + length rest = sym (ap length whole)
        ∙ length-append (sent ++ waiting) rest ∙ ap (λ n. n + length rest) (length-append sent waiting) in
        (edges, are, omega (arith, sum, within), subst (Appends old new) (sym first) taken);
  }

  fault_of_chunk : (read_fails : ReadError → Type 0) (failed : Bool) (count : ℕ) (e : PassFault)
      → IsChunkFault read_fails e → failed ≡ false → StopsFor read_fails failed count e
  fault_of_chunk read_fails failed count (faults.Read e) fault ready = (fault, ready)
  fault_of_chunk read_fails failed count faults.NoMemory fault ready = ready
  fault_of_chunk read_fails failed count (faults.Reply written) fault ready = absurd fault

  -- the pass ended early with an error
  abbrev StopsBy : (coming new : Option (List ℕ)) → (read_fails : ReadError → Type 0) → (failed : Bool) → PassFault
      → Type 0
  StopsBy coming new read_fails failed e =
      (count : ℕ) × StopsInPass text_left remarks_left coming s start old new count
      × StopsFor read_fails failed count e

  -- a chunk could not be read, or memory ran out
  pub chunk_fails : {A : Type 0} (coming new : Option (List ℕ)) (sent waiting : List ℕ)
      (read_fails : ReadError → Type 0) (failed : Bool) (e : PassFault) → IsChunkFault read_fails e → failed ≡ false
      → Appends old new sent → BeginsText coming (sent ++ waiting) → (r : Result A PassFault)
      → IsErrAnd r (λ x. x ≡ e) → IfErr r (StopsBy coming new read_fails failed)
  chunk_fails coming new sent waiting read_fails failed e fault ready taken begins r is =
      at_fault r e (StopsBy coming new read_fails failed) is (
        length sent + 0,
        stops_after coming new sent waiting 0 (omega arith) (subst (Appends old new) (sym (append-nil sent)) taken)
            begins,
        fault_of_chunk read_fails failed (length sent + 0) e fault ready,
      )

  stops_by_text : (coming new later : Option (List ℕ)) (sent waiting : List ℕ) (written : ℕ)
      (read_fails : ReadError → Type 0) (failed : Bool) (e : PassFault) → FailsToSend waiting written new later e
      → failed ≡ true → Appends old new sent → written ≡ counted (length sent) → BeginsText coming (sent ++ waiting)
      → StopsBy coming later read_fails failed e
  stops_by_text coming new later sent waiting written read_fails failed (faults.Read e) fails has taken count begins =
      absurd fails
  stops_by_text coming new later sent waiting written read_fails failed faults.NoMemory fails has taken count begins =
      absurd fails
  stops_by_text coming new later sent waiting written read_fails failed (faults.Reply total)
      (k, within, appended, counts) has taken count begins = (
        length sent + k,
        stops_after coming later sent waiting k within
            (appends_then old new later sent (take k waiting) taken appended) begins,
        (has, counts (length sent) count),
      )

  -- the text could not be written
  pub text_fails : {A : Type 0} (coming new later : Option (List ℕ)) (sent waiting : List ℕ) (written : ℕ)
      (read_fails : ReadError → Type 0) (failed : Bool) (e : PassFault) → FailsToSend waiting written new later e
      → failed ≡ true → Appends old new sent → written ≡ counted (length sent) → BeginsText coming (sent ++ waiting)
      → (r : Result A PassFault) → IsErrAnd r (λ x. x ≡ e) → IfErr r (StopsBy coming later read_fails failed)
  text_fails coming new later sent waiting written read_fails failed e fails has taken count begins r is =
      at_fault r e (StopsBy coming later read_fails failed) is
      (stops_by_text coming new later sent waiting written read_fails failed e fails has taken count begins)
