use Rattle.std.proofs.Common.{◌≡◌, ◌∙◌, true, Bool, sym, ap, inl, inr, ◌⊎◌, arith}
use Rattle.std.specs.Prelude.{◌||◌, List, false}
use Rattle.std.proofs.lemmas.Bool.{false≢true}
use Rattle.std.proofs.lemmas.Result.{err_from_is_err_and}
use Rattle.vcd_text.proofs.shared.Chunks.{at_end, of_all, of_heard, is_no_file_failure}
use Rattle.vcd_text.proofs.shared.EmittedParts.{more_both, writes_more}
use Rattle.vcd_text.proofs.shared.FailedResults.{err_is}
use Rattle.vcd_copy.specs.Pieces.{Piece}
use Rattle.vcd_copy.proofs.copying.copier.BegunCopies.{begun_file, whole_begins}
use Rattle.vcd_copy.proofs.copying.copier.WholeCopies.{copy_begins, copy_goes_on, whole_copied}
use Rattle.vcd_copy.proofs.copying.copier.Told.{told_so_far, told_weaker, all_told}
use Rattle.vcd_copy.proofs.shared.CopyFaults.{memory_fails}
use Rattle.vcd_copy.proofs.copying.copy_within.Goals as goal

-- a copier that is done, whose writer has not failed, has an amender that is done
amender_done : (failed done is_done : Bool) → is_done ≡ (failed || done) → is_done ≡ true → failed ≡ false
    → done ≡ true
amender_done failed done is_done is so ready = sym (ap (λ b. b || done) ready) ∙ sym is ∙ so

pub read_chunks-requires-clause-begins : goal.read_chunks-requires-clause-begins
read_chunks-requires-clause-begins g c = λ m taken. copy_begins taken c.requires.empty c.requires.begins

pub returns-in_err-progress-clause-fails : goal.returns-in_err-progress-clause-fails
returns-in_err-progress-clause-fails g c = rw (err_is _ c.from_residual.ensures.1) (record {
  refused = c.in_err-progress.ensures.refused;
  failed_reader = c.in_err-progress.ensures.failed;
  other = c.in_err-progress.ensures.unfailed;
})

pub returns-in_err-progress-clause-goes_on : goal.returns-in_err-progress-clause-goes_on
returns-in_err-progress-clause-goes_on g c = c.read_chunks.ensures.goes_on copy_goes_on

-- ---- the copier is done

pub returns-then-is_done-clause-copied : goal.returns-then-is_done-clause-copied
returns-then-is_done-clause-copied g c = λ ready going. absurd (false≢true (sym going
    ∙ amender_done _ _ _ c.is_done.ensures c.if-is_done.true ready))

pub returns-then-is_done-clause-ended : goal.returns-then-is_done-clause-ended
returns-then-is_done-clause-ended g c = λ ready going. absurd (false≢true (sym going
    ∙ amender_done _ _ _ c.is_done.ensures c.if-is_done.true ready))

pub returns-then-is_done-clause-begun : goal.returns-then-is_done-clause-begun
returns-then-is_done-clause-begun g c =
    let coming = g.R.Source.coming c.args.reader.now in
    let (bytes, consumes, (read, h)) = c.in_ok-progress.ensures.heard in
    of_heard coming (g.R.Source.coming c.read_chunks.new.source) _ consumes h (begun_file h.heard.copied h.ends.0)

pub returns-then-is_done-clause-told : goal.returns-then-is_done-clause-told
returns-then-is_done-clause-told g c = λ ready.
    let coming = g.R.Source.coming c.args.reader.now in
    let (bytes, consumes, (read, h)) = c.in_ok-progress.ensures.heard in
    let amender = c.read_chunks.new.listener.amender.now in
    of_heard coming (g.R.Source.coming c.read_chunks.new.source) _ consumes h (told_so_far
    (λ (pieces : List Piece). g.A.Amender.has_seen amender pieces ⊎ g.A.Amender.has_ended amender pieces)
    (g.A.Amender.is_done amender) h.heard.copied h.ends.0 (λ pieces seen. inl seen)
    (amender_done _ _ _ c.is_done.ensures c.if-is_done.true ready))

pub returns-then-is_done-clause-same : goal.returns-then-is_done-clause-same
returns-then-is_done-clause-same g c =
    let (bytes, consumes, (read, h)) = c.in_ok-progress.ensures.heard in
    h.heard.same

pub returns-then-is_done-clause-goes_on : goal.returns-then-is_done-clause-goes_on
returns-then-is_done-clause-goes_on g c = c.read_chunks.ensures.goes_on copy_goes_on

-- ---- the end of the file

pub finish-requires : goal.finish-requires
finish-requires g c =
    let (bytes, consumes, read) = c.in_ok-progress.ensures.heard in
    (c.args.limit, c.args.most, c.args.copier.now, bytes, read)

pub returns-in_err-finish-clause-fails : goal.returns-in_err-finish-clause-fails
returns-in_err-finish-clause-fails g c =
    let coming = g.R.Source.coming c.args.reader.now in
    let source = c.read_chunks.new.source in
    let (bytes, consumes, read) = c.in_ok-progress.ensures.heard in
    let fault = c.in_err-finish.ensures.fault c.args.limit c.args.most c.args.copier.now bytes read in
    rw (err_is _ c.from_residual-in_err-finish.ensures.1) (record {
      refused = at_end c.args.limit c.args.most coming (g.R.Source.coming source) (g.R.Source.has_failed source) bytes
          _ c.in_ok-progress.ensures.not_failed consumes
          (c.in_ok-progress.ensures.ended (sym c.is_done.ensures ∙ c.if-is_done.false))
          (omega (arith, read.0.size)) fault;
      failed_reader = λ is. absurd (is_no_file_failure c.args.limit bytes _ fault is);
      other = λ isnt. c.in_ok-progress.ensures.not_failed;
    })

pub returns-in_err-finish-clause-goes_on : goal.returns-in_err-finish-clause-goes_on
returns-in_err-finish-clause-goes_on g c = c.finish.ensures.goes_on c.args.copier.now
    (c.read_chunks.ensures.goes_on copy_goes_on)

pub finish-requires-2 : goal.finish-requires-2
finish-requires-2 g c =
    let (bytes, consumes, read) = c.in_ok-progress.ensures.heard in
    let all = (c.in_ok-finish.ensures.heard c.args.limit c.args.most c.args.copier.now bytes read).heard.copied in
    (all.pieces, all.seen)

pub returns-in_err-finish-2-clause-fails : goal.returns-in_err-finish-2-clause-fails
returns-in_err-finish-2-clause-fails g c =
    let source = c.read_chunks.new.source in
    let (e, is, none) = err_from_is_err_and c.from_residual-in_err-finish-2.result
    c.from_residual-in_err-finish-2.ensures.1 in
    rw (is, none) (memory_fails c.args.limit c.args.most (g.R.Source.coming c.args.reader.now)
    (g.R.Source.coming source) (g.R.Source.has_failed source) c.in_ok-progress.ensures.not_failed)

pub returns-in_err-finish-2-clause-goes_on : goal.returns-in_err-finish-2-clause-goes_on
returns-in_err-finish-2-clause-goes_on g c =
    let goes = c.finish.ensures.goes_on c.args.copier.now
    (c.read_chunks.ensures.goes_on copy_goes_on) in
    record { same_amender = goes.same_amender; more = more_both goes.more c.in_err-finish-2.ensures.more }

pub returns-clause-copied : goal.returns-clause-copied
returns-clause-copied g c = λ ready going.
    let coming = g.R.Source.coming c.args.reader.now in
    let (bytes, consumes, read) = c.in_ok-progress.ensures.heard in
    let all = c.in_ok-finish.ensures.heard c.args.limit c.args.most c.args.copier.now bytes read in
    of_all coming (g.R.Source.coming c.read_chunks.new.source) bytes _ consumes
    (c.in_ok-progress.ensures.ended (sym c.is_done.ensures ∙ c.if-is_done.false)) (
      omega (arith, read.0.size),
      whole_copied all.heard all.complete c.as_slice.ensures.value
          (c.in_ok-finish-2.ensures.written all.heard.copied.pieces all.heard.copied.seen),
    )

pub returns-clause-begun : goal.returns-clause-begun
returns-clause-begun g c =
    let coming = g.R.Source.coming c.args.reader.now in
    let (bytes, consumes, read) = c.in_ok-progress.ensures.heard in
    let all = c.in_ok-finish.ensures.heard c.args.limit c.args.most c.args.copier.now bytes read in
    of_all coming (g.R.Source.coming c.read_chunks.new.source) bytes _ consumes
    (c.in_ok-progress.ensures.ended (sym c.is_done.ensures ∙ c.if-is_done.false))
    (whole_begins (whole_copied all.heard all.complete c.as_slice.ensures.value
    (c.in_ok-finish-2.ensures.written all.heard.copied.pieces all.heard.copied.seen)))

pub returns-clause-told : goal.returns-clause-told
returns-clause-told g c = λ ready.
    let coming = g.R.Source.coming c.args.reader.now in
    let (bytes, consumes, read) = c.in_ok-progress.ensures.heard in
    let all = c.in_ok-finish.ensures.heard c.args.limit c.args.most c.args.copier.now bytes read in
    let copied = all.heard.copied in
    of_all coming (g.R.Source.coming c.read_chunks.new.source) bytes _ consumes
    (c.in_ok-progress.ensures.ended (sym c.is_done.ensures ∙ c.if-is_done.false))
    (told_weaker (g.A.Amender.is_done c.finish-2.new.self) (λ pieces ended. inr ended)
    (all_told (g.A.Amender.has_ended c.finish-2.new.self) copied all.complete
    (c.in_ok-finish-2.ensures.ended copied.pieces copied.seen)))

pub returns-clause-ended : goal.returns-clause-ended
returns-clause-ended g c = λ ready going.
    c.in_ok-progress.ensures.ended (sym c.is_done.ensures ∙ c.if-is_done.false)

pub returns-clause-same : goal.returns-clause-same
returns-clause-same g c =
    let (bytes, consumes, read) = c.in_ok-progress.ensures.heard in
    let all = c.in_ok-finish.ensures.heard c.args.limit c.args.most c.args.copier.now bytes read in
    c.in_ok-finish-2.ensures.same ∙ all.heard.same

pub returns-clause-goes_on : goal.returns-clause-goes_on
returns-clause-goes_on g c =
    let (bytes, consumes, read) = c.in_ok-progress.ensures.heard in
    let copied = (c.in_ok-finish.ensures.heard c.args.limit c.args.most c.args.copier.now bytes read).heard.copied in
    let goes = c.finish.ensures.goes_on c.args.copier.now
    (c.read_chunks.ensures.goes_on copy_goes_on) in
    record {
      same_amender = goes.same_amender;
      more = more_both goes.more (writes_more (c.in_ok-finish-2.ensures.written copied.pieces copied.seen));
    }
