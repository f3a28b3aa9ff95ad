use Rattle.std.proofs.Common.{◌≡◌, refl, false, rules}
use Rattle.std.proofs.lemmas.Result.{on_ok_weaker}
use Rattle.vcd_copy.proofs.copying.Ends.{copy_taken, copy_fails, copy_begun, some_held, some_taken, when_copied}
use Rattle.vcd_copy.proofs.copying.Ends.{when_ok}
use Rattle.vcd_copy.proofs.copying.copy.Goals as goal

pub returns-clause-copied : goal.returns-clause-copied
returns-clause-copied g c =
    let same : c.end_copy.new.writer ≡ c.writer-1.given.0 =
    search (rules, c.copy_within-copied.ensures.goes_on.more) in
    let amender : c.copy_within-copied.new.copier.amender.now ≡ c.amender-1.given.0 =
    search (rules, c.copy_within-copied.ensures.goes_on.same_amender) in
    rw (same, amender) at (copy_taken g.W.Sink _ _ (g.A.Amender.rules (g.A.Amender.given c.args.amender.now)) _
    c.copy_within-copied.new.copier.output c.send_buffer.new.output (g.R.Source.coming c.args.reader.now)
    (g.A.Amender.is_done c.copy_within-copied.new.copier.amender.now ≡ false)
    c.end_copy.new.writer c.copy_within-copied.result
    c.end_copy.result c.copy_within-copied.ensures.copied c.in_ok-unsent.ensures.empty refl
    c.send_buffer.ensures.written c.send_buffer.ensures.empty c.send_buffer.ensures.stays c.end_copy.ensures.kept
    c.end_copy.ensures.was_ready c.end_copy.ensures.copied)

pub returns-clause-taken : goal.returns-clause-taken
returns-clause-taken g c =
    let same : c.end_copy.new.writer ≡ c.writer-1.given.0 =
    search (rules, c.copy_within-copied.ensures.goes_on.more) in
    rw same at (some_taken c.end_copy.new.writer (some_held c.in_ok-unsent.ensures.empty refl
    c.copy_within-copied.ensures.goes_on.more c.send_buffer.ensures.written) c.end_copy.ensures.kept)

pub returns-clause-fails : goal.returns-clause-fails
returns-clause-fails g c =
    let same : c.end_copy.new.writer ≡ c.writer-1.given.0 =
    search (rules, c.copy_within-copied.ensures.goes_on.more) in
    rw same at (copy_fails _ _ _ _ _ c.end_copy.new.writer c.copy_within-copied.result c.end_copy.result
    c.copy_within-copied.ensures.fails c.end_copy.ensures.read c.end_copy.ensures.wrote
    c.copy_within-copied.ensures.not_failed (some_held c.in_ok-unsent.ensures.empty refl
    c.copy_within-copied.ensures.goes_on.more c.send_buffer.ensures.written) c.end_copy.ensures.kept)

pub returns-clause-begun : goal.returns-clause-begun
returns-clause-begun g c =
    let same : c.end_copy.new.writer ≡ c.writer-1.given.0 =
    search (rules, c.copy_within-copied.ensures.goes_on.more) in
    rw same at (copy_begun _ c.copy_within-copied.new.copier.output c.send_buffer.new.output _
    (g.A.Amender.rules (g.A.Amender.given c.args.amender.now)) (g.R.Source.coming c.args.reader.now)
    c.end_copy.new.writer c.copy_within-copied.result c.end_copy.result c.end_copy.ensures.wrote
    c.in_ok-unsent.ensures.empty refl c.copy_within-copied.ensures.begun c.send_buffer.ensures.written
    c.end_copy.ensures.kept)

pub returns-clause-told : goal.returns-clause-told
returns-clause-told g c =
    let amender : c.copy_within-copied.new.copier.amender.now ≡ c.amender-1.given.0 =
    search (rules, c.copy_within-copied.ensures.goes_on.same_amender) in
    rw amender at (when_copied _ _ _ c.copy_within-copied.result c.end_copy.result c.copy_within-copied.ensures.told
    c.send_buffer.ensures.stays c.end_copy.ensures.was_ready c.end_copy.ensures.copied)

pub returns-clause-ended : goal.returns-clause-ended
returns-clause-ended g c =
    let amender : c.copy_within-copied.new.copier.amender.now ≡ c.amender-1.given.0 =
    search (rules, c.copy_within-copied.ensures.goes_on.same_amender) in
    rw amender at (when_copied _ _ _ c.copy_within-copied.result c.end_copy.result c.copy_within-copied.ensures.ended
    c.send_buffer.ensures.stays c.end_copy.ensures.was_ready c.end_copy.ensures.copied)

pub returns-clause-same : goal.returns-clause-same
returns-clause-same g c =
    let amender : c.copy_within-copied.new.copier.amender.now ≡ c.amender-1.given.0 =
    search (rules, c.copy_within-copied.ensures.goes_on.same_amender) in
    rw amender at (on_ok_weaker c.end_copy.result
    (λ ok. when_ok _ c.copy_within-copied.result c.copy_within-copied.ensures.same ok) c.end_copy.ensures.copied)
