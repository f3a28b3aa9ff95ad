use Rattle.std.specs.Prelude.{Result, Ok, Err, OnErr}
use Rattle.vcd_alloc_failures.proofs.copies.VariableCopiesAmender.take.Goals as goal

on_error : {T E P : Type 0} (r : Result T E) → P → OnErr r P
on_error (Ok x) p = tt
on_error (Err e) p = p

pub returns-in_err-words-clause-more : goal.returns-in_err-words-clause-more
returns-in_err-words-clause-more g c = on_error c.from_residual.result (record {
  same_writer = c.write_bytes.ensures.written.same_writer;
  part = c.args.ended.now.space.now;
  appends = c.write_bytes.ensures.written.appends;
})
