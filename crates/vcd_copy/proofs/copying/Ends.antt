-- The end of a copy: what the writer took.
use Rattle.std.proofs.Common.{◌≡◌, ◌≤◌, ◌∙◌, ℕ, Bool, true, false, List, [], ◌++◌, length, take, refl, sym}
use Rattle.std.proofs.Common.{subst, arith}
use Rattle.std.proofs.lemmas.List.{append-nil, length-append, take-append-le}
use Rattle.std.proofs.lemmas.Bool.{false≢true}
use Rattle.std.specs.Prelude.{Option, Some, None, IfSome, Result, Ok, Err, OnOk, IsOk, IfErr}
use Rattle.std.specs.Io.KnownBytes.{Appends, Keeps}
use Rattle.vcd_core.specs.declared.device.Sink as sinks
use Rattle.vcd_copy.specs.declared.copying.copy_error.CopyError.{CopyError}
use Rattle.vcd_copy.specs.declared.copying.copy_error.CopyError.TheVariants as copy_errors
use Rattle.vcd_text.specs.declared.fault.ReadError.{ReadError}
use Rattle.vcd_text.specs.declared.fault.WriteError.{WriteError}
use Rattle.vcd_text.specs.declared.fault.WriteError.TheVariants.{WriteFault}
use Rattle.vcd_text.specs.declared.writing.output.Output.{Output}
use Rattle.vcd_copy.specs.Copied.{CopyRules, IsCopy}
use Rattle.vcd_copy.specs.CopyEnds.{CopyFails, ReadFails, TookFirst}
use Rattle.vcd_text.specs.Words.{words_of}
use Rattle.vcd_text.specs.Grammar.{ParseState, Accepts}
use Rattle.vcd_text.specs.WriteEnds.{TookBefore}
use Rattle.vcd_copy.specs.inside.Copying.{TookCopy, TookBeginning}
use Rattle.vcd_text.specs.EmittedText.{Emits, EmitsMore, HasEmitted}
use Rattle.vcd_text.proofs.shared.EmittedParts.{writes_both, writes_as, writes_part, whole_written, all_taken}
use Rattle.vcd_text.proofs.shared.EmittedParts.{appends_kept, failed_prefix}

-- ---- copied

not_stayed : (a b : Bool) → (a ≡ true → b ≡ true) → b ≡ false → a ≡ false
not_stayed false b stays ready = refl
not_stayed true b stays ready = absurd (false≢true (sym ready ∙ stays refl))

-- what is so if a result is one
pub when_ok : {S F : Type 0} (P : Type 0) (r : Result S F) → OnOk r P → IsOk r → P
when_ok P (Ok x) p ok = p
when_ok P (Err e) p ok = absurd (false≢true ok)

-- what is so if the file was copied and the writer has not failed
pub when_copied : {S T E F : Type 0} (P : Type 0) (failed later : Bool) (copied : Result S F) (r : Result T E)
    → OnOk copied (failed ≡ false → P) → (failed ≡ true → later ≡ true) → OnOk r (later ≡ false)
    → OnOk r (IsOk copied) → OnOk r P
when_copied P failed later copied (Ok x) then stays ready ok =
    when_ok (failed ≡ false → P) copied then ok (not_stayed failed later stays ready)
when_copied P failed later copied (Err e) then stays ready ok = tt

-- the writer took the copy
pub copy_taken : {W S F T E : Type 0} (sink : sinks.Ghosts W) (limit most : ℕ) (rules : CopyRules) (o0 o1 o2 : Output W)
    (coming : Option (List ℕ)) (Going : Type 0) (later : W) (copied : Result S F) (r : Result T E)
    → OnOk copied (sink.has_failed o1.writer.now ≡ false → Going → IfSome coming (λ file. (length file ≤ most)
    × TookCopy sink limit rules o0 o1 file))
    → o0.unsent.items ≡ [] → o0.sent_count ≡ 0 → Emits sink o1 o2 [] → o2.unsent.items ≡ []
    → (sink.has_failed o1.writer.now ≡ true → sink.has_failed o2.writer.now ≡ true)
    → Keeps (sink.taken o2.writer.now) (sink.taken later) → OnOk r (sink.has_failed o2.writer.now ≡ false)
    → OnOk r (IsOk copied)
    → OnOk r (Going → IfSome coming (λ file. (length file ≤ most) × (text : List ℕ) × IsCopy limit rules file text
    × Appends (sink.taken o0.writer.now) (sink.taken later) text))
copy_taken sink limit most rules o0 o1 o2 None Going later copied (Ok x) copies empty none sent sent_all stays kept
    ready
    ok = λ going. tt
copy_taken sink limit most rules o0 o1 o2 (Some file) Going later copied
    (Ok x) copies empty none sent sent_all stays kept ready ok = λ going.
    let (within, took) = when_ok _ copied copies ok (not_stayed (sink.has_failed o1.writer.now) (sink.has_failed
    o2.writer.now) stays ready) going in (
      within,
      took.text,
      took.is_copy,
      appends_kept _ _ _ took.text (all_taken ready sent_all (whole_written empty none
          (writes_as (append-nil took.text) (writes_both took.emits sent)))) kept,
    )
copy_taken sink limit most rules o0 o1 o2 coming Going later copied (Err e) copies empty none sent sent_all stays kept
    ready
    ok = tt

-- ---- not copied

-- what the writer and the buffer hold at the end
pub some_held : {W : Type 0} {sink : sinks.Ghosts W} {o0 o1 o2 : Output W} → o0.unsent.items ≡ [] → o0.sent_count ≡ 0
    → (more : EmitsMore sink o0 o1) → Emits sink o1 o2 []
    → HasEmitted sink (sink.taken o0.writer.now) o2 (more.part ++ [])
some_held empty none more sent = whole_written empty none (writes_both (writes_part more) sent)

-- the writer took something
pub some_taken : {W : Type 0} {sink : sinks.Ghosts W} {before : Option (List ℕ)} {output : Output W} {text : List ℕ}
    (later : W) → HasEmitted sink before output text → Keeps (sink.taken output.writer.now) (sink.taken later)
    → (some : List ℕ) × Appends before (sink.taken later) some
some_taken {text = text} later held kept = (take held.sent text, appends_kept _ _ _ _ held.prefix kept)

-- why a copy fails
pub copy_fails : {W T S : Type 0} {sink : sinks.Ghosts W} {before : Option (List ℕ)} {output : Output W}
    {text : List ℕ} (limit most : ℕ) (coming left : Option (List ℕ)) (failed : Bool) (later : W)
    (copied : Result S ReadError) (r : Result T CopyError) → IfErr copied (ReadFails limit most coming left failed)
    → IfErr r (λ e. (error : ReadError) → e ≡ copy_errors.Read error → copied ≡ Err error)
    → IfErr r (λ e. (error : WriteError) → e ≡ copy_errors.Write error
    → (error ≡ WriteFault output.sent_count) × (sink.has_failed later ≡ true) × IsOk copied)
    → OnOk copied (failed ≡ false)
    → HasEmitted sink before output text → Keeps (sink.taken output.writer.now) (sink.taken later)
    → IfErr r (CopyFails limit most coming left failed before (sink.taken later) (sink.has_failed later))
copy_fails limit most coming left failed later copied (Ok x) fails read wrote ready held kept = tt
copy_fails limit most coming left failed later copied (Err (copy_errors.Read e)) fails read wrote ready held kept =
    subst (λ r. IfErr r (ReadFails limit most coming left failed)) (read e refl) fails
copy_fails {text = text} limit most coming left failed later copied (Err (copy_errors.Write e)) fails read wrote ready
    held kept =
    let (is, has_failed, ok) = wrote e refl in
    (when_ok (failed ≡ false) copied ready ok, text, failed_prefix {T = Unit {0}} later (Err e) held kept is has_failed)

-- ---- the beginning of the copy

-- a counted prefix of a text is one of a text that begins with it
pub took_more : (text rest : List ℕ) (before after : Option (List ℕ)) (failed : Bool) (count : ℕ)
    → TookBefore text before after failed (WriteFault count)
    → TookBefore (text ++ rest) before after failed (WriteFault count)
took_more text rest before after failed count (took, has_failed) = (
  λ small.
      let (appends, within) = took (omega (arith, small, length-append text rest)) in (
        subst (Appends before after) (sym (take-append-le count text rest within)) appends,
        omega (arith, within, length-append text rest),
      ),
  has_failed,
)

-- the writer took a prefix of the copy
first_taken : {W : Type 0} {sink : sinks.Ghosts W} (o0 o1 o2 : Output W) (limit : ℕ) (rules : CopyRules)
    (coming : Option (List ℕ)) (later : W) → o0.unsent.items ≡ [] → o0.sent_count ≡ 0
    → IfSome coming (TookBeginning sink limit rules o0 o1) → Emits sink o1 o2 []
    → Keeps (sink.taken o2.writer.now) (sink.taken later) → sink.has_failed later ≡ true
    → IfSome coming (λ file. (s : ParseState) → Accepts limit (words_of file) s
    → (text : List ℕ) × IsCopy limit rules file text
    × TookBefore text (sink.taken o0.writer.now) (sink.taken later) (sink.has_failed later) (WriteFault o2.sent_count))
first_taken o0 o1 o2 limit rules None later empty none begun sent kept has_failed = tt
first_taken {sink = sink} o0 o1 o2 limit rules (Some file) later empty none begun sent kept has_failed =
    λ s accepted.
    let (rest, copy) = begun.begins s accepted in (
      begun.text ++ rest,
      copy,
      took_more begun.text rest (sink.taken o0.writer.now) (sink.taken later) (sink.has_failed later) o2.sent_count
          (failed_prefix {T = Unit {0}} later (Err (WriteFault o2.sent_count))
          (whole_written empty none (writes_as (append-nil begun.text) (writes_both begun.emits sent))) kept refl
          has_failed),
    )

pub copy_begun : {W T S : Type 0} {sink : sinks.Ghosts W} (o0 o1 o2 : Output W) (limit : ℕ) (rules : CopyRules)
    (coming : Option (List ℕ)) (later : W) (copied : Result S ReadError) (r : Result T CopyError)
    → IfErr r (λ e. (error : WriteError) → e ≡ copy_errors.Write error
    → (error ≡ WriteFault o2.sent_count) × (sink.has_failed later ≡ true) × IsOk copied)
    → o0.unsent.items ≡ [] → o0.sent_count ≡ 0 → OnOk copied (IfSome coming (TookBeginning sink limit rules o0 o1))
    → Emits sink o1 o2 [] → Keeps (sink.taken o2.writer.now) (sink.taken later)
    → IfErr r (TookFirst limit (IsCopy limit rules) coming (sink.taken o0.writer.now) (sink.taken later)
    (sink.has_failed later))
copy_begun o0 o1 o2 limit rules coming later copied (Ok x) wrote empty none begun sent kept = tt
copy_begun o0 o1 o2 limit rules coming later copied (Err (copy_errors.Read e)) wrote empty none begun sent kept = tt
copy_begun o0 o1 o2 limit rules coming later copied (Err (copy_errors.Write e)) wrote empty none begun sent kept =
    let (is, failed, ok) = wrote e refl in
    rw is (λ has_failed. first_taken o0 o1 o2 limit rules coming later empty none (when_ok _ copied begun ok) sent kept
    failed)
