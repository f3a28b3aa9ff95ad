use Rattle.std.proofs.Common.{◌≡◌, ◌∙◌, sym, ap, true, false, arith, List, length, map, Some, None, not, ◌&&◌}
use Rattle.std.proofs.Common.{subst, if◌then◌else◌, ◌||◌}
use Rattle.std.specs.Prelude.{slice_index_or}
use Rattle.std.specs.Vec.{with_items}
use Rattle.std.proofs.lemmas.List.{length-map}
use Rattle.vcd_text.specs.inside.reading.CodeTargets.{code_target}
use Rattle.vcd_amend.specs.declared.amending.code_uses.CodeUse.{CodeUse}
use Rattle.vcd_amend.specs.declared.amendment.AmendedCode.{AmendedCode as CodeInMemory}
use Rattle.vcd_amend.specs.Amendment.{changes_stand}
use Rattle.vcd_amend.specs.AmendmentContents.{code_contents}
use Rattle.vcd_amend.specs.inside.amending.DueChanges.{no_code}
use Rattle.vcd_amend.specs.inside.amending.CodeProgress.{no_progress}
use Rattle.vcd_amend.specs.inside.amending.ValueChanges.{is_written}
use Rattle.vcd_amend.proofs.amending.Values.{at_other, at_own, stands_other, stands_own, goes_other, goes_own}
use Rattle.vcd_amend.proofs.amending.Values.{index_within, lent_length, lent_noted}
use Rattle.vcd_amend.specs.declared.amending.code_progress.CodeProgress.{CodeProgress}
use Rattle.vcd_amend.specs.inside.amending.FileAmender.{IsAt}
use Rattle.vcd_text.specs.Grammar.{with_value_change}
use Rattle.std.proofs.Math.Bool.{and-false, and-true}
use Rattle.vcd_amend.proofs.amending.file_amender.FileAmender.settle_value.Goals as goal

pub moment_in-moment-requires-clause-within : goal.moment_in-moment-requires-clause-within
moment_in-moment-requires-clause-within c =
    let (s, none, at) = c.requires in
    let m = c.args.self.now in
    let code = c.args.code.now in
    let i = c.in-Some.index in
    let is : (code_target m.uses code).amended ≡ Some i = ap (λ (u : CodeUse). u.amended) (sym c.get-found.ensures) ∙
    c.in-Some.is in
    omega (
      arith,
      index_within m s none at code i is,
      length-map m.amendment.now.codes.items code_contents,
      ap (λ (l : List CodeInMemory). length l) c.as_slice-codes.ensures.value,
    )

pub moment_in-moment-requires-clause-counts : goal.moment_in-moment-requires-clause-counts
moment_in-moment-requires-clause-counts c =
    let (s, none, at) = c.requires in
    let m = c.args.self.now in
    omega (arith, at.counts, m.counts.ok.0, m.amendment.now.codes.ok.0, c.as_slice-codes.ensures.len)

pub note_settled-requires-clause-counts : goal.note_settled-requires-clause-counts
note_settled-requires-clause-counts c =
    let (s, none, at) = c.requires in
    let m = c.args.self.now in
    let code = c.args.code.now in
    let i = c.in-Some.index in
    let is : (code_target m.uses code).amended ≡ Some i = ap (λ (u : CodeUse). u.amended) (sym c.get-found.ensures) ∙
    c.in-Some.is in
    omega (
      arith,
      index_within m s none at code i is,
      length-map m.amendment.now.codes.items code_contents,
      at.counts,
      m.counts.ok.0,
      c.as_mut_slice-counts.ensures.len,
    )

pub note_settled-requires-clause-progress : goal.note_settled-requires-clause-progress
note_settled-requires-clause-progress c =
    let (s, none, at) = c.requires in
    let m = c.args.self.now in
    let code = c.args.code.now in
    let i = c.in-Some.index in
    let is : (code_target m.uses code).amended ≡ Some i = ap (λ (u : CodeUse). u.amended) (sym c.get-found.ensures) ∙
    c.in-Some.is in
    omega (
      arith,
      index_within m s none at code i is,
      length-map m.amendment.now.codes.items code_contents,
      at.progress.count,
      m.progress.ok.0,
      c.as_mut_slice-progress.ensures.len,
    )

pub is_changed_in-is_changed-requires : goal.is_changed_in-is_changed-requires
is_changed_in-is_changed-requires c =
    let (s, none, at) = c.requires in
    let m = c.args.self.now in
    let code = c.args.code.now in
    let i = c.in-Some.index in
    let is : (code_target m.uses code).amended ≡ Some i = ap (λ (u : CodeUse). u.amended) (sym c.get-found.ensures) ∙
    c.in-Some.is in
    omega (
      arith,
      index_within m s none at code i is,
      length-map m.amendment.now.codes.items code_contents,
      at.progress.count,
      m.progress.ok.0,
      ap (λ (l : List CodeProgress). length l) c.as_slice-in-Some.ensures.value,
    )

pub returns-then-found-clause-stands : goal.returns-then-found-clause-stands
returns-then-found-clause-stands c = λ itself s none letters at.
    let m = c.args.self.now in
    let code = c.args.code.now in
    let is : (code_target m.uses code).amended ≡ None = ap (λ (u : CodeUse). u.amended) (sym c.get-found.ensures) ∙
    c.in-None.is in
    let used = c.if-found.true in
    let now = c.still_none-self-in-None.ensures ∙ ap (λ b. m.none_yet && not b) used ∙ and-false m.none_yet in (
      stands_other m s none at code (ap (λ (u : CodeUse). u.is_used) (sym c.get-found.ensures) ∙ used) is,
      subst (IsAt (record m { none_yet = c.still_none-self-in-None.result }) (with_value_change s code letters)) now
          (at_other m s none at code letters c.still_none-self-in-None.result is),
    )

pub returns-else-found-clause-goes : goal.returns-else-found-clause-goes
returns-else-found-clause-goes c = λ nothing s none letters at.
    let m = c.args.self.now in
    let code = c.args.code.now in
    let is : (code_target m.uses code).amended ≡ None = ap (λ (u : CodeUse). u.amended) (sym c.get-found.ensures) ∙
    c.in-None.is in
    let unused = c.if-found.false in
    let now = c.still_none-self-in-None.ensures ∙ ap (λ b. m.none_yet && not b) unused ∙ and-true m.none_yet
    ∙ at.none_yet in (
      goes_other m s none at code (ap (λ (u : CodeUse). u.is_used) (sym c.get-found.ensures) ∙ unused) is,
      subst (IsAt (record m { none_yet = c.still_none-self-in-None.result }) (with_value_change s code letters)) now
          (at_other m s none at code letters c.still_none-self-in-None.result is),
    )

pub returns-else-eq-clause-stands : goal.returns-else-eq-clause-stands
returns-else-eq-clause-stands c = λ itself s none letters at.
    let m = c.args.self.now in
    let code = c.args.code.now in
    let i = c.in-Some.index in
    let is : (code_target m.uses code).amended ≡ Some i = ap (λ (u : CodeUse). u.amended) (sym c.get-found.ensures) ∙
    c.in-Some.is in
    let (found_used, moment_stands) = c.place_at-place.ensures.stands itself in
    let used : (code_target m.uses code).is_used ≡ true =
    ap (λ (u : CodeUse). u.is_used) (sym c.get-found.ensures) ∙ found_used in
    let does_stand : changes_stand (slice_index_or (map code_contents m.amendment.now.codes.items) i no_code) m.tick ≡
    true =
    ap (λ (l : List CodeInMemory). changes_stand (slice_index_or (map code_contents l) i no_code) m.tick)
    (sym c.as_slice-codes.ensures.value) ∙ sym c.moment_in-moment.ensures.stands ∙ moment_stands in
    let equal : c.eq-in-Some.result ≡ true = rw itself at c.eq-in-Some.ensures in
    let now : c.still_none-self.result ≡ false =
    c.still_none-self.ensures ∙ ap (λ b. m.none_yet && not b) equal ∙ and-false m.none_yet in (
      stands_own m s none at code i used is does_stand,
      subst (IsAt (record m {
        counts = with_items m.counts c.note_settled.new.counts;
        progress = with_items m.progress c.note_settled.new.progress;
        none_yet = c.still_none-self.result;
      }) (with_value_change s code letters)) now (at_own m s none at code letters c.still_none-self.result i
          (with_items m.counts c.note_settled.new.counts)
          (with_items m.progress c.note_settled.new.progress) is
          (lent_length m.counts c.as_mut_slice-counts.result.now c.note_settled.new.counts
          c.as_mut_slice-counts.ensures.value c.note_settled.auto.counts)
          (lent_length m.progress c.as_mut_slice-progress.result.now c.note_settled.new.progress
          c.as_mut_slice-progress.ensures.value c.note_settled.auto.progress)
          (lent_noted m.progress c.as_mut_slice-progress.result.now c.note_settled.new.progress i m.tick
          c.as_mut_slice-progress.ensures.value c.note_settled.auto.progress c.note_settled.ensures)),
    )

pub returns-else-eq-clause-goes : goal.returns-else-eq-clause-goes
returns-else-eq-clause-goes c = λ nothing s none letters at.
    let m = c.args.self.now in
    let code = c.args.code.now in
    let i = c.in-Some.index in
    let is : (code_target m.uses code).amended ≡ Some i = ap (λ (u : CodeUse). u.amended) (sym c.get-found.ensures) ∙
    c.in-Some.is in
    let found = sym c.get-found.ensures in
    let codes = sym c.as_slice-codes.ensures.value in
    let progress = sym c.as_slice-in-Some.ensures.value in
    let moment_stands = sym c.moment_in-moment.ensures.stands in
    let needed = sym c.moment_in-moment.ensures.needed in
    let changed = sym c.is_changed_in-is_changed.ensures in
    let none_written : is_written (code_target m.uses code).is_used
    (slice_index_or (map code_contents m.amendment.now.codes.items) i no_code)
    (slice_index_or m.progress.items i no_progress) m.tick ≡ false =
    (λ j. is_written (found j).is_used (slice_index_or (map code_contents (codes j)) i no_code)
    (slice_index_or (progress j) i no_progress) m.tick)
    ∙ (λ j. if c.get-found.result.is_used then moment_stands j || (needed j && not (changed j)) else false)
    ∙ c.place_at-place.ensures.goes nothing in
    let differs : c.eq-in-Some.result ≡ false = rw nothing at c.eq-in-Some.ensures in
    let now : c.still_none-self.result ≡ none =
    c.still_none-self.ensures ∙ ap (λ b. m.none_yet && not b) differs ∙ and-true m.none_yet ∙ at.none_yet in (
      goes_own m s none at code i is none_written,
      subst (IsAt (record m {
        counts = with_items m.counts c.note_settled.new.counts;
        progress = with_items m.progress c.note_settled.new.progress;
        none_yet = c.still_none-self.result;
      }) (with_value_change s code letters)) now (at_own m s none at code letters c.still_none-self.result i
          (with_items m.counts c.note_settled.new.counts)
          (with_items m.progress c.note_settled.new.progress) is
          (lent_length m.counts c.as_mut_slice-counts.result.now c.note_settled.new.counts
          c.as_mut_slice-counts.ensures.value c.note_settled.auto.counts)
          (lent_length m.progress c.as_mut_slice-progress.result.now c.note_settled.new.progress
          c.as_mut_slice-progress.ensures.value c.note_settled.auto.progress)
          (lent_noted m.progress c.as_mut_slice-progress.result.now c.note_settled.new.progress i m.tick
          c.as_mut_slice-progress.ensures.value c.note_settled.auto.progress c.note_settled.ensures)),
    )
