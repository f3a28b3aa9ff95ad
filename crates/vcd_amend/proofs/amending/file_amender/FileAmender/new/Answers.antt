use Rattle.std.proofs.Common.{◌∙◌, ◌<◌, ℕ, All, refl, sym, ap, map, subst, rules, arith, List, length}
use Rattle.std.proofs.lemmas.List.{length-map}
use Rattle.vcd_amend.specs.declared.amendment.AmendedCode.{AmendedCode as CodeInMemory}
use Rattle.vcd_amend.specs.declared.amendment.AddedVariable.{AddedVariable}
use Rattle.vcd_amend.specs.AmendmentContents.{code_contents, added_contents}
use Rattle.vcd_amend.specs.inside.amending.CodeUses.{amended_index}
use Rattle.vcd_amend.specs.inside.amending.DueChanges.{AreDueFrom, due_transition}
use Rattle.vcd_amend.proofs.shared.Variables.{any_added, any_has, first_progress}
use Rattle.vcd_amend.proofs.amending.file_amender.FileAmender.new.Goals as goal

pub returns : goal.returns
returns c =
    let amendment = c.args.amendment.now in
    let codes = c.as_slice-codes.ensures.value in (
      record {
        fates = c.as_slice-2.ensures.value;
        used = λ key. c.in_ok-uses.ensures.used key ∙ any_added key c.as_slice.result.now
            ∙ ap (λ (l : List AddedVariable). any_has key (map added_contents l)) c.as_slice.ensures.value;
        amended = λ key. c.in_ok-uses.ensures.amended key
            ∙ ap (λ (l : List CodeInMemory). amended_index key (map code_contents l)) codes;
        progress = first_progress (map code_contents amendment.codes.items) c.in_ok-progress.progress.items
            (length c.as_slice-codes.result.now) (ap (λ (l : List CodeInMemory). length l) codes
            ∙ sym (length-map amendment.codes.items code_contents))
            (c.in_ok-progress.ensures.items_if_clones_equal (λ y is. search rules));
        counts = omega (
          arith,
          c.in_ok-counts.ensures.len,
          c.in_ok-counts.counts.ok.0,
          ap (λ (l : List CodeInMemory).
              length l) codes,
        );
        due = subst (λ (l : List CodeInMemory). AreDueFrom (map code_contents l) 0 (map due_transition
            c.in_ok-due.due.items)) codes c.in_ok-due.ensures.due;
        within = subst (λ (n : ℕ). All (λ d. d.index < n) c.in_ok-due.due.items)
            (ap (λ (l : List CodeInMemory). length l) codes) c.in_ok-due.ensures.within;
        apart = c.requires;
        tick = refl;
        none_yet = refl;
      },
      refl,
    )
