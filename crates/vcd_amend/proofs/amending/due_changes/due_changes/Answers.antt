use Rattle.std.proofs.Common.{◌≡◌, ◌<◌, ◌≤◌, ◌+◌, ◌++◌, ◌∷◌, [], List, ℕ, All, map, drop, take, length, get_or}
use Rattle.std.proofs.Common.{sym, ap, ◌∙◌, arith, subst, append_assoc}
use Rattle.std.proofs.lemmas.List.{append-nil, drop_all, drop_more, take_all, take_more}
use Rattle.std.proofs.lemmas.List.Elements.{All-append, All-cons, All-nil, All-map}
use Rattle.std.proofs.lemmas.List.Sorted.{All-permutation}
use Rattle.vcd_core.specs.Wave.{IsWave}
use Rattle.vcd_text.specs.inside.writing.Transitions.{Transition}
use Rattle.vcd_amend.specs.Amendment.{AmendedCode}
use Rattle.vcd_amend.specs.AmendmentContents.{code_contents}
use Rattle.vcd_amend.specs.declared.amendment.AmendedCode.{AmendedCode as CodeInMemory}
use Rattle.vcd_amend.specs.declared.amending.due_changes.DueChange.{DueChange}
use Rattle.vcd_amend.specs.inside.amending.DueChanges.{due_transition, unsorted_transitions, code_transitions}
use Rattle.vcd_amend.proofs.amending.DueOrder.{sorted_due, due_cmp, not_less_at}
use Rattle.vcd_amend.proofs.amending.due_changes.due_changes.Goals as goal

one_listed : (codes : List CodeInMemory) (k : ℕ) (c : CodeInMemory) (old new whole : List Transition)
    → k < length codes → c ≡ get_or codes k c → new ≡ old ++ code_transitions k (code_contents c)
    → old ++ unsorted_transitions k (map code_contents (drop k codes)) ≡ whole
    → new ++ unsorted_transitions (k + 1) (map code_contents (drop (k + 1) codes)) ≡ whole
unfolding unsorted_transitions
one_listed codes k c old new whole within is more all =
    let next : drop k codes ≡ c ∷ drop (k + 1) codes =
    drop_more codes k c within ∙ ap (λ (x : CodeInMemory). x ∷ drop (k + 1) codes) (sym is) in
    ap (λ l. l ++ unsorted_transitions (k + 1) (map code_contents (drop (k + 1) codes))) more
    ∙ append_assoc old (code_transitions k (code_contents c))
    (unsorted_transitions (k + 1) (map code_contents (drop (k + 1) codes)))
    ∙ ap (λ (l : List CodeInMemory). old ++ unsorted_transitions k (map code_contents l)) (sym next) ∙ all

all_listed : (codes : List CodeInMemory) (k : ℕ) (old whole : List Transition) → length codes ≤ k
    → old ++ unsorted_transitions k (map code_contents (drop k codes)) ≡ whole → old ≡ whole
unfolding unsorted_transitions
all_listed codes k old whole past all =
    sym (append-nil old) ∙ ap (λ (l : List CodeInMemory). old ++ unsorted_transitions k (map code_contents l))
    (sym (drop_all k codes past)) ∙ all

one_sound : (codes : List CodeInMemory) (k : ℕ) (c : CodeInMemory) → k < length codes → c ≡ get_or codes k c
    → All (λ (x : CodeInMemory). IsWave x.new.width x.new.changes) (take k codes) → IsWave c.new.width c.new.changes
    → All (λ (x : CodeInMemory). IsWave x.new.width x.new.changes) (take (k + 1) codes)
one_sound codes k c within is so_far here =
    let P : CodeInMemory → Type 0 = λ x. IsWave x.new.width x.new.changes in
    subst (λ l. All P l) (sym (take_more codes k c within ∙ ap (λ (x : CodeInMemory). take k codes ++ x ∷ []) (sym is)))
    (All-append P (take k codes) (c ∷ []) so_far (All-cons P c [] here (All-nil P)))

pub loop-index-preserved : goal.loop-index-preserved
loop-index-preserved c =
    let k = c.loop-index.index in
    let code = c.index-codes-index.result in
    let kept = c.loop-index.invariant in
    record {
      listed = one_listed c.args.codes.now k code (map due_transition c.loop-index.due.items)
          (map due_transition c.add_due_changes.new.due.items) _ (omega arith) c.index-codes-index.is
          c.in_ok-add_due_changes.ensures.added kept.listed;
      within = c.in_ok-add_due_changes.ensures.within (length c.args.codes.now) (omega arith) kept.within;
      sound = one_sound c.args.codes.now k code (omega arith) c.index-codes-index.is kept.sound
          c.in_ok-add_due_changes.ensures.sound;
    }

pub returns-clause-within : goal.returns-clause-within
returns-clause-within c = All-permutation (λ (d : DueChange). d.index < length c.args.codes.now) _ _
    c.sort.ensures.permutation c.loop-index.invariant.within

pub returns-clause-due : goal.returns-clause-due
returns-clause-due c =
    let codes = c.args.codes.now in
    let sound = subst (λ (l : List CodeInMemory). All (λ (x : CodeInMemory). IsWave x.new.width x.new.changes) l)
    (take_all c.loop-index.index codes (omega arith)) c.loop-index.invariant.sound in
    sorted_due due_cmp not_less_at (map code_contents codes)
    c.loop-index.due.items c.sort.new.self.items (All-map (λ (x : AmendedCode). IsWave x.width x.new)
    code_contents codes sound)
    (all_listed codes c.loop-index.index (map due_transition c.loop-index.due.items) _ (omega arith)
    c.loop-index.invariant.listed)
    c.sort.ensures.permutation c.in_ok-sort.ensures.sorted
