use Rattle.std.proofs.Common.{◌≡◌, ◌∙◌, ◌&&◌, ◌||◌, not, sym, ap, ap₂, codes, length, List, ℕ, Bool, true, Some}
use Rattle.std.proofs.Common.{◌++◌, ◌∷◌, [], is_some, if◌then◌else◌, refl, map}
use Rattle.std.specs.Prelude.{bytes_eq, position}
use Rattle.std.proofs.lemmas.Result.{on_ok_weaker}
use Rattle.vcd_core.specs.Decimal.{is_number, number_of}
use Rattle.vcd_text.specs.Grammar.{VariableDeclaration, is_skipped}
use Rattle.vcd_part.specs.declared.code_uses.CodeUse.{CodeUse}
use Rattle.vcd_part.specs.declared.request.Request.{Request}
use Rattle.vcd_part.specs.Requests.{keeps}
use Rattle.vcd_part.specs.PartPieces.{lasting_codes, last_such}
use Rattle.vcd_part.specs.inside.FirstValues.{bodies}
use Rattle.vcd_part.specs.inside.CodeUses.{AreUses, use_of}
use Rattle.vcd_part.proofs.code_uses.LastingCodes.{use_more, lasting_more, held_more, none_more}
use Rattle.vcd_part.proofs.code_uses.CodeUses.note_variable.Goals as goal
use Rattle.vcd_part.proofs.code_uses.CodeUses.note_variable.Goals.{then-is_kept, else-is_kept}
use Rattle.vcd_part.proofs.code_uses.CodeUses.note_variable.Goals.{then-found, else-found, then-found-2, else-found-2}

lasts_is : (c : goal.After-insert) (r : Request) (d : VariableDeclaration) → c.args.declared.kind.now ≡ d.kind
    → c.args.is_kept ≡ keeps r d → c.if-is_kept.lasts ≡ (keeps r d && not (bytes_eq d.kind (codes "event")))
lasts_is c r d kind kept =
    let here : c.if-is_kept.lasts ≡ (c.args.is_kept && not (bytes_eq c.args.declared.kind.now (codes "event"))) =
    elim c.if-is_kept.branch [
      | then-is_kept w ↦ rw w.if-is_kept.true (w.lasts-is ∙ ap not w.is_event.ensures)
      | else-is_kept w ↦ rw w.if-is_kept.false (w.lasts-is ∙ w.if-is_kept.false)
    ] in
    here ∙ ap₂ (λ (b : Bool) k. b && not (bytes_eq k (codes "event"))) kept kind

used_is : (c : goal.After-insert) → c.if-found.target ≡ (c.get-found.result.is_used || c.args.is_kept)
used_is c = elim c.if-found.branch [
  | then-found w ↦ rw w.if-found.true (w.target-is ∙ w.if-found.true)
  | else-found w ↦ rw w.if-found.false w.target-is
]

signal_is : (c : goal.After-insert) (d : VariableDeclaration) → c.args.declared.kind.now ≡ d.kind
    → is_number c.args.declared.size.now ≡ true → number_of c.args.declared.size.now ≡ d.size
    → c.if-found-2.target ≡ (c.get-found.result.has_signal || not (is_skipped d))
signal_is c d kind number size = elim c.if-found-2.branch [
  | then-found-2 w ↦ rw w.if-found-2.true (w.target-is ∙ w.if-found-2.true)
  | else-found-2 w ↦ rw w.if-found-2.false (w.target-is ∙ ap not (w.is_skipped.ensures number ∙ rw (kind, size) refl))
]

found_is : (c : goal.After-insert) (r : Request) (before : List VariableDeclaration) (code : List ℕ)
    → AreUses c.args.self.now r before → c.args.declared.code.now ≡ code
    → c.get-found.result ≡ use_of r before code
found_is c r before code uses is = c.get-found.ensures ∙ uses.uses c.args.declared.code.now ∙ ap (use_of r before) is

added_is : (c : goal.After-insert) (r : Request) (before : List VariableDeclaration) (code : List ℕ)
    → c.get-found.result ≡ use_of r before code → bodies c.index_of.new.first
    ≡ (if is_some (position (bytes_eq code) (lasting_codes r before)) || not c.if-is_kept.lasts
    then bodies c.args.self.now.first else bodies c.args.self.now.first ++ [] ∷ [])
added_is c r before code found = c.in_ok-index_of.ensures.added
    ∙ ap (λ (u : CodeUse). if is_some u.index || not c.if-is_kept.lasts then bodies c.args.self.now.first
    else bodies c.args.self.now.first ++ [] ∷ []) found

pub returns-clause-uses : goal.returns-clause-uses
returns-clause-uses c = on_ok_weaker c.insert.result (λ puts r before d uses kind number size code kept.
    let lasts = lasts_is c r d kind kept in
    let found = found_is c r before d.code uses code in
    let all = lasting_codes r before in
    let target : CodeUse = record {
      is_used = c.if-found.target;
      has_signal = c.if-found-2.target;
      index = c.in_ok-index_of.field-0;
    } in
    record {
      uses = λ key. puts key ∙ ap₂ (λ k u. if bytes_eq key k then target else u) code (uses.uses key)
          ∙ use_more r before d c.if-is_kept.lasts target lasts
          (used_is c ∙ ap₂ (λ (u : CodeUse) (b : Bool). u.is_used || b) found kept)
          (signal_is c d kind number size ∙ ap (λ (u : CodeUse). u.has_signal || not (is_skipped d)) found)
          (c.in_ok-index_of.ensures.index ∙ ap₂ (λ (u : CodeUse) (n : ℕ).
          if is_some u.index || not c.if-is_kept.lasts then u.index else Some n) found uses.count) key;
      count = held_more (is_some (position (bytes_eq d.code) all) || not c.if-is_kept.lasts) all d.code
          (bodies c.args.self.now.first) (bodies c.index_of.new.first) [] (added_is c r before d.code found) uses.count
          ∙ sym (ap (length {A = List ℕ}) (lasting_more r before d c.if-is_kept.lasts lasts));
    }) c.insert.ensures

pub returns-clause-none : goal.returns-clause-none
unfolding last_such
returns-clause-none c = on_ok_weaker c.insert.result (λ puts r before d uses kind code kept held.
    let lasts = lasts_is c r d kind kept in
    let found = found_is c r before d.code uses code in
    let all = lasting_codes r before in
    let nothing : List ℕ → List ℕ = λ key. [] in
    record {
      are = none_more (is_some (position (bytes_eq d.code) all) || not c.if-is_kept.lasts) all d.code
          (bodies c.args.self.now.first) (bodies c.index_of.new.first) (added_is c r before d.code found) held.are
          ∙ sym (ap (map nothing) (lasting_more r before d c.if-is_kept.lasts lasts));
      some = held.some;
    }) c.insert.ensures
