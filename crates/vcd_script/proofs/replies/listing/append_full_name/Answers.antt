use Rattle.std.proofs.Common.{◌++◌, List, ℕ, ap, ◌∙◌, arith}
use Rattle.std.specs.List.{concat}
use Rattle.vcd_core.specs.declared.capture.ScopeName.{ScopeName}
use Rattle.vcd_core.specs.Names.{name_in}
use Rattle.vcd_script.proofs.replies.PrintedSignals.{scope_printed, name_printed}
use Rattle.vcd_script.proofs.replies.listing.append_full_name.Goals as goal

pub loop-scope-preserved : goal.loop-scope-preserved
loop-scope-preserved c =
    scope_printed c.as_slice-scopes.result.now c.args.signal.now.words c.loop-scope.scope-index c.scope-item.result
    c.loop-scope.text.items c.append_words.new.text.items c.push.new.self.items _
    (omega arith) c.scope-item.is
    (c.in_ok-append_words.ensures
    ∙ ap (λ (words : List (List ℕ)). c.loop-scope.text.items ++ concat words) c.as_slice.ensures)
    c.in_ok-push.ensures.items c.loop-scope.invariant

pub returns : goal.returns
returns c =
    name_printed c.as_slice-scopes.result.now c.args.signal.now.words c.loop-scope.scope-index c.loop-scope.text.items
    c.append_words-2.new.text.items _ (omega arith)
    (c.in_ok-append_words-2.ensures
    ∙ ap (λ (words : List (List ℕ)). c.loop-scope.text.items ++ concat words) c.as_slice-2.ensures)
    c.loop-scope.invariant
    ∙ ap (λ (scopes : List ScopeName). c.args.text.now.items ++ name_in scopes c.args.signal.now.words)
    c.as_slice-scopes.ensures
