-- Names and lines of signals, printed piece by piece.
use Rattle.std.proofs.Common.{◌≡◌, ◌<◌, ◌≤◌, ◌+◌, ℕ, List, [], ◌∷◌, ◌++◌, length, map, drop, get_or, sym, ap, ◌∙◌}
use Rattle.std.proofs.Common.{append_assoc}
use Rattle.std.specs.List.{concat, flat_map}
use Rattle.std.proofs.lemmas.List.{append-nil, drop_all, drop_more}
use Rattle.vcd_core.specs.declared.capture.ScopeName.{ScopeName}
use Rattle.vcd_core.specs.declared.capture.Signal.{Signal}
use Rattle.vcd_core.specs.CaptureContents.{signal_contents}
use Rattle.vcd_core.specs.Names.{name_in, scope_text}
use Rattle.vcd_core.proofs.shared.FullNames.{name_in-none, name_in-scope}
use Rattle.vcd_script.specs.Queries.{signal_line}
use Rattle.vcd_script.specs.inside.replies.Listing.{signal_lines}
use Rattle.vcd_script.specs.inside.replies.Reply.{with_line_feed}

-- ---- full names

-- the name of a scope and a `.` (46) are printed
pub scope_printed : (scopes : List ScopeName) (words : List (List ℕ)) (i : ℕ) (s : ScopeName)
    (out with_scope new whole : List ℕ) → i < length scopes → s ≡ get_or scopes i s →
    with_scope ≡ out ++ scope_text s → new ≡ with_scope ++ 46 ∷ [] → out ++ name_in (drop i scopes) words ≡ whole
    → new ++ name_in (drop (i + 1) scopes) words ≡ whole
scope_printed scopes words i s out with_scope new whole within is first second all =
    let rest = name_in (drop (i + 1) scopes) words in
    ap (λ (l : List ℕ). l ++ rest) (second ∙ ap (λ (l : List ℕ). l ++ 46 ∷ []) first)
    ∙ append_assoc (out ++ scope_text s) (46 ∷ []) rest ∙ append_assoc out (scope_text s) (46 ∷ rest)
    ∙ ap (λ (l : List ℕ). out ++ l) (sym (name_in-scope s (drop (i + 1) scopes) words))
    ∙ ap (λ (l : List ScopeName). out ++ name_in l words)
    (sym (drop_more scopes i s within ∙ ap (λ (x : ScopeName). x ∷ drop (i + 1) scopes) (sym is))) ∙ all

-- no scope is left, and the signal's own name is printed
pub name_printed : (scopes : List ScopeName) (words : List (List ℕ)) (i : ℕ) (out new whole : List ℕ)
    → length scopes ≤ i → new ≡ out ++ concat words → out ++ name_in (drop i scopes) words ≡ whole → new ≡ whole
name_printed scopes words i out new whole past grown all =
    grown ∙ ap (λ (l : List ℕ). out ++ l) (sym (name_in-none words))
    ∙ ap (λ (l : List ScopeName). out ++ name_in l words) (sym (drop_all i scopes past)) ∙ all

-- ---- lines of signals

-- the lines of signals, the first at this position
abbrev pub text_of_signals : ℕ → List Signal → List ℕ
text_of_signals k signals = flat_map with_line_feed (signal_lines k (map signal_contents signals))

-- a line is printed
pub signal_printed : (k : ℕ) (signals : List Signal) (s : Signal) (out new whole : List ℕ) → k < length signals
    → s ≡ get_or signals k s → new ≡ out ++ with_line_feed (signal_line k (signal_contents s)) →
    out ++ text_of_signals k (drop k signals) ≡ whole → new ++ text_of_signals (k + 1) (drop (k + 1) signals) ≡ whole
signal_printed k signals s out new whole within is grown all =
    let rest = text_of_signals (k + 1) (drop (k + 1) signals) in
    ap (λ (l : List ℕ). l ++ rest) grown ∙ append_assoc out (with_line_feed (signal_line k (signal_contents s))) rest
    ∙ ap (λ (l : List Signal). out ++ text_of_signals k l)
    (sym (drop_more signals k s within ∙ ap (λ (x : Signal). x ∷ drop (k + 1) signals) (sym is))) ∙ all

-- no signal is left
pub signals_printed : (k : ℕ) (signals : List Signal) (out whole : List ℕ) → length signals ≤ k
    → out ++ text_of_signals k (drop k signals) ≡ whole → out ≡ whole
signals_printed k signals out whole past all = sym (append-nil out)
    ∙ ap (λ (l : List Signal). out ++ text_of_signals k l) (sym (drop_all k signals past)) ∙ all
