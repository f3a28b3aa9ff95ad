-- Scopes that two paths share. From one path to another, those past the shared prefix are closed, and the
-- others opened.
use Rattle.std.proofs.Common.{◌≡◌, ◌<◌, ◌≤◌, ◌+◌, ◌-◌, min, ℕ, zero, suc, List, [], ◌∷◌, ◌++◌, length, map, replicate}
use Rattle.std.proofs.Common.{drop, get_or, refl, ap, arith, append_assoc, add-one, codes, ◌∙◌, true, false, take, sym}
use Rattle.std.proofs.Common.{ap₂, one-add, Option}
use Rattle.std.specs.List.{common_prefix_len, flat_map, list_all}
use Rattle.std.proofs.lemmas.Grind.{flat_map-append}
use Rattle.std.proofs.lemmas.List.{append-nil, drop_more, drop_all, take_all, take-take, take-append-drop}
use Rattle.std.proofs.lemmas.List.{length-take-le}
use Rattle.std.specs.Cmp.Lexicographic.{pointwise, pointwise_decides}
use Rattle.std.proofs.lemmas.Bool.{and_parts, cond_both}
use Rattle.std.proofs.lemmas.List.Sums.{common_prefix_len-le}
use Rattle.std.proofs.lemmas.Slice.Eq.{bytes_eq-Decides}
use Rattle.std.proofs.lemmas.List.Folds.{list_all-append}
use Rattle.vcd_core.specs.declared.capture.ScopeName.{ScopeName}
use Rattle.vcd_core.specs.declared.capture.Signal.{Signal}
use Rattle.vcd_core.specs.CaptureContents.{signal_contents}
use Rattle.vcd_core.specs.declared.capture.Header.{Header}
use Rattle.vcd_core.specs.declared.capture.Timescale.{Timescale}
use Rattle.vcd_core.specs.Word.{is_word}
use Rattle.vcd_core.specs.Sound.{is_sound_scope}
use Rattle.vcd_core.specs.declared.capture.TheConstants.{SIGNAL_LIMIT}
use Rattle.vcd_text.specs.Items.{upscope, scope, has_no_end_word}
use Rattle.vcd_text.specs.Text.{item_line, same_scope, scope_items, signal_items, variable_item}
use Rattle.vcd_text.specs.Grammar.{ParseState, VariableDeclaration}
use Rattle.vcd_text.proofs.shared.ItemTests.{all_weaker, allows_upscope, allows_scope}
use Rattle.vcd_text.proofs.shared.ItemsInTurn.{Reaches, reaches_none, reaches_first, reaches_both, reaches_same}

-- ==== scopes that two paths share, and lists of words that are the same

-- past the end of either no more is shared
pub none_shared : (xs ys : List ScopeName) (k : ℕ) → min (length xs) (length ys) ≤ k
    → common_prefix_len same_scope (drop k xs) (drop k ys) ≡ 0
none_shared [] ys zero past = refl
none_shared [] ys (suc k) past = refl
none_shared (x ∷ xs) [] zero past = refl
none_shared (x ∷ xs) [] (suc k) past = none (drop k xs)
  where
    none : (zs : List ScopeName) → common_prefix_len same_scope zs [] ≡ 0
    none [] = refl
    none (z ∷ zs) = refl
none_shared (x ∷ xs) (y ∷ ys) zero past = absurd (omega arith)
none_shared (x ∷ xs) (y ∷ ys) (suc k) past = none_shared xs ys k (omega arith)

-- as many are closed as are open
pub all_closed : (opened : List ScopeName) → map (λ s. upscope) opened ≡ replicate (length opened) upscope
all_closed [] = refl
all_closed (s ∷ opened) = ap (λ l. upscope ∷ l) (all_closed opened)

-- one more scope is closed
pub one_closed : (n k : ℕ) → k < n → flat_map item_line (replicate (n - k) upscope) ≡ codes "$upscope $end\n"
    ++ flat_map item_line (replicate (n - (k + 1)) upscope)
one_closed n k within = grind arith

-- one more signal is declared
pub one_declared : (opened path : List ScopeName) (k : ℕ) (signals : List Signal) (s : Signal) → k < length signals
    → s ≡ get_or signals k s → path ≡ s.scopes
    → flat_map item_line (signal_items opened k (map signal_contents (drop k signals)))
    ≡ (flat_map item_line (scope_items opened path) ++ item_line (variable_item k (signal_contents s)))
    ++ flat_map item_line (signal_items path (k + 1) (map signal_contents (drop (k + 1) signals)))
unfolding signal_items
one_declared opened path k signals s within at is = grind (arith, drop_more, flat_map-append, append_assoc, add-one)

-- all signals are declared: the open scopes are closed
pub all_declared : (opened : List ScopeName) (k : ℕ) (signals : List Signal) → length signals ≤ k
    → flat_map item_line (signal_items opened k (map signal_contents (drop k signals)))
    ≡ flat_map item_line (replicate (length opened) upscope) ++ []
unfolding signal_items
all_declared opened k signals past = grind (arith, drop_all, all_closed, append-nil)

-- ==== from one path of scopes to another: the scopes past the shared prefix are closed, and the others opened

-- the state in the middle of the declarations
abbrev pub declaring : List Header → Option Timescale → List ScopeName → List VariableDeclaration → ParseState
declaring header timescale scopes declared =
    record {
      header = header;
      timescale = timescale;
      scopes = scopes;
      declared = declared;
      in_body = false;
      value_changes = [];
      tick = 0;
      limit = SIGNAL_LIMIT;
    }

-- the prefix that two paths share is a prefix of both
shared_prefix : (xs ys : List ScopeName)
    → take (common_prefix_len same_scope xs ys) xs ≡ take (common_prefix_len same_scope xs ys) ys
shared_prefix [] [] = refl
shared_prefix [] (y ∷ ys) = refl
shared_prefix (x ∷ xs) [] = refl
shared_prefix (x ∷ xs) (y ∷ ys) = cond_both (same_scope x y) (1 + common_prefix_len same_scope xs ys) 0 (λ n. take n (x
    ∷ xs) ≡ take n (y ∷ ys)) (λ same. rw (one-add (common_prefix_len same_scope xs ys)) (ap₂ (λ s l. s ∷ l) (grind
    (arith, pointwise, and_parts, bytes_eq-Decides, pointwise_decides)) (shared_prefix xs ys))) (λ other. refl)

-- the scopes from an index on are sound
pub later_scopes : (n : ℕ) (path : List ScopeName) → list_all is_sound_scope path ≡ true
    → list_all is_sound_scope (drop n path) ≡ true
later_scopes n path sound = (and_parts _ _ (sym (list_all-append _ (take n path) (drop n path)) ∙ ap (list_all
    is_sound_scope) (take-append-drop n path) ∙ sound)).1

-- words are not `$end`
pub words_have_no_end : (ws : List (List ℕ)) → list_all is_word ws ≡ true → has_no_end_word ws ≡ true
words_have_no_end ws words = grind (arith, all_weaker, and_parts)

-- the scopes past the prefix of a path are closed, the innermost first
scopes_closed : (h : List Header) (t : Option Timescale) (opened : List ScopeName) (ds : List VariableDeclaration)
    (n : ℕ) → n ≤ length opened
    → Reaches (declaring h t opened ds) (replicate n upscope) (declaring h t (take (length opened - n) opened) ds)
scopes_closed h t opened ds zero within = grind (arith, reaches_same, reaches_none, take_all)
scopes_closed h t opened ds (suc n) within =
    let outer : List ScopeName = take (length opened - 1) opened in
    let one_less : length outer ≡ length opened - 1 = length-take-le (length opened - 1) opened (omega arith) in
    let left : length outer - n ≡ length opened - suc n = omega arith in
    reaches_first _ _ _ _ (allows_upscope (declaring h t opened ds) refl (omega arith))
    (grind (arith, reaches_same, take-take, scopes_closed h t outer ds n (omega arith)))

-- scopes are opened, the outermost first
scopes_opened : (h : List Header) (t : Option Timescale) (prefix path : List ScopeName) (ds : List VariableDeclaration)
    → list_all is_sound_scope path ≡ true
    → Reaches (declaring h t prefix ds) (map (λ s. scope s.kind s.words) path) (declaring h t (prefix ++ path) ds)
scopes_opened h t prefix [] ds sound = grind (arith, reaches_same, reaches_none, append-nil)
scopes_opened h t prefix (s ∷ path) ds sound =
    let parts : (is_sound_scope s ≡ true) × (list_all is_sound_scope path ≡ true) = grind (arith, and_parts) in
    reaches_first _ _ _ _ (grind (arith, allows_scope, words_have_no_end))
    (grind (arith, reaches_same, append_assoc, scopes_opened h t (prefix ++ s ∷ []) path ds parts.1))

-- from one path to another
pub scopes_lead : (h : List Header) (t : Option Timescale) (opened path : List ScopeName)
    (ds : List VariableDeclaration) → list_all is_sound_scope path ≡ true
    → Reaches (declaring h t opened ds) (scope_items opened path) (declaring h t path ds)
scopes_lead h t opened path ds sound =
    let shared : ℕ = common_prefix_len same_scope opened path in
    let within : shared ≤ length opened = (common_prefix_len-le same_scope opened path).0 in
    let kept : length opened - (length opened - shared) ≡ shared = omega arith in
    let prefix : List ScopeName = take shared path in
    let reached : take (length opened - (length opened - shared)) opened ≡ prefix = grind (arith, shared_prefix) in
    reaches_both _ _ _ _ _ (reaches_same _ _ _ _ (scopes_closed h t opened ds _ (omega arith))
    (ap (λ s. declaring h t s ds) reached)) (reaches_same _ _ _ _ (scopes_opened h t prefix _ ds
    (later_scopes shared path sound)) (ap (λ s. declaring h t s ds) (take-append-drop shared path)))

-- all scopes are closed
pub scopes_end : (h : List Header) (t : Option Timescale) (opened : List ScopeName) (ds : List VariableDeclaration)
    → Reaches (declaring h t opened ds) (map (λ s. upscope) opened) (declaring h t [] ds)
scopes_end h t opened ds =
    let none : length opened - length opened ≡ 0 = omega arith in
    rw (all_closed opened) (reaches_same _ _ _ _ (scopes_closed h t opened ds (length opened) (omega arith))
    (ap (λ m. declaring h t (take m opened) ds) none))
