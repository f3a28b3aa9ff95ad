-- The lines of a mark, one after another.
use Rattle.std.proofs.Common.{◌≡◌, ◌++◌, ◌∷◌, [], ℕ, Bool, true, false, List, length, take, drop, map}
use Rattle.std.proofs.Common.{refl, sym, ap, ◌∙◌, append_assoc, append-nil}
use Rattle.std.specs.Prelude.{if◌then◌else◌, bytes_eq}
use Rattle.std.specs.Borrow.{Bor}
use Rattle.std.specs.List.{flat_map}
use Rattle.std.proofs.lemmas.List.{map-append}
use Rattle.vcd_script.specs.Script.{script_lines}
use Rattle.vcd_amend_program.specs.FoundMarks.{rests_after, said_after}

-- by whether the first line begins so
pub begins : (first line : List ℕ) (rest following : List ℕ) → script_lines rest ≡ line ∷ script_lines following
    → bytes_eq (take (length first) line) first ≡ true
    → said_after first rest ≡ drop (length first) line ∷ said_after first following
begins first line rest following is test =
    ap (rests_after first) is
    ∙ ap (λ t. if t then drop (length first) line ∷ said_after first following else said_after first following) test

pub begins_otherwise : (first line : List ℕ) (rest following : List ℕ)
    → script_lines rest ≡ line ∷ script_lines following → bytes_eq (take (length first) line) first ≡ false
    → said_after first rest ≡ said_after first following
begins_otherwise first line rest following is test =
    ap (rests_after first) is
    ∙ ap (λ t. if t then drop (length first) line ∷ said_after first following else said_after first following) test

-- an empty rest says nothing
pub none_said : (first rest : List ℕ) → rest ≡ [] → said_after first rest ≡ []
unfolding script_lines
none_said first rest none = ap (said_after first) none

-- one line more of a list of lines, each of which gives these bytes
pub script_more : (all done rest following line : List ℕ) (first : List ℕ)
    → flat_map (λ l. l ++ 10 ∷ []) (said_after first all)
    ≡ done ++ flat_map (λ l. l ++ 10 ∷ []) (said_after first rest)
    → said_after first rest ≡ line ∷ said_after first following
    → flat_map (λ l. l ++ 10 ∷ []) (said_after first all)
    ≡ ((done ++ line) ++ 10 ∷ []) ++ flat_map (λ l. l ++ 10 ∷ []) (said_after first following)
script_more all done rest following line first so step =
    let left = flat_map (λ l. l ++ 10 ∷ []) (said_after first following) in
    so
    ∙ ap (λ l. done ++ flat_map (λ l. l ++ 10 ∷ []) l) step
    ∙ sym (append_assoc done (line ++ 10 ∷ []) left)
    ∙ ap (λ l. l ++ left) (sym (append_assoc done line (10 ∷ [])))

-- nothing is left
pub script_whole : (all done rest : List ℕ) (first : List ℕ)
    → flat_map (λ l. l ++ 10 ∷ []) (said_after first all)
    ≡ done ++ flat_map (λ l. l ++ 10 ∷ []) (said_after first rest)
    → said_after first rest ≡ [] → done ≡ flat_map (λ l. l ++ 10 ∷ []) (said_after first all)
script_whole all done rest first so none =
    sym (so ∙ ap (λ l. done ++ flat_map (λ l. l ++ 10 ∷ []) l) none ∙ append-nil done)

-- texts, one more and all
pub texts_more : (all : List (List ℕ)) (done : List (Bor (List ℕ))) (text : Bor (List ℕ)) (line : List ℕ)
    (rest following : List (List ℕ)) → all ≡ map (λ t. t.now) done ++ rest → rest ≡ line ∷ following
    → text.now ≡ line → all ≡ map (λ t. t.now) (done ++ text ∷ []) ++ following
texts_more all done text line rest following so step is =
    so
    ∙ ap (λ l. map (λ t. t.now) done ++ l) (step ∙ ap (λ l. l ∷ following) (sym is))
    ∙ sym (append_assoc (map (λ t. t.now) done) (text.now ∷ []) following)
    ∙ ap (λ l. l ++ following) (sym (map-append (λ (t : Bor (List ℕ)). t.now) done (text ∷ [])))

pub texts_whole : (all rest : List (List ℕ)) (done : List (Bor (List ℕ))) → all ≡ map (λ t. t.now) done ++ rest
    → rest ≡ [] → map (λ t. t.now) done ≡ all
texts_whole all rest done so none =
    sym (so ∙ ap (λ l. map (λ t. t.now) done ++ l) none ∙ append-nil (map (λ t. t.now) done))
