-- The first of several signals that have one name, and the remark on it.
use Rattle.std.proofs.Common.{◌≡◌, ◌<◌, ℕ, ◌-◌, ◌&&◌, Bool, true, false, List, [], ◌∷◌, ◌++◌, length}
use Rattle.std.proofs.Common.{map, take, drop, get_or, if◌then◌else◌, refl, sym, ap, ◌∙◌, append_assoc, arith}
use Rattle.std.specs.Prelude.{slice_index_or}
use Rattle.std.specs.List.{list_any, count_by}
use Rattle.std.specs.Str.{bytes_eq}
use Rattle.std.proofs.lemmas.List.{append-nil, take_all, length-map, length-drop, take-map, drop-map, get_or-map}
use Rattle.vcd_core.specs.declared.capture.Signal.{Signal}
use Rattle.vcd_core.specs.Contents.{SignalContents}
use Rattle.vcd_core.specs.CaptureContents.{signal_contents}
use Rattle.vcd_core.specs.Names.{full_name, full_names}
use Rattle.vcd_remarks.specs.NameRemarks.{has_word, several_text, is_first_of_several, several_remark, name_remark}
use Rattle.vcd_remarks.specs.Remarks.{remarks_text}

-- ---- the names of signals

abbrev names_of : List Signal → List (List ℕ)
names_of signals = full_names (map signal_contents signals)

-- the name of the signal at a position
pub name_at : (signals lent : List Signal) (k : ℕ) (s : Signal) → lent ≡ signals → k < length lent → s ≡ get_or lent k s
    → slice_index_or (names_of signals) k [] ≡ full_name (signal_contents s)
name_at signals lent k s whole there is =
    ap (λ (ss : List Signal). slice_index_or (names_of ss) k []) (sym whole)
    ∙ get_or-map full_name (map signal_contents lent) k (signal_contents s) []
    (rw (length-map lent signal_contents) there)
    ∙ ap full_name (get_or-map signal_contents lent k s (signal_contents s) there)
    ∙ ap (λ (x : Signal). full_name (signal_contents x)) (sym is)

-- the names of the signals before a position, and of those after it
pub names_before : (name bytes : List ℕ) (signals lent : List Signal) (k : ℕ) → lent ≡ signals → bytes ≡ name
    → list_any (bytes_eq bytes) (names_of (take k lent)) ≡ list_any (bytes_eq name) (take k (names_of signals))
names_before name bytes signals lent k whole same =
    (λ i. list_any (bytes_eq (same i)) (names_of (take k (whole i))))
    ∙ ap (λ (ss : List SignalContents). list_any (bytes_eq name) (full_names ss))
    (sym (take-map signal_contents k signals))
    ∙ ap (list_any (bytes_eq name)) (sym (take-map full_name k (map signal_contents signals)))

pub names_after : (name bytes : List ℕ) (signals lent : List Signal) (k : ℕ) → lent ≡ signals → bytes ≡ name
    → list_any (bytes_eq bytes) (names_of (take (length lent - k) (drop k lent)))
    ≡ list_any (bytes_eq name) (drop k (names_of signals))
names_after name bytes signals lent k whole same =
    (λ i. list_any (bytes_eq (same i)) (names_of (take (length (whole i) - k) (drop k (whole i)))))
    ∙ ap (λ (ss : List Signal). list_any (bytes_eq name) (names_of ss))
    (take_all (length signals - k) (drop k signals) (omega (arith, length-drop k signals)))
    ∙ ap (λ (ss : List SignalContents). list_any (bytes_eq name) (full_names ss))
    (sym (drop-map signal_contents k signals))
    ∙ ap (list_any (bytes_eq name)) (sym (drop-map full_name k (map signal_contents signals)))

-- ---- the remark

-- its parts
pub six_in_turn : (start one two three four a b c d e f : List ℕ) → one ≡ start ++ a → two ≡ one ++ b → three ≡ two ++ c
    → four ≡ three ++ d ++ e ++ f → four ≡ start ++ (a ++ b ++ c ++ d ++ e ++ f)
six_in_turn start one two three four a b c d e f first second third last =
    rw (last, third, second, first) (simp append_assoc)

-- on the signal at a position, which has this name
module _ (names : List (List ℕ)) (line name : List ℕ) (k : ℕ) (is : slice_index_or names k [] ≡ name) where
  remark_if : (b : Bool) → (is_first_of_several names name k && has_word line name) ≡ b
      → name_remark names line k
      ≡ (if b then several_text (count_by (bytes_eq name) names) name k ∷ [] else [])
  remark_if b holds =
      ap (λ n. several_remark names line n k) is
      ∙ ap (λ (t : Bool). if t then several_text (count_by (bytes_eq name) names) name k ∷ [] else []) holds

  no_remark : (number : ℕ) (start : List ℕ) → name_remark names line k ≡ []
      → start ≡ start ++ remarks_text number (name_remark names line k)
  no_remark number start none =
      sym (append-nil start) ∙ ap (λ rs. start ++ remarks_text number rs) (sym none)

  and_false : (b : Bool) → (b && false) ≡ false
  and_false true = refl
  and_false false = refl

  -- the line does not have the name
  pub absent : (number : ℕ) (start : List ℕ) → has_word line name ≡ false
      → start ≡ start ++ remarks_text number (name_remark names line k)
  absent number start not_there = no_remark number start (remark_if false
      (ap (λ b. is_first_of_several names name k && b) not_there ∙ and_false (is_first_of_several names name k)))

  -- it is not the first of several
  pub not_first : (number : ℕ) (start : List ℕ) → is_first_of_several names name k ≡ false
      → start ≡ start ++ remarks_text number (name_remark names line k)
  not_first number start other =
      no_remark number start (remark_if false (ap (λ b. b && has_word line name) other))

  pub first_named : is_first_of_several names name k ≡ true → has_word line name ≡ true
      → several_text (count_by (bytes_eq name) names) name k ∷ [] ≡ name_remark names line k
  first_named first there = sym (remark_if true (λ i. first i && there i))
