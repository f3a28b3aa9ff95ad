-- Changes given to a reply, one after another.
use Rattle.std.proofs.Common.{◌≡◌, ◌<◌, ◌≤◌, ◌+◌, ℕ, List, [], ◌∷◌, ◌++◌, refl, sym, ap, ◌∙◌, append_assoc, length}
use Rattle.std.proofs.Common.{drop, Option, Some, None, get_or, arith}
use Rattle.std.specs.Prelude.{slice_get}
use Rattle.std.proofs.lemmas.List.{drop_all, drop_more}
use Rattle.std.proofs.lemmas.Option.{slice_get_within, get_or_from_slice_get}
use Rattle.vcd_core.specs.declared.bit_edges.BitEdge.{BitEdge}
use Rattle.vcd_text.specs.HeardChanges.{HeardChange}
use Rattle.vcd_amend.specs.declared.cut_ticks.CutTicks.{CutTicks}
use Rattle.vcd_decode.specs.inside.EdgeMaker.{edges_left}
use Rattle.vcd_amend_run.specs.inside.FileLines.{changes_of_line, changes_of_lines, changes_of_heard}
use Rattle.vcd_amend_run.specs.inside.PassSteps.{HasGiven, HasGivenAll}
use Rattle.vcd_decode.specs.declared.edge_maker.EdgeMaker.{EdgeMaker}
use Rattle.vcd_decode.specs.declared.edge_maker.LineChange.{LineChange}

module _ {F : Type 0} (text_left : F → List BitEdge → List ℕ) (remarks_left : F → List BitEdge → List (List ℕ)) where
  -- nothing is given
  pub none_given : (due : List LineChange) (m : EdgeMaker) (f : F) (text : List ℕ)
      → HasGiven text_left remarks_left due due m m f f text text
  none_given due m f text = record { text = λ more. refl; remarks = λ more. refl }

  -- the next ones are given
  pub given_next : (due left fed rest : List LineChange) (first from to : EdgeMaker) (before now after : F)
      (old text new : List ℕ) → left ≡ fed ++ rest
      → HasGiven text_left remarks_left due left first from before now old text
      → HasGivenAll text_left remarks_left fed from to now after text new
      → HasGiven text_left remarks_left due rest first to before after old new
  given_next due left fed rest first from to before now after old text new parts given next = record {
    text = λ more.
        next.text (rest ++ more)
        ∙ ap (λ cs. text ++ text_left now (edges_left from cs))
        (sym (ap (λ cs. cs ++ more) parts ∙ append_assoc fed rest more))
        ∙ given.text more;
    remarks = λ more.
        next.remarks (rest ++ more)
        ∙ ap (λ cs. remarks_left now (edges_left from cs))
        (sym (ap (λ cs. cs ++ more) parts ∙ append_assoc fed rest more))
        ∙ given.remarks more;
  }

-- ---- the changes of lines, and of heard changes

-- the changes of a line and those of the following ones
pub next_line : (cuts : List CutTicks) (firsts : List (Option ℕ)) (line : ℕ) (h : HeardChange) → line < length firsts
    → changes_of_lines cuts (drop line firsts) line h
    ≡ changes_of_line cuts (get_or firsts line None) line h
    ++ changes_of_lines cuts (drop (line + 1) firsts) (line + 1) h
unfolding changes_of_lines
next_line cuts firsts line h within =
    ap (λ (fs : List (Option ℕ)). changes_of_lines cuts fs line h) (drop_more firsts line None within)

pub no_line : (cuts : List CutTicks) (firsts : List (Option ℕ)) (line from : ℕ) (h : HeardChange) → length firsts ≤ line
    → changes_of_lines cuts (drop line firsts) from h ≡ []
unfolding changes_of_lines
no_line cuts firsts line from h past =
    ap (λ (fs : List (Option ℕ)). changes_of_lines cuts fs from h) (drop_all line firsts past)

-- the changes at a heard change and at the following ones
pub next_heard : (cuts : List CutTicks) (firsts : List (Option ℕ)) (hs : List HeardChange) (k : ℕ) (h : HeardChange)
    → slice_get hs k ≡ Some h
    → changes_of_heard cuts firsts (drop k hs)
    ≡ changes_of_lines cuts firsts 0 h ++ changes_of_heard cuts firsts (drop (k + 1) hs)
unfolding changes_of_heard
next_heard cuts firsts hs k h at =
    ap (λ (l : List HeardChange). changes_of_heard cuts firsts l)
    (drop_more hs k h (slice_get_within hs k h at)
    ∙ ap (λ (x : HeardChange). x ∷ drop (k + 1) hs) (get_or_from_slice_get hs k h h at))

pub none_heard : (cuts : List CutTicks) (firsts : List (Option ℕ)) (hs : List HeardChange) (k : ℕ) → length hs ≤ k
    → changes_of_heard cuts firsts (drop k hs) ≡ []
unfolding changes_of_heard
none_heard cuts firsts hs k past =
    ap (λ (l : List HeardChange). changes_of_heard cuts firsts l) (drop_all k hs past)

-- ---- lines

-- the four lines, one by one
pub four_lines : (lines : List (Option ℕ)) → length lines ≡ 4
    → lines ≡ get_or lines 0 None ∷ get_or lines 1 None ∷ get_or lines 2 None ∷ get_or lines 3 None ∷ []
four_lines (a ∷ b ∷ c ∷ d ∷ []) four = refl
four_lines [] four = absurd (omega (arith, four))
four_lines (a ∷ []) four = absurd (omega (arith, four))
four_lines (a ∷ b ∷ []) four = absurd (omega (arith, four))
four_lines (a ∷ b ∷ c ∷ []) four = absurd (omega (arith, four))
four_lines (a ∷ b ∷ c ∷ d ∷ e ∷ rest) four = absurd (omega (arith, four))
