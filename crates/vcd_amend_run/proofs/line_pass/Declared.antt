-- Where a change was heard, the declarations have ended, so that the lines of a file stay.
use Rattle.std.proofs.Common.{◌≡◌, ℕ, List, [], ◌∷◌, ◌++◌, refl, sym, ap, subst, ◌∙◌, inl, inr, append_assoc}
use Rattle.std.proofs.Common.{Option}
use Rattle.std.specs.Prelude.{IsTrue, IsFalse}
use Rattle.std.proofs.lemmas.Bool.{cases_Bool, and_parts, both_ways}
use Rattle.vcd_core.specs.declared.capture.TheConstants.{SIGNAL_LIMIT}
use Rattle.vcd_text.specs.Items.{Item, entry, timescale, scope, upscope, variable, end_definitions, stamp, scalar}
use Rattle.vcd_text.specs.Items.{vector, real_or_string, dump_word, other}
use Rattle.vcd_text.specs.Grammar.{ParseState, AllowsAll, fits, state_after, state_after_item}
use Rattle.vcd_text.specs.Grammar.{initial_state, kept_variables}
use Rattle.vcd_text.specs.HeardChanges.{HeardChange, AreHeard, heard_all, heard_of}
use Rattle.vcd_text.proofs.shared.HeardMeaning.{declarations_stay}
use Rattle.vcd_amend.specs.declared.cut_ticks.CutTicks.{CutTicks}
use Rattle.vcd_amend_run.specs.inside.FileLines.{changes_of_lines, changes_of_heard, file_changes, firsts_of}
use Rattle.vcd_amend_run.specs.inside.PassSteps.{changes_so_far}
use Rattle.vcd_amend_run.specs.declared.streamed_line.StreamedLine.{StreamedLine}

-- ---- the end of the declarations

none_of_declarations : (s : ParseState) (i : Item) → IsTrue (fits s i) → IsFalse s.in_body → heard_of s i ≡ []
none_of_declarations s (scalar digit code) fit early = absurd (both_ways _ early (and_parts _ _ fit).0)
none_of_declarations s (vector first digits code) fit early = absurd (both_ways _ early (and_parts _ _ fit).0)
none_of_declarations s (real_or_string first text code) fit early = absurd (both_ways _ early (and_parts _ _ fit).0)
none_of_declarations s (entry kind words) fit early = refl
none_of_declarations s (timescale words) fit early = refl
none_of_declarations s (scope kind words) fit early = refl
none_of_declarations s upscope fit early = refl
none_of_declarations s (variable words) fit early = refl
none_of_declarations s end_definitions fit early = refl
none_of_declarations s (stamp digits) fit early = refl
none_of_declarations s (dump_word word) fit early = refl
none_of_declarations s (other word words) fit early = refl

body_has_begun : (s : ParseState) (is : List Item) (h : HeardChange) (hs : List HeardChange) → AllowsAll s is
    → heard_all s is ≡ h ∷ hs → IsTrue (state_after s is).in_body
unfolding heard_all
body_has_begun s [] h hs allowed heard = absurd (cc heard)
body_has_begun s (i ∷ is) h hs (one, others) heard =
    elim (cases_Bool s.in_body) [
      | inl in_body ↦ (declarations_stay s (state_after s (i ∷ is)) (heard_all s (i ∷ is))
          (record { items = i ∷ is; allowed = (one, others); state_is = refl; heard_is = refl }) in_body).0
      | inr early ↦ body_has_begun (state_after_item s i) is h hs others
          (ap (λ ks. ks ++ heard_all (state_after_item s i) is) (sym (none_of_declarations s i one.0 early)) ∙ heard)
    ]

-- where a change was heard, the declarations have ended
declared_where_heard : (from to : ParseState) (h : HeardChange) (hs : List HeardChange) → AreHeard from to (h ∷ hs)
    → IsTrue to.in_body
declared_where_heard from to h hs are =
    subst (λ s. IsTrue s.in_body) are.state_is (body_has_begun from are.items h hs are.allowed (sym are.heard_is))

-- ---- the changes of lines

both_changes : (cuts : List CutTicks) (firsts : List (Option ℕ)) (hs ks : List HeardChange)
    → changes_of_heard cuts firsts (hs ++ ks) ≡ changes_of_heard cuts firsts hs ++ changes_of_heard cuts firsts ks
unfolding changes_of_heard
both_changes cuts firsts [] ks = refl
both_changes cuts firsts (h ∷ hs) ks =
    ap (λ cs. changes_of_lines cuts firsts 0 h ++ cs) (both_changes cuts firsts hs ks)
    ∙ sym (append_assoc (changes_of_lines cuts firsts 0 h) (changes_of_heard cuts firsts hs)
    (changes_of_heard cuts firsts ks))

module _ (s : StreamedLine) (state later : ParseState) (more : List HeardChange) where
  changes_stay : (heard : List HeardChange) → AreHeard (initial_state SIGNAL_LIMIT) state heard
      → AreHeard state later more → changes_so_far s later heard ≡ changes_so_far s state heard
  unfolding changes_of_heard
  changes_stay [] before after = refl
  changes_stay (h ∷ hs) before after =
      ap (λ ds. file_changes s.cuts.items s.lines (kept_variables ds) (h ∷ hs))
      (declarations_stay state later more after
      (declared_where_heard (initial_state SIGNAL_LIMIT) state h hs before)).1

  -- the changes of what was heard before and after a state of the file
  pub changes_parts : (heard : List HeardChange) → AreHeard (initial_state SIGNAL_LIMIT) state heard
      → AreHeard state later more
      → changes_so_far s later (heard ++ more) ≡ changes_so_far s state heard ++ changes_so_far s later more
  changes_parts heard before after =
      both_changes s.cuts.items (firsts_of (kept_variables later.declared) s.lines) heard more
      ∙ ap (λ cs. cs ++ changes_so_far s later more) (changes_stay heard before after)
