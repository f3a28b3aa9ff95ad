-- The signals of a file without the changes of those that are not taken.
use Rattle.std.proofs.Common.{◌≡◌, ℕ, suc, Bool, true, false, not, if◌then◌else◌, List, [], ◌∷◌, map, drop, length}
use Rattle.std.proofs.Common.{refl, sym, ap, subst, ◌∙◌, arith}
use Rattle.std.specs.Prelude.{slice_index_or, ◌≤◌, Option, Some, None, IfSome}
use Rattle.std.proofs.lemmas.List.{length-map}
use Rattle.vcd_core.specs.Contents.{Contents, SignalContents}
use Rattle.vcd_core.specs.declared.capture.TheConstants.{SIGNAL_LIMIT}
use Rattle.vcd_core.specs.Sound.{IsSound}
use Rattle.vcd_core.specs.Outline.{without_changes, outline}
use Rattle.vcd_core.proofs.shared.Outlines.{at_outline, count_in_outline}
use Rattle.vcd_text.specs.Grammar.{VariableDeclaration, ValueChange}
use Rattle.vcd_text.specs.Meaning.{FileMeans, declared_signal}
use Rattle.vcd_text.specs.Parts.{part_of}
use Rattle.vcd_text.specs.inside.reading.Part.{remaining, LeavesOut, undriven, all_ticks}
use Rattle.vcd_text.proofs.part.WholeParts.{file_is_sound}
use Rattle.vcd_text.proofs.part.FewSignals.{few_after, same_limit}
use Rattle.vcd_text.proofs.shared.SoundMeaning.{IsSoundBut}
use Rattle.vcd_hollow.proofs.shared.Hollow.{hollow_is_sound as hollow_stays_sound}
use Rattle.vcd_hollow.specs.HollowPart.{with_taken}
use Rattle.vcd_amend_run.specs.FileParts.{HasOutline, HasHollow, IsHollow}
use Rattle.vcd_amend_run.specs.declared.heard_names.HeardNames.{HeardNames}
use Rattle.vcd_amend_run.specs.inside.HeardNames.{hears, hollow_by, HearsAll}
use Rattle.vcd_amend_run.specs.inside.HollowReading.{IsReadBy}
use Rattle.vcd_amend_run.proofs.hearing.HollowParts.{is_hollow}

-- ---- the declared signals

-- they are the same, whatever their changes
pub same_outlines : (vs ws : List ValueChange) (m n : ℕ) (ds : List VariableDeclaration)
    → map without_changes (map (declared_signal vs m) ds) ≡ map without_changes (map (declared_signal ws n) ds)
same_outlines vs ws m n [] = refl
same_outlines vs ws m n (d ∷ ds) = ap (λ (ss : List SignalContents). undriven d ∷ ss) (same_outlines vs ws m n ds)

pub undriven_signals : (vs : List ValueChange) (m : ℕ) (ds : List VariableDeclaration)
    → map undriven ds ≡ map without_changes (map (declared_signal vs m) ds)
undriven_signals vs m [] = refl
undriven_signals vs m (d ∷ ds) = ap (λ (ss : List SignalContents). undriven d ∷ ss) (undriven_signals vs m ds)

module _ (takes : SignalContents → Bool) where
  one_declared : (b : Bool) (s : SignalContents)
      → without_changes (if b then s else without_changes s) ≡ without_changes s
  one_declared true s = refl
  one_declared false s = refl

  pub hollow_outlines : (ss : List SignalContents)
      → map without_changes (map (hollow_by takes) ss) ≡ map without_changes ss
  hollow_outlines [] = refl
  hollow_outlines (s ∷ ss) = λ i. one_declared (takes s) s i ∷ hollow_outlines ss i

-- ---- those that are taken

-- with the others, if it is taken, and then not left out, or if not
one_more : (t out : Bool) (s : SignalContents) (rest left : List SignalContents)
    (others : List SignalContents → List SignalContents) → out ≡ not t → rest ≡ others left
    → (if t then s else without_changes s) ∷ rest
    ≡ (if t then slice_index_or (if out then left else s ∷ left) 0 (without_changes s)
    ∷ others (drop 1 (if out then left else s ∷ left))
    else without_changes s ∷ others (if out then left else s ∷ left))
one_more true true s rest left others is same = absurd (cc is)
one_more true false s rest left others is same = ap (λ (ss : List SignalContents). s ∷ ss) same
one_more false true s rest left others is same = ap (λ (ss : List SignalContents). without_changes s ∷ ss) same
one_more false false s rest left others is same = absurd (cc is)

module _ (names : HeardNames) where
  pub hollow_signals : (out : List Bool) (ss : List SignalContents)
      → LeavesOut (hears names) (map without_changes ss) out
      → map (hollow_by (hears names)) ss ≡ with_taken (hears names) (map without_changes ss) (remaining out ss)
  hollow_signals [] [] leaves = refl
  hollow_signals [] (s ∷ ss) leaves =
      one_more (hears names s) false s _ ss (with_taken (hears names) (map without_changes ss))
      (leaves 0 (without_changes s) refl) (hollow_signals [] ss (λ position t at. leaves (suc position) t at))
  hollow_signals (b ∷ out) [] leaves = refl
  hollow_signals (b ∷ out) (s ∷ ss) leaves =
      one_more (hears names s) b s _ (remaining out ss) (with_taken (hears names) (map without_changes ss))
      (leaves 0 (without_changes s) refl) (hollow_signals out ss (λ position t at. leaves (suc position) t at))

  -- ---- what is read

  hears_outline : (heard : List Bool) (read whole : Contents) → outline read ≡ outline whole
      → HearsAll (hears names) heard read.signals → HearsAll (hears names) heard (outline whole).signals
  hears_outline heard read whole same all =
      subst (λ (c : Contents). HearsAll (hears names) heard c.signals) same
      (λ k less is. ap (hears names) (at_outline read k) ∙ all k (omega (arith, less, count_in_outline read)) is)

  pub is_read : (limit : ℕ) (file : List ℕ) (whole read : Contents) (skipped : ℕ) → FileMeans limit file whole skipped
      → outline read ≡ outline whole
      → read ≡ record (outline whole) {
        signals = with_taken (hears names) (outline whole).signals (part_of (hears names) all_ticks whole).signals;
      }
      → IsReadBy (hears names) limit file read skipped
  is_read limit file whole read skipped means same is = record {
    whole = whole;
    means = means;
    same = same;
    hollow = λ heard all. is_hollow (hears names) whole heard read (file_is_sound limit file whole skipped means)
        (hears_outline heard read whole same all) is;
  }

  -- a file means no more signals than variables may be kept
  few_are_meant : (limit : ℕ) (file : List ℕ) (c : Contents) (skipped : ℕ) → FileMeans limit file c skipped
      → length c.signals ≤ limit
  few_are_meant limit file c skipped means = grind (arith, few_after, same_limit, length-map)

  -- what is read is sound
  pub hollow_is_sound : (file : List ℕ) (read : Contents) (skipped : ℕ)
      → IsReadBy (hears names) SIGNAL_LIMIT file read skipped → IsSound read
  hollow_is_sound file read skipped r =
      let sound : IsSoundBut r.whole = file_is_sound SIGNAL_LIMIT file r.whole skipped r.means in
      let hollow : IsHollow [] r.whole read = r.hollow [] (λ k less is. absurd (cc is)) in
      subst IsSound (sym hollow.2) (hollow_stays_sound hollow.0 r.whole (record {
        header = sound.header;
        timescale = sound.timescale;
        end = sound.end;
        few = few_are_meant SIGNAL_LIMIT file r.whole skipped r.means;
        signals = sound.signals;
      }))

-- ---- what is known of the file

module _ (coming : Option (List ℕ)) (most limit : ℕ) (takes : SignalContents → Bool) (read : Contents)
    (skipped : ℕ) where
  -- it is not too long
  pub short_is_read : IfSome coming (λ file. (length file ≤ most) × IsReadBy takes limit file read skipped)
      → IfSome coming (λ file. length file ≤ most)
  short_is_read = if_read coming
    where
      if_read : (from : Option (List ℕ))
          → IfSome from (λ file. (length file ≤ most) × IsReadBy takes limit file read skipped)
          → IfSome from (λ file. length file ≤ most)
      if_read None all = tt
      if_read (Some file) (short, r) = short

  -- its outline is
  pub outline_is_read : IfSome coming (λ file. (length file ≤ most) × IsReadBy takes limit file read skipped)
      → IfSome coming (λ file. (length file ≤ most) × HasOutline limit file (outline read) skipped)
  outline_is_read = if_read coming
    where
      if_read : (from : Option (List ℕ))
          → IfSome from (λ file. (length file ≤ most) × IsReadBy takes limit file read skipped)
          → IfSome from (λ file. (length file ≤ most) × HasOutline limit file (outline read) skipped)
      if_read None all = tt
      if_read (Some file) (short, r) = (short, record { whole = r.whole; means = r.means; is = r.same })

  -- and the changes of the signals that are heard, if all of these are taken
  pub hollow_is_read : (first : Contents) (heard : List Bool) → first ≡ read → HearsAll takes heard read.signals
      → IfSome coming (λ file. (length file ≤ most) × IsReadBy takes limit file read skipped)
      → IfSome coming (λ file. (length file ≤ most) × HasHollow limit file (outline read) heard first)
  hollow_is_read first heard same all = if_read coming
    where
      if_read : (from : Option (List ℕ))
          → IfSome from (λ file. (length file ≤ most) × IsReadBy takes limit file read skipped)
          → IfSome from (λ file. (length file ≤ most) × HasHollow limit file (outline read) heard first)
      if_read None known = tt
      if_read (Some file) (short, r) = (
        short,
        record {
          whole = r.whole;
          skipped = skipped;
          means = r.means;
          is = λ _. subst (IsHollow heard r.whole) (sym same) (r.hollow heard all);
        },
      )
