-- The marks of signals.
use Rattle.std.proofs.Common.{◌≡◌, ◌<◌, ℕ, zero, suc, Bool, true, false, ◌||◌, List, [], ◌∷◌, length, get_or, set, refl}
use Rattle.std.proofs.Common.{subst, ◌∙◌, arith, Option, Some, None}
use Rattle.std.specs.Prelude.{nat_eq}
use Rattle.std.specs.List.{AllByRecursion, list_any, slice_get, cons_option}
use Rattle.std.proofs.lemmas.Bool.Decides.{nat_tests}
use Rattle.std.proofs.lemmas.Grind.{get_or-set_at}
use Rattle.std.proofs.lemmas.List.{length-set}
use Rattle.std.proofs.lemmas.Option.{same_Some}
use Rattle.vcd_core.specs.SignalOrigins.{RiseWithin}
use Rattle.vcd_hollow.specs.HollowRun.{origins_at, AreHeard}
use Rattle.vcd_amend_run.specs.inside.dry_running.LinePlan.{marked}

pub length-marked : (marks : List Bool) (ks : List ℕ) → length (marked marks ks) ≡ length marks
length-marked marks [] = refl
length-marked marks (k ∷ ks) = length-marked (set marks k true) ks ∙ length-set marks k true

-- ---- marks stay

kept_by_mark : (marks : List Bool) (j k : ℕ) → get_or marks k false ≡ true → get_or (set marks j true) k false ≡ true
kept_by_mark [] j k was = was
kept_by_mark (m ∷ marks) zero zero was = refl
kept_by_mark (m ∷ marks) zero (suc k) was = was
kept_by_mark (m ∷ marks) (suc j) zero was = was
kept_by_mark (m ∷ marks) (suc j) (suc k) was = kept_by_mark marks j k was

pub marks_stay : (marks : List Bool) (ks : List ℕ) (k : ℕ) → get_or marks k false ≡ true
    → get_or (marked marks ks) k false ≡ true
marks_stay marks [] k was = was
marks_stay marks (j ∷ ks) k was = marks_stay (set marks j true) ks k (kept_by_mark marks j k was)

-- ---- what is marked

marked_first : (marks : List Bool) (ks : List ℕ) (j k : ℕ) → k ≡ j → k < length marks
    → get_or (marked (set marks j true) ks) k false ≡ true
marked_first marks ks j k same less =
    marks_stay (set marks j true) ks k (get_or-set_at marks j k true false same (omega (arith, less, same)))

same_number : (k j : ℕ) → nat_eq k j ≡ true → k ≡ j
same_number k j same = grind (arith, nat_tests)

one_or_later : (marks : List Bool) (ks : List ℕ) (j k : ℕ) (same : Bool) → nat_eq k j ≡ same → k < length marks →
    (list_any (nat_eq k) ks ≡ true → get_or (marked (set marks j true) ks) k false ≡ true)
    → (same || list_any (nat_eq k) ks) ≡ true → get_or (marked (set marks j true) ks) k false ≡ true
one_or_later marks ks j k true same less later any = marked_first marks ks j k (same_number k j same) less
one_or_later marks ks j k false same less later any = later any

pub marked_if_any : (marks : List Bool) (ks : List ℕ) (k : ℕ) → k < length marks → list_any (nat_eq k) ks ≡ true
    → get_or (marked marks ks) k false ≡ true
marked_if_any marks [] k less any = absurd (cc)
marked_if_any marks (j ∷ ks) k less any =
    one_or_later marks ks j k (nat_eq k j) refl less
    (marked_if_any (set marks j true) ks k (rw (length-set marks j true) less)) any

-- what is silent where no mark is, is heard where marks were made
pub all_are_heard : (silent : ℕ → Bool) (marks : List Bool) (ks : List ℕ) →
    ((k : ℕ) → get_or (marked marks ks) k false ≡ true → silent k ≡ false) → AllByRecursion (λ k. k < length marks) ks
    → AreHeard silent ks
all_are_heard silent marks [] avoids within = tt
all_are_heard silent marks (k ∷ ks) avoids within = (
  avoids k (marked_first marks ks k k refl within.0),
  all_are_heard silent (set marks k true) ks avoids (rw (length-set marks k true) within.1),
)

-- ---- origins are positions in the first capture

one_below : (floor count : ℕ) (os : List ℕ) (k j : ℕ) → RiseWithin floor count os → slice_get os k ≡ Some j
    → j < count
one_below floor count [] k j rise at = absurd (cc)
one_below floor count (o ∷ os) zero j rise at = subst (λ n. n < count) (same_Some o j at) rise.1
one_below floor count (o ∷ os) (suc k) j rise at = one_below (suc o) count os k j rise.2 at

one_more_below : (count : ℕ) (o : Option ℕ) (js : List ℕ) → ((j : ℕ) → o ≡ Some j → j < count)
    → AllByRecursion (λ j. j < count) js → AllByRecursion (λ j. j < count) (cons_option o js)
one_more_below count None js each below = below
one_more_below count (Some j) js each below = (each j refl, below)

pub all_below : (count : ℕ) (os ks : List ℕ) → RiseWithin 0 count os
    → AllByRecursion (λ j. j < count) (origins_at os ks)
all_below count os [] rise = tt
all_below count os (k ∷ ks) rise =
    one_more_below count (slice_get os k) (origins_at os ks) (λ j at. one_below 0 count os k j rise at)
    (all_below count os ks rise)
