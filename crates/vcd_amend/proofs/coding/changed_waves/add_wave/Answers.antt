use Rattle.std.proofs.Common.{◌≡◌, ◌∙◌, ◌++◌, ◌∷◌, ◌&&◌, [], true, false, length, refl, sym, ap₂, subst, ℕ, List}
use Rattle.std.specs.Prelude.{Some}
use Rattle.std.specs.List.{slice_get, list_any}
use Rattle.std.proofs.lemmas.List.{append-nil, length-map}
use Rattle.vcd_core.specs.CaptureContents.{signal_contents}
use Rattle.vcd_amend.specs.GivenCodes.{NewWave, same_new_wave, same_own_code, same_changes}
use Rattle.vcd_amend.specs.inside.coding.KeptSignals.{wave_of_kept}
use Rattle.vcd_amend.specs.inside.coding.ChangedWaves.{kept_contents, new_waves_of, IsFirst, all_contents}
use Rattle.vcd_amend.specs.inside.coding.ChangedWaves.{changed_contents, as_new_wave}
use Rattle.vcd_amend.proofs.given_codes.NewWaves.{new_wave_itself}
use Rattle.vcd_amend.proofs.shared.Lists.{any_at}
use Rattle.vcd_amend.proofs.coding.ChangedWaves.{first_at, first_last}
use Rattle.vcd_amend.proofs.coding.changed_waves.add_wave.Goals as goal

pub returns-in-Some-clause-waves : goal.returns-in-Some-clause-waves
returns-in-Some-clause-waves c =
    let ws = new_waves_of c.args.changed.now.waves.items in
    let w = wave_of_kept (kept_contents c.args.kept.now) (signal_contents c.args.signal.now) in
    let found : (v : NewWave) × (slice_get ws c.in-Some.index ≡ Some v) × (same_new_wave w v ≡ true) =
    subst (λ (code : List ℕ). (v : NewWave) × (slice_get ws c.in-Some.index ≡ Some v)
    × ((same_own_code (Some code) v.own && same_changes w.new v.new) ≡ true)) c.as_slice-code.ensures
    c.in-Some.ensures in
    rw (any_at (same_new_wave w) ws c.in-Some.index found.0 found.1 found.2) (sym (append-nil ws))

pub returns-in-Some-clause-index : goal.returns-in-Some-clause-index
returns-in-Some-clause-index c = λ apart.
    let ws = new_waves_of c.args.changed.now.waves.items in
    let w = wave_of_kept (kept_contents c.args.kept.now) (signal_contents c.args.signal.now) in
    let found : (v : NewWave) × (slice_get ws c.in-Some.index ≡ Some v) × (same_new_wave w v ≡ true) =
    subst (λ (code : List ℕ). (v : NewWave) × (slice_get ws c.in-Some.index ≡ Some v)
    × ((same_own_code (Some code) v.own && same_changes w.new v.new) ≡ true)) c.as_slice-code.ensures
    c.in-Some.ensures in
    first_at w ws c.in-Some.index found.0 apart found.1 found.2

pub returns-clause-index : goal.returns-clause-index
returns-clause-index c = λ apart.
    let items = c.args.changed.now.waves.items in
    let ws = new_waves_of items in
    let kept = kept_contents c.args.kept.now in
    let w = wave_of_kept kept (signal_contents c.args.signal.now) in
    let put : new_waves_of c.push_wave.new.changed.waves.items ≡ ws ++ w ∷ [] = c.in_ok-index.ensures.waves
    ∙ ap₂ (λ (code : List ℕ) (width : ℕ). ws ++ record {
      own = Some code;
      width = width;
      old = kept.old;
      new = c.args.signal.now.wave.changes;
    } ∷ []) c.as_slice-code.ensures c.requires.size in
    let none : list_any (same_new_wave w) ws ≡ false =
    subst (λ (code : List ℕ). list_any (λ (v : NewWave). same_own_code (Some code) v.own
    && same_changes w.new v.new) ws ≡ false) c.as_slice-code.ensures c.in_default.ensures in
    let last : length ws ≡ c.in_ok-index.index = length-map (all_contents items) as_new_wave
    ∙ length-map items changed_contents ∙ sym c.in_ok-index.ensures.index in
    subst (λ i. IsFirst (same_new_wave w) (new_waves_of c.push_wave.new.changed.waves.items) i) last
    (subst (λ l. IsFirst (same_new_wave w) l (length ws)) (sym put)
    (first_last w ws none (new_wave_itself w (kept.variable.code, refl))))
