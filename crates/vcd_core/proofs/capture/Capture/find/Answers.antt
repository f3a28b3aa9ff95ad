use Rattle.std.proofs.Common.{◌≡◌, List, ℕ, subst}
use Rattle.std.specs.List.{position}
use Rattle.std.specs.Str.{bytes_eq}
use Rattle.vcd_core.specs.CaptureContents.{signal_contents}
use Rattle.vcd_core.specs.Names.{full_name}
use Rattle.vcd_core.proofs.capture.Lookups.{lookup_numbered, lookup_named}
use Rattle.vcd_core.proofs.capture.Capture.find.Goals as goal

pub returns-in-Some : goal.returns-in-Some
returns-in-Some c =
    let given = rw c.as_slice-signals.ensures at c.in-Some.ensures in
    lookup_numbered c.args.self.now.signals c.args.name.now c.in-Some.k given

pub returns-in-None : goal.returns-in-None
returns-in-None c =
    let given = rw c.as_slice-signals.ensures at c.in-None.ensures in
    let named = subst (λ (name : List ℕ). c.position_in-in-None.result
    ≡ position (λ s. bytes_eq name (full_name (signal_contents s))) c.as_slice-signals.result.now)
    c.of_text.ensures c.position_in-in-None.ensures in
    let first = rw c.as_slice-signals.ensures at named in
    lookup_named c.args.self.now.signals c.args.name.now c.position_in-in-None.result given first
