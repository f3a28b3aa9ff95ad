use Rattle.std.proofs.Common.{if◌then◌else◌, [], ◌++◌, ap, refl}
use Rattle.vcd_remarks.specs.declared.spi_line.TheConstants.{MOSI, MISO}
use Rattle.vcd_remarks.specs.DecoderFindings.{told}
use Rattle.vcd_remarks.proofs.spi_finder.SpiFinderEdgeFinder.take.Goals as goal

pub returns : goal.returns
returns c = λ more.
    let has = c.args.self.now.present in
    let clock = c.take.ensures.findings more in
    let mosi = c.take-2.ensures 1 refl _ _ (c.take.ensures.either more) MOSI more in
    let miso = c.take-3.ensures 2 refl _ _ (c.take.ensures.either more) MISO more in
    let cs = c.take-4.ensures more in
    ap told (λ i. clock i ++ (if has.mosi then mosi i else []) ++ (if has.miso then miso i else [])
    ++ (if has.cs then cs i else []))
