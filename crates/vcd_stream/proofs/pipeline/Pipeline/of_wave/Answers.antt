use Rattle.vcd_stream.proofs.shared.EditedSignals.{gives_of_wave}
use Rattle.vcd_stream.proofs.pipeline.Pipeline.of_wave.Goals as goal

pub returns-clause-gives : goal.returns-clause-gives
returns-clause-gives g c = λ d k within width end.
    gives_of_wave g.V.Letters.letters _ d k c.new.ensures.items
    (record { within = within; width = width; end = end })
