-- The words so far are maps.
use Rattle.std.proofs.Common.{map, take}
use Rattle.vcd_compare_program.specs.inside.Words.{AreMaps}
use Rattle.vcd_compare_program.proofs.request_words.read_maps.Given as goal

abbrev pub invariant-loop-word : goal.invariant-loop-word
invariant-loop-word l = AreMaps (map (λ w. w.now) (take l.word-index l.words)) l.maps.items
