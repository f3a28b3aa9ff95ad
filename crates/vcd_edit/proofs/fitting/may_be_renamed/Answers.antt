use Rattle.vcd_edit.proofs.fitting.FittingPieces.{both_pass, one_fails}
use Rattle.vcd_edit.proofs.fitting.FittingRecords.{word_tells}
use Rattle.vcd_edit.proofs.fitting.may_be_renamed.Goals as goal

pub returns-then-is_sound_with_word : goal.returns-then-is_sound_with_word
returns-then-is_sound_with_word c = λ d same.
    both_pass _ _ (word_tells c.args.end d c.args.signal c.args.word.now c.args.signals.now
    c.index-signals-signal.result same c.if-signal-signals.false c.if-signals-gt-SIGNAL_LIMIT.false
    c.index-signals-signal.is) c.is_sound_with_word.ensures c.if-is_sound_with_word.true c.are_others_sound.ensures

pub returns-else-is_sound_with_word : goal.returns-else-is_sound_with_word
returns-else-is_sound_with_word c = λ d same.
    one_fails _ (word_tells c.args.end d c.args.signal c.args.word.now c.args.signals.now
    c.index-signals-signal.result same c.if-signal-signals.false c.if-signals-gt-SIGNAL_LIMIT.false
    c.index-signals-signal.is) c.is_sound_with_word.ensures c.if-is_sound_with_word.false
