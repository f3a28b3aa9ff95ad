-- The order of transitions, for other crates.
pub use Rattle.vcd_text.proofs.writing.window.WindowOrder.{AtLeast, RisesFrom, times, times-append, counted, once}
pub use Rattle.vcd_text.proofs.writing.window.WindowOrder.{times_permuted, same_transitions}
