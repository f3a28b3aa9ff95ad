use Rattle.std.proofs.Common.{◌+◌, ◌-◌, ◌≤◌, ◌∙◌, vec_len, length, ap, subst, sym, arith}
use Rattle.std.proofs.lemmas.Result.{IfOk-weaker}
use Rattle.vcd_core.specs.WaveView.{WaveView}
use Rattle.vcd_edit.proofs.exchange.ExchangedPieces.{contents_kept, rooms_grow, wave_there}
use Rattle.vcd_edit.proofs.exchange.reservations.reserve_piece.Goals as goal

pub returns-clause-contents : goal.returns-clause-contents
returns-clause-contents c =
    contents_kept c.args.capture.now c.args.piece.now.signal c.item_mut.result.now _ c.requires.signal
    c.item_mut.ensures.value c.reserve_in_own_list.ensures.never_less

pub returns-clause-never_less : goal.returns-clause-never_less
returns-clause-never_less c =
    rooms_grow c.args.capture.now.signals c.args.piece.now.signal c.item_mut.result.now _ c.requires.signal
    c.item_mut.ensures.value c.reserve_in_own_list.ensures.never_less

pub returns-clause-own : goal.returns-clause-own
returns-clause-own c =
    let p = c.args.piece.now in
    let there = wave_there c.args.capture.now.signals p.signal c.item_mut.result.now _ c.requires.signal in
    IfOk-weaker c.reserve_in_own_list.result _ _
    (λ is_shared given told. record {
      own = ap (λ (w : WaveView). w.is_shared) there ∙ (given told).0;
      room = subst (λ (w : WaveView). length w.changes + vec_len c.reserve_exact.new.self
          ≤ w.capacity + (p.to - p.from)) (sym there)
          (omega (
            arith,
            (given told).1,
            ap length c.reserve_in_own_list.ensures.never_less.changes,
            c.as_slice-len.ensures.len,
          ));
    }) c.reserve_in_own_list.ensures.room
