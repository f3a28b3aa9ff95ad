use Rattle.std.proofs.Common.{◌++◌, ◌∷◌, [], length, ap, ◌∙◌}
use Rattle.std.proofs.lemmas.List.{map-append, length-append}
use Rattle.vcd_text.specs.inside.reading.HeardChanges.{placed_change}
use Rattle.vcd_text.proofs.reading.heard_changes.Places.{places_stay, text_placed}
use Rattle.vcd_text.proofs.reading.heard_changes.HeardChanges.push.Goals as goal

pub returns : goal.returns
returns c =
    let buffer = c.self.inside.text.items in
    let text = c.args.text.now in
    let places = c.self.inside.places.items in
    rw (c.in_ok-push.ensures.items, c.in_ok-append_text.ensures.text)
    (map-append (placed_change (buffer ++ text)) places _
    ∙ (λ i. (places_stay buffer text places c.self.invariant ∙ c.self.view_is) i
    ++ record {
      tick = c.args.tick;
      target = c.args.target;
      text = text_placed buffer text c.len-start.result
          c.len-end.result (c.len-start.ensures ∙ c.self.inside.text.ok.0) (c.len-end.ensures
          ∙ c.append_text.new.buffer.ok.0 ∙ ap length c.in_ok-append_text.ensures.text
          ∙ length-append buffer text) i;
    } ∷ []))
