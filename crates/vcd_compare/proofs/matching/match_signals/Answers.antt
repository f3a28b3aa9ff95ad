use Rattle.std.proofs.Common.{◌≡◌, ◌∙◌, ◌++◌, ap, ap₂, true, not, map, append_assoc, List, [], ℕ}
use Rattle.std.specs.List.{list_any, position}
use Rattle.std.specs.Option.{unwrap_or}
use Rattle.vcd_part.specs.Pattern.{meets}
use Rattle.vcd_part.specs.Requests.{meets_one, texts as patterns_of}
use Rattle.vcd_compare.specs.Captures.{fits_map, mapped_name}
use Rattle.vcd_compare.specs.Pairs.{partners_of}
use Rattle.vcd_compare.specs.inside.Pairing.{texts}
use Rattle.vcd_compare.proofs.matching.match_signals.Goals as goal

pub returns : goal.returns
returns c =
    let maps = c.args.request.now.maps.now in
    let others = texts c.args.others.items in
    let asked = c.in_ok-patterns.ensures.patterns in
    let asked_then = c.in_ok-by_name.ensures.same ∙ asked in
    let asked_later = c.in_ok-by_mapped.ensures.same ∙ asked_then in
    let own : texts c.as_slice-2.result.now ≡ texts c.args.names.items = ap texts c.as_slice-2.ensures.value in
    let mapped_is : texts c.in_ok-mapped.mapped.items ≡ map (mapped_name maps) (texts c.args.names.items) =
    c.in_ok-mapped.ensures ∙ ap (λ l. map (mapped_name maps) (texts l)) c.as_slice.ensures.value in
    let mapped : texts c.as_slice-3.result.now ≡ map (mapped_name maps) (texts c.args.names.items) =
    ap texts c.as_slice-3.ensures.value ∙ mapped_is in
    let other : texts c.as_slice-4.result.now ≡ others = ap texts c.as_slice-4.ensures.value in
    record {
      by_name = c.in_ok-by_name.ensures.meets ∙ ap₂ (λ k ns. map (meets_one true (patterns_of k)) ns) asked own;
      by_mapped = c.in_ok-by_mapped.ensures.meets
          ∙ ap₂ (λ k ns. map (meets_one true (patterns_of k)) ns) asked_then mapped;
      of_second = c.in_ok-of_second.ensures.meets
          ∙ ap₂ (λ k ns. map (meets_one true (patterns_of k)) ns) asked_later other;
      partners = c.in_ok-partners.ensures ∙ ap (λ ns. partners_of ns others) mapped_is;
      unmet_pattern =
          c.unmet_position.ensures _ (c.in_ok-of_second.ensures.met _ (c.in_ok-by_mapped.ensures.met _
          (c.in_ok-by_name.ensures.met [] c.in_ok-patterns.ensures.met)))
          ∙ ap₂ (λ k (ns : List (List ℕ)). position (λ p. not (list_any (meets p) ns)) (unwrap_or (patterns_of k) []))
          (c.in_ok-of_second.ensures.same ∙ asked_later)
          (append_assoc (texts c.as_slice-2.result.now) (texts c.as_slice-3.result.now) (texts c.as_slice-4.result.now)
          ∙ (λ i. own i ++ (mapped i ++ other i)));
      unmet_map = c.unmet_map.ensures
          ∙ ap (λ l. position (λ m. not (list_any (fits_map m) (texts l))) maps) c.as_slice-5.ensures.value;
    }
