-- What is noted of the variable.
use Rattle.std.proofs.Common.{◌≡◌, ◌∙◌, ap, sym, map}
use Rattle.vcd_core.specs.FullName.{name_bytes}
use Rattle.vcd_core.specs.Names.{name_in}
use Rattle.vcd_part.specs.Requests.{keeps, removes}
use Rattle.vcd_part.specs.WrittenPart.{named_variable, is_kept_event}
use Rattle.vcd_text.specs.AsDeclared.{declared_name}
use Rattle.vcd_part.proofs.choice.NotedVariables.{same_name, is_kept, is_removed, met_more, noted_more}
use Rattle.vcd_part.proofs.choice.NotedVariables.{one_counted, all_counted, named_so, kept_event_so}
use Rattle.vcd_part.proofs.choice.VariableChoice.note.Goals as goal

pub returns-clause-kept : goal.returns-clause-kept
returns-clause-kept c = λ r declared d noted scopes words.
    let text = c.as_slice.ensures.value ∙ c.in_ok-read_name.ensures d.words words in
    let name : name_bytes c.new-name.result ≡ declared_name d =
    c.new-name.ensures ∙ same_name c.args.scopes.now _ d.words text ∙ ap (λ s. name_in s d.words) (sym scopes) in
    is_kept r c.args.self.now.keep.patterns c.args.self.now.remove.patterns _ _ _ _ _ noted.keep_is noted.remove_is
    name c.note-is_among_kept.ensures.meets c.note-is_removed.ensures.meets c.is_kept-is_kept.ensures

pub returns-clause-noted : goal.returns-clause-noted
returns-clause-noted c = λ r declared d noted scopes kind code words.
    let text = c.as_slice.ensures.value ∙ c.in_ok-read_name.ensures d.words words in
    let name : name_bytes c.new-name.result ≡ declared_name d =
    c.new-name.ensures ∙ same_name c.args.scopes.now _ d.words text ∙ ap (λ s. name_in s d.words) (sym scopes) in
    let kept = is_kept r c.args.self.now.keep.patterns c.args.self.now.remove.patterns _ _ _ _ _ noted.keep_is
    noted.remove_is name c.note-is_among_kept.ensures.meets c.note-is_removed.ensures.meets c.is_kept-is_kept.ensures in
    let removed = is_removed r _ d _ _ noted.remove_is name c.note-is_removed.ensures.meets in
    record {
      keep_is = c.note-is_among_kept.ensures.same ∙ noted.keep_is;
      remove_is = c.note-is_removed.ensures.same ∙ noted.remove_is;
      keep_met = met_more c.note-is_among_kept.new.self declared d _ name
          (c.note-is_among_kept.ensures.met (map declared_name declared) noted.keep_met);
      remove_met = met_more c.note-is_removed.new.self declared d _ name
          (c.note-is_removed.ensures.met (map declared_name declared) noted.remove_met);
      kept = c.count-self.ensures ∙ one_counted (keeps r) declared d _ _ noted.kept kept;
      all = c.saturating_add-self.ensures ∙ all_counted declared d _ noted.all;
      scopes = c.in_ok-note.ensures r declared d noted.scopes scopes kept;
      events = c.in_ok-note_named_variable-2.ensures
          ∙ noted_more named_variable (is_kept_event r) declared d _ _ _ noted.events
          (kept_event_so r d _ _ _ kept kind c.is_kept_event-is_kept_event.ensures) (named_so d _ _ name code);
      removed = c.in_ok-note_named_variable.ensures
          ∙ noted_more named_variable (removes r) declared d _ _ _ noted.removed removed (named_so d _ _ name code);
    }
