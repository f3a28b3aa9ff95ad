use Rattle.std.proofs.Common.{◌≡◌, ◌<◌, ◌∷◌, length, ◌∙◌, arith}
use Rattle.std.proofs.lemmas.Bool.{eqb-true, eqb-false}
use Rattle.std.proofs.lemmas.List.{nil_from_length}
use Rattle.vcd_text.proofs.reading.declarations.DeclarationWords.{closes_scope, shows_missing_kind}
use Rattle.vcd_text.proofs.reading.variables.DeclaredVariable.{prefix_removed}
use Rattle.vcd_text.proofs.reading.parser.Parser.close_scope.Goals as goal

pub returns-then-is_empty : goal.returns-then-is_empty
returns-then-is_empty c =
    let m = c.args.self.now in
    shows_missing_kind m m c.requires (nil_from_length m.words.items (grind (arith, eqb-true)))

pub returns : goal.returns
returns c =
    let m = c.args.self.now in
    let some : 0 < length m.words.items = grind (arith, eqb-false) in
    let prefix : m.words.items ≡ c.remove-kind.result ∷ c.words_out_of-words.result =
    prefix_removed m.words.items c.words_out_of-words.result c.remove-kind.result some c.remove-kind.ensures.value
    (c.words_out_of-words.ensures ∙ c.remove-kind.ensures.items) in
    closes_scope m c.enter.new.self c.words_out_of-words.new.words
    (record { kind = c.remove-kind.result; words = c.words_out_of-words.result }) c.requires prefix
    c.in_ok-enter.ensures.opened c.in_ok-enter.ensures.places
