use Rattle.std.proofs.Common.{◌≡◌, ℕ, true, ◌&&◌, List, [], ◌∷◌, ◌++◌, arith}
use Rattle.std.specs.Prelude.{Result, Ok, Err, OnOk}
use Rattle.std.proofs.lemmas.Bool.{and_parts}
use Rattle.vcd_text.specs.Words.{word_on, WordOnLine}
use Rattle.vcd_text.specs.Grammar.{ParseState}
use Rattle.vcd_text.specs.declared.reading.parser.Parser.{Parser}
use Rattle.vcd_text.specs.inside.reading.Part.{Asked, asked_by, seen_state}
use Rattle.vcd_text.specs.inside.reading.Parser.{IsAtState, WordStep, StepsBy}
use Rattle.vcd_text.specs.Items.{end_word}
use Rattle.vcd_text.specs.inside.reading.Declarations.{is_end_word}
use Rattle.vcd_text.specs.declared.fault.ReadError.{ReadError}
use Rattle.vcd_text.specs.inside.reading.OpenItems.{is_end_definitions}
use Rattle.vcd_text.proofs.reading.code_targets.Targets.{same_code}
use Rattle.vcd_text.proofs.reading.parser.NextWord.{words_taken}
use Rattle.vcd_text.proofs.reading.file_reader.take_word.Goals as goal

-- the word is `$end`
is_the_end : (m : Parser) (text : List ℕ) → is_end_definitions m.item && is_end_word text ≡ true → text ≡ end_word
is_the_end m text ends = same_code text end_word (and_parts (is_end_definitions m.item) (is_end_word text) ends).1

pub take_word-requires-clause-reading : goal.take_word-requires-clause-reading
take_word-requires-clause-reading g c =
    let (limit, (words, taken, few)) = c.requires.reading in
    record {
      limit = limit;
      asked = asked_by g.C.Choice.takes g.C.Choice.ticks c.args.choice.now;
      words = words;
      taken_words = taken;
      few = omega (arith, few);
    }

pub returns-then-not-ends_definitions-clause-words : goal.returns-then-not-ends_definitions-clause-words
returns-then-not-ends_definitions-clause-words g c = λ limit words r.
    c.take_word.ensures.words limit (asked_by g.C.Choice.takes g.C.Choice.ticks c.args.choice.now) words r

pub returns-clause-words : goal.returns-clause-words
returns-clause-words g c = λ limit words r.
    let old = c.args.parser.now in
    let asked = asked_by g.C.Choice.takes g.C.Choice.ticks c.args.choice.now in
    let part = c.in_ok-begin_part.ensures.asked (seen_state old.part r.state r.at.0.seen) r.at.0.variables in
    rw (is_the_end old c.args.text.now (grind arith)) (words_taken limit asked asked old c.begin_part.new.parser words
    (word_on end_word c.args.line ∷ []) r
    (c.in_ok-begin_part.ensures.begins c.args.line asked asked r.state r.begun r.at part))

-- one more word goes on with the open item, or ends it
stepped : (old new : Parser) (w : WordOnLine) (r : Result (Unit {0}) ReadError) → OnOk r ((asked : Asked)
    (c : ParseState) (begun : List WordOnLine) → IsAtState asked old c begun → WordStep asked c (begun ++ w ∷ []) new)
    → OnOk r (StepsBy old w new)
stepped old new w (Ok x) steps = λ asked c begun at. (asked, steps asked c begun at)
stepped old new w (Err e) steps = tt

pub returns-then-not-ends_definitions-clause-step : goal.returns-then-not-ends_definitions-clause-step
returns-then-not-ends_definitions-clause-step g c = stepped c.args.parser.now c.take_word.new.self
    (word_on c.args.text.now c.args.line) c.take_word.result c.take_word.ensures.step

pub returns-clause-step : goal.returns-clause-step
returns-clause-step g c = λ before d begun at.
    let old = c.args.parser.now in
    let asked = asked_by g.C.Choice.takes g.C.Choice.ticks c.args.choice.now in
    let part = c.in_ok-begin_part.ensures.asked (seen_state old.part d at.0.seen) at.0.variables in
    rw (is_the_end old c.args.text.now (grind arith))
    (asked, c.in_ok-begin_part.ensures.begins c.args.line before asked d begun at part)
