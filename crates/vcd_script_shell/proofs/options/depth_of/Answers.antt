-- The number that is read of the text is the one asked for.
use Rattle.std.proofs.Common.{◌≡◌, ◌≤◌, ℕ, Bool, true, false, Option, Some, None, refl, sym, subst, ◌∙◌, arith, rules}
use Rattle.std.specs.Prelude.{Result}
use Rattle.std.specs.Str.Parse.{ParsesUnsigned, ExplainsUnsignedError, HasUnsignedDigitsIfOk, digits_value}
use Rattle.std.specs.Str.Parse.{without_leading_plus}
use Rattle.std.specs.declared.num.ParseIntError.{ParseIntError}
use Rattle.clap.specs.Words.{Accepts, ReadsOne, Text}
use Rattle.clap.specs.ValueTests.{is_unsigned_in}
use Rattle.clap.specs.declared.builder.value_parser.ValueParser.TheVariants as parsers
use Rattle.clap.proofs.ValueTestLemmas.{accepts-Accepts, Accepts-accepts}
use Rattle.vcd_journal.specs.declared.step.TheConstants.{DEPTH_LIMIT}
use Rattle.vcd_script_shell.specs.ScriptOptions.{depth_asked}
use Rattle.vcd_script_shell.proofs.options.depth_of.Goals as goal

-- the result of reading a number of 64 bits
abbrev Reads : Text → Result ℕ ParseIntError → Type 0
Reads text r = ParsesUnsigned 64 10 text r × ExplainsUnsignedError 10 text r × HasUnsignedDigitsIfOk text r

-- a number from 1 to the limit is asked for
number_asked : (text : Option Text) (r : Option ℕ) (n : ℕ) → (text ≡ None → r ≡ None)
    → ((t : Text) → text ≡ Some t → ReadsOne Reads t r) → r ≡ Some n → 1 ≤ n → n ≤ DEPTH_LIMIT → n ≡ depth_asked text
number_asked None r n none value is least most = let bad : Some n ≡ None = sym is ∙ none refl in cc
number_asked (Some t) r n none value is least most =
    let given : ReadsOne Reads t (Some n) = subst (ReadsOne Reads t) is (value t refl) in
    let same : n ≡ digits_value 10 (without_leading_plus t) = given.0.1 in
    let within : is_unsigned_in 1 DEPTH_LIMIT t ≡ true =
    Accepts-accepts false (parsers.Unsigned 1 DEPTH_LIMIT) t (
      given.0.0.0,
      given.0.0.1,
      omega (arith, least, same),
      omega (arith, most, same),
    ) in
    rw within same

-- without such a number 1 is asked for
other_asked : (text : Option Text) (r : Option ℕ) → ((t : Text) → text ≡ Some t → ReadsOne Reads t r)
    → ((n : ℕ) → r ≡ Some n → 1 ≤ n → n ≤ DEPTH_LIMIT → ⊥) → 1 ≡ depth_asked text
other_asked None r value out = refl
other_asked (Some t) r value out = go (is_unsigned_in 1 DEPTH_LIMIT t) refl
  where
    absent : (o : Option ℕ) → ReadsOne Reads t o → ((n : ℕ) → o ≡ Some n → 1 ≤ n → n ≤ DEPTH_LIMIT → ⊥)
        → Accepts false (parsers.Unsigned 1 DEPTH_LIMIT) t → ⊥
    absent (Some n) read none within =
        let same : n ≡ digits_value 10 (without_leading_plus t) = read.0.1 in
        let least : 1 ≤ digits_value 10 (without_leading_plus t) = within.2 in
        let most : digits_value 10 (without_leading_plus t) ≤ DEPTH_LIMIT = within.3 in
        none n refl (omega (arith, least, same)) (omega (arith, most, same))
    absent None read none within = read.1.0 (within.0, within.1)

    go : (b : Bool) → is_unsigned_in 1 DEPTH_LIMIT t ≡ b → 1 ≡ depth_asked (Some t)
    go true e = absurd (absent r (value t refl) out (accepts-Accepts false (parsers.Unsigned 1 DEPTH_LIMIT) t e))
    go false e = rw e refl

pub returns-in-Some-clause-depth : goal.returns-in-Some-clause-depth
returns-in-Some-clause-depth c =
    number_asked _ _ c.in-Some.depth c.get_one.ensures.none c.get_one.ensures.value c.in-Some.is (search rules)
    (search rules)

pub returns-in_default-3-clause-depth : goal.returns-in_default-3-clause-depth
returns-in_default-3-clause-depth c =
    other_asked _ _ c.get_one.ensures.value (λ n is least most. let bad : Some n ≡ None = sym is ∙ c.in_default.is in
    cc)
