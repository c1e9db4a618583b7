use Rattle.std.proofs.Common.{◌∙◌, ◌<◌, ◌^◌, List, ℕ, None, Some, Result, inl, inr, is_some, refl, sym, ap, subst, arith}
use Rattle.std.proofs.lemmas.Bool.{false≢true}
use Rattle.std.specs.Str.Parse.{ExplainsUnsignedError, HasUnsignedDigitsIfOk, ParsesUnsigned, digits_value, without_leading_plus}
use Rattle.std.specs.declared.num.ParseIntError.{ParseIntError}
use Rattle.clap.specs.Words.{found_of}
use Rattle.script.specs.Ranges.{InRange}
use Rattle.command_line.proofs.Answered.{number_read, text_given, text_read}
use Rattle.command_line.proofs.reading.number.Goals as goal

-- how a text is read as a number
abbrev Gives : List ℕ → Result ℕ ParseIntError → Type 0
Gives bs r = ParsesUnsigned 32 10 bs r × ExplainsUnsignedError 10 bs r × HasUnsignedDigitsIfOk bs r

pub returns-then-n-most-clause-value : goal.returns-then-n-most-clause-value
returns-then-n-most-clause-value c =
    number_read Gives 32 (found_of c.args.matches.now) c.args.id.now c.in_ok-n.n (λ t r given. given.0)
    c.in_ok-n.ensures.none c.in_ok-n.ensures.value

pub returns-in_err-n-clause-some : goal.returns-in_err-n-clause-some
returns-in_err-n-clause-some c = (
  λ some. absurd (false≢true (sym (ap is_some c.from_residual.ensures) ∙ some)),
  λ has.
      let below : digits_value 10 (without_leading_plus has.text) < 2 ^ 32 = omega (arith, has.number.range.below, c.ranges.most.fits) in
      absurd (text_read Gives 32 (found_of c.args.matches.now) c.args.id.now None (λ t r given. given.0) c.in_err-n.ensures.value has.text has.given (has.number.numeral, below)),
)

pub returns-then-n-most-clause-some : goal.returns-then-n-most-clause-some
returns-then-n-most-clause-some c = (
  λ some.
      let given = text_given (found_of c.args.matches.now) c.args.id.now c.in_ok-n.n c.in_ok-n.ensures.none in
      let read = text_read Gives 32 (found_of c.args.matches.now) c.args.id.now (Some c.in_ok-n.n) (λ t r given. given.0) c.in_ok-n.ensures.value given.0 given.1 in
      record { text = given.0; given = given.1; number = record { numeral = read.0.0; range = subst (λ (n : ℕ). InRange n c.args.most) read.1 (record { above = c.if-n-ge1.true; below = c.if-n-most.true }) } },
  λ has. refl,
)

pub returns-else-n-ge1-clause-some : goal.returns-else-n-ge1-clause-some
returns-else-n-ge1-clause-some c = (
  λ some. absurd (false≢true some),
  λ has.
      let read = text_read Gives 32 (found_of c.args.matches.now) c.args.id.now (Some c.in_ok-n.n) (λ t r given. given.0) c.in_ok-n.ensures.value has.text has.given in
      elim c.else-n-ge1.either [
        | inl above ↦ absurd (omega (arith, above.1, read.1, has.number.range.below))
        | inr below ↦ absurd (omega (arith, below, read.1, has.number.range.above))
      ],
)
