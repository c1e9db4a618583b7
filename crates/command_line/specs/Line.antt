-- The options in the words after the program's name.
use Rattle.std.specs.Prelude.{◌≡◌, ℕ, List, [], Option, Some, true, false, codes, option_map, string_bytes}
use Rattle.std.specs.Str.Parse.{IsNumeral, digits_value, without_leading_plus}
use Rattle.clap.specs.Words.{IsAmong, Row, Text, fault_of, first_of, kind_of, matches_of, one_of}
use Rattle.clap.specs.declared.error.Error.{Error}
use Rattle.clap.specs.declared.error.kind.ErrorKind.{ErrorKind}
use Rattle.clap.specs.declared.error.kind.ErrorKind.TheVariants as kind
use Rattle.command_line.specs.declared.line.BadLine.{BadLine}
use Rattle.command_line.specs.declared.line.BadLine.TheVariants.{Clap, NoMemory}
use Rattle.command_line.specs.declared.line.CommandLine.{CommandLine}
use Rattle.command_line.specs.Program.{program}
use Rattle.script.specs.Ranges.{InRange}

-- the number that an option was given, or has by default
abbrev pub number_of : Text → List Row → Option ℕ
number_of id found = option_map (λ text. digits_value 10 (without_leading_plus text)) (one_of id found)

-- the text of a number from 1 to the most, in decimal digits, before which one plus may stand
pub record IsNumberText (most : ℕ) (text : Text) : Type 0 where
  pub numeral : IsNumeral 10 (without_leading_plus text)
  pub range : InRange (digits_value 10 (without_leading_plus text)) most

-- an option was given such a number, or has it by default
pub record HasNumber (id : Text) (most : ℕ) (found : List Row) : Type 0 where
  pub text : Text
  pub given : one_of id found ≡ Some text
  pub number : IsNumberText most text

-- the command line is what was found
pub record IsFound (found : List Row) (line : CommandLine) : Type 0 where
  pub script : first_of (codes "SCRIPT") found ≡ Some (string_bytes line.script)
  pub width : number_of (codes "width") found ≡ Some line.options.width
  pub workers : number_of (codes "workers") found ≡ Some line.options.workers
  pub limit : number_of (codes "limit") found ≡ Some line.options.limit
  pub history : one_of (codes "history") found ≡ Some (codes "true") → line.options.history ≡ true
  pub no_history : one_of (codes "history") found ≡ Some (codes "false") → line.options.history ≡ false

-- the words are accepted, and have this meaning
pub record Says (words : List Text) (line : CommandLine) : Type 0 where
  pub taken : fault_of program words ≡ []
  pub found : IsFound (matches_of program words) line

-- the error for an error of `clap`. Out of memory becomes an error of its own
abbrev pub refusal_by : ErrorKind → Error → BadLine
refusal_by kind.OutOfMemory error = NoMemory
refusal_by _ error = Clap error

abbrev pub refusal_of : Error → BadLine
refusal_of error = refusal_by (kind_of error) error

-- the words are refused for what `clap` refuses them for, or memory ran out
abbrev pub Refuses : List Text → BadLine → Type 0
Refuses words (Clap error) = IsAmong (kind_of error) (fault_of program words)
Refuses words NoMemory = Unit {0}
