-- The text that is printed for a refused script.
use Rattle.std.specs.Prelude.{ℕ, List, ◌++◌, codes, decimal}
use Rattle.script.specs.declared.rows.BadScript.{BadScript}
use Rattle.script.specs.declared.rows.BadScript.TheVariants as bad
use Rattle.script.specs.declared.rows.NotRead.{NotRead}
use Rattle.script.specs.declared.rows.NotRead.TheVariants as not_read
use Rattle.script.specs.declared.rows.Word.{Word}
use Rattle.script.specs.declared.rows.Word.TheVariants as word

-- why a row is refused, in a word
abbrev pub word_text : Word → List ℕ
word_text word.Rows = codes "rows"
word_text word.Fields = codes "fields"
word_text word.Round = codes "round"
word_text word.Worker = codes "worker"
word_text word.Op = codes "op"
word_text word.Name = codes "name"
word_text word.Argument = codes "argument"
word_text word.Mend = codes "mend"

-- the number of the refused row and its word, or that memory ran out
abbrev pub refusal_text : BadScript → List ℕ
refusal_text (bad.Refused row w) = codes "row " ++ (decimal row ++ (codes ": " ++ word_text w))
refusal_text bad.NoMemory = codes "out of memory"

-- the same, or that the reader failed
abbrev pub not_read_text : NotRead → List ℕ
not_read_text (not_read.Bad error) = refusal_text error
not_read_text (not_read.Reader kind) = codes "cannot read the script"
