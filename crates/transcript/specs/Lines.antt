-- The lines of a run, as the replies determine them.
use Rattle.std.specs.Prelude.{◌≡◌, ℕ, ◌+◌, List, [], ◌∷◌, ◌++◌, Bool, true, false, cond, is_some, length, not, count_by, slice_range, codes, decimal}
use Rattle.hex.specs.Hex.{encode_lower}
use Rattle.sealed.specs.Blob.{Lost}
use Rattle.sealed.specs.Stripes.{fragment_at}
use Rattle.sealed.specs.Sealed.{StandsFor}
use Rattle.sealed.specs.declared.value.Sealed.{Sealed}
use Rattle.sealed.specs.declared.fault.Fault.TheVariants as fault
use Rattle.lent.specs.Cut.{cut}
use Rattle.lent.specs.declared.grant.Grant.{Grant}
use Rattle.lent.specs.declared.part.Part.{Part}
use Rattle.lent.specs.declared.piece.Piece.{Piece}
use Rattle.lent.specs.declared.piece.Piece.TheVariants.{Lent, Built}
use Rattle.lent.specs.Pieces.{bytes_in_piece}
use Rattle.history.specs.Text.{note_text, entry_text}
use Rattle.history.specs.declared.note.Entry.{Entry}
use Rattle.book.specs.Notes.{note_of}
use Rattle.book.specs.declared.answer.Answer.{Answer}
use Rattle.book.specs.declared.answer.Answer.TheVariants as answer
use Rattle.requests.specs.declared.jobs.Reply.TheVariants as made
use Rattle.mender.specs.Line.{report_line}
use Rattle.transcript.specs.declared.outcome.NumberedOutcome.{NumberedOutcome}
use Rattle.transcript.specs.declared.outcome.RowOutcome.{RowOutcome}
use Rattle.transcript.specs.declared.outcome.RowOutcome.TheVariants as outcome
use Rattle.transcript.specs.declared.line.Reading.{Reading}
use Rattle.transcript.specs.declared.line.Line.{Line}
use Rattle.transcript.specs.declared.line.Line.TheVariants.{Noted, Granted, Trimmed, Mended, Full, TooLong}

-- two digits for each byte, or a dash if there is none
abbrev pub hex_text : List ℕ → List ℕ
hex_text [] = codes "-"
hex_text (b ∷ bytes) = encode_lower (b ∷ bytes)

-- a reading: the version, the numbers of lent and of built pieces, and the bytes
abbrev pub reading_text : Reading → List ℕ
reading_text r = codes "granted " ++ (decimal r.version ++ (codes " " ++ (decimal r.lent ++ (codes " " ++ (decimal r.built ++ (codes " " ++ hex_text r.bytes.items))))))

abbrev pub line_text : Line → List ℕ
line_text (Noted note) = note_text note
line_text (Granted reading) = reading_text reading
line_text (Trimmed n) = codes "trimmed " ++ decimal n
line_text (Mended report) = report_line report
line_text Full = codes "full"
line_text TooLong = codes "too-long"

-- how many bytes of a blob it shows
abbrev pub byte_count : Line → ℕ
byte_count (Granted reading) = length reading.bytes.items
byte_count line = 0

-- whether the part's fragment is present
abbrev pub is_there : Sealed → Part → Bool
is_there s part = is_some (fragment_at s.stripes part.stripe part.fragment)

-- the reading of a grant: its version, the numbers of its parts in present and in lost fragments,
-- and the range of each blob that its value represents
pub record IsReadingOf (g : Grant) (r : Reading) : Type 0 where
  pub version : r.version ≡ g.sealed.value.version
  pub lent : r.lent ≡ count_by (is_there g.sealed.value) (cut g.sealed.value.code g.sealed.value.width g.start g.len)
  pub built : r.built ≡ count_by (λ p. not (is_there g.sealed.value p)) (cut g.sealed.value.code g.sealed.value.width g.start g.len)
  pub bytes : (b : List ℕ) (lost : Lost) → StandsFor g.sealed.value b lost → r.bytes.items ≡ slice_range b g.start (g.start + g.len)

abbrev pub is_lent : Piece → Bool
is_lent (Lent r) = true
is_lent (Built v) = false

-- one more piece is counted, and its bytes are appended
pub record TakesIn (r : Reading) (piece : Piece) (more : Reading) : Type 0 where
  pub version : more.version ≡ r.version
  pub lent : more.lent ≡ r.lent + cond (is_lent piece) 1 0
  pub built : more.built ≡ r.built + cond (not (is_lent piece)) 1 0
  pub bytes : more.bytes.items ≡ r.bytes.items ++ bytes_in_piece piece

-- the line to an answer
abbrev pub IsReadBy : Grant → Line → Type 0
IsReadBy g (Granted reading) = IsReadingOf g reading
IsReadBy g line = ⊥

abbrev pub IsAnswerLine : Answer → Line → Type 0
IsAnswerLine (answer.Granted g) line = IsReadBy g line
IsAnswerLine a line = line ≡ Noted (note_of a)

-- the line for the outcome of a row
abbrev pub IsLineFor : RowOutcome → Line → Type 0
IsLineFor (outcome.Replied (made.Made a)) line = IsAnswerLine a line
IsLineFor (outcome.Replied (made.Trimmed n)) line = line ≡ Trimmed n
IsLineFor (outcome.Replied (made.Refused fault.TooLong)) line = line ≡ TooLong
IsLineFor (outcome.Replied (made.Refused f)) line = line ≡ Full
IsLineFor (outcome.Mended report) line = line ≡ Mended report
IsLineFor outcome.Full line = line ≡ Full

-- one line for each row
abbrev pub AreLines : List NumberedOutcome → List ℕ → Type 0
AreLines [] text = text ≡ []
AreLines (d ∷ done) text =
    (line : Line) × (rest : List ℕ) × IsLineFor d.outcome line × AreLines done rest
    × (text ≡ (decimal d.number ++ (codes " " ++ (line_text line ++ codes "\n"))) ++ rest)

-- a line for each entry, by its number among all calls
abbrev pub entry_lines : ℕ → List Entry → List ℕ
entry_lines number [] = []
entry_lines number (e ∷ es) = (codes "h " ++ (decimal number ++ (codes " " ++ (entry_text e ++ codes "\n")))) ++ entry_lines (number + 1) es
