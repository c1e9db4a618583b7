-- Lines, one more at the end.
use Rattle.std.proofs.Common.{◌≡◌, ◌∙◌, ℕ, ◌+◌, List, [], ◌∷◌, ◌++◌, ◌<◌, length, get_or, take, refl, ap, sym, append_assoc, append-nil, arith}
use Rattle.std.specs.Prelude.{codes, decimal}
use Rattle.std.proofs.lemmas.List.{take_more, length-take-le}
use Rattle.history.specs.Text.{entry_text}
use Rattle.history.specs.declared.note.Entry.{Entry}
use Rattle.transcript.specs.Lines.{AreLines, IsLineFor, line_text}
use Rattle.transcript.specs.Lines.{entry_lines}
use Rattle.transcript.specs.declared.outcome.NumberedOutcome.{NumberedOutcome}
use Rattle.transcript.specs.declared.line.Line.{Line}

pub lines-more : (done : List NumberedOutcome) (d : NumberedOutcome) (text : List ℕ) (reply : Line) → AreLines done text → IsLineFor d.outcome reply
    → AreLines (done ++ d ∷ []) (text ++ (decimal d.number ++ (codes " " ++ (line_text reply ++ codes "\n"))))
lines-more [] d text reply are is =
    let line = decimal d.number ++ (codes " " ++ (line_text reply ++ codes "\n")) in
    (reply, [], is, refl, ap (λ (t : List ℕ). t ++ line) are ∙ sym (append-nil line))
lines-more (x ∷ done) d text reply are is =
    let line = decimal d.number ++ (codes " " ++ (line_text reply ++ codes "\n")) in (
      are.0,
      are.1 ++ line,
      are.2,
      lines-more done d are.1 reply are.3 is,
      ap (λ (t : List ℕ). t ++ line) are.4 ∙ append_assoc (decimal x.number ++ (codes " " ++ (line_text are.0 ++ codes "\n"))) are.1 line,
    )

pub entries-more : (n : ℕ) (es : List Entry) (e : Entry)
    → entry_lines n (es ++ e ∷ []) ≡ entry_lines n es ++ (codes "h " ++ (decimal (n + length es) ++ (codes " " ++ (entry_text e ++ codes "\n"))))
entries-more n [] e =
    let m : n + 0 ≡ n = omega arith in
    append-nil (codes "h " ++ (decimal n ++ (codes " " ++ (entry_text e ++ codes "\n")))) ∙ ap (λ (k : ℕ). codes "h " ++ (decimal k ++ (codes " " ++ (entry_text e ++ codes "\n")))) (sym m)
entries-more n (x ∷ es) e =
    let m : n + 1 + length es ≡ n + length (x ∷ es) = omega arith in
    let first = codes "h " ++ (decimal n ++ (codes " " ++ (entry_text x ++ codes "\n"))) in
    ap (λ (t : List ℕ). first ++ t) (entries-more (n + 1) es e)
    ∙ ap (λ (k : ℕ). first ++ (entry_lines (n + 1) es ++ (codes "h " ++ (decimal k ++ (codes " " ++ (entry_text e ++ codes "\n")))))) m
    ∙ sym (append_assoc first (entry_lines (n + 1) es) (codes "h " ++ (decimal (n + length (x ∷ es)) ++ (codes " " ++ (entry_text e ++ codes "\n")))))

-- the next entry of a list
pub entries-next : (t : ℕ) (es : List Entry) (i m : ℕ) (e : Entry) → i < length es → m ≡ t + (i + 1) → e ≡ get_or es i e
    → entry_lines (t + 1) (take (i + 1) es) ≡ entry_lines (t + 1) (take i es) ++ (codes "h " ++ (decimal m ++ (codes " " ++ (entry_text e ++ codes "\n"))))
entries-next t es i m e within number is =
    let more : take (i + 1) es ≡ take i es ++ e ∷ [] = take_more es i e within ∙ ap (λ (x : Entry). take i es ++ x ∷ []) (sym is) in
    let long : length (take i es) ≡ i = length-take-le i es (omega arith) in
    let same : t + 1 + length (take i es) ≡ m = omega arith in
    ap (entry_lines (t + 1)) more ∙ entries-more (t + 1) (take i es) e
    ∙ ap (λ (k : ℕ). entry_lines (t + 1) (take i es) ++ (codes "h " ++ (decimal k ++ (codes " " ++ (entry_text e ++ codes "\n"))))) same
