-- What is noted of replies, by the rows and the replies apart.
use Rattle.std.proofs.Common.{◌≡◌, ℕ, List, [], ◌∷◌, refl, ap}
use Rattle.requests.specs.declared.jobs.Reply.{Reply}
use Rattle.requests.specs.declared.jobs.RowReply.{RowReply}
use Rattle.shared.specs.Serving.{replies_in, rows_replied}
use Rattle.play.specs.Noted.{noted_outcomes, outcome_for}
use Rattle.transcript.specs.declared.outcome.NumberedOutcome.{NumberedOutcome}
use Rattle.transcript.specs.declared.outcome.RowOutcome.TheVariants.{Replied}

-- each reply with its number
abbrev pub number_replies : List ℕ → List Reply → List NumberedOutcome
number_replies [] replies = []
number_replies (n ∷ numbers) [] = []
number_replies (n ∷ numbers) (r ∷ replies) = record { number = n; outcome = Replied r } ∷ number_replies numbers replies

pub noted_apart : (replies : List RowReply) → noted_outcomes replies ≡ number_replies (rows_replied replies) (replies_in replies)
noted_apart [] = refl
noted_apart (r ∷ replies) = ap (λ l. outcome_for r ∷ l) (noted_apart replies)
