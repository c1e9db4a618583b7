-- The outcomes of the rows of a round.
use Rattle.std.specs.Prelude.{◌≡◌, List, [], ◌∷◌, ◌++◌, map, Result, Ok, Err, Vec}
use Rattle.std.specs.Global.{Global}
use Rattle.requests.specs.declared.jobs.RowReply.{RowReply}
use Rattle.requests.specs.declared.jobs.Stopped.{Stopped}
use Rattle.rounds.specs.declared.kinds.Called.{Called}
use Rattle.transcript.specs.declared.outcome.NumberedOutcome.{NumberedOutcome}
use Rattle.transcript.specs.declared.outcome.RowOutcome.TheVariants.{Replied}

-- the replies of a worker that ran to its end
abbrev pub AreAllOf : Result (Vec RowReply Global) Stopped → List RowReply → Type 0
AreAllOf (Ok replies) rs = rs ≡ replies.items
AreAllOf (Err stopped) rs = ⊥

abbrev pub AreRepliesOf : Called → List RowReply → Type 0
AreRepliesOf called rs = AreAllOf called.0 rs

-- each reply with its row's number
abbrev pub outcome_for : RowReply → NumberedOutcome
outcome_for r = record { number = r.row; outcome = Replied r.reply }

abbrev pub noted_outcomes : List RowReply → List NumberedOutcome
noted_outcomes replies = map outcome_for replies

-- the replies of all workers, one worker after the other, are appended to the earlier ones
abbrev pub AppendsReplies : List Called → List NumberedOutcome → List NumberedOutcome → Type 0
AppendsReplies [] old new = new ≡ old
AppendsReplies (o ∷ outcomes) old new =
    (replies : List RowReply) × AreRepliesOf o replies
    × AppendsReplies outcomes (old ++ noted_outcomes replies) new
