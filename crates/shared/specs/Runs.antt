-- What a job of a run asks for, and the reply to a call.
use Rattle.std.specs.Prelude.{Option, Some, None, Result, Ok, Err}
use Rattle.sealed.specs.declared.fault.Fault.{Fault}
use Rattle.sealed.specs.declared.fault.Fault.TheVariants.{JournalFull, TooLong}
use Rattle.history.specs.Step.{Operation, put, read, lose, repair, delete, stat}
use Rattle.book.specs.declared.answer.Answer.{Answer}
use Rattle.requests.specs.declared.jobs.Ask.{Ask}
use Rattle.requests.specs.declared.jobs.Ask.TheVariants.{Put, Read, Lose, Repair, Delete, Stat, Trim}
use Rattle.requests.specs.declared.jobs.Reply.{Reply}
use Rattle.requests.specs.declared.jobs.Reply.TheVariants.{Made, Refused}

-- the operation that is asked for. A trim is none
abbrev pub operation_asked : Ask → Option Operation
operation_asked (Put name code bytes) = Some (put name code bytes)
operation_asked (Read name start len) = Some (read name start len)
operation_asked (Lose name stripe f) = Some (lose name stripe f)
operation_asked (Repair name stripe f) = Some (repair name stripe f)
operation_asked (Delete name) = Some (delete name)
operation_asked (Stat name) = Some (stat name)
operation_asked (Trim keep) = None

-- the reply to a call, or the fault that stops the run
abbrev pub call_reply : Result Answer Fault → Result Reply Fault
call_reply (Ok answer) = Ok (Made answer)
call_reply (Err JournalFull) = Ok (Refused JournalFull)
call_reply (Err TooLong) = Ok (Refused TooLong)
call_reply (Err fault) = Err fault
