-- It owns nothing, so it may go to any thread.
use denote.Param.Send.{IsSend, sendable}
use Rattle.book.specs.contracts.truth.Truth.{the_row}

pub send : IsSend the_row
send = search sendable depth 12
