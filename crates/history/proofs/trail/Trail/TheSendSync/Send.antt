-- A trail owns nothing, so it may go to any thread.
use denote.Param.Send.{IsSend, sendable}
use Rattle.history.specs.contracts.trail.Trail.{the_row}

pub send : IsSend the_row
send = search sendable depth 12
