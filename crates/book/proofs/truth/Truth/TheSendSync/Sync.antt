-- It owns nothing, so any thread may share it.
use denote.Param.Send.{IsSend, IsSync, sendable, part_keyless}
use Rattle.book.specs.contracts.truth.Truth.{the_row}

sent : IsSend the_row
sent = search sendable depth 12

pub sync : IsSync the_row
sync = record { shared = λ d b o κ q. part_keyless the_row sent q d b o }
