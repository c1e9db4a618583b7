-- What the inspection before a repair did.
use Rattle.std.specs.Prelude.{Option, None, Ok, Err}
use Rattle.history.specs.Step.{Operation}
use Rattle.book.specs.Serial.{Deed}
use Rattle.requests.specs.declared.inspection.Inspection.{Inspection}
use Rattle.requests.specs.declared.inspection.Inspection.TheVariants.{Done, Refused, Rebuildable}
use Rattle.shared.specs.Deeds.{deed_of}

-- the repair, or nothing
abbrev pub inspected : Operation → Inspection → Option Deed
inspected o (Done answer) = deed_of o (Ok answer)
inspected o (Refused fault) = deed_of o (Err fault)
inspected o (Rebuildable sealed) = None
