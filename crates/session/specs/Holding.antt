-- A slot that holds something else.
use Rattle.std.specs.Prelude.{Option}
use Rattle.session.specs.declared.held.Held.{Held}
use Rattle.session.specs.declared.slot.Slot.{Slot}

abbrev pub holding : Slot → Option Held → Slot
holding s h = record { at = s.at; held = h }
