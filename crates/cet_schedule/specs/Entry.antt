-- What the reader makes of a line.
use Rattle.std.specs.Prelude.{List, [], replicate}
use Rattle.cet_process.specs.declared.event.Event.{Event}
use Rattle.cet_schedule.specs.declared.line.Entry.{Entry}
use Rattle.cet_schedule.specs.declared.line.Entry.TheVariants.{Nothing, Events}

-- its events
abbrev pub events_in : Entry → List Event
events_in Nothing = []
events_in (Events count event) = replicate count event
