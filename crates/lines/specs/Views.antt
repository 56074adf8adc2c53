-- The code's events as those that lines say.
-- Assumes nothing.
use Rattle.std.specs.Option.{option_map}
use Rattle.codec.specs.Calls.{call_of}
use Rattle.lines.specs.Events as l
use Rattle.lines.specs.declared.scratch.Event.{Event}
use Rattle.lines.specs.declared.scratch.Event.TheVariants as e

abbrev pub event_of : Event → l.Event
event_of (e.Clock c) = l.Clock c.0
event_of (e.From j b) = l.From j b.now
event_of e.Beat = l.Beat
event_of e.Light = l.Light
event_of (e.Sync w) = l.Sync w.now
event_of (e.Asked k c) = l.Asked k.0 (option_map call_of c)
