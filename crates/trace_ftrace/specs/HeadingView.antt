-- What a line tells, as that of the definitions.
use Rattle.std.specs.Prelude.{map}
use Rattle.trace_ftrace.specs.declared.heading.Heading.{Heading}
use Rattle.trace_ftrace.specs.Headings.{HeadingValue}

abbrev pub heading_value : Heading → HeadingValue
heading_value h = record { task = h.task; cpu = h.cpu; context = h.context; time = h.time; event = h.event.now; fields = map (λ f. f.now) h.fields.now }
