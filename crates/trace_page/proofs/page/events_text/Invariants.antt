use Rattle.std.proofs.Common.{◌≡◌, take, string_bytes}
use Rattle.std.specs.List.{flat_map}
use Rattle.trace_page.specs.TracePages.{event_line}
use Rattle.trace_page.proofs.page.events_text.Given as goal

abbrev pub invariant-loop-told : goal.invariant-loop-told
invariant-loop-told g l = string_bytes l.out ≡ flat_map event_line (take l.told-index l.events)
