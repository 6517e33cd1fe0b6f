use Rattle.std.proofs.Common.{◌≡◌, ◌+◌, ◌*◌, List, length}
use Rattle.std.specs.List.{AllByRecursion}
use Rattle.smp_run.specs.Made.{Making, HasMade, IsMaking, stops_of}
use Rattle.smp_run.specs.Sent.{HasCalled, repeated, request_calls, request_direct}
use Rattle.smp_run.specs.Stays.{Stays}
use Rattle.smp_run.proofs.driver.repeat.Given as goal

abbrev pub invariant-loop-made : goal.invariant-loop-made
invariant-loop-made g l = let first = l.initial.seat in let this = first.cpu.calls.number in
    Stays first l.seat
    × ((makings : List Making) × (length makings + 1 ≡ l._made)
    × HasCalled (repeated (length makings) (request_calls first.machine.calls.online this l.request))
    (length makings * request_direct this l.request) first.cpu l.seat.cpu
    × AllByRecursion (IsMaking first.machine this l.request) makings × HasMade (stops_of makings) first.cpu l.seat.cpu)
