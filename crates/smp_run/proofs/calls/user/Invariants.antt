use Rattle.std.proofs.Common.{[]}
use Rattle.smp_run.specs.Made.{HasMade}
use Rattle.smp_run.specs.Sent.{HasCalled}
use Rattle.smp_run.specs.Stays.{Stays}
use Rattle.smp_run.proofs.calls.user.Given as goal

abbrev pub invariant-loop : goal.invariant-loop
invariant-loop g l =
    Stays l.initial.seat l.seat × HasCalled [] 0 l.initial.seat.cpu l.seat.cpu × HasMade [] l.initial.seat.cpu l.seat.cpu
