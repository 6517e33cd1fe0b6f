use Rattle.std.proofs.Common.{ℕ, true, List, length}
use Rattle.smp_calls.specs.Rounds.{WaitsFor}
use Rattle.smp_calls.specs.Turns.{LooksFor}
use Rattle.smp_calls.proofs.Passes.{Passed}
use Rattle.smp_calls.proofs.each.wait_each.Given as goal

abbrev pub invariant-loop-cpu : goal.invariant-loop-cpu
invariant-loop-cpu g l = (xs : List ℕ) × Passed l.fn.called l.cpu-iterator xs × WaitsFor g.H.Handler.leads l.fn.me l.fn.handler l.me l.handler xs true
    × LooksFor l.fn.me l.me (length xs)
