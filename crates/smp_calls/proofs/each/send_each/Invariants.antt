use Rattle.std.proofs.Common.{ℕ, List}
use Rattle.smp_calls.specs.Rounds.{Sends}
use Rattle.smp_calls.proofs.Passes.{Passed}
use Rattle.smp_calls.proofs.each.send_each.Given as goal

abbrev pub invariant-loop-cpu : goal.invariant-loop-cpu
invariant-loop-cpu g l = (xs : List ℕ) × Passed l.fn.owed l.cpu-iterator xs × Sends l.fn.me l.me xs
