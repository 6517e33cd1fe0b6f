use Rattle.std.proofs.Common.{◌≡◌, ◌≢◌, length}
use Rattle.smp_run.specs.Answers.{Gathers}
use Rattle.smp_run.proofs.launch.gather.Given as goal

abbrev pub invariant-loop-at : goal.invariant-loop-at
invariant-loop-at l =
    (length l.answers ≡ length l.lines)
    × Gathers (λ c. c ≡ l.number) l.lines l.from l.answers l.at
    × Gathers (λ c. c ≢ l.number) l.lines l.initial.answers l.answers (length l.lines)
