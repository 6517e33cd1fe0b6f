use Rattle.std.proofs.Common.{◌≡◌, length}
use Rattle.std.specs.Vec.Iter.{into_iter_items}
use Rattle.smp_run.specs.Driven.{IsDriven}
use Rattle.smp_run.proofs.Joining.{Gathered}
use Rattle.smp_run.proofs.launch.gather_all.Given as goal

abbrev pub invariant-loop-played : goal.invariant-loop-played
invariant-loop-played g l =
    (length l.answers ≡ length l.lines)
    × Gathered (λ n b. IsDriven l.machine l.lines n b.handler.answers.items b.cpu) l.machine l.lines l.answers l.last (into_iter_items l.played-iterator)
