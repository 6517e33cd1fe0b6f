use Rattle.std.proofs.Common.{◌≡◌, ◌<◌, ℕ, [], slice_index_or}
use Rattle.load.specs.Verdicts.{queued_for}
use Rattle.load.proofs.torture.verdict.is_tallied_by.Given as goal

abbrev pub invariant-loop-target : goal.invariant-loop-target
invariant-loop-target l = (t : ℕ) → t < l.target → slice_index_or (slice_index_or l.tally.queued l.report.number []) t 0 ≡ queued_for l.report t
