use Rattle.std.proofs.Common.{◌≡◌, ◌<◌}
use Rattle.load.specs.Verdicts.{sent_below}
use Rattle.load.proofs.torture.verdict.queued_for.Given as goal

abbrev pub invariant-loop-func : goal.invariant-loop-func
invariant-loop-func l = l.target < 32 → l.count ≡ sent_below l.report l.target l.func
