use Rattle.std.proofs.Common.{◌≡◌, take}
use Rattle.load.specs.Kinds.{index_of}
use Rattle.load.specs.Verdicts.{all_answers}
use Rattle.load.proofs.torture.verdict.answers_of.Given as goal

abbrev pub invariant-loop-report : goal.invariant-loop-report
invariant-loop-report l = l.all ≡ all_answers (index_of l.kind) (take l.report-index l.reports)
