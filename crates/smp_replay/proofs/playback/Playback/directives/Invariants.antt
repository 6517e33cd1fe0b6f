use Rattle.std.proofs.Common.{◌≡◌, ◌≤◌, ◌+◌, false, take, sum_by}
use Rattle.smp_script.specs.Script.{events_of}
use Rattle.smp_replay.specs.Output.{replay_after}
use Rattle.smp_replay.specs.ProgressOf.{progress_of}
use Rattle.smp_replay.proofs.playback.Playback.directives.Given as goal

abbrev pub invariant-loop-directive : goal.invariant-loop-directive
invariant-loop-directive g l = record {
  made : progress_of l.self false ≡ replay_after (progress_of l.initial.self false) (take l.directive-index l.directives);
  count : l.self.position ≤ l.initial.self.position + sum_by events_of (take l.directive-index l.directives);
}
