use Rattle.std.proofs.Common.{◌≡◌, ◌≤◌, ◌+◌, false}
use Rattle.smp_replay.specs.Output.{steps_after}
use Rattle.smp_replay.specs.ProgressOf.{progress_of}
use Rattle.smp_replay.proofs.playback.Playback.steps.Given as goal

abbrev pub invariant-loop-step : goal.invariant-loop-step
invariant-loop-step g l = record {
  made : progress_of l.self false ≡ steps_after (progress_of l.initial.self false) l.cpu l._step;
  count : l.self.position ≤ l.initial.self.position + l._step;
}
