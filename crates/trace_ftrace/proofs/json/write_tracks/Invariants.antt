use Rattle.std.proofs.Common.{◌≡◌, ◌++◌}
use Rattle.trace_ftrace.specs.Json.{tracks_text}
use Rattle.trace_ftrace.proofs.json.write_tracks.Given as goal

abbrev pub invariant-loop-cpu : goal.invariant-loop-cpu
invariant-loop-cpu g l = l.out.items ≡ l.initial.out.items ++ tracks_text l.cpu
