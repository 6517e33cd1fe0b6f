-- A `Playback` of the program as the progress of a replay.
use Rattle.std.specs.Prelude.{Bool, string_bytes}
use Rattle.smp_replay.specs.Output.{Progress}
use Rattle.smp_replay.specs.declared.playback.Playback.{Playback}

abbrev pub progress_of : {A : Type 0} → Playback A → Bool → Progress
progress_of r stopped = record { core = r.core; position = r.position; text = string_bytes r.text; stopped = stopped }
