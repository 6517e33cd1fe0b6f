-- What a replay answers.
use Rattle.std.specs.Prelude.{◌≡◌, ℕ, Option, List}
use Rattle.smp_mask.specs.declared.error.SmpError.{SmpError}
use Rattle.smp_core.specs.Value.{CoreValue}
use Rattle.smp_core.specs.Replay.{Replay, replay_from}
use Rattle.smp_words.specs.declared.seen.Seen.{Seen}
use Rattle.smp_words.specs.declared.command.Event.{Event}

abbrev pub replay_made : CoreValue → List Seen → Option (ℕ × SmpError) → Replay
replay_made core seen stopped = record { core = core; seen = seen; stopped = stopped }

-- the replay of these events from the old core
abbrev pub IsReplay : CoreValue → List Event → CoreValue → List Seen → Option (ℕ × SmpError) → Type 0
IsReplay old events new seen stopped = replay_made new seen stopped ≡ replay_from 0 old events
