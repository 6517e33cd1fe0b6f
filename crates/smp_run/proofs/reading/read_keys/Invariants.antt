use Rattle.std.proofs.Common.{◌≡◌, length}
use Rattle.smp_run.specs.Readings.{HasRead, keys_read}
use Rattle.smp_run.proofs.reading.read_keys.Given as goal

abbrev pub invariant-loop-k : goal.invariant-loop-k
invariant-loop-k g l = HasRead l.machine l.initial.me l.me (keys_read l.keys.items) × (length l.keys.items ≡ l.k)
