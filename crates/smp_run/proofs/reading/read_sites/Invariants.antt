use Rattle.std.proofs.Common.{◌≡◌, length, ◌<◌}
use Rattle.smp_multi.specs.Reads.{ReadsOneTable}
use Rattle.smp_run.specs.Readings.{HasRead, sites_read}
use Rattle.smp_run.proofs.reading.read_sites.Given as goal

abbrev pub invariant-loop-i : goal.invariant-loop-i
invariant-loop-i g l = HasRead l.machine l.initial.me l.me (sites_read l.sites.items) × (length l.sites.items ≡ l.i) × (0 < l.i → ReadsOneTable l.me.stops)
