use Rattle.std.proofs.Common.{◌≡◌, ◌++◌, string_bytes}
use Rattle.std.specs.List.{flat_map}
use Rattle.smp_queue.specs.Audit.{tally_at}
use Rattle.smp_run.specs.Text.{pair_text}
use Rattle.smp_run.proofs.text.write_row.Given as goal

abbrev pub invariant-loop-to : goal.invariant-loop-to
invariant-loop-to g l = string_bytes l.out ≡ string_bytes l.initial.out ++ flat_map (pair_text (tally_at l.tally.queued) l.source) l.yielded
