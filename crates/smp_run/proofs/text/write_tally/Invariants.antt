use Rattle.std.proofs.Common.{◌≡◌, ◌++◌, string_bytes}
use Rattle.std.specs.List.{flat_map}
use Rattle.smp_mask.specs.Mask.{members}
use Rattle.smp_queue.specs.Audit.{tally_at}
use Rattle.smp_run.specs.Text.{pair_text}
use Rattle.smp_run.proofs.text.write_tally.Given as goal

abbrev pub invariant-loop-source : goal.invariant-loop-source
invariant-loop-source g l = string_bytes l.out ≡ string_bytes l.initial.out ++ flat_map
    (λ source. flat_map (pair_text (tally_at l.tally.queued) source) (members l.online)) l.yielded
