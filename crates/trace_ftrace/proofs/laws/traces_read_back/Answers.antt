use Rattle.std.proofs.Common.{refl}
use Rattle.smp_mask.specs.Mask.{members_below}
use Rattle.smp_mask.specs.Reading.{reaches_within, read_from}
use Rattle.trace_judge.specs.Head.{cpus_at, groups_of, head_of, is_next, labels_at, needed, past, titled, without_at}
use Rattle.trace_judge.specs.Judged.{event_on, used_after}
use Rattle.trace_judge.specs.Reading.{named_of}
use Rattle.trace_judge.specs.Runs.{told_by}
use Rattle.trace_ftrace.proofs.laws.traces_read_back.Goals as goal

pub returns : goal.returns
unfolding cpus_at event_on groups_of head_of is_next labels_at members_below named_of needed past reaches_within read_from titled told_by used_after
    without_at
returns c = refl
