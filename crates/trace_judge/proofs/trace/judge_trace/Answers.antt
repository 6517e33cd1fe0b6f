use Rattle.smp_script.proofs.Transforms.{transformed}
use Rattle.trace_judge.proofs.trace.judge_trace.Goals as goal

pub returns-clause-judged : goal.returns-clause-judged
returns-clause-judged g c =
    transformed _ _ _ _ _ _ _ c.in_ok-text.ensures.ok _ _ (rw (← c.as_slice.ensures.value) c.ruled.ensures) c.write_made.ensures.writes
