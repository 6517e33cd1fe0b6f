use Rattle.smp_script.proofs.Transforms.{transformed}
use Rattle.trace_events.proofs.script_trace.show_events.Goals as goal

pub returns-clause-traces : goal.returns-clause-traces
returns-clause-traces g c =
    transformed _ _ _ _ _ _ _ c.in_ok-text.ensures.ok _ _ (rw (← c.as_slice.ensures.value) c.traced.ensures) c.write_made.ensures.writes
