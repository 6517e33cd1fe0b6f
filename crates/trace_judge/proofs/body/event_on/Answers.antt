use Rattle.smp_script.proofs.Reader.FieldLists.{fields_short}
use Rattle.trace_judge.proofs.body.event_on.Goals as goal

pub read_event-requires : goal.read_event-requires
read_event-requires g c = rw c.as_slice.ensures.value (fields_short c.args.text.now _ c.requires c.in-Ok.ensures)
