use Rattle.trace_judge.proofs.Texts.{texts_more, texts_none}
use Rattle.trace_judge.proofs.text.write_queues.Goals as goal

pub loop-cpu-init : goal.loop-cpu-init
loop-cpu-init g c = texts_none _ _
