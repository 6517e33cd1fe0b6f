use Rattle.trace_judge.proofs.Texts.{texts_more, texts_none}
use Rattle.trace_judge.proofs.text.write_stops.Goals as goal

pub loop-number-init : goal.loop-number-init
loop-number-init g c = texts_none _ _
