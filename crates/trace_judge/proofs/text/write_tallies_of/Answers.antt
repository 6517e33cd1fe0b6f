use Rattle.trace_judge.proofs.Texts.{texts_more, texts_none}
use Rattle.trace_judge.proofs.text.write_tallies_of.Goals as goal

pub loop-to-init : goal.loop-to-init
loop-to-init g c = texts_none _ _
