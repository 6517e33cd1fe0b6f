use Rattle.smp_words.specs.Layout.{number_in}
use Rattle.smp_call_steps.specs.{nexts_in}
use Rattle.smp_call_steps.proofs.State.Chains.{Seeks}
use Rattle.smp_call_steps.proofs.queue.is_on_chain.Given as goal

abbrev pub invariant-loop-round : goal.invariant-loop-round
invariant-loop-round l = Seeks (nexts_in (number_in l.words)) l.first l.link l.id l._round
