use mathlib.Core.List.{reverse}
use Rattle.smp_words.specs.Layout.{number_in}
use Rattle.smp_call_steps.specs.{nexts_in}
use Rattle.smp_call_steps.proofs.State.Chains.{Follows}
use Rattle.smp_call_steps.proofs.queue.chain.Given as goal

abbrev pub invariant-loop-round : goal.invariant-loop-round
invariant-loop-round l = Follows (nexts_in (number_in l.words)) l.first l.link (reverse l.passed.items) l._round
