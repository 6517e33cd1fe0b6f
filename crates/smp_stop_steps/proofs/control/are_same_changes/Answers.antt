use Rattle.std.proofs.{Common.refl, Common.arith, lemmas.List.same_lists}
use Rattle.smp_stop_steps.proofs.control.are_same_changes.Goals as goal

pub returns : goal.returns
returns c = (λ _. same_lists c.args.one.now c.args.other.now (omega arith) (λ j d below. c.loop-i.invariant j d (omega arith)), λ _. refl)
